use mathlib.Core.Path.{◌≡◌, ap, sym, ◌∙◌}
use native.Mathlib.Omega.{arith}
use Prim.Native.Nat.{◌<◌}
use lib.ListN.{length, drop, length-take, length-drop}
use borrow.Author.Rules.{rules}
use Rattle.machine.specs.Limits.{message_limit}
use Rattle.machine.specs.Messages.{held, queue_of, taken}
use Rattle.messages.proofs.Laws.{rest_more, rest_whole, rest_of, rest_none}
use Rattle.messages.proofs.take_first.Goals as goal

pub loop-m-preserved : goal.loop-m-preserved
loop-m-preserved c =
    let l = c.loop-m in
    let q = c.args.q in
    let full : length q.items ≡ message_limit = search rules in
    let e : c.in-Some.later.now ≡ drop 1 (held q) = rest_of (held q) c.in-Some.ensures.cases.0 c.held.ensures in
    let low : l.m-index < message_limit = omega (arith, ap length e, length-drop 1 (held q), length-take q.len q.items) in
    rw (c.put-rest.ensures, l.invariant) (rest_more c.in-Some.later.now l.m-index (omega arith) low)

pub returns-after-loop-m : goal.returns-after-loop-m
unfolding taken
returns-after-loop-m c = c.loop-m.invariant ∙ ap queue_of (rest_whole c.in-Some.later.now c.loop-m.m-index (omega arith) ∙ rest_of (held c.args.q) c.in-Some.ensures.cases.0 c.held.ensures)

pub returns-in_default : goal.returns-in_default
unfolding taken
returns-in_default c = c.empty-rest.ensures ∙ ap queue_of (rest_none (held c.args.q) (sym (ap length c.held.ensures) ∙ c.in_default.ensures.cases))
