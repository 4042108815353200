use Prim.Native.Nat.{◌<◌}
use mathlib.Core.Path.{◌≡◌, ap, sym, ◌∙◌}
use mathlib.Core.Bool.{true, false}
use native.Mathlib.Omega.{arith}
use lib.ListN.{length}
use Rattle.machine.specs.Limits.{process_limit}
use Rattle.machine.specs.Ids.{ids_of}
use Rattle.machine.proofs.Lists.{kept_none, length_members}
use Rattle.lists.proofs.Laws.{kept_in, kept_out}
use Rattle.partition.proofs.keep.Goals as goal
use Rattle.partition.proofs.keep.Goals.{then-test, else-test}
use borrow.Author.Rules.{rules}

pub loop-id-init : goal.loop-id-init
loop-id-init g c = λ f e. ap ids_of (sym (kept_none f))

pub loop-id-preserved : goal.loop-id-preserved
loop-id-preserved g c = λ f e.
    let l = c.loop-id in
    let items = c.held-id-items.result.now in
    let h : l.id-index < length items = omega arith in
    let full : length c.args.q.items ≡ process_limit = search rules in
    let s : l.id-index < process_limit = omega (arith, ap length c.held-id-items.ensures, length_members c.args.q full) in
    elim c.if-test.branch [
      | then-test w ↦ w.found-is ∙ kept_in f items l.id-index l.found h s (l.invariant f e) _ _ (e _ true w.if-test.ensures) w.join_last.ensures.items w.join_last.ensures.len
      | else-test w ↦ w.found-is ∙ kept_out f items l.id-index l.found h s (l.invariant f e) (e _ false w.if-test.ensures)
    ]
