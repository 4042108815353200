use mathlib.Core.Path.{sym, ap, ◌∙◌}
use native.Mathlib.Omega.{arith}
use Rattle.machine.specs.Partition.{changed_all}
use Rattle.partition.specs.Waits.{served_with}
use Rattle.partition.proofs.Laws.{changed_more, changed_done}
use Rattle.partition.proofs.end_waits.Goals as goal

pub loop-id-preserved : goal.loop-id-preserved
loop-id-preserved c =
    let a = c.args in
    let l = c.loop-id in
    rw c.end_wait-q.ensures (sym (changed_more (served_with a.hands a.m) c.held-id-items.result.now l.id-index l.q (omega arith)) ∙ l.invariant)

pub returns : goal.returns
returns c =
    let a = c.args in
    let l = c.loop-id in
    sym (changed_done (served_with a.hands a.m) c.held-id-items.result.now l.id-index l.q (omega arith)) ∙ l.invariant
    ∙ ap (λ l. changed_all (served_with a.hands a.m) l a.p) c.held-id-items.ensures
