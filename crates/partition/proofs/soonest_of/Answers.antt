use mathlib.Core.Path.{sym, ◌∙◌}
use native.Mathlib.Omega.{arith}
use Rattle.partition.proofs.Soonest.{soonest_done, soonest_down}
use Rattle.partition.proofs.soonest_of.Goals as goal

pub loop-k-init : goal.loop-k-init
loop-k-init c = sym (soonest_done _ _ _ (omega arith))

pub loop-k-preserved : goal.loop-k-preserved
loop-k-preserved c =
    let p = c.args.p in
    c.soonest_with-s.ensures ∙ soonest_down p.process_count c.loop-k.k c.loop-k.s p c.record_in.result (omega arith) (omega arith) c.record_in.ensures c.loop-k.invariant
