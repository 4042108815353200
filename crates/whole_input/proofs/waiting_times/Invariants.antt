use Prim.Native.Nat.{◌-◌}
use lib.ListN.{length}
use Rattle.whole_input.proofs.Waiting.{Asking}
use Rattle.whole_input.proofs.waiting_times.Given as goal

abbrev pub invariant-loop-at : goal.invariant-loop-at
invariant-loop-at l = Asking l.input l.initial.out l.executive.inner.table l.at l.to l.out

abbrev pub decreases-loop-at : goal.decreases-loop-at
decreases-loop-at l = length l.input - l.at
