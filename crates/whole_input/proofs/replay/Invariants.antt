-- `replay` meets its contract. The loop: what is printed and the answers to the lines from `at` on are the whole text; past what is
-- printed the output is as it was.
use Prim.Native.Nat.{◌-◌}
use lib.ListN.{length}
use Rattle.whole_input.proofs.Laws.{Replaying}
use Rattle.whole_input.proofs.replay.Given as goal

abbrev pub invariant-loop-at : goal.invariant-loop-at
invariant-loop-at l = Replaying l.input l.initial.out l.executive.inner l.at l.to l.out

abbrev pub decreases-loop-at : goal.decreases-loop-at
decreases-loop-at l = length l.input - l.at
