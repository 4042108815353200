-- `count_lines` meets its contract. The loop: the lines counted and those from `at` on are all lines.
use Prim.Native.Nat.{◌-◌}
use lib.ListN.{length}
use Rattle.whole_input.proofs.Laws.{Counting}
use Rattle.whole_input.proofs.count_lines.Given as goal

abbrev pub invariant-loop-at : goal.invariant-loop-at
invariant-loop-at l = Counting l.input l.from l.n l.at

abbrev pub decreases-loop-at : goal.decreases-loop-at
decreases-loop-at l = length l.input - l.at
