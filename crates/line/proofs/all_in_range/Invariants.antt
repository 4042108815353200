-- `all_in_range` meets its contract. The loop: the numbers from i on are in range as all are.
use Rattle.machine.specs.Line.{number_list, all_in_range}
use mathlib.Core.Path.{◌≡◌}
use lib.ListN.{drop}
use Rattle.line.proofs.all_in_range.Given as goal

abbrev pub invariant-loop-i : goal.invariant-loop-i
invariant-loop-i l = all_in_range (drop l.i (number_list l.n)) ≡ all_in_range (number_list l.n)
