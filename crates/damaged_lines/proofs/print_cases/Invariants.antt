-- Every case that is found ends further on.
use Rattle.std.proofs.Common.{◌-◌, length}
use Rattle.damaged_lines.proofs.print_cases.Given as goal

abbrev pub decreases-loop-at : goal.decreases-loop-at
decreases-loop-at g l = length l.input - l.at
