use Rattle.windows.specs.Sought.{sought}
use Rattle.windows.proofs.Laws.{Searched}
use Rattle.windows.proofs.next_start.Given as goal

abbrev pub invariant-loop-w : goal.invariant-loop-w
invariant-loop-w l = Searched l.fn.table l.t (sought l.which) l.w-items l.later l.w-index
