use Rattle.batch.proofs.Runs.{Kept}
use Rattle.batch.proofs.run.Given as goal

abbrev pub invariant-loop-x : goal.invariant-loop-x
invariant-loop-x l = Kept l.fn.m l.initial.list l.x-index l.executive l.list
