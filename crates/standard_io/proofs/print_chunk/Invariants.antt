-- What is left of the chunk is still to be taken; what the rest printed is written, and where nothing is to be printed nothing fails.
use Rattle.std.proofs.Common.{◌-◌, length}
use Rattle.standard_io.specs.StandardIo.{Quiet}
use Rattle.standard_io.proofs.Laws.{Taking}
use Rattle.standard_io.proofs.KnownBytes.{Telling}
use Rattle.standard_io.proofs.print_chunk.Given as goal

abbrev pub invariant-loop-at : goal.invariant-loop-at
invariant-loop-at g l = record {
  taking : Taking l.fn.s l.chunk l.fn.out l.stream l.at l.out;
  quiet : Quiet l.prints l.written;
  telling : Telling l.prints (g.W.Write.contents l.initial.to) (g.W.Write.contents l.to) l.fn.s l.chunk l.stream l.at l.written;
}

abbrev pub decreases-loop-at : goal.decreases-loop-at
decreases-loop-at g l = length l.chunk - l.at
