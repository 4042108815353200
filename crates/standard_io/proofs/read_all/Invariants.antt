-- So many reads are made, and reading goes on; what was read is fed and told.
use Rattle.stream.specs.Stream.{begun}
use Rattle.standard_io.specs.StandardIo.{Carried}
use Rattle.standard_io.proofs.Laws.{Reading}
use Rattle.standard_io.proofs.read_all.Given as goal

abbrev pub invariant-loop-turn : goal.invariant-loop-turn
invariant-loop-turn g l = record {
  reading : Reading l.prints l.initial.input l.initial.out l.t l.input l.out l.turn;
  carried : Carried l.prints (g.R.Read.remaining l.initial.from) (g.R.Read.remaining l.from) (g.W.Write.contents l.initial.to) (g.W.Write.contents l.to) begun l.t;
}
