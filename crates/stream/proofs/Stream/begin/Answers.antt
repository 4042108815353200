use Rattle.machine.specs.Line.{lines}
use Rattle.machine.specs.Table.{table_of}
use Rattle.stream.proofs.Stream.begin.Goals as goal

pub returns : goal.returns
unfolding lines table_of
returns c = rw c.open-r.ensures
