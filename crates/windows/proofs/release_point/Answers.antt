use Rattle.machine.specs.Windows.{release_after, release_point}
use Rattle.windows.proofs.release_point.Goals as goal

pub returns : goal.returns
unfolding release_point release_after
returns c = rw (c.capped_time.ensures, c.from.ensures, c.from-2.ensures, c.next_start-ahead.ensures)
