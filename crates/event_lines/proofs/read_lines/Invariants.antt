use Rattle.event_lines.proofs.Blocks.{Reading}
use Rattle.event_lines.proofs.read_lines.Given as goal

abbrev pub invariant-loop-n : goal.invariant-loop-n
invariant-loop-n l = Reading l.text l.from l.limit l.initial.list l.list l.at l.n
