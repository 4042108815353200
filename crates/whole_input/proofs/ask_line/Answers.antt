use mathlib.Core.Path.{ap, ◌∙◌}
use Rattle.machine.specs.Line.{written_at}
use Rattle.line.proofs.Meaning.{reads}
use Rattle.whole_input.proofs.Waiting.{waiting_line}
use Rattle.whole_input.proofs.ask_line.Goals as goal

pub returns : goal.returns
returns c =
    let a = c.args in
    let read = c.read_at in
    let line = waiting_line a.e.inner.table read.result _ (reads read.result _ read.ensures) _ c.waiting_of-w.ensures in
    c.write_at.ensures.1 ∙ rw c.waiting_numbers.ensures (ap (written_at a.to a.out.now) line)
