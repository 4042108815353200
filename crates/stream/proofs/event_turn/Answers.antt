use mathlib.Core.Path.{◌≡◌}
use Rattle.machine.specs.Line.{read_line}
use Rattle.line.proofs.Meaning.{reads}
use Rattle.stream.proofs.event_turn.Goals as goal

pub returns : goal.returns
returns c =
    let read = c.read in
    let start = c in
    let l : read.result ≡ read_line start.args.text.now = reads _ _ read.ensures in
    rw (c.from.ensures, c.step_line-h.ensures, l)
