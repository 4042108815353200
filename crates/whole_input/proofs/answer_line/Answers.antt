-- `answer_line` meets its contract.
use mathlib.Core.Path.{◌≡◌, ◌∙◌}
use Rattle.machine.specs.Line.{read_at}
use Rattle.line.proofs.Meaning.{reads}
use Rattle.whole_input.proofs.answer_line.Goals as goal

pub returns : goal.returns
returns c =
    let got = c.read_at in
    let step_line = c.step_line-h in
    let start = c in
    let l : got.result ≡ read_at start.args.input.now start.args.at = reads _ _ got.ensures in
    let numbers = c.from in (
      rw (step_line.ensures, l),
      c.write_at.ensures.1 ∙ rw (numbers.ensures, step_line.ensures, l),
    )
