-- `read_at` meets its contract.
use mathlib.Core.Path.{◌∙◌, ap}
use native.Mathlib.Omega.{arith}
use Rattle.machine.specs.Limits.{line_length}
use Rattle.machine.specs.Line.{line_meaning}
use Rattle.line.proofs.Meaning.{means}
use Rattle.line.proofs.Parts.{part_is}
use Rattle.machine.proofs.TextInput.{few_left}
use Rattle.line.proofs.read_at.Goals as goal

pub returns-then-input-at : goal.returns-then-input-at
returns-then-input-at c = means _ _ (few_left c.args.input.now c.args.at (omega arith))

pub returns-then-input-at-lt-LINE : goal.returns-then-input-at-lt-LINE
returns-then-input-at-lt-LINE c = means _ _ (few_left c.args.input.now c.args.at (omega arith))

pub returns : goal.returns
returns c =
    let start = c in
    c.read.ensures ∙ ap line_meaning (part_is start.args.at line_length start.args.input.now)
