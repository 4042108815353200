-- `put_field` meets its contract.
use mathlib.Core.Path.{ap, ◌∙◌}
use lib.Seq.{sets}
use Rattle.line.proofs.Signed.{minus_one_text, magnitude_fits, magnitude_text}
use Rattle.line.proofs.put_field.Goals as goal

pub overflow_cast-x : goal.overflow_cast-x
overflow_cast-x c =
    let start = c in
    magnitude_fits _ start.ranges.x start.requires.2 c.if-x-eqminus1.false

pub returns-then-x-eqminus1 : goal.returns-then-x-eqminus1
returns-then-x-eqminus1 c =
    let start = c in
    let if1 = c.if-x-eqminus1 in
    c.put_digit.ensures ∙ ap (sets _ _) (minus_one_text _ start.ranges.x if1.true)

pub returns-else-x-eqminus1 : goal.returns-else-x-eqminus1
returns-else-x-eqminus1 c =
    let start = c in
    let if1 = c.if-x-eqminus1 in
    c.put_magnitude.ensures ∙ ap (sets _ _) (magnitude_text _ start.ranges.x start.requires.2 if1.false)
