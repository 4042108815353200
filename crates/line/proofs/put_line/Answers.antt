-- `put_line` meets its contract.
use mathlib.Core.Path.{refl, ◌∙◌}
use native.Mathlib.Omega.{arith}
use Rattle.machine.specs.Line.{field_count, number_list, line_text}
use Rattle.machine.proofs.TextLine.{six_length}
use Rattle.line.proofs.Writing.{feed_stored}
use Rattle.line.proofs.put_line.Goals as goal

pub returns : goal.returns
returns c =
    let n = c.args.n in
    feed_stored (number_list n) field_count _ _ refl (c.put_next-6.ensures.3 ∙ c.put_next-5.ensures.3 ∙ c.put_next-4.ensures.3 ∙ c.put_next-3.ensures.3 ∙ c.put_next-2.ensures.3 ∙ c.put_next.ensures.3)
    ∙ c.put_spaces.ensures.2 (line_text (number_list n)) (omega (arith, six_length n))
