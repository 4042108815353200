-- `field` meets its contract.
use mathlib.Core.Path.{◌∙◌, ap}
use Rattle.line.specs.Scan.{digits_from, number_from}
use Rattle.line.proofs.Parts.{tail_is}
use Rattle.line.proofs.Scan.{other_first, space_first, last_alone}
use Rattle.line.proofs.field.Goals as goal

pub returns-then-s-ne32 : goal.returns-then-s-ne32
returns-then-s-ne32 c = other_first c.args.s.now c.requires c.if-s-ne32.true

pub returns-then-is_last : goal.returns-then-is_last
returns-then-is_last c = c.digits.ensures ∙ ap (λ l. digits_from l 0) (tail_is 9 c.args.s.now) ∙ last_alone c.args.s.now c.requires ∙ c.is_last.ensures c.if-is_last.true ∙ space_first c.args.s.now c.requires c.if-s-ne32.false

pub returns : goal.returns
returns c = c.number_from.ensures ∙ ap number_from (tail_is c.first.result c.args.s.now) ∙ c.first.ensures.1 ∙ space_first c.args.s.now c.requires c.if-s-ne32.false
