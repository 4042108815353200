-- `number_from` meets its contract.
use mathlib.Core.Path.{◌∙◌}
use native.Mathlib.Omega.{arith}
use Rattle.line.proofs.Scan.{minus_far, minus_other, minus_one_holds, digits_at, zero_leads, zero_alone}
use Rattle.line.proofs.number_from.Goals as goal
use Rattle.line.proofs.number_from.Goals.{else-s-eq2-via-then-s-eq2+else-s-eq49, else-s-eq2-via-else-s-eq2}

pub returns-then-s-eq49 : goal.returns-then-s-eq49
returns-then-s-eq49 c = minus_one_holds c.args.s.now c.requires.0 c.in-45.is c.if-s-eq2.true c.if-s-eq49.true

pub returns-else-s-eq2 : goal.returns-else-s-eq2
returns-else-s-eq2 c = elim c.else-s-eq2.branch [
  | else-s-eq2-via-then-s-eq2+else-s-eq49 w ↦ minus_other c.args.s.now c.requires.0 c.in-45.is w.if-s-eq2.true w.if-s-eq49.false
  | else-s-eq2-via-else-s-eq2 w ↦ minus_far c.args.s.now c.requires.0 c.in-45.is w.if-s-eq2.false
]

pub returns-then-s-eq1 : goal.returns-then-s-eq1
returns-then-s-eq1 c = zero_alone c.args.s.now c.requires.0 c.in-48.is c.if-s-eq1.true

pub returns-else-s-eq1 : goal.returns-else-s-eq1
returns-else-s-eq1 c = zero_leads c.args.s.now c.requires.0 c.in-48.is c.if-s-eq1.false

pub returns-in_default : goal.returns-in_default
returns-in_default c = c.digits.ensures ∙ digits_at c.args.s.now c.requires.0 (λ e. omega arith) (λ e. omega arith)
