-- `digits` meets its contract. The loop: what is left to read after v gives the whole; v has at most as many digits as were read.
use mathlib.Core.Path.{◌∙◌, sym}
use native.Mathlib.Omega.{arith}
use Rattle.line.proofs.Scan.{no_digit, digit_read, digits_end, digits_bound, digits_fit}
use Rattle.line.proofs.digits.Goals as goal

pub returns-then-not-is_ascii_digit : goal.returns-then-not-is_ascii_digit
returns-then-not-is_ascii_digit c = no_digit c.args.s.now _ _ _ c.loop-b.invariant.1 (omega arith) (sym c.is_ascii_digit.ensures.value ∙ c.if-not-is_ascii_digit.true)

pub overflow_mul-v : goal.overflow_mul-v
overflow_mul-v c = omega (arith, digits_fit _ _ (omega arith) c.loop-b.invariant.0)

pub overflow_add-v : goal.overflow_add-v
overflow_add-v c = omega (arith, digits_fit _ _ (omega arith) c.loop-b.invariant.0)

pub loop-b-preserved : goal.loop-b-preserved
loop-b-preserved c = (
  digits_bound _ _ _ (omega (arith, c.if-not-is_ascii_digit.ensures.cases)) c.loop-b.invariant.0,
  digit_read c.args.s.now _ _ _ c.loop-b.invariant.1 (omega arith) (sym c.is_ascii_digit.ensures.value ∙ c.if-not-is_ascii_digit.false),
)

pub overflow_cast-result : goal.overflow_cast-result
overflow_cast-result c = omega (arith, digits_fit _ _ (omega arith) c.loop-b.invariant.0)

pub returns : goal.returns
returns c = digits_end c.args.s.now _ _ _ c.loop-b.invariant.1 (omega arith) (digits_fit _ _ (omega arith) c.loop-b.invariant.0)
