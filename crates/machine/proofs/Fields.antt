-- What the tests of a field settle. Assumes nothing.
use Prim.Native.Nat.{ℕ, ◌≤◌}
use mathlib.Core.Path.{◌≡◌, sym}
use mathlib.Core.Bool.{true, true≢false}
use lib.Dec.{leb, eqb}
use borrow.Author.Tests.{leb-true}
use Rattle.machine.specs.declared.Field.{Field}
use Rattle.machine.specs.declared.Field.TheVariants.{Number, MinusOne, Other}
use Rattle.machine.specs.Fields.{is_number, between, number_of}
use Rattle.machine.proofs.Tests.{and_left, and_right}

pub in_limits : (low high : ℕ) (f : Field) → between low high f ≡ true → (low ≤ number_of f) × (number_of f ≤ high)
in_limits low high (Number n) q = (leb-true low n (and_left (leb low n) (leb n high) q), leb-true n high (and_right (leb low n) (leb n high) q))
in_limits low high MinusOne q = absurd (true≢false (sym q))
in_limits low high Other q = absurd (true≢false (sym q))

-- a field within limits that names 0 is the number 0
pub between_zero : (high : ℕ) (f : Field) → between 0 high f ≡ true → eqb (number_of f) 0 ≡ true → is_number 0 f ≡ true
between_zero high (Number n) h q = q
between_zero high MinusOne h q = absurd (true≢false (sym h))
between_zero high Other h q = absurd (true≢false (sym h))
