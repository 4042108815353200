-- A field's columns, read once from the left.
use Rattle.std.specs.Prelude.{ℕ, ◌+◌, ◌-◌, ◌*◌, cond, ◌&&◌, List, [], ◌∷◌, leb, eqb, ℤ, pos, negsuc, Option, None, Some}
use Rattle.machine.specs.Line.{space, minus, zero_digit, base, last_digit, same_bytes}

-- digits to the field's end, after the number so far
unfoldable pub digits_from : List ℕ → ℕ → Option ℤ
digits_from [] v = Some (pos v)
digits_from (b ∷ bs) v = cond (leb zero_digit b && leb b (last_digit 9)) (digits_from bs (v * base + (b - zero_digit))) None

-- a number where just these bytes are left
unfoldable pub only : List ℕ → ℤ → List ℕ → Option ℤ
only bs z l = cond (same_bytes l bs) (Some z) None

-- from the first byte that is no space on: -1, a 0 alone, or digits of which the first is no 0
unfoldable pub number_from : List ℕ → Option ℤ
number_from [] = None
number_from (b ∷ bs) =
    cond (eqb b minus) (only (last_digit 1 ∷ []) (negsuc 0) bs) (cond (eqb b zero_digit) (only [] (pos 0) bs) (digits_from (b ∷ bs) 0))

-- past the spaces
unfoldable pub first_from : List ℕ → Option ℤ
first_from [] = None
first_from (b ∷ bs) = cond (eqb b space) (first_from bs) (number_from (b ∷ bs))

-- a number in range leaves the first column
unfoldable pub scanned : List ℕ → Option ℤ
scanned [] = None
scanned (b ∷ bs) = cond (eqb b space) (first_from bs) None
