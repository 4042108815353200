-- Where a record lies.
use Rattle.std.specs.Prelude.{ℕ, ◌-◌, min, cond, eqb}

-- the place of an id in an array of this length, or past the last
abbrev pub slot_of : ℕ → ℕ → ℕ
slot_of limit id = cond (eqb id 0) limit (id - 1)

-- an id as a list of ids and a number of records hold it: in a byte, 255 at most
abbrev pub in_byte : ℕ → ℕ
in_byte id = min id 255
