-- Each digit goes straight into its column: the bytes of a written line, each by its place.
use Rattle.std.specs.Prelude.{ℕ, zero, suc, ◌+◌, ◌-◌, ◌*◌, ◌/◌, ◌%◌, ◌^◌, cond, ◌&&◌, List, length, get_or, drop, leb, ltb, ℤ, pos, negsuc}
use Rattle.machine.specs.Line.{line_feed, space, minus, base, field_width, last_digit, can_write}

-- the byte so many columns left of a field's last: the last digit, the digit worth ten to that power, spaces left of the first digit; below 0 there
-- is −1 alone
unfoldable pub column_byte : ℤ → ℕ → ℕ
column_byte (pos n) zero = last_digit n
column_byte (pos n) (suc k) = cond (leb (base ^ suc k) n) (last_digit (n / base ^ suc k)) space
column_byte (negsuc n) zero = last_digit 1
column_byte (negsuc n) (suc zero) = minus
column_byte (negsuc n) (suc (suc k)) = space

-- fields of ten columns one after another, then LF
abbrev pub line_byte : List ℤ → ℕ → ℕ
line_byte ns place =
    cond (ltb place (length ns * field_width)) (column_byte (get_or ns (place / field_width) (pos 0)) (field_width - 1 - place % field_width)) line_feed

-- the output after: the line's bytes, and all others as they were; where the line is refused, every byte as it was
abbrev pub written_byte : List ℕ → List ℤ → ℕ → ℕ
written_byte out ns place = cond (can_write (length out) ns && ltb place (length ns * field_width + 1)) (line_byte ns place) (get_or out place 0)

-- an answer line goes into the middle of the output: what lies before is as it was
abbrev pub written_at_byte : ℕ → List ℕ → List ℤ → ℕ → ℕ
written_at_byte at out ns place = cond (ltb place at) (get_or out place 0) (written_byte (drop at out) ns (place - at))
