-- Worked fields and lines.
use Prim.Native.Nat.{ℕ, ◌-◌}
use mathlib.Core.Path.{◌≡◌, refl}
use mathlib.Core.List.{List, [], ◌∷◌, ◌++◌, map}
use Rattle.std.specs.Prelude.{None, Some}
use lib.ListN.{length, replicate}
use lib.IntN.{pos, negsuc}
use Rattle.machine.specs.Line.{line_feed, space, minus, field_width, in_range, column, mark_after, columns, number_text, field_text, same_bytes, spelled, candidate, read_field, lines}

-- these bytes at the right of a field
abbrev right : List ℕ → List ℕ
right bs = replicate (field_width - length bs) space ++ bs

-- 8, 0, -1, 999999999
pub fields : List (List ℕ)
fields = right (56 ∷ []) ∷ right (48 ∷ []) ∷ right (minus ∷ 49 ∷ []) ∷ right (replicate 9 57) ∷ []

pub good_fields : map read_field fields ≡ Some (pos 8) ∷ Some (pos 0) ∷ Some (negsuc 0) ∷ Some (pos 999999999) ∷ []
unfolding fields read_field candidate in_range same_bytes spelled field_text number_text columns column mark_after
good_fields = refl

-- ten spaces, "-", "- 1", "-01", "00", "+1", "-0", "-2", "1 ", ten digits, a tab, CR, NUL, a byte that is no ASCII
pub refused : List (List ℕ)
refused =
    right []
    ∷ right (minus ∷ [])
    ∷ right (minus ∷ space ∷ 49 ∷ [])
    ∷ right (minus ∷ 48 ∷ 49 ∷ [])
    ∷ right (48 ∷ 48 ∷ [])
    ∷ right (43 ∷ 49 ∷ [])
    ∷ right (minus ∷ 48 ∷ [])
    ∷ right (minus ∷ 50 ∷ [])
    ∷ right (49 ∷ space ∷ [])
    ∷ right (49 ∷ replicate 9 48)
    ∷ right (9 ∷ 49 ∷ [])
    ∷ right (13 ∷ [])
    ∷ right (0 ∷ [])
    ∷ right (200 ∷ [])
    ∷ []

pub refused_fields : map read_field refused ≡ replicate (length refused) None
unfolding refused read_field candidate in_range same_bytes spelled field_text number_text columns column mark_after
refused_fields = refl

-- an LF alone is a line, and so are bytes after the last LF; nothing after it is none
pub cut_lines : lines (49 ∷ line_feed ∷ line_feed ∷ 50 ∷ []) ≡ (49 ∷ line_feed ∷ []) ∷ (line_feed ∷ []) ∷ (50 ∷ []) ∷ []
unfolding lines
cut_lines = refl

pub last_feed : lines (49 ∷ line_feed ∷ []) ≡ (49 ∷ line_feed ∷ []) ∷ []
unfolding lines
last_feed = refl
