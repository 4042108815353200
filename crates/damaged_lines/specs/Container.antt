-- The container of the cases: for each a header line, NAME BYTES, then that many bytes.
use Rattle.std.specs.Prelude.{ℕ, suc, ◌+◌, ◌-◌, ◌*◌, min, cond, ◌&&◌, List, [], ◌∷◌, length, take, drop, eqb, ltb, leb, Option, None, Some}
use Rattle.machine.specs.Line.{line_feed, space, zero_digit, base}
use Rattle.damaged_lines.specs.declared.Case.{Case}

-- how many bytes stand before the first b
unfoldable pub bytes_before : ℕ → List ℕ → ℕ
bytes_before b [] = 0
bytes_before b (x ∷ l) = cond (eqb x b) 0 (suc (bytes_before b l))

-- where the first b from a position on stands, or the end
abbrev pub place_of : ℕ → List ℕ → ℕ → ℕ
place_of b input at = at + bytes_before b (drop at input)

-- no case is longer
abbrev pub longest : ℕ
longest = 1000000

-- the number that bytes spell after the number so far, as far as it matters
unfoldable pub size_of : List ℕ → ℕ → ℕ
size_of [] v = v
size_of (b ∷ bs) v = size_of bs (min (v * base + (b - zero_digit)) longest)

-- the header at a position: the name ends at its first space, the number at its LF
abbrev pub header_case : List ℕ → ℕ → ℕ → Case
header_case input name end = record {
  name = name;
  body = end + 1;
  end = end + 1 + size_of (take (end - (name + 1)) (drop (name + 1) input)) 0;
}

abbrev pub case_at : List ℕ → ℕ → Option Case
case_at input at =
    let name = place_of space input at in
    let end = place_of line_feed input at in
    let c = header_case input name end in
    cond (ltb name end && (ltb end (length input) && leb c.end (length input))) (Some c) None
