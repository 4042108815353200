-- Text lines: the text of a line, reading a line, writing one, and the lines of an input.
use Rattle.std.specs.Prelude.{ℕ, zero, suc, ◌+◌, ◌-◌, ◌*◌, ◌/◌, ◌%◌, Bool, true, false, cond, ◌&&◌, List, [], ◌∷◌, ◌++◌, length, get_or, take, drop, leb, eqb, ℤ, pos, negsuc}
use Rattle.std.specs.Prelude.{Option, None, Some}
use Rattle.machine.specs.declared.Numbers.{Numbers}
use Rattle.machine.specs.declared.Line.{Line}
use Rattle.machine.specs.declared.Line.TheVariants.{Six, Bad}
use Rattle.machine.specs.Limits.{number_limit, line_length}

-- ---------------------------------------------------------------- the text of a line
-- LF
abbrev pub line_feed : ℕ
line_feed = 10

abbrev pub space : ℕ
space = 32

abbrev pub minus : ℕ
minus = 45

-- the digit 0
abbrev pub zero_digit : ℕ
zero_digit = 48

-- Numbers are base ten
abbrev pub base : ℕ
base = 10

-- fields of ten columns
abbrev pub field_width : ℕ
field_width = 10

-- six fields: as many as a line holds before its LF
abbrev pub field_count : ℕ
field_count = line_length / field_width

-- −1..999,999,999
unfoldable pub in_range : ℤ → Bool
in_range (pos n) = leb n number_limit
in_range (negsuc n) = eqb n 0

abbrev pub last_digit : ℕ → ℕ
last_digit n = zero_digit + n % base

-- a column left of the last: a digit of what is left of the number, or the mark where nothing is left; no leading zero
unfoldable pub column : ℕ → ℕ → ℕ
column rest mark = cond (eqb rest 0) mark (last_digit rest)

-- the mark of the columns further left: a minus stands once, then spaces
unfoldable pub mark_after : ℕ → ℕ → ℕ
mark_after rest mark = cond (eqb rest 0) space mark

-- this many columns, from the right
unfoldable pub columns : ℕ → ℕ → ℕ → List ℕ
columns zero rest mark = []
columns (suc n) rest mark = columns n (rest / base) (mark_after rest mark) ++ (column rest mark ∷ [])

-- a number by its magnitude and the byte that stands before its first digit: right-justified with spaces, at least one digit
unfoldable pub number_text : ℕ → ℕ → List ℕ
number_text magnitude mark = columns (field_width - 1) (magnitude / base) mark ++ (last_digit magnitude ∷ [])

unfoldable pub field_text : ℤ → List ℕ
field_text (pos n) = number_text n space
field_text (negsuc n) = number_text (suc n) minus

-- the fields one after another, then LF
unfoldable pub line_text : List ℤ → List ℕ
line_text [] = line_feed ∷ []
line_text (z ∷ zs) = field_text z ++ line_text zs

-- ---------------------------------------------------------------- reading
unfoldable pub same_bytes : List ℕ → List ℕ → Bool
same_bytes [] [] = true
same_bytes [] (b ∷ bs) = false
same_bytes (a ∷ l) [] = false
same_bytes (a ∷ l) (b ∷ bs) = eqb a b && same_bytes l bs

-- the number that bytes spell after the number so far, each taken as a digit; a byte below the digit 0, as a space, counts as 0, since a difference
-- is never below 0. What it spells is only tried: its own text is compared with the columns
unfoldable pub spelled : List ℕ → ℕ → ℕ
spelled [] v = v
spelled (b ∷ bs) v = spelled bs (v * base + (b - zero_digit))

-- the one number whose text these columns can be
unfoldable pub candidate : List ℕ → ℤ
candidate bs = cond (same_bytes bs (field_text (negsuc 0))) (negsuc 0) (pos (spelled bs 0))

-- right-justified with spaces, no +, no leading zero, no -0, −1..999,999,999: the columns are the text of a number in range
unfoldable pub read_field : List ℕ → Option ℤ
read_field bs = let z = candidate bs in cond (in_range z && same_bytes bs (field_text z)) (Some z) None

abbrev pub joined : Option ℤ → Option (List ℤ) → Option (List ℤ)
joined None zs = None
joined (Some z) None = None
joined (Some z) (Some zs) = Some (z ∷ zs)

-- so many fields of ten columns, then LF
unfoldable pub read_numbers : ℕ → List ℕ → Option (List ℤ)
read_numbers zero bs = cond (same_bytes bs (line_feed ∷ [])) (Some []) None
read_numbers (suc n) bs = joined (read_field (take field_width bs)) (read_numbers n (drop field_width bs))

abbrev pub number_list : Numbers → List ℤ
number_list n = n.n1 ∷ n.n2 ∷ n.n3 ∷ n.n4 ∷ n.n5 ∷ n.n6 ∷ []

abbrev pub numbers_of : List ℤ → Numbers
numbers_of zs = record {
  n1 = get_or zs 0 (pos 0);
  n2 = get_or zs 1 (pos 0);
  n3 = get_or zs 2 (pos 0);
  n4 = get_or zs 3 (pos 0);
  n5 = get_or zs 4 (pos 0);
  n6 = get_or zs 5 (pos 0);
}

abbrev pub line_of : Option (List ℤ) → Line
line_of None = Bad
line_of (Some zs) = Six (numbers_of zs)

-- reading: not 61 bytes: six fields of ten columns, .., then LF
unfoldable pub read_line : List ℕ → Line
read_line bs = line_of (read_numbers field_count bs)

-- the number of a refused line
abbrev pub line_refusal : ℕ
line_refusal = 11

-- the number and the values of each case: 0 and the six numbers, or 11
abbrev pub meaning : Line → ℕ × List ℤ
meaning (Six n) = (0, number_list n)
meaning Bad = (line_refusal, [])

abbrev pub line_code : Line → ℕ
line_code l = (meaning l).0

-- the number and the values of a line's text: 0 and the numbers that its columns spell, or 11
abbrev pub meaning_of : Option (List ℤ) → ℕ × List ℤ
meaning_of None = (line_refusal, [])
meaning_of (Some zs) = (0, zs)

unfoldable pub line_meaning : List ℕ → ℕ × List ℤ
line_meaning bs = meaning_of (read_numbers field_count bs)

-- ---------------------------------------------------------------- writing
unfoldable pub all_in_range : List ℤ → Bool
all_in_range [] = true
all_in_range (z ∷ zs) = in_range z && all_in_range zs

-- Writing is refused for a number outside that range, or under 61 bytes of output.
abbrev pub can_write : ℕ → List ℤ → Bool
can_write room ns = leb (length (line_text ns)) room && all_in_range ns

abbrev pub write_code : ℕ → List ℤ → ℕ
write_code room ns = cond (can_write room ns) 0 line_refusal

-- the output after: the line and what stood after it, or all as it was
unfoldable pub written : List ℕ → List ℤ → List ℕ
written out ns = cond (can_write (length out) ns) (line_text ns ++ drop (length (line_text ns)) out) out

-- an answer line goes into the middle of the output
abbrev pub written_at : ℕ → List ℕ → List ℤ → List ℕ
written_at at out ns = take at out ++ written (drop at out) ns

-- ---------------------------------------------------------------- the lines of an input
-- a byte in front of the first line
abbrev pub in_first : ℕ → List (List ℕ) → List (List ℕ)
in_first b [] = (b ∷ []) ∷ []
in_first b (l ∷ ls) = (b ∷ l) ∷ ls

-- A line ends at its LF or at the input's end; nothing after the last LF is no line.
unfoldable pub lines : List ℕ → List (List ℕ)
lines [] = []
lines (b ∷ bs) = cond (eqb b line_feed) ((b ∷ []) ∷ lines bs) (in_first b (lines bs))

-- the length of the first line, with its LF
unfoldable pub first_length : List ℕ → ℕ
first_length [] = 0
first_length (b ∷ bs) = cond (eqb b line_feed) 1 (suc (first_length bs))

-- where the line at a position ends: past its LF, or at the input's end
abbrev pub line_end : List ℕ → ℕ → ℕ
line_end input at = cond (leb at (length input)) (at + first_length (drop at input)) (length input)

-- A line is read out of the middle of the input.
abbrev pub text_at : List ℕ → ℕ → List ℕ
text_at input at = take line_length (drop at input)

abbrev pub read_at : List ℕ → ℕ → Line
read_at input at = read_line (text_at input at)
