-- Each digit stands in its column: the bytes of a written line by their places. Assumes nothing.
use Prim.Native.Nat.{ℕ, zero, suc, ◌+◌, ◌-◌, ◌*◌, ◌/◌, ◌%◌, ◌^◌, ◌≤◌, ◌<◌}
use mathlib.Core.Path.{◌≡◌, refl, sym, ◌∙◌, ap}
use mathlib.Core.Bool.{true, cond, and-eq-true_iff}
use mathlib.Core.List.{List, [], ◌∷◌, ◌++◌}
use native.Mathlib.Omega.{arith}
use native.Mathlib.Nat.{pow-zero, pow-succ', div-one, div-eq_of_lt, zero-div, div-div-eq-div-mul, one-le-pow, le-div_iff_mul-le}
use lib.ListN.{length, get_or, drop, get_or-append}
use lib.Seq.{get_or-append_seam, get_or-append-add, get_or-drop}
use lib.Dec.{leb, ltb, lit<}
use lib.IntN.{ℤ, pos, negsuc}
use borrow.Author.Tests.{leb-true, lt-leb, leb-false, lt-ltb, le-ltb, ltb-true, ltb-false, eqb-true, eq-eqb, ne_eqb}
use Rattle.machine.specs.Line.{space, minus, base, field_width, in_range, last_digit, column, mark_after, columns, number_text, field_text, line_text, all_in_range, can_write, written, written_at}
use Rattle.machine.proofs.Either.{either}
use Rattle.machine.proofs.TextField.{columns_length, mark_space, field_length}
use Rattle.machine.proofs.TextLine.{line_length_holds}
use Rattle.line.specs.Columns.{column_byte, line_byte, written_byte, written_at_byte}

-- the last byte of a text
last_byte : (l : List ℕ) (b place : ℕ) → length l ≡ place → get_or (l ++ (b ∷ [])) place 0 ≡ b
last_byte l b place e = rw (← e) (get_or-append_seam l b [] 0)

-- the column that is k from the right has what is left of the number past k digits
columns_byte : (w rest k : ℕ) → k < w → get_or (columns w rest space) (w - 1 - k) 0 ≡ column (rest / base ^ k) space
unfolding columns
columns_byte zero rest k h = absurd (omega arith)
columns_byte (suc w) rest zero h =
    let n = columns_length w (rest / base) (mark_after rest space) in
    rw (pow-zero, div-one) (last_byte (columns w (rest / base) (mark_after rest space)) (column rest space) (suc w - 1 - 0) (omega (arith, n)))
columns_byte (suc w) rest (suc k) h =
    let n = columns_length w (rest / base) (mark_after rest space) in
    let i : suc w - 1 - suc k ≡ w - 1 - k = omega arith in
    rw (i, get_or-append (columns w (rest / base) (mark_after rest space)) (column rest space ∷ []) 0 (w - 1 - k) (omega (arith, n)), mark_space, pow-succ', ← div-div-eq-div-mul)
    (columns_byte w (rest / base) k (omega arith))

-- a column has a digit where the number reaches it
column_reached : (n k : ℕ) → column (n / base ^ k) space ≡ cond (leb (base ^ k) n) (last_digit (n / base ^ k)) space
unfolding column
column_reached n k =
    let p : 1 ≤ base ^ k = one-le-pow k base (lit< tt) in
    either (leb (base ^ k) n)
    (λ t.
    let q : 1 ≤ n / base ^ k = (le-div_iff_mul-le {k = base ^ k} {x = 1} {y = n} p).1 (omega (arith, leb-true (base ^ k) n t)) in
    rw (t, ne_eqb (n / base ^ k) 0 (λ e. omega arith)))
    (λ t. rw (t, eq-eqb (n / base ^ k) 0 (div-eq_of_lt (leb-false (base ^ k) n t))))

number_byte : (n k : ℕ) → k < field_width → get_or (number_text n space) (field_width - 1 - k) 0 ≡ column_byte (pos n) k
unfolding number_text column_byte
number_byte n zero h =
    last_byte (columns (field_width - 1) (n / base) space) (last_digit n) (field_width - 1) (columns_length (field_width - 1) (n / base) space)
number_byte n (suc k) h =
    let e = columns_length (field_width - 1) (n / base) space in
    let i : field_width - 1 - suc k ≡ field_width - 1 - 1 - k = omega arith in
    rw (i, get_or-append (columns (field_width - 1) (n / base) space) (last_digit n ∷ []) 0 (field_width - 1 - 1 - k) (omega (arith, e)))
    (columns_byte (field_width - 1) (n / base) k (omega arith)
    ∙ ap (λ (q : ℕ). column q space) (div-div-eq-div-mul n base (base ^ k) ∙ ap (λ (b : ℕ). n / b) (sym (pow-succ' base k)))
    ∙ column_reached n (suc k))

-- −1: the digit, the minus, and spaces
minus_byte : (k : ℕ) → k < field_width → get_or (field_text (negsuc 0)) (field_width - 1 - k) 0 ≡ column_byte (negsuc 0) k
unfolding field_text number_text columns column mark_after column_byte
minus_byte zero h = refl
minus_byte (suc zero) h = refl
minus_byte (suc (suc k)) h =
    let i : field_width - 1 - suc (suc k) ≡ field_width - 2 - 1 - k = omega arith in
    rw i (get_or-append (columns (field_width - 2) 0 space) (minus ∷ last_digit 1 ∷ []) 0 (field_width - 2 - 1 - k) (omega arith)
    ∙ columns_byte (field_width - 2) 0 k (omega arith)
    ∙ ap (λ (q : ℕ). column q space) (zero-div (base ^ k)))

field_byte : (z : ℤ) (k : ℕ) → in_range z ≡ true → k < field_width → get_or (field_text z) (field_width - 1 - k) 0 ≡ column_byte z k
unfolding field_text in_range
field_byte (pos n) k r h = number_byte n k h
field_byte (negsuc zero) k r h = minus_byte k h
field_byte (negsuc (suc n)) k r h = absurd (let e = eqb-true (suc n) 0 r in omega arith)

-- the bytes of a line
line_byte_holds : (ns : List ℤ) (place : ℕ) → all_in_range ns ≡ true → place < length ns * field_width + 1 → get_or (line_text ns) place 0 ≡ line_byte ns place
unfolding line_text all_in_range
line_byte_holds [] place r h = let e : place ≡ 0 = omega arith in rw e
line_byte_holds (z ∷ ns) place r h =
    let in_range_holds = (and-eq-true_iff (in_range z) (all_in_range ns)).0 r in
    let n = field_length z in
    either (ltb place field_width)
    (λ t.
    let l : place < field_width = ltb-true place field_width t in
    let i : field_width - 1 - (field_width - 1 - place) ≡ place = omega arith in
    let d : place / field_width ≡ 0 = omega arith in
    let m : place % field_width ≡ place = omega arith in
    rw (lt-ltb place (suc (length ns) * field_width) (omega arith), d, m)
    (get_or-append (field_text z) (line_text ns) 0 place (omega (arith, n))
    ∙ rw i at (field_byte z (field_width - 1 - place) in_range_holds.0 (omega arith))))
    (λ t.
    let l : field_width ≤ place = ltb-false place field_width t in
    let i : place ≡ length (field_text z) + (place - field_width) = omega (arith, n) in
    let d : place / field_width ≡ suc ((place - field_width) / field_width) = omega arith in
    let m : place % field_width ≡ (place - field_width) % field_width = omega arith in
    let e : ltb place (suc (length ns) * field_width) ≡ ltb (place - field_width) (length ns * field_width) =
    either (ltb (place - field_width) (length ns * field_width))
    (λ u. lt-ltb place (suc (length ns) * field_width) (omega (arith, ltb-true (place - field_width) (length ns * field_width) u)) ∙ sym u)
    (λ u. le-ltb place (suc (length ns) * field_width) (omega (arith, ltb-false (place - field_width) (length ns * field_width) u)) ∙ sym u)
    in
    ap (λ (k : ℕ). get_or (field_text z ++ line_text ns) k 0) i ∙ get_or-append-add (field_text z) (line_text ns) (place - field_width) 0
    ∙ line_byte_holds ns (place - field_width) in_range_holds.1 (omega arith)
    ∙ rw (e, d, m))

-- the output after a write, byte by byte, for every output and all numbers
pub written_byte_holds : (out : List ℕ) (ns : List ℤ) (place : ℕ) → get_or (written out ns) place 0 ≡ written_byte out ns place
unfolding written
written_byte_holds out ns place =
    either (can_write (length out) ns)
    (λ t.
    let n = line_length_holds ns in
    either (ltb place (length ns * field_width + 1))
    (λ l.
    rw (t, l)
    (get_or-append (line_text ns) (drop (length (line_text ns)) out) 0 place (omega (arith, n, ltb-true place (length ns * field_width + 1) l))
    ∙ line_byte_holds ns place ((and-eq-true_iff (leb (length (line_text ns)) (length out)) (all_in_range ns)).0 t).1 (ltb-true place (length ns * field_width + 1) l)))
    (λ l.
    let h = ltb-false place (length ns * field_width + 1) l in
    let i : place ≡ length (line_text ns) + (place - length (line_text ns)) = omega (arith, n) in
    rw (t, l)
    (ap (λ (k : ℕ). get_or (line_text ns ++ drop (length (line_text ns)) out) k 0) i
    ∙ get_or-append-add (line_text ns) (drop (length (line_text ns)) out) (place - length (line_text ns)) 0
    ∙ get_or-drop (length (line_text ns)) out (place - length (line_text ns)) 0
    ∙ ap (λ (k : ℕ). get_or out k 0) (sym i))))
    (λ t. rw t)

-- nothing is written into no output
none_written : (ns : List ℤ) (place : ℕ) → written_byte [] ns place ≡ 0
none_written ns place = rw (lt-leb (length (line_text ns)) 0 (omega (arith, line_length_holds ns)))

-- the same from a position on, also one past the output's end
pub written_at_byte_holds : (at : ℕ) (out : List ℕ) (ns : List ℤ) (place : ℕ) → get_or (written_at at out ns) place 0 ≡ written_at_byte at out ns place
written_at_byte_holds zero out ns place =
    let e : place - 0 ≡ place = omega arith in
    rw (le-ltb place 0 (omega arith), e) (written_byte_holds out ns place)
written_at_byte_holds (suc at) [] ns place =
    written_byte_holds [] ns place ∙ none_written ns place ∙ either (ltb place (suc at)) (λ t. rw t) (λ t. rw t (sym (none_written ns (place - suc at))))
written_at_byte_holds (suc at) (b ∷ out) ns zero = rw (lt-ltb 0 (suc at) (omega arith))
written_at_byte_holds (suc at) (b ∷ out) ns (suc place) =
    let e : suc place - suc at ≡ place - at = omega arith in
    rw e
    (either (ltb place at)
    (λ t. rw (lt-ltb (suc place) (suc at) (omega (arith, ltb-true place at t))) (written_at_byte_holds at out ns place ∙ rw t))
    (λ t. rw (le-ltb (suc place) (suc at) (omega (arith, ltb-false place at t))) (written_at_byte_holds at out ns place ∙ rw t)))
