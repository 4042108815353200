-- The lines of an input: they are the input, each ends at its LF or at the input's end, and a line of numbers is one of them,
-- so that a reader may look at 61 bytes. Assumes nothing.
use Prim.Native.Nat.{ℕ, zero, suc, ◌+◌, ◌-◌, ◌/◌, ◌≤◌, ◌<◌}
use mathlib.Core.Path.{◌≡◌, refl, sym, ◌∙◌, ap}
use mathlib.Core.Bool.{Bool, true, false, not, ◌&&◌, ◌||◌, and-eq-true_iff, or-true, true≢false}
use mathlib.Core.List.{List, [], ◌∷◌, ◌++◌, flatten, append_assoc}
use native.Mathlib.Omega.{arith}
use lib.ListN.{length, take, drop, length-append, length-take, length-drop, take-append-drop, drop_of_length-le}
use lib.Seq.{take-append_seam, drop-append_seam, drop-drop}
use lib.Dec.{leb, eqb}
use lib.IntN.{ℤ, pos, negsuc}
use borrow.Author.Tests.{not-true, ne_eqb, le-leb}
use Rattle.machine.specs.declared.Numbers.{Numbers}
use Rattle.machine.specs.declared.Line.{Line}
use Rattle.machine.specs.declared.Line.TheVariants.{Six, Bad}
use Rattle.machine.specs.Limits.{line_length}
use Rattle.machine.specs.Line.{line_feed, space, minus, base, field_width, column, mark_after, columns, last_digit, number_text, field_text, line_text, number_list, read_line, in_first, lines, first_length, line_end, read_at}
use Rattle.machine.proofs.TextLine.{line_length_holds, six_length, read_six, read_other}
use Rattle.machine.proofs.Either.{either}

-- ---------------------------------------------------------------- what a line is
-- no LF among these bytes
unfoldable pub no_feed : List ℕ → Bool
no_feed [] = true
no_feed (b ∷ bs) = not (eqb b line_feed) && no_feed bs

-- one LF, the last byte
unfoldable pub ended : List ℕ → Bool
ended [] = false
ended (b ∷ []) = eqb b line_feed
ended (b ∷ c ∷ bs) = not (eqb b line_feed) && ended (c ∷ bs)

-- at least one byte, and no LF
abbrev pub unended : List ℕ → Bool
unended [] = false
unended (b ∷ bs) = no_feed (b ∷ bs)

-- each line ends in its only LF; the last one may have none
unfoldable pub are_lines : List (List ℕ) → Bool
are_lines [] = true
are_lines (l ∷ []) = ended l || unended l
are_lines (l ∷ m ∷ ls) = ended l && are_lines (m ∷ ls)

-- ---------------------------------------------------------------- the lines are the input
pub lines_input : (bs : List ℕ) → flatten (lines bs) ≡ bs
unfolding lines flatten
lines_input [] = refl
lines_input (b ∷ bs) =
    either (eqb b line_feed)
    (λ e. rw e (ap (◌∷◌ b) (lines_input bs)))
    (λ e. rw e (first (lines bs) ∙ ap (◌∷◌ b) (lines_input bs)))
  where
    first : (ls : List (List ℕ)) → flatten (in_first b ls) ≡ b ∷ flatten ls
    first [] = refl
    first (l ∷ ls) = refl

module _ (b : ℕ) where
  ended_more : (l : List ℕ) → eqb b line_feed ≡ false → ended (b ∷ l) ≡ ended l
  unfolding ended
  ended_more [] e = e
  ended_more (c ∷ l) e = rw e

  unended_more : (l : List ℕ) → eqb b line_feed ≡ false → unended l ≡ true → unended (b ∷ l) ≡ true
  unfolding no_feed
  unended_more [] e h = cc
  unended_more (c ∷ l) e h = rw e h

  first_lines : (ls : List (List ℕ)) → eqb b line_feed ≡ false → are_lines ls ≡ true → are_lines (in_first b ls) ≡ true
  unfolding are_lines no_feed ended
  first_lines [] e h = rw e
  first_lines (l ∷ []) e h =
      either (ended l)
      (λ t. rw (ended_more l e, t))
      (λ t. let u : unended l ≡ true = rw t at h in rw (unended_more l e u, or-true))
  first_lines (l ∷ m ∷ ls) e h = rw (ended_more l e) h

  fed_lines : (ls : List (List ℕ)) → eqb b line_feed ≡ true → are_lines ls ≡ true → are_lines ((b ∷ []) ∷ ls) ≡ true
  unfolding are_lines ended
  fed_lines [] e h = rw e
  fed_lines (l ∷ ls) e h = rw e h

pub lines_are : (bs : List ℕ) → are_lines (lines bs) ≡ true
unfolding lines are_lines
lines_are [] = refl
lines_are (b ∷ bs) =
    either (eqb b line_feed)
    (λ e. rw e (fed_lines b (lines bs) e (lines_are bs)))
    (λ e. rw e (first_lines b (lines bs) e (lines_are bs)))

-- ---------------------------------------------------------------- the first line
lines_first : (bs : List ℕ) → 0 < length bs → lines bs ≡ take (first_length bs) bs ∷ lines (drop (first_length bs) bs)
unfolding lines first_length
lines_first [] h = absurd (omega arith)
lines_first (b ∷ bs) h = either (eqb b line_feed) (λ e. rw e) (λ e. rw e (rest bs (lines_first bs)))
  where
    rest : (bs : List ℕ) → (0 < length bs → lines bs ≡ take (first_length bs) bs ∷ lines (drop (first_length bs) bs))
        → in_first b (lines bs) ≡ (b ∷ take (first_length bs) bs) ∷ lines (drop (first_length bs) bs)
    rest [] f = refl
    rest (c ∷ bs) f = ap (in_first b) (f (omega arith))

first_within : (bs : List ℕ) → first_length bs ≤ length bs
unfolding first_length
first_within [] = omega arith
first_within (b ∷ bs) = either (eqb b line_feed) (λ e. rw e (omega arith)) (λ e. rw e (omega (arith, first_within bs)))

first_some : (bs : List ℕ) → 0 < length bs → 0 < first_length bs
unfolding first_length
first_some [] h = absurd (omega arith)
first_some (b ∷ bs) h = either (eqb b line_feed) (λ e. rw e (omega arith)) (λ e. rw e (omega arith))

-- ---------------------------------------------------------------- a line of numbers is the first line
pub unfed_append : (p q : List ℕ) → no_feed p ≡ true → no_feed q ≡ true → no_feed (p ++ q) ≡ true
unfolding no_feed
unfed_append [] q h k = k
unfed_append (b ∷ p) q h k =
    let t = (and-eq-true_iff (not (eqb b line_feed)) (no_feed p)).0 h in
    rw t.0 (unfed_append p q t.1 k)

unfed_right : (p q : List ℕ) → no_feed (p ++ q) ≡ true → no_feed q ≡ true
unfolding no_feed
unfed_right [] q h = h
unfed_right (b ∷ p) q h = unfed_right p q ((and-eq-true_iff (not (eqb b line_feed)) (no_feed (p ++ q))).0 h).1

columns_unfed : (n rest mark : ℕ) → eqb mark line_feed ≡ false → no_feed (columns n rest mark) ≡ true
unfolding columns column mark_after no_feed
columns_unfed zero rest mark h = refl
columns_unfed (suc n) rest mark h =
    either (eqb rest 0)
    (λ e. rw e (unfed_append (columns n (rest / base) space) (mark ∷ []) (columns_unfed n (rest / base) space refl) (rw h)))
    (λ e. rw e (unfed_append (columns n (rest / base) mark) (last_digit rest ∷ []) (columns_unfed n (rest / base) mark h) (rw (ne_eqb (last_digit rest) line_feed (λ q. omega arith)))))

number_unfed : (magnitude mark : ℕ) → eqb mark line_feed ≡ false → no_feed (number_text magnitude mark) ≡ true
unfolding number_text no_feed
number_unfed magnitude mark h =
    unfed_append (columns (field_width - 1) (magnitude / base) mark) (last_digit magnitude ∷ [])
    (columns_unfed (field_width - 1) (magnitude / base) mark h)
    (rw (ne_eqb (last_digit magnitude) line_feed (λ q. omega arith)))

field_unfed : (z : ℤ) → no_feed (field_text z) ≡ true
unfolding field_text
field_unfed (pos n) = number_unfed n space refl
field_unfed (negsuc n) = number_unfed (suc n) minus refl

first_append : (p q : List ℕ) → no_feed p ≡ true → first_length (p ++ q) ≡ length p + first_length q
unfolding no_feed first_length
first_append [] q h = omega arith
first_append (b ∷ p) q h =
    let t = (and-eq-true_iff (not (eqb b line_feed)) (no_feed p)).0 h in
    rw (not-true (eqb b line_feed) t.0) (omega (arith, first_append p q t.1))

pub text_first : (ns : List ℤ) (rest : List ℕ) → first_length (line_text ns ++ rest) ≡ length (line_text ns)
unfolding line_text first_length
text_first [] rest = refl
text_first (z ∷ ns) rest =
    rw (append_assoc, first_append (field_text z) (line_text ns ++ rest) (field_unfed z), text_first ns rest, length-append)

text_fed : (ns : List ℤ) → no_feed (line_text ns) ≡ true → ⊥
unfolding line_text no_feed
text_fed [] h = true≢false (sym h)
text_fed (z ∷ ns) h = text_fed ns (unfed_right (field_text z) (line_text ns) h)

-- bytes without an LF are no line of numbers
pub unfed_bad : (bs : List ℕ) → no_feed bs ≡ true → read_line bs ≡ Bad
unfed_bad bs h = go (read_line bs) refl
  where
    go : (l : Line) → read_line bs ≡ l → read_line bs ≡ Bad
    go Bad e = e
    go (Six n) e = absurd (text_fed (number_list n) (rw (read_six bs n e).0 at h))

-- a line of numbers in front of an input is its first line
pub lines_text : (ns : List ℤ) (rest : List ℕ) → lines (line_text ns ++ rest) ≡ line_text ns ∷ lines rest
lines_text ns rest =
    lines_first (line_text ns ++ rest) (omega (arith, length-append (line_text ns) rest, line_length_holds ns))
    ∙ rw (text_first, take-append_seam, drop-append_seam)

six_first : (k : ℕ) (bs : List ℕ) (n : Numbers) → read_line (take k bs) ≡ Six n → first_length bs ≡ line_length
six_first k bs n h =
    ap first_length (sym (take-append-drop k bs) ∙ ap (λ (l : List ℕ). l ++ drop k bs) (read_six (take k bs) n h).0)
    ∙ text_first (number_list n) (drop k bs)
    ∙ six_length n

-- the first line and the first 61 bytes read alike
pub read_first : (bs : List ℕ) → read_line (take (first_length bs) bs) ≡ read_line (take line_length bs)
read_first bs = go (read_line (take (first_length bs) bs)) (read_line (take line_length bs)) refl refl
  where
    go : (a b : Line) → read_line (take (first_length bs) bs) ≡ a → read_line (take line_length bs) ≡ b
        → read_line (take (first_length bs) bs) ≡ read_line (take line_length bs)
    go Bad Bad p q = p ∙ sym q
    go (Six n) b p q = rw (six_first (first_length bs) bs n p)
    go Bad (Six n) p q = rw (six_first line_length bs n q)

-- ---------------------------------------------------------------- the line at a position
-- the lines from a position on, of which the first reads as the 61 bytes there do
pub record LineAt (input : List ℕ) (at : ℕ) : Type 0 where
  pub line : List ℕ
  pub first : lines (drop at input) ≡ line ∷ lines (drop (line_end input at) input)
  pub reads : read_line line ≡ read_at input at
  pub after : at < line_end input at
  pub within : line_end input at ≤ length input

pub line_at : (input : List ℕ) (at : ℕ) → at < length input → LineAt input at
line_at input at h =
    let l : length (drop at input) ≡ length input - at = length-drop at input in
    let e : leb at (length input) ≡ true = le-leb at (length input) (omega arith) in
    record {
      line = take (first_length (drop at input)) (drop at input);
      first = rw e (lines_first (drop at input) (omega arith) ∙ rw drop-drop);
      reads = read_first (drop at input);
      after = rw e (omega (arith, first_some (drop at input) (omega arith)));
      within = rw e (omega (arith, first_within (drop at input)));
    }

-- no line from the input's end on
pub lines_end : (input : List ℕ) (at : ℕ) → length input ≤ at → lines (drop at input) ≡ []
unfolding lines
lines_end input at h = rw (drop_of_length-le input {i = at} h)

-- where fewer than 61 bytes are left, no six numbers are
pub few_left : (input : List ℕ) (at : ℕ) → length input < at + line_length → Bad ≡ read_at input at
few_left input at h =
    read_other (take line_length (drop at input))
    (λ e. omega (arith, length-take line_length (drop at input), length-drop at input))

-- the line of six numbers at a position is 61 bytes long
pub six_end : (input : List ℕ) (at : ℕ) (n : Numbers) → read_at input at ≡ Six n → line_end input at ≡ at + line_length
six_end input at n h =
    let f : first_length (drop at input) ≡ line_length = six_first line_length (drop at input) n h in
    let e : leb at (length input) ≡ true =
    le-leb at (length input) (omega (arith, first_within (drop at input), length-drop at input))
    in
    rw (e, f)
