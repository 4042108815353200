-- Writing: what each loop of the writer has stored.
-- Assumes nothing.
use Prim.Native.Nat.{ℕ, zero, suc, ◌+◌, ◌-◌, ◌*◌, ◌/◌, ◌≤◌, ◌<◌}
use mathlib.Core.Path.{◌≡◌, refl, sym, ◌∙◌, ap}
use mathlib.Core.List.{List, [], ◌∷◌, ◌++◌, append-nil}
use native.Mathlib.Omega.{arith}
use native.Mathlib.Nat.{add-zero, zero-add}
use native.Mathlib.Numerals.{add-one}
use mathlib.Core.Bool.{Bool, true, false, not, ◌&&◌, and-false, and-eq-true_iff}
use lib.IntN.{ℤ, pos}
use lib.ListN.{length, get_or, set, take, drop, length-drop, drop_of_length-le}
use lib.Seq.{sets, sets-eq, set_comm, set-set, set-get_or, get_or-set_same, get_or-set_other, drop-cons, take_all}
use lib.Dec.{eqb}
use borrow.Author.Tests.{not-true, not-false, le-leb, lt-leb, eq-eqb, ne_eqb, eqb-true, eqb-false}
use borrow.Rule.Slice.PartMut.{put_mid}
use Rattle.machine.specs.declared.Numbers.{Numbers}
use Rattle.machine.specs.Limits.{line_length}
use Rattle.machine.specs.Line.{space, base, field_width, column, mark_after, columns, last_digit, number_text, field_text, line_text, line_feed, in_range, all_in_range, number_list, line_refusal, can_write, write_code, written, written_at}
use Rattle.machine.proofs.TextField.{columns_length, columns_more, columns_none, field_length}
use Rattle.machine.proofs.TextLine.{six_length}
use Rattle.machine.proofs.Either.{either}
use Rattle.line.specs.Blank.{Blank, Alike}
use Rattle.line.proofs.Parts.{tail_is, tail_put}

-- the last of a run of stores, made first
sets_last : (l : List ℕ) (at : ℕ) (m : List ℕ) (b : ℕ) → sets (set l (at + length m) b) at m ≡ sets l at (m ++ (b ∷ []))
sets_last l at [] b = rw add-zero
sets_last l at (c ∷ m) b =
    ap (λ (x : List ℕ). sets x (suc at) m)
    (set_comm l (at + suc (length m)) at b c (λ e. omega arith) ∙ ap (λ (k : ℕ). set (set l at c) k b) (omega arith))
    ∙ sets_last (set l at c) (suc at) m b

-- the same by the number of the stores left
sets_first : (l : List ℕ) (at j : ℕ) (m : List ℕ) (b x : ℕ) → length m ≡ j → x ≡ b → sets (set l (at + j) x) at m ≡ sets l at (m ++ (b ∷ []))
sets_first l at j m b x e q = rw (q, ← e) (sets_last l at m b)

module _ (l : List ℕ) (at : ℕ) where
  -- a number's last column stored, then the columns left of it
  pub number_stored : (magnitude sign x : ℕ) → x ≡ last_digit magnitude
      → sets (set l (at + (field_width - 1)) x) at (columns (field_width - 1) (magnitude / base) sign) ≡ sets l at (number_text magnitude sign)
  unfolding number_text
  number_stored magnitude sign x q =
      sets_first l at (field_width - 1) (columns (field_width - 1) (magnitude / base) sign) (last_digit magnitude) x (columns_length (field_width - 1) (magnitude / base) sign) q

  -- one more column stored
  pub column_stored : (j rest mark x y : ℕ) (r : List ℕ) → 0 < j → x ≡ column rest mark → y ≡ mark_after rest mark
      → sets l at (columns j rest mark) ≡ r
      → sets (set l (at + (j - 1)) x) at (columns (j - 1) (rest / base) y) ≡ r
  column_stored j rest mark x y r h q w s =
      rw w (sets_first l at (j - 1) (columns (j - 1) (rest / base) (mark_after rest mark)) (column rest mark) x (columns_length (j - 1) (rest / base) (mark_after rest mark)) q)
      ∙ rw (columns_more j rest mark h) at s

  -- none left
  pub columns_stored : (j rest mark : ℕ) (r : List ℕ) → j ≤ 0 → sets l at (columns j rest mark) ≡ r → l ≡ r
  columns_stored j rest mark r h s = rw (columns_none j rest mark h) at s

-- a run of stores, in two
pub sets_append : (l : List ℕ) (at : ℕ) (m n : List ℕ) → sets l at (m ++ n) ≡ sets (sets l at m) (at + length m) n
sets_append l at [] n = rw add-zero
sets_append l at (c ∷ m) n =
    sets_append (set l at c) (suc at) m n ∙ ap (λ (k : ℕ). sets (sets (set l at c) (suc at) m) k n) (omega arith)

-- ---------------------------------------------------------------- the numbers from a place on
module _ (zs : List ℤ) (i : ℕ) (h : i < length zs) (x : ℤ) (e : x ≡ get_or zs i (pos 0)) where
  from_next : drop i zs ≡ x ∷ drop (i + 1) zs
  from_next = rw (drop-cons zs i (pos 0) h, e, add-one)

  range_next : all_in_range (drop i zs) ≡ (in_range x && all_in_range (drop (i + 1) zs))
  unfolding all_in_range
  range_next = rw from_next

  pub range_out : (b : Bool) → b ≡ in_range x → not b ≡ true → (a : Bool) → all_in_range (drop i zs) ≡ a → false ≡ a
  range_out b r t a q = rw (sym r ∙ not-true b t) at (sym range_next) ∙ q

  pub range_in : (b : Bool) → b ≡ in_range x → not b ≡ false → (a : Bool) → all_in_range (drop i zs) ≡ a → all_in_range (drop (i + 1) zs) ≡ a
  range_in b r t a q = rw (sym r ∙ not-false b t) at (sym range_next) ∙ q

  pub range_both : all_in_range (drop i zs) ≡ true → (in_range x ≡ true) × (all_in_range (drop (i + 1) zs) ≡ true)
  range_both q = (and-eq-true_iff (in_range x) (all_in_range (drop (i + 1) zs))).0 (sym range_next ∙ q)

  -- one more field stored
  pub field_stored : (l m r : List ℕ) → m ≡ sets l (i * field_width) (field_text x) → sets l (i * field_width) (line_text (drop i zs)) ≡ r
      → sets m ((i + 1) * field_width) (line_text (drop (i + 1) zs)) ≡ r
  unfolding line_text
  field_stored l m r w q =
      let n : (i + 1) * field_width ≡ i * field_width + length (field_text x) = omega (arith, field_length x) in
      rw (w, n, ← sets_append l (i * field_width) (field_text x) (line_text (drop (i + 1) zs))) (rw from_next at q)

pub range_end : (zs : List ℤ) (i : ℕ) (a : Bool) → length zs ≤ i → all_in_range (drop i zs) ≡ a → true ≡ a
unfolding all_in_range
range_end zs i a h q = rw (drop_of_length-le zs {i = i} h) at q

-- the LF after the last field
pub feed_stored : (zs : List ℤ) (i : ℕ) (l r : List ℕ) → length zs ≡ i → sets l (i * field_width) (line_text (drop i zs)) ≡ r → set l (i * field_width) line_feed ≡ r
unfolding line_text
feed_stored zs i l r h q = rw (drop_of_length-le zs {i = i} (omega arith)) at q

-- ---------------------------------------------------------------- the whole line
module _ (out : List ℕ) (n : Numbers) where
  refused : can_write (length out) (number_list n) ≡ false → (line_refusal ≡ write_code (length out) (number_list n)) × (out ≡ written out (number_list n))
  unfolding written
  refused e = (rw e, rw e)

  pub short_refused : length out < line_length → (line_refusal ≡ write_code (length out) (number_list n)) × (out ≡ written out (number_list n))
  short_refused h = refused (rw (lt-leb (length (line_text (number_list n))) (length out) (omega (arith, six_length n))))

  pub range_refused : (b : Bool) → b ≡ all_in_range (number_list n) → not b ≡ true → (line_refusal ≡ write_code (length out) (number_list n)) × (out ≡ written out (number_list n))
  range_refused b r t = refused (rw (sym r ∙ not-true b t, and-false))

  pub line_written : line_length ≤ length out → all_in_range (number_list n) ≡ true → (m : List ℕ) → m ≡ sets out 0 (line_text (number_list n))
      → (0 ≡ write_code (length out) (number_list n)) × (m ≡ written out (number_list n))
  unfolding written
  line_written h r m e =
      let k : length (line_text (number_list n)) ≤ length out = omega (arith, six_length n) in
      let t : can_write (length out) (number_list n) ≡ true = rw (le-leb (length (line_text (number_list n))) (length out) k, r) in
      (rw t, rw t (e ∙ sets-eq (line_text (number_list n)) out 0 (omega arith) ∙ rw zero-add))

-- a position past the output
pub past_refused : (out : List ℕ) (at : ℕ) (n : Numbers) → length out < at
    → (line_refusal ≡ write_code (length out - at) (number_list n)) × (out ≡ written_at at out (number_list n))
past_refused out at n h =
    let z : length out - at ≡ 0 = omega arith in
    let r = short_refused [] n (omega arith) in
    (rw z r.0, rw (take_all at out (omega arith), drop_of_length-le out {i = at} (omega arith), sym r.1, append-nil))

-- the part from a position on, lent and put back
pub tail_written : (out : List ℕ) (at : ℕ) (n : Numbers) (x : ℕ) (m : List ℕ)
    → (x ≡ write_code (length (take (length out - at) (drop at out))) (number_list n)) × (m ≡ written (take (length out - at) (drop at out)) (number_list n))
    → (x ≡ write_code (length out - at) (number_list n)) × (put_mid at (length out - at) out m ≡ written_at at out (number_list n))
tail_written out at n x m e =
    let p = rw (tail_is at out) at e in
    (rw length-drop at p.0, tail_put at out m ∙ ap (λ (l : List ℕ). take at out ++ l) p.1)

-- ---------------------------------------------------------------- over spaces
-- a byte that is stored over
pub sets_over : (l : List ℕ) (at k x : ℕ) (m : List ℕ) → k < length m → sets (set l (at + k) x) at m ≡ sets l at m
sets_over l at k x [] h = absurd (omega arith)
sets_over l at zero x (c ∷ m) h = rw add-zero (ap (λ (r : List ℕ). sets r (suc at) m) (set-set l at x c))
sets_over l at (suc k) x (c ∷ m) h =
    ap (λ (r : List ℕ). sets r (suc at) m)
    (set_comm l (at + suc k) at x c (λ e. omega arith) ∙ ap (λ (i : ℕ). set (set l at c) i x) (omega arith))
    ∙ sets_over (set l at c) (suc at) k x m (omega arith)

pub alike_more : (n k x : ℕ) (l o : List ℕ) → k < n → Alike n l o → Alike n (set l k x) o
alike_more n k x l o h a m w = let e : 0 + k ≡ k = omega arith in rw e at (sets_over l 0 k x m (omega arith)) ∙ a m w

pub blank_more : (l : List ℕ) (k : ℕ) → k < length l → Blank l 0 k → Blank (set l k space) 0 (k + 1)
blank_more l k h b i lo hi =
    either (eqb i k)
    (λ t. rw (eqb-true i k t) (get_or-set_same l k space 0 h))
    (λ t. let n = eqb-false i k t in get_or-set_other l k i space 0 n ∙ b i lo (omega (arith, n)))

pub blank_less : (l : List ℕ) (at j x : ℕ) → Blank l at (at + j) → Blank (set l (at + (j - 1)) x) at (at + (j - 1))
blank_less l at j x b i lo hi = get_or-set_other l (at + (j - 1)) i x 0 (λ e. omega arith) ∙ b i lo (omega arith)

pub past_stores : (l : List ℕ) (at : ℕ) (m : List ℕ) (k : ℕ) → at + length m ≤ k → get_or (sets l at m) k 0 ≡ get_or l k 0
past_stores l at [] k h = refl
past_stores l at (c ∷ m) k h = past_stores (set l at c) (suc at) m k (omega arith) ∙ get_or-set_other l at k c 0 (λ e. omega arith)

pub blank_stored : (l : List ℕ) (at n : ℕ) → Blank l at (at + n) → sets l at (columns n 0 space) ≡ l
unfolding columns column mark_after
blank_stored l at zero b = refl
blank_stored l at (suc n) b =
    let d : get_or l (at + n) 0 ≡ space = b (at + n) (omega arith) (omega arith) in
    let e : set l (at + n) space ≡ l = ap (set l (at + n)) (sym d) ∙ set-get_or l (at + n) 0 in
    sym (sets_first l at n (columns n 0 space) space space (columns_length n 0 space) refl)
    ∙ rw e (blank_stored l at n (λ k lo hi. b k lo (omega arith)))

module _ (l : List ℕ) (at j rest sign : ℕ) (r : List ℕ) (h : 0 < j) (s : sets l at (columns j rest sign) ≡ r) where
  -- one more digit stored
  pub digit_stored : (x : ℕ) → 0 < rest → x ≡ last_digit rest → sets (set l (at + (j - 1)) x) at (columns (j - 1) (rest / base) sign) ≡ r
  unfolding column mark_after
  digit_stored x n q =
      let e : eqb rest 0 ≡ false = ne_eqb rest 0 (λ z. omega arith) in
      column_stored l at j rest sign x sign r h (rw e q) (rw e) s

  -- the mark stored, where no digit is left: spaces stand further left
  pub mark_stored : rest ≤ 0 → Blank l at (at + j) → set l (at + (j - 1)) sign ≡ r
  unfolding column mark_after
  mark_stored n b =
      let z : rest ≡ 0 = omega arith in
      let d : rest / base ≡ 0 = omega arith in
      let e : eqb rest 0 ≡ true = eq-eqb rest 0 z in
      sym (blank_stored (set l (at + (j - 1)) sign) at (j - 1) (blank_less l at j sign b))
      ∙ rw d at (column_stored l at j rest sign sign space r h (rw e) (rw e) s)
