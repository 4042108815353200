-- The text of a line of numbers, as many as there are: reading it gives the numbers back, and a line that reads as numbers
-- is their text. Assumes nothing.
use Prim.Native.Nat.{ℕ, zero, suc, ◌+◌, ◌-◌, ◌*◌, ◌≤◌, ◌<◌}
use mathlib.Core.Path.{◌≡◌, refl, sym, ◌∙◌, ap}
use mathlib.Core.Bool.{true, cond, and-eq-true_iff}
use mathlib.Core.List.{List, [], ◌∷◌}
use Rattle.std.specs.Prelude.{Option, None, Some}
use native.Mathlib.Omega.{arith}
use lib.ListN.{length, take, drop, length-append, length-drop, take-append-drop}
use lib.Seq.{take_at, drop_at}
use lib.Dec.{leb}
use lib.IntN.{ℤ}
use borrow.Author.Tests.{leb-true}
use Rattle.machine.specs.declared.Numbers.{Numbers}
use Rattle.machine.specs.declared.Line.{Line}
use Rattle.machine.specs.declared.Line.TheVariants.{Six, Bad}
use Rattle.machine.specs.Limits.{line_length}
use Rattle.machine.specs.Line.{line_feed, field_width, field_count, in_range, field_text, line_text, same_bytes, read_field, joined, read_numbers, number_list, numbers_of, read_line, all_in_range, can_write, written}
use Rattle.machine.proofs.TextField.{same_refl, same_true, field_length, field_read, read_field_holds}
use Rattle.machine.proofs.Either.{either}

pub line_length_holds : (ns : List ℤ) → length (line_text ns) ≡ length ns * field_width + 1
unfolding line_text
line_length_holds [] = refl
line_length_holds (z ∷ ns) = simp (length-append, field_length, line_length_holds ns) (omega arith)

-- reading by a number of fields that code counts down
pub reads_more : (n : ℕ) (bs : List ℕ) → 0 < n → read_numbers n bs ≡ joined (read_field (take field_width bs)) (read_numbers (n - 1) (drop field_width bs))
unfolding read_numbers
reads_more zero bs h = absurd (omega arith)
reads_more (suc n) bs h =
    let e : suc n - 1 ≡ n = omega arith in
    rw e

pub reads_none : (n : ℕ) (bs : List ℕ) → n ≤ 0 → read_numbers n bs ≡ cond (same_bytes bs (line_feed ∷ [])) (Some []) None
unfolding read_numbers
reads_none zero bs h = refl
reads_none (suc n) bs h = absurd (omega arith)

-- the line of numbers in range reads as them
pub line_read : (ns : List ℤ) → all_in_range ns ≡ true → read_numbers (length ns) (line_text ns) ≡ Some ns
unfolding all_in_range line_text read_numbers
line_read [] r = rw (same_refl (line_feed ∷ []))
line_read (z ∷ ns) r =
    let t = (and-eq-true_iff (in_range z) (all_in_range ns)).0 r in
    rw (take_at (field_text z) (line_text ns) field_width (field_length z), drop_at (field_text z) (line_text ns) field_width (field_length z), field_read z t.0, line_read ns t.1)

-- a line is the text of these numbers, all in range
pub record IsText (n : ℕ) (bs : List ℕ) (ns : List ℤ) : Type 0 where
  pub text : bs ≡ line_text ns
  pub range : all_in_range ns ≡ true
  pub count : length ns ≡ n

-- what two parts give together
joined_text : (n : ℕ) (bs : List ℕ) (a : Option ℤ) (b : Option (List ℤ)) (ns : List ℤ)
    → ((z : ℤ) → a ≡ Some z → (take field_width bs ≡ field_text z) × (in_range z ≡ true))
    → ((zs : List ℤ) → b ≡ Some zs → IsText n (drop field_width bs) zs)
    → joined a b ≡ Some ns → IsText (suc n) bs ns
unfolding line_text all_in_range
joined_text n bs None b ns f g h = absurd (let q : ◌≡◌ {A = ℕ} 0 1 = cc in omega arith)
joined_text n bs (Some z) None ns f g h = absurd (let q : ◌≡◌ {A = ℕ} 0 1 = cc in omega arith)
joined_text n bs (Some z) (Some zs) ns f g h =
    let e : z ∷ zs ≡ ns = cc in
    let front = f z refl in
    let rest = g zs refl in
    rw (← e)
    (record {
      text = sym (take-append-drop field_width bs) ∙ rw (front.0, rest.text);
      range = (and-eq-true_iff (in_range z) (all_in_range zs)).1 (front.1, rest.range);
      count = ap suc rest.count;
    })

-- a line that reads as numbers is their text, and they are in range
pub read_line_holds : (n : ℕ) (bs : List ℕ) (ns : List ℤ) → read_numbers n bs ≡ Some ns → IsText n bs ns
unfolding read_numbers line_text all_in_range
read_line_holds zero bs ns h =
    either (same_bytes bs (line_feed ∷ []))
    (λ t.
    let e : [] ≡ ns = let s : Some [] ≡ Some ns = rw t at h in cc in
    rw (← e) (record { text = same_true bs (line_feed ∷ []) t; range = refl; count = refl }))
    (λ t. absurd (let s : None ≡ Some ns = rw t at h in let q : ◌≡◌ {A = ℕ} 0 1 = cc in omega arith))
read_line_holds (suc n) bs ns h =
    joined_text n bs (read_field (take field_width bs)) (read_numbers n (drop field_width bs)) ns
    (read_field_holds (take field_width bs))
    (read_line_holds n (drop field_width bs))
    h

-- ---------------------------------------------------------------- the line of six
pub six_length : (n : Numbers) → length (line_text (number_list n)) ≡ line_length
six_length n = line_length_holds (number_list n)

pub six_read : (n : Numbers) → all_in_range (number_list n) ≡ true → read_line (line_text (number_list n)) ≡ Six n
unfolding read_line
six_read n r = rw (line_read (number_list n) r)

six_list : (zs : List ℤ) → length zs ≡ field_count → number_list (numbers_of zs) ≡ zs
six_list [] h = absurd (omega arith)
six_list (a ∷ []) h = absurd (omega arith)
six_list (a ∷ b ∷ []) h = absurd (omega arith)
six_list (a ∷ b ∷ c ∷ []) h = absurd (omega arith)
six_list (a ∷ b ∷ c ∷ d ∷ []) h = absurd (omega arith)
six_list (a ∷ b ∷ c ∷ d ∷ e ∷ []) h = absurd (omega arith)
six_list (a ∷ b ∷ c ∷ d ∷ e ∷ f ∷ []) h = refl
six_list (a ∷ b ∷ c ∷ d ∷ e ∷ f ∷ g ∷ zs) h = absurd (omega arith)

pub read_six : (bs : List ℕ) (n : Numbers) → read_line bs ≡ Six n → (bs ≡ line_text (number_list n)) × (all_in_range (number_list n) ≡ true)
unfolding read_line
read_six bs n h = go (read_numbers field_count bs) refl
  where
    go : (r : Option (List ℤ)) → read_numbers field_count bs ≡ r → (bs ≡ line_text (number_list n)) × (all_in_range (number_list n) ≡ true)
    go None e = absurd (let s : Bad ≡ Six n = rw e at h in let q : ◌≡◌ {A = ℕ} 0 1 = cc in omega arith)
    go (Some zs) e =
        let t = read_line_holds field_count bs zs e in
        let s : Six (numbers_of zs) ≡ Six n = rw e at h in
        let m : numbers_of zs ≡ n = cc in
        let l : number_list n ≡ zs = ap number_list (sym m) ∙ six_list zs t.count in
        (rw l t.text, rw l t.range)

-- a line of another length is refused
pub read_other : (bs : List ℕ) → (length bs ≡ line_length → ⊥) → Bad ≡ read_line bs
read_other bs h = go (read_line bs) refl
  where
    go : (r : Line) → read_line bs ≡ r → Bad ≡ read_line bs
    go Bad e = sym e
    go (Six n) e = absurd (h (ap length (read_six bs n e).0 ∙ six_length n))

-- ---------------------------------------------------------------- writing
pub written_length : (out : List ℕ) (ns : List ℤ) → length (written out ns) ≡ length out
unfolding written
written_length out ns =
    either (can_write (length out) ns)
    (λ t.
    let h : length (line_text ns) ≤ length out =
    leb-true (length (line_text ns)) (length out) ((and-eq-true_iff (leb (length (line_text ns)) (length out)) (all_in_range ns)).0 t).0
    in
    rw t (simp (length-append, length-drop) (omega arith)))
    (λ t. rw t)

-- past the line's bytes nothing changes
pub written_after : (out : List ℕ) (n : Numbers) → drop line_length (written out (number_list n)) ≡ drop line_length out
unfolding written
written_after out n =
    either (can_write (length out) (number_list n))
    (λ t.
    rw (t, drop_at (line_text (number_list n)) (drop (length (line_text (number_list n))) out) line_length (six_length n), six_length n))
    (λ t. rw t)

-- what was written reads as the numbers
pub written_read : (out : List ℕ) (n : Numbers) → can_write (length out) (number_list n) ≡ true
    → read_line (take line_length (written out (number_list n))) ≡ Six n
unfolding written
written_read out n t =
    rw (t, take_at (line_text (number_list n)) (drop (length (line_text (number_list n))) out) line_length (six_length n))
    (six_read n ((and-eq-true_iff (leb (length (line_text (number_list n))) (length out)) (all_in_range (number_list n))).0 t).1)
