-- Reading: what each loop of the reader has done.
-- Assumes nothing.
use Prim.Native.Nat.{ℕ, ◌+◌, ◌-◌, ◌*◌, ◌≤◌, ◌<◌, min}
use mathlib.Core.Path.{◌≡◌, refl, sym, ◌∙◌, ap}
use mathlib.Core.Bool.{Bool, true, false, cond, and-true}
use mathlib.Core.List.{List, [], ◌∷◌, ◌++◌, append_assoc, append-nil}
use native.Mathlib.Omega.{arith}
use native.Mathlib.Numerals.{add-one}
use lib.ListN.{length, get_or, take, drop, set, length-drop, drop_of_length-le}
use lib.Seq.{take-suc-set, take_all, drop-cons, drop-drop}
use lib.Dec.{eqb, ltb}
use borrow.Author.Tests.{eq-eqb, ne_eqb, le-leb, lt-leb, ltb-true, ltb-false}
use Rattle.std.specs.Prelude.{Option, None, Some}
use Rattle.std.specs.List.{position, position_or_len}
use lib.IntN.{ℤ, pos}
use mir.Syntax.{w64}
use mir.Val.{to_z, of_z}
use Rattle.machine.specs.declared.Line.TheVariants.{Six, Bad}
use Rattle.machine.specs.Limits.{line_length}
use Rattle.machine.specs.Line.{line_feed, field_width, same_bytes, read_field, joined, field_count, read_numbers, read_line, first_length, line_end}
use Rattle.machine.proofs.TextField.{read_field_holds}
use Rattle.machine.proofs.TextLine.{reads_more, reads_none, read_line_holds}
use Rattle.line.proofs.Signed.{range_back, ranges_back}
use Rattle.machine.proofs.Either.{either}

-- ---------------------------------------------------------------- where a line ends
-- the length of the first line, by the place of its LF
first_placed : (l : List ℕ) → first_length l ≡ min (position_or_len (λ b. eqb b line_feed) l + 1) (length l)
unfolding first_length
first_placed [] = refl
first_placed (b ∷ bs) =
    either (eqb b line_feed)
    (λ t. rw t (omega arith))
    (λ t. let e = first_placed bs in rw t (omega arith))

module _ (l : List ℕ) (at : ℕ) (h : at ≤ length l) where
  end_at : line_end l at ≡ at + min (position_or_len (λ b. eqb b line_feed) (drop at l) + 1) (length l - at)
  end_at = rw (le-leb at (length l) h, first_placed (drop at l), length-drop)

  pub end_found : (i : ℕ) → position (λ b. eqb b line_feed) (drop at l) ≡ Some i → at + i + 1 ≡ line_end l at
  end_found i e =
      let p = position_or_len (λ b. eqb b line_feed) (drop at l) in
      either (ltb p (length (drop at l)))
      (λ t.
      let s : Some p ≡ Some i = rw t at e in
      let q : p ≡ i = cc in
      let w = end_at in
      omega (arith, ltb-true p (length (drop at l)) t, length-drop at l))
      (λ t. absurd (let s : None ≡ Some i = rw t at e in let z : ◌≡◌ {A = ℕ} 0 1 = cc in omega arith))

  pub end_none : position (λ b. eqb b line_feed) (drop at l) ≡ None → length l ≡ line_end l at
  end_none e =
      let p = position_or_len (λ b. eqb b line_feed) (drop at l) in
      either (ltb p (length (drop at l)))
      (λ t. absurd (let s : Some p ≡ None = rw t at e in let z : ◌≡◌ {A = ℕ} 0 1 = cc in omega arith))
      (λ t. let w = end_at in omega (arith, ltb-false p (length (drop at l)) t, length-drop at l))

pub end_past : (l : List ℕ) (at : ℕ) → length l < at → length l ≡ line_end l at
end_past l at h = rw (lt-leb at (length l) h)

-- ---------------------------------------------------------------- the numbers read so far
-- numbers in front of what is read after them
abbrev pub ahead : List ℤ → Option (List ℤ) → Option (List ℤ)
ahead zs None = None
ahead zs (Some ns) = Some (zs ++ ns)

pub ahead_nil : (r : Option (List ℤ)) → ahead [] r ≡ r
ahead_nil None = refl
ahead_nil (Some ns) = refl

ahead_joined : (zs : List ℤ) (x : ℤ) (r : Option (List ℤ)) → ahead zs (joined (Some x) r) ≡ ahead (zs ++ (x ∷ [])) r
ahead_joined zs x None = refl
ahead_joined zs x (Some ns) = ap Some (sym (append_assoc zs (x ∷ []) ns))

bad_line : (s : List ℕ) → read_numbers field_count s ≡ None → Bad ≡ read_line s
unfolding read_line
bad_line s e = rw e

-- what is left to read after i numbers gives the whole
module _ (s : List ℕ) (ns : List ℤ) (i : ℕ) (l : length ns ≡ field_count) (q : ahead (take i ns) (read_numbers (field_count - i) (drop (i * field_width) s)) ≡ read_numbers field_count s) where
  module _ (h : i < field_count) (f : Option ℤ) (e : f ≡ read_field (take field_width (drop (i * field_width) s))) where
    opened : (r : Option ℤ) → read_field (take field_width (drop (i * field_width) s)) ≡ r
        → ahead (take i ns) (joined r (read_numbers (field_count - (i + 1)) (drop ((i + 1) * field_width) s))) ≡ read_numbers field_count s
    opened r g =
        let n : field_count - i - 1 ≡ field_count - (i + 1) = omega arith in
        let m : i * field_width + field_width ≡ (i + 1) * field_width = omega arith in
        rw (reads_more (field_count - i) (drop (i * field_width) s) (omega arith), n, drop-drop field_width (i * field_width) s, m, g) at q

    pub number_more : (x : ℤ) → f ≡ Some x
        → ahead (take (i + 1) (set ns i (to_z w64 (of_z w64 x)))) (read_numbers (field_count - (i + 1)) (drop ((i + 1) * field_width) s)) ≡ read_numbers field_count s
    number_more x g =
        let r : read_field (take field_width (drop (i * field_width) s)) ≡ Some x = sym e ∙ g in
        let t : take (i + 1) (set ns i (to_z w64 (of_z w64 x))) ≡ take i ns ++ (x ∷ []) =
        rw (range_back x (read_field_holds (take field_width (drop (i * field_width) s)) x r).1, add-one, take-suc-set ns i x (omega arith))
        in
        rw t (sym (ahead_joined (take i ns) x (read_numbers (field_count - (i + 1)) (drop ((i + 1) * field_width) s))) ∙ opened (Some x) r)

    pub number_none : f ≡ None → Bad ≡ read_line s
    number_none g = bad_line s (sym (opened None (sym e ∙ g)))

  module _ (h : field_count ≤ i) (k : i ≤ field_count) (w : length s ≡ line_length) where
    closed : (b : Bool) → eqb (get_or s (line_length - 1) 0) line_feed ≡ b → ahead ns (cond b (Some []) None) ≡ read_numbers field_count s
    unfolding same_bytes
    closed b g =
        let n : i ≡ field_count = omega arith in
        let t : take i ns ≡ ns = take_all i ns (omega arith) in
        let d : drop (i * field_width) s ≡ get_or s (line_length - 1) 0 ∷ [] =
        rw n (drop-cons s (line_length - 1) 0 (omega arith) ∙ rw (drop_of_length-le s {i = line_length} (omega arith)))
        in
        rw (reads_none (field_count - i) (drop (i * field_width) s) (omega arith), t, d, g, and-true) at q

    pub feed_none : (get_or s (line_length - 1) 0 ≡ line_feed → ⊥) → Bad ≡ read_line s
    feed_none g = bad_line s (sym (closed false (ne_eqb (get_or s (line_length - 1) 0) line_feed g)))

    pub feed_found : get_or s (line_length - 1) 0 ≡ line_feed
        → Six (record {
          n1 = to_z w64 (of_z w64 (get_or ns 0 (pos 0)));
          n2 = to_z w64 (of_z w64 (get_or ns 1 (pos 0)));
          n3 = to_z w64 (of_z w64 (get_or ns 2 (pos 0)));
          n4 = to_z w64 (of_z w64 (get_or ns 3 (pos 0)));
          n5 = to_z w64 (of_z w64 (get_or ns 4 (pos 0)));
          n6 = to_z w64 (of_z w64 (get_or ns 5 (pos 0)));
        }) ≡ read_line s
    unfolding read_line
    feed_found g =
        let r : read_numbers field_count s ≡ Some ns =
        sym (closed true (eq-eqb (get_or s (line_length - 1) 0) line_feed g)) ∙ rw append-nil
        in
        rw r (simp (ranges_back ns (read_line_holds field_count s ns r).range))
