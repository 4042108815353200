-- Reading a field once from the left gives what its definition says.
-- Assumes nothing.
use Prim.Native.Nat.{ℕ, zero, suc, ◌+◌, ◌-◌, ◌*◌, ◌/◌, ◌^◌, ◌≤◌, ◌<◌}
use mathlib.Core.Path.{◌≡◌, refl, sym, ◌∙◌, ap}
use mathlib.Core.Bool.{true, false, cond, ◌&&◌, and-eq-true_iff, and-true}
use mathlib.Core.List.{List, [], ◌∷◌, ◌++◌}
use Rattle.std.specs.Prelude.{Option, None, Some}
use native.Mathlib.Omega.{arith}
use native.Mathlib.Nat.{add-zero, pow-suc, pow-succ', pow-le-pow_right, div-one, div-eq_of_lt, div-lt_iff_lt-mul, div-div-eq-div-mul, one-le-pow, pos_of_div-pos}
use native.Mathlib.Numerals.{add-one}
use Rattle.std.specs.List.{list_all}
use lib.ListN.{length, get_or, take, drop, replicate, length-drop, drop_of_length-le}
use lib.Seq.{drop-cons}
use mir.Syntax.{w64}
use mir.Val.{to_z}
use mir.ValLaws.{to_z_pos}
use lib.Dec.{eqb, leb, lit<}
use lib.IntN.{ℤ, pos, negsuc}
use borrow.Author.Tests.{eq-eqb, ne_eqb, le-leb, leb-true, leb-false, eqb-true, eqb-false}
use Rattle.machine.specs.Limits.{number_limit}
use Rattle.machine.specs.Line.{space, minus, zero_digit, base, field_width, in_range, column, mark_after, columns, last_digit, number_text, field_text, same_bytes, spelled, read_field}
use Rattle.machine.proofs.TextField.{columns_more, columns_none, same_true, field_read, read_field_holds}
use Rattle.machine.proofs.Either.{either}
use Rattle.line.specs.Scan.{digits_from, only, number_from, first_from, scanned}

-- ---------------------------------------------------------------- columns from the left
mark_space : (rest : ℕ) → mark_after rest space ≡ space
unfolding mark_after
mark_space rest = either (eqb rest 0) (λ e. rw e) (λ e. rw e)

-- one more digit divided off
div_more : (n k : ℕ) → n / base ^ suc k ≡ n / base ^ k / base
div_more n k = rw pow-suc (sym (div-div-eq-div-mul n (base ^ k) base))

columns_left : (k n : ℕ) → columns (suc k) n space ≡ column (n / base ^ k) space ∷ columns k n space
unfolding columns
columns_left zero n = rw (div-one n)
columns_left (suc k) n =
    let e : n / base / base ^ k ≡ n / base ^ suc k = div-div-eq-div-mul n base (base ^ k) ∙ ap (λ (x : ℕ). n / x) (sym (pow-succ' base k)) in
    rw (mark_space, columns_left k (n / base), e)

some_column : (q : ℕ) → 0 < q → column q space ≡ last_digit q
unfolding column
some_column q h = rw (ne_eqb q 0 (λ e. omega arith))

no_column : column 0 space ≡ space
unfolding column
no_column = refl

-- the columns of a number that is not 0
columns_text : (n : ℕ) → 0 < n → number_text n space ≡ columns field_width n space
unfolding number_text
columns_text n h = rw (columns_more field_width n space (omega arith), mark_space n, some_column n h)

-- ---------------------------------------------------------------- a number's text, read
digit_more : (q v : ℕ) (bs : List ℕ) → 0 < q → q / base ≡ v → digits_from (last_digit q ∷ bs) v ≡ digits_from bs q
unfolding digits_from
digit_more q v bs h e =
    let w : v * base + (last_digit q - zero_digit) ≡ q = omega arith in
    rw (le-leb zero_digit (last_digit q) (omega arith), le-leb (last_digit q) (last_digit 9) (omega arith), w)

digits_columns : (k n : ℕ) → 0 < n / base ^ k → digits_from (columns k n space) (n / base ^ k) ≡ Some (pos n)
unfolding digits_from
digits_columns zero n h = rw (columns_none 0 n space (omega arith), div-one n)
digits_columns (suc k) n h =
    let e : n / base ^ suc k ≡ n / base ^ k / base = div_more n k in
    let p : 0 < n / base ^ k = omega arith in
    rw (columns_left k n, some_column (n / base ^ k) p)
    (digit_more (n / base ^ k) (n / base ^ suc k) (columns k n space) p (sym e) ∙ digits_columns k n p)

first_space : (bs : List ℕ) → first_from (column 0 space ∷ bs) ≡ first_from bs
unfolding first_from column
first_space bs = refl

first_digit : (q : ℕ) (bs : List ℕ) → 0 < q → q < base → first_from (last_digit q ∷ bs) ≡ digits_from bs q
unfolding first_from number_from
first_digit q bs h l =
    rw (ne_eqb (last_digit q) space (λ e. omega arith), ne_eqb (last_digit q) minus (λ e. omega arith), ne_eqb (last_digit q) zero_digit (λ e. omega arith))
    (digit_more q 0 bs h (omega arith))

pow_some : (k : ℕ) → 0 < base ^ k
pow_some k = omega (arith, one-le-pow k base (lit< tt))

first_columns : (k n : ℕ) → 0 < n → n < base ^ k → first_from (columns k n space) ≡ Some (pos n)
first_columns zero n h l = absurd (omega arith)
first_columns (suc k) n h l =
    let p : base ^ suc k ≡ base * base ^ k = pow-succ' base k in
    rw (columns_left k n)
    (either (eqb (n / base ^ k) 0)
    (λ e.
    let z : n / base ^ k ≡ 0 = eqb-true (n / base ^ k) 0 e in
    let m : n < 1 * base ^ k = (div-lt_iff_lt-mul {k = base ^ k} {x = n} {y = 1} (pow_some k)).0 (omega arith) in
    rw z (first_space (columns k n space) ∙ first_columns k n h (omega arith)))
    (λ e.
    let s : 0 < n / base ^ k = let f = eqb-false (n / base ^ k) 0 e in either (leb (n / base ^ k) 0) (λ t. absurd (f (omega (arith, leb-true (n / base ^ k) 0 t)))) (λ t. omega (arith, leb-false (n / base ^ k) 0 t)) in
    let m : n / base ^ k < base = (div-lt_iff_lt-mul {k = base ^ k} {x = n} {y = base} (pow_some k)).1 (omega arith) in
    rw (some_column (n / base ^ k) s) (first_digit (n / base ^ k) (columns k n space) s m ∙ digits_columns k n s)))

scanned_number : (n : ℕ) → 0 < n → n ≤ number_limit → scanned (number_text n space) ≡ Some (pos n)
unfolding scanned column
scanned_number n h l =
    rw (columns_text n h, columns_left (field_width - 1) n, div-eq_of_lt {n = n} {m = base ^ (field_width - 1)} (omega arith))
    (first_columns (field_width - 1) n h (omega arith))

scanned_text : (z : ℤ) → in_range z ≡ true → scanned (field_text z) ≡ Some z
unfolding in_range field_text scanned first_from number_from only digits_from number_text columns column mark_after same_bytes
scanned_text (pos zero) r = refl
scanned_text (pos (suc n)) r = scanned_number (suc n) (omega arith) (leb-true (suc n) number_limit r)
scanned_text (negsuc n) r = rw (eqb-true n 0 r)

-- ---------------------------------------------------------------- what was read is the text of its number
no_number : {P : Type 0} (z : ℤ) → None ≡ Some z → P
no_number z e = absurd (let q : ◌≡◌ {A = ℕ} 0 1 = cc in omega arith)

digits_step : (b : ℕ) (bs : List ℕ) (v : ℕ) (z : ℤ) → digits_from (b ∷ bs) v ≡ Some z
    → (zero_digit ≤ b) × (b ≤ last_digit 9) × (digits_from bs (v * base + (b - zero_digit)) ≡ Some z)
unfolding digits_from
digits_step b bs v z e =
    either (leb zero_digit b && leb b (last_digit 9))
    (λ t.
    let d = (and-eq-true_iff (leb zero_digit b) (leb b (last_digit 9))).0 t in
    (leb-true zero_digit b d.0, leb-true b (last_digit 9) d.1, rw t at e))
    (λ t. no_number z (rw t at e))

column_step : (b : ℕ) (bs : List ℕ) (v n : ℕ) → zero_digit ≤ b → b ≤ last_digit 9 → 0 < v * base + (b - zero_digit)
    → n / base ^ length bs ≡ v * base + (b - zero_digit) → bs ≡ columns (length bs) n space
    → b ∷ bs ≡ columns (suc (length bs)) n space
column_step b bs v n lo hi h q e =
    let c : column (n / base ^ length bs) space ≡ b = rw (q, some_column (v * base + (b - zero_digit)) h) (omega arith) in
    sym (columns_left (length bs) n ∙ rw c (ap (◌∷◌ b) (sym e)))

digits_back : (bs : List ℕ) (v : ℕ) (z : ℤ) → 0 < v → digits_from bs v ≡ Some z
    → (z ≡ pos (spelled bs v)) × (spelled bs v / base ^ length bs ≡ v) × (bs ≡ columns (length bs) (spelled bs v) space)
unfolding digits_from spelled
digits_back [] v z h e = (cc, div-one v, sym (columns_none 0 v space (omega arith)))
digits_back (b ∷ bs) v z h e =
    let s = digits_step b bs v z e in
    let p : 0 < v * base + (b - zero_digit) = omega arith in
    let lo : zero_digit ≤ b = s.0 in
    let hi : b ≤ last_digit 9 = s.1 in
    let r = digits_back bs (v * base + (b - zero_digit)) z p s.2 in
    let n : ℕ = spelled bs (v * base + (b - zero_digit)) in
    (r.0, div_more n (length bs) ∙ rw r.1 (omega arith), column_step b bs v n lo hi p r.1 r.2)

spaces_columns : (m k n : ℕ) → n < base ^ k → replicate m space ++ columns k n space ≡ columns (m + k) n space
spaces_columns zero k n h = let e : 0 + k ≡ k = omega arith in rw e
spaces_columns (suc m) k n h =
    let e : suc m + k ≡ suc (m + k) = omega arith in
    let p : base ^ k ≤ base ^ (m + k) = pow-le-pow_right (lit< tt) {i = k} {j = m + k} (omega arith) in
    rw (e, columns_left (m + k) n, div-eq_of_lt {n = n} {m = base ^ (m + k)} (omega arith), no_column)
    (ap (◌∷◌ space) (spaces_columns m k n h))

space_in : (m : ℕ) (bs : List ℕ) → replicate m space ++ (space ∷ bs) ≡ replicate (suc m) space ++ bs
space_in zero bs = refl
space_in (suc m) bs = ap (◌∷◌ space) (space_in m bs)

only_back : (l : List ℕ) (y : ℤ) (bs : List ℕ) (z : ℤ) → only l y bs ≡ Some z → (bs ≡ l) × (z ≡ y)
unfolding only
only_back l y bs z e =
    either (same_bytes bs l)
    (λ t. let s : Some y ≡ Some z = rw t at e in (same_true bs l t, cc))
    (λ t. no_number z (rw t at e))

module _ (m b : ℕ) (bs : List ℕ) (z : ℤ) (h : 0 < m) (k : m + suc (length bs) ≡ field_width) where
  minus_text : m ≡ 8 → b ≡ minus → bs ≡ last_digit 1 ∷ [] → z ≡ negsuc 0 → (replicate m space ++ (b ∷ bs) ≡ field_text z) × (in_range z ≡ true)
  unfolding in_range field_text number_text columns column mark_after
  minus_text w x y q = rw (w, x, y, q) (refl, refl)

  zero_text : m ≡ 9 → b ≡ zero_digit → bs ≡ [] → z ≡ pos 0 → (replicate m space ++ (b ∷ bs) ≡ field_text z) × (in_range z ≡ true)
  unfolding in_range field_text number_text columns column mark_after
  zero_text w x y q = rw (w, x, y, q) (refl, refl)

  digits_text : (b ≡ zero_digit → ⊥) → digits_from (b ∷ bs) 0 ≡ Some z → (replicate m space ++ (b ∷ bs) ≡ field_text z) × (in_range z ≡ true)
  unfolding in_range field_text
  digits_text f e =
      let s = digits_step b bs 0 z e in
      let lo : zero_digit ≤ b = s.0 in
      let hi : b ≤ last_digit 9 = s.1 in
      let p : 0 < 0 * base + (b - zero_digit) = omega (arith, f) in
      let r = digits_back bs (0 * base + (b - zero_digit)) z p s.2 in
      let n : ℕ = spelled bs (0 * base + (b - zero_digit)) in
      let q : n / base ^ length bs ≡ 0 * base + (b - zero_digit) = r.1 in
      let c : b ∷ bs ≡ columns (suc (length bs)) n space = column_step b bs 0 n lo hi p q r.2 in
      let i : 0 < n = pos_of_div-pos {n = n} (base ^ length bs) (omega arith) in
      let j : n < base * base ^ length bs = (div-lt_iff_lt-mul {k = base ^ length bs} {x = n} {y = base} (pow_some (length bs))).0 (omega arith) in
      let w : base ^ suc (length bs) ≡ base * base ^ length bs = pow-succ' base (length bs) in
      let g : base ^ suc (length bs) ≤ base ^ (field_width - 1) = pow-le-pow_right (lit< tt) {i = suc (length bs)} {j = field_width - 1} (omega arith) in
      rw r.0 (
        ap (λ (x : List ℕ). replicate m space ++ x) c
            ∙ spaces_columns m (suc (length bs)) n (omega arith)
            ∙ ap (λ (x : ℕ). columns x n space) k
            ∙ sym (columns_text n i),
        le-leb n number_limit (omega arith),
      )

  number_back : number_from (b ∷ bs) ≡ Some z → (replicate m space ++ (b ∷ bs) ≡ field_text z) × (in_range z ≡ true)
  unfolding number_from
  number_back e =
      either (eqb b minus)
      (λ t.
      let r = only_back (last_digit 1 ∷ []) (negsuc 0) bs z (rw t at e) in
      let n : length bs ≡ 1 = ap length r.0 in
      let w : m ≡ 8 = omega arith in
      minus_text w (eqb-true b minus t) r.0 r.1)
      (λ t.
      either (eqb b zero_digit)
      (λ u.
      let r = only_back [] (pos 0) bs z (rw (t, u) at e) in
      let n : length bs ≡ 0 = ap length r.0 in
      let w : m ≡ 9 = omega arith in
      zero_text w (eqb-true b zero_digit u) r.0 r.1)
      (λ u. digits_text (eqb-false b zero_digit u) (rw (t, u) at e)))

first_back : (m : ℕ) (bs : List ℕ) (z : ℤ) → 0 < m → m + length bs ≡ field_width → first_from bs ≡ Some z
    → (replicate m space ++ bs ≡ field_text z) × (in_range z ≡ true)
unfolding first_from
first_back m [] z h k e = no_number z e
first_back m (b ∷ bs) z h k e =
    either (eqb b space)
    (λ t.
    let r = first_back (suc m) bs z (omega arith) (omega arith) (rw t at e) in
    (rw (eqb-true b space t) (space_in m bs ∙ r.0), r.1))
    (λ t. number_back m b bs z h (omega arith) (rw t at e))

scanned_back : (bs : List ℕ) (z : ℤ) → length bs ≡ field_width → scanned bs ≡ Some z → (bs ≡ field_text z) × (in_range z ≡ true)
unfolding scanned
scanned_back [] z h e = no_number z e
scanned_back (b ∷ bs) z h e =
    either (eqb b space)
    (λ t. let r = first_back 1 bs z (omega arith) (omega arith) (rw t at e) in (rw (eqb-true b space t) r.0, r.1))
    (λ t. no_number z (rw t at e))

-- reading once gives what the definition says
pub scanned_field : (bs : List ℕ) → length bs ≡ field_width → scanned bs ≡ read_field bs
scanned_field bs h = go (scanned bs) refl (read_field bs) refl
  where
    go : (f : Option ℤ) → scanned bs ≡ f → (r : Option ℤ) → read_field bs ≡ r → scanned bs ≡ read_field bs
    go f e (Some z) q =
        let p = read_field_holds bs z q in
        rw q (ap scanned p.0 ∙ scanned_text z p.1)
    go None e None q = rw q e
    go (Some z) e None q =
        let p = scanned_back bs z h e in
        absurd (let s : None ≡ Some z = sym q ∙ ap read_field p.0 ∙ field_read z p.1 in let t : ◌≡◌ {A = ℕ} 0 1 = cc in omega arith)

-- ---------------------------------------------------------------- what the code's tests say
module _ (l : List ℕ) (h : length l ≡ field_width) where
  scanned_at : cond (eqb (get_or l 0 0) space) (first_from (drop 1 l)) None ≡ read_field l
  unfolding scanned
  scanned_at = ap scanned (sym (drop-cons l 0 0 (omega arith))) ∙ scanned_field l h

  pub other_first : (get_or l 0 0 ≡ space → ⊥) → None ≡ read_field l
  other_first n = rw (ne_eqb (get_or l 0 0) space n) at scanned_at

  pub space_first : get_or l 0 0 ≡ space → first_from (drop 1 l) ≡ read_field l
  space_first n = rw (eq-eqb (get_or l 0 0) space n) at scanned_at

module _ (l : List ℕ) (i : ℕ) (r : Option ℤ) (e : first_from (drop i l) ≡ r) where
  first_at : i < length l → cond (eqb (get_or l i 0) space) (first_from (drop (i + 1) l)) (number_from (drop i l)) ≡ r
  unfolding first_from
  first_at h = rw (add-one, drop-cons l i 0 h) (rw (drop-cons l i 0 h) at e)

  pub space_more : i < length l → get_or l i 0 ≡ space → first_from (drop (i + 1) l) ≡ r
  space_more h n = rw (eq-eqb (get_or l i 0) space n) at (first_at h)

  pub number_here : i < length l → (get_or l i 0 ≡ space → ⊥) → number_from (drop i l) ≡ r
  number_here h n = rw (ne_eqb (get_or l i 0) space n) at (first_at h)

  -- a space in the last column is no number either
  pub last_here : suc i ≡ length l → number_from (drop i l) ≡ r
  unfolding first_from number_from digits_from
  last_here h =
      either (eqb (get_or l i 0) space)
      (λ t.
      let d : drop i l ≡ space ∷ [] =
      drop-cons l i 0 (omega arith) ∙ rw (eqb-true (get_or l i 0) space t, drop_of_length-le l {i = suc i} (omega arith))
      in
      rw d (rw d at e))
      (λ t. number_here (omega arith) (eqb-false (get_or l i 0) space t))

-- the last column alone: a digit, or no number
alone : (b : ℕ) → digits_from (b ∷ []) 0 ≡ first_from (b ∷ [])
unfolding digits_from first_from number_from only same_bytes
alone b =
    either (eqb b space)
    (λ t. rw (eqb-true b space t))
    (λ n.
    either (eqb b minus)
    (λ t. rw (eqb-true b minus t))
    (λ m. either (eqb b zero_digit) (λ t. rw (eqb-true b zero_digit t)) (λ z. rw (n, m, z))))

pub last_alone : (l : List ℕ) → length l ≡ field_width → digits_from (drop (field_width - 1) l) 0 ≡ first_from (drop (field_width - 1) l)
last_alone l h =
    let d : drop (field_width - 1) l ≡ get_or l (field_width - 1) 0 ∷ [] =
    drop-cons l (field_width - 1) 0 (omega arith) ∙ rw (drop_of_length-le l {i = field_width} (omega arith))
    in
    rw d (alone (get_or l (field_width - 1) 0))

-- from the first byte that is no space on
module _ (l : List ℕ) (h : 1 ≤ length l) where
  number_at : number_from l
      ≡ cond (eqb (get_or l 0 0) minus) (only (last_digit 1 ∷ []) (negsuc 0) (drop 1 l)) (cond (eqb (get_or l 0 0) zero_digit) (only [] (pos 0) (drop 1 l)) (digits_from l 0))
  unfolding number_from
  number_at = go l h
    where
      go : (l : List ℕ) → 1 ≤ length l
          → number_from l
          ≡ cond (eqb (get_or l 0 0) minus) (only (last_digit 1 ∷ []) (negsuc 0) (drop 1 l)) (cond (eqb (get_or l 0 0) zero_digit) (only [] (pos 0) (drop 1 l)) (digits_from l 0))
      go [] h = absurd (omega arith)
      go (b ∷ bs) h = refl

  only_other : (m : List ℕ) (z : ℤ) (bs : List ℕ) → (length bs ≡ length m → ⊥) → None ≡ only m z bs
  unfolding only
  only_other m z bs n = either (same_bytes bs m) (λ t. absurd (n (ap length (same_true bs m t)))) (λ t. rw t)

  module _ (s : get_or l 0 0 ≡ minus) where
    minus_at : number_from l ≡ only (last_digit 1 ∷ []) (negsuc 0) (drop 1 l)
    minus_at = number_at ∙ rw (eq-eqb (get_or l 0 0) minus s)

    pub minus_far : (length l ≡ 2 → ⊥) → None ≡ number_from l
    minus_far n = rw minus_at (only_other (last_digit 1 ∷ []) (negsuc 0) (drop 1 l) (λ e. n (omega (arith, length-drop 1 l))))

    module _ (w : length l ≡ 2) where
      last_at : only (last_digit 1 ∷ []) (negsuc 0) (drop 1 l) ≡ cond (eqb (get_or l 1 0) (last_digit 1)) (Some (negsuc 0)) None
      unfolding only same_bytes
      last_at = rw (drop-cons l 1 0 (omega arith), drop_of_length-le l {i = 2} (omega arith), and-true)

      pub minus_other : (get_or l 1 0 ≡ last_digit 1 → ⊥) → None ≡ number_from l
      minus_other n = rw (minus_at, last_at, ne_eqb (get_or l 1 0) (last_digit 1) n)

      pub minus_one_holds : get_or l 1 0 ≡ last_digit 1 → Some (negsuc 0) ≡ number_from l
      minus_one_holds n = rw (minus_at, last_at, eq-eqb (get_or l 1 0) (last_digit 1) n)

  module _ (s : get_or l 0 0 ≡ minus → ⊥) where
    pub digits_at : (get_or l 0 0 ≡ zero_digit → ⊥) → digits_from l 0 ≡ number_from l
    digits_at n = sym (number_at ∙ rw (ne_eqb (get_or l 0 0) minus s, ne_eqb (get_or l 0 0) zero_digit n))

  module _ (n : get_or l 0 0 ≡ zero_digit) where
    zero_at : number_from l ≡ only [] (pos 0) (drop 1 l)
    zero_at = number_at ∙ rw (ne_eqb (get_or l 0 0) minus (λ e. omega arith), eq-eqb (get_or l 0 0) zero_digit n)

    pub zero_leads : (length l ≡ 1 → ⊥) → None ≡ number_from l
    zero_leads j = rw zero_at (only_other [] (pos 0) (drop 1 l) (λ e. j (omega (arith, length-drop 1 l))))

    pub zero_alone : length l ≡ 1 → Some (pos 0) ≡ number_from l
    unfolding only same_bytes
    zero_alone j = rw (zero_at, drop_of_length-le l {i = 1} (omega arith))

-- the digits
module _ (l : List ℕ) (i v : ℕ) (r : Option ℤ) (e : digits_from (drop i l) v ≡ r) where
  module _ (h : i < length l) where
    digit_at : cond (leb zero_digit (get_or l i 0) && leb (get_or l i 0) (last_digit 9)) (digits_from (drop (suc i) l) (v * base + (get_or l i 0 - zero_digit))) None ≡ r
    unfolding digits_from
    digit_at = rw (drop-cons l i 0 h) at e

    pub no_digit : (leb zero_digit (get_or l i 0) && leb (get_or l i 0) (last_digit 9)) ≡ false → None ≡ r
    no_digit n = rw n at digit_at

    pub digit_read : (leb zero_digit (get_or l i 0) && leb (get_or l i 0) (last_digit 9)) ≡ true → digits_from (drop (i + 1) l) (v * base + (get_or l i 0 - zero_digit)) ≡ r
    digit_read n = rw add-one (rw n at digit_at)

  pub digits_end : length l ≤ i → v ≤ base ^ field_width → Some (to_z w64 v) ≡ r
  unfolding digits_from
  digits_end h b = ap Some (to_z_pos w64 v (omega arith)) ∙ rw (drop_of_length-le l {i = i} h) at e

-- ten digits at most
pub digits_bound : (i v d : ℕ) → d ≤ 9 → v < base ^ i → v * base + d < base ^ (i + 1)
digits_bound i v d k h = let p : base ^ (i + 1) ≡ base * base ^ i = rw add-one (pow-succ' base i) in omega arith

pub digits_fit : (i v : ℕ) → i ≤ field_width → v < base ^ i → v ≤ base ^ field_width
digits_fit i v k h =
    let p : base ^ i ≤ base ^ field_width = pow-le-pow_right (lit< tt) {i = i} {j = field_width} k in
    omega arith

-- ---------------------------------------------------------------- spaces at the front
pub spaces_skipped : (n i : ℕ) (l : List ℕ) → i + n ≤ length l → list_all (λ b. eqb b space) (take n (drop i l)) ≡ true → first_from (drop (i + n) l) ≡ first_from (drop i l)
unfolding first_from
spaces_skipped zero i l h e = rw add-zero
spaces_skipped (suc n) i l h e =
    let d : drop i l ≡ get_or l i 0 ∷ drop (suc i) l = drop-cons l i 0 (omega arith) in
    let s = (and-eq-true_iff (eqb (get_or l i 0) space) (list_all (λ b. eqb b space) (take n (drop (suc i) l)))).0 (rw d at e) in
    let k : i + suc n ≡ suc i + n = omega arith in
    rw (k, d, s.0) (spaces_skipped n (suc i) l (omega arith) s.1)
