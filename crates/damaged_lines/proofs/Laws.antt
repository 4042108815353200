-- The container of the cases: what each loop has passed, and where a case lies. Assumes nothing.
use Prim.Native.Nat.{ℕ, ◌+◌, ◌-◌, ◌*◌, ◌≤◌, ◌<◌, min}
use mathlib.Core.Path.{◌≡◌, refl, sym, ◌∙◌}
use Rattle.std.specs.Prelude.{Option, None, Some}
use Rattle.std.specs.List.{position, position_or_len}
use mathlib.Core.Bool.{◌&&◌, and-eq-true_iff}
use mathlib.Core.List.{List, [], ◌∷◌}
use native.Mathlib.Omega.{arith}
use native.Mathlib.Numerals.{add-one}
use lib.ListN.{length, get_or, take, drop, length-drop, drop_of_length-le}
use lib.Seq.{drop-cons}
use lib.Dec.{eqb, ltb, leb}
use borrow.Author.Tests.{lt-ltb, le-ltb, le-leb, lt-leb, ltb-true, ltb-false, leb-true}
use Rattle.machine.specs.Line.{line_feed, space, zero_digit, base}
use Rattle.machine.proofs.Either.{either}
use Rattle.damaged_lines.specs.declared.Case.{Case}
use Rattle.damaged_lines.specs.Container.{bytes_before, place_of, longest, size_of, header_case, case_at}

before_placed : (b : ℕ) (l : List ℕ) → bytes_before b l ≡ position_or_len (λ x. eqb x b) l
unfolding bytes_before
before_placed b [] = refl
before_placed b (x ∷ l) = either (eqb x b) (λ t. rw t) (λ t. let e = before_placed b l in rw t (omega arith))

before_within : (b : ℕ) (l : List ℕ) → bytes_before b l ≤ length l
unfolding bytes_before
before_within b [] = omega arith
before_within b (x ∷ l) = let h = before_within b l in either (eqb x b) (λ t. rw t (omega arith)) (λ t. rw t (omega arith))

module _ (s : List ℕ) (b at : ℕ) where
  pub place_found : (i : ℕ) → position (λ x. eqb x b) (drop at s) ≡ Some i → at + i ≡ place_of b s at
  place_found i e =
      let p = position_or_len (λ x. eqb x b) (drop at s) in
      let q : bytes_before b (drop at s) ≡ p = before_placed b (drop at s) in
      either (ltb p (length (drop at s)))
      (λ t. let k : Some p ≡ Some i = rw t at e in let r : p ≡ i = cc in omega arith)
      (λ t. absurd (let k : None ≡ Some i = rw t at e in let z : ◌≡◌ {A = ℕ} 0 1 = cc in omega arith))

  pub place_none : at < length s → position (λ x. eqb x b) (drop at s) ≡ None → length s ≡ place_of b s at
  place_none h e =
      let p = position_or_len (λ x. eqb x b) (drop at s) in
      let q : bytes_before b (drop at s) ≡ p = before_placed b (drop at s) in
      either (ltb p (length (drop at s)))
      (λ t. absurd (let k : Some p ≡ None = rw t at e in let z : ◌≡◌ {A = ℕ} 0 1 = cc in omega arith))
      (λ t. omega (arith, ltb-false p (length (drop at s)) t, before_within b (drop at s), length-drop at s))

  pub place_past : length s ≤ at → at ≡ place_of b s at
  unfolding bytes_before
  place_past h = rw (drop_of_length-le s {i = at} h) (omega arith)

module _ (s : List ℕ) (i v r : ℕ) (q : size_of (drop i s) v ≡ r) where
  pub size_more : i < length s → (w : ℕ) → w ≡ min (v * base + (get_or s i 0 - zero_digit)) longest → size_of (drop (i + 1) s) w ≡ r
  unfolding size_of
  size_more h w e = rw (e, add-one) (rw (drop-cons s i 0 h) at q)

  pub size_done : length s ≤ i → v ≡ r
  unfolding size_of
  size_done h = rw (drop_of_length-le s {i = i} h) at q

module _ (input : List ℕ) (at name end : ℕ) (p : name ≡ place_of space input at) (q : end ≡ place_of line_feed input at) where
  pub no_name : end ≤ name → None ≡ case_at input at
  no_name h = rw (← p, ← q, le-ltb name end h)

  pub no_end : name < end → length input ≤ end → None ≡ case_at input at
  no_end n h = rw (← p, ← q, lt-ltb name end n, le-ltb end (length input) h)

  module _ (n : name < end) (h : end < length input) (size : ℕ) (r : size ≡ size_of (take (end - (name + 1)) (drop (name + 1) input)) 0) where
    pub cut_short : length input - (end + 1) < size → None ≡ case_at input at
    cut_short l = rw (← p, ← q, ← r, lt-ltb name end n, lt-ltb end (length input) h, lt-leb (end + 1 + size) (length input) (omega arith))

    pub case_found : size ≤ length input - (end + 1) → Some (record { name = name; body = end + 1; end = end + 1 + size }) ≡ case_at input at
    case_found l = rw (← p, ← q, ← r, lt-ltb name end n, lt-ltb end (length input) h, le-leb (end + 1 + size) (length input) (omega arith))

-- where a case lies
pub record Within (input : List ℕ) (at : ℕ) (c : Case) : Type 0 where
  pub named : at ≤ c.name
  pub headed : c.name < c.body
  pub sized : c.body ≤ c.end
  pub whole : c.end ≤ length input

pub case_within : (input : List ℕ) (at : ℕ) (f : Option Case) (c : Case) → f ≡ case_at input at → f ≡ Some c → Within input at c
case_within input at f c e q =
    either (ltb name end && (ltb end (length input) && leb d.end (length input)))
    (λ t.
    let r = (and-eq-true_iff (ltb name end) (ltb end (length input) && leb d.end (length input))).0 t in
    let s = (and-eq-true_iff (ltb end (length input)) (leb d.end (length input))).0 r.1 in
    let k : ◌≡◌ {A = Option Case} (Some d) (Some c) = sym (rw t at e) ∙ q in
    let l : d ≡ c = cc in
    rw (← l) (record { named = omega arith; headed = omega (arith, ltb-true name end r.0); sized = omega arith; whole = leb-true d.end (length input) s.1 }))
    (λ t. absurd (let k : ◌≡◌ {A = Option Case} None (Some c) = sym (rw t at e) ∙ q in let z : ◌≡◌ {A = ℕ} 0 1 = cc in omega arith))
  where
    name : ℕ
    name = place_of space input at

    end : ℕ
    end = place_of line_feed input at

    d : Case
    d = header_case input name end
