-- Going through a definition made of tests: on one side, or on two sides whose tests are equal. Assumes nothing.
use Prim.Native.Nat.{ℕ, zero, suc}
use mathlib.Core.Path.{◌≡◌, refl, sym, ap, ◌∙◌}
use mathlib.Core.Bool.{Bool, true, false, cond, ◌&&◌, ◌||◌, true≢false}
use mathlib.Core.List.{List, [], ◌∷◌, ◌++◌}
use native.Mathlib.Omega.{arith}
use lib.ListN.{length, get_or, set}
use lib.Dec.{leb}
use Rattle.machine.specs.Decisions.{checked, code_of}

module _ {A : Type 0} where
  pub by_test : (P : A → Type 0) (b : Bool) {x y : A} → (b ≡ true → P x) → (b ≡ false → P y) → P (cond b x y)
  by_test P true f g = f refl
  by_test P false f g = g refl

  pub by_tests : (R : A → A → Type 0) (b c : Bool) {x y u v : A} → b ≡ c → (b ≡ true → R x u) → (b ≡ false → R y v) → R (cond b x y) (cond c u v)
  by_tests R true true q f g = f refl
  by_tests R true false q f g = absurd (true≢false q)
  by_tests R false true q f g = absurd (true≢false (sym q))
  by_tests R false false q f g = g refl

  -- one place of two lists changed
  pub set_both : (R : A → A → Type 0) (l k : List A) (i j : ℕ) (a b d : A) → length l ≡ length k → (j ≡ i → R a b) → R (get_or l j d) (get_or k j d) → R (get_or (set l i a) j d) (get_or (set k i b) j d)
  set_both R [] [] i j a b d n h q = q
  set_both R [] (y ∷ k) i j a b d n h q = absurd (omega arith)
  set_both R (x ∷ l) [] i j a b d n h q = absurd (omega arith)
  set_both R (x ∷ l) (y ∷ k) zero zero a b d n h q = h refl
  set_both R (x ∷ l) (y ∷ k) zero (suc j) a b d n h q = q
  set_both R (x ∷ l) (y ∷ k) (suc i) zero a b d n h q = q
  set_both R (x ∷ l) (y ∷ k) (suc i) (suc j) a b d n h q = set_both R l k i j a b d (omega arith) (λ e. h (ap suc e)) q

pub or_left : (a b : Bool) → (a || b) ≡ false → a ≡ false
or_left true b e = e
or_left false b e = refl

pub or_right : (a b : Bool) → (a || b) ≡ false → b ≡ false
or_right true b e = absurd (true≢false e)
or_right false b e = e

-- a test is not both
pub not_both : {X : Type 0} (b : Bool) → b ≡ true → b ≡ false → X
not_both b t f = absurd (true≢false (sym t ∙ f))

pub and_left : (a b : Bool) → (a && b) ≡ true → a ≡ true
and_left true b e = refl
and_left false b e = e

pub and_right : (a b : Bool) → (a && b) ≡ true → b ≡ true
and_right true b e = e
and_right false b e = absurd (true≢false (sym e))

-- every test of a list of checks is passed
unfoldable pub Passed : List (Bool × ℕ) → Type 0
Passed [] = Unit {0}
Passed ((test, code) ∷ l) = (test ≡ false) × Passed l

pub passed_parts : (l k : List (Bool × ℕ)) → Passed (l ++ k) → Passed l × Passed k
unfolding Passed
passed_parts [] k h = (tt, h)
passed_parts ((test, code) ∷ l) k h = let r = passed_parts l k h.1 in ((h.0, r.0), r.1)

module _ {A : Type 0} where
  pub by_checks : (P : A → Type 0) (refuse : ℕ → A) (l : List (Bool × ℕ)) (accepted : A) → ((n : ℕ) → P (refuse n)) → (Passed l → P accepted) → P (checked refuse l accepted)
  unfolding checked Passed
  by_checks P refuse [] accepted f g = g tt
  by_checks P refuse ((test, code) ∷ l) accepted f g = by_test P test (λ e. f code) (λ e. by_checks P refuse l accepted f (λ h. g (e, h)))

  -- two sides with equal checks
  pub by_checks₂ : (R : A → A → Type 0) (refuse refuse' : ℕ → A) (l k : List (Bool × ℕ)) (x y : A) → l ≡ k → ((n : ℕ) → R (refuse n) (refuse' n)) → (Passed l → R x y) → R (checked refuse l x) (checked refuse' k y)
  unfolding checked Passed
  by_checks₂ R refuse refuse' l k x y q d f = rw (← q) (go l f)
    where
      go : (l : List (Bool × ℕ)) → (Passed l → R x y) → R (checked refuse l x) (checked refuse' l y)
      go [] f = f tt
      go ((test, code) ∷ l) f = by_tests R test test refl (λ e. d code) (λ e. go l (λ h. f (e, h)))

-- a test of every code that a list of checks can give
abbrev pub codes_in : (ℕ → Bool) → List (Bool × ℕ) → Bool
codes_in f [] = true
codes_in f ((test, code) ∷ l) = f code && codes_in f l

module _ {A : Type 0} where
  pub by_codes : (P : A → Type 0) (f : ℕ → Bool) (refuse : ℕ → A) (l : List (Bool × ℕ)) (accepted : A) → codes_in f l ≡ true → ((n : ℕ) → f n ≡ true → P (refuse n)) → (Passed l → P accepted) → P (checked refuse l accepted)
  unfolding checked Passed
  by_codes P f refuse [] accepted h d g = g tt
  by_codes P f refuse ((test, code) ∷ l) accepted h d g =
      by_test P test (λ e. d code (and_left (f code) (codes_in f l) h)) (λ e. by_codes P f refuse l accepted (and_right (f code) (codes_in f l) h) d (λ k. g (e, k)))

module _ {A : Type 0} (refuse : ℕ → A) where
  pub code_refuses : (l : List (Bool × ℕ)) (x : A) → (code_of l ≡ 0 → ⊥) → refuse (code_of l) ≡ checked refuse l x
  unfolding checked
  code_refuses [] x h = absurd (h refl)
  code_refuses ((true, n) ∷ l) x h = refl
  code_refuses ((false, n) ∷ l) x h = code_refuses l x h

  -- no check has code 0
  pub code_passes : (l : List (Bool × ℕ)) (x : A) → codes_in (leb 1) l ≡ true → code_of l ≡ 0 → (x ≡ checked refuse l x) × Passed l
  unfolding checked Passed
  code_passes [] x h z = (refl, tt)
  code_passes ((true, n) ∷ l) x h z = not_both _ (and_left (leb 1 n) (codes_in (leb 1) l) h) (ap (leb 1) z)
  code_passes ((false, n) ∷ l) x h z = let r = code_passes l x (and_right (leb 1 n) (codes_in (leb 1) l) h) z in (r.0, (refl, r.1))
