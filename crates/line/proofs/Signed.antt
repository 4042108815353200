-- Signed numbers: what the code's tests of an i64 say of it.
-- Assumes nothing.
use Prim.Native.Nat.{ℕ, zero, suc, ◌≤◌}
use mathlib.Core.Path.{◌≡◌, refl, sym, ◌∙◌, ap}
use mathlib.Core.Bool.{true, false, and-eq-true_iff}
use mathlib.Core.List.{List, [], ◌∷◌}
use native.Mathlib.Omega.{arith}
use lib.ListN.{get_or}
use lib.Dec.{T}
use lib.IntN.{ℤ, pos, negsuc, nat_abs}
use lib.Signed.{lt_z, le_z, non_neg}
use mir.Syntax.{w64}
use mir.Val.{to_z, of_z, SFits, Fits}
use mir.ValLaws.{to_z-of_z}
use borrow.Author.Tests.{leb-true, ltb-true, eqb-true, ne_eqb}
use Rattle.machine.specs.Limits.{number_limit}
use Rattle.machine.specs.Line.{space, minus, in_range, number_text, field_text, all_in_range}

-- the bits of −1
abbrev ones : ℕ
ones = of_z w64 (negsuc 0)

module _ (z : ℤ) (f : SFits w64 z) where
  minus_one_holds : of_z w64 z ≡ ones → z ≡ negsuc 0
  minus_one_holds e = sym (to_z-of_z w64 z f) ∙ ap (to_z w64) e

  pub minus_one_in : of_z w64 z ≡ ones → true ≡ in_range z
  unfolding in_range
  minus_one_in e = rw (minus_one_holds e)

  pub minus_one_text : of_z w64 z ≡ ones → number_text 1 minus ≡ field_text z
  unfolding field_text
  minus_one_text e = rw (minus_one_holds e)

  pub below_out : (of_z w64 z ≡ ones → ⊥) → lt_z (to_z w64 (of_z w64 z)) (pos 0) ≡ true → false ≡ in_range z
  unfolding in_range
  below_out n t = go z n (rw (to_z-of_z w64 z f) at t)
    where
      go : (z : ℤ) → (of_z w64 z ≡ ones → ⊥) → lt_z z (pos 0) ≡ true → false ≡ in_range z
      go (pos k) n t = absurd (omega (arith, ltb-true k 0 t))
      go (negsuc k) n t = sym (ne_eqb k 0 (λ e. n (rw e)))

  pub above_in_holds : lt_z (to_z w64 (of_z w64 z)) (pos 0) ≡ false → le_z (to_z w64 (of_z w64 z)) (pos number_limit) ≡ in_range z
  unfolding in_range
  above_in_holds t = rw (to_z-of_z w64 z f) (go z (rw (to_z-of_z w64 z f) at t))
    where
      go : (z : ℤ) → lt_z z (pos 0) ≡ false → le_z z (pos number_limit) ≡ in_range z
      go (pos k) t = refl
      go (negsuc k) t = absurd (let e : ◌≡◌ {A = ℕ} 0 1 = cc in omega arith)

  -- a number in range that is not −1 is its own magnitude
  own_magnitude : (P : ℤ → Type 0) → in_range z ≡ true → (of_z w64 z ≡ ones → ⊥) → ((n : ℕ) → n ≤ number_limit → P (pos n)) → P (to_z w64 (of_z w64 z))
  unfolding in_range
  own_magnitude P r m g = rw (to_z-of_z w64 z f) (go z r m)
    where
      go : (z : ℤ) → in_range z ≡ true → (of_z w64 z ≡ ones → ⊥) → P z
      go (pos n) r m = g n (leb-true n number_limit r)
      go (negsuc n) r m = absurd (let e : n ≡ 0 = eqb-true n 0 r in m (rw e))

  pub magnitude_fits : in_range z ≡ true → (of_z w64 z ≡ ones → ⊥) → T (non_neg (to_z w64 (of_z w64 z))) × Fits w64 (nat_abs (to_z w64 (of_z w64 z)))
  magnitude_fits r m =
      own_magnitude (λ (x : ℤ). T (non_neg x) × Fits w64 (nat_abs x)) r m (λ n h. (tt, record { fits = omega arith }))

  pub magnitude_text : in_range z ≡ true → (of_z w64 z ≡ ones → ⊥) → number_text (nat_abs (to_z w64 (of_z w64 z))) space ≡ field_text z
  unfolding field_text
  magnitude_text r m =
      own_magnitude (λ (x : ℤ). number_text (nat_abs x) space ≡ field_text x) r m (λ n h. refl) ∙ ap field_text (to_z-of_z w64 z f)

-- a number in range that comes back from its bits
pub range_back : (z : ℤ) → in_range z ≡ true → to_z w64 (of_z w64 z) ≡ z
unfolding in_range
range_back (pos n) r = to_z-of_z w64 (pos n) (record { sfits = omega (arith, leb-true n number_limit r) })
range_back (negsuc n) r = rw (eqb-true n 0 r)

pub ranges_back : (zs : List ℤ) → all_in_range zs ≡ true → (k : ℕ) → to_z w64 (of_z w64 (get_or zs k (pos 0))) ≡ get_or zs k (pos 0)
unfolding all_in_range
ranges_back [] r k = refl
ranges_back (z ∷ zs) r zero = range_back z ((and-eq-true_iff (in_range z) (all_in_range zs)).0 r).0
ranges_back (z ∷ zs) r (suc k) = ranges_back zs ((and-eq-true_iff (in_range z) (all_in_range zs)).0 r).1 k
