-- A signed number by its tests, and six numbers that were passed by their bits. Assumes nothing.
use Prim.Native.Nat.{ℕ, zero, suc}
use mathlib.Core.Path.{◌≡◌, refl, sym, ap, ◌∙◌}
use mathlib.Core.Bool.{true, false}
use native.Mathlib.Omega.{arith}
use lib.Dec.{T}
use lib.IntN.{ℤ, pos, negsuc, nat_abs}
use lib.Signed.{lt_z, le_z, non_neg}
use mir.Syntax.{w64, w32}
use mir.Val.{to_z, of_z, SFits, Fits}
use mir.ValLaws.{to_z-of_z}
use borrow.Author.Tests.{ltb-true, leb-true}
use Rattle.machine.specs.declared.Field.{Field}
use Rattle.machine.specs.declared.Field.TheVariants.{Number, MinusOne, Other}
use Rattle.machine.specs.declared.Numbers.{Numbers}
use Rattle.machine.specs.Limits.{greatest_time}
use Rattle.machine.specs.declared.Event.{Event}
use Rattle.machine.specs.Fields.{field, row_of, request_of}

pub told : (z : ℤ) → SFits w64 z → (f : Field) → f ≡ field (to_z w64 (of_z w64 z)) → f ≡ field z
told z h f e = e ∙ ap field (to_z-of_z w64 z h)

pub row_told : (n : Numbers) (a b c d e f : Field) → a ≡ field n.n1 → b ≡ field n.n2 → c ≡ field n.n3 → d ≡ field n.n4 → e ≡ field n.n5 → f ≡ field n.n6
    → record { f1 = a; f2 = b; f3 = c; f4 = d; f5 = e; f6 = f } ≡ row_of n
row_told n a b c d e f p q r s t u = λ i. record { f1 = p i; f2 = q i; f3 = r i; f4 = s i; f5 = t i; f6 = u i }

-- −1 is stored as 2^64 − 1
pub minus_one_holds : (z : ℤ) → SFits w64 z → of_z w64 z ≡ 18446744073709551615 → MinusOne ≡ field z
minus_one_holds z f e = let q : z ≡ negsuc 0 = sym (to_z-of_z w64 z f) ∙ ap (to_z w64) e in rw q

pub below : (z : ℤ) → SFits w64 z → (of_z w64 z ≡ 18446744073709551615 → ⊥) → lt_z (to_z w64 (of_z w64 z)) (pos 0) ≡ true → Other ≡ field z
below z f n t = go z n (rw (to_z-of_z w64 z f) at t)
  where
    go : (z : ℤ) → (of_z w64 z ≡ 18446744073709551615 → ⊥) → lt_z z (pos 0) ≡ true → Other ≡ field z
    go (pos k) n t = absurd (omega (arith, ltb-true k 0 t))
    go (negsuc zero) n t = absurd (n refl)
    go (negsuc (suc k)) n t = refl

pub fits : (z : ℤ) → SFits w64 z → lt_z (to_z w64 (of_z w64 z)) (pos 0) ≡ false → le_z (to_z w64 (of_z w64 z)) (pos greatest_time) ≡ true
    → T (non_neg (to_z w64 (of_z w64 z))) × Fits w32 (nat_abs (to_z w64 (of_z w64 z)))
fits z f = rw (to_z-of_z w64 z f) (go z)
  where
    go : (z : ℤ) → lt_z z (pos 0) ≡ false → le_z z (pos greatest_time) ≡ true → T (non_neg z) × Fits w32 (nat_abs z)
    go (pos k) t l = let h = leb-true k greatest_time l in (tt, record { fits = omega arith })
    go (negsuc k) t l = absurd (let e : ◌≡◌ {A = ℕ} 0 1 = cc in omega arith)

pub number : (z : ℤ) → SFits w64 z → lt_z (to_z w64 (of_z w64 z)) (pos 0) ≡ false → le_z (to_z w64 (of_z w64 z)) (pos greatest_time) ≡ true → Number (nat_abs (to_z w64 (of_z w64 z))) ≡ field z
number z f = rw (to_z-of_z w64 z f) (go z)
  where
    go : (z : ℤ) → lt_z z (pos 0) ≡ false → le_z z (pos greatest_time) ≡ true → Number (nat_abs z) ≡ field z
    go (pos k) t l = rw l
    go (negsuc k) t l = absurd (let e : ◌≡◌ {A = ℕ} 0 1 = cc in omega arith)

pub beyond : (z : ℤ) → SFits w64 z → lt_z (to_z w64 (of_z w64 z)) (pos 0) ≡ false → le_z (to_z w64 (of_z w64 z)) (pos greatest_time) ≡ false → Other ≡ field z
beyond z f t l = go z (rw (to_z-of_z w64 z f) at t) (rw (to_z-of_z w64 z f) at l)
  where
    go : (z : ℤ) → lt_z z (pos 0) ≡ false → le_z z (pos greatest_time) ≡ false → Other ≡ field z
    go (pos k) t l = rw l
    go (negsuc k) t l = absurd (let e : ◌≡◌ {A = ℕ} 0 1 = cc in omega arith)

-- an event whose numbers were passed by their bits
pub request_told : (e : Event) → SFits w64 e.partition → SFits w64 e.call → SFits w64 e.a → SFits w64 e.b → SFits w64 e.c → SFits w64 e.e
    → record {
      partition = field (to_z w64 (of_z w64 e.partition));
      call = field (to_z w64 (of_z w64 e.call));
      a = field (to_z w64 (of_z w64 e.a));
      b = field (to_z w64 (of_z w64 e.b));
      c = field (to_z w64 (of_z w64 e.c));
      e = field (to_z w64 (of_z w64 e.e));
    } ≡ request_of e
request_told e p q r s t u = λ i. record {
  partition = field (to_z-of_z w64 e.partition p i);
  call = field (to_z-of_z w64 e.call q i);
  a = field (to_z-of_z w64 e.a r i);
  b = field (to_z-of_z w64 e.b s i);
  c = field (to_z-of_z w64 e.c t i);
  e = field (to_z-of_z w64 e.e u i);
}
