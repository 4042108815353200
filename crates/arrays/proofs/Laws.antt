-- An array that one joins last. Assumes nothing.
use Prim.Native.Nat.{ℕ, ◌+◌, ◌≤◌, ◌<◌, min}
use mathlib.Core.Bool.{Bool, true, false, cond}
use mathlib.Core.List.{List}
use mathlib.Core.Path.{◌≡◌, refl}
use native.Mathlib.Omega.{arith}
use lib.Dec.{ltb}
use lib.ListN.{length, set}
use borrow.Author.Tests.{ltb-true}

-- what an array holds after one joined last, with how many that are, in a record f of both
pub joined : {A : Type 0} (f : List ℕ → ℕ → A) (l new : List ℕ) (x len n limit : ℕ) → limit ≤ 255 → length l ≡ limit
    → new ≡ cond (ltb len (length l)) (set l len x) l → n ≡ cond (ltb len (length l)) (min (len + 1) 255) len
    → f new n ≡ cond (ltb len limit) (f (set l len x) (len + 1)) (f l len)
joined {A} f l new x len n limit low long e d = rw (e, d, long) (go (ltb len limit) refl)
  where
    go : (b : Bool) → ltb len limit ≡ b → f (cond b (set l len x) l) (cond b (min (len + 1) 255) len) ≡ cond b (f (set l len x) (len + 1)) (f l len)
    go true t = let h : len < limit = ltb-true len limit t in let m : min (len + 1) 255 ≡ len + 1 = omega arith in rw m
    go false t = refl
