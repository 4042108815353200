-- A part of a slice that was lent.
-- Assumes nothing.
use Prim.Native.Nat.{ℕ, ◌+◌, ◌-◌}
use mathlib.Core.Path.{◌≡◌, ◌∙◌, ap}
use mathlib.Core.List.{List, ◌++◌, append-nil}
use native.Mathlib.Omega.{arith}
use lib.ListN.{length, take, drop, length-drop, drop_of_length-le}
use lib.Seq.{take_all}
use borrow.Rule.Slice.PartMut.{put_mid}

-- the part [at..at + n]
pub part_is : (at n : ℕ) (l : List ℕ) → take (at + n - at) (drop at l) ≡ take n (drop at l)
part_is at n l = let e : at + n - at ≡ n = omega arith in rw e

-- the part [at..] is all that lies from at on
pub tail_is : (at : ℕ) (l : List ℕ) → take (length l - at) (drop at l) ≡ drop at l
tail_is at l = take_all (length l - at) (drop at l) (omega (arith, length-drop at l))

-- put back as m, the whole is what lies before at, and m
pub tail_put : (at : ℕ) (l m : List ℕ) → put_mid at (length l - at) l m ≡ take at l ++ m
tail_put at l m =
    ap (λ (r : List ℕ). take at l ++ (m ++ r)) (drop_of_length-le (drop at l) {i = length l - at} (omega (arith, length-drop at l)))
    ∙ ap (λ (r : List ℕ). take at l ++ r) (append-nil m)
