-- What is left of a queue's messages when the first has left, as a loop puts them into a new queue. Assumes nothing.
use Prim.Native.Nat.{ℕ, ◌+◌, ◌≤◌, ◌<◌}
use mathlib.Core.Path.{◌≡◌, refl, ap, sym, ◌∙◌}
use mathlib.Core.List.{List, [], ◌∷◌, ◌++◌}
use native.Mathlib.Omega.{arith}
use native.Mathlib.Numerals.{add-one}
use lib.ListN.{length, get_or, take, drop, length-take}
use lib.Seq.{take_all, take-suc}
use Rattle.machine.specs.Limits.{message_limit}
use Rattle.machine.specs.Messages.{queue_of, put}
use Rattle.machine.proofs.Lists.{put_queue_of}

-- one more of the rest
pub rest_more : (l : List ℕ) (i : ℕ) → i < length l → i < message_limit → put (get_or l i 0) (queue_of (take i l)) ≡ queue_of (take (i + 1) l)
rest_more l i more low =
    let short : length (take i l) < message_limit = omega (arith, length-take i l) in
    let next : take (i + 1) l ≡ take i l ++ (get_or l i 0 ∷ []) = rw (add-one, take-suc l i 0) in
    put_queue_of (take i l) (get_or l i 0) short ∙ ap queue_of (sym next)

-- nothing is left of what held at most one
pub rest_whole : (l : List ℕ) (i : ℕ) → length l ≤ i → take i l ≡ l
rest_whole l i h = take_all i l h

-- the rest of what a queue held, where there was a first, and where there was none
pub rest_of : (h : List ℕ) {l : List ℕ} {x : ℕ} {r : List ℕ} → l ≡ x ∷ r → l ≡ h → r ≡ drop 1 h
rest_of h e d = ap (drop 1) (sym e ∙ d)

pub rest_none : (h : List ℕ) → length h ≡ 0 → [] ≡ drop 1 h
rest_none [] e = refl
rest_none (x ∷ h) e = absurd (omega arith)
