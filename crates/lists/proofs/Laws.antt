-- A list filled in place with the ids that pass a test; the first that passes one. Assumes nothing.
use Prim.Native.Nat.{ℕ, ◌+◌, ◌-◌, ◌≤◌, ◌<◌, min}
use mathlib.Core.Path.{◌≡◌, ap, ◌∙◌}
use mathlib.Core.Bool.{Bool, true, false, cond}
use mathlib.Core.List.{List}
use native.Mathlib.Omega.{arith}
use native.Mathlib.Numerals.{add-one}
use lib.ListN.{length, get_or, set, take, drop, replicate, length-append, length-replicate, length-take, drop_of_length-le}
use lib.Seq.{drop-cons}
use lib.Dec.{ltb}
use Rattle.machine.specs.declared.Ids.{Ids}
use Rattle.machine.specs.Limits.{process_limit}
use Rattle.machine.specs.Ids.{ids_of, kept, appended}
use Rattle.machine.proofs.Lists.{scan_next, length_kept}
use Rattle.arrays.proofs.Laws.{joined}

-- ---------------------------------------------------------------- a list filled in place
-- the ids before place i of which f says true were found; what the code makes of them where it says so of the next, and where not
module _ (f : ℕ → Bool) (items : List ℕ) (i : ℕ) (found : Ids) (h : i < length items) (s : i < process_limit) (e : found ≡ ids_of (kept f (take i items))) where
  long : length found.items ≡ process_limit
  long =
      let l = kept f (take i items) in
      ap (λ (q : Ids). length q.items) e ∙ omega (arith, length-append l (replicate (process_limit - length l) 0), length-replicate {A = ℕ} (process_limit - length l) 0, length_kept f (take i items), length-take i items)

  pub kept_in : (new : List ℕ) (n : ℕ) → true ≡ f (get_or items i 0)
      → new ≡ cond (ltb found.len (length found.items)) (set found.items found.len (get_or items i 0)) found.items
      → n ≡ cond (ltb found.len (length found.items)) (min (found.len + 1) 255) found.len
      → record { items = new; len = n } ≡ ids_of (kept f (take (i + 1) items))
  unfolding appended
  kept_in new n t d m =
      joined {A = Ids} (λ (l : List ℕ) (k : ℕ). record { items = l; len = k }) found.items new (get_or items i 0) found.len n process_limit (omega arith) long d m
      ∙ ap (appended (get_or items i 0)) e ∙ scan_next f items i h s true t

  pub kept_out : false ≡ f (get_or items i 0) → found ≡ ids_of (kept f (take (i + 1) items))
  kept_out t = e ∙ scan_next f items i h s false t

-- ---------------------------------------------------------------- the first who wait
-- the first id from place i of a list on of which f says true
module _ (f : ℕ → Bool) (l : List ℕ) (i : ℕ) where
  pub first_here : i < length l → true ≡ f (get_or l i 0) → get_or (kept f (drop i l)) 0 0 ≡ get_or l i 0
  unfolding kept
  first_here h e = rw (drop-cons l i 0 h, ← e)

  pub first_later : i < length l → false ≡ f (get_or l i 0) → get_or (kept f (drop i l)) 0 0 ≡ get_or (kept f (drop (i + 1) l)) 0 0
  unfolding kept
  first_later h e = rw (drop-cons l i 0 h, add-one, ← e)

  pub first_none : length l ≤ i → get_or (kept f (drop i l)) 0 0 ≡ 0
  unfolding kept
  first_none h = rw (drop_of_length-le l h)
