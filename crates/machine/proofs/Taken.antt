-- The first n of a list that an array holds, as a loop goes through them. Assumes nothing.
use Prim.Native.Nat.{ℕ, ◌+◌, ◌≤◌, ◌<◌, min}
use mathlib.Core.Path.{◌≡◌, ap, sym, ◌∙◌}
use mathlib.Core.Bool.{true, false}
use mathlib.Core.List.{List, [], ◌∷◌, map}
use native.Mathlib.Omega.{arith}
use native.Mathlib.Numerals.{add-one}
use native.Mathlib.Nat.{min-eq_left, min-eq_right}
use lib.ListN.{length, get_or, take, drop, length-take, length-map, drop_of_length-le}
use lib.Seq.{drop-cons, get_or-take}
use Rattle.machine.specs.declared.Field.{Field}
use Rattle.machine.specs.Fields.{is_number}
use Rattle.machine.specs.Decisions.{name_taken}

-- the length of an array of structs: `search (rules, length_mapped)` finds it
pub length_mapped : (X Y : Type 0) (f : X → Y) (l : List X) (n : ℕ) → length (map f l) ≡ n → length l ≡ n
length_mapped X Y f l n h = sym (length-map l f) ∙ h

module _ {A : Type 0} (l : List A) (n limit : ℕ) (long : length l ≡ limit) where
  taken : length (take n l) ≡ min n limit
  taken = length-take n l ∙ ap (min n) long

  -- how many there are: n, the array's length at most
  pub taken_low : n < limit → (n ≡ length (take n l)) × (n ≤ limit)
  taken_low h = (sym (taken ∙ min-eq_left (omega arith)), omega arith)

  pub taken_high : limit ≤ n → (limit ≡ length (take n l)) × (limit ≤ limit)
  taken_high h = (sym (taken ∙ min-eq_right h), omega arith)

module _ {A : Type 0} (l : List A) (n i : ℕ) (d : A) where
  -- the element at place i, then what is left
  pub taken_more : i < length (take n l) → drop i (take n l) ≡ get_or l i d ∷ drop (i + 1) (take n l)
  taken_more h =
      let s : i < n = omega (arith, length-take n l) in
      rw (add-one, drop-cons (take n l) i d h, get_or-take n l i d s)

  pub taken_done : length (take n l) ≤ i → drop i (take n l) ≡ []
  taken_done h = drop_of_length-le (take n l) h

  module _ (name_of : A → ℕ) (name : Field) where
    pub name_found : i < length (take n l) → is_number (name_of (get_or l i d)) name ≡ true → name_taken name_of name (drop i (take n l)) ≡ true
    unfolding name_taken
    name_found h e = rw (taken_more h, e)

    pub name_more : i < length (take n l) → is_number (name_of (get_or l i d)) name ≡ false → name_taken name_of name (drop i (take n l)) ≡ name_taken name_of name (drop (i + 1) (take n l))
    unfolding name_taken
    name_more h e = rw (taken_more h, e)

    pub name_done : length (take n l) ≤ i → name_taken name_of name (drop i (take n l)) ≡ false
    unfolding name_taken
    name_done h = rw (taken_done h)
