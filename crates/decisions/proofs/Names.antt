-- A name looked for among the n of a kind that have been created. Assumes nothing.
use Prim.Native.Nat.{ℕ, ◌+◌, ◌≤◌, ◌<◌}
use mathlib.Core.Path.{◌≡◌}
use mathlib.Core.Bool.{true, false}
use mathlib.Core.List.{List}
use native.Mathlib.Numerals.{add-one}
use lib.ListN.{length, get_or, drop, drop_of_length-le}
use lib.Seq.{drop-cons}
use Rattle.machine.specs.declared.Field.{Field}
use Rattle.machine.specs.Fields.{is_number}
use Rattle.machine.specs.Decisions.{name_taken}

-- a search from place i on, where x lies
module _ {A : Type 0} (name_of : A → ℕ) (name : Field) (l : List A) (i : ℕ) (x : A) where
  pub name_here : x ≡ get_or l i x → i < length l → is_number (name_of x) name ≡ true → name_taken name_of name (drop i l) ≡ true
  unfolding name_taken
  name_here e h t = rw (drop-cons l i x h, ← e, t)

  pub name_later : x ≡ get_or l i x → i < length l → is_number (name_of x) name ≡ false → name_taken name_of name (drop i l) ≡ name_taken name_of name (drop (i + 1) l)
  unfolding name_taken
  name_later e h f = rw (drop-cons l i x h, ← e, f, add-one)

pub name_nowhere : {A : Type 0} (name_of : A → ℕ) (name : Field) (l : List A) (i : ℕ) → length l ≤ i → name_taken name_of name (drop i l) ≡ false
unfolding name_taken
name_nowhere name_of name l i h = rw (drop_of_length-le l h)
