-- What a program gives back of an input that it holds whole, and of one that is too long. Assumes nothing.
use Prim.Native.Nat.{ℕ, ◌≤◌, ◌<◌}
use mathlib.Core.Path.{◌≡◌, refl}
use mathlib.Core.List.{List}
use borrow.Author.Tests.{lt-ltb, le-ltb}
use Rattle.whole_input.specs.WholeInput.{Printed, no_room, whole_limit, held_printed, held_into}

pub held : (n : ℕ) → n < whole_limit → (r p : Printed) (out text out' : List ℕ) → (r ≡ p) × (out' ≡ text) → (r ≡ held_printed n p) × (out' ≡ held_into n text out)
held n h r p out text out' e = rw (lt-ltb n whole_limit h) e

pub too_long_holds : (n : ℕ) → whole_limit ≤ n → (r p : Printed) (out text : List ℕ) → r ≡ no_room → (r ≡ held_printed n p) × (out ≡ held_into n text out)
too_long_holds n h r p out text e = rw (le-ltb n whole_limit h) (e, refl)
