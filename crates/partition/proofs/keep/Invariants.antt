use Prim.Native.Nat.{ℕ}
use mathlib.Core.Path.{◌≡◌}
use mathlib.Core.Bool.{Bool}
use lib.ListN.{take}
use Rattle.machine.specs.Ids.{ids_of, kept}
use Rattle.partition.proofs.keep.Given as goal

abbrev pub invariant-loop-id : goal.invariant-loop-id
invariant-loop-id g l = (f : ℕ → Bool) → ((x : ℕ) (r : Bool) → goal.F-post g l.test x r → r ≡ f x) → l.found ≡ ids_of (kept f (take l.id-index l.id-items))
