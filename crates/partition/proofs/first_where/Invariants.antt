use Prim.Native.Nat.{ℕ}
use mathlib.Core.Path.{◌≡◌}
use mathlib.Core.Bool.{Bool}
use lib.ListN.{drop, get_or}
use Rattle.machine.specs.Ids.{members, kept}
use Rattle.partition.proofs.first_where.Given as goal

abbrev pub invariant-loop-id : goal.invariant-loop-id
invariant-loop-id g l = (f : ℕ → Bool) → ((x : ℕ) (r : Bool) → goal.F-post g l.test x r → r ≡ f x) → get_or (kept f (members l.fn.q)) 0 0 ≡ get_or (kept f (drop l.id-index l.id-items)) 0 0
