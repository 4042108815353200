use Prim.Native.Nat.{ℕ}
use mathlib.Core.Path.{◌≡◌}
use Rattle.std.proofs.Common.{fold}
use lib.ListN.{drop}
use Rattle.machine.specs.Ids.{members}
use Rattle.machine.specs.Partition.{preferred}
use Rattle.partition.proofs.greatest.Given as goal

abbrev pub invariant-loop-id : goal.invariant-loop-id
invariant-loop-id g l = (f : ℕ → ℕ) → ((x r : ℕ) → goal.F-post g l.priority x r → r ≡ f x) → fold (λ c id. preferred c id (f id)) l.best (drop l.id-index l.id-items) ≡ fold (λ c id. preferred c id (f id)) l.initial.best (members l.fn.q)
