use Prim.Native.Nat.{◌+◌, ◌-◌}
use mathlib.Core.Path.{◌≡◌}
use Rattle.partition.specs.Soonest.{soonest_from}
use Rattle.partition.proofs.soonest_of.Given as goal

abbrev pub invariant-loop-k : goal.invariant-loop-k
invariant-loop-k l = l.s ≡ soonest_from (l.p.process_count - l.k) (l.k + 1) l.p
