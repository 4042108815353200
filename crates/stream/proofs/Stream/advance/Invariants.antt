use Prim.Native.Nat.{◌-◌}
use lib.ListN.{length}
use Rattle.stream.proofs.Chunks.{Advancing}
use Rattle.stream.proofs.Stream.advance.Given as goal

abbrev pub invariant-loop-at : goal.invariant-loop-at
invariant-loop-at l = Advancing (record { place = l.initial.x; held = l.initial.held }) l.chunk l.initial.out (record { place = l.x; held = l.held }) l.at l.to l.out

abbrev pub decreases-loop-at : goal.decreases-loop-at
decreases-loop-at l = length l.chunk - l.at
