-- `put_spaces` meets its contract. The loop: spaces up to k.
use mathlib.Core.Path.{◌≡◌}
use lib.ListN.{length}
use Rattle.line.specs.Blank.{fields_length, Blank, Alike}
use Rattle.line.proofs.put_spaces.Given as goal

abbrev pub invariant-loop-k : goal.invariant-loop-k
invariant-loop-k l = (length l.out ≡ length l.initial.out) × Blank l.out 0 l.k × Alike fields_length l.out l.initial.out
