use mathlib.Core.Path.{◌≡◌}
use lib.ListN.{drop}
use Rattle.machine.specs.Partition.{changed_all}
use Rattle.partition.specs.Waits.{served_with}
use Rattle.partition.proofs.end_waits.Given as goal

abbrev pub invariant-loop-id : goal.invariant-loop-id
invariant-loop-id l = changed_all (served_with l.hands l.m) (drop l.id-index l.id-items) l.q ≡ changed_all (served_with l.hands l.m) l.id-items l.initial.q
