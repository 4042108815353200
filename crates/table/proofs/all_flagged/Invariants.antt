-- `all_flagged` meets its contract. The loops: the partitions from k on are left, and of partition k the windows from w on.
use Prim.Native.Nat.{◌+◌, ◌-◌}
use mathlib.Core.Path.{◌≡◌}
use lib.ListN.{drop}
use Rattle.machine.specs.Windows.{windows}
use Rattle.machine.specs.Table.{has_flagged, flagged_from}
use Rattle.table.proofs.all_flagged.Given as goal

abbrev pub invariant-loop-w : goal.invariant-loop-w
invariant-loop-w l = has_flagged l.k (drop l.w-index l.w-items) ≡ has_flagged l.k l.w-items

abbrev pub invariant-partitions : goal.invariant-partitions
invariant-partitions l = flagged_from (l.size + 1 - l.k) l.k (windows l.t) ≡ flagged_from l.size 1 (windows l.t)

abbrev pub decreases-partitions : goal.decreases-partitions
decreases-partitions l = l.size + 1 - l.k
