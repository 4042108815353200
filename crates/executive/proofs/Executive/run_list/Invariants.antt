use Prim.Native.Nat.{◌≤◌}
use mathlib.Core.Path.{◌≡◌}
use lib.ListN.{length}
use Rattle.machine.specs.Limits.{partition_limit, channel_limit}
use Rattle.machine.specs.Windows.{lookup}
use Rattle.resident.specs.Settled.{settled}
use Rattle.executive.specs.Lists.{Early}
use Rattle.executive.proofs.Lists.{Running}
use Rattle.executive.proofs.Residents.{Beside, Ticking}
use Rattle.executive.proofs.Executive.run_list.Given as goal

abbrev pub invariant-loop-j : goal.invariant-loop-j
invariant-loop-j l = (l.j ≤ l.x.ticks) × (l.x.ticks ≤ partition_limit) × Ticking (settled l.spot l.initial.here.partition l.initial.m) l.spot l.j l.m l.here.partition l.here.currents l.here.objects l.run l.soon l.stale

abbrev pub invariant-loop-i : goal.invariant-loop-i
invariant-loop-i l = Running l.initial.m l.initial.list l.n l.i (settled l.spot l.here.partition l.m) l.list l.last × (length l.table.channels ≡ channel_limit) × (l.window ≡ lookup l.table l.m.t) × Beside l.here.partition l.here.currents l.here.objects l.run × Early (settled l.spot l.here.partition l.m) l.soon × (length l.m.partitions ≡ partition_limit)
