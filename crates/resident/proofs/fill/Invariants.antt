use mathlib.Core.Path.{◌≡◌}
use lib.ListN.{length, take}
use Rattle.machine.specs.Limits.{process_limit}
use Rattle.resident.specs.Mirrors.{current_of, object_of, filled}
use Rattle.resident.proofs.fill.Given as goal

abbrev pub invariant-loop-i : goal.invariant-loop-i
invariant-loop-i l = (length l.p.processes ≡ process_limit) × (l.currents ≡ filled current_of (take l.i l.p.processes) l.initial.currents) × (l.objects ≡ filled object_of (take l.i l.p.processes) l.initial.objects)
