-- `read` meets its contract. The loop: the numbers so far, ahead of what is left to read, are what the line reads as.
use lib.ListN.{length, take, drop}
use Rattle.line.proofs.Reading.{ahead}
use Prim.Native.Nat.{◌≤◌, ◌*◌, ◌-◌}
use mathlib.Core.Path.{◌≡◌}
use Rattle.machine.specs.Line.{field_width, field_count, read_numbers}
use Rattle.line.proofs.read.Given as goal

abbrev pub invariant-loop-i : goal.invariant-loop-i
invariant-loop-i l =
    (l.i ≤ field_count)
    × (length l.ns ≡ field_count)
    × (ahead (take l.i l.ns) (read_numbers (field_count - l.i) (drop (l.i * field_width) l.s)) ≡ read_numbers field_count l.s)

abbrev pub decreases-loop-i : goal.decreases-loop-i
decreases-loop-i l = field_count - l.i
