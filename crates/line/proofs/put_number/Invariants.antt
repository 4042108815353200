-- `put_number` meets its contract. The loop: the columns that are left to store have spaces.
use Prim.Native.Nat.{◌≤◌, ◌+◌, ◌-◌}
use mathlib.Core.Path.{◌≡◌}
use lib.ListN.{length}
use lib.Seq.{sets}
use Rattle.machine.specs.Line.{field_width, columns}
use Rattle.line.specs.Blank.{Blank}
use Rattle.line.proofs.put_number.Given as goal

abbrev pub invariant-loop-left : goal.invariant-loop-left
invariant-loop-left l =
    (l.at + field_width ≤ length l.out)
    × (length l.out ≡ length l.initial.out)
    × Blank l.out l.at (l.at + (field_width - l.left))
    × (sets l.out l.at (columns (field_width - l.left) l.rest l.sign) ≡ sets l.initial.out l.at (columns (field_width - 1) l.initial.rest l.sign))
