use Prim.Native.Nat.{◌/◌}
use lib.ListN.{length}
use Rattle.executive.specs.Lists.{six}
use Rattle.event_lines.proofs.Blocks.{Printing}
use Rattle.event_lines.proofs.print_lines.Given as goal

abbrev pub invariant-loop-i : goal.invariant-loop-i
invariant-loop-i l = Printing l.initial.out l.from l.list (length l.list / six) l.out l.to l.i
