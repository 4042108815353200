-- `digits` meets its contract. The loop: what is left to read after v gives the whole; v has at most as many digits as were read.
use Prim.Native.Nat.{◌<◌, ◌^◌}
use mathlib.Core.Path.{◌≡◌}
use lib.ListN.{drop}
use Rattle.machine.specs.Line.{base}
use Rattle.line.specs.Scan.{digits_from}
use Rattle.line.proofs.digits.Given as goal

abbrev pub invariant-loop-b : goal.invariant-loop-b
invariant-loop-b l = (l.v < base ^ l.b-index) × (digits_from (drop l.b-index l.s) l.v ≡ digits_from l.s 0)
