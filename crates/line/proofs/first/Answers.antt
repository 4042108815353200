-- `first` meets its contract. The loop: the columns from i on hold what those from 1 on do.
use Prim.Native.Nat.{◌-◌}
use mathlib.Core.Path.{◌≡◌, refl}
use native.Mathlib.Omega.{arith}
use Rattle.machine.specs.Line.{field_width}
use Rattle.line.proofs.Scan.{space_more, number_here, last_here}
use Rattle.line.proofs.first.Goals as goal

pub loop-i-init : goal.loop-i-init
loop-i-init c = (omega arith, refl)

pub returns-then-s-i-ne32 : goal.returns-then-s-i-ne32
returns-then-s-i-ne32 c = (omega arith, number_here c.args.s.now _ _ c.loop-i.invariant.1 (omega arith) c.if-s-i-ne32.true)

pub loop-i-preserved : goal.loop-i-preserved
loop-i-preserved c = (omega arith, space_more c.args.s.now _ _ c.loop-i.invariant.1 (omega arith) c.if-s-i-ne32.false)

pub returns : goal.returns
returns c = let w : c.loop-i.i ≡ field_width - 1 = omega arith in (omega arith, last_here c.args.s.now (field_width - 1) _ (rw w at c.loop-i.invariant.1) (omega arith))
