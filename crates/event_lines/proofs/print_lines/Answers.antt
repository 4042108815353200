use Prim.Native.Nat.{◌<◌}
use native.Mathlib.Omega.{arith}
use lib.ListN.{length}
use Rattle.event_lines.proofs.Blocks.{printing_begins, printing_done, printing_fits, printing_more}
use Rattle.event_lines.proofs.print_lines.Goals as goal

pub loop-i-init : goal.loop-i-init
loop-i-init c = printing_begins _ _ _ _ c.requires

pub overflow_mul-i : goal.overflow_mul-i
overflow_mul-i c = omega (arith, c.loop-i-test.true)

pub six_at-requires : goal.six_at-requires
six_at-requires c = omega (arith, c.loop-i-test.true)

pub overflow_add-to : goal.overflow_add-to
overflow_add-to c = let h = printing_fits _ _ _ _ _ _ _ c.loop-i.invariant c.loop-i-test.true _ c.six_at.ensures in let g : length c.args.out.now < 18446744073709551616 = omega (arith, c.well_formed) in omega (arith, h, g, c.print_line-to.ensures.0, c.loop-i.invariant.size)

pub loop-i-preserved : goal.loop-i-preserved
loop-i-preserved c = printing_more _ _ _ _ _ _ _ c.loop-i.invariant c.loop-i-test.true _ c.six_at.ensures _ c.print_line-to.ensures.0 _ c.print_line-to.ensures.1

pub overflow_sub-result : goal.overflow_sub-result
overflow_sub-result c = c.loop-i.invariant.start

pub returns : goal.returns
returns c = printing_done _ _ _ _ _ _ _ c.loop-i.invariant c.loop-i-test.false
