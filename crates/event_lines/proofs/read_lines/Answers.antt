use Prim.Native.Nat.{◌<◌}
use mathlib.Core.Path.{sym, ◌∙◌}
use native.Mathlib.Omega.{arith}
use lib.ListN.{length}
use Rattle.event_lines.proofs.Blocks.{reading_begins, reading_stops, reading_done, reading_more, six_inside}
use Rattle.line.proofs.Meaning.{reads}
use Rattle.event_lines.proofs.read_lines.Goals as goal

pub loop-n-init : goal.loop-n-init
loop-n-init c = reading_begins _ _ _ _ c.requires

pub returns-in_default : goal.returns-in_default
returns-in_default c = reading_stops _ _ _ _ _ _ _ c.loop-n.invariant (sym c.in_default.is ∙ reads _ _ c.read_at.ensures)

pub overflow_mul-n : goal.overflow_mul-n
overflow_mul-n c = let g : length c.args.list.now < 18446744073709551616 = omega (arith, c.well_formed) in omega (arith, g, c.loop-n-test.true, c.requires)

pub put_six-requires : goal.put_six-requires
put_six-requires c = omega (arith, c.loop-n-test.true, c.loop-n.invariant.room)

pub overflow_add-at : goal.overflow_add-at
overflow_add-at c = let g : length c.args.text.now < 18446744073709551616 = omega (arith, c.well_formed) in omega (arith, g, six_inside c.args.text.now c.loop-n.at _ (sym (reads _ _ c.read_at.ensures) ∙ c.in-Six.is))

pub loop-n-preserved : goal.loop-n-preserved
loop-n-preserved c = reading_more _ _ _ _ _ _ _ c.loop-n.invariant _ (sym (reads _ _ c.read_at.ensures) ∙ c.in-Six.is) c.loop-n-test.true _ c.put_six.ensures

pub returns : goal.returns
returns c = reading_done _ _ _ _ _ _ _ c.loop-n.invariant c.loop-n-test.false
