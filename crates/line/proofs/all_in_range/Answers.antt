use mathlib.Core.Bool.{not}
-- `all_in_range` meets its contract. The loop: the numbers from i on are in range as all are.
use Rattle.machine.specs.Line.{in_range, number_list}
use mathlib.Core.Path.{ap, ◌∙◌}
use mir.Syntax.{w64}
use mir.ValLaws.{to_z-of_z}
use native.Mathlib.Omega.{arith}
use Rattle.line.proofs.Writing.{range_out, range_in, range_end}
use Rattle.line.proofs.all_in_range.Goals as goal

pub returns-then-not-in_range : goal.returns-then-not-in_range
returns-then-not-in_range c =
    let start = c in
    let loop = c.loop-i in
    let number = c.number in
    range_out (number_list start.args.n) loop.i (omega arith) _ number.ensures _
    (c.in_range.ensures ∙ ap in_range (to_z-of_z w64 number.result (omega (arith, number.type_inv)))) (ap not c.if-not-in_range.true) _
    loop.invariant

pub loop-i-preserved : goal.loop-i-preserved
loop-i-preserved c =
    let start = c in
    let loop = c.loop-i in
    let number = c.number in
    range_in (number_list start.args.n) loop.i (omega arith) _ number.ensures _
    (c.in_range.ensures ∙ ap in_range (to_z-of_z w64 number.result (omega (arith, number.type_inv)))) (ap not c.if-not-in_range.false) _
    loop.invariant

pub returns : goal.returns
returns c = range_end (number_list c.args.n) c.loop-i.i _ (omega arith) c.loop-i.invariant
