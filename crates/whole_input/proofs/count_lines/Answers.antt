-- `count_lines` meets its contract. The loop: the lines counted and those from `at` on are all lines.
use native.Mathlib.Omega.{arith}
use Rattle.machine.proofs.TextInput.{line_at}
use Rattle.whole_input.proofs.Laws.{counted, counts_on}
use Rattle.whole_input.proofs.count_lines.Goals as goal

pub loop-at-init : goal.loop-at-init
loop-at-init c = record { few = omega arith; count = omega arith }

pub overflow_add-n : goal.overflow_add-n
overflow_add-n c = omega (arith, c.loop-at.invariant.few)

pub loop-at-smaller : goal.loop-at-smaller
loop-at-smaller c =
    let input = c.args.input.now in
    omega (arith, c.next_line-at.ensures, (line_at input c.loop-at.at c.loop-at-test.true).after)

pub loop-at-preserved : goal.loop-at-preserved
loop-at-preserved c = rw c.next_line-at.ensures (counts_on _ _ _ _ c.loop-at.invariant c.loop-at-test.true)

pub returns : goal.returns
returns c = counted _ _ _ _ c.loop-at.invariant c.loop-at-test.false
