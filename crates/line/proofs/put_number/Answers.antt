-- `put_number` meets its contract. The loop: the columns that are left to store have spaces.
use Prim.Native.Nat.{◌+◌, ◌-◌}
use mathlib.Core.Path.{◌≡◌, refl, ◌∙◌}
use native.Mathlib.Omega.{arith}
use lib.ListN.{length-set}
use Rattle.machine.specs.Line.{field_width}
use Rattle.line.proofs.Writing.{number_stored, digit_stored, mark_stored, columns_stored, blank_less}
use Rattle.line.proofs.put_number.Goals as goal

pub loop-left-init : goal.loop-left-init
loop-left-init c = (simp length-set (omega arith), refl, blank_less c.args.out.now c.args.at field_width _ c.requires.1, refl)

pub returns-then-rest-eq0 : goal.returns-then-rest-eq0
returns-then-rest-eq0 c =
    let loop = c.loop-left in
    mark_stored loop.out _ (field_width - loop.left) _ _ _ (omega arith) (loop.invariant.3 ∙ number_stored _ _ _ _ _ c.last_digit.ensures) (omega arith) loop.invariant.2

pub loop-left-preserved : goal.loop-left-preserved
loop-left-preserved c =
    let loop = c.loop-left in
    let n : field_width - (loop.left + 1) ≡ field_width - loop.left - 1 = omega arith in
    rw n (
      simp length-set (omega arith),
      length-set loop.out _ _ ∙ loop.invariant.1,
      blank_less loop.out _ _ _ loop.invariant.2,
      digit_stored loop.out _ _ _ _ _ (omega arith) loop.invariant.3 _ (omega arith) c.last_digit-in-loop-left.ensures,
    )

pub returns : goal.returns
returns c = columns_stored _ _ _ _ _ _ (omega arith) (c.loop-left.invariant.3 ∙ number_stored _ _ _ _ _ c.last_digit.ensures)
