-- `put_digit` meets its contract.
use Prim.Native.Nat.{◌+◌, ◌-◌, ◌/◌}
use native.Mathlib.Omega.{arith}
use lib.ListN.{length-set}
use Rattle.machine.specs.Line.{zero_digit, base, field_width}
use Rattle.line.proofs.Writing.{number_stored, mark_stored, blank_less}
use Rattle.line.proofs.put_digit.Goals as goal

pub bounds-out-at-2 : goal.bounds-out-at-2
bounds-out-at-2 c = simp length-set (omega arith)

pub returns : goal.returns
returns c =
    let out = c.args.out.now in
    let last = number_stored out c.args.at c.args.digit c.args.sign (zero_digit + c.args.digit) (omega (arith, c.requires.2)) in
    mark_stored _ c.args.at (field_width - 1) (c.args.digit / base) _ _ (omega arith) last (omega (arith, c.requires.2)) (blank_less out c.args.at field_width _ c.requires.1)
