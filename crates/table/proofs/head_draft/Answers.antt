-- `head_draft` meets its contract.
use native.Mathlib.Omega.{arith}
use Rattle.machine.specs.Module.{empty_table}
use Rattle.machine.proofs.Tables.{head_draft_holds}
use Rattle.table.proofs.head_draft.Goals as goal

pub overflow_cast-frame : goal.overflow_cast-frame
overflow_cast-frame c = omega (arith, (head_draft_holds c.args.r c.requires).frame.1, c.number_of-frame.ensures)

pub overflow_cast-size : goal.overflow_cast-size
overflow_cast-size c = omega (arith, (head_draft_holds c.args.r c.requires).size.1, c.number_of-size.ensures)

pub overflow_cast-windows : goal.overflow_cast-windows
overflow_cast-windows c =
    let start = c in
    omega (arith, (head_draft_holds start.args.r start.requires).announced.1, c.number_of-windows.ensures)

pub overflow_cast-channels : goal.overflow_cast-channels
overflow_cast-channels c =
    let start = c in
    omega (arith, (head_draft_holds start.args.r start.requires).announced_channels, c.number_of-channels.ensures)

pub returns : goal.returns
unfolding empty_table
returns c =
    let number_of_holds = c.number_of-frame in
    let number-of2 = c.number_of-size in
    let number-of3 = c.number_of-windows in
    let number-of4 = c.number_of-channels in
    rw (number_of_holds.ensures, number-of2.ensures, number-of3.ensures, number-of4.ensures, c.empty.ensures)
