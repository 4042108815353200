-- Every line ends further on.
use Rattle.std.proofs.Common.{arith}
use Rattle.machine.proofs.TextInput.{line_at}
use Rattle.damaged_lines.proofs.print_codes.Goals as goal

pub loop-at-smaller : goal.loop-at-smaller
loop-at-smaller g c =
    let l = line_at c.args.input.now c.loop-at.at c.loop-at-test.true in
    omega (arith, l.after, c.next_line-at.ensures, c.loop-at-test.true)
