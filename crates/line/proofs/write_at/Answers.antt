-- `write_at` meets its contract.
use native.Mathlib.Omega.{arith}
use Rattle.line.proofs.Writing.{past_refused, tail_written}
use Rattle.line.proofs.write_at.Goals as goal

pub returns-then-out-at : goal.returns-then-out-at
returns-then-out-at c =
    let start = c in
    past_refused start.args.out.now start.args.at start.args.n (omega arith)

pub returns : goal.returns
returns c =
    let start = c in
    tail_written start.args.out.now start.args.at start.args.n _ _ c.write.ensures
