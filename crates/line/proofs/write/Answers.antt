use mathlib.Core.Bool.{not}
-- `write` meets its contract.
use mathlib.Core.Path.{sym, ◌∙◌, ap}
use native.Mathlib.Omega.{arith}
use Rattle.line.proofs.Writing.{short_refused, range_refused, line_written}
use Rattle.line.proofs.write.Goals as goal

pub returns-then-out-lt-LINE : goal.returns-then-out-lt-LINE
returns-then-out-lt-LINE c = short_refused c.args.out.now c.args.n (omega arith)

pub returns-then-not-all_in_range : goal.returns-then-not-all_in_range
returns-then-not-all_in_range c =
    let start = c in
    range_refused start.args.out.now start.args.n _ c.all_in_range.ensures (ap not c.if-not-all_in_range.true)

pub put_line-requires : goal.put_line-requires
put_line-requires c = (omega arith, sym c.all_in_range.ensures ∙ c.if-not-all_in_range.false)

pub returns : goal.returns
returns c =
    let start = c in
    let all-in-range = c.all_in_range in
    let if2 = c.if-not-all_in_range in
    line_written start.args.out.now start.args.n (omega arith) (sym all-in-range.ensures ∙ c.if-not-all_in_range.false)
    _ c.put_line.ensures
