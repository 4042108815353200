use native.Mathlib.Omega.{arith}
use Rattle.event_lines.proofs.Blocks.{Listed, listed, listed_few, listed_long, listed_size, listed_none, run_long, run_size, run_room, run_done}
use Rattle.event_lines.proofs.run_lines.Goals as goal
use Rattle.event_lines.proofs.run_lines.Goals.{After-read_lines-lines}

-- after the lines are read
read : (c : After-read_lines-lines) → Listed c.args.text.now c.args.out.now c.args.from c.args.to c.read_lines-lines.result c.read_lines-lines.new.list
read c = listed c.args.text.now c.args.out.now c.args.from c.args.to _ _ _ c.line_count.ensures c.read_lines-lines.ensures

pub returns-then-lines-eq0 : goal.returns-then-lines-eq0
returns-then-lines-eq0 c = listed_none _ _ _ _ _ _ (read (goal.at.returns-then-lines-eq0 c).After-read_lines-lines) _ c.if-lines-eq0.true

pub overflow_mul-used : goal.overflow_mul-used
overflow_mul-used c = omega (arith, listed_few _ _ _ _ _ _ (read (goal.at.overflow_mul-used c).After-read_lines-lines))

pub slice_bounds-list-end : goal.slice_bounds-list-end
slice_bounds-list-end c = listed_long _ _ _ _ _ _ (read (goal.at.slice_bounds-list-end c).After-read_lines-lines)

pub slice_bounds-run-end : goal.slice_bounds-run-end
slice_bounds-run-end c = listed_size _ _ _ _ _ _ (read (goal.at.slice_bounds-run-end c).After-read_lines-lines)

pub slice_bounds-list-end-2 : goal.slice_bounds-list-end-2
slice_bounds-list-end-2 c = run_long _ _ _ _ _ _ (read (goal.at.slice_bounds-list-end-2 c).After-read_lines-lines) c.args.e _ _ c.run-executive.ensures

pub slice_bounds-print_lines-end : goal.slice_bounds-print_lines-end
slice_bounds-print_lines-end c = run_size _ _ _ _ _ _ (read (goal.at.slice_bounds-print_lines-end c).After-read_lines-lines) c.args.e _ _ c.run-executive.ensures

pub print_lines-printed-requires : goal.print_lines-printed-requires
print_lines-printed-requires c =
    run_room _ _ _ _ _ _ (read (goal.at.print_lines-printed-requires c).After-read_lines-lines) c.args.e _ _ c.run-executive.ensures c.if-lines-eq0.false

pub returns : goal.returns
returns c =
    run_done _ _ _ _ _ _ (read (goal.at.returns c).After-read_lines-lines) c.args.e _ _ c.run-executive.ensures _ _ c.print_lines-printed.ensures
