-- `rest` meets its contract. The loop: the lines from `at` on, with the draft so far, give what the whole gives.
use Prim.Native.Nat.{◌+◌}
use mathlib.Core.Path.{◌≡◌, sym, ap, ◌∙◌}
use native.Mathlib.Omega.{arith}
use borrow.Author.Rules.{rules}
use Rattle.std.specs.Prelude.{Err}
use Rattle.machine.specs.Limits.{line_length}
use Rattle.machine.specs.Line.{read_at}
use Rattle.table.specs.Given.{reading_of}
use Rattle.table.proofs.Laws.{lines_from, row_six, row_bad, head_sound, head_read, room, line_refused, row_refused, row_taken, all_lines_done}
use Rattle.table.proofs.Ends.{six_inside}
use Rattle.table.proofs.rest.Goals as goal

pub loop-line-init : goal.loop-line-init
loop-line-init c =
    let a = c.args in
    let s = head_sound a.head _ (lines_from a.input.now line_length) c.requires.0 c.head_draft-d.ensures in
    (c.requires.1, s.0, s.1)

pub returns-in_err-row : goal.returns-in_err-row
returns-in_err-row c =
    let a = c.args in
    let l = c.loop-line in
    let e : c.from_residual.result ≡ Err c.in_err-row.field-0.0 = search rules in
    let m = row_bad (l.line + 1) (read_at a.input.now l.at) (sym c.row_at.ensures ∙ c.in_err-row.was) in
    head_read a.head _ _ c.requires.0 c.head_draft-d.ensures _
    (ap reading_of (e ∙ ap Err m.1) ∙ line_refused a.input.now l.at _ l.line l.d (omega arith) _ l.invariant.2 m.0)

pub returns-then-not-is_row_good : goal.returns-then-not-is_row_good
returns-then-not-is_row_good c =
    let a = c.args in
    let l = c.loop-line in
    let m = row_six (l.line + 1) (read_at a.input.now l.at) (sym c.row_at.ensures ∙ c.in_ok-row.was) in
    head_read a.head _ _ c.requires.0 c.head_draft-d.ensures _
    (row_refused a.input.now l.at _ l.line l.d (omega arith) _ l.invariant.2 (six_inside a.input.now l.at m.0 m.1) m.0 m.1 c.in_ok-row.row m.2 c.is_row_good.result c.is_row_good.ensures c.if-not-is_row_good.true)

pub with_row-d-requires : goal.with_row-d-requires
with_row-d-requires c =
    let l = c.loop-line in
    (sym c.is_row_good.ensures ∙ c.if-not-is_row_good.false, room _ l.d l.invariant.1 (omega arith))

pub loop-line-preserved : goal.loop-line-preserved
loop-line-preserved c =
    let a = c.args in
    let l = c.loop-line in
    let m = row_six (l.line + 1) (read_at a.input.now l.at) (sym c.row_at.ensures ∙ c.in_ok-row.was) in
    let inside = six_inside a.input.now l.at m.0 m.1 in
    let s = row_taken a.input.now l.at _ l.line l.d (omega arith) _ l.invariant.2 inside m.0 m.1 c.in_ok-row.row m.2 c.is_row_good.result c.is_row_good.ensures c.if-not-is_row_good.false _ c.with_row-d.ensures l.invariant.1 in
    (inside, s.0, s.1)

pub returns : goal.returns
returns c =
    let a = c.args in
    let l = c.loop-line in
    head_read a.head _ _ c.requires.0 c.head_draft-d.ensures _
    (c.checked.ensures ∙ all_lines_done _ l.line l.d _ _ (omega arith) l.invariant.2)
