use mathlib.Core.Path.{◌≡◌, sym, ap, ◌∙◌}
use borrow.Author.Rules.{rules}
use Rattle.std.specs.Prelude.{Err}
use Rattle.machine.specs.Line.{read_at}
use Rattle.table.specs.Given.{reading_of}
use Rattle.table.proofs.Laws.{row_six, row_bad, first_refused, head_refused, head_taken}
use Rattle.table.proofs.Ends.{six_inside}
use Rattle.table.proofs.whole.Goals as goal

pub returns-in_err-head : goal.returns-in_err-head
returns-in_err-head c =
    let e : c.from_residual.result ≡ Err c.in_err-head.field-0.0 = search rules in
    let input = c.args.input.now in
    let m = row_bad 1 (read_at input 0) (sym c.row_at.ensures ∙ c.in_err-head.was) in
    ap reading_of (e ∙ ap Err m.1) ∙ first_refused input m.0

pub returns-then-not-is_head_good : goal.returns-then-not-is_head_good
returns-then-not-is_head_good c =
    let input = c.args.input.now in
    let m = row_six 1 (read_at input 0) (sym c.row_at.ensures ∙ c.in_ok-head.was) in
    head_refused input (six_inside input 0 m.0 m.1) m.0 m.1 c.in_ok-head.head m.2 c.is_head_good.result c.is_head_good.ensures c.if-not-is_head_good.true

pub rest-requires : goal.rest-requires
rest-requires c =
    let input = c.args.input.now in
    let m = row_six 1 (read_at input 0) (sym c.row_at.ensures ∙ c.in_ok-head.was) in
    (sym c.is_head_good.ensures ∙ c.if-not-is_head_good.false, six_inside input 0 m.0 m.1)

pub returns : goal.returns
returns c =
    let input = c.args.input.now in
    let m = row_six 1 (read_at input 0) (sym c.row_at.ensures ∙ c.in_ok-head.was) in
    c.rest.ensures ∙ head_taken input (six_inside input 0 m.0 m.1) m.0 m.1 c.in_ok-head.head m.2
