-- Where the name and the number end.
use Rattle.damaged_lines.proofs.Laws.{no_name, no_end, cut_short, case_found}
use Rattle.damaged_lines.proofs.case_at.Goals as goal

pub returns-then-end-name : goal.returns-then-end-name
returns-then-end-name c =
    no_name c.args.input.now c.args.at _ _ c.find-name.ensures c.find-end.ensures c.if-end-name.true

pub returns-then-input-end : goal.returns-then-input-end
returns-then-input-end c =
    no_end c.args.input.now c.args.at _ _ c.find-name.ensures c.find-end.ensures c.if-end-name.false c.if-input-end.true

pub returns-then-input-body : goal.returns-then-input-body
returns-then-input-body c =
    cut_short c.args.input.now c.args.at _ _ c.find-name.ensures c.find-end.ensures c.if-end-name.false
    c.if-input-end.false _ c.size_of-size.ensures c.if-input-body.true

pub returns : goal.returns
returns c =
    case_found c.args.input.now c.args.at _ _ c.find-name.ensures c.find-end.ensures c.if-end-name.false
    c.if-input-end.false _ c.size_of-size.ensures c.if-input-body.false
