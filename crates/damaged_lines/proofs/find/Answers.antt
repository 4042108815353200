-- By the place of the first b.
use Rattle.std.proofs.Common.{◌∙◌, sym, ap, arith, rules, tests, eqb}
use Rattle.std.specs.List.{position}
use Rattle.std.proofs.lemmas.Iterator.{YieldsList-from_slice}
use Rattle.std.proofs.lemmas.Iterator.Search.{position_from_yields_List}
use Rattle.line.proofs.Parts.{tail_is}
use Rattle.damaged_lines.proofs.Laws.{place_found, place_none, place_past}
use Rattle.damaged_lines.proofs.find.Goals as goal

pub returns-then-s-at : goal.returns-then-s-at
returns-then-s-at c = place_past c.args.s.now c.args.b c.args.at (omega arith)

pub returns-in-Some : goal.returns-in-Some
returns-in-Some c = place_found c.args.s.now c.args.b c.args.at _
    (ap (position (λ x. eqb x c.args.b)) (sym (tail_is c.args.at c.args.s.now))
    ∙ sym (position_from_yields_List (λ x. eqb x c.args.b) _ _ c.position.result c.position.ensures.ran (YieldsList-from_slice _ c.iter.ensures.rest) (λ x b q k. search (rules, tests))) ∙ c.in-Some.is)

pub returns-in-None : goal.returns-in-None
returns-in-None c = place_none c.args.s.now c.args.b c.args.at (omega arith)
    (ap (position (λ x. eqb x c.args.b)) (sym (tail_is c.args.at c.args.s.now))
    ∙ sym (position_from_yields_List (λ x. eqb x c.args.b) _ _ c.position.result c.position.ensures.ran (YieldsList-from_slice _ c.iter.ensures.rest) (λ x b q k. search (rules, tests))) ∙ c.in-None.is)
