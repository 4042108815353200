-- `next_line` meets its contract.
use mathlib.Core.Path.{◌∙◌, sym, ap}
use native.Mathlib.Omega.{arith}
use lib.Dec.{eqb}
use Rattle.std.proofs.Common.{rules, tests}
use Rattle.std.specs.List.{position}
use Rattle.std.proofs.lemmas.Iterator.{YieldsList-from_slice}
use Rattle.std.proofs.lemmas.Iterator.Search.{position_from_yields_List}
use Rattle.machine.specs.Line.{line_feed}
use Rattle.line.proofs.Parts.{tail_is}
use Rattle.line.proofs.Reading.{end_found, end_none, end_past}
use Rattle.line.proofs.next_line.Goals as goal

pub returns-then-s-at : goal.returns-then-s-at
returns-then-s-at c = end_past c.args.s.now c.args.at (omega arith)

pub returns-in-Some : goal.returns-in-Some
returns-in-Some c = end_found c.args.s.now c.args.at (omega arith) _
    (ap (position (λ b. eqb b line_feed)) (sym (tail_is c.args.at c.args.s.now))
    ∙ sym (position_from_yields_List (λ b. eqb b line_feed) _ _ c.position.result c.position.ensures.ran (YieldsList-from_slice _ c.iter.ensures.rest) (λ x b q k. search (rules, tests))) ∙ c.in-Some.is)

pub returns-in-None : goal.returns-in-None
returns-in-None c = end_none c.args.s.now c.args.at (omega arith)
    (ap (position (λ b. eqb b line_feed)) (sym (tail_is c.args.at c.args.s.now))
    ∙ sym (position_from_yields_List (λ b. eqb b line_feed) _ _ c.position.result c.position.ensures.ran (YieldsList-from_slice _ c.iter.ensures.rest) (λ x b q k. search (rules, tests))) ∙ c.in-None.is)
