-- `is_last` meets its contract.
use mathlib.Core.Path.{◌∙◌, sym}
use native.Mathlib.Omega.{arith}
use lib.Dec.{eqb}
use Rattle.std.proofs.Common.{rules, tests}
use Rattle.std.proofs.lemmas.Iterator.{YieldsList-from_slice}
use Rattle.std.proofs.lemmas.Iterator.Search.{all_from_yields_List}
use Rattle.machine.specs.Line.{space}
use Rattle.line.proofs.Scan.{spaces_skipped}
use Rattle.line.proofs.is_last.Goals as goal

pub returns : goal.returns
returns c = λ e. spaces_skipped 8 1 c.args.s.now (omega arith)
    (sym (all_from_yields_List (λ b. eqb b space) _ _ c.all.result c.all.ensures.ran (YieldsList-from_slice _ c.iter.ensures.rest) (λ x b q k. search (rules, tests))) ∙ e)
