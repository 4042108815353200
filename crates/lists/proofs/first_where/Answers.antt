use mathlib.Core.Path.{sym, ◌∙◌}
use native.Mathlib.Omega.{arith}
use Rattle.lists.proofs.Laws.{first_here, first_later, first_none}
use Rattle.lists.proofs.first_where.Goals as goal

pub returns-then-passes : goal.returns-then-passes
returns-then-passes g c = sym (c.loop-id.invariant ∙ first_here (g.T.Test.passes c.args.test c.args.known.now) c.held-id-items.result.now c.loop-id.id-index (omega arith) c.if-passes.ensures)

pub loop-id-preserved : goal.loop-id-preserved
loop-id-preserved g c = c.loop-id.invariant ∙ first_later (g.T.Test.passes c.args.test c.args.known.now) c.held-id-items.result.now c.loop-id.id-index (omega arith) c.if-passes.ensures

pub returns : goal.returns
returns g c = sym (c.loop-id.invariant ∙ first_none (g.T.Test.passes c.args.test c.args.known.now) c.held-id-items.result.now c.loop-id.id-index (omega arith))
