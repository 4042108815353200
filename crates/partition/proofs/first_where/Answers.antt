use mathlib.Core.Bool.{true, false}
use mathlib.Core.Path.{sym, ◌∙◌}
use native.Mathlib.Omega.{arith}
use Rattle.lists.proofs.Laws.{first_here, first_later, first_none}
use Rattle.partition.proofs.first_where.Goals as goal

pub returns-then-test : goal.returns-then-test
returns-then-test g c = λ f e. sym (c.loop-id.invariant f e ∙ first_here f c.held-id-items.result.now c.loop-id.id-index (omega arith) (e _ true c.if-test.ensures))

pub loop-id-preserved : goal.loop-id-preserved
loop-id-preserved g c = λ f e. c.loop-id.invariant f e ∙ first_later f c.held-id-items.result.now c.loop-id.id-index (omega arith) (e _ false c.if-test.ensures)

pub returns : goal.returns
returns g c = λ f e. sym (c.loop-id.invariant f e ∙ first_none f c.held-id-items.result.now c.loop-id.id-index (omega arith))
