use Rattle.machine.specs.Decisions.{checked}
use Rattle.decisions.proofs.questions.wait_code.Goals as goal

pub returns-then-unknown : goal.returns-then-unknown
unfolding checked
returns-then-unknown c = rw c.if-unknown.true c.code.ensures

pub returns-then-start : goal.returns-then-start
unfolding checked
returns-then-start c = rw (c.if-unknown.false, c.if-start.true) c.code-then-start.ensures

pub returns-then-admitted : goal.returns-then-admitted
unfolding checked
returns-then-admitted c = rw (c.if-unknown.false, c.if-start.false, c.if-admitted.true)

pub returns-else-admitted : goal.returns-else-admitted
unfolding checked
returns-else-admitted c = rw (c.if-unknown.false, c.if-start.false, c.if-admitted.false) c.code-else-admitted.ensures
