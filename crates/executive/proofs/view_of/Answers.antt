use Rattle.std.proofs.Common.{ap, ◌∙◌}
use Rattle.services.specs.Looked.{object_for}
use Rattle.executive.proofs.Residents.{waiter_read, waiter_none}
use Rattle.executive.proofs.view_of.Goals as goal
use Rattle.executive.proofs.view_of.Goals.{then-object-eq0, else-object-eq0}

-- who waits first for what the call looks at
pub returns-clause-waiter : goal.returns-clause-waiter
returns-clause-waiter c mirrors =
    let is = c.object_for-object.ensures ∙ ap (object_for c.args.call) c.number_of-id.ensures in
    elim c.if-object-eq0.branch [
      | then-object-eq0 w ↦ (waiter_none c.args.call _ _ _ is w.if-object-eq0.true w.waiter-is)
      | else-object-eq0 w ↦ (waiter_read mirrors c.args.call _ _ is w.if-object-eq0.false (w.waiter-is ∙ w.first_on-waiter.ensures))
    ]
