use mathlib.Core.Path.{ap, ◌∙◌}
use Rattle.partition.specs.Waits.{ended_as}
use Rattle.partition.proofs.Laws.{ended}
use Rattle.partition.proofs.after_transfer.Goals as goal

pub returns : goal.returns
returns c =
    let a = c.args in
    rw c.store.ensures (ended a.a _ a.p c.ended_id-id.ensures _ (c.ended_as.ensures ∙ ap (ended_as a.a) c.process_at.ensures))
