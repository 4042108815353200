use Rattle.std.proofs.Common.{◌∙◌}
use Rattle.resident.proofs.Laws.{mirrors_running}
use Rattle.executive.proofs.Resident.running.Goals as goal

pub returns : goal.returns
returns c mirrors = (rw c.number.ensures at c.running.ensures) ∙ mirrors_running mirrors
