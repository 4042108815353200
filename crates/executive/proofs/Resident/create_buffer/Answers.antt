use Rattle.std.proofs.Common.{ap, ◌∙◌}
use Rattle.resident.proofs.Laws.{mirrors_same, processes_of}
use Rattle.executive.proofs.Residents.{buffer_keeps}
use Rattle.executive.proofs.Resident.create_buffer.Goals as goal

pub returns-clause-beside : goal.returns-clause-beside
returns-clause-beside c mirrors = mirrors_same mirrors (ap processes_of c.create_buffer-self.ensures ∙ buffer_keeps _ _ c.args.self.now.partition)
