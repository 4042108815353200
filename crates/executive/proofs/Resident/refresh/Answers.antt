use Rattle.std.proofs.Common.{rules}
use Rattle.resident.proofs.Laws.{mirrors_filled}
use Rattle.executive.proofs.Resident.refresh.Goals as goal

pub returns-clause-beside : goal.returns-clause-beside
returns-clause-beside c = mirrors_filled c.args.self.now.currents c.args.self.now.objects (search rules, search rules) c.fill.ensures
