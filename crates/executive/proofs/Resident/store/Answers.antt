use Rattle.std.proofs.Common.{refl, sym}
use Rattle.machine.specs.Limits.{process_limit}
use Rattle.machine.proofs.Bounds.{stored_out}
use Rattle.partition.proofs.Laws.{slot_out, stored_at}
use Rattle.resident.proofs.Laws.{mirrors_set}
use Rattle.executive.proofs.Resident.store.Goals as goal

pub returns-then-k-lt-PROCESSES-clause-stored : goal.returns-then-k-lt-PROCESSES-clause-stored
returns-then-k-lt-PROCESSES-clause-stored c = stored_at _ _ c.args.self.now.partition _ c.slot-k.ensures _ _ c.if-k-lt-PROCESSES.true c.arrival_with-self.ensures c.waiting_with-self.ensures

pub returns-then-k-lt-PROCESSES-clause-beside : goal.returns-then-k-lt-PROCESSES-clause-beside
returns-then-k-lt-PROCESSES-clause-beside c mirrors = mirrors_set mirrors c.slot-k.result _ refl refl c.object_of.ensures

pub returns-else-k-lt-PROCESSES-clause-stored : goal.returns-else-k-lt-PROCESSES-clause-stored
returns-else-k-lt-PROCESSES-clause-stored c = sym (stored_out c.args.id _ c.args.self.now.partition (slot_out process_limit c.args.id _ c.slot-k.ensures c.if-k-lt-PROCESSES.false))
