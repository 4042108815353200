use Rattle.partition.proofs.Laws.{stored_at, slot_out}
use Rattle.machine.specs.Limits.{process_limit}
use mathlib.Core.Path.{sym}
use Rattle.machine.proofs.Bounds.{stored_out}
use Rattle.partition.proofs.store.Goals as goal

pub returns-then-i-ge-PROCESSES : goal.returns-then-i-ge-PROCESSES
returns-then-i-ge-PROCESSES c = sym (stored_out _ _ _ (slot_out process_limit c.args.id _ c.slot-i.ensures c.if-i-ge-PROCESSES.true))

pub returns : goal.returns
returns c = stored_at _ _ c.args.p _ c.slot-i.ensures _ _ c.if-i-ge-PROCESSES.false c.arrival_with-q.ensures c.waiting_with-q.ensures
