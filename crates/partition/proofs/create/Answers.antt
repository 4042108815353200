use Rattle.partition.proofs.Laws.{created_at, slot_out}
use Rattle.machine.specs.Limits.{process_limit}
use mathlib.Core.Path.{sym}
use Rattle.machine.proofs.Bounds.{created_out}
use Rattle.partition.proofs.create.Goals as goal

pub returns-then-i-ge-PROCESSES : goal.returns-then-i-ge-PROCESSES
returns-then-i-ge-PROCESSES c = sym (created_out _ _ _ (slot_out process_limit c.args.id _ c.slot-i.ensures c.if-i-ge-PROCESSES.true))

pub returns : goal.returns
returns c = created_at _ _ c.args.p _ _ c.slot-i.ensures c.if-i-ge-PROCESSES.false c.counted.ensures
