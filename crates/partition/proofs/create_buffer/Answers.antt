use mathlib.Core.Path.{sym}
use Rattle.machine.specs.Limits.{buffer_limit}
use Rattle.machine.proofs.Bounds.{buffer_out}
use Rattle.partition.proofs.Laws.{buffer_at, slot_out}
use Rattle.partition.proofs.create_buffer.Goals as goal

pub returns-then-i-ge-BUFFERS : goal.returns-then-i-ge-BUFFERS
returns-then-i-ge-BUFFERS c = sym (buffer_out _ _ _ (slot_out buffer_limit c.args.k _ c.slot-i.ensures c.if-i-ge-BUFFERS.true))

pub returns : goal.returns
returns c = rw c.blank.ensures (buffer_at _ _ c.args.p _ _ c.slot-i.ensures c.if-i-ge-BUFFERS.false c.counted.ensures)
