use Rattle.std.proofs.Common.{refl, sym, ap, ◌∙◌, ◌≡◌}
use Rattle.machine.specs.Limits.{semaphore_limit, event_limit, buffer_limit, blackboard_limit}
use Rattle.machine.specs.Partition.{buffer, ended_by, moved_in, stored_buffer, arrived_last}
use Rattle.machine.proofs.Bounds.{semaphore_out, event_out, buffer_out, blackboard_out}
use Rattle.partition.proofs.Laws.{slot_out, semaphore_at, event_at_holds, blackboard_at, moved_at_holds, ended}
use Rattle.partition.specs.Waits.{ended_as}
use Rattle.machine.specs.declared.Partition.{Partition}
use Rattle.executive.specs.declared.Resident.{Resident}
use Rattle.executive.proofs.Resident.change.Goals as goal
use Rattle.executive.proofs.Resident.change.Goals.{Joined-k-lt-BUFFERS, then-k-lt-BUFFERS, else-k-lt-BUFFERS}

pub returns-in-Last-clause-made : goal.returns-in-Last-clause-made
unfolding arrived_last
returns-in-Last-clause-made c = rw (c.in-Last.is, c.last_in-self.ensures) refl

pub returns-then-k-lt-SEMAPHORES-clause-made : goal.returns-then-k-lt-SEMAPHORES-clause-made
returns-then-k-lt-SEMAPHORES-clause-made c = rw c.in-StoredSemaphore.is (semaphore_at _ _ c.args.self.now.partition _ _ c.slot-k.ensures c.if-k-lt-SEMAPHORES.true c.counted-self.ensures)

pub returns-else-k-lt-SEMAPHORES-clause-made : goal.returns-else-k-lt-SEMAPHORES-clause-made
returns-else-k-lt-SEMAPHORES-clause-made c = rw c.in-StoredSemaphore.is (sym (semaphore_out _ _ c.args.self.now.partition (slot_out semaphore_limit c.in-StoredSemaphore.id _ c.slot-k.ensures c.if-k-lt-SEMAPHORES.false)))

pub returns-then-k-lt-EVENTS-clause-made : goal.returns-then-k-lt-EVENTS-clause-made
returns-then-k-lt-EVENTS-clause-made c = rw c.in-StoredEvent.is (event_at_holds _ _ c.args.self.now.partition _ _ c.slot-k-in-StoredEvent.ensures c.if-k-lt-EVENTS.true c.counted-self-then-k-lt-EVENTS.ensures)

pub returns-else-k-lt-EVENTS-clause-made : goal.returns-else-k-lt-EVENTS-clause-made
returns-else-k-lt-EVENTS-clause-made c = rw c.in-StoredEvent.is (sym (event_out _ _ c.args.self.now.partition (slot_out event_limit c.in-StoredEvent.id _ c.slot-k-in-StoredEvent.ensures c.if-k-lt-EVENTS.false)))

pub returns-in-CreatedBuffer-clause-beside : goal.returns-in-CreatedBuffer-clause-beside
returns-in-CreatedBuffer-clause-beside c _ = c.create_buffer.ensures.beside

-- the partition of what lies in place
abbrev resident_partition : Resident → Partition
resident_partition r = r.partition

-- the messages of a buffer, where they lie
moved : (c : Joined-k-lt-BUFFERS) → c.if-k-lt-BUFFERS.self.partition ≡ stored_buffer c.in-Moved.id (moved_in c.in-Moved.y (buffer c.in-Moved.id c.args.self.now.partition)) c.args.self.now.partition
moved c = elim c.if-k-lt-BUFFERS.branch [
  | then-k-lt-BUFFERS w ↦ (rw (ap resident_partition w.self-is, w.change-v.ensures) (moved_at_holds _ _ c.args.self.now.partition c.in-Moved.y _ _ c.slot-k-in-Moved.ensures w.if-k-lt-BUFFERS.true w.counted-self-then-k-lt-BUFFERS.ensures))
  | else-k-lt-BUFFERS w ↦ (ap resident_partition w.self-is ∙ sym (buffer_out _ _ c.args.self.now.partition (slot_out buffer_limit c.in-Moved.id _ c.slot-k-in-Moved.ensures w.if-k-lt-BUFFERS.false)))
]

pub returns-after-k-lt-BUFFERS-clause-made : goal.returns-after-k-lt-BUFFERS-clause-made
returns-after-k-lt-BUFFERS-clause-made c =
    c.store-in-Moved.ensures.stored
    ∙ ended c.in-Moved.y _ c.if-k-lt-BUFFERS.self.partition c.ended_id-other.ensures _ (c.ended_as-ended.ensures ∙ ap (ended_as c.in-Moved.y) c.process-old.ensures)
    ∙ rw c.in-Moved.is (ap (ended_by c.in-Moved.y) (moved (goal.at.returns-after-k-lt-BUFFERS-clause-made c).Joined-k-lt-BUFFERS))

pub returns-then-k-lt-BLACKBOARDS-clause-made : goal.returns-then-k-lt-BLACKBOARDS-clause-made
returns-then-k-lt-BLACKBOARDS-clause-made c = rw c.in-StoredBlackboard.is (blackboard_at _ _ c.args.self.now.partition _ _ c.slot-k-in-StoredBlackboard.ensures c.if-k-lt-BLACKBOARDS.true c.counted-self-then-k-lt-BLACKBOARDS.ensures)

pub returns-else-k-lt-BLACKBOARDS-clause-made : goal.returns-else-k-lt-BLACKBOARDS-clause-made
returns-else-k-lt-BLACKBOARDS-clause-made c = rw c.in-StoredBlackboard.is (sym (blackboard_out _ _ c.args.self.now.partition (slot_out blackboard_limit c.in-StoredBlackboard.id _ c.slot-k-in-StoredBlackboard.ensures c.if-k-lt-BLACKBOARDS.false)))
