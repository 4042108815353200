-- Calls 23 to 25, on buffers: functions of what the call sees (Context), of the request's fields and of the partition's own record.
use Rattle.std.specs.Prelude.{ℕ, ◌+◌, Bool, true, ◌&&◌, List, [], ◌∷◌, take, leb, ltb}
use Rattle.machine.specs.declared.Buffer.{Buffer}
use Rattle.machine.specs.declared.Partition.{Partition}
use Rattle.machine.specs.declared.Context.{Context}
use Rattle.machine.specs.declared.Change.TheVariants.{Nothing, CreatedBuffer, Moved}
use Rattle.machine.specs.declared.Decision.{Decision}
use Rattle.machine.specs.declared.Decision.TheVariants.{Refused, Changed}
use Rattle.machine.specs.declared.Wait.TheVariants.{Sending, Receiving}
use Rattle.machine.specs.declared.Field.{Field}
use Rattle.machine.specs.Limits.{buffer_limit, message_limit}
use Rattle.machine.specs.Fields.{between, is_name, is_message, number_of}
use Rattle.machine.specs.Messages.{first, sent, received}
use Rattle.machine.specs.Process.{object, carried}
use Rattle.machine.specs.Partition.{normal_mode, process, buffer, first_waiter}
use Rattle.machine.specs.Decisions.{checked, changed, unknown, name_taken, creation_checks, awaiting}

abbrev pub buffer_named : Field → List Buffer → Bool
buffer_named name l = name_taken (λ (x : Buffer). x.name) name l

-- 23 CREATE_BUFFER name, limit: creation checks as for semaphores. A buffer holds 1..16 messages. Value: id.
unfoldable pub create_buffer : Field → Field → Partition → Decision
create_buffer name limit p =
    checked Refused
    (creation_checks (leb buffer_limit p.buffer_count) (buffer_named name (take p.buffer_count p.buffers))
    (is_name name && between 1 message_limit limit) (normal_mode p))
    (Changed (CreatedBuffer (p.buffer_count + 1) (number_of name) (number_of limit)) Nothing (p.buffer_count + 1))

-- there is room for one more message; there is a message
abbrev pub has_room : Buffer → Bool
has_room b = ltb b.queue.len b.limit

abbrev pub holds : Buffer → Bool
holds b = ltb 0 b.queue.len

-- 24 SEND_BUFFER id, message, time-out. A bad message is 3 beside the time-out's 3. Its senders wait when it is full.
unfoldable pub send_buffer : Context → ℕ → Field → Field → Partition → Decision
send_buffer c k m a p =
    awaiting c ((unknown k p.buffer_count, 3) ∷ []) (is_message m) [] a
    (has_room (buffer k p)) (changed (Moved k (sent (first_waiter (object (Receiving k)) p) (number_of m)))) (Sending k (number_of m)) p

-- the first waiting sender's message is let in; a message received is the value
abbrev pub receives : ℕ → ℕ → Partition → Decision
receives sender k p = Changed (Moved k (received sender (carried (process sender p)))) Nothing (first (buffer k p).queue)

-- 25 RECEIVE_BUFFER id, time-out. Its receivers wait when it is empty.
unfoldable pub receive_buffer : Context → ℕ → Field → Partition → Decision
receive_buffer c k a p =
    awaiting c ((unknown k p.buffer_count, 3) ∷ []) true [] a
    (holds (buffer k p)) (receives (first_waiter (object (Sending k 0)) p) k p) (Receiving k) p
