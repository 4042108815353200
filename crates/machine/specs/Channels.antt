-- Channels: what a call sees of the channel that it names (Port), the sampling calls 21 and 22 and the queuing calls 30 and 31 as functions of it,
-- and what a transfer and a restart make of the module.
use Rattle.machine.specs.Decisions.{blank_message}
use Rattle.std.specs.Prelude.{Option, is_none, unwrap_or}
use Rattle.std.specs.Prelude.{ℕ, zero, suc, ◌+◌, ◌-◌, Bool, true, cond, not, ◌&&◌, List, [], ◌∷◌, map, set, take, leb, ltb, eqb}
use Rattle.machine.specs.declared.Channel.{Channel}
use Rattle.machine.specs.declared.Message.{Message}
use Rattle.machine.specs.declared.Queue.{Queue}
use Rattle.machine.specs.declared.Module.{Module}
use Rattle.machine.specs.declared.Context.{Context}
use Rattle.machine.specs.declared.Traffic.{Traffic}
use Rattle.machine.specs.declared.Port.{Port}
use Rattle.machine.specs.declared.Transfer.{Transfer}
use Rattle.machine.specs.declared.Decision.{Decision}
use Rattle.machine.specs.declared.Decision.TheVariants.{Refused, Unchanged, Written, Passed}
use Rattle.machine.specs.declared.Partition.{Partition}
use Rattle.machine.specs.declared.Request.{Request}
use Rattle.machine.specs.declared.Table.{Table}
use Rattle.machine.specs.Time.{Time}
use Rattle.std.specs.Prelude.{Some}
use Rattle.machine.specs.declared.Wait.TheVariants.{Source, Destination}
use Rattle.machine.specs.declared.Field.{Field}
use Rattle.machine.specs.Limits.{partition_limit, channel_limit}
use Rattle.machine.specs.Fields.{between, is_duration, is_message, number_of}
use Rattle.machine.specs.Messages.{queue_of, first, sent, received, moved, ends_wait}
use Rattle.machine.specs.Process.{object, carried, served}
use Rattle.machine.specs.Partition.{within, process, waiters, first_waiter, changed_all, ended_by}
use Rattle.machine.specs.Decisions.{checked, no_message, awaiting}
use Rattle.machine.specs.Module.{channel, part, message, queue, with_part, with_messages, with_queue}

-- ---------------------------------------------------------------- what a call sees of a channel
-- A channel's kind: queuing, with 1..8 messages, or sampling. Bound: the ends of a queuing one are partitions that the record has places for.
abbrev pub queuing : Channel → Bool
queuing c = ltb 0 c.size && (within partition_limit c.source && within partition_limit c.destination)

-- there is a channel number i + 1, and it is queuing
abbrev pub queuing_at : Table → ℕ → Bool
queuing_at T i = ltb i T.channel_count && queuing (channel T i)

-- what is seen at partition k of a channel that holds x: the message at the destination alone
abbrev pub seen_at : ℕ → Channel → Option Message → Option Message
seen_at k c x = cond (eqb c.destination k) x no_message

-- at neither end
abbrev pub apart : ℕ → Channel → Bool
apart k x = not (eqb x.source k) && not (eqb x.destination k)

-- the other end, and the queue of those who wait there: receivers at the destination, senders at the source
abbrev pub other_end : ℕ → Channel → ℕ
other_end k c = cond (eqb c.source k) c.destination c.source

abbrev pub other_queue : ℕ → ℕ → Channel → ℕ
other_queue k i c = cond (eqb c.source k) (object (Destination (i + 1))) (object (Source (i + 1) 0))

abbrev pub no_traffic : Traffic
no_traffic = record { len = 0; first = 0; waiter = 0; carried = 0 }

-- what is seen of a queue of messages and of those who wait on o in the partition at the other end
abbrev pub traffic_of : Queue → ℕ → Partition → Traffic
traffic_of q o p = let id = first_waiter o p in record { len = q.len; first = first q; waiter = id; carried = carried (process id p) }

-- the traffic of a queuing channel is seen at both its ends
abbrev pub sees_traffic : Table → ℕ → ℕ → Bool
sees_traffic T k i = queuing_at T i && not (apart k (channel T i))

abbrev pub traffic_at : Module → ℕ → ℕ → Traffic
traffic_at m k i =
    let c = channel m.table i in
    cond (sees_traffic m.table k i) (traffic_of (queue m i) (other_queue k i c) (part m (other_end k c - 1))) no_traffic

-- what partition k sees of the channel that a names, on which x lies, with this traffic
abbrev pub port_at : Table → ℕ → Field → Option Message → Traffic → Port
port_at T k a x y =
    let i = number_of a - 1 in
    record { own = k; place = i; exists = between 1 T.channel_count a; channel = channel T i; message = seen_at k (channel T i) x; traffic = y }

abbrev pub port_of : Module → ℕ → Request → Port
port_of m k r = let i = number_of r.a - 1 in port_at m.table k r.a (message m i) (traffic_at m k i)

-- ---------------------------------------------------------------- sampling
-- 21, 22, 30, 31. 3: no such channel, one of the other kind, or the caller's partition at neither end. 5: that partition isn't the end wanted.
unfoldable pub channel_checks : Port → Bool → ℕ → List (Bool × ℕ)
channel_checks x otherKind wanted =
    (not x.exists, 3)
    ∷ (otherKind, 3)
    ∷ (apart x.own x.channel, 3)
    ∷ (not (eqb wanted x.own), 5)
    ∷ []

-- 21 WRITE channel, a. 5: that partition isn't its source. 3: a not in D. Stores a and t.
unfoldable pub write : Context → Port → Field → Decision
write c x a =
    checked Refused (channel_checks x (queuing x.channel) x.channel.source)
    (checked Refused ((not (is_duration a), 3) ∷ [])
    (Written x.place (record { value = number_of a; written = c.time })))

-- extra 1 if t − written ≤ refresh, else 0
abbrev pub freshness : ℕ → Message → Channel → Time
freshness t x c = Some (cond (leb (t - x.written) c.refresh) 1 0)

-- 22 READ channel. Same 3; 5: not its destination. 1: no message. Value a, extra 1 if t − written ≤ refresh, else 0.
unfoldable pub read : Context → Port → Decision
read c x =
    checked Refused (channel_checks x (queuing x.channel) x.channel.destination)
    (checked Refused ((is_none x.message, 1) ∷ [])
    (let y = unwrap_or x.message blank_message in Unchanged y.value (freshness c.time y x.channel)))

-- ---------------------------------------------------------------- queuing
-- the channel that a call names is queuing. Bound: it is one that the record has a place for.
abbrev pub queuing_port : Port → Bool
queuing_port x = queuing x.channel && ltb x.place channel_limit

-- 30 SEND channel, message, time-out: checks as 21's first 3 and 5, then as for a buffer. Sending to a full queue waits.
unfoldable pub send : Context → Port → Field → Field → Partition → Decision
send c x m a p =
    awaiting c (channel_checks x (not (queuing_port x)) x.channel.source) (is_message m) [] a
    (ltb x.traffic.len x.channel.size) (Passed x.place (sent x.traffic.waiter (number_of m)) 0) (Source (x.place + 1) (number_of m)) p

-- 31 RECEIVE channel, time-out: as 22's first 3 and 5, then as from a buffer. Receiving from an empty queue waits.
unfoldable pub receive : Context → Port → Field → Partition → Decision
receive c x a p =
    awaiting c (channel_checks x (not (queuing_port x)) x.channel.destination) true [] a
    (ltb 0 x.traffic.len) (Passed x.place (received x.traffic.waiter x.traffic.carried) x.traffic.first) (Destination (x.place + 1)) p

-- ---------------------------------------------------------------- transfers
-- a wait that a transfer ends is one of partition number j + 1
abbrev pub ended_at : ℕ → Transfer → Module → Module
ended_at j a m = cond (ends_wait a) (with_part j (ended_by a (part m j)) m) m

-- a transfer by partition k on channel number i + 1: its messages move, and a wait ends at the other end
abbrev pub passed : ℕ → ℕ → Transfer → Module → Module
passed k i a m = ended_at (other_end k (channel m.table i) - 1) a (with_queue i (moved a (queue m i)) m)

-- ---------------------------------------------------------------- restarts
abbrev pub leads_into : ℕ → Channel → Bool
leads_into k c = eqb c.destination k

-- the messages without those on the first n channels into partition k
unfoldable pub kept_to : Table → ℕ → ℕ → List (Option Message) → List (Option Message)
kept_to T k zero l = l
kept_to T k (suc n) l = cond (leads_into k (channel T n)) (set (kept_to T k n l) n no_message) (kept_to T k n l)

abbrev pub erased_to : ℕ → ℕ → Module → Module
erased_to k n m = with_messages (kept_to m.table k n m.messages) m

-- the first waiting senders of channel number i + 1, as many as it holds messages
abbrev pub admitted : ℕ → Channel → Partition → List ℕ
admitted i c p = take c.size (waiters (object (Source (i + 1) 0)) p)

-- Restarting the destination empties the queue, then lets waiting senders in until it is full
abbrev pub refilled_at : ℕ → Module → Module
refilled_at i m =
    let c = channel m.table i in
    let p = part m (c.source - 1) in
    let ids = admitted i c p in
    with_part (c.source - 1) (changed_all served ids p) (with_queue i (queue_of (map (λ id. carried (process id p)) ids)) m)

-- channels by ascending number: the first n that lead into partition k
unfoldable pub refilled_to : ℕ → ℕ → Module → Module
refilled_to k zero m = m
refilled_to k (suc n) m = let h = refilled_to k n m in cond (queuing_at h.table n && leads_into k (channel h.table n)) (refilled_at n h) h
