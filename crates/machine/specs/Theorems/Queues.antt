-- Queues, said over the number o of an object (`object`; 0 is none), for every kind of object at once: a waiter joins its object's queue last,
-- ended waits leave it and the others keep their order, and the first is served first. The queue of an object is `waiters o p`. Nothing of the
-- machine rests on it.
use Rattle.machine.specs.Mode.{mode_number}
use Rattle.std.specs.Prelude.{Some, is_some}
use Rattle.std.specs.Prelude.{ℕ, ◌+◌, ◌-◌, ◌≤◌, ◌<◌, ◌≡◌, Bool, true, false, cond, not, ◌&&◌, List, [], ◌∷◌, ◌++◌, ◌⊎◌, eqb, ltb, ℤ, pos}
use Rattle.machine.specs.declared.Process.{Process}
use Rattle.machine.specs.declared.Partition.{Partition}
use Rattle.machine.specs.declared.Context.{Context}
use Rattle.machine.specs.declared.Semaphore.{Semaphore as SemaphoreT}
use Rattle.machine.specs.declared.EventState.{EventState}
use Rattle.machine.specs.declared.Buffer.{Buffer}
use Rattle.machine.specs.declared.Blackboard.{Blackboard as BlackboardT}
use Rattle.machine.specs.declared.Change.TheVariants.{Ended, Handed}
use Rattle.machine.specs.declared.Wait.TheVariants.{Semaphore, Event, Sending, Receiving, Blackboard, Source, Destination}
use Rattle.machine.specs.declared.Channel.{Channel}
use Rattle.machine.specs.declared.Table.{Table}
use Rattle.machine.specs.declared.Event.{Event as EventT}
use Rattle.machine.specs.declared.Module.{Module}
use Rattle.machine.specs.Limits.{duration_limit}
use Rattle.machine.specs.Fields.{request_of, number_of}
use Rattle.machine.specs.Ids.{members, kept}
use Rattle.machine.specs.Process.{Class, object_in, object, carried, due, ready}
use Rattle.machine.specs.Messages.{held}
use Rattle.machine.specs.Buffers.{has_room, holds}
use Rattle.machine.specs.Partition.{normal_mode, process, semaphore, event, buffer, blackboard, stored, stored_semaphore, stored_event, created, stored_buffer, stored_blackboard, arrived_last, with_lock, applied, tick_partition, entered_normal, running, waits_on, waiters}
use Rattle.machine.specs.Module.{channel, part, queue}
use Rattle.machine.specs.Step.{step}
use Rattle.machine.specs.Theorems.Valid.{Between, contains, Distinct, Reached}
use Rattle.machine.specs.Theorems.Events.{own, call_by, TimeOut, Calling}
use Rattle.machine.specs.Theorems.Plain.{followed, wait_over}

-- ---------------------------------------------------------------- a queue
-- it holds just the processes that wait on the object, each once
pub record Queue (o : ℕ) (p : Partition) : Type 0 where
  pub exact : (id : ℕ) → contains id (waiters o p) ≡ waits_on o p id
  pub once : Distinct (waiters o p)

-- a process with record x gets the record y: it waits on no object, or on the one on which it waited
abbrev pub KeepsOrEnds : Process → Process → Type 0
KeepsOrEnds x y = (object y.wait ≡ 0) ⊎ (object y.wait ≡ object x.wait)

-- or it waited on none, and begins
abbrev pub NotExchanged : Process → Process → Type 0
NotExchanged x y = (object x.wait ≡ 0) ⊎ KeepsOrEnds x y

-- queue o of a partition p after each change
pub record QueueChanges (o : ℕ) (p : Partition) : Type 0 where
  -- process id gets the record x: one that begins to wait on the object joins last, one that ceases leaves, the others stay in their order
  pub stored : (id : ℕ) (x : Process) → Between 1 p.process_count id → NotExchanged (process id p) x
      → waiters o (stored id x p) ≡ followed (waits_on o p id) (eqb (object x.wait) o) id (waiters o p)
  -- one created, one put last in the arrival list, an object stored: the queue stays
  pub created : (x : Process) → object x.wait ≡ 0 → waiters o (created (p.process_count + 1) x p) ≡ waiters o p
  pub arrived : (id : ℕ) → waiters o (arrived_last id p) ≡ waiters o p
  pub locked : (level holder : ℕ) → waiters o (with_lock level holder p) ≡ waiters o p
  pub semaphore : (k : ℕ) (s : SemaphoreT) → waiters o (stored_semaphore k s p) ≡ waiters o p
  pub event : (k : ℕ) (e : EventState) → waiters o (stored_event k e p) ≡ waiters o p
  pub buffer : (k : ℕ) (b : Buffer) → waiters o (stored_buffer k b p) ≡ waiters o p
  pub blackboard : (k : ℕ) (b : BlackboardT) → waiters o (stored_blackboard k b p) ≡ waiters o p
  -- all waits on an object end: its queue is empty then, and that of another object stays
  pub ended : waiters o (applied (Ended o) p) ≡ []
  pub ended_other : (u : ℕ) → (u ≡ o → ⊥) → waiters o (applied (Ended u) p) ≡ waiters o p
  -- the same where a message is handed over
  pub handed : (m : ℕ) → waiters o (applied (Handed o m) p) ≡ []
  pub handed_other : (m u : ℕ) → (u ≡ o → ⊥) → waiters o (applied (Handed u m) p) ≡ waiters o p
  -- entering NORMAL: the queue stays
  pub entered : (c : Context) → waiters o (entered_normal c p) ≡ waiters o p
  -- a tick of a NORMAL partition: those whose wake time has come leave
  pub ticked : (t : ℕ) → normal_mode p ≡ true → waiters o (tick_partition t p) ≡ kept (λ id. not (due t (process id p).times.wake)) (waiters o p)

-- ---------------------------------------------------------------- who waits
-- no object changes
pub record SameObjects (p q : Partition) : Type 0 where
  pub semaphores : q.semaphores ≡ p.semaphores
  pub events : q.events ≡ p.events
  pub buffers : q.buffers ≡ p.buffers
  pub blackboards : q.blackboards ≡ p.blackboards

-- what a call that waits on queue k of a kind looks at, by the kinds of class_of: a semaphore's value is above 0, an event is UP, a buffer has
-- room, a buffer holds a message, a blackboard shows one
abbrev pub available : ℕ → ℕ → Partition → Bool
available kind k p =
    cond (eqb kind 1) (ltb 0 (semaphore k p).value)
    (cond (eqb kind 2) (event k p).up
    (cond (eqb kind 3) (has_room (buffer k p))
    (cond (eqb kind 4) (holds (buffer k p))
    (cond (eqb kind 5) (is_some (blackboard k p).message) false))))

-- the number of queue k of a kind
abbrev pub queue_number : ℕ → ℕ → ℕ
queue_number kind k = object_in (Class.onto kind k 0)

-- nobody waits for what is there: no process waits on a semaphore above 0, on an event UP, with a message for a buffer that has room, for a
-- message of a buffer that holds one, and no reader waits while a blackboard shows one
abbrev pub NoneWaits : Partition → Type 0
NoneWaits p = (kind k : ℕ) → available kind k p ≡ true → waiters (queue_number kind k) p ≡ []

-- ---------------------------------------------------------------- who waits at the ends of queuing channels
-- channel number k is a queuing one of the table, and this is its end
pub record EndOf (T : Table) (end : Channel → ℕ) (k i : ℕ) : Type 0 where
  pub there : Between 1 T.channel_count k
  pub queuing : (channel T (k - 1)).size ≡ 0 → ⊥
  pub here : end (channel T (k - 1)) ≡ i + 1

-- a process waits with a message only in the partition at the source of a queuing channel of the table, and for one only in that at its
-- destination; nobody waits for what is there: no sender where the queue has room, no receiver where it holds a message
pub record ChannelEnds (m : Module) : Type 0 where
  pub sources : (i id k n : ℕ) → i < m.table.size → (process id (part m i)).wait ≡ Source k n → EndOf m.table (λ c. c.source) k i
  pub destinations : (i id k : ℕ) → i < m.table.size → (process id (part m i)).wait ≡ Destination k → EndOf m.table (λ c. c.destination) k i
  pub room : (i : ℕ) → i < m.table.channel_count → (queue m i).len < (channel m.table i).size → waiters (object (Source (i + 1) 0)) (own m (channel m.table i).source) ≡ []
  pub message : (i : ℕ) → i < m.table.channel_count → 0 < (queue m i).len → waiters (object (Destination (i + 1))) (own m (channel m.table i).destination) ≡ []

-- ---------------------------------------------------------------- an event
-- who joins queue o of partition number i + 1, whose record was p and is q, at an event of partition k that answers code: the process that ran,
-- where the event is its own partition's, answers 7, and it waits on the object then
abbrev pub joining : ℕ → ℕ → ℕ → ℕ → Partition → Partition → List ℕ
joining code k i o p q = cond (eqb code 7 && (eqb k (i + 1) && waits_on o q (running p))) (running p ∷ []) []

-- the queue after an event: those of the queue before it that still wait on the object, in their order, and behind them who joins
pub record QueueAfter (m : Module) (e : EventT) (i o : ℕ) : Type 0 where
  pub before : Queue o (part m i)
  pub after : Queue o (part (step m e).state i)
  pub order : let p = part m i in
      let q = part (step m e).state i in
      waiters o q ≡ kept (waits_on o q) (waiters o p) ++ joining (step m e).answer.code (number_of (request_of e).partition) i o p q

-- ---------------------------------------------------------------- the calls that end waits
-- the wait of process id, the first of queue o, ends: it leaves the queue, this message is in its record then, all else in it stays (the mark too), and
-- no other process changes
pub record FirstServed (m : Module) (k : ℕ) (e : EventT) (o id : ℕ) (rest : List ℕ) (message : ℕ) : Type 0 where
  pub code : (step m e).answer.code ≡ 0
  pub queue : waiters o (own (step m e).state k) ≡ rest
  pub ended : process id (own (step m e).state k) ≡ wait_over 0 message (process id (own m k))
  pub others : (y : ℕ) → (y ≡ id → ⊥) → process y (own (step m e).state k) ≡ process y (own m k)

-- nobody is served: no process changes
pub record NoneServed (m : Module) (k : ℕ) (e : EventT) (o : ℕ) : Type 0 where
  pub code : (step m e).answer.code ≡ 0
  pub queue : waiters o (own (step m e).state k) ≡ []
  pub processes : (own (step m e).state k).processes ≡ (own m k).processes

-- all waits of queue o end, each waiter has its message then, no other process changes, and those READY then join the arrival list in queue order
pub record AllServed (m : Module) (k : ℕ) (e : EventT) (o : ℕ) (message : ℕ → ℕ) : Type 0 where
  pub code : (step m e).answer.code ≡ 0
  pub queue : waiters o (own (step m e).state k) ≡ []
  pub ended : (id : ℕ) → contains id (waiters o (own m k)) ≡ true → process id (own (step m e).state k) ≡ wait_over 0 (message id) (process id (own m k))
  pub others : (id : ℕ) → contains id (waiters o (own m k)) ≡ false → process id (own (step m e).state k) ≡ process id (own m k)
  pub arrival : members (own (step m e).state k).arrival ≡ members (own m k).arrival ++ kept (λ id. ready (process id (own (step m e).state k))) (waiters o (own m k))

-- the message that a process has
abbrev pub has : Module → ℕ → ℕ → ℕ
has m k id = (process id (own m k)).message

-- semaphores and events (a call that waits joins last: `QueueAfter`; its record is `MayWait` of EachCall)
pub record QueueCalls (m : Module) (k j : ℕ) : Type 0 where
  -- 16 SIGNAL below max: the first waiter's wait ends; none: value + 1
  pub signal_first : (id : ℕ) (rest : List ℕ) → let p = own m k in
      let e = call_by k 16 (pos j) (pos 0) (pos 0) (pos 0) in
      Between 1 p.semaphore_count j → ((semaphore j p).value ≡ (semaphore j p).max → ⊥) → waiters (object (Semaphore j)) p ≡ id ∷ rest
      → FirstServed m k e (object (Semaphore j)) id rest (has m k id) × SameObjects p (own (step m e).state k)
  pub signal_none : let p = own m k in
      let e = call_by k 16 (pos j) (pos 0) (pos 0) (pos 0) in
      Between 1 p.semaphore_count j → ((semaphore j p).value ≡ (semaphore j p).max → ⊥) → waiters (object (Semaphore j)) p ≡ []
      → NoneServed m k e (object (Semaphore j)) × ((semaphore j (own (step m e).state k)).value ≡ (semaphore j p).value + 1)
  -- 18 SET_EVENT: UP, all waiters' waits end in queue order
  pub set_event : let e = call_by k 18 (pos j) (pos 0) (pos 0) (pos 0) in
      Between 1 (own m k).event_count j → AllServed m k e (object (Event j)) (has m k) × ((event j (own (step m e).state k)).up ≡ true)

-- buffers and blackboards; b is a message
pub record MessageCalls (m : Module) (k j : ℕ) : Type 0 where
  -- 24 SEND_BUFFER where receivers wait: the message goes straight into the first one's record, and no object changes
  pub send_first : (b id : ℕ) (rest : List ℕ) (a : ℤ) → let p = own m k in
      let e = call_by k 24 (pos j) (pos b) a (pos 0) in
      mode_number p.mode ≡ 3 → Between 1 p.buffer_count j → waiters (object (Receiving j)) p ≡ id ∷ rest → b ≤ duration_limit → TimeOut a
      → FirstServed m k e (object (Receiving j)) id rest b × SameObjects p (own (step m e).state k)
  -- where none waits and there is room: it is the buffer's last message
  pub send_none : (b : ℕ) (a : ℤ) → let p = own m k in
      let e = call_by k 24 (pos j) (pos b) a (pos 0) in
      mode_number p.mode ≡ 3 → Between 1 p.buffer_count j → waiters (object (Receiving j)) p ≡ [] → (buffer j p).queue.len < (buffer j p).limit → b ≤ duration_limit → TimeOut a
      → NoneServed m k e (object (Receiving j)) × (held (buffer j (own (step m e).state k)).queue ≡ held (buffer j p).queue ++ (b ∷ []))
  -- 25 RECEIVE_BUFFER: the first message; the first waiting sender's message is let in at the end, none: the others move up
  pub receive_first : (b : ℕ) (l : List ℕ) (id : ℕ) (rest : List ℕ) (a : ℤ) → let p = own m k in
      let e = call_by k 25 (pos j) a (pos 0) (pos 0) in
      mode_number p.mode ≡ 3 → Between 1 p.buffer_count j → held (buffer j p).queue ≡ b ∷ l → waiters (object (Sending j 0)) p ≡ id ∷ rest → TimeOut a
      → FirstServed m k e (object (Sending j 0)) id rest (has m k id) × ((step m e).answer.value ≡ b) × (held (buffer j (own (step m e).state k)).queue ≡ l ++ (carried (process id p) ∷ []))
  pub receive_none : (b : ℕ) (l : List ℕ) (a : ℤ) → let p = own m k in
      let e = call_by k 25 (pos j) a (pos 0) (pos 0) in
      mode_number p.mode ≡ 3 → Between 1 p.buffer_count j → held (buffer j p).queue ≡ b ∷ l → waiters (object (Sending j 0)) p ≡ [] → TimeOut a
      → NoneServed m k e (object (Sending j 0)) × ((step m e).answer.value ≡ b) × (held (buffer j (own (step m e).state k)).queue ≡ l)
  -- 27 SHOW: all waiters' waits end in queue order, and each has the message; it is shown
  pub show : (b : ℕ) → let e = call_by k 27 (pos j) (pos b) (pos 0) (pos 0) in
      Between 1 (own m k).blackboard_count j → b ≤ duration_limit
      → AllServed m k e (object (Blackboard j)) (λ _. b) × (blackboard j (own (step m e).state k) ≡ record { name = (blackboard j (own m k)).name; message = Some b })

-- queuing channels: channel number i + 1; b is a message
pub record ChannelCalls (m : Module) (k i : ℕ) : Type 0 where
  -- 30 SEND where receivers wait: the message goes straight into the first one's record, in the partition at the destination; the queue and the
  -- caller's record stay
  pub send_first : (b id : ℕ) (rest : List ℕ) (a : ℤ) → let d = (channel m.table i).destination in
      let e = call_by k 30 (pos (i + 1)) (pos b) a (pos 0) in
      mode_number (own m k).mode ≡ 3 → EndOf m.table (λ c. c.source) (i + 1) (k - 1) → waiters (object (Destination (i + 1))) (own m d) ≡ id ∷ rest → b ≤ duration_limit → TimeOut a
      → FirstServed m d e (object (Destination (i + 1))) id rest b × (held (queue (step m e).state i) ≡ held (queue m i)) × (own (step m e).state k ≡ own m k)
  -- 31 RECEIVE where senders wait: the first message; the first waiting sender's is let in at the end
  pub receive_first : (b : ℕ) (l : List ℕ) (id : ℕ) (rest : List ℕ) (a : ℤ) → let d = (channel m.table i).source in
      let e = call_by k 31 (pos (i + 1)) a (pos 0) (pos 0) in
      mode_number (own m k).mode ≡ 3 → EndOf m.table (λ c. c.destination) (i + 1) (k - 1) → held (queue m i) ≡ b ∷ l → waiters (object (Source (i + 1) 0)) (own m d) ≡ id ∷ rest → TimeOut a
      → FirstServed m d e (object (Source (i + 1) 0)) id rest (has m d id) × ((step m e).answer.value ≡ b) × (held (queue (step m e).state i) ≡ l ++ (carried (process id (own m d)) ∷ [])) × (own (step m e).state k ≡ own m k)

-- the whole
pub record Queues : Type 0 where
  -- every event of every reached record, in each partition, for each object
  pub events : (m : Module) → Reached m → (e : EventT) (i : ℕ) → i < m.table.size → (o : ℕ) → (o ≡ 0 → ⊥) → QueueAfter m e i o
  -- each change of a partition of a reached record
  pub changes : (m : Module) → Reached m → (i : ℕ) → i < m.table.size → (o : ℕ) → (o ≡ 0 → ⊥) → QueueChanges o (part m i)
  -- who waits, in each partition of a reached record
  pub none : (m : Module) → Reached m → (i : ℕ) → i < m.table.size → NoneWaits (part m i)
  pub ends : (m : Module) → Reached m → ChannelEnds m
  -- the calls
  pub calls : (m : Module) (k : ℕ) → Calling m k → (j : ℕ) → QueueCalls m k j
  pub messages : (m : Module) (k : ℕ) → Calling m k → (j : ℕ) → MessageCalls m k j
  pub channels : (m : Module) (k : ℕ) → Calling m k → (i : ℕ) → ChannelCalls m k i
