-- The machine with no bound. So as to be total, the definitions carry bounds: an id outside its limit names the default and stores nothing,
-- a full list or queue stays as it is, a level above 16 counts as 16, a channel is queuing between partitions 1 to 8 only, sums of times and
-- a semaphore's value stop at the greatest, at most 8 partitions are ticked, M = 0 gives 0, and
-- a number past the greatest time is no number. Here the same is said without them, and what it means that none of them acts at an event:
-- `no_bound_acts` proves it of every event at every record that a run reaches. Nothing of the machine rests on it.
use Rattle.machine.specs.Mode.{mode_number}
use Rattle.machine.specs.declared.Mode.TheVariants.{Normal as NormalMode}
use Rattle.std.specs.Prelude.{ℕ, zero, suc, ◌+◌, ◌-◌, ◌%◌, ◌≤◌, ◌<◌, ◌≡◌, Bool, true, false, cond, ◌&&◌, ◌||◌, List, [], ◌∷◌, ◌++◌, map, ◌⊎◌, length, get_or, set, drop, eqb, leb, ltb, ℤ, pos, negsuc}
use Rattle.machine.specs.Time.{Time}
use Rattle.std.specs.Prelude.{None, Some}
use Rattle.machine.specs.declared.Field.TheVariants.{Number, MinusOne}
use Rattle.machine.specs.declared.Times.{Times}
use Rattle.machine.specs.declared.Process.{Process}
use Rattle.machine.specs.declared.Semaphore.{Semaphore as SemaphoreT}
use Rattle.machine.specs.declared.EventState.{EventState}
use Rattle.machine.specs.declared.Wait.TheVariants.{None as NoWait}
use Rattle.machine.specs.declared.Transfer.{Transfer}
use Rattle.machine.specs.declared.Transfer.TheVariants.{Put, HandedTo, Taken, LetIn}
use Rattle.machine.specs.declared.Buffer.{Buffer}
use Rattle.machine.specs.declared.Blackboard.{Blackboard as BlackboardT}
use Rattle.machine.specs.declared.Partition.{Partition}
use Rattle.machine.specs.declared.Change.{Change}
use Rattle.machine.specs.declared.Change.TheVariants.{Nothing, Stored, Created, Last, StoredSemaphore, StoredEvent, CreatedBuffer, Moved, StoredBlackboard, Ended, Handed, LevelSet, Entered}
use Rattle.machine.specs.declared.Decision.{Decision}
use Rattle.machine.specs.declared.Decision.TheVariants.{Refused, Unchanged, Ticked, Blocked, Changed, Restarted, Written, Passed}
use Rattle.machine.specs.declared.Event.{Event as EventT}
use Rattle.machine.specs.declared.Request.{Request}
use Rattle.machine.specs.declared.Module.{Module}
use Rattle.machine.specs.declared.Table.{Table}
use Rattle.machine.specs.declared.Window.{Window}
use Rattle.machine.specs.declared.Stepped.{Stepped}
use Rattle.machine.specs.Limits.{level_limit, channel_limit, greatest_time, greatest_value}
use Rattle.machine.specs.Fields.{field, request_of, is_number, between, is_minus_one, number_of}
use Rattle.machine.specs.Ids.{members, ids_of, kept, other}
use Rattle.machine.specs.Messages.{held, queue_of, ends_wait}
use Rattle.machine.specs.Process.{blank_process, later, carried, ready, on_object, waits_for_nothing, entered}
use Rattle.machine.specs.Partition.{normal_mode, nothing_created, no_semaphore, no_event, no_buffer, no_blackboard, process, semaphore, event, buffer, blackboard, empty_buffer, with_mode, with_lock, with_processes, with_semaphores, with_events, with_buffers, with_blackboards, waiters}
use Rattle.machine.specs.Decisions.{reply_of, unknown}
use Rattle.machine.specs.Objects.{one_more}
use Rattle.machine.specs.Windows.{windows, any_window, flagged_for, starts_from, first_start, ahead_of, next_start, covering, lookup, release_point}
use Rattle.machine.specs.Table.{has_flagged}
use Rattle.machine.specs.Module.{empty_module, channel, part, queue, with_part, with_message, with_queue}
use Rattle.machine.specs.Ticks.{partition_count}
use Rattle.machine.specs.Channels.{queuing, other_end, leads_into, erased_to, admitted}
use Rattle.machine.specs.Step.{decision, answer_to, step}
use Rattle.machine.specs.Theorems.Valid.{Between, plain_later}

-- ---------------------------------------------------------------- lists
-- what an id names: ids count from 1, and 0 names none
abbrev pub plain_by_id : {A : Type 0} → A → ℕ → List A → A
plain_by_id d zero l = d
plain_by_id d (suc i) l = get_or l i d

-- a list of ids after an id went from belonging to it or not to belonging to it or not: it joins last, or leaves
abbrev pub followed : Bool → Bool → ℕ → List ℕ → List ℕ
followed true true id l = l
followed true false id l = kept (other id) l
followed false true id l = l ++ (id ∷ [])
followed false false id l = l

-- n ids from id on
unfoldable pub ids_from : ℕ → ℕ → List ℕ
ids_from zero id = []
ids_from (suc n) id = id ∷ ids_from n (id + 1)

-- the first n of a list changed
unfoldable pub changed_first : {A : Type 0} → ℕ → (A → A) → List A → List A
changed_first zero f l = l
changed_first (suc n) f [] = []
changed_first (suc n) f (a ∷ l) = f a ∷ changed_first n f l

-- ---------------------------------------------------------------- a process
-- the wait ends (w −1) with this wake code, and this message is in the process record then; all else stays, the suspended mark too
abbrev pub wait_over : ℕ → ℕ → Process → Process
wait_over code m x = record { given = x.given; times = record { release = x.times.release; deadline = x.times.deadline; wake = None; delay = x.times.delay }; current = x.current; suspended = x.suspended; missed = x.missed; code = code; message = m; started = x.started; wait = NoWait }

-- the same with wake code 0, and the message stays: SIGNAL, SET_EVENT, a sender whose message is let in
abbrev pub let_go : Process → Process
let_go x = wait_over 0 x.message x

-- it is not −1 and ≤ t
abbrev pub come : ℕ → Time → Bool
come t None = false
come t (Some n) = leb n t

-- a tick at one process: where w has come, w −1 and no wait; wake code 6 for who waits on an object, or has no wait but the mark, which goes;
-- else 0. Where d has come: missed mark 1, d −1. All else stays.
abbrev pub at_tick : ℕ → Process → Process
at_tick t x =
    let over = come t x.times.wake in
    let late = come t x.times.deadline in
    let unmarked = over && (waits_for_nothing x.wait && x.suspended) in
    record {
      given = x.given;
      times = record { release = x.times.release; deadline = cond late None x.times.deadline; wake = cond over None x.times.wake; delay = x.times.delay };
      current = x.current;
      suspended = cond unmarked false x.suspended;
      missed = cond late true x.missed;
      code = cond over (cond (unmarked || on_object x) 6 0) x.code;
      message = x.message;
      started = x.started;
      wait = cond over NoWait x.wait;
    }

-- ---------------------------------------------------------------- the changes
-- process id has this record from now on; the arrival list and the waiting list follow
unfoldable pub plain_stored : ℕ → Process → Partition → Partition
plain_stored id x p =
    let old = plain_by_id blank_process id p.processes in
    with_processes (set p.processes (id - 1) x) p.process_count
    (ids_of (followed (ready old) (ready x) id (members p.arrival)))
    (ids_of (followed (on_object old) (on_object x) id (members p.waiting))) p

-- the next process
unfoldable pub plain_created : ℕ → Process → Partition → Partition
plain_created id x p = with_processes (set p.processes (id - 1) x) (p.process_count + 1) p.arrival p.waiting p

-- process id goes to the end of the arrival list
unfoldable pub plain_last : ℕ → Partition → Partition
plain_last id p = with_processes p.processes p.process_count (ids_of (kept (other id) (members p.arrival) ++ (id ∷ []))) p.waiting p

-- how many there are after one has been stored: one more where it is the next
abbrev pub count_with : ℕ → ℕ → ℕ
count_with id count = cond (ltb count id) (count + 1) count

unfoldable pub plain_semaphore : ℕ → SemaphoreT → Partition → Partition
plain_semaphore k s p = with_semaphores (set p.semaphores (k - 1) s) (count_with k p.semaphore_count) p

unfoldable pub plain_event : ℕ → EventState → Partition → Partition
plain_event k e p = with_events (set p.events (k - 1) e) (count_with k p.event_count) p

unfoldable pub plain_buffer : ℕ → Buffer → Partition → Partition
plain_buffer k b p = with_buffers (set p.buffers (k - 1) b) (count_with k p.buffer_count) p

unfoldable pub plain_blackboard : ℕ → BlackboardT → Partition → Partition
plain_blackboard k b p = with_blackboards (set p.blackboards (k - 1) b) (count_with k p.blackboard_count) p

-- a queue's messages after they moved
abbrev pub plain_moved : Transfer → List ℕ → List ℕ
plain_moved (Put m) l = l ++ (m ∷ [])
plain_moved (HandedTo id m) l = l
plain_moved Taken l = drop 1 l
plain_moved (LetIn id m) l = drop 1 l ++ (m ∷ [])

-- a wait that a transfer ends
abbrev pub plain_ended : Transfer → Partition → Partition
plain_ended (Put m) p = p
plain_ended (HandedTo id m) p = plain_stored id (wait_over 0 m (plain_by_id blank_process id p.processes)) p
plain_ended Taken p = p
plain_ended (LetIn id m) p = plain_stored id (let_go (plain_by_id blank_process id p.processes)) p

abbrev pub plain_moved_in : Transfer → Buffer → Buffer
plain_moved_in a b = record { name = b.name; limit = b.limit; queue = queue_of (plain_moved a (held b.queue)) }

-- a change of these processes, one after the other
unfoldable pub plain_all : (Process → Process) → List ℕ → Partition → Partition
plain_all f [] p = p
plain_all f (id ∷ l) p = plain_all f l (plain_stored id (f (plain_by_id blank_process id p.processes)) p)

-- of every process, by ascending id
abbrev pub plain_each : (Process → Process) → Partition → Partition
plain_each f p = plain_all f (ids_from p.process_count 1) p

abbrev pub plain_applied : Change → Partition → Partition
plain_applied Nothing p = p
plain_applied (Stored id x) p = plain_stored id x p
plain_applied (Created id x) p = plain_created id x p
plain_applied (Last id) p = plain_last id p
plain_applied (StoredSemaphore k s) p = plain_semaphore k s p
plain_applied (StoredEvent k e) p = plain_event k e p
plain_applied (CreatedBuffer k name limit) p = plain_buffer k (empty_buffer name limit) p
plain_applied (Moved k a) p = plain_ended a (plain_buffer k (plain_moved_in a (plain_by_id no_buffer k p.buffers)) p)
plain_applied (StoredBlackboard k b) p = plain_blackboard k b p
plain_applied (Ended o) p = plain_all let_go (waiters o p) p
plain_applied (Handed o m) p = plain_all (wait_over 0 m) (waiters o p) p
plain_applied (LevelSet level holder) p = with_lock level holder p
plain_applied (Entered c) p = plain_each (entered c) (with_mode NormalMode p)

-- a process whose wait ends has its place
abbrev pub EndInPlace : Transfer → Partition → Type 0
EndInPlace (Put m) p = Unit {0}
EndInPlace (HandedTo id m) p = Between 1 (length p.processes) id
EndInPlace Taken p = Unit {0}
EndInPlace (LetIn id m) p = Between 1 (length p.processes) id

-- what is stored has its place in its list
abbrev pub InPlace : Change → Partition → Type 0
InPlace Nothing p = Unit {0}
InPlace (Stored id x) p = Between 1 (length p.processes) id
InPlace (Created id x) p = Between 1 (length p.processes) id
InPlace (Last id) p = Between 1 (length p.processes) id
InPlace (StoredSemaphore k s) p = Between 1 (length p.semaphores) k
InPlace (StoredEvent k e) p = Between 1 (length p.events) k
InPlace (CreatedBuffer k name limit) p = Between 1 (length p.buffers) k
InPlace (Moved k a) p = Between 1 (length p.buffers) k × EndInPlace a p
InPlace (StoredBlackboard k b) p = Between 1 (length p.blackboards) k
InPlace (Ended o) p = Unit {0}
InPlace (Handed o m) p = Unit {0}
InPlace (LevelSet level holder) p = Unit {0}
InPlace (Entered c) p = p.process_count ≤ length p.processes

-- ---------------------------------------------------------------- an event
abbrev pub plain_tick_partition : ℕ → Partition → Partition
plain_tick_partition t p = cond (normal_mode p) (plain_each (at_tick t) p) p

-- t rises by one; each of the P partitions is ticked
abbrev pub plain_ticked : Module → Module
plain_ticked m = record {
  table = m.table;
  t = m.t + 1;
  messages = m.messages;
  queues = m.queues;
  partitions = changed_first m.table.size (plain_tick_partition (m.t + 1)) m.partitions;
}

-- a transfer by partition k on channel number i + 1
abbrev pub plain_passed : ℕ → ℕ → Transfer → Module → Module
plain_passed k i a m =
    let e = other_end k (channel m.table i) - 1 in
    let q = with_queue i (queue_of (plain_moved a (held (queue m i)))) m in
    cond (ends_wait a) (with_part e (plain_ended a (part m e)) q) q

-- channel number i + 1 emptied, and its waiting senders let in until it is full
abbrev pub plain_refilled_at : ℕ → Module → Module
plain_refilled_at i m =
    let c = channel m.table i in
    let p = part m (c.source - 1) in
    let ids = admitted i c p in
    with_part (c.source - 1) (plain_all let_go ids p) (with_queue i (queue_of (map (λ id. carried (plain_by_id blank_process id p.processes)) ids)) m)

-- the first n channels, those that are queuing and lead into partition k
unfoldable pub plain_refilled_to : ℕ → ℕ → Module → Module
plain_refilled_to k zero m = m
plain_refilled_to k (suc n) m =
    let h = plain_refilled_to k n m in
    let c = channel h.table n in
    cond (ltb 0 c.size && leads_into k c) (plain_refilled_at n h) h

-- what a decision of partition k leaves of the module
abbrev pub plain_after : Module → ℕ → Decision → Module
plain_after m k (Refused code) = m
plain_after m k (Unchanged value extra) = m
plain_after m k Ticked = plain_ticked m
plain_after m k (Blocked id x) = with_part (k - 1) (plain_stored id x (part m (k - 1))) m
plain_after m k (Changed a b value) = with_part (k - 1) (plain_applied b (plain_applied a (part m (k - 1)))) m
plain_after m k (Restarted mode) = plain_refilled_to k m.table.channel_count (with_part (k - 1) (nothing_created (mode_number mode)) (erased_to k channel_limit m))
plain_after m k (Written i x) = with_message i (Some x) m
plain_after m k (Passed i a value) = plain_passed k i a m

-- what it stores has its place: in the partition's lists, and a message on a channel of the table
abbrev pub AllInPlace : Module → ℕ → Decision → Type 0
AllInPlace m k (Refused code) = Unit {0}
AllInPlace m k (Unchanged value extra) = Unit {0}
AllInPlace m k Ticked = (i : ℕ) → i < m.table.size → (part m i).process_count ≤ length (part m i).processes
AllInPlace m k (Blocked id x) = InPlace (Stored id x) (part m (k - 1))
AllInPlace m k (Changed a b value) = InPlace a (part m (k - 1)) × InPlace b (plain_applied a (part m (k - 1)))
AllInPlace m k (Restarted mode) = (i : ℕ) → i < m.table.channel_count → (i < length m.queues) × Between 1 m.table.size (channel m.table i).source
AllInPlace m k (Written i x) = (i < m.table.channel_count) × (i < length m.messages)
AllInPlace m k (Passed i a value) =
    let e = other_end k (channel m.table i) in
    (i < m.table.channel_count) × (i < length m.queues) × Between 1 m.table.size e × EndInPlace a (part m (e - 1))

-- the decision, applied so, and the answer read off the record then
abbrev pub plain_stepped : Module → Request → Decision → Stepped
plain_stepped m r d =
    let q = plain_after m (number_of r.partition) d in
    record { state = q; answer = answer_to r (reply_of d) q }

-- ---------------------------------------------------------------- numbers
-- a time that no cap has made
abbrev pub Uncapped : Time → Type 0
Uncapped None = Unit {0}
Uncapped (Some n) = n < greatest_time

pub record UncappedTimes (s : Times) : Type 0 where
  pub release : Uncapped s.release
  pub deadline : Uncapped s.deadline
  pub wake : Uncapped s.wake

-- the rules' tests of a field, on the number itself
abbrev pub plain_between : ℕ → ℕ → ℤ → Bool
plain_between low high (pos n) = leb low n && leb n high
plain_between low high (negsuc n) = false

abbrev pub plain_number : ℕ → ℤ → Bool
plain_number n (pos m) = eqb m n
plain_number n (negsuc m) = false

abbrev pub plain_minus_one : ℤ → Bool
plain_minus_one (pos n) = false
plain_minus_one (negsuc n) = eqb n 0

abbrev pub plain_unknown : ℤ → ℕ → Bool
plain_unknown (pos id) count = unknown id count
plain_unknown (negsuc n) count = true

-- one of an event's numbers is looked at without loss: −1 and a number up to the greatest time are kept, and every test of a rule, whose
-- limits lie below that time, says of the field what it says of the number
pub record Lossless (z : ℤ) : Type 0 where
  pub number : (n : ℕ) → n ≤ greatest_time → z ≡ pos n → field z ≡ Number n
  pub minus_one : z ≡ negsuc 0 → field z ≡ MinusOne
  pub between : (low high : ℕ) → high ≤ greatest_time → between low high (field z) ≡ plain_between low high z
  pub is_number : (n : ℕ) → n ≤ greatest_time → is_number n (field z) ≡ plain_number n z
  pub is_minus_one : is_minus_one (field z) ≡ plain_minus_one z
  pub unknown : (count : ℕ) → count ≤ greatest_time → unknown (number_of (field z)) count ≡ plain_unknown z count

-- ---------------------------------------------------------------- no bound acts
-- what an id names, whatever the id
pub record PlainReads (p : Partition) : Type 0 where
  pub processes : (id : ℕ) → process id p ≡ plain_by_id blank_process id p.processes
  pub semaphores : (k : ℕ) → semaphore k p ≡ plain_by_id no_semaphore k p.semaphores
  pub events : (k : ℕ) → event k p ≡ plain_by_id no_event k p.events
  pub buffers : (k : ℕ) → buffer k p ≡ plain_by_id no_buffer k p.buffers
  pub blackboards : (k : ℕ) → blackboard k p ≡ plain_by_id no_blackboard k p.blackboards

-- no number that the partition holds is one that a cap made, and a level is not above 16, so that LOCK_PREEMPTION answers 4 at 16 alone
pub record PlainNumbers (p : Partition) : Type 0 where
  pub times : (id : ℕ) → Between 1 p.process_count id → UncappedTimes (process id p).times
  pub values : (k : ℕ) → Between 1 p.semaphore_count k → (semaphore k p).value < greatest_value
  pub level : leb level_limit p.level ≡ eqb p.level level_limit

-- M is not 0: the window lookup and the next start of a window are the plain ones at every time; P is at most 8, there are at most 16 channels, and a
-- channel is queuing by its size alone; every partition has a window with flag 1, and its release point is the next start of one, from t on
pub record PlainTable (T : Table) (t : ℕ) : Type 0 where
  pub frame : 1 ≤ T.frame
  pub current : (t : ℕ) → lookup T t ≡ covering (windows T) (t % T.frame) (next_start T t any_window)
  pub starts : (t : ℕ) (f : Window → Bool) → let x = t % T.frame in
      next_start T t f ≡ ahead_of T.frame x (first_start (starts_from f (x + 1)) (windows T)) (first_start (starts_from f 0) (windows T))
  pub count : partition_count T ≡ T.size
  pub queuing : (i : ℕ) → i < T.channel_count → queuing (channel T i) ≡ ltb 0 (channel T i).size
  pub channels : T.channel_count ≤ channel_limit
  pub flagged : (k : ℕ) → Between 1 T.size k → has_flagged k (windows T) ≡ true
  pub release : (k : ℕ) → release_point T t k ≡ t + next_start T t (flagged_for k)

-- a cap that acts is seen: a sum of times is the plain one or the greatest time, also where one more is added to it, and one more than a
-- semaphore's value is the plain one or not below the greatest
pub record CapsSeen : Type 0 where
  pub sum : (a b : Time) → (later a b ≡ plain_later a b) ⊎ (later a b ≡ Some greatest_time)
  pub sums : (a b c : Time) → (later (later a b) c ≡ plain_later (plain_later a b) c) ⊎ (later (later a b) c ≡ Some greatest_time)
  pub more : (n : ℕ) → (one_more n ≡ n + 1) ⊎ (greatest_value ≤ one_more n)

-- at event e none of the bounds acts
pub record NoBoundActs (m : Module) (e : EventT) : Type 0 where
  -- the event's numbers
  pub numbers : Lossless e.partition × Lossless e.call × Lossless e.a × Lossless e.b × Lossless e.c × Lossless e.e
  -- the table
  pub table : PlainTable m.table m.t
  -- the event is refused with 13, or its partition is 0 or one of 1..P, which lie in the list of partitions
  pub partition : (decision m (request_of e) ≡ Refused 13) ⊎ (number_of (request_of e).partition ≤ m.table.size)
  pub partitions : m.table.size ≤ length m.partitions
  -- what a call reads by id of any partition
  pub reads : (i : ℕ) → i < m.table.size → PlainReads (part m i)
  -- what the event stores has its place, and answer and whole record are those of the plain changes
  pub places : AllInPlace m (number_of (request_of e).partition) (decision m (request_of e))
  pub steps : step m e ≡ plain_stepped m (request_of e) (decision m (request_of e))
  -- a cap that acts is seen, and in the record after the event none is
  pub caps : CapsSeen
  pub uncapped : (i : ℕ) → i < m.table.size → PlainNumbers (part (step m e).state i)

-- the empty record apart: every event answers 13 and leaves it
pub record EmptyStays (m : Module) (e : EventT) : Type 0 where
  pub empty : m ≡ empty_module
  pub refused : step m e ≡ record { state = empty_module; answer = record { code = 13; value = 0; extra = Some 0; t = 0; current = 0; running = 0 } }
