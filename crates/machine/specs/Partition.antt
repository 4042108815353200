-- A partition: its two lists follow the records of its processes.
use Rattle.machine.specs.Mode.{mode_number, mode_numbered}
use Rattle.machine.specs.declared.Mode.TheVariants.{Normal as NormalMode}
use Rattle.machine.specs.declared.Mode.{Mode}
use Rattle.std.specs.Prelude.{None}
use Rattle.std.specs.Prelude.{ℕ, zero, suc, ◌+◌, ◌-◌, max, Bool, false, cond, ◌&&◌, ◌||◌, List, [], ◌∷◌, get_or, set, replicate, leb, ltb, eqb}
use Rattle.machine.specs.declared.Ids.{Ids}
use Rattle.machine.specs.declared.Process.{Process}
use Rattle.machine.specs.declared.Semaphore.{Semaphore as SemaphoreT}
use Rattle.machine.specs.declared.EventState.{EventState}
use Rattle.machine.specs.declared.Buffer.{Buffer}
use Rattle.machine.specs.declared.Blackboard.{Blackboard as BlackboardT}
use Rattle.machine.specs.declared.Transfer.{Transfer}
use Rattle.machine.specs.declared.Transfer.TheVariants.{Put, HandedTo, Taken, LetIn}
use Rattle.machine.specs.declared.Partition.{Partition}
use Rattle.machine.specs.declared.Choice.{Choice}
use Rattle.machine.specs.declared.Context.{Context}
use Rattle.machine.specs.declared.Change.{Change}
use Rattle.machine.specs.declared.Change.TheVariants.{Nothing, Stored, Created, Last, StoredSemaphore, StoredEvent, CreatedBuffer, Moved, StoredBlackboard, Ended, Handed, LevelSet, Entered}
use Rattle.machine.specs.declared.Decision.{Decision}
use Rattle.machine.specs.declared.Decision.TheVariants.{Refused, Unchanged, Ticked, Blocked, Changed, Restarted, Written, Passed}
use Rattle.machine.specs.Limits.{process_limit, semaphore_limit, event_limit, buffer_limit, blackboard_limit}
use Rattle.machine.specs.Ids.{members, ids_of, kept, appended, removed, follow}
use Rattle.machine.specs.Messages.{no_queue, moved}
use Rattle.machine.specs.Process.{blank_process, ready, object, on_object, ticked, served, handed, entered}

-- IDLE 0, COLD_START 1, WARM_START 2, NORMAL 3
abbrev pub idle_mode : Partition → Bool
idle_mode p = eqb (mode_number p.mode) 0

abbrev pub normal_mode : Partition → Bool
normal_mode p = eqb (mode_number p.mode) 3

-- the preemption lock is held: its level is above 0
abbrev pub locked : ℕ → Bool
locked level = ltb 0 level

abbrev pub no_semaphore : SemaphoreT
no_semaphore = record { name = 0; value = 0; max = 0 }

abbrev pub no_event : EventState
no_event = record { name = 0; up = false }

-- a buffer with nothing in it, a blackboard that shows nothing
abbrev pub empty_buffer : ℕ → ℕ → Buffer
empty_buffer name limit = record { name = name; limit = limit; queue = no_queue }

abbrev pub empty_blackboard : ℕ → BlackboardT
empty_blackboard name = record { name = name; message = None }

abbrev pub no_buffer : Buffer
no_buffer = empty_buffer 0 0

abbrev pub no_blackboard : BlackboardT
no_blackboard = empty_blackboard 0

-- a partition in this mode with nothing created, and nothing locked
abbrev pub nothing_created : ℕ → Partition
nothing_created mode = record {
  mode = mode_numbered mode;
  level = 0;
  holder = 0;
  processes = replicate process_limit blank_process;
  process_count = 0;
  semaphores = replicate semaphore_limit no_semaphore;
  semaphore_count = 0;
  events = replicate event_limit no_event;
  event_count = 0;
  buffers = replicate buffer_limit no_buffer;
  buffer_count = 0;
  blackboards = replicate blackboard_limit no_blackboard;
  blackboard_count = 0;
  arrival = ids_of [];
  waiting = ids_of [];
}

-- Ids count from 1 in order of creation: 1..limit
abbrev pub within : ℕ → ℕ → Bool
within limit id = ltb 0 id && leb id limit

-- bound: what an id outside names is the default, and replacing it changes nothing
unfoldable pub by_id : {A : Type 0} → ℕ → A → ℕ → List A → A
by_id limit d id l = cond (within limit id) (get_or l (id - 1) d) d

unfoldable pub replaced : {A : Type 0} → ℕ → ℕ → A → List A → List A
replaced limit id a l = cond (within limit id) (set l (id - 1) a) l

abbrev pub process : ℕ → Partition → Process
process id p = by_id process_limit blank_process id p.processes

abbrev pub semaphore : ℕ → Partition → SemaphoreT
semaphore k p = by_id semaphore_limit no_semaphore k p.semaphores

abbrev pub event : ℕ → Partition → EventState
event k p = by_id event_limit no_event k p.events

abbrev pub buffer : ℕ → Partition → Buffer
buffer k p = by_id buffer_limit no_buffer k p.buffers

abbrev pub blackboard : ℕ → Partition → BlackboardT
blackboard k p = by_id blackboard_limit no_blackboard k p.blackboards

-- this mode, and the preemption lock with this level and this holder
abbrev pub with_mode_and_lock : Mode → ℕ → ℕ → Partition → Partition
with_mode_and_lock mode level holder p = record {
  mode = mode;
  level = level;
  holder = holder;
  processes = p.processes;
  process_count = p.process_count;
  semaphores = p.semaphores;
  semaphore_count = p.semaphore_count;
  events = p.events;
  event_count = p.event_count;
  buffers = p.buffers;
  buffer_count = p.buffer_count;
  blackboards = p.blackboards;
  blackboard_count = p.blackboard_count;
  arrival = p.arrival;
  waiting = p.waiting;
}

-- mode set; a mode change brings the level to 0
abbrev pub with_mode : Mode → Partition → Partition
with_mode mode p = with_mode_and_lock mode 0 0 p

abbrev pub with_lock : ℕ → ℕ → Partition → Partition
with_lock level holder p = with_mode_and_lock p.mode level holder p

abbrev pub with_processes : List Process → ℕ → Ids → Ids → Partition → Partition
with_processes l n a w p = record {
  mode = p.mode;
  level = p.level;
  holder = p.holder;
  processes = l;
  process_count = n;
  semaphores = p.semaphores;
  semaphore_count = p.semaphore_count;
  events = p.events;
  event_count = p.event_count;
  buffers = p.buffers;
  buffer_count = p.buffer_count;
  blackboards = p.blackboards;
  blackboard_count = p.blackboard_count;
  arrival = a;
  waiting = w;
}

abbrev pub with_semaphores : List SemaphoreT → ℕ → Partition → Partition
with_semaphores l n p = record {
  mode = p.mode;
  level = p.level;
  holder = p.holder;
  processes = p.processes;
  process_count = p.process_count;
  semaphores = l;
  semaphore_count = n;
  events = p.events;
  event_count = p.event_count;
  buffers = p.buffers;
  buffer_count = p.buffer_count;
  blackboards = p.blackboards;
  blackboard_count = p.blackboard_count;
  arrival = p.arrival;
  waiting = p.waiting;
}

abbrev pub with_events : List EventState → ℕ → Partition → Partition
with_events l n p = record {
  mode = p.mode;
  level = p.level;
  holder = p.holder;
  processes = p.processes;
  process_count = p.process_count;
  semaphores = p.semaphores;
  semaphore_count = p.semaphore_count;
  events = l;
  event_count = n;
  buffers = p.buffers;
  buffer_count = p.buffer_count;
  blackboards = p.blackboards;
  blackboard_count = p.blackboard_count;
  arrival = p.arrival;
  waiting = p.waiting;
}

abbrev pub with_buffers : List Buffer → ℕ → Partition → Partition
with_buffers l n p = record {
  mode = p.mode;
  level = p.level;
  holder = p.holder;
  processes = p.processes;
  process_count = p.process_count;
  semaphores = p.semaphores;
  semaphore_count = p.semaphore_count;
  events = p.events;
  event_count = p.event_count;
  buffers = l;
  buffer_count = n;
  blackboards = p.blackboards;
  blackboard_count = p.blackboard_count;
  arrival = p.arrival;
  waiting = p.waiting;
}

abbrev pub with_blackboards : List BlackboardT → ℕ → Partition → Partition
with_blackboards l n p = record {
  mode = p.mode;
  level = p.level;
  holder = p.holder;
  processes = p.processes;
  process_count = p.process_count;
  semaphores = p.semaphores;
  semaphore_count = p.semaphore_count;
  events = p.events;
  event_count = p.event_count;
  buffers = p.buffers;
  buffer_count = p.buffer_count;
  blackboards = l;
  blackboard_count = n;
  arrival = p.arrival;
  waiting = p.waiting;
}

-- process id has this record from now on. The arrival list, document 01's term, holds the READY processes: becoming READY appends it
-- to the arrival list; ceasing removes it; and so the waiting list,
-- for waiting on an object. Bound: no such id changes nothing.
unfoldable pub stored : ℕ → Process → Partition → Partition
stored id x p =
    let old = process id p in
    cond (within process_limit id)
    (with_processes (replaced process_limit id x p.processes) p.process_count
    (follow (ready old) (ready x) id p.arrival)
    (follow (on_object old) (on_object x) id p.waiting) p)
    p

-- semaphore k has this record from now on; the next one is created by it. Bound: no such id changes nothing.
unfoldable pub stored_semaphore : ℕ → SemaphoreT → Partition → Partition
stored_semaphore k s p = cond (within semaphore_limit k) (with_semaphores (replaced semaphore_limit k s p.semaphores) (max p.semaphore_count k) p) p

-- event k, the same way
unfoldable pub stored_event : ℕ → EventState → Partition → Partition
stored_event k e p = cond (within event_limit k) (with_events (replaced event_limit k e p.events) (max p.event_count k) p) p

-- buffer k, blackboard k
unfoldable pub stored_buffer : ℕ → Buffer → Partition → Partition
stored_buffer k b p = cond (within buffer_limit k) (with_buffers (replaced buffer_limit k b p.buffers) (max p.buffer_count k) p) p

unfoldable pub stored_blackboard : ℕ → BlackboardT → Partition → Partition
stored_blackboard k b p = cond (within blackboard_limit k) (with_blackboards (replaced blackboard_limit k b p.blackboards) (max p.blackboard_count k) p) p

-- a buffer whose messages moved
abbrev pub moved_in : Transfer → Buffer → Buffer
moved_in a b = record { name = b.name; limit = b.limit; queue = moved a b.queue }

-- what a transfer makes of those who wait: the receiver's wait ends and it has the message, the sender's wait ends
abbrev pub ended_by : Transfer → Partition → Partition
ended_by (Put m) p = p
ended_by (HandedTo id m) p = stored id (handed m (process id p)) p
ended_by Taken p = p
ended_by (LetIn id m) p = stored id (served (process id p)) p

-- process id is created with this record, which neither is READY nor waits
unfoldable pub created : ℕ → Process → Partition → Partition
created id x p = cond (within process_limit id) (with_processes (replaced process_limit id x p.processes) (max p.process_count id) p.arrival p.waiting p) p

-- process id goes to the end of the arrival list
unfoldable pub arrived_last : ℕ → Partition → Partition
arrived_last id p = with_processes p.processes p.process_count (appended id (removed id p.arrival)) p.waiting p

-- the process chosen so far, or a later one of greater priority; id 0 is none
abbrev pub preferred : Choice → ℕ → ℕ → Choice
preferred c id priority = cond (eqb c.id 0 || ltb c.priority priority) (record { id = id; priority = priority }) c

unfoldable pub chosen : Partition → Choice → List ℕ → Choice
chosen p c [] = c
chosen p c (id ∷ l) = chosen p (preferred c id (process id p).current) l

-- The running process is, in a current NORMAL partition, the READY one of greatest current priority, first in the arrival list among
-- equals; otherwise 0. The process that raised the level of the preemption lock from 0 runs while the level is above 0.
unfoldable pub running : Partition → ℕ
running p =
    cond (normal_mode p)
    (cond (locked p.level) p.holder (chosen p (record { id = 0; priority = 0 }) (members p.arrival)).id)
    0

-- the queue of an object: the waiting processes whose wait names it, in the order in which they began to wait
abbrev pub waits_on : ℕ → Partition → ℕ → Bool
waits_on o p id = eqb (object (process id p).wait) o

unfoldable pub waiters : ℕ → Partition → List ℕ
waiters o p = kept (waits_on o p) (members p.waiting)

-- the first of them; 0 for none
abbrev pub first_waiter : ℕ → Partition → ℕ
first_waiter o p = get_or (waiters o p) 0 0

-- a change of these processes, one after the other
unfoldable pub changed_all : (Process → Process) → List ℕ → Partition → Partition
changed_all f [] p = p
changed_all f (id ∷ l) p = changed_all f l (stored id (f (process id p)) p)

-- a change of every process by ascending id: n of them from id on
unfoldable pub each_from : (Process → Process) → ℕ → ℕ → Partition → Partition
each_from f zero id p = p
each_from f (suc n) id p = each_from f n (id + 1) (stored id (f (process id p)) p)

abbrev pub each : (Process → Process) → Partition → Partition
each f p = each_from f p.process_count 1 p

-- In each NORMAL partition, processes by ascending id
unfoldable pub tick_partition : ℕ → Partition → Partition
tick_partition t p = cond (normal_mode p) (each (ticked t) p) p

-- Mode 3: mode set; every process waiting for NORMAL, by id, takes the start rule with its delay
unfoldable pub entered_normal : Context → Partition → Partition
entered_normal c p = each (entered c) (with_mode NormalMode p)

-- what each change does
abbrev pub applied : Change → Partition → Partition
applied Nothing p = p
applied (Stored id x) p = stored id x p
applied (Created id x) p = created id x p
applied (Last id) p = arrived_last id p
applied (StoredSemaphore k s) p = stored_semaphore k s p
applied (StoredEvent k e) p = stored_event k e p
applied (CreatedBuffer k name limit) p = stored_buffer k (empty_buffer name limit) p
applied (Moved k a) p = ended_by a (stored_buffer k (moved_in a (buffer k p)) p)
applied (StoredBlackboard k b) p = stored_blackboard k b p
applied (Ended o) p = changed_all served (waiters o p) p
applied (Handed o m) p = changed_all (handed m) (waiters o p) p
applied (LevelSet level holder) p = with_lock level holder p
applied (Entered c) p = entered_normal c p

-- what a decision leaves of the partition; a refused call leaves the record as it is
abbrev pub partition_after : Decision → Partition → Partition
partition_after (Refused code) p = p
partition_after (Unchanged value extra) p = p
partition_after Ticked p = p
partition_after (Blocked id x) p = stored id x p
partition_after (Changed a b value) p = applied b (applied a p)
partition_after (Restarted mode) p = nothing_created (mode_number mode)
partition_after (Written i x) p = p
partition_after (Passed i a value) p = p

unfoldable pub fresh_partition : Partition
fresh_partition = nothing_created 1

unfoldable pub empty_partition : Partition
empty_partition = nothing_created 0
