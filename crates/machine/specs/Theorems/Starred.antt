-- The cases of document 01 marked with a star, and its mistakes to shut out, with what document 02 adds, as one list of claims about
-- `step`: each for every reached record, table and event to which it applies, with what the answer and the record then hold; the worked
-- example, its continuation and the examples of releases inside a frame, of the preemption lock, of ticks left, of a restart and of a line that is no
-- event as computed runs from bytes. The premises speak of an event's numbers, the table, the record, the current partition and the running process.
use Rattle.machine.specs.Mode.{mode_number}
use Rattle.machine.specs.declared.Message.{Message}
use Rattle.std.specs.Prelude.{ℕ, suc, ◌+◌, ◌-◌, ◌*◌, ◌/◌, ◌%◌, ◌≤◌, ◌<◌, ◌≡◌, Bool, true, false, cond, List, [], ◌∷◌, ◌++◌, map, take, ℤ, pos}
use Rattle.machine.specs.declared.Given.{Given}
use Rattle.machine.specs.declared.Process.{Process}
use Rattle.machine.specs.declared.Partition.{Partition}
use Rattle.machine.specs.declared.Event.{Event as EventT}
use Rattle.machine.specs.declared.Module.{Module}
use Rattle.machine.specs.declared.Wait.TheVariants.{None as NoWait, Normal, Delay, Timed, Period, Semaphore, Event, Sending, Receiving, Blackboard, Source, Destination}
use Rattle.machine.specs.Time.{Time}
use Rattle.std.specs.Prelude.{None, Some}
use Rattle.machine.specs.Limits.{process_limit, semaphore_limit, event_limit, buffer_limit, message_limit, blackboard_limit, name_limit, priority_limit, value_limit, mode_limit, call_limit, level_limit, duration_limit, time_limit, frame_limit, partition_limit, window_limit, channel_limit, size_limit, number_limit, line_length}
use Rattle.machine.specs.Ids.{members}
use Rattle.machine.specs.Process.{object, carried, ready, with_current}
use Rattle.machine.specs.Partition.{process, semaphore, event, buffer, blackboard, waiters, running, nothing_created, with_processes}
use Rattle.machine.specs.Messages.{held}
use Rattle.machine.specs.Theorems.Starts.{Release, NextFlagged}
use Rattle.machine.specs.Module.{part, message, queue, channel, current}
use Rattle.machine.specs.Step.{step}
use Rattle.machine.specs.Theorems.Valid.{Between, SoundPeriod, SoundCapacity, Reached, contains, plain_later}
use Rattle.machine.specs.Theorems.Plain.{let_go}
use Rattle.machine.specs.Replay.{replayed, replayed_record, time_number}
use Rattle.machine.specs.Theorems.Examples.{text, table, events, printed, to_four, tick_line, printed_after, two_windows, started_in_first, released_in_second, one_window, locked_update, locked_answers, adjacent_windows, asked_left, left_answers, two_queues, restarted_reader, let_in_by_number, no_event, no_event_answers}
use Rattle.machine.specs.Theorems.Events.{Calling, Gives, Puts, Refuses, at_end, call_by, own, tick, with_new, with_new_blackboard, with_new_buffer, with_new_event, with_new_semaphore, with_process, with_semaphore_at, without}

-- the worked example prints its six lines; continued, t = 4 runs 1, t = 5 sets missed, t = 6 current 2
pub record Worked : Type 0 where
  pub example : replayed (text (table ++ events)) ≡ text printed
  pub continued : replayed (text (table ++ (events ++ (to_four ++ (tick_line ++ tick_line))))) ≡ text (printed ++ printed_after)
  pub four : (process 1 (part (replayed_record (text (table ++ (events ++ to_four)))) 0)).missed ≡ false
  pub five : (process 1 (part (replayed_record (text (table ++ (events ++ (to_four ++ tick_line))))) 0)).missed ≡ true
  -- two flagged windows a frame: a process started in the first is released at the second, and t = 5 runs it
  pub released : replayed (text (two_windows ++ started_in_first)) ≡ text released_in_second
  -- preemption is locked: a process of greater priority becomes READY, and runs after the unlock
  pub locked : replayed (text (one_window ++ locked_update)) ≡ text locked_answers
  -- ticks left: adjacent windows of one partition are not joined
  pub left : replayed (text (adjacent_windows ++ asked_left)) ≡ text left_answers
  -- queuing channels: a restart of the destination lets waiting senders in, channels by ascending number
  pub let_in : replayed (text (two_queues ++ restarted_reader)) ≡ text let_in_by_number
  -- a line that is no event: 11, with t and the current partition
  pub unread : replayed (text (table ++ (tick_line ++ no_event))) ≡ text no_event_answers

-- ---------------------------------------------------------------- the numbers of documents 01 and 02
-- every limit that the claims name
pub record Numbers : Type 0 where
  -- a partition: 16 processes, 8 semaphores, 8 events, 8 buffers of 1..16 messages, 8 blackboards, modes 0..3, levels 0..16
  pub partition : process_limit ∷ semaphore_limit ∷ event_limit ∷ buffer_limit ∷ message_limit ∷ blackboard_limit ∷ mode_limit ∷ level_limit ∷ [] ≡ 16 ∷ 8 ∷ 8 ∷ 8 ∷ 16 ∷ 8 ∷ 3 ∷ 16 ∷ []
  -- names 1..255, priorities 1..239, semaphores to 32,767, D and messages 0..9,999,999, calls 0..34, t to 99,999,999
  pub fields : name_limit ∷ priority_limit ∷ value_limit ∷ duration_limit ∷ call_limit ∷ time_limit ∷ [] ≡ 255 ∷ 239 ∷ 32767 ∷ 9999999 ∷ 34 ∷ 99999999 ∷ []
  -- tables: M 1..10,000, P 1..8, windows 1..32, channels 0..16, queues of 1..8 messages; lines of 61 bytes, numbers to 999,999,999
  pub table : frame_limit ∷ partition_limit ∷ window_limit ∷ channel_limit ∷ size_limit ∷ line_length ∷ number_limit ∷ [] ≡ 10000 ∷ 8 ∷ 32 ∷ 16 ∷ 8 ∷ 61 ∷ 999999999 ∷ []

-- ---------------------------------------------------------------- creating
-- neither 4 nor 5
pub record Room (p : Partition) (count limit : ℕ) : Type 0 where
  pub early : mode_number p.mode ≡ 3 → ⊥
  pub less : count < limit

-- no process, semaphore, event, buffer, blackboard of the partition has this name
abbrev pub NewProcess : Partition → ℕ → Type 0
NewProcess p name = (id : ℕ) → Between 1 p.process_count id → (process id p).given.name ≡ name → ⊥

abbrev pub NewSemaphore : Partition → ℕ → Type 0
NewSemaphore p name = (j : ℕ) → Between 1 p.semaphore_count j → (semaphore j p).name ≡ name → ⊥

abbrev pub NewEvent : Partition → ℕ → Type 0
NewEvent p name = (j : ℕ) → Between 1 p.event_count j → (event j p).name ≡ name → ⊥

abbrev pub NewBuffer : Partition → ℕ → Type 0
NewBuffer p name = (j : ℕ) → Between 1 p.buffer_count j → (buffer j p).name ≡ name → ⊥

abbrev pub NewBlackboard : Partition → ℕ → Type 0
NewBlackboard p name = (j : ℕ) → Between 1 p.blackboard_count j → (blackboard j p).name ≡ name → ⊥

-- CREATE_PROCESS name, priority, period, capacity
abbrev pub create_by : ℕ → ℕ → ℕ → Time → Time → EventT
create_by k name priority period capacity = call_by k 2 (pos name) (pos priority) (time_number period) (time_number capacity)

abbrev pub given : ℕ → ℕ → Time → Time → Given
given name base period capacity = record { name = name; base = base; period = period; capacity = capacity }

-- ---------------------------------------------------------------- releases
-- it waits for its release r: w = r, d = r + capacity, or −1, whatever t is; priority and marks as given
abbrev pub awaits_release : ℕ → ℕ → ℕ → Bool → Bool → Process → Process
awaits_release r delay n mark missed x = record {
  given = x.given;
  times = record { release = Some r; deadline = plain_later (Some r) x.given.capacity; wake = Some r; delay = delay };
  current = n;
  suspended = mark;
  missed = missed;
  code = 0;
  message = x.message;
  started = true;
  wait = Period;
}

-- it waits for its next release r, all else as it was
abbrev pub awaits_next : ℕ → Process → Process
awaits_next r x = record {
  given = x.given;
  times = record { release = Some r; deadline = plain_later (Some r) x.given.capacity; wake = Some r; delay = x.times.delay };
  current = x.current;
  suspended = x.suspended;
  missed = x.missed;
  code = x.code;
  message = x.message;
  started = x.started;
  wait = Period;
}

-- it waits for NORMAL with this delay
abbrev pub awaits_normal : ℕ → Process → Process
awaits_normal delay x = record {
  given = x.given;
  times = record { release = x.times.release; deadline = x.times.deadline; wake = x.times.wake; delay = delay };
  current = x.given.base;
  suspended = false;
  missed = false;
  code = 0;
  message = x.message;
  started = true;
  wait = Normal;
}

-- a periodic process of partition k that the start rule starts now is released at r, plus its delay
pub record ReleasesAt (m : Module) (k r : ℕ) : Type 0 where
  -- START and DELAYED_START in NORMAL
  pub start : (id n : ℕ) → let p = own m k in
      let x = process id p in
      mode_number p.mode ≡ 3 → Between 1 p.process_count id → x.started ≡ false → x.given.period ≡ Some n
      → Puts m (call_by k 3 (pos id) (pos 0) (pos 0) (pos 0)) 0 0 k (with_process id (awaits_release r x.times.delay x.given.base false false x) p.arrival p)
  pub delayed : (id n delay : ℕ) → let p = own m k in
      let x = process id p in
      mode_number p.mode ≡ 3 → Between 1 p.process_count id → x.started ≡ false → x.given.period ≡ Some n → delay < n
      → Puts m (call_by k 4 (pos id) (pos delay) (pos 0) (pos 0)) 0 0 k (with_process id (awaits_release (r + delay) x.times.delay x.given.base false false x) p.arrival p)
  -- and on entering NORMAL
  pub entered : (id n : ℕ) → let p = own m k in
      let x = process id p in
      let e = call_by k 1 (pos 3) (pos 0) (pos 0) (pos 0) in
      (mode_number p.mode ≡ 3 → ⊥) → Between 1 p.process_count id → x.wait ≡ Normal → x.given.period ≡ Some n
      → ((step m e).answer.code ≡ 0) × (mode_number (own (step m e).state k).mode ≡ 3)
      × (process id (own (step m e).state k) ≡ awaits_release (r + x.times.delay) x.times.delay x.current x.suspended false x)

-- ---------------------------------------------------------------- the corners
pub record Corners (m : Module) (k : ℕ) : Type 0 where
  -- priority 239/240, in CREATE_PROCESS and in SET_PRIORITY
  pub priority : (name : ℕ) (period capacity : Time) → let p = own m k in
      Room p p.process_count process_limit → NewProcess p name → Between 1 name_limit name → SoundPeriod m.table.frame period → SoundCapacity period capacity
      → Puts m (create_by k name priority_limit period capacity) 0 (p.process_count + 1) k (with_new (given name priority_limit period capacity) p)
      × Refuses m (create_by k name (priority_limit + 1) period capacity) 3
  pub set_priority : (id : ℕ) → let p = own m k in
      Between 1 p.process_count id → (process id p).started ≡ true
      → Puts m (call_by k 12 (pos id) (pos priority_limit) (pos 0) (pos 0)) 0 0 k
      (with_process id (with_current priority_limit (process id p)) (cond (ready (process id p)) (at_end id p.arrival) p.arrival) p)
      × Refuses m (call_by k 12 (pos id) (pos (priority_limit + 1)) (pos 0) (pos 0)) 3
  -- name 255/256, of each kind
  pub process_name : (priority : ℕ) (period capacity : Time) → let p = own m k in
      Room p p.process_count process_limit → NewProcess p name_limit → Between 1 priority_limit priority → SoundPeriod m.table.frame period → SoundCapacity period capacity
      → Puts m (create_by k name_limit priority period capacity) 0 (p.process_count + 1) k (with_new (given name_limit priority period capacity) p)
      × Refuses m (create_by k (name_limit + 1) priority period capacity) 3
  pub semaphore_name : (start max : ℕ) → let p = own m k in
      Room p p.semaphore_count semaphore_limit → NewSemaphore p name_limit → Between 1 value_limit max → start ≤ max
      → Puts m (call_by k 14 (pos name_limit) (pos start) (pos max) (pos 0)) 0 (p.semaphore_count + 1) k (with_new_semaphore name_limit start max p)
      × Refuses m (call_by k 14 (pos (name_limit + 1)) (pos start) (pos max) (pos 0)) 3
  pub event_name : let p = own m k in
      Room p p.event_count event_limit → NewEvent p name_limit
      → Puts m (call_by k 17 (pos name_limit) (pos 0) (pos 0) (pos 0)) 0 (p.event_count + 1) k (with_new_event name_limit p)
      × Refuses m (call_by k 17 (pos (name_limit + 1)) (pos 0) (pos 0) (pos 0)) 3
  pub buffer_name : (limit : ℕ) → let p = own m k in
      Room p p.buffer_count buffer_limit → NewBuffer p name_limit → Between 1 message_limit limit
      → Puts m (call_by k 23 (pos name_limit) (pos limit) (pos 0) (pos 0)) 0 (p.buffer_count + 1) k (with_new_buffer name_limit limit p)
      × Refuses m (call_by k 23 (pos (name_limit + 1)) (pos limit) (pos 0) (pos 0)) 3
  pub blackboard_name : let p = own m k in
      Room p p.blackboard_count blackboard_limit → NewBlackboard p name_limit
      → Puts m (call_by k 26 (pos name_limit) (pos 0) (pos 0) (pos 0)) 0 (p.blackboard_count + 1) k (with_new_blackboard name_limit p)
      × Refuses m (call_by k 26 (pos (name_limit + 1)) (pos 0) (pos 0) (pos 0)) 3
  -- period M/M + 1 (M above 1), with every capacity that M admits, and M + 1 whatever the capacity
  pub period : (name priority : ℕ) (capacity : Time) (e : ℤ) → let p = own m k in
      let M = m.table.frame in
      1 < M → Room p p.process_count process_limit → NewProcess p name → Between 1 name_limit name → Between 1 priority_limit priority → SoundCapacity (Some M) capacity
      → Puts m (create_by k name priority (Some M) capacity) 0 (p.process_count + 1) k (with_new (given name priority (Some M) capacity) p)
      × Refuses m (call_by k 2 (pos name) (pos priority) (pos (M + 1)) e) 3
  -- delay period − 1/period: outside NORMAL, and in NORMAL
  pub delay_early : (id n : ℕ) → let p = own m k in
      Between 1 p.process_count id → (process id p).started ≡ false → (process id p).given.period ≡ Some n → (mode_number p.mode ≡ 3 → ⊥)
      → Puts m (call_by k 4 (pos id) (pos (n - 1)) (pos 0) (pos 0)) 0 0 k (with_process id (awaits_normal (n - 1) (process id p)) p.arrival p)
      × Refuses m (call_by k 4 (pos id) (pos n) (pos 0) (pos 0)) 3
  pub delay_normal : (id n r : ℕ) → let p = own m k in
      let x = process id p in
      Between 1 p.process_count id → x.started ≡ false → x.given.period ≡ Some n → mode_number p.mode ≡ 3 → Release m.table k m.t r
      → Puts m (call_by k 4 (pos id) (pos (n - 1)) (pos 0) (pos 0)) 0 0 k
      (with_process id (awaits_release (r + (n - 1)) x.times.delay x.given.base false false x) p.arrival p)
      × Refuses m (call_by k 4 (pos id) (pos n) (pos 0) (pos 0)) 3
  -- t before a flagged window of the same frame: the release is the nearest of these, in this frame (document 02, d)
  pub inside_frame : (s : ℕ) → let T = m.table in
      NextFlagged T k (m.t % T.frame) s → ReleasesAt m k (m.t / T.frame * T.frame + s)
  -- age refresh/refresh + 1, of a sampling channel
  pub age : (i : ℕ) → let x = message m (i - 1) in
      let refresh = (channel m.table (i - 1)).refresh in
      Between 1 m.table.channel_count i → (channel m.table (i - 1)).size ≡ 0 → (channel m.table (i - 1)).destination ≡ k → (y : Message) → x ≡ Some y
      → (m.t ≡ y.written + refresh → Gives m (call_by k 22 (pos i) (pos 0) (pos 0) (pos 0)) 0 y.value (Some 1) m)
      × (m.t ≡ y.written + refresh + 1 → Gives m (call_by k 22 (pos i) (pos 0) (pos 0) (pos 0)) 0 y.value (Some 0) m)
  -- timeout 0: SUSPEND_SELF changes nothing and TIMED_WAIT puts the caller last (both at level 0 of the preemption lock), WAIT_SEMAPHORE and
  -- WAIT_EVENT answer 2 where they would wait, and succeed where they need not; the calls of document 02 that wait answer 2 too (30 and 31, and the three
  -- while preemption is locked: `EachCall`)
  pub suspend_self : let p = own m k in
      mode_number p.mode ≡ 3 → p.level ≡ 0 → (process (running p) p).given.period ≡ None
      → Gives m (call_by k 8 (pos 0) (pos 0) (pos 0) (pos 0)) 0 0 (Some 0) m
  pub timed_wait : let p = own m k in
      mode_number p.mode ≡ 3 → p.level ≡ 0
      → Puts m (call_by k 9 (pos 0) (pos 0) (pos 0) (pos 0)) 0 0 k (with_processes p.processes p.process_count (at_end (running p) p.arrival) p.waiting p)
  pub wait_semaphore : (j : ℕ) → let p = own m k in
      mode_number p.mode ≡ 3 → Between 1 p.semaphore_count j
      → ((semaphore j p).value ≡ 0 → Refuses m (call_by k 15 (pos j) (pos 0) (pos 0) (pos 0)) 2)
      × ((n : ℕ) → (semaphore j p).value ≡ suc n → Puts m (call_by k 15 (pos j) (pos 0) (pos 0) (pos 0)) 0 0 k (with_semaphore_at j n p))
  pub wait_event : (j : ℕ) → let p = own m k in
      mode_number p.mode ≡ 3 → Between 1 p.event_count j
      → ((event j p).up ≡ false → Refuses m (call_by k 20 (pos j) (pos 0) (pos 0) (pos 0)) 2)
      × ((event j p).up ≡ true → Gives m (call_by k 20 (pos j) (pos 0) (pos 0) (pos 0)) 0 0 (Some 0) m)
  pub send_buffer : (j x : ℕ) → let p = own m k in
      mode_number p.mode ≡ 3 → Between 1 p.buffer_count j → x ≤ duration_limit → (buffer j p).queue.len ≡ (buffer j p).limit → Refuses m (call_by k 24 (pos j) (pos x) (pos 0) (pos 0)) 2
  pub receive_buffer : (j : ℕ) → let p = own m k in
      mode_number p.mode ≡ 3 → Between 1 p.buffer_count j → (buffer j p).queue.len ≡ 0 → Refuses m (call_by k 25 (pos j) (pos 0) (pos 0) (pos 0)) 2
  pub read_blackboard : (j : ℕ) → let p = own m k in
      mode_number p.mode ≡ 3 → Between 1 p.blackboard_count j
      → ((blackboard j p).message ≡ None → Refuses m (call_by k 28 (pos j) (pos 0) (pos 0) (pos 0)) 2)
      × ((x : ℕ) → (blackboard j p).message ≡ Some x → Gives m (call_by k 28 (pos j) (pos 0) (pos 0) (pos 0)) 0 x (Some 0) m)
  -- SIGNAL at max
  pub signal : (j : ℕ) → let p = own m k in
      Between 1 p.semaphore_count j → (semaphore j p).value ≡ (semaphore j p).max
      → Refuses m (call_by k 16 (pos j) (pos 0) (pos 0) (pos 0)) 1
  -- PERIODIC_WAIT, also with r ≤ t: r rises by the period; it waits all the same, w = r, d = r + capacity or −1
  pub periodic_wait : (r n : ℕ) → let p = own m k in
      let id = running p in
      let x = process id p in
      mode_number p.mode ≡ 3 → p.level ≡ 0 → x.times.release ≡ Some r → x.given.period ≡ Some n
      → Puts m (call_by k 10 (pos 0) (pos 0) (pos 0) (pos 0)) 7 0 k (with_process id (awaits_next (r + n) x) (without id p.arrival) p)

-- ---------------------------------------------------------------- mistakes to shut out
-- what a wake time that has come makes of x: a wait ends with w −1 and this wake code, and the mark stays
pub record WaitEnded (code : ℕ) (x y : Process) : Type 0 where
  pub wake : y.times.wake ≡ None
  pub wait : y.wait ≡ NoWait
  pub code_is : y.code ≡ code
  pub mark : y.suspended ≡ x.suspended
  pub started : y.started ≡ x.started

-- it is READY only where the mark is not set
abbrev pub ReadyUnmarked : Process → Process → Type 0
ReadyUnmarked x y = x.suspended ≡ true → ready y ≡ false

-- what a tick makes of process x of a NORMAL partition, whatever window it falls into: y
pub record Ticks (t : ℕ) (x y : Process) : Type 0 where
  pub semaphore : (w j : ℕ) → x.times.wake ≡ Some w → w ≤ t → x.wait ≡ Semaphore j → WaitEnded 6 x y
  pub event : (w j : ℕ) → x.times.wake ≡ Some w → w ≤ t → x.wait ≡ Event j → WaitEnded 6 x y
  pub sending : (w j n : ℕ) → x.times.wake ≡ Some w → w ≤ t → x.wait ≡ Sending j n → WaitEnded 6 x y
  pub receiving : (w j : ℕ) → x.times.wake ≡ Some w → w ≤ t → x.wait ≡ Receiving j → WaitEnded 6 x y
  pub blackboard : (w j : ℕ) → x.times.wake ≡ Some w → w ≤ t → x.wait ≡ Blackboard j → WaitEnded 6 x y
  pub source : (w j n : ℕ) → x.times.wake ≡ Some w → w ≤ t → x.wait ≡ Source j n → WaitEnded 6 x y
  pub destination : (w j : ℕ) → x.times.wake ≡ Some w → w ≤ t → x.wait ≡ Destination j → WaitEnded 6 x y
  pub delay : (w : ℕ) → x.times.wake ≡ Some w → w ≤ t → x.wait ≡ Delay → WaitEnded 0 x y
  pub timed : (w : ℕ) → x.times.wake ≡ Some w → w ≤ t → x.wait ≡ Timed → WaitEnded 0 x y
  pub period : (w : ℕ) → x.times.wake ≡ Some w → w ≤ t → x.wait ≡ Period → WaitEnded 0 x y
  pub suspension : (w : ℕ) → x.times.wake ≡ Some w → w ≤ t → x.wait ≡ NoWait → x.suspended ≡ true → (y.suspended ≡ false) × (y.code ≡ 6) × (y.times.wake ≡ None)
  pub deadline : (d : ℕ) → x.times.deadline ≡ Some d → d ≤ t → (y.missed ≡ true) × (y.times.deadline ≡ None)
  pub marked : (x.wait ≡ NoWait → ⊥) → ReadyUnmarked x y

pub record Mistakes : Type 0 where
  -- freezing timers outside a partition's window: a tick acts on every NORMAL partition. An ended wait making a suspended process READY:
  -- not by a tick
  pub frozen : (m : Module) → Reached m → m.t < time_limit → (k id : ℕ) → Between 1 m.table.size k → mode_number (own m k).mode ≡ 3 → Between 1 (own m k).process_count id
      → ((step m tick).answer.code ≡ 0) × Ticks (m.t + 1) (process id (own m k)) (process id (own (step m tick).state k))
  -- showing a neighbour's running process: whatever the code, it reads 0 where the event's partition is neither 0 nor current
  pub neighbour : (m : Module) (e : EventT) → (e.partition ≡ pos 0 → ⊥) → (e.partition ≡ pos (current (step m e).state) → ⊥) → (step m e).answer.running ≡ 0
  pub neighbour_in_eight : (m : Module) (e : EventT) → (step m e).answer.code ≡ 8 → (step m e).answer.running ≡ 0
  -- computing a periodic deadline from t: START, DELAYED_START and entering NORMAL compute it from the release
  pub periodic_deadline : (m : Module) (k : ℕ) → Calling m k → (r : ℕ) → Release m.table k m.t r → ReleasesAt m k r
  -- an ended wait making a suspended process READY: SIGNAL ends the first wait of the queue, w −1 and wake code 0, and the mark stays
  pub signalled : (m : Module) (k : ℕ) → Calling m k → (j id : ℕ) (before after : List ℕ) → let p = own m k in
      let e = call_by k 16 (pos j) (pos 0) (pos 0) (pos 0) in
      Between 1 p.semaphore_count j → ((semaphore j p).value ≡ (semaphore j p).max → ⊥)
      → members p.waiting ≡ before ++ (id ∷ after) → (process id p).wait ≡ Semaphore j → ((y : ℕ) → contains y before ≡ true → (process y p).wait ≡ Semaphore j → ⊥)
      → let y = process id (own (step m e).state k) in
      ((step m e).answer.code ≡ 0) × (y ≡ let_go (process id p)) × ReadyUnmarked (process id p) y
  -- SET_EVENT ends every wait on the event the same way
  pub event_set : (m : Module) (k : ℕ) → Calling m k → (j id : ℕ) → let p = own m k in
      let e = call_by k 18 (pos j) (pos 0) (pos 0) (pos 0) in
      Between 1 p.event_count j → (process id p).wait ≡ Event j
      → let y = process id (own (step m e).state k) in
      ((step m e).answer.code ≡ 0) × ((event j (own (step m e).state k)).up ≡ true) × (y ≡ let_go (process id p)) × ReadyUnmarked (process id p) y
  -- a source's restart erasing a message: an event that is no WRITE leaves the message of each channel into another partition
  pub restart : (m : Module) (e : EventT) (i : ℕ) → (e.call ≡ pos 21 → ⊥) → (e.partition ≡ pos (channel m.table i).destination → ⊥)
      → message (step m e).state i ≡ message m i
  -- and one that is no SEND and no RECEIVE on a channel leaves the queue of each channel into another partition
  pub restart_queue : (m : Module) (e : EventT) (i : ℕ) → (e.call ≡ pos 30 → ⊥) → (e.call ≡ pos 31 → ⊥) → (e.partition ≡ pos (channel m.table i).destination → ⊥)
      → queue (step m e).state i ≡ queue m i
  -- an accepted mode 0, 1 or 2: code 0, nothing created in the partition, no message on a channel into it, and on every other channel the
  -- message that was there; each queue into it holds the messages of the first who waited to send, as many as it holds at most, and every other
  -- queue what it held; the waits of those who are let in end, and their marks stay
  pub restarted : (m : Module) (k : ℕ) → Calling m k → (mode : ℕ) → mode ≤ 2 → (mode ≡ 2 → mode_number (own m k).mode ≡ 1 → ⊥)
      → let e = call_by k 1 (pos mode) (pos 0) (pos 0) (pos 0) in
      ((step m e).answer.code ≡ 0) × (own (step m e).state k ≡ nothing_created mode)
      × ((i : ℕ) → i < m.table.channel_count → (channel m.table i).destination ≡ k → message (step m e).state i ≡ None)
      × ((i : ℕ) → ((channel m.table i).destination ≡ k → ⊥) → message (step m e).state i ≡ message m i)
      × ((i : ℕ) → i < m.table.channel_count → ((channel m.table i).size ≡ 0 → ⊥) → (channel m.table i).destination ≡ k
      → let c = channel m.table i in
      let p = own m c.source in
      held (queue (step m e).state i) ≡ map (λ id. carried (process id p)) (take c.size (waiters (object (Source (i + 1) 0)) p)))
      × ((i : ℕ) → ((channel m.table i).destination ≡ k → ⊥) → queue (step m e).state i ≡ queue m i)
      × ((i id : ℕ) → i < m.table.channel_count → ((channel m.table i).size ≡ 0 → ⊥) → (channel m.table i).destination ≡ k
      → let c = channel m.table i in
      let p = own m c.source in
      contains id (take c.size (waiters (object (Source (i + 1) 0)) p)) ≡ true → process id (own (step m e).state c.source) ≡ let_go (process id p))

-- the whole list
pub record Starred : Type 0 where
  pub worked : Worked
  pub numbers : Numbers
  pub corners : (m : Module) (k : ℕ) → Calling m k → Corners m k
  pub mistakes : Mistakes
