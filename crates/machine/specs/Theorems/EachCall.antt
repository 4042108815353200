-- What every event answers before its body, and what each call does, as claims about `step`: its checks in the order written, then the answer and the
-- whole record after it. The premises speak of the event's numbers and of the record in which the call comes to its body. Each call stands here once,
-- in the order of the documents; what the claims share with the machine's definitions is said in `Terms`.
use Rattle.machine.specs.Mode.{mode_number}
use Rattle.machine.specs.declared.Mode.TheVariants.{Normal as NormalMode}
use Rattle.std.specs.Prelude.{is_none}
use Rattle.std.specs.Prelude.{Option, is_some, unwrap_or}
use Rattle.std.specs.Prelude.{ℕ, ◌+◌, ◌-◌, ◌%◌, ◌<◌, ◌≡◌, Bool, true, false, cond, not, ◌&&◌, ◌||◌, List, [], ◌∷◌, ◌++◌, map, get_or, set, take, leb, ltb, eqb, ℤ, pos, negsuc}
use Rattle.machine.specs.declared.Process.{Process}
use Rattle.machine.specs.declared.Partition.{Partition}
use Rattle.machine.specs.declared.Semaphore.{Semaphore as SemaphoreT}
use Rattle.machine.specs.declared.EventState.{EventState}
use Rattle.machine.specs.declared.Buffer.{Buffer}
use Rattle.machine.specs.declared.Blackboard.{Blackboard as BlackboardT}
use Rattle.machine.specs.declared.Channel.{Channel}
use Rattle.machine.specs.declared.Event.{Event as EventT}
use Rattle.machine.specs.declared.Module.{Module}
use Rattle.machine.specs.declared.Wait.{Wait}
use Rattle.machine.specs.declared.Wait.TheVariants.{None as NoWait, Delay, Timed, Semaphore, Event, Sending, Receiving, Blackboard, Source, Destination}
use Rattle.machine.specs.Time.{Time}
use Rattle.std.specs.Prelude.{None, Some}
use Rattle.machine.specs.Process.{object, carried, ready, waits_for_normal}
use Rattle.machine.specs.Partition.{process, semaphore, event, buffer, blackboard, running, waiters, with_lock, with_processes, with_events, with_buffers, with_blackboards, nothing_created, with_mode_and_lock}
use Rattle.machine.specs.Messages.{held, queue_of}
use Rattle.machine.specs.Module.{channel, message, queue, current, running_in, with_message, with_messages, with_part, with_queue, ticks_left}
use Rattle.machine.specs.Step.{step}
use Rattle.machine.specs.Theorems.Valid.{plain_later}
use Rattle.machine.specs.Theorems.Plain.{plain_between, plain_number, plain_minus_one, plain_stored, plain_all, wait_over, let_go, plain_each, plain_refilled_to, plain_ticked}
use Rattle.machine.specs.Theorems.Events.{own, call_by, Gives, Refuses, Puts, with_process, at_end, with_new, with_new_semaphore, with_new_event, with_new_buffer, with_new_blackboard, with_semaphore_at, without}
use Rattle.machine.specs.Theorems.Starred.{given, awaits_normal, awaits_next, awaits_release}
use Rattle.machine.specs.Theorems.TicksLeft.{EndsIn}
use Rattle.machine.specs.declared.Message.{Message}
use Rattle.machine.specs.Theorems.Starts.{Release}
use Rattle.machine.specs.declared.Table.{Table}

-- ---------------------------------------------------------------- an event's numbers
-- the id that a number names; 0 is none
abbrev pub id_of : ℤ → ℕ
id_of (pos n) = n
id_of (negsuc n) = 0

-- −1 means never
abbrev pub time_in : ℤ → Time
time_in (pos n) = Some n
time_in (negsuc n) = None

-- D is 0..9,999,999, T is −1 or D
abbrev pub in_d : ℤ → Bool
in_d a = plain_between 0 9999999 a

abbrev pub in_t : ℤ → Bool
in_t a = plain_minus_one a || in_d a

abbrev pub periodic_at : Time → Bool
periodic_at None = false
periodic_at (Some n) = true

-- periodic and delay ≥ period
abbrev pub too_long : ℕ → Time → Bool
too_long delay None = false
too_long delay (Some n) = leb n delay

-- the name of one of these
unfoldable pub named : ℤ → List ℕ → Bool
named z [] = false
named z (n ∷ l) = plain_number n z || named z l

-- how many fields each uses, from a on: the tick and calls 1 to 13, 14 to 22, 23 to 34
abbrev pub used : ℕ → ℕ
used n = get_or ((0 ∷ 1 ∷ 4 ∷ 1 ∷ 2 ∷ 1 ∷ 0 ∷ 1 ∷ 1 ∷ 1 ∷ 0 ∷ 1 ∷ 2 ∷ 1 ∷ []) ++ ((3 ∷ 2 ∷ 1 ∷ 1 ∷ 1 ∷ 1 ∷ 2 ∷ 2 ∷ 1 ∷ []) ++ (2 ∷ 3 ∷ 2 ∷ 1 ∷ 2 ∷ 2 ∷ 1 ∷ 3 ∷ 2 ∷ 0 ∷ 0 ∷ 0 ∷ []))) n 0

-- an unused field not 0
abbrev pub stray : ℕ → ℤ → ℤ → ℤ → ℤ → Bool
stray used a b c e = (ltb used 1 && not (plain_number 0 a)) || ((ltb used 2 && not (plain_number 0 b)) || ((ltb used 3 && not (plain_number 0 c)) || (ltb used 4 && not (plain_number 0 e))))

-- 13: record empty (even a tick), partition not 0..P, call not 0..34, just one of these two 0, an unused field not 0
abbrev pub malformed_at : ℕ → EventT → Bool
malformed_at P e =
    eqb P 0 || (not (plain_between 0 P e.partition) || (not (plain_between 0 34 e.call)
    || (cond (plain_number 0 e.partition) (not (plain_number 0 e.call)) (plain_number 0 e.call) || stray (used (id_of e.call)) e.a e.b e.c e.e)))

-- ---------------------------------------------------------------- every event
-- 13, 10, 8 and 9 exactly in their places; t, current partition and running process are those after it, and the last reads 0 where the event's
-- partition is neither 0 nor current. Any code but 0 and 7 leaves the whole record. A tick: code 0, t rises by one, and each NORMAL partition is ticked
pub record EachEvent (m : Module) (e : EventT) : Type 0 where
  pub thirteen : eqb (step m e).answer.code 13 ≡ malformed_at m.table.size e
  pub ten : eqb (step m e).answer.code 10 ≡ (not (malformed_at m.table.size e) && (plain_number 0 e.partition && leb 99999999 m.t))
  pub eight : eqb (step m e).answer.code 8 ≡ (not (malformed_at m.table.size e) && (not (plain_number 0 e.partition) && not (plain_number (current m) e.partition)))
  pub nine : let p = own m (id_of e.partition) in
      eqb (step m e).answer.code 9 ≡ (not (malformed_at m.table.size e) && (not (plain_number 0 e.partition) && (plain_number (current m) e.partition && (eqb (mode_number p.mode) 0 || (eqb (mode_number p.mode) 3 && eqb (running p) 0)))))
  pub same : ((step m e).answer.code ≡ 0 → ⊥) → ((step m e).answer.code ≡ 7 → ⊥) → (step m e).state ≡ m
  pub ticked : malformed_at m.table.size e ≡ false → plain_number 0 e.partition ≡ true → m.t < 99999999 → Gives m e 0 0 (Some 0) (plain_ticked m)
  pub shown : let q = (step m e).state in
      ((step m e).answer.t ≡ q.t) × ((step m e).answer.current ≡ current q)
      × ((step m e).answer.running ≡ cond (plain_number 0 e.partition || plain_number (current q) e.partition) (running_in (current q) q) 0)

-- ---------------------------------------------------------------- checks
-- Checks run in the order written: the first that holds gives its code, and the whole record stays; where none holds, this
unfoldable pub Checks : Module → EventT → List (Bool × ℕ) → Type 0 → Type 0
Checks m e [] accepted = accepted
Checks m e ((test, code) ∷ l) accepted = (test ≡ true → Refuses m e code) × (test ≡ false → Checks m e l accepted)

-- ---------------------------------------------------------------- a process
-- DORMANT; wait, w, d, r, suspended mark cleared (w, d, r to −1)
abbrev pub now_dormant : Process → Process
now_dormant x = record { given = x.given; times = record { release = None; deadline = None; wake = None; delay = x.times.delay }; current = x.current; suspended = false; missed = x.missed; code = x.code; message = x.message; started = false; wait = NoWait }

-- the mark, w, the wake code and the wait are these, all else stays
abbrev pub with : Bool → Time → ℕ → Wait → Process → Process
with mark w code wait x = record { given = x.given; times = record { release = x.times.release; deadline = x.times.deadline; wake = w; delay = x.times.delay }; current = x.current; suspended = mark; missed = x.missed; code = code; message = x.message; started = x.started; wait = wait }

-- current priority = n
abbrev pub with_priority : ℕ → Process → Process
with_priority n x = record { given = x.given; times = x.times; current = n; suspended = x.suspended; missed = x.missed; code = x.code; message = x.message; started = x.started; wait = x.wait }

-- the start rule of an aperiodic process at t, with this current priority and this mark: d = t + delay + capacity, or −1; delay 0 means READY, else it waits delay with w = t + delay
abbrev pub started_at : ℕ → ℕ → ℕ → Bool → Process → Process
started_at t delay n mark x = record {
  given = x.given;
  times = record { release = x.times.release; deadline = plain_later (Some (t + delay)) x.given.capacity; wake = cond (eqb delay 0) None (Some (t + delay)); delay = x.times.delay };
  current = n;
  suspended = mark;
  missed = false;
  code = 0;
  message = x.message;
  started = true;
  wait = cond (eqb delay 0) NoWait Delay;
}

-- event j UP or DOWN, buffer j with these messages, blackboard j
abbrev pub with_event_at : ℕ → Bool → Partition → Partition
with_event_at j up p = with_events (set p.events (j - 1) (record { name = (event j p).name; up = up })) p.event_count p

abbrev pub with_buffer_at : ℕ → List ℕ → Partition → Partition
with_buffer_at j l p = with_buffers (set p.buffers (j - 1) (record { name = (buffer j p).name; limit = (buffer j p).limit; queue = queue_of l })) p.buffer_count p

abbrev pub with_board_at : ℕ → Option ℕ → Partition → Partition
with_board_at j message p = with_blackboards (set p.blackboards (j - 1) (record { name = (blackboard j p).name; message = message })) p.blackboard_count p

-- ---------------------------------------------------------------- modes
-- what entering NORMAL at t makes of a process, where r is its partition's next release point
abbrev pub entering : ℕ → ℕ → Process → Process
entering t r x =
    cond (waits_for_normal x.wait)
    (cond (periodic_at x.given.period)
    (awaits_release (r + x.times.delay) x.times.delay x.current x.suspended false x)
    (started_at t x.times.delay x.current x.suspended x))
    x

-- messages on channels into partition k erased, from channel number i + 1 on
unfoldable pub without_into : Table → ℕ → ℕ → List (Option Message) → List (Option Message)
without_into T k i [] = []
without_into T k i (x ∷ l) = cond (eqb (channel T i).destination k) None x ∷ without_into T k (i + 1) l

-- Modes 0, 1, 2: nothing is created in partition k, no message lies on a sampling channel into it; queuing channels into it are emptied, and waiting senders
-- let in until it is full, channels by ascending number
abbrev pub restarted_as : ℕ → ℕ → Module → Module
restarted_as k mode m = plain_refilled_to k m.table.channel_count (with_part (k - 1) (nothing_created mode) (with_messages (without_into m.table k 0 m.messages) m))

-- ---------------------------------------------------------------- families
-- START id; DELAYED_START id, delay
abbrev pub Starts : Module → ℕ → EventT → ℤ → ℤ → Type 0
Starts m k e id delay =
    let p = own m k in
    let x = process (id_of id) p in
    Checks m e ((not (plain_between 1 p.process_count id), 3) ∷ (not (in_d delay) || too_long (id_of delay) x.given.period, 3) ∷ (x.started, 1) ∷ [])
    (((mode_number p.mode ≡ 3 → ⊥) → Puts m e 0 0 k (with_process (id_of id) (awaits_normal (id_of delay) x) p.arrival p))
    × (mode_number p.mode ≡ 3 → x.given.period ≡ None → Puts m e 0 0 k (plain_stored (id_of id) (started_at m.t (id_of delay) x.given.base false x) p))
    × ((n r : ℕ) → mode_number p.mode ≡ 3 → x.given.period ≡ Some n → Release m.table k m.t r
    → Puts m e 0 0 k (with_process (id_of id) (awaits_release (r + id_of delay) x.times.delay x.given.base false false x) p.arrival p)))

-- creating: 4: all exist. 1: name exists among its kind. 3: not admitted. 5: NORMAL. Value: id
abbrev pub Creates : Module → ℕ → EventT → ℕ → ℕ → List ℕ → ℤ → Bool → Partition → Type 0
Creates m k e limit count names name ok q =
    Checks m e ((leb limit count, 4) ∷ (named name names, 1) ∷ (not ok, 3) ∷ (eqb (mode_number (own m k).mode) 3, 5) ∷ [])
    (Puts m e 0 (count + 1) k q)

-- a call that waits on w, with time-out a: checks of its own. 5: start mode. 3: not ok. Where it need not wait, success. 2: a = 0. 5: preemption is
-- locked. Else the caller waits, w = t + a or −1, code 7
abbrev pub MayWait : Module → ℕ → EventT → List (Bool × ℕ) → Bool → ℤ → Bool → Type 0 → Wait → Type 0
MayWait m k e before ok a available success w =
    let p = own m k in
    let x = process (running p) p in
    Checks m e (before ++ ((not (eqb (mode_number p.mode) 3), 5) ∷ (not ok, 3) ∷ []))
    ((available ≡ true → success)
    × (available ≡ false → Checks m e ((plain_number 0 a, 2) ∷ (ltb 0 p.level, 5) ∷ [])
    (Puts m e 7 0 k (plain_stored (running p) (with x.suspended (plain_later (Some m.t) (time_in a)) x.code w x) p))))

-- 21, 22, 30, 31. 3: no such channel, one of the other kind, or the caller's partition at neither end. 5: that partition isn't the end wanted
abbrev pub channel_tests : Module → ℕ → ℤ → Bool → (Channel → ℕ) → List (Bool × ℕ)
channel_tests m k i sampling end =
    let c = channel m.table (id_of i - 1) in
    (not (plain_between 1 m.table.channel_count i), 3) ∷ (cond sampling (ltb 0 c.size) (not (ltb 0 c.size)), 3) ∷ (not (eqb c.source k) && not (eqb c.destination k), 3) ∷ (not (eqb (end c) k), 5) ∷ []

-- what CREATE_PROCESS admits: name 1..255, priority 1..239, period −1 or a multiple of M in 1..9,999,999, capacity −1 or 1..9,999,999, and not above a
-- period that isn't −1
abbrev pub above_in : ℤ → ℤ → Bool
above_in capacity period = not (plain_minus_one capacity) && (not (plain_minus_one period) && ltb (id_of period) (id_of capacity))

abbrev pub process_admitted : ℕ → ℤ → ℤ → ℤ → ℤ → Bool
process_admitted M name priority period capacity =
    plain_between 1 255 name && (plain_between 1 239 priority
    && ((plain_minus_one period || (plain_between 1 9999999 period && eqb (id_of period % M) 0))
    && ((plain_minus_one capacity || plain_between 1 9999999 capacity) && not (above_in capacity period))))

-- ---------------------------------------------------------------- each call
-- 1 SET_PARTITION_MODE a. 3: not 0..3. 1: 3 in NORMAL. 5: 2 in COLD_START. 5: 3 with no process. Mode 3: mode set, level 0; every process waiting for
-- NORMAL, by id, takes the start rule with its delay, keeping its suspended mark and current priority; r is the partition's next release point. Modes 0,
-- 1, 2: mode set; everything erased
abbrev pub SetMode : Module → ℕ → Type 0
SetMode m k = (a : ℤ) → let p = own m k in
    let e = call_by k 1 a (pos 0) (pos 0) (pos 0) in
    Checks m e ((not (plain_between 0 3 a), 3) ∷ (plain_number 3 a && eqb (mode_number p.mode) 3, 1) ∷ (plain_number 2 a && eqb (mode_number p.mode) 1, 5) ∷ (plain_number 3 a && eqb p.process_count 0, 5) ∷ [])
    ((plain_number 3 a ≡ true → (r : ℕ) → Release m.table k m.t r → Puts m e 0 0 k (plain_each (entering m.t r) (with_mode_and_lock NormalMode 0 0 p)))
    × (plain_number 3 a ≡ false → Gives m e 0 0 (Some 0) (restarted_as k (id_of a) m)))

-- 2 CREATE_PROCESS name, priority, period, capacity
abbrev pub CreateProcess : Module → ℕ → Type 0
CreateProcess m k = (name priority period capacity : ℤ) → let p = own m k in
    Creates m k (call_by k 2 name priority period capacity) 16 p.process_count (map (λ (x : Process). x.given.name) (take p.process_count p.processes)) name
    (process_admitted m.table.frame name priority period capacity) (with_new (given (id_of name) (id_of priority) (time_in period) (time_in capacity)) p)

-- 3 START id; 4 DELAYED_START id, delay
abbrev pub Start : Module → ℕ → Type 0
Start m k = (id : ℤ) → Starts m k (call_by k 3 id (pos 0) (pos 0) (pos 0)) id (pos 0)

abbrev pub DelayedStart : Module → ℕ → Type 0
DelayedStart m k = (id delay : ℤ) → Starts m k (call_by k 4 id delay (pos 0) (pos 0)) id delay

-- 5 STOP id. 3: the caller. 1: DORMANT. It is DORMANT, and leaves its queue
abbrev pub Stop : Module → ℕ → Type 0
Stop m k = (id : ℤ) → let p = own m k in
    let x = process (id_of id) p in
    let e = call_by k 5 id (pos 0) (pos 0) (pos 0) in
    Checks m e ((not (plain_between 1 p.process_count id), 3) ∷ (eqb (id_of id) (running p), 3) ∷ (not x.started, 1) ∷ []) (Puts m e 0 0 k (plain_stored (id_of id) (now_dormant x) p))

-- 6 STOP_SELF. 5: start mode. The same for the caller; level 0
abbrev pub StopSelf : Module → ℕ → Type 0
StopSelf m k = let p = own m k in
    let e = call_by k 6 (pos 0) (pos 0) (pos 0) (pos 0) in
    Checks m e ((not (eqb (mode_number p.mode) 3), 5) ∷ []) (Puts m e 0 0 k (plain_stored (running p) (now_dormant (process (running p) p)) (with_lock 0 0 p)))

-- 7 SUSPEND id. 3: the caller. 5: DORMANT or periodic. 1: suspended. Sets the mark
abbrev pub Suspend : Module → ℕ → Type 0
Suspend m k = (id : ℤ) → let p = own m k in
    let x = process (id_of id) p in
    let e = call_by k 7 id (pos 0) (pos 0) (pos 0) in
    Checks m e ((not (plain_between 1 p.process_count id), 3) ∷ (eqb (id_of id) (running p), 3) ∷ (not x.started || periodic_at x.given.period, 5) ∷ (x.suspended, 1) ∷ [])
    (Puts m e 0 0 k (plain_stored (id_of id) (with true x.times.wake x.code x.wait x) p))

-- 8 SUSPEND_SELF a. 5: start mode or periodic. 3: not in T. 5: locked. a = 0 changes nothing; else mark set, w = t + a or −1, code 7
abbrev pub SuspendSelf : Module → ℕ → Type 0
SuspendSelf m k = (a : ℤ) → let p = own m k in
    let x = process (running p) p in
    let e = call_by k 8 a (pos 0) (pos 0) (pos 0) in
    Checks m e ((not (eqb (mode_number p.mode) 3) || periodic_at x.given.period, 5) ∷ (not (in_t a), 3) ∷ (ltb 0 p.level, 5) ∷ [])
    ((plain_number 0 a ≡ true → Gives m e 0 0 (Some 0) m)
    × (plain_number 0 a ≡ false → Puts m e 7 0 k (plain_stored (running p) (with true (plain_later (Some m.t) (time_in a)) x.code x.wait x) p)))

-- 9 TIMED_WAIT a. 5: start mode. 3: not in D. 5: locked. a = 0: caller goes to the end of the arrival list; else waits timed, w = t + a, code 7
abbrev pub TimedWait : Module → ℕ → Type 0
TimedWait m k = (a : ℤ) → let p = own m k in
    let x = process (running p) p in
    let e = call_by k 9 a (pos 0) (pos 0) (pos 0) in
    Checks m e ((not (eqb (mode_number p.mode) 3), 5) ∷ (not (in_d a), 3) ∷ (ltb 0 p.level, 5) ∷ [])
    ((plain_number 0 a ≡ true → Puts m e 0 0 k (with_processes p.processes p.process_count (at_end (running p) p.arrival) p.waiting p))
    × (plain_number 0 a ≡ false → Puts m e 7 0 k (plain_stored (running p) (with x.suspended (Some (m.t + id_of a)) x.code Timed x) p)))

-- 10 PERIODIC_WAIT. 5: start mode or aperiodic. 5: locked. r rises by period; w = r, d = r + capacity or −1; waits, code 7, even if r ≤ t
abbrev pub PeriodicWait : Module → ℕ → Type 0
PeriodicWait m k = let p = own m k in
    let x = process (running p) p in
    let e = call_by k 10 (pos 0) (pos 0) (pos 0) (pos 0) in
    Checks m e ((not (eqb (mode_number p.mode) 3) || not (periodic_at x.given.period), 5) ∷ (ltb 0 p.level, 5) ∷ [])
    ((r n : ℕ) → x.times.release ≡ Some r → x.given.period ≡ Some n → Puts m e 7 0 k (with_process (running p) (awaits_next (r + n) x) (without (running p) p.arrival) p))

-- 11 RESUME id. 3: the caller. 5: DORMANT or periodic. 1: not suspended. Clears the mark; if no wait, w = −1, wake code 0
abbrev pub Resume : Module → ℕ → Type 0
Resume m k = (id : ℤ) → let p = own m k in
    let x = process (id_of id) p in
    let e = call_by k 11 id (pos 0) (pos 0) (pos 0) in
    Checks m e ((not (plain_between 1 p.process_count id), 3) ∷ (eqb (id_of id) (running p), 3) ∷ (not x.started || periodic_at x.given.period, 5) ∷ (not x.suspended, 1) ∷ [])
    ((x.wait ≡ NoWait → Puts m e 0 0 k (plain_stored (id_of id) (with false None 0 NoWait x) p))
    × ((x.wait ≡ NoWait → ⊥) → Puts m e 0 0 k (plain_stored (id_of id) (with false x.times.wake x.code x.wait x) p)))

-- 12 SET_PRIORITY id, a. 3: not 1..239. 5: DORMANT. Current priority = a; a READY one goes to the arrival list's end
abbrev pub SetPriority : Module → ℕ → Type 0
SetPriority m k = (id a : ℤ) → let p = own m k in
    let x = process (id_of id) p in
    let e = call_by k 12 id a (pos 0) (pos 0) in
    Checks m e ((not (plain_between 1 p.process_count id), 3) ∷ (not (plain_between 1 239 a), 3) ∷ (not x.started, 5) ∷ [])
    (Puts m e 0 0 k (with_process (id_of id) (with_priority (id_of a) x) (cond (ready x) (at_end (id_of id) p.arrival) p.arrival) p))

-- 13 GET_PROCESS_STATUS id. Value 0 DORMANT, 1 READY, 2 running, 3 else; extra d
abbrev pub GetStatus : Module → ℕ → Type 0
GetStatus m k = (id : ℤ) → let p = own m k in
    let x = process (id_of id) p in
    let e = call_by k 13 id (pos 0) (pos 0) (pos 0) in
    Checks m e ((not (plain_between 1 p.process_count id), 3) ∷ []) (Gives m e 0 (cond x.started (cond (eqb (id_of id) (running p)) 2 (cond (ready x) 1 3)) 0) x.times.deadline m)

-- 14 CREATE_SEMAPHORE name, start, max
abbrev pub CreateSemaphore : Module → ℕ → Type 0
CreateSemaphore m k = (name start max : ℤ) → let p = own m k in
    Creates m k (call_by k 14 name start max (pos 0)) 8 p.semaphore_count (map (λ (x : SemaphoreT). x.name) (take p.semaphore_count p.semaphores)) name
    (plain_between 1 255 name && (plain_between 1 32767 max && plain_between 0 (id_of max) start)) (with_new_semaphore (id_of name) (id_of start) (id_of max) p)

-- 15 WAIT_SEMAPHORE id, a: value > 0: one less
abbrev pub WaitSemaphore : Module → ℕ → Type 0
WaitSemaphore m k = (j a : ℤ) → let p = own m k in
    let e = call_by k 15 j a (pos 0) (pos 0) in
    MayWait m k e ((not (plain_between 1 p.semaphore_count j), 3) ∷ []) (in_t a) a (ltb 0 (semaphore (id_of j) p).value) (Puts m e 0 0 k (with_semaphore_at (id_of j) ((semaphore (id_of j) p).value - 1) p)) (Semaphore (id_of j))

-- 16 SIGNAL id. 1: value = max. First waiter's wait ends (w −1, wake code 0); none: value + 1
abbrev pub Signal : Module → ℕ → Type 0
Signal m k = (j : ℤ) → let p = own m k in
    let s = semaphore (id_of j) p in
    let e = call_by k 16 j (pos 0) (pos 0) (pos 0) in
    Checks m e ((not (plain_between 1 p.semaphore_count j), 3) ∷ (eqb s.value s.max, 1) ∷ [])
    ((waiters (object (Semaphore (id_of j))) p ≡ [] → Puts m e 0 0 k (with_semaphore_at (id_of j) (s.value + 1) p))
    × ((id : ℕ) (rest : List ℕ) → waiters (object (Semaphore (id_of j))) p ≡ id ∷ rest → Puts m e 0 0 k (plain_stored id (let_go (process id p)) p)))

-- 17 CREATE_EVENT name (DOWN)
abbrev pub CreateEvent : Module → ℕ → Type 0
CreateEvent m k = (name : ℤ) → let p = own m k in
    Creates m k (call_by k 17 name (pos 0) (pos 0) (pos 0)) 8 p.event_count (map (λ (x : EventState). x.name) (take p.event_count p.events)) name
    (plain_between 1 255 name) (with_new_event (id_of name) p)

-- 18 SET_EVENT id: UP, all waiters' waits end in queue order the same way. 19 RESET_EVENT id: DOWN
abbrev pub SetEvent : Module → ℕ → Type 0
SetEvent m k = (j : ℤ) → let p = own m k in
    let e = call_by k 18 j (pos 0) (pos 0) (pos 0) in
    Checks m e ((not (plain_between 1 p.event_count j), 3) ∷ []) (Puts m e 0 0 k (plain_all let_go (waiters (object (Event (id_of j))) p) (with_event_at (id_of j) true p)))

abbrev pub ResetEvent : Module → ℕ → Type 0
ResetEvent m k = (j : ℤ) → let p = own m k in
    let e = call_by k 19 j (pos 0) (pos 0) (pos 0) in
    Checks m e ((not (plain_between 1 p.event_count j), 3) ∷ []) (Puts m e 0 0 k (with_event_at (id_of j) false p))

-- 20 WAIT_EVENT id, a: event UP: nothing changes
abbrev pub WaitEvent : Module → ℕ → Type 0
WaitEvent m k = (j a : ℤ) → let p = own m k in
    let e = call_by k 20 j a (pos 0) (pos 0) in
    MayWait m k e ((not (plain_between 1 p.event_count j), 3) ∷ []) (in_t a) a (event (id_of j) p).up (Gives m e 0 0 (Some 0) m) (Event (id_of j))

-- 21 WRITE channel, a. 3: a not in D. Stores a and t. 22 READ channel. 1: no message. Value a, extra 1 if t − written ≤ refresh, else 0
abbrev pub Write : Module → ℕ → Type 0
Write m k = (i a : ℤ) → let e = call_by k 21 i a (pos 0) (pos 0) in
    Checks m e (channel_tests m k i true (λ c. c.source) ++ ((not (in_d a), 3) ∷ [])) (Gives m e 0 0 (Some 0) (with_message (id_of i - 1) (Some (record { value = id_of a; written = m.t })) m))

abbrev pub Read : Module → ℕ → Type 0
Read m k = (i : ℤ) → let x = message m (id_of i - 1) in
    let y = unwrap_or x (record { value = 0; written = 0 }) in
    let e = call_by k 22 i (pos 0) (pos 0) (pos 0) in
    Checks m e (channel_tests m k i true (λ c. c.destination) ++ ((is_none x, 1) ∷ [])) (Gives m e 0 y.value (Some (cond (leb (m.t - y.written) (channel m.table (id_of i - 1)).refresh) 1 0)) m)

-- 23 CREATE_BUFFER name, limit
abbrev pub CreateBuffer : Module → ℕ → Type 0
CreateBuffer m k = (name limit : ℤ) → let p = own m k in
    Creates m k (call_by k 23 name limit (pos 0) (pos 0)) 8 p.buffer_count (map (λ (x : Buffer). x.name) (take p.buffer_count p.buffers)) name
    (plain_between 1 255 name && plain_between 1 16 limit) (with_new_buffer (id_of name) (id_of limit) p)

-- 24 SEND_BUFFER id, message, time-out: straight into the first waiting receiver's record; none: the last message. 25 RECEIVE_BUFFER id, time-out: the
-- first message is the value, and the first waiting sender's is let in
abbrev pub SendBuffer : Module → ℕ → Type 0
SendBuffer m k = (j b a : ℤ) → let p = own m k in
    let e = call_by k 24 j b a (pos 0) in
    MayWait m k e ((not (plain_between 1 p.buffer_count j), 3) ∷ []) (in_d b && in_t a) a (ltb (buffer (id_of j) p).queue.len (buffer (id_of j) p).limit)
    ((waiters (object (Receiving (id_of j))) p ≡ [] → Puts m e 0 0 k (with_buffer_at (id_of j) (held (buffer (id_of j) p).queue ++ (id_of b ∷ [])) p))
    × ((id : ℕ) (rest : List ℕ) → waiters (object (Receiving (id_of j))) p ≡ id ∷ rest → Puts m e 0 0 k (plain_stored id (wait_over 0 (id_of b) (process id p)) p))) (Sending (id_of j) (id_of b))

abbrev pub ReceiveBuffer : Module → ℕ → Type 0
ReceiveBuffer m k = (j a : ℤ) → let p = own m k in
    let e = call_by k 25 j a (pos 0) (pos 0) in
    MayWait m k e ((not (plain_between 1 p.buffer_count j), 3) ∷ []) (in_t a) a (ltb 0 (buffer (id_of j) p).queue.len)
    ((b : ℕ) (l : List ℕ) → held (buffer (id_of j) p).queue ≡ b ∷ l
    → (waiters (object (Sending (id_of j) 0)) p ≡ [] → Puts m e 0 b k (with_buffer_at (id_of j) l p))
    × ((id : ℕ) (rest : List ℕ) → waiters (object (Sending (id_of j) 0)) p ≡ id ∷ rest → Puts m e 0 b k (plain_stored id (let_go (process id p)) (with_buffer_at (id_of j) (l ++ (carried (process id p) ∷ [])) p)))) (Receiving (id_of j))

-- 26 CREATE_BLACKBOARD name
abbrev pub CreateBlackboard : Module → ℕ → Type 0
CreateBlackboard m k = (name : ℤ) → let p = own m k in
    Creates m k (call_by k 26 name (pos 0) (pos 0) (pos 0)) 8 p.blackboard_count (map (λ (x : BlackboardT). x.name) (take p.blackboard_count p.blackboards)) name
    (plain_between 1 255 name) (with_new_blackboard (id_of name) p)

-- 27 SHOW id, message: shown, and all waiters' waits end in queue order, the message kept in each one's record
abbrev pub Show : Module → ℕ → Type 0
Show m k = (j b : ℤ) → let p = own m k in
    let e = call_by k 27 j b (pos 0) (pos 0) in
    Checks m e ((not (plain_between 1 p.blackboard_count j), 3) ∷ (not (in_d b), 3) ∷ [])
    (Puts m e 0 0 k (plain_all (wait_over 0 (id_of b)) (waiters (object (Blackboard (id_of j))) p) (with_board_at (id_of j) (Some (id_of b)) p)))

-- 28 READ_BLACKBOARD id, time-out: a message read is the value
abbrev pub ReadBlackboard : Module → ℕ → Type 0
ReadBlackboard m k = (j a : ℤ) → let p = own m k in
    let e = call_by k 28 j a (pos 0) (pos 0) in
    MayWait m k e ((not (plain_between 1 p.blackboard_count j), 3) ∷ []) (in_t a) a (is_some (blackboard (id_of j) p).message) (Gives m e 0 (unwrap_or (blackboard (id_of j) p).message 0) (Some 0) m) (Blackboard (id_of j))

-- 29 CLEAR id: nothing is shown
abbrev pub Clear : Module → ℕ → Type 0
Clear m k = (j : ℤ) → let p = own m k in
    let e = call_by k 29 j (pos 0) (pos 0) (pos 0) in
    Checks m e ((not (plain_between 1 p.blackboard_count j), 3) ∷ []) (Puts m e 0 0 k (with_board_at (id_of j) None p))

-- 30 SEND channel, message, time-out; 31 RECEIVE channel, time-out: as 24 and 25, with those who wait in the partition at the other end
abbrev pub Send : Module → ℕ → Type 0
Send m k = (i b a : ℤ) → let c = channel m.table (id_of i - 1) in
    let q = queue m (id_of i - 1) in
    let there = own m c.destination in
    let e = call_by k 30 i b a (pos 0) in
    MayWait m k e (channel_tests m k i false (λ c. c.source)) (in_d b && in_t a) a (ltb q.len c.size)
    ((waiters (object (Destination (id_of i))) there ≡ [] → Gives m e 0 0 (Some 0) (with_queue (id_of i - 1) (queue_of (held q ++ (id_of b ∷ []))) m))
    × ((id : ℕ) (rest : List ℕ) → waiters (object (Destination (id_of i))) there ≡ id ∷ rest → Puts m e 0 0 c.destination (plain_stored id (wait_over 0 (id_of b) (process id there)) there))) (Source (id_of i) (id_of b))

abbrev pub Receive : Module → ℕ → Type 0
Receive m k = (i a : ℤ) → let c = channel m.table (id_of i - 1) in
    let q = queue m (id_of i - 1) in
    let there = own m c.source in
    let e = call_by k 31 i a (pos 0) (pos 0) in
    MayWait m k e (channel_tests m k i false (λ c. c.destination)) (in_t a) a (ltb 0 q.len)
    ((b : ℕ) (l : List ℕ) → held q ≡ b ∷ l
    → (waiters (object (Source (id_of i) 0)) there ≡ [] → Gives m e 0 b (Some 0) (with_queue (id_of i - 1) (queue_of l) m))
    × ((id : ℕ) (rest : List ℕ) → waiters (object (Source (id_of i) 0)) there ≡ id ∷ rest
    → Gives m e 0 b (Some 0) (with_part (c.source - 1) (plain_stored id (let_go (process id there)) there) (with_queue (id_of i - 1) (queue_of (l ++ (carried (process id there) ∷ []))) m)))) (Destination (id_of i))

-- 32 LOCK_PREEMPTION. 1: outside NORMAL. 4: at 16. The level rises by one; the process that raised it from 0 is the holder. 33 UNLOCK_PREEMPTION.
-- 1: outside NORMAL. 1: at level 0. The level falls by one; at 0 there is no holder
abbrev pub LockPreemption : Module → ℕ → Type 0
LockPreemption m k = let p = own m k in
    let e = call_by k 32 (pos 0) (pos 0) (pos 0) (pos 0) in
    Checks m e ((not (eqb (mode_number p.mode) 3), 1) ∷ (eqb p.level 16, 4) ∷ []) (Puts m e 0 0 k (with_lock (p.level + 1) (cond (eqb p.level 0) (running p) p.holder) p))

abbrev pub UnlockPreemption : Module → ℕ → Type 0
UnlockPreemption m k = let p = own m k in
    let e = call_by k 33 (pos 0) (pos 0) (pos 0) (pos 0) in
    Checks m e ((not (eqb (mode_number p.mode) 3), 1) ∷ (eqb p.level 0, 1) ∷ []) (Puts m e 0 0 k (with_lock (p.level - 1) (cond (eqb p.level 1) 0 p.holder) p))

-- 34 GET_TICKS_LEFT: the ticks until the partition's window ends
abbrev pub GetTicksLeft : Module → ℕ → Type 0
GetTicksLeft m k = Gives m (call_by k 34 (pos 0) (pos 0) (pos 0) (pos 0)) 0 (ticks_left m) (Some 0) m × EndsIn m.table (m.t % m.table.frame) k (ticks_left m)

-- ---------------------------------------------------------------- the whole
-- of every call that comes to its body
pub record EachCall (m : Module) (k : ℕ) : Type 0 where
  pub set_mode : SetMode m k
  pub create_process : CreateProcess m k
  pub start : Start m k
  pub delayed : DelayedStart m k
  pub stop : Stop m k
  pub stop_self : StopSelf m k
  pub suspend : Suspend m k
  pub suspend_self : SuspendSelf m k
  pub timed_wait : TimedWait m k
  pub periodic_wait : PeriodicWait m k
  pub resume : Resume m k
  pub set_priority : SetPriority m k
  pub status : GetStatus m k
  pub create_semaphore : CreateSemaphore m k
  pub wait_semaphore : WaitSemaphore m k
  pub signal : Signal m k
  pub create_event : CreateEvent m k
  pub set_event : SetEvent m k
  pub reset_event : ResetEvent m k
  pub wait_event : WaitEvent m k
  pub write : Write m k
  pub read : Read m k
  pub create_buffer : CreateBuffer m k
  pub send_buffer : SendBuffer m k
  pub receive_buffer : ReceiveBuffer m k
  pub create_blackboard : CreateBlackboard m k
  pub show : Show m k
  pub read_blackboard : ReadBlackboard m k
  pub clear : Clear m k
  pub send : Send m k
  pub receive : Receive m k
  pub lock_preemption : LockPreemption m k
  pub unlock_preemption : UnlockPreemption m k
  pub get_ticks_left : GetTicksLeft m k
