-- What every event makes of every process: one of listed cases, each with its call, its caller and the record after it, as a claim about `step`. The premises
-- speak of an event's numbers, the answer's code, the table and the record. (The whole record after each accepted call: `EachCall`.)
use Rattle.machine.specs.Mode.{mode_number}
use Rattle.std.specs.Prelude.{ℕ, ◌+◌, ◌≤◌, ◌<◌, ◌≡◌, Bool, true, false, cond, ◌⊎◌, eqb, pos}
use Rattle.machine.specs.declared.Times.{Times}
use Rattle.machine.specs.declared.Process.{Process}
use Rattle.machine.specs.declared.Event.{Event as EventT}
use Rattle.machine.specs.declared.Module.{Module}
use Rattle.machine.specs.declared.Wait.{Wait}
use Rattle.machine.specs.declared.Wait.TheVariants.{None, Normal, Delay, Timed, Period, Semaphore, Event, Sending, Receiving, Blackboard, Source, Destination}
use Rattle.machine.specs.Process.{blank_process}
use Rattle.machine.specs.Partition.{process, running}
use Rattle.machine.specs.Module.{channel}
use Rattle.machine.specs.Step.{step}
use Rattle.machine.specs.Theorems.Valid.{Between, Reached, plain_later}
use Rattle.machine.specs.Theorems.Plain.{at_tick, wait_over}
use Rattle.machine.specs.Theorems.Events.{own, new_process}
use Rattle.machine.specs.Theorems.EachCall.{id_of, periodic_at, now_dormant, with, with_priority}

-- ---------------------------------------------------------------- which calls begin and end waits
-- the wait that call n begins, by its fields a and b (10 PERIODIC_WAIT has none); none for another
abbrev pub wait_of : ℕ → ℕ → ℕ → Wait
wait_of n a b =
    cond (eqb n 9) Timed
    (cond (eqb n 10) Period
    (cond (eqb n 15) (Semaphore a)
    (cond (eqb n 20) (Event a)
    (cond (eqb n 24) (Sending a b)
    (cond (eqb n 25) (Receiving a)
    (cond (eqb n 28) (Blackboard a)
    (cond (eqb n 30) (Source a b)
    (cond (eqb n 31) (Destination a) None))))))))

-- the wait of a process of its own partition that call n serves, by its field a; who waits to send waits with a message; none for another
abbrev pub served_by : ℕ → ℕ → ℕ → Wait
served_by n a message =
    cond (eqb n 16) (Semaphore a)
    (cond (eqb n 18) (Event a)
    (cond (eqb n 24) (Receiving a)
    (cond (eqb n 25) (Sending a message)
    (cond (eqb n 27) (Blackboard a) None))))

-- ---------------------------------------------------------------- an event and a process
-- started, with these times, this current priority, this mark and this wait; marks but this one and wake code cleared
abbrev pub begun_with : Times → ℕ → Bool → Wait → Process → Process
begun_with s n mark w x = record { given = x.given; times = s; current = n; suspended = mark; missed = false; code = 0; message = x.message; started = true; wait = w }

-- it waits for its next release: r rises by the period, w = r, d = r + capacity, or −1
abbrev pub released_next : Process → Process
released_next x =
    let r = plain_later x.times.release x.given.period in
    record { given = x.given; times = record { release = r; deadline = plain_later r x.given.capacity; wake = r; delay = x.times.delay }; current = x.current; suspended = x.suspended; missed = x.missed; code = x.code; message = x.message; started = x.started; wait = Period }

-- the wait that the start rule gives: a periodic process waits for its release, another for nothing or for its delay
abbrev pub StartWait : Process → Wait → Type 0
StartWait x w = cond (periodic_at x.given.period) (w ≡ Period) ((w ≡ None) ⊎ (w ≡ Delay))

-- an event that answers code, and process id of partition k
module _ (m : Module) (e : EventT) (code k id : ℕ) where
  -- its record before
  abbrev pub was : Process
  was = process id (own m k)

  -- call n of partition k answered c; that of process id, answered 0; that by process id
  abbrev pub Call : ℕ → ℕ → Type 0
  Call n c = (e.partition ≡ pos k) × (e.call ≡ pos n) × (code ≡ c)

  abbrev pub CallOf : ℕ → Type 0
  CallOf n = Call n 0 × (e.a ≡ pos id)

  abbrev pub CallBy : ℕ → ℕ → Type 0
  CallBy n c = Call n c × (mode_number (own m k).mode ≡ 3) × (id ≡ running (own m k))

  -- a tick, and the partition is NORMAL
  abbrev pub Tick : Type 0
  Tick = (e.partition ≡ pos 0) × (code ≡ 0) × (mode_number (own m k).mode ≡ 3)

  -- 3 START or 4 DELAYED_START of it
  abbrev pub StartOf : Type 0
  StartOf = CallOf 3 ⊎ CallOf 4

  -- 5 STOP of it, or its 6 STOP_SELF
  abbrev pub StopOf : Type 0
  StopOf = CallOf 5 ⊎ CallBy 6 0

  -- an accepted mode 0, 1 or 2 of its partition
  pub record Erasure : Type 0 where
    pub call : Call 1 0
    pub mode : ℕ
    pub is : e.a ≡ pos mode
    pub low : mode ≤ 2

  -- its partition enters NORMAL, for which it waits
  pub record Entry : Type 0 where
    pub call : Call 1 0
    pub is : e.a ≡ pos 3
    pub waits : was.wait ≡ Normal

  -- its wait is served: by a call of its partition; by SEND or RECEIVE of the partition at the other end of channel number i + 1; by a restart of the
  -- destination of a channel at whose source it waits
  pub data Service : Type 0 where
    here : (n message : ℕ) → Call n 0 → was.wait ≡ served_by n (id_of e.a) message → (was.wait ≡ None → ⊥) → Service
    sent : (i : ℕ) → i < m.table.channel_count → e.partition ≡ pos (channel m.table i).source → e.call ≡ pos 30 → e.a ≡ pos (i + 1) → code ≡ 0
        → k ≡ (channel m.table i).destination → was.wait ≡ Destination (i + 1) → Service
    taken : (i message : ℕ) → i < m.table.channel_count → e.partition ≡ pos (channel m.table i).destination → e.call ≡ pos 31 → e.a ≡ pos (i + 1) → code ≡ 0
        → k ≡ (channel m.table i).source → was.wait ≡ Source (i + 1) message → Service
    restart : (i message mode : ℕ) → i < m.table.channel_count → e.partition ≡ pos (channel m.table i).destination → e.call ≡ pos 1 → e.a ≡ pos mode → mode ≤ 2 → code ≡ 0
        → k ≡ (channel m.table i).source → was.wait ≡ Source (i + 1) message → Service

  -- none of these (but for a service), no SUSPEND, RESUME or SET_PRIORITY of it, and no call by it that waits
  pub record ActsElsewhere : Type 0 where
    pub tick : Tick → ⊥
    pub start : StartOf → ⊥
    pub stop : StopOf → ⊥
    pub suspend : CallOf 7 → ⊥
    pub resume : CallOf 11 → ⊥
    pub priority : CallOf 12 → ⊥
    pub wait : (n : ℕ) → CallBy n 7 → ⊥
    pub enter : Entry → ⊥
    pub erase : Erasure → ⊥

  -- its record after the event is y
  pub data Becomes (y : Process) : Type 0 where
    -- it stays; a call that wakes, moves or serves others only, and every refusal
    same : ActsElsewhere → y ≡ was → Becomes y
    -- a tick: w, then d
    ticked : Tick → y ≡ at_tick (m.t + 1) was → Becomes y
    -- 2 CREATE_PROCESS: the next process
    created : Call 2 0 → was ≡ blank_process → y ≡ new_process y.given → Becomes y
    -- 3 START, 4 DELAYED_START (the times: `EachCall`, `ReleasesAt`)
    started : StartOf → was.started ≡ false → y ≡ begun_with y.times was.given.base false y.wait was
        → (mode_number (own m k).mode ≡ 3 → StartWait was y.wait) → ((mode_number (own m k).mode ≡ 3 → ⊥) → y.wait ≡ Normal) → Becomes y
    -- 5 STOP, 6 STOP_SELF
    stopped : StopOf → y ≡ now_dormant was → Becomes y
    -- 7 SUSPEND, 8 SUSPEND_SELF: the wait stays
    suspended : CallOf 7 → was.started ≡ true → was.suspended ≡ false → y ≡ with true was.times.wake was.code was.wait was → Becomes y
    suspended_self : CallBy 8 7 → was.wait ≡ None → y ≡ with true y.times.wake was.code None was → Becomes y
    -- it waits by its own call n: 9 TIMED_WAIT, or one that waits on an object
    waiting : (n message : ℕ) → CallBy n 7 → (n ≡ 10 → ⊥) → was.wait ≡ None → (wait_of n (id_of e.a) message ≡ None → ⊥)
        → y ≡ with was.suspended y.times.wake was.code (wait_of n (id_of e.a) message) was → Becomes y
    -- 10 PERIODIC_WAIT
    released : CallBy 10 7 → was.wait ≡ None → y ≡ released_next was → Becomes y
    -- 11 RESUME: the wait stays
    resumed : CallOf 11 → was.started ≡ true → was.suspended ≡ true → y ≡ with false y.times.wake y.code was.wait was → Becomes y
    -- 12 SET_PRIORITY
    prioritised : CallOf 12 → was.started ≡ true → y ≡ with_priority (id_of e.b) was → Becomes y
    -- its wait ends with wake code 0; a message may be handed over
    served : Service → y ≡ wait_over 0 y.message was → Becomes y
    -- the start rule on entering NORMAL
    entered : Entry → y ≡ begun_with y.times was.current was.suspended y.wait was → StartWait was y.wait → Becomes y
    -- modes 0, 1, 2: there is no such process any more
    erased : Erasure → y ≡ blank_process → Becomes y

-- ---------------------------------------------------------------- the whole
-- every event of every reached record, and each process of each partition
abbrev pub EachProcess : Type 0
EachProcess = (m : Module) → Reached m → (e : EventT) (k id : ℕ) → Between 1 m.table.size k → Becomes m e (step m e).answer.code k id (process id (own (step m e).state k))
