-- What holds of every record that a run reaches, said once, and the plain definitions that such records meet. Nothing of the machine
-- rests on it.
use Rattle.machine.specs.Mode.{mode_number}
use Rattle.machine.specs.Decisions.{blank_message}
use Rattle.std.specs.Prelude.{Option}
use Rattle.std.specs.Prelude.{unwrap_or}
use Rattle.std.specs.Prelude.{ℕ, ◌+◌, ◌-◌, ◌%◌, ◌≤◌, ◌<◌, ◌≡◌, Bool, true, false, cond, ◌&&◌, ◌||◌, List, [], ◌∷◌, ◌++◌, ◌⊎◌, length, eqb}
use Rattle.machine.specs.Time.{Time}
use Rattle.std.specs.Prelude.{None, Some}
use Rattle.machine.specs.declared.Wait.{Wait}
use Rattle.machine.specs.declared.Wait.TheVariants.{None as NoWait, Normal}
use Rattle.machine.specs.declared.Ids.{Ids}
use Rattle.machine.specs.declared.Given.{Given}
use Rattle.machine.specs.declared.Times.{Times}
use Rattle.machine.specs.declared.Process.{Process}
use Rattle.machine.specs.declared.Semaphore.{Semaphore as SemaphoreT}
use Rattle.machine.specs.declared.EventState.{EventState}
use Rattle.machine.specs.declared.Queue.{Queue}
use Rattle.machine.specs.declared.Transfer.{Transfer}
use Rattle.machine.specs.declared.Transfer.TheVariants.{Put, HandedTo, Taken, LetIn}
use Rattle.machine.specs.declared.Buffer.{Buffer}
use Rattle.machine.specs.declared.Blackboard.{Blackboard as BlackboardT}
use Rattle.machine.specs.declared.Partition.{Partition}
use Rattle.machine.specs.declared.Context.{Context}
use Rattle.machine.specs.declared.Change.{Change}
use Rattle.machine.specs.declared.Change.TheVariants.{Nothing, Stored, Created, Last, StoredSemaphore, StoredEvent, CreatedBuffer, Moved, StoredBlackboard, Ended, Handed, LevelSet, Entered}
use Rattle.machine.specs.declared.Decision.{Decision}
use Rattle.machine.specs.declared.Decision.TheVariants.{Refused, Unchanged, Ticked, Blocked, Changed, Restarted, Written, Passed}
use Rattle.machine.specs.declared.Reply.{Reply}
use Rattle.machine.specs.declared.Window.{Window}
use Rattle.machine.specs.declared.Channel.{Channel}
use Rattle.machine.specs.declared.Table.{Table}
use Rattle.machine.specs.declared.Message.{Message}
use Rattle.machine.specs.declared.Module.{Module}
use Rattle.machine.specs.declared.Event.{Event as EventT}
use Rattle.machine.specs.declared.Answer.{Answer}
use Rattle.machine.specs.Limits.{process_limit, semaphore_limit, event_limit, buffer_limit, message_limit, blackboard_limit, name_limit, priority_limit, value_limit, mode_limit, level_limit, duration_limit, time_limit, frame_limit, partition_limit, window_limit, channel_limit, size_limit, number_limit}
use Rattle.machine.specs.Ids.{members, ids_of}
use Rattle.machine.specs.Messages.{held, queue_of}
use Rattle.machine.specs.Process.{Class, class_of, blank_process, created_process, is_never, periodic, ready, on_object}
use Rattle.machine.specs.Partition.{normal_mode, by_id, no_semaphore, no_event, no_buffer, no_blackboard, process, buffer, empty_buffer, running, applied}
use Rattle.machine.specs.Table.{has_flagged, read_table}
use Rattle.machine.specs.Windows.{windows}
use Rattle.machine.specs.Module.{channel, part, message, queue, empty_module}
use Rattle.machine.specs.Places.{no_caller}
use Rattle.machine.specs.Step.{step}

-- low..high
abbrev pub Between : ℕ → ℕ → ℕ → Type 0
Between low high n = (low ≤ n) × (n ≤ high)

-- ---------------------------------------------------------------- lists of ids
unfoldable pub contains : ℕ → List ℕ → Bool
contains id [] = false
contains id (x ∷ l) = eqb x id || contains id l

unfoldable pub Distinct : List ℕ → Type 0
Distinct [] = Unit {0}
Distinct (x ∷ l) = (contains x l ≡ false) × Distinct l

-- each of a list is a message: 0..9,999,999
unfoldable pub AllMessages : List ℕ → Type 0
AllMessages [] = Unit {0}
AllMessages (m ∷ l) = (m ≤ duration_limit) × AllMessages l

-- a list holds just the ids of which f says true, each once
pub record Tracks (f : ℕ → Bool) (q : Ids) : Type 0 where
  pub canonical : q ≡ ids_of (members q)
  pub distinct : Distinct (members q)
  pub exact : (id : ℕ) → contains id (members q) ≡ f id

-- ---------------------------------------------------------------- times
-- no release point and no wake time comes after this one: 110,009,997
abbrev pub latest_wake : ℕ
latest_wake = time_limit + frame_limit + duration_limit - 1

-- no deadline comes after this one: 120,009,996
abbrev pub latest_deadline : ℕ
latest_deadline = latest_wake + duration_limit

-- it is not −1 and ≤ n
abbrev pub AtMost : ℕ → Time → Type 0
AtMost n None = ⊥
AtMost n (Some m) = m ≤ n

-- it is −1 or ≤ n
abbrev pub NotAfter : ℕ → Time → Type 0
NotAfter n None = Unit {0}
NotAfter n (Some m) = m ≤ n

-- after t, by a number of D
abbrev pub Ahead : ℕ → Time → Type 0
Ahead t None = ⊥
Ahead t (Some n) = (t < n) × (n ≤ t + duration_limit)

-- −1, or after t by a number of D
abbrev pub Timeout : ℕ → Time → Type 0
Timeout t None = Unit {0}
Timeout t (Some n) = (t < n) × (n ≤ t + duration_limit)

-- a time after another with no bound: −1 where one of them is −1
abbrev pub plain_later : Time → Time → Time
plain_later None b = None
plain_later (Some m) None = None
plain_later (Some m) (Some n) = Some (m + n)

-- ---------------------------------------------------------------- a process by itself
-- −1 or a multiple of M in 1..9,999,999
abbrev pub SoundPeriod : ℕ → Time → Type 0
SoundPeriod frame None = Unit {0}
SoundPeriod frame (Some n) = Between 1 duration_limit n × (n % frame ≡ 0)

-- a number is not above a period that isn't −1, or it is below it
abbrev pub NotAbove : Time → ℕ → Type 0
NotAbove None n = Unit {0}
NotAbove (Some period) n = n ≤ period

abbrev pub Below : Time → ℕ → Type 0
Below None n = Unit {0}
Below (Some period) n = n < period

-- −1 or 1..9,999,999, and not above a period that isn't −1
abbrev pub SoundCapacity : Time → Time → Type 0
SoundCapacity period None = Unit {0}
SoundCapacity period (Some n) = Between 1 duration_limit n × NotAbove period n

-- what CREATE_PROCESS admits
pub record SoundGiven (frame : ℕ) (g : Given) : Type 0 where
  pub name : Between 1 name_limit g.name
  pub base : Between 1 priority_limit g.base
  pub period : SoundPeriod frame g.period
  pub capacity : SoundCapacity g.period g.capacity

-- no r, d, w
pub record Timeless (s : Times) : Type 0 where
  pub release : s.release ≡ None
  pub deadline : s.deadline ≡ None
  pub wake : s.wake ≡ None

-- no time comes after the latest
pub record Bounded (s : Times) : Type 0 where
  pub release : NotAfter latest_wake s.release
  pub deadline : NotAfter latest_deadline s.deadline
  pub wake : NotAfter latest_wake s.wake

-- DORMANT
pub record Dormant (v : Wait) (mark : Bool) (s : Times) : Type 0 where
  pub wait : v ≡ NoWait
  pub unmarked : mark ≡ false
  pub times : Timeless s

-- started outside NORMAL
pub record Early (v : Wait) (s : Times) : Type 0 where
  pub wait : v ≡ Normal
  pub times : Timeless s

-- the object of a wait has been created, and a message kept with it is one; in NORMAL none waits for NORMAL
abbrev pub KnownWait : (ℕ → ℕ) → Class → Type 0
KnownWait counts Class.nothing = Unit {0}
KnownWait counts Class.normal = ⊥
KnownWait counts Class.timer = Unit {0}
KnownWait counts Class.release = Unit {0}
KnownWait counts (Class.onto kind k m) = Between 1 (counts kind) k × (m ≤ duration_limit)

-- w, by the wait, in NORMAL at t: a wake time with no wait stands only where the suspended mark does
abbrev pub SoundWake : ℕ → Bool → Time → Class → Time → Type 0
SoundWake t mark r Class.nothing w = cond mark (Timeout t w) (w ≡ None)
SoundWake t mark r Class.normal w = ⊥
SoundWake t mark r Class.timer w = Ahead t w
SoundWake t mark r Class.release w = w ≡ r
SoundWake t mark r (Class.onto kind k m) w = Timeout t w

-- r of a process that does not wait for its period: −1 for an aperiodic one, at most t for a periodic one
abbrev pub Released : ℕ → Time → Time → Type 0
Released t None r = r ≡ None
Released t (Some period) r = AtMost t r

-- r, by the wait, in NORMAL at t
abbrev pub SoundRelease : ℕ → Time → Class → Time → Type 0
SoundRelease t period Class.nothing r = Released t period r
SoundRelease t period Class.normal r = ⊥
SoundRelease t period Class.timer r = Released t period r
SoundRelease t period Class.release r = (is_never period ≡ false) × AtMost latest_wake r
SoundRelease t period (Class.onto kind k m) r = Released t period r

-- what a process's rules look at besides its own record: M, the time, whether the mode is NORMAL, how many objects of a kind there are
pub record Setting : Type 0 where
  pub frame : ℕ
  pub time : ℕ
  pub normal : Bool
  pub counts : ℕ → ℕ

abbrev pub setting : ℕ → ℕ → Bool → (ℕ → ℕ) → Setting
setting frame t normal counts = record { frame = frame; time = t; normal = normal; counts = counts }

-- started in NORMAL
pub record Going (c : Setting) (period : Time) (mark : Bool) (v : Class) (s : Times) : Type 0 where
  pub wait : KnownWait c.counts v
  pub wake : SoundWake c.time mark s.release v s.wake
  pub release : SoundRelease c.time period v s.release
  pub deadline : NotAfter latest_deadline s.deadline

-- what no mode and no time changes
pub record Lasting (frame : ℕ) (g : Given) (n : ℕ) (started : Bool) (d m : ℕ) : Type 0 where
  pub given : SoundGiven frame g
  pub current : n ≤ priority_limit
  pub priority : started ≡ true → 1 ≤ n
  pub delay : d ≤ duration_limit
  pub early : Below g.period d
  pub message : m ≤ duration_limit

abbrev pub LastingIn : ℕ → Process → Type 0
LastingIn frame x = Lasting frame x.given x.current x.started x.times.delay x.message

-- a wake code
abbrev pub SoundCode : ℕ → Type 0
SoundCode n = (n ≡ 0) ⊎ (n ≡ 6)

-- a periodic process is never suspended
abbrev pub SoundMark : Process → Type 0
SoundMark x = (periodic x && x.suspended) ≡ false

pub record SoundProcess (c : Setting) (x : Process) : Type 0 where
  pub lasting : LastingIn c.frame x
  pub code : SoundCode x.code
  pub mark : SoundMark x
  pub dormant : x.started ≡ false → Dormant x.wait x.suspended x.times
  pub early : x.started ≡ true → c.normal ≡ false → Early x.wait x.times
  pub going : x.started ≡ true → c.normal ≡ true → Going c x.given.period x.suspended (class_of x.wait) x.times

-- ---------------------------------------------------------------- a partition
pub record SoundSemaphore (s : SemaphoreT) : Type 0 where
  pub name : Between 1 name_limit s.name
  pub value : s.value ≤ s.max
  pub max : Between 1 value_limit s.max

pub record SoundEvent (e : EventState) : Type 0 where
  pub name : Between 1 name_limit e.name

-- the messages of a queue: as many as its limit at most, each one a message
pub record SoundQueue (limit : ℕ) (q : Queue) : Type 0 where
  pub canonical : q ≡ queue_of (held q)
  pub few : q.len ≤ limit
  pub each : AllMessages (held q)

pub record SoundBuffer (b : Buffer) : Type 0 where
  pub name : Between 1 name_limit b.name
  pub limit : Between 1 message_limit b.limit
  pub queue : SoundQueue b.limit b.queue

pub record SoundBlackboard (b : BlackboardT) : Type 0 where
  pub name : Between 1 name_limit b.name
  pub message : unwrap_or b.message 0 ≤ duration_limit

-- a list with room for `limit`, of which n have been created; an id past these names the default
pub record Numbered {A : Type 0} (limit : ℕ) (d : A) (l : List A) (n : ℕ) : Type 0 where
  pub size : length l ≡ limit
  pub few : n ≤ limit
  pub past : (id : ℕ) → n < id → by_id limit d id l ≡ d

-- the arrival list holds just the READY processes, each once, and the waiting list those that wait on an object
pub record Listed (l : List Process) (n : ℕ) (arrival waiting : Ids) : Type 0 where
  pub numbered : Numbered process_limit blank_process l n
  pub arrivals : Tracks (λ id. ready (by_id process_limit blank_process id l)) arrival
  pub waitings : Tracks (λ id. on_object (by_id process_limit blank_process id l)) waiting

abbrev pub ListedIn : Partition → Type 0
ListedIn p = Listed p.processes p.process_count p.arrival p.waiting

-- the objects of one kind: a numbered list, and each that has been created is sound
pub record Family {A : Type 0} (limit : ℕ) (d : A) (Sound : A → Type 0) (l : List A) (n : ℕ) : Type 0 where
  pub numbered : Numbered limit d l n
  pub each : (k : ℕ) → Between 1 n k → Sound (by_id limit d k l)

pub record Objects (s : List SemaphoreT) (n : ℕ) (e : List EventState) (n' : ℕ) (b : List Buffer) (n'' : ℕ) (w : List BlackboardT) (n''' : ℕ) : Type 0 where
  pub semaphores : Family semaphore_limit no_semaphore SoundSemaphore s n
  pub events : Family event_limit no_event SoundEvent e n'
  pub buffers : Family buffer_limit no_buffer SoundBuffer b n''
  pub blackboards : Family blackboard_limit no_blackboard SoundBlackboard w n'''

abbrev pub ObjectsIn : Partition → Type 0
ObjectsIn p = Objects p.semaphores p.semaphore_count p.events p.event_count p.buffers p.buffer_count p.blackboards p.blackboard_count

-- how many objects of a kind there are, by the kinds of class_of; as many ends of channels as a table can have
abbrev pub counted : ℕ → ℕ → ℕ → ℕ → ℕ → ℕ
counted s e b w kind = cond (eqb kind 1) s (cond (eqb kind 2) e (cond (eqb kind 3) b (cond (eqb kind 4) b (cond (eqb kind 5) w (cond (eqb kind 6) channel_limit (cond (eqb kind 7) channel_limit 0))))))

abbrev pub setting_of : ℕ → ℕ → Partition → Setting
setting_of frame t p = setting frame t (normal_mode p) (counted p.semaphore_count p.event_count p.buffer_count p.blackboard_count)

-- the preemption lock: a level of 0..16; above 0 the mode is NORMAL and the holder is READY, at 0 there is no holder
pub record SoundLock (level holder : ℕ) (inNormal is_ready : Bool) : Type 0 where
  pub few : level ≤ level_limit
  pub free : level ≡ 0 → holder ≡ 0
  pub normal : 0 < level → inNormal ≡ true
  pub held : 0 < level → is_ready ≡ true

abbrev pub LockIn : Partition → Type 0
LockIn p = SoundLock p.level p.holder (normal_mode p) (ready (process p.holder p))

pub record Valid (frame t : ℕ) (p : Partition) : Type 0 where
  pub mode : mode_number p.mode ≤ mode_limit
  pub lock : LockIn p
  pub lists : ListedIn p
  pub objects : ObjectsIn p
  pub each_process : (id : ℕ) → Between 1 p.process_count id → SoundProcess (setting_of frame t p) (process id p)

-- what a call sees of a partition that it may be made by: it is current, neither IDLE nor NORMAL with nothing running
pub record SoundContext (c : Context) (p : Partition) : Type 0 where
  pub time : c.time ≤ time_limit
  pub frame : Between 1 frame_limit c.frame
  pub left : Between 1 c.frame c.left
  pub ahead : c.time < c.release
  pub near : c.release ≤ c.time + c.frame
  pub caller : c.caller ≡ running p
  pub calls : no_caller p ≡ false

pub record SoundMessage (t : ℕ) (x : Option Message) : Type 0 where
  pub value : (unwrap_or x blank_message).value ≤ duration_limit
  pub written : (unwrap_or x blank_message).written ≤ t

-- ---------------------------------------------------------------- decisions
-- the next process, DORMANT
pub record SoundCreated (frame : ℕ) (p : Partition) (id : ℕ) (x : Process) : Type 0 where
  pub room : p.process_count < process_limit
  pub next : id ≡ p.process_count + 1
  pub given : SoundGiven frame x.given
  pub dormant : x ≡ created_process x.given

-- an object that is known, or the next one
abbrev pub KnownOrNext : ℕ → ℕ → ℕ → Type 0
KnownOrNext limit count k = Between 1 (count + 1) k × (k ≤ limit)

-- messages that may move so: one joins where there is room, the first leaves where there is one
abbrev pub SoundMove : ℕ → Queue → Transfer → Type 0
SoundMove limit q (Put m) = (q.len < limit) × (m ≤ duration_limit)
SoundMove limit q (HandedTo id m) = m ≤ duration_limit
SoundMove limit q Taken = 1 ≤ q.len
SoundMove limit q (LetIn id m) = (1 ≤ q.len) × (m ≤ duration_limit)

-- a process whose wait may end: it has been created, and waits on an object
abbrev pub SoundEnd : Partition → Transfer → Type 0
SoundEnd p (Put m) = Unit {0}
SoundEnd p (HandedTo id m) = Between 1 p.process_count id × (on_object (process id p) ≡ true)
SoundEnd p Taken = Unit {0}
SoundEnd p (LetIn id m) = Between 1 p.process_count id × (on_object (process id p) ≡ true)

-- where process id holds the preemption lock it is READY with the record x
abbrev pub HolderReady : Partition → ℕ → Process → Type 0
HolderReady p id x = 0 < p.level → id ≡ p.holder → ready x ≡ true

-- from a level above 0 to another the holder stays
abbrev pub SameHolder : Partition → ℕ → ℕ → Type 0
SameHolder p level holder = 0 < p.level → 0 < level → holder ≡ p.holder

-- a change that keeps a valid partition valid
abbrev pub SoundChange : Context → Partition → Change → Type 0
SoundChange c p Nothing = Unit {0}
SoundChange c p (Stored id x) = Between 1 p.process_count id × SoundProcess (setting_of c.frame c.time p) x × HolderReady p id x
SoundChange c p (Created id x) = SoundCreated c.frame p id x
SoundChange c p (Last id) = ready (process id p) ≡ true
SoundChange c p (StoredSemaphore k s) = KnownOrNext semaphore_limit p.semaphore_count k × SoundSemaphore s
SoundChange c p (StoredEvent k e) = KnownOrNext event_limit p.event_count k × SoundEvent e
SoundChange c p (CreatedBuffer k name limit) = KnownOrNext buffer_limit p.buffer_count k × SoundBuffer (empty_buffer name limit)
SoundChange c p (Moved k a) = Between 1 p.buffer_count k × SoundMove (buffer k p).limit (buffer k p).queue a × SoundEnd p a
SoundChange c p (StoredBlackboard k b) = KnownOrNext blackboard_limit p.blackboard_count k × SoundBlackboard b
SoundChange c p (Ended o) = Unit {0}
SoundChange c p (Handed o m) = m ≤ duration_limit
SoundChange c p (LevelSet level holder) = SoundLock level holder (normal_mode p) (ready (process holder p)) × SameHolder p level holder
SoundChange c p (Entered d) = (d ≡ c) × (normal_mode p ≡ false)

-- value and extra are in the line writer's range
abbrev pub SoundValue : ℕ → Time → Type 0
SoundValue value extra = (value ≤ number_limit) × NotAfter number_limit extra

-- a decision whose changes are sound, and whose numbers are in the line writer's range
abbrev pub SoundDecision : Context → Partition → Decision → Type 0
SoundDecision c p (Refused code) = Unit {0}
SoundDecision c p (Unchanged value extra) = SoundValue value extra
SoundDecision c p Ticked = Unit {0}
SoundDecision c p (Blocked id x) = SoundChange c p (Stored id x)
SoundDecision c p (Changed a b value) = SoundChange c p a × SoundChange c (applied a p) b × (value ≤ number_limit)
SoundDecision c p (Restarted mode) = mode_number mode ≤ mode_limit
SoundDecision c p (Written i x) = SoundMessage c.time (Some x)
SoundDecision c p (Passed i a value) = value ≤ number_limit

-- the running process id where preemption is not locked: READY, every member of the arrival list before it of smaller current priority, every
-- one after it of none greater
pub record Runs (p : Partition) (id : ℕ) : Type 0 where
  pub is_ready : ready (process id p) ≡ true
  pub before : List ℕ
  pub after : List ℕ
  pub split : members p.arrival ≡ before ++ (id ∷ after)
  pub smaller : (y : ℕ) → contains y before ≡ true → (process y p).current < (process id p).current
  pub not_greater : (y : ℕ) → contains y after ≡ true → (process y p).current ≤ (process id p).current

-- ---------------------------------------------------------------- a table
-- a window after the end of the previous one
pub record SoundWindow (previous frame size : ℕ) (w : Window) : Type 0 where
  pub order : previous ≤ w.start
  pub long : 1 ≤ w.duration
  pub inside : w.start + w.duration ≤ frame
  pub owner : Between 1 size w.partition

unfoldable pub SoundWindows : ℕ → ℕ → ℕ → List Window → Type 0
SoundWindows previous frame size [] = Unit {0}
SoundWindows previous frame size (w ∷ ws) = SoundWindow previous frame size w × SoundWindows (w.start + w.duration) frame size ws

pub record SoundChannel (size : ℕ) (c : Channel) : Type 0 where
  pub source : Between 1 size c.source
  pub destination : Between 1 size c.destination
  pub apart : c.source ≡ c.destination → ⊥
  pub refresh : Between 1 duration_limit c.refresh
  pub room : c.size ≤ size_limit

pub record SoundTable (T : Table) : Type 0 where
  pub frame : Between 1 frame_limit T.frame
  pub size : Between 1 partition_limit T.size
  pub windows_size : length T.windows ≡ window_limit
  pub window_count : Between 1 window_limit T.window_count
  pub channels_size : length T.channels ≡ channel_limit
  pub channel_count : T.channel_count ≤ channel_limit
  pub each_window : SoundWindows 0 T.frame T.size (windows T)
  pub flagged : (k : ℕ) → Between 1 T.size k → has_flagged k (windows T) ≡ true
  pub each_channel : (i : ℕ) → i < T.channel_count → SoundChannel T.size (channel T i)

-- ---------------------------------------------------------------- the module
pub record SoundModule (m : Module) : Type 0 where
  pub table : SoundTable m.table
  pub partitions_size : length m.partitions ≡ partition_limit
  pub messages_size : length m.messages ≡ channel_limit
  pub queues_size : length m.queues ≡ channel_limit
  pub time : m.t ≤ time_limit
  pub each_partition : (i : ℕ) → i < m.table.size → Valid m.table.frame m.t (part m i)
  pub each_message : (i : ℕ) → SoundMessage m.t (message m i)
  pub each_queue : (i : ℕ) → SoundQueue (channel m.table i).size (queue m i)

-- the record of a refused table, or one with a sound table
abbrev pub ValidModule : Module → Type 0
ValidModule m = (m ≡ empty_module) ⊎ SoundModule m

-- Module records come only from table reading and from events.
pub data Reached : Module → Type 0 where
  read : (input : List ℕ) → Reached (read_table input).state
  stepped : (m : Module) (e : EventT) → Reached m → Reached (step m e).state

-- ---------------------------------------------------------------- answers
-- the line writer's range
pub record ReplyInRange (r : Reply) : Type 0 where
  pub code : r.code ≤ 13
  pub value : r.value ≤ number_limit
  pub extra : NotAfter number_limit r.extra

pub record AnswerInRange (size : ℕ) (a : Answer) : Type 0 where
  pub code : a.code ≤ 13
  pub value : a.value ≤ number_limit
  pub extra : NotAfter number_limit a.extra
  pub t : a.t ≤ time_limit
  pub current : a.current ≤ size
  pub running : a.running ≤ process_limit
