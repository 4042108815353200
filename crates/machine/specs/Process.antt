-- A process by itself.
use Rattle.std.specs.Prelude.{ℕ, ◌+◌, ◌*◌, Bool, true, false, cond, not, ◌&&◌, leb, eqb}
use Rattle.machine.specs.declared.Given.{Given}
use Rattle.machine.specs.declared.Times.{Times}
use Rattle.machine.specs.declared.Process.{Process}
use Rattle.machine.specs.declared.Context.{Context}
use Rattle.machine.specs.declared.Wait.{Wait}
use Rattle.machine.specs.declared.Wait.TheVariants.{None as NoWait, Normal, Delay, Timed, Period, Semaphore, Event, Sending, Receiving, Blackboard, Source, Destination}
use Rattle.machine.specs.Time.{Time}
use Rattle.std.specs.Prelude.{None, Some}
use Rattle.machine.specs.Limits.{greatest_time}

-- Created, it is DORMANT: four fields as given, no wait, r, d, w −1, the rest (current priority too) 0.
abbrev pub created_process : Given → Process
created_process g = record {
  given = g;
  times = record { release = None; deadline = None; wake = None; delay = 0 };
  current = 0;
  suspended = false;
  missed = false;
  code = 0;
  message = 0;
  started = false;
  wait = NoWait;
}

-- what stands where no process has been created
abbrev pub blank_process : Process
blank_process = created_process (record { name = 0; base = 0; period = None; capacity = None })

-- bound: a time past the greatest one is the greatest
abbrev pub capped : ℕ → ℕ
capped n = cond (leb n greatest_time) n greatest_time

-- a time after another: −1 where one of them is −1
abbrev pub later : Time → Time → Time
later None b = None
later (Some m) None = None
later (Some m) (Some n) = Some (capped (m + n))

-- it is not −1 and ≤ t
abbrev pub due : ℕ → Time → Bool
due t None = false
due t (Some w) = leb w t

abbrev pub is_never : Time → Bool
is_never None = true
is_never (Some n) = false

-- period is not −1
abbrev pub periodic : Process → Bool
periodic x = not (is_never x.given.period)

-- what a wait is for: nothing, NORMAL, a time, the release, or queue k of a kind, with the message that is kept with the wait (0 for none)
pub data Class : Type 0 where
  nothing : Class
  normal : Class
  timer : Class
  release : Class
  onto : ℕ → ℕ → ℕ → Class

-- A later family of objects adds a line here for each of its queues; no other rule goes through the reasons.
abbrev pub class_of : Wait → Class
class_of NoWait = Class.nothing
class_of Normal = Class.normal
class_of Delay = Class.timer
class_of Timed = Class.timer
class_of Period = Class.release
class_of (Semaphore k) = Class.onto 1 k 0
class_of (Event k) = Class.onto 2 k 0
class_of (Sending k m) = Class.onto 3 k m
class_of (Receiving k) = Class.onto 4 k 0
class_of (Blackboard k) = Class.onto 5 k 0
class_of (Source k m) = Class.onto 6 k m
class_of (Destination k) = Class.onto 7 k 0

-- the object that a wait names, as a number; 0 for none
abbrev pub object_in : Class → ℕ
object_in Class.nothing = 0
object_in Class.normal = 0
object_in Class.timer = 0
object_in Class.release = 0
object_in (Class.onto kind k m) = 256 * kind + k

abbrev pub object : Wait → ℕ
object w = object_in (class_of w)

-- A waiting sender's message is kept with its wait.
abbrev pub carried_in : Class → ℕ
carried_in Class.nothing = 0
carried_in Class.normal = 0
carried_in Class.timer = 0
carried_in Class.release = 0
carried_in (Class.onto kind k m) = m

abbrev pub carried : Process → ℕ
carried x = carried_in (class_of x.wait)

abbrev pub on_object : Process → Bool
on_object x = not (eqb (object x.wait) 0)

abbrev pub for_nothing : Class → Bool
for_nothing Class.nothing = true
for_nothing Class.normal = false
for_nothing Class.timer = false
for_nothing Class.release = false
for_nothing (Class.onto kind k m) = false

abbrev pub waits_for_nothing : Wait → Bool
waits_for_nothing w = for_nothing (class_of w)

abbrev pub for_normal : Class → Bool
for_normal Class.nothing = false
for_normal Class.normal = true
for_normal Class.timer = false
for_normal Class.release = false
for_normal (Class.onto kind k m) = false

abbrev pub waits_for_normal : Wait → Bool
waits_for_normal w = for_normal (class_of w)

-- It is READY if started, waiting for nothing and not suspended.
abbrev pub ready : Process → Bool
ready x = x.started && (not x.suspended && waits_for_nothing x.wait)

abbrev pub with_wake : Time → Times → Times
with_wake w s = record { release = s.release; deadline = s.deadline; wake = w; delay = s.delay }

abbrev pub with_deadline : Time → Times → Times
with_deadline d s = record { release = s.release; deadline = d; wake = s.wake; delay = s.delay }

abbrev pub with_delay : ℕ → Times → Times
with_delay n s = record { release = s.release; deadline = s.deadline; wake = s.wake; delay = n }

-- released at r: w = r, d = r + capacity, or −1
abbrev pub released_at : Time → Time → Times → Times
released_at r capacity s = record { release = r; deadline = later r capacity; wake = r; delay = s.delay }

-- the wait ends (w −1) with this wake code, and this message is in the process record then; a suspended mark stays
abbrev pub ended_with : ℕ → ℕ → Process → Process
ended_with code m x = record { given = x.given; times = with_wake None x.times; current = x.current; suspended = x.suspended; missed = x.missed; code = code; message = m; started = x.started; wait = NoWait }

-- the same, and the message stays
abbrev pub wait_ended : ℕ → Process → Process
wait_ended code x = ended_with code x.message x

abbrev pub with_suspended : Bool → Process → Process
with_suspended b x = record { given = x.given; times = x.times; current = x.current; suspended = b; missed = x.missed; code = x.code; message = x.message; started = x.started; wait = x.wait }

abbrev pub with_current : ℕ → Process → Process
with_current n x = record { given = x.given; times = x.times; current = n; suspended = x.suspended; missed = x.missed; code = x.code; message = x.message; started = x.started; wait = x.wait }

-- the wait ends because what it waits for came (w −1, wake code 0): SIGNAL, SET_EVENT, a sender whose message is let in
abbrev pub served : Process → Process
served x = wait_ended 0 x

-- the same where a message is handed over: it goes straight into its process record, beside the wake code, and stays till the next
abbrev pub handed : ℕ → Process → Process
handed m x = ended_with 0 m x

-- it waits, until this time
abbrev pub waiting_for : Wait → Time → Process → Process
waiting_for w until x = record { given = x.given; times = with_wake until x.times; current = x.current; suspended = x.suspended; missed = x.missed; code = x.code; message = x.message; started = x.started; wait = w }

-- SUSPEND_SELF: mark set, w; the wait stays none
abbrev pub suspended_until : Time → Process → Process
suspended_until until x = record { given = x.given; times = with_wake until x.times; current = x.current; suspended = true; missed = x.missed; code = x.code; message = x.message; started = x.started; wait = x.wait }

-- it had no wait but the mark
abbrev pub only_marked : Process → Bool
only_marked x = waits_for_nothing x.wait && x.suspended

-- if w is not −1 and w ≤ t, the wait ends (w −1); semaphore and event waiters (and those of document 02's objects, which wait by the
-- semaphore's rules) leave their queue with wake code 6, others get 0, and a
-- suspended mark stays; a process that had no wait but the mark loses the mark instead, wake code 6, w −1. (A process with
-- neither, which no run reaches, has w −1 and wake code 0.)
unfoldable pub woken : ℕ → Process → Process
woken t x =
    cond (due t x.times.wake)
    (cond (only_marked x)
    (with_suspended false (wait_ended 6 x))
    (wait_ended (cond (on_object x) 6 0) x))
    x

-- missed mark 1, d −1
abbrev pub deadline_missed : Process → Process
deadline_missed x = record { given = x.given; times = with_deadline None x.times; current = x.current; suspended = x.suspended; missed = true; code = x.code; message = x.message; started = x.started; wait = x.wait }

-- Then if d is not −1 and d ≤ t: missed mark 1, d −1.
unfoldable pub expired : ℕ → Process → Process
expired t x = cond (due t x.times.deadline) (deadline_missed x) x

-- a tick at one process: the wake time first, then the deadline
abbrev pub ticked : ℕ → Process → Process
ticked t x = expired t (woken t x)

-- Current priority = base; marks, wake code cleared. It is started, with these times and this wait.
abbrev pub begun : Times → Wait → Process → Process
begun s w x = record { given = x.given; times = s; current = x.given.base; suspended = false; missed = false; code = 0; message = x.message; started = true; wait = w }

-- Start rule(delay), document 01's term. Aperiodic (period −1): d = t + delay + capacity, or −1; delay 0 means READY, else waits
-- delay with w = t + delay.
abbrev pub started_aperiodic : Context → ℕ → Process → Process
started_aperiodic c delay x =
    let at = later (Some c.time) (Some delay) in
    let d = later at x.given.capacity in
    cond (eqb delay 0)
    (begun (with_wake None (with_deadline d x.times)) NoWait x)
    (begun (with_wake at (with_deadline d x.times)) Delay x)

-- Periodic: r = the partition's next release point, plus delay; waits period, w = r, d = r + capacity, or −1.
abbrev pub started_periodic : Context → ℕ → Process → Process
started_periodic c delay x = begun (released_at (later (Some c.release) (Some delay)) x.given.capacity x.times) Period x

unfoldable pub start_rule : Context → ℕ → Process → Process
start_rule c delay x = cond (periodic x) (started_periodic c delay x) (started_aperiodic c delay x)

-- started in a start mode: priority, marks, wake code as there; waits for NORMAL; only here the delay field is set
abbrev pub started_early : ℕ → Process → Process
started_early delay x = begun (with_delay delay x.times) Normal x

-- entering NORMAL: every process waiting for NORMAL takes the start rule with its delay, keeping its suspended mark and current
-- priority
unfoldable pub entered : Context → Process → Process
entered c x =
    cond (waits_for_normal x.wait)
    (with_suspended x.suspended (with_current x.current (start_rule c x.times.delay x)))
    x

-- STOP: DORMANT; wait, w, d, r, suspended mark cleared (w, d, r to −1)
abbrev pub stopped : Process → Process
stopped x = record {
  given = x.given;
  times = record { release = None; deadline = None; wake = None; delay = x.times.delay };
  current = x.current;
  suspended = false;
  missed = x.missed;
  code = x.code;
  message = x.message;
  started = false;
  wait = NoWait;
}

-- RESUME: clears the mark; if no wait, w = −1, wake code 0
abbrev pub resumed : Process → Process
resumed x = cond (waits_for_nothing x.wait) (with_suspended false (wait_ended 0 x)) (with_suspended false x)

-- it waits for the release r: w = r, d = r + capacity or −1
abbrev pub waiting_for_release : Time → Process → Process
waiting_for_release r x = record {
  given = x.given;
  times = released_at r x.given.capacity x.times;
  current = x.current;
  suspended = x.suspended;
  missed = x.missed;
  code = x.code;
  message = x.message;
  started = x.started;
  wait = Period;
}

-- PERIODIC_WAIT: r rises by period
abbrev pub next_release : Process → Process
next_release x = waiting_for_release (later x.times.release x.given.period) x
