-- What several pages of claims say: an event by its numbers, what it gives, and the record after it.
use Rattle.machine.specs.Mode.{mode_number}
use Rattle.std.specs.Prelude.{ℕ, ◌+◌, ◌-◌, ◌≤◌, ◌≡◌, true, false, ◌||◌, [], ◌∷◌, ◌++◌, set, ℤ, pos}
use Rattle.machine.specs.declared.Given.{Given}
use Rattle.machine.specs.declared.Ids.{Ids}
use Rattle.machine.specs.declared.Process.{Process}
use Rattle.machine.specs.declared.Partition.{Partition}
use Rattle.machine.specs.declared.Event.{Event as EventT}
use Rattle.machine.specs.declared.Module.{Module}
use Rattle.machine.specs.declared.Wait.TheVariants.{None as NoWait}
use Rattle.machine.specs.Time.{Time}
use Rattle.std.specs.Prelude.{None, Some}
use Rattle.machine.specs.Limits.{duration_limit}
use Rattle.machine.specs.Ids.{members, ids_of, kept, other}
use Rattle.machine.specs.Partition.{semaphore, running, with_processes, with_semaphores, with_events, with_buffers, with_blackboards}
use Rattle.machine.specs.Messages.{queue_of}
use Rattle.machine.specs.Module.{part, current, with_part}
use Rattle.machine.specs.Step.{step}
use Rattle.machine.specs.Theorems.Valid.{Reached}
use Rattle.machine.specs.Theorems.Plain.{plain_between, plain_minus_one}

-- ---------------------------------------------------------------- events, and what they give
-- partition k's record
abbrev pub own : Module → ℕ → Partition
own m k = part m (k - 1)

-- call n of partition k with its four fields
abbrev pub call_by : ℕ → ℕ → ℤ → ℤ → ℤ → ℤ → EventT
call_by k n a b c e = record { partition = pos k; call = pos n; a = a; b = b; c = c; e = e }

-- Partition 0, call 0 is a tick.
abbrev pub tick : EventT
tick = call_by 0 0 (pos 0) (pos 0) (pos 0) (pos 0)

-- the answer begins with these three numbers, and this is the record after the event
pub record Gives (m : Module) (e : EventT) (code value : ℕ) (extra : Time) (q : Module) : Type 0 where
  pub code_is : (step m e).answer.code ≡ code
  pub value_is : (step m e).answer.value ≡ value
  pub extra_is : (step m e).answer.extra ≡ extra
  pub state : (step m e).state ≡ q

-- refused with this code; the whole record stays
abbrev pub Refuses : Module → EventT → ℕ → Type 0
Refuses m e code = Gives m e code 0 (Some 0) m

-- a time-out: −1, or 0..9,999,999
abbrev pub TimeOut : ℤ → Type 0
TimeOut a = (plain_minus_one a || plain_between 0 duration_limit a) ≡ true

-- partition k has the record p from now on, and nothing else changes
abbrev pub Puts : Module → EventT → ℕ → ℕ → ℕ → Partition → Type 0
Puts m e code value k p = Gives m e code value (Some 0) (with_part (k - 1) p m)

-- a call of partition k comes to its body: the record is reached, the partition is current and not IDLE, and in NORMAL a process runs
pub record Calling (m : Module) (k : ℕ) : Type 0 where
  pub reached : Reached m
  pub some : 1 ≤ k
  pub now : current m ≡ k
  pub active : mode_number (own m k).mode ≡ 0 → ⊥
  pub runs : mode_number (own m k).mode ≡ 3 → running (own m k) ≡ 0 → ⊥

-- ---------------------------------------------------------------- the record after
-- process id, which waits on nothing before and after, has the record x; the arrival list is this one
abbrev pub with_process : ℕ → Process → Ids → Partition → Partition
with_process id x arrival p = with_processes (set p.processes (id - 1) x) p.process_count arrival p.waiting p

-- the arrival list without an id, and with it at its end
abbrev pub without : ℕ → Ids → Ids
without id q = ids_of (kept (other id) (members q))

abbrev pub at_end : ℕ → Ids → Ids
at_end id q = ids_of (kept (other id) (members q) ++ (id ∷ []))

-- one more process. Created, it is DORMANT: four fields as given, no wait, r, d, w −1, the rest (current priority too) 0.
abbrev pub new_process : Given → Process
new_process g = record { given = g; times = record { release = None; deadline = None; wake = None; delay = 0 }; current = 0; suspended = false; missed = false; code = 0; message = 0; started = false; wait = NoWait }

abbrev pub with_new : Given → Partition → Partition
with_new g p = with_processes (set p.processes p.process_count (new_process g)) (p.process_count + 1) p.arrival p.waiting p

-- one more semaphore, one more event (DOWN)
abbrev pub with_new_semaphore : ℕ → ℕ → ℕ → Partition → Partition
with_new_semaphore name start max p = with_semaphores (set p.semaphores p.semaphore_count (record { name = name; value = start; max = max })) (p.semaphore_count + 1) p

abbrev pub with_new_event : ℕ → Partition → Partition
with_new_event name p = with_events (set p.events p.event_count (record { name = name; up = false })) (p.event_count + 1) p

-- one more buffer, one more blackboard, with nothing in them
abbrev pub with_new_buffer : ℕ → ℕ → Partition → Partition
with_new_buffer name limit p = with_buffers (set p.buffers p.buffer_count (record { name = name; limit = limit; queue = queue_of [] })) (p.buffer_count + 1) p

abbrev pub with_new_blackboard : ℕ → Partition → Partition
with_new_blackboard name p = with_blackboards (set p.blackboards p.blackboard_count (record { name = name; message = None })) (p.blackboard_count + 1) p

-- semaphore j has this value
abbrev pub with_semaphore_at : ℕ → ℕ → Partition → Partition
with_semaphore_at j n p = with_semaphores (set p.semaphores (j - 1) (record { name = (semaphore j p).name; value = n; max = (semaphore j p).max })) p.semaphore_count p
