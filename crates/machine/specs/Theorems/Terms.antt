-- The words that the claims share with the machine's definitions, each said literally once.
use Rattle.machine.specs.Mode.{mode_numbered}
use Rattle.std.specs.Prelude.{ℕ, ◌≤◌, ◌<◌, ◌≡◌, true, false, replicate}
use Rattle.machine.specs.declared.Process.{Process}
use Rattle.machine.specs.declared.Partition.{Partition}
use Rattle.machine.specs.declared.Semaphore.{Semaphore as SemaphoreT}
use Rattle.machine.specs.declared.EventState.{EventState}
use Rattle.machine.specs.declared.Buffer.{Buffer}
use Rattle.machine.specs.declared.Blackboard.{Blackboard as BlackboardT}
use Rattle.machine.specs.declared.Ids.{Ids}
use Rattle.machine.specs.declared.Queue.{Queue}
use Rattle.machine.specs.declared.Module.{Module}
use Rattle.machine.specs.declared.Wait.{Wait}
use Rattle.machine.specs.declared.Wait.TheVariants.{None as NoWait, Normal, Semaphore, Event, Sending, Receiving, Blackboard, Source, Destination}
use Rattle.std.specs.Prelude.{None}
use Rattle.machine.specs.Process.{object, carried, ready, waits_for_normal}
use Rattle.machine.specs.Partition.{process, waiters, nothing_created}
use Rattle.machine.specs.Module.{part}
use Rattle.machine.specs.Theorems.Valid.{contains, Reached}

-- ---------------------------------------------------------------- queues
-- in the queue of w are the processes that wait on its object, and no others
abbrev pub QueuedFor : Partition → ℕ → Wait → Wait → Type 0
QueuedFor p id object' w = (contains id (waiters (object object') p) ≡ true → (process id p).wait ≡ w) × ((process id p).wait ≡ w → contains id (waiters (object object') p) ≡ true)

-- of each kind, for the objects numbered up to 16; a waiting sender's message is kept with its wait
pub record WhoWaits (p : Partition) (id j : ℕ) : Type 0 where
  pub semaphore : QueuedFor p id (Semaphore j) (Semaphore j)
  pub event : QueuedFor p id (Event j) (Event j)
  pub sending : QueuedFor p id (Sending j 0) (Sending j (carried (process id p)))
  pub receiving : QueuedFor p id (Receiving j) (Receiving j)
  pub blackboard : QueuedFor p id (Blackboard j) (Blackboard j)
  pub source : QueuedFor p id (Source j 0) (Source j (carried (process id p)))
  pub destination : QueuedFor p id (Destination j) (Destination j)

-- a message that is kept with a wait
pub record Carries : Type 0 where
  pub sending : (x : Process) (j n : ℕ) → x.wait ≡ Sending j n → carried x ≡ n
  pub source : (x : Process) (j n : ℕ) → x.wait ≡ Source j n → carried x ≡ n
  -- and without an object there is none
  pub none : (x : Process) → object x.wait ≡ 0 → carried x ≡ 0

-- ---------------------------------------------------------------- nothing created
abbrev pub nobody : Process
nobody = record {
  given = record { name = 0; base = 0; period = None; capacity = None };
  times = record { release = None; deadline = None; wake = None; delay = 0 };
  current = 0;
  suspended = false;
  missed = false;
  code = 0;
  message = 0;
  started = false;
  wait = NoWait;
}

abbrev pub no_ids : Ids
no_ids = record { items = replicate 16 0; len = 0 }

-- a partition with nothing in it, and nothing locked
abbrev pub blank_partition : ℕ → Partition
blank_partition mode =
    let s : SemaphoreT = record { name = 0; value = 0; max = 0 } in
    let e : EventState = record { name = 0; up = false } in
    let q : Queue = record { items = replicate 16 0; len = 0 } in
    let b : Buffer = record { name = 0; limit = 0; queue = q } in
    let w : BlackboardT = record { name = 0; message = None } in
    record {
      mode = mode_numbered mode;
      level = 0;
      holder = 0;
      processes = replicate 16 nobody;
      process_count = 0;
      semaphores = replicate 8 s;
      semaphore_count = 0;
      events = replicate 8 e;
      event_count = 0;
      buffers = replicate 8 b;
      buffer_count = 0;
      blackboards = replicate 8 w;
      blackboard_count = 0;
      arrival = no_ids;
      waiting = no_ids;
    }

-- ---------------------------------------------------------------- the whole
pub record Terms : Type 0 where
  -- It is READY if started, waiting for nothing and not suspended.
  pub ready_is : (x : Process) → ready x ≡ true → (x.started ≡ true) × (x.suspended ≡ false) × (x.wait ≡ NoWait)
  pub ready_if : (x : Process) → x.started ≡ true → x.suspended ≡ false → x.wait ≡ NoWait → ready x ≡ true
  -- it waits for NORMAL
  pub normal : (w : Wait) → waits_for_normal w ≡ true → w ≡ Normal
  pub normal_if : waits_for_normal Normal ≡ true
  -- who is in which queue, in every reached record
  pub queues : (m : Module) → Reached m → (i : ℕ) → i < m.table.size → (id j : ℕ) → j ≤ 16 → WhoWaits (part m i) id j
  pub carries : Carries
  -- Modes 0, 1, 2: everything erased
  pub nothing : (mode : ℕ) → nothing_created mode ≡ blank_partition mode
