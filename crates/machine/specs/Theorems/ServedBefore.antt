-- How often others of its queue are served before a process that waits: n stand before it at the beginning of a list of events, so no more than n services
-- of its queue are in the list while it waits; with one more it would not wait any longer. Over every list of events, for each kind of queue.
use Rattle.std.specs.Prelude.{ℕ, ◌+◌, ◌≤◌, ◌<◌, ◌≡◌, Bool, true, ◌||◌, List, [], ◌∷◌, length}
use Rattle.machine.specs.declared.Event.{Event as EventT}
use Rattle.machine.specs.declared.EventRecord.{EventRecord}
use Rattle.machine.specs.declared.Table.{Table}
use Rattle.machine.specs.declared.Module.{Module}
use Rattle.machine.specs.declared.Wait.TheVariants.{Semaphore, Event, Sending, Receiving, Blackboard, Source, Destination}
use Rattle.machine.specs.Process.{object}
use Rattle.machine.specs.Partition.{waits_on, waiters}
use Rattle.machine.specs.Module.{channel}
use Rattle.machine.specs.Step.{step}
use Rattle.machine.specs.Runs.{keep, after, answers}
use Rattle.machine.specs.Theorems.Valid.{Between, Reached}
use Rattle.machine.specs.Theorems.Events.{own}
use Rattle.machine.specs.Theorems.Account.{place_in, restarts_by}
use Rattle.machine.specs.Theorems.Latest.{done}

-- ---------------------------------------------------------------- queues and their services
-- the partition whose processes wait, the object, and which events, by their numbers and their code, serve the first of those who wait
pub record ServedQueue : Type 0 where
  pub at : ℕ
  pub on : ℕ
  pub serves : EventRecord → Bool

-- semaphore j: SIGNAL; event j: SET_EVENT; blackboard j: SHOW (the last two serve all)
abbrev pub of_semaphore : ℕ → ℕ → ServedQueue
of_semaphore k j = record { at = k; on = object (Semaphore j); serves = done k 16 j }

abbrev pub of_event : ℕ → ℕ → ServedQueue
of_event k j = record { at = k; on = object (Event j); serves = done k 18 j }

abbrev pub of_board : ℕ → ℕ → ServedQueue
of_board k j = record { at = k; on = object (Blackboard j); serves = done k 27 j }

-- buffer j: receivers by SEND_BUFFER, senders by RECEIVE_BUFFER
abbrev pub of_receivers : ℕ → ℕ → ServedQueue
of_receivers k j = record { at = k; on = object (Receiving j); serves = done k 24 j }

abbrev pub of_senders : ℕ → ℕ → ServedQueue
of_senders k j = record { at = k; on = object (Sending j 0); serves = done k 25 j }

-- channel number i + 1: at its destination by SEND of its source, at its source by RECEIVE of its destination and by its restart, which lets them in
abbrev pub at_destination : Table → ℕ → ServedQueue
at_destination T i = let c = channel T i in record { at = c.destination; on = object (Destination (i + 1)); serves = done c.source 30 (i + 1) }

abbrev pub at_source : Table → ℕ → ServedQueue
at_source T i = let c = channel T i in record { at = c.source; on = object (Source (i + 1) 0); serves = λ r. done c.destination 31 (i + 1) r || restarts_by c.destination r.event r.answer.code }

-- ---------------------------------------------------------------- while a process waits
-- process id of partition k waits on the object in the record, and after each event of the list
unfoldable pub WaitsThroughout : ℕ → ℕ → ℕ → Module → List EventT → Type 0
WaitsThroughout k o id m [] = waits_on o (own m k) id ≡ true
WaitsThroughout k o id m (e ∷ es) = (waits_on o (own m k) id ≡ true) × WaitsThroughout k o id (step m e).state es

-- how many stand before it in the queue
abbrev pub before : ServedQueue → ℕ → Module → ℕ
before q id m = place_in (waiters q.on (own m q.at)) id

-- the services in a list of events and those who stand before it at the end are together no more than those who stood before it at the beginning
abbrev pub Counts : ServedQueue → Module → Type 0
Counts q m = (id : ℕ) (es : List EventT) → WaitsThroughout q.at q.on id m es → length (keep q.serves (answers m es)) + before q id (after m es) ≤ before q id m

pub record ServedBefore : Type 0 where
  -- no event puts another before a process that goes on waiting, whatever the object
  pub order : (m : Module) → Reached m → (k : ℕ) → Between 1 m.table.size k → (o id : ℕ) → (o ≡ 0 → ⊥) → (es : List EventT) → WaitsThroughout k o id m es
      → place_in (waiters o (own (after m es) k)) id ≤ place_in (waiters o (own m k)) id
  pub semaphore : (m : Module) → Reached m → (k : ℕ) → Between 1 m.table.size k → (j : ℕ) → Counts (of_semaphore k j) m
  pub event : (m : Module) → Reached m → (k : ℕ) → Between 1 m.table.size k → (j : ℕ) → Counts (of_event k j) m
  pub board : (m : Module) → Reached m → (k : ℕ) → Between 1 m.table.size k → (j : ℕ) → Counts (of_board k j) m
  pub receivers : (m : Module) → Reached m → (k : ℕ) → Between 1 m.table.size k → (j : ℕ) → Counts (of_receivers k j) m
  pub senders : (m : Module) → Reached m → (k : ℕ) → Between 1 m.table.size k → (j : ℕ) → Counts (of_senders k j) m
  pub destination : (m : Module) → Reached m → (i : ℕ) → i < m.table.channel_count → Counts (at_destination m.table i) m
  pub source : (m : Module) → Reached m → (i : ℕ) → i < m.table.channel_count → ((channel m.table i).size ≡ 0 → ⊥) → Counts (at_source m.table i) m
