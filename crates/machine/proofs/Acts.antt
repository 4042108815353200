-- What the calls do to processes and to the arrival list, each by its number: for every record and every request. Assumes nothing.
use Rattle.machine.specs.Mode.{mode_number}
use Prim.Native.Nat.{ℕ, ◌≤◌}
use mathlib.Core.Path.{◌≡◌, refl}
use mathlib.Core.Bool.{Bool, true, false, cond, not, ◌&&◌, ◌||◌}
use mathlib.Core.List.{List, [], ◌∷◌}
use mathlib.Core.Logic.{◌⊎◌}
use native.Mathlib.Omega.{arith}
use lib.Dec.{eqb, leb}
use borrow.Author.Tests.{eq-eqb, eqb-false, not-false}
use Rattle.machine.specs.declared.Process.{Process}
use Rattle.machine.specs.declared.Partition.{Partition}
use Rattle.machine.specs.declared.Context.{Context}
use Rattle.machine.specs.declared.Request.{Request}
use Rattle.machine.specs.declared.Field.{Field}
use Rattle.machine.specs.declared.Field.TheVariants.{Number, MinusOne, Other}
use Rattle.machine.specs.Time.{Time}
use Rattle.machine.specs.declared.Transfer.{Transfer}
use Rattle.machine.specs.declared.Wait.TheVariants.{Semaphore, Event, Sending, Receiving, Blackboard}
use Rattle.machine.specs.declared.Change.{Change}
use Rattle.machine.specs.declared.Change.TheVariants.{Nothing, Stored, Created, Last, StoredSemaphore, StoredEvent, CreatedBuffer, Moved, StoredBlackboard, Ended, Handed, LevelSet, Entered}
use Rattle.machine.specs.declared.Decision.{Decision}
use Rattle.machine.specs.declared.Decision.TheVariants.{Refused, Unchanged, Ticked, Blocked, Changed, Restarted, Written, Passed as PassedOn}
use Rattle.machine.specs.Limits.{mode_limit}
use Rattle.machine.specs.Fields.{is_number, between, number_of}
use Rattle.machine.specs.Messages.{sent, received}
use Rattle.machine.specs.Process.{object, periodic, ready, waits_for_nothing, with_suspended, with_current, waiting_for, suspended_until, start_rule, started_early, stopped, resumed, next_release, served}
use Rattle.machine.specs.Partition.{normal_mode, process, waiters, first_waiter}
use Rattle.machine.specs.Objects.{signalled}
use Rattle.machine.specs.Theorems.Valid.{Between, contains}
use Rattle.machine.specs.Theorems.EachProcess.{wait_of}
use Rattle.machine.proofs.Tests.{or_left, not_both}
use Rattle.machine.proofs.Fields.{in_limits}

-- process id of p stored with the record y: by which call, and what y is
pub data StoredBy (c : Context) (r : Request) (p : Partition) (j id : ℕ) (y : Process) : Type 0 where
  starts : (j ≡ 3) ⊎ (j ≡ 4) → id ≡ number_of r.a → (process id p).started ≡ false → (delay : ℕ) → y ≡ cond (normal_mode p) (start_rule c delay (process id p)) (started_early delay (process id p)) → StoredBy c r p j id y
  stops : j ≡ 5 → id ≡ number_of r.a → (process id p).started ≡ true → y ≡ stopped (process id p) → StoredBy c r p j id y
  stops_self : j ≡ 6 → id ≡ c.caller → normal_mode p ≡ true → y ≡ stopped (process id p) → StoredBy c r p j id y
  marks : j ≡ 7 → id ≡ number_of r.a → (process id p).started ≡ true → (process id p).suspended ≡ false → y ≡ with_suspended true (process id p) → StoredBy c r p j id y
  resumes : j ≡ 11 → id ≡ number_of r.a → (process id p).started ≡ true → (process id p).suspended ≡ true → y ≡ resumed (process id p) → StoredBy c r p j id y
  prioritises : j ≡ 12 → id ≡ number_of r.a → (process id p).started ≡ true → 1 ≤ number_of r.b → y ≡ with_current (number_of r.b) (process id p) → StoredBy c r p j id y
  serves : j ≡ 16 → Between 1 p.semaphore_count (number_of r.a) → contains id (waiters (object (Semaphore (number_of r.a))) p) ≡ true → y ≡ served (process id p) → StoredBy c r p j id y

-- the caller, of record x, stored with the record y, code 7: by which call, and what y is
pub data BlockedBy (r : Request) (j : ℕ) (x y : Process) : Type 0 where
  suspends : j ≡ 8 → (until : Time) → y ≡ suspended_until until x → BlockedBy r j x y
  releases : j ≡ 10 → periodic x ≡ true → y ≡ next_release x → BlockedBy r j x y
  waits : (eqb j 8 || eqb j 10) ≡ false → (eqb j 9 ≡ true) ⊎ (number_of r.a ≡ 0 → ⊥) → (until : Time) → waits_for_nothing (wait_of j (number_of r.a) (number_of r.b)) ≡ false → y ≡ waiting_for (wait_of j (number_of r.a) (number_of r.b)) until x → BlockedBy r j x y

-- the transfer of a buffer, by the call that makes it
pub data TransferBy (r : Request) (p : Partition) (j k : ℕ) (a : Transfer) : Type 0 where
  sends : j ≡ 24 → k ≡ number_of r.a → Between 1 p.buffer_count k → (m : ℕ) → a ≡ sent (first_waiter (object (Receiving k)) p) m → TransferBy r p j k a
  receives : j ≡ 25 → k ≡ number_of r.a → Between 1 p.buffer_count k → (m : ℕ) → a ≡ received (first_waiter (object (Sending k 0)) p) m → TransferBy r p j k a

-- a change of p by call j
abbrev pub Makes : Context → Request → Partition → ℕ → Change → Type 0
Makes c r p j Nothing = Unit {0}
Makes c r p j (Stored id y) = StoredBy c r p j id y
Makes c r p j (Created id y) = j ≡ 2
Makes c r p j (Last id) = Unit {0}
Makes c r p j (StoredSemaphore k s) = Unit {0}
Makes c r p j (StoredEvent k e) = Unit {0}
Makes c r p j (CreatedBuffer k name limit) = Unit {0}
Makes c r p j (Moved k a) = TransferBy r p j k a
Makes c r p j (StoredBlackboard k b) = Unit {0}
Makes c r p j (Ended o) = (j ≡ 18) × (o ≡ object (Event (number_of r.a))) × Between 1 p.event_count (number_of r.a)
Makes c r p j (Handed o m) = (j ≡ 27) × (o ≡ object (Blackboard (number_of r.a))) × Between 1 p.blackboard_count (number_of r.a)
Makes c r p j (LevelSet level holder) = Unit {0}
Makes c r p j (Entered d) = (j ≡ 1) × (is_number 3 r.a ≡ true)

-- who goes to the end of the arrival list by a change; 0 for none
abbrev pub last_of : Change → ℕ
last_of Nothing = 0
last_of (Stored id y) = 0
last_of (Created id y) = 0
last_of (Last id) = id
last_of (StoredSemaphore k s) = 0
last_of (StoredEvent k e) = 0
last_of (CreatedBuffer k name limit) = 0
last_of (Moved k a) = 0
last_of (StoredBlackboard k b) = 0
last_of (Ended o) = 0
last_of (Handed o m) = 0
last_of (LevelSet level holder) = 0
last_of (Entered d) = 0

-- a change that reaches the record of a process
abbrev pub touches : Change → Bool
touches Nothing = false
touches (Stored id y) = true
touches (Created id y) = true
touches (Last id) = false
touches (StoredSemaphore k s) = false
touches (StoredEvent k e) = false
touches (CreatedBuffer k name limit) = false
touches (Moved k a) = true
touches (StoredBlackboard k b) = false
touches (Ended o) = true
touches (Handed o m) = true
touches (LevelSet level holder) = false
touches (Entered d) = true

-- TIMED_WAIT that is not refused and does not wait puts its caller last, SET_PRIORITY a READY process, and no other call puts one last
abbrev pub PutLast : Context → Request → Partition → ℕ → Change → Change → Type 0
PutLast c r p j a b =
    let id = number_of r.a in
    cond (eqb j 9) ((a ≡ Last c.caller) × (b ≡ Nothing))
    (cond (eqb j 12) ((a ≡ Stored id (with_current (number_of r.b) (process id p))) × (b ≡ cond (ready (process id p)) (Last id) Nothing))
    ((last_of a ≡ 0) × (last_of b ≡ 0)))

-- calls 1, 3 to 7, 11 and 12, which act on a process that they name, or on all of a partition
abbrev pub acts_on_named : ℕ → Bool
acts_on_named j = eqb j 1 || ((leb 3 j && leb j 7) || (eqb j 11 || eqb j 12))

-- what call j decides of processes, which one of its changes reaches at most
abbrev pub Acts : Context → Request → Partition → ℕ → Decision → Type 0
Acts c r p j (Refused n) = Unit {0}
Acts c r p j (Unchanged v e) = (eqb j 9 || acts_on_named j) ≡ false
Acts c r p j Ticked = ⊥
Acts c r p j (Blocked id y) = (id ≡ c.caller) × (normal_mode p ≡ true) × BlockedBy r j (process id p) y
Acts c r p j (Changed a b v) =
    Makes c r p j a × Makes c r p j b × ((touches b && touches a) ≡ false) × ((acts_on_named j && not (touches a || touches b)) ≡ false)
    × PutLast c r p j a b
Acts c r p j (Restarted mode) = (j ≡ 1) × (r.a ≡ Number (mode_number mode)) × (mode_number mode ≤ 2)
Acts c r p j (Written i x) = j ≡ 21
Acts c r p j (PassedOn i a v) = (j ≡ 30) ⊎ (j ≡ 31)

pub record Act (c : Context) (r : Request) (p : Partition) (j : ℕ) (d : Decision) : Type 0 where
  pub is : Acts c r p j d

pub last_off : (b : Bool) (id : ℕ) → touches (cond b (Last id) Nothing) ≡ false
last_off true id = refl
last_off false id = refl

-- a mode other than 3
pub mode_low : (f : Field) → between 0 mode_limit f ≡ true → is_number 3 f ≡ false → (f ≡ Number (number_of f)) × (number_of f ≤ 2)
mode_low (Number n) h e = let b = in_limits 0 mode_limit (Number n) h in let ne = eqb-false n 3 e in (refl, omega arith)
mode_low MinusOne h e = not_both _ h refl
mode_low Other h e = not_both _ h refl

pub live : (y : Process) → (not y.started || periodic y) ≡ false → y.started ≡ true
live y h = not-false y.started (or_left (not y.started) (periodic y) h)

module _ (c : Context) (r : Request) (p : Partition) where
  pub signals : Between 1 p.semaphore_count (number_of r.a) → (l : List ℕ) → waiters (object (Semaphore (number_of r.a))) p ≡ l → let a = signalled l (number_of r.a) p in Makes c r p 16 a × (last_of a ≡ 0)
  unfolding signalled contains
  signals b [] e = (tt, refl)
  signals b (id ∷ l) e = (serves refl b (rw (e, eq-eqb id id refl)) refl, refl)
