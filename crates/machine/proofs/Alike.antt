-- Records that are equal, partitions that differ in no process, and what the start rule makes of a process. Assumes nothing.
use Prim.Native.Nat.{ℕ, ◌≤◌, ◌<◌}
use mathlib.Core.Path.{◌≡◌, refl, ap, ◌∙◌}
use mathlib.Core.Bool.{Bool, true, false, not}
use mathlib.Core.Logic.{◌⊎◌, inl, inr, ⊎_elim}
use native.Mathlib.Omega.{arith}
use lib.Dec.{eqb, ltb}
use borrow.Author.Tests.{ltb-true, ltb-false}
use Rattle.machine.specs.declared.Buffer.{Buffer}
use Rattle.machine.specs.declared.Process.{Process}
use Rattle.machine.specs.declared.Partition.{Partition}
use Rattle.machine.specs.declared.Context.{Context}
use Rattle.machine.specs.declared.Change.{Change}
use Rattle.machine.specs.declared.Change.TheVariants.{Nothing, Stored, Created, Last, StoredSemaphore, StoredEvent, CreatedBuffer, Moved, StoredBlackboard, Ended, Handed, LevelSet, Entered}
use Rattle.machine.specs.declared.Wait.TheVariants.{Normal}
use Rattle.machine.specs.Time.{Time}
use Rattle.std.specs.Prelude.{None, Some}
use Rattle.machine.specs.Limits.{process_limit, semaphore_limit, event_limit, buffer_limit, blackboard_limit}
use Rattle.machine.specs.Process.{blank_process, is_never, object, periodic, start_rule, waits_for_normal, entered, with_suspended, with_current}
use Rattle.machine.specs.Partition.{within, by_id, process, arrived_last, stored_semaphore, stored_event, stored_buffer, stored_blackboard, empty_buffer, waiters, applied}
use Rattle.machine.specs.Theorems.Valid.{contains, ListedIn}
use Rattle.machine.specs.Theorems.Plain.{ids_from}
use Rattle.machine.specs.Theorems.EachCall.{periodic_at}
use Rattle.machine.specs.Theorems.EachProcess.{begun_with, StartWait}
use Rattle.machine.proofs.Tests.{by_test, not_both}
use Rattle.machine.proofs.Bounds.{named_out, within_out}
use Rattle.machine.proofs.Either.{either}
use Rattle.machine.proofs.Keeping.{from_has}
use Rattle.machine.proofs.Reasons.{for_normal_holds}
use Rattle.machine.proofs.Acts.{touches}
use Rattle.machine.proofs.Orders.{same_queue}

-- ---------------------------------------------------------------- equal records
module _ {x y : Process} (e : x ≡ y) where
  pub same_started : x.started ≡ y.started
  same_started = ap (λ (z : Process). z.started) e

  pub same_wait : x.wait ≡ y.wait
  same_wait = ap (λ (z : Process). z.wait) e

  pub same_mark : x.suspended ≡ y.suspended
  same_mark = ap (λ (z : Process). z.suspended) e

  pub same_missed : x.missed ≡ y.missed
  same_missed = ap (λ (z : Process). z.missed) e

  pub same_given : x.given ≡ y.given
  same_given = ap (λ (z : Process). z.given) e

  pub same_current : x.current ≡ y.current
  same_current = ap (λ (z : Process). z.current) e

  pub same_release : x.times.release ≡ y.times.release
  same_release = ap (λ (z : Process). z.times.release) e

-- ---------------------------------------------------------------- partitions that differ in no process
-- no process and no queue differs
pub record Alike (p q : Partition) : Type 0 where
  pub processes : q.processes ≡ p.processes
  pub waiting : q.waiting ≡ p.waiting

pub alike_same : (p : Partition) → Alike p p
alike_same p = record { processes = refl; waiting = refl }

pub buffer_alike : (k : ℕ) (b : Buffer) (p : Partition) → Alike p (stored_buffer k b p)
unfolding stored_buffer
buffer_alike k b p = by_test (Alike p) (within buffer_limit k) (λ _. record { processes = refl; waiting = refl }) (λ _. alike_same p)

-- a change that reaches no process
pub untouched : (a : Change) (p : Partition) → touches a ≡ false → Alike p (applied a p)
unfolding arrived_last stored_semaphore stored_event stored_buffer stored_blackboard
untouched Nothing p h = alike_same p
untouched (Stored id y) p h = not_both _ refl h
untouched (Created id y) p h = not_both _ refl h
untouched (Last id) p h = record { processes = refl; waiting = refl }
untouched (StoredSemaphore k s) p h = by_test (Alike p) (within semaphore_limit k) (λ _. record { processes = refl; waiting = refl }) (λ _. alike_same p)
untouched (StoredEvent k s) p h = by_test (Alike p) (within event_limit k) (λ _. record { processes = refl; waiting = refl }) (λ _. alike_same p)
untouched (CreatedBuffer k name limit) p h = buffer_alike k (empty_buffer name limit) p
untouched (Moved k a) p h = not_both _ refl h
untouched (StoredBlackboard k b) p h = by_test (Alike p) (within blackboard_limit k) (λ _. record { processes = refl; waiting = refl }) (λ _. alike_same p)
untouched (Ended o) p h = not_both _ refl h
untouched (Handed o m) p h = not_both _ refl h
untouched (LevelSet level holder) p h = record { processes = refl; waiting = refl }
untouched (Entered d) p h = not_both _ refl h

pub alike_along : (p q r : Partition) → Alike p q → Alike q r → Alike p r
alike_along p q r a b = record { processes = b.processes ∙ a.processes; waiting = b.waiting ∙ a.waiting }

pub alike_process : (p q : Partition) → Alike p q → (id : ℕ) → process id q ≡ process id p
alike_process p q a id = ap (by_id process_limit blank_process id) a.processes

pub alike_waiters : (p q : Partition) → Alike p q → (o : ℕ) → waiters o q ≡ waiters o p
alike_waiters p q a o = same_queue o p q a.waiting (λ y. ap (λ (x : Process). object x.wait) (alike_process p q a y))

-- where no process has been created stands a blank one
pub not_created : (p : Partition) → ListedIn p → (id : ℕ) → contains id (ids_from p.process_count 1) ≡ false → process id p ≡ blank_process
not_created p v id h = either (within process_limit id)
    (λ e. ⊎_elim
    (λ (out : p.process_count < id). v.numbered.past id out)
    (λ (few : id ≤ p.process_count). not_both _ (from_has p.process_count 1 id (within_out process_limit id e).0 (omega arith)) h)
    (either (ltb p.process_count id) (λ t. inl (ltb-true _ _ t)) (λ t. inr (ltb-false _ _ t))))
    (λ e. named_out process_limit id blank_process p.processes e)

-- ---------------------------------------------------------------- the start rule
-- what it makes of a process
pub record Begun (x y : Process) (n : ℕ) (mark : Bool) : Type 0 where
  pub is : y ≡ begun_with y.times n mark y.wait x
  pub wait : StartWait x y.wait

periodic_at_holds : (a : Time) (b : Bool) → not (is_never a) ≡ b → periodic_at a ≡ b
periodic_at_holds None b e = e
periodic_at_holds (Some n) b e = e

pub starts_as : (c : Context) (delay : ℕ) (x : Process) → Begun x (start_rule c delay x) x.given.base false
unfolding start_rule
starts_as c delay x = by_test (λ (y : Process). Begun x y x.given.base false) (periodic x)
    (λ e. record { is = refl; wait = rw (periodic_at_holds x.given.period true e) refl })
    (λ e. by_test (λ (y : Process). Begun x y x.given.base false) (eqb delay 0)
    (λ _. record { is = refl; wait = rw (periodic_at_holds x.given.period false e) (inl refl) })
    (λ _. record { is = refl; wait = rw (periodic_at_holds x.given.period false e) (inr refl) }))

-- on entering NORMAL
abbrev pub Enters : Process → Process → Type 0
Enters x y = ((x.wait ≡ Normal) × Begun x y x.current x.suspended) ⊎ ((x.wait ≡ Normal → ⊥) × (y ≡ x))

pub enters_as : (c : Context) (x : Process) → Enters x (entered c x)
unfolding entered
enters_as c x = by_test (Enters x) (waits_for_normal x.wait)
    (λ e. let b = starts_as c x.times.delay x in inl (for_normal_holds x.wait e, record { is = ap (λ (y : Process). with_suspended x.suspended (with_current x.current y)) b.is; wait = b.wait }))
    (λ t. inr (λ z. not_both _ (ap waits_for_normal z) t, refl))
