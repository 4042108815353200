-- The words that the claims share with the machine's definitions, proved. Assumes nothing.
use Prim.Native.Nat.{ℕ, ◌+◌, ◌*◌, ◌≤◌, ◌<◌}
use mathlib.Core.Path.{◌≡◌, refl, sym, ap, ◌∙◌}
use mathlib.Core.Bool.{true, cond, not}
use native.Mathlib.Omega.{arith}
use lib.Dec.{eqb}
use Rattle.machine.specs.Process.{Class, carried, carried_in, class_of, object, object_in}
use Rattle.machine.specs.Theorems.Valid.{KnownWait, SoundModule, Valid, contains}
use Rattle.machine.specs.declared.Module.{Module}
use Rattle.machine.specs.declared.Partition.{Partition}
use Rattle.machine.specs.Theorems.Terms.{Terms, WhoWaits}
use Rattle.machine.specs.declared.Wait.{Wait}
use Rattle.machine.specs.declared.Wait.TheVariants.{None, Normal, Delay, Timed, Period, Semaphore, Event, Sending, Receiving, Blackboard, Source, Destination}
use Rattle.machine.proofs.Reasons.{for_none, for_normal_holds}
use Rattle.machine.proofs.Tests.{and_left, and_right}
use borrow.Author.Tests.{eq-eqb, eqb-true, not-true}
use Rattle.machine.specs.Partition.{process, waiters}
use Rattle.machine.specs.Module.{part}
use Rattle.machine.proofs.Reached.{reached_valid, valid_sound}
use Rattle.machine.proofs.Kept.{waiters_created, waiters_exact}
use Rattle.machine.proofs.Fairness.{counts_low, wait_known}

-- ---------------------------------------------------------------- waits
-- the wait on queue j of a kind, with this message
abbrev on_queue : ℕ → ℕ → ℕ → Wait
on_queue kind j n = cond (eqb kind 1) (Semaphore j) (cond (eqb kind 2) (Event j) (cond (eqb kind 3) (Sending j n) (cond (eqb kind 4) (Receiving j) (cond (eqb kind 5) (Blackboard j) (cond (eqb kind 6) (Source j n) (Destination j))))))

abbrev OnQueue : Class → Wait → Type 0
OnQueue Class.nothing w = Unit {0}
OnQueue Class.normal w = Unit {0}
OnQueue Class.timer w = Unit {0}
OnQueue Class.release w = Unit {0}
OnQueue (Class.onto kind j n) w = w ≡ on_queue kind j n

on_queue_holds : (w : Wait) → OnQueue (class_of w) w
on_queue_holds None = tt
on_queue_holds Normal = tt
on_queue_holds Delay = tt
on_queue_holds Timed = tt
on_queue_holds Period = tt
on_queue_holds (Semaphore j) = refl
on_queue_holds (Event j) = refl
on_queue_holds (Sending j n) = refl
on_queue_holds (Receiving j) = refl
on_queue_holds (Blackboard j) = refl
on_queue_holds (Source j n) = refl
on_queue_holds (Destination j) = refl

-- a wait whose object has a kind and a number up to 255, by these
wait_is : (counts : ℕ → ℕ) → ((kind : ℕ) → counts kind ≤ 16) → (c : Class) → KnownWait counts c → (w : Wait) → OnQueue c w → (kind j : ℕ) → 1 ≤ kind → j ≤ 255 → object_in c ≡ 256 * kind + j → w ≡ on_queue kind j (carried_in c)
wait_is counts low Class.nothing h w is kind j some few e = absurd (omega arith)
wait_is counts low Class.normal h w is kind j some few e = absurd h
wait_is counts low Class.timer h w is kind j some few e = absurd (omega arith)
wait_is counts low Class.release h w is kind j some few e = absurd (omega arith)
wait_is counts low (Class.onto kind' j' n) h w is kind j some few e =
    let small = low kind' in
    let a : kind' ≡ kind = omega (arith, h.0.1) in
    let b : j' ≡ j = omega (arith, h.0.1) in
    rw (sym a, sym b) is

module _ (m : Module) (s : SoundModule m) (i : ℕ) (l : i < m.table.size) (id : ℕ) where
  abbrev p : Partition
  p = part m i

  v : Valid m.table.frame m.t p
  v = s.each_partition i l

  in_queue : (kind j : ℕ) → 1 ≤ kind → j ≤ 16 → contains id (waiters (256 * kind + j) p) ≡ true → (process id p).wait ≡ on_queue kind j (carried (process id p))
  in_queue kind j some few h =
      let b = waiters_created p v.lists (256 * kind + j) id h in
      let x = process id p in
      let is : object x.wait ≡ 256 * kind + j = eqb-true _ _ (sym (waiters_exact p v.lists (256 * kind + j) (λ z. omega arith) id) ∙ h) in
      wait_is _ (counts_low m.table.frame m.t p v) (class_of x.wait) (wait_known m.table.frame m.t p x (v.each_process id b) (λ z. omega arith)) x.wait (on_queue_holds x.wait) kind j some (omega arith) is

  queued : (o : ℕ) → (o ≡ 0 → ⊥) → object (process id p).wait ≡ o → contains id (waiters o p) ≡ true
  queued o some e = waiters_exact p v.lists o some id ∙ eq-eqb _ _ e

  who_waits : (j : ℕ) → j ≤ 16 → WhoWaits p id j
  who_waits j few = record {
    semaphore = (in_queue 1 j (omega arith) few, λ e. queued _ (λ z. omega arith) (ap object e));
    event = (in_queue 2 j (omega arith) few, λ e. queued _ (λ z. omega arith) (ap object e));
    sending = (in_queue 3 j (omega arith) few, λ e. queued _ (λ z. omega arith) (ap object e));
    receiving = (in_queue 4 j (omega arith) few, λ e. queued _ (λ z. omega arith) (ap object e));
    blackboard = (in_queue 5 j (omega arith) few, λ e. queued _ (λ z. omega arith) (ap object e));
    source = (in_queue 6 j (omega arith) few, λ e. queued _ (λ z. omega arith) (ap object e));
    destination = (in_queue 7 j (omega arith) few, λ e. queued _ (λ z. omega arith) (ap object e));
  }

carries_none : (w : Wait) → object w ≡ 0 → carried_in (class_of w) ≡ 0
carries_none None e = refl
carries_none Normal e = refl
carries_none Delay e = refl
carries_none Timed e = refl
carries_none Period e = refl
carries_none (Semaphore j) e = refl
carries_none (Event j) e = refl
carries_none (Sending j n) e = absurd (omega arith)
carries_none (Receiving j) e = refl
carries_none (Blackboard j) e = refl
carries_none (Source j n) e = absurd (omega arith)
carries_none (Destination j) e = refl

-- Law. What the words mean.
pub terms : Terms
terms = record {
  ready_is = λ x h. let r = and_right x.started _ h in (and_left x.started _ h, not-true _ (and_left (not x.suspended) _ r), for_none x.wait (and_right (not x.suspended) _ r));
  ready_if = λ x on unmarked none. rw (on, unmarked, none);
  normal = for_normal_holds;
  normal_if = refl;
  queues = λ m h i l id j. who_waits m (valid_sound m (reached_valid m h) i l) i l id j;
  carries = record { sending = λ x j n e. rw e; source = λ x j n e. rw e; none = λ x. carries_none x.wait };
  nothing = λ mode. refl;
}
