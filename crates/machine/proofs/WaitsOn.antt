-- The wait that an object's number names, in a valid partition. Assumes nothing.
use Prim.Native.Nat.{ℕ, ◌+◌, ◌*◌, ◌≤◌}
use mathlib.Core.Path.{◌≡◌, refl, ap, ◌∙◌}
use mathlib.Core.Bool.{cond, not}
use native.Mathlib.Omega.{arith}
use lib.Dec.{eqb}
use borrow.Author.Tests.{ne_eqb}
use Rattle.machine.specs.declared.Partition.{Partition}
use Rattle.machine.specs.declared.Wait.{Wait}
use Rattle.machine.specs.declared.Wait.TheVariants.{None, Normal, Delay, Timed, Period, Semaphore, Event, Sending, Receiving, Blackboard, Source, Destination}
use Rattle.machine.specs.Process.{class_of, carried_in, carried, object, on_object}
use Rattle.machine.specs.Partition.{normal_mode, process}
use Rattle.machine.specs.Theorems.Valid.{Between, KnownWait, Valid}
use Rattle.machine.proofs.Either.{either}
use Rattle.machine.proofs.Keeping.{process_created}
use Rattle.machine.proofs.Fairness.{counts_low}

-- the wait on queue j of a kind, by the kinds of class_of, with this message where one is kept with it
abbrev pub wait_at : ℕ → ℕ → ℕ → Wait
wait_at kind j msg =
    cond (eqb kind 1) (Semaphore j)
    (cond (eqb kind 2) (Event j)
    (cond (eqb kind 3) (Sending j msg)
    (cond (eqb kind 4) (Receiving j)
    (cond (eqb kind 5) (Blackboard j)
    (cond (eqb kind 6) (Source j msg) (Destination j))))))

module _ (counts : ℕ → ℕ) (low : (kind : ℕ) → counts kind ≤ 16) (kind j : ℕ) (some : 1 ≤ kind) (few : j ≤ 255) where
  -- one of this kind: the numbers of object and kind are those
  at_kind : (kind' i msg : ℕ) → Between 1 (counts kind') i → 256 * kind' + i ≡ 256 * kind + j → wait_at kind' i msg ≡ wait_at kind j msg
  at_kind kind' i msg b e =
      let l = low kind' in
      let a : kind' ≡ kind = omega (arith, b.1) in
      let d : i ≡ j = omega (arith, b.1) in
      ap (λ n. wait_at n i msg) a ∙ ap (λ n. wait_at kind n msg) d

  wait_at_holds : (w : Wait) → KnownWait counts (class_of w) → object w ≡ 256 * kind + j → w ≡ wait_at kind j (carried_in (class_of w))
  wait_at_holds None h e = absurd (omega arith)
  wait_at_holds Normal h e = absurd h
  wait_at_holds Delay h e = absurd (omega arith)
  wait_at_holds Timed h e = absurd (omega arith)
  wait_at_holds Period h e = absurd (omega arith)
  wait_at_holds (Semaphore i) h e = at_kind 1 i 0 h.0 e
  wait_at_holds (Event i) h e = at_kind 2 i 0 h.0 e
  wait_at_holds (Sending i msg) h e = at_kind 3 i msg h.0 e
  wait_at_holds (Receiving i) h e = at_kind 4 i 0 h.0 e
  wait_at_holds (Blackboard i) h e = at_kind 5 i 0 h.0 e
  wait_at_holds (Source i msg) h e = at_kind 6 i msg h.0 e
  wait_at_holds (Destination i) h e = at_kind 7 i 0 h.0 e

-- a process that waits on an object by its number
pub wait_is : (frame t : ℕ) (p : Partition) → Valid frame t p → (id kind j : ℕ) → 1 ≤ kind → j ≤ 255 → object (process id p).wait ≡ 256 * kind + j → (process id p).wait ≡ wait_at kind j (carried (process id p))
wait_is frame t p v id kind j some few e =
    let x = process id p in
    let b = process_created on_object refl p v.lists id (ap not (ne_eqb (object x.wait) 0 (λ z. omega arith))) in
    let h = v.each_process id b in
    either x.started
    (λ s. either (normal_mode p)
    (λ n. wait_at_holds _ (counts_low frame t p v) kind j some few x.wait (h.going s n).wait e)
    (λ n. absurd (let z : object x.wait ≡ 0 = ap object (h.early s n).wait in omega arith)))
    (λ s. absurd (let z : object x.wait ≡ 0 = ap object (h.dormant s).wait in omega arith))
