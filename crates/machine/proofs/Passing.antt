-- A partition in which a process joins a queue, or in which the first of a queue is served or has a message handed over: who waits there then.
-- Assumes nothing.
use Prim.Native.Nat.{ℕ}
use mathlib.Core.Path.{◌≡◌, refl, ap, sym, ◌∙◌}
use mathlib.Core.Bool.{Bool, true, false, not, or-true}
use mathlib.Core.List.{List, [], ◌∷◌, ◌++◌, map}
use lib.Dec.{eqb}
use borrow.Author.Tests.{eq-eqb, ne_eqb}
use Rattle.machine.specs.declared.Process.{Process}
use Rattle.machine.specs.declared.Partition.{Partition}
use Rattle.machine.specs.Ids.{kept}
use Rattle.machine.specs.Process.{object, handed}
use Rattle.machine.specs.Partition.{process, waits_on, waiters, stored}
use Rattle.machine.specs.Theorems.Valid.{contains, ListedIn}
use Rattle.machine.proofs.Tracking.{kept_no}
use Rattle.machine.proofs.Sound.{ready_off}
use Rattle.machine.proofs.Keeping.{process_stored, process_other}
use Rattle.machine.proofs.Kept.{Caller}
use Rattle.machine.proofs.Orders.{joins_last}
use Rattle.machine.proofs.Queues.{first_created, others_apart, served_queue}
use Rattle.machine.proofs.Calmness.{on_queue_holds}

-- the first of a list alone passes a test
first_alone : (f : ℕ → Bool) (x : ℕ) (l : List ℕ) → f x ≡ true → ((y : ℕ) → contains y l ≡ true → f y ≡ false) → kept f (x ∷ l) ≡ x ∷ []
unfolding kept
first_alone f x l h g = rw (h, kept_no f l g)

-- a READY process joins the queue: the others keep their waits
module _ (o : ℕ) (some : o ≡ 0 → ⊥) (p : Partition) (v : ListedIn p) (id : ℕ) (c : Caller id p) (x : Process) (on : object x.wait ≡ o) where
  abbrev joined : Partition
  joined = stored id x p

  apart : (y : ℕ) → contains y (waiters o p) ≡ true → y ≡ id → ⊥
  apart y g z = some (sym (on_queue_holds p o y g) ∙ rw z (ready_off (process id p) c.is_ready))

  pub joined_same : (y : ℕ) → contains y (waiters o p) ≡ true → process y joined ≡ process y p
  joined_same y g = process_other p id x y (apart y g)

  pub joined_still : (y : ℕ) → contains y (waiters o p) ≡ true → waits_on o joined y ≡ true
  joined_still y g = rw (joined_same y g) (eq-eqb _ o (on_queue_holds p o y g))

  pub joined_queue : waiters o joined ≡ waiters o p ++ (id ∷ [])
  joined_queue = joins_last o some p v id c.created x c.is_ready ∙ rw (on, eq-eqb o o refl)

-- the wait of the first of a queue ends: the others go on waiting
module _ (o : ℕ) (some : o ≡ 0 → ⊥) (p : Partition) (v : ListedIn p) (id : ℕ) (l : List ℕ) (h : waiters o p ≡ id ∷ l) (x : Process) (off : object x.wait ≡ 0) where
  abbrev after : Partition
  after = stored id x p

  pub gone_queue : waiters o after ≡ l
  gone_queue = served_queue o some p v id l h x off

  pub gone_first : waits_on o after id ≡ false
  gone_first = rw (process_stored p id x v (first_created o some p v id l h), off) (ne_eqb 0 o (λ z. some (sym z)))

  pub gone_same : (y : ℕ) → contains y l ≡ true → process y after ≡ process y p
  gone_same y g = process_other p id x y (others_apart o some p v id l h y g)

  pub gone_still : (y : ℕ) → contains y l ≡ true → waits_on o after y ≡ true
  unfolding contains
  gone_still y g = rw (gone_same y g) (eq-eqb _ o (on_queue_holds p o y (rw (h, g) (or-true (eqb id y)))))

-- a message is handed over to the first of a queue: it is in the records of those whose wait ended, and of no other
module _ (o : ℕ) (some : o ≡ 0 → ⊥) (p : Partition) (v : ListedIn p) (id : ℕ) (l : List ℕ) (h : waiters o p ≡ id ∷ l) (x : ℕ) where
  abbrev given : Partition
  given = stored id (handed x (process id p)) p

  pub handed_one : map (λ y. (process y given).message) (kept (λ y. not (waits_on o given y)) (id ∷ l)) ≡ x ∷ []
  handed_one =
      let first : not (waits_on o given id) ≡ true = ap not (gone_first o some p v id l h (handed x (process id p)) refl) in
      ap (map (λ y. (process y given).message)) (first_alone (λ y. not (waits_on o given y)) id l first (λ y g. ap not (gone_still o some p v id l h (handed x (process id p)) refl y g)))
      ∙ ap (λ (z : Process). z.message ∷ []) (process_stored p id (handed x (process id p)) v (first_created o some p v id l h))
