-- Where a process stands in its queue while it waits: over one event, and over a list of events from what each service does. Assumes nothing.
use Prim.Native.Nat.{ℕ, ◌+◌, ◌-◌, ◌≤◌, ◌<◌}
use mathlib.Core.Path.{◌≡◌, refl, ap, ◌∙◌}
use mathlib.Core.Bool.{Bool, true, false}
use mathlib.Core.List.{List, [], ◌∷◌, ◌++◌}
use native.Mathlib.Omega.{arith}
use lib.ListN.{length}
use lib.Dec.{eqb}
use borrow.Author.Tests.{eqb-true}
use Rattle.machine.specs.declared.Event.{Event as EventT}
use Rattle.machine.specs.declared.Module.{Module}
use Rattle.machine.specs.declared.Table.{Table}
use Rattle.machine.specs.Fields.{request_of, number_of}
use Rattle.machine.specs.Ids.{kept}
use Rattle.machine.specs.Partition.{waits_on, waiters}
use Rattle.machine.specs.Step.{step}
use Rattle.machine.specs.Runs.{keep, next, answered_event, after, answers}
use Rattle.machine.specs.Theorems.Valid.{Between, Reached, contains}
use Rattle.machine.specs.Theorems.Events.{own}
use Rattle.machine.specs.Theorems.Account.{place_in}
use Rattle.machine.specs.Theorems.Queues.{joining, QueueAfter}
use Rattle.machine.specs.Theorems.ServedBefore.{ServedQueue, WaitsThroughout, before}
use Rattle.machine.proofs.Either.{either}
use Rattle.machine.proofs.Tests.{not_both}
use Rattle.machine.proofs.Account.{step_size}
use Rattle.machine.proofs.Answers.{step_table}
use Rattle.machine.proofs.Queues.{queue_after}

-- ---------------------------------------------------------------- places in lists
-- one that is kept has no more before it
kept_place : (f : ℕ → Bool) (l j : List ℕ) (id : ℕ) → contains id l ≡ true → f id ≡ true → place_in (kept f l ++ j) id ≤ place_in l id
unfolding kept contains place_in
kept_place f [] j id c h = not_both _ c refl
kept_place f (x ∷ l) j id c h = either (eqb x id)
    (λ e. rw (ap f (eqb-true x id e) ∙ h, e) (omega arith))
    (λ e.
    let ih = kept_place f l j id (rw e at c) h in
    either (f x)
    (λ t. rw (t, e) (omega arith))
    (λ t. rw (t, e) (omega arith)))

-- and less where the first is not kept
kept_less : (f : ℕ → Bool) (x : ℕ) (l j : List ℕ) (id : ℕ) → contains id (x ∷ l) ≡ true → f id ≡ true → f x ≡ false → place_in (kept f (x ∷ l) ++ j) id < place_in (x ∷ l) id
unfolding kept contains place_in
kept_less f x l j id c h t = either (eqb x id)
    (λ e. not_both _ (ap f (eqb-true x id e) ∙ h) t)
    (λ e. let ih = kept_place f l j id (rw e at c) h in rw (t, e) (omega arith))

-- ---------------------------------------------------------------- one event
-- the first of the queue waits no longer
abbrev pub FirstGone : ServedQueue → Module → EventT → Type 0
FirstGone q m e = (x : ℕ) (rest : List ℕ) → waiters q.on (own m q.at) ≡ x ∷ rest → waits_on q.on (own (next m e) q.at) x ≡ false

module _ (m : Module) (h : Reached m) (e : EventT) (k : ℕ) (b : Between 1 m.table.size k) (o : ℕ) (some : o ≡ 0 → ⊥) (id : ℕ)
    (now : waits_on o (own m k) id ≡ true) (still : waits_on o (own (next m e) k) id ≡ true) where
  after_it : QueueAfter m e (k - 1) o
  after_it = queue_after m h e (k - 1) (omega (arith, b.0, b.1)) o some

  stands : contains id (waiters o (own m k)) ≡ true
  stands = after_it.before.exact id ∙ now

  place_step : place_in (waiters o (own (next m e) k)) id ≤ place_in (waiters o (own m k)) id
  place_step = rw after_it.order (kept_place (waits_on o (own (next m e) k)) (waiters o (own m k)) _ id stands still)

  place_less : ((x : ℕ) (rest : List ℕ) → waiters o (own m k) ≡ x ∷ rest → waits_on o (own (next m e) k) x ≡ false) → place_in (waiters o (own (next m e) k)) id < place_in (waiters o (own m k)) id
  unfolding contains
  place_less gone = rw after_it.order (go (waiters o (own m k)) refl stands)
    where
      go : (l : List ℕ) → waiters o (own m k) ≡ l → contains id l ≡ true → place_in (kept (waits_on o (own (next m e) k)) l ++ joining (step m e).answer.code (number_of (request_of e).partition) (k - 1) o (own m k) (own (next m e) k)) id < place_in l id
      go [] is c = not_both _ (rw is at stands) refl
      go (x ∷ rest) is c = kept_less (waits_on o (own (next m e) k)) x rest _ id c still (gone x rest is)

-- ---------------------------------------------------------------- a list of events
first_waits : (k o id : ℕ) (m : Module) (es : List EventT) → WaitsThroughout k o id m es → waits_on o (own m k) id ≡ true
unfolding WaitsThroughout
first_waits k o id m [] h = h
first_waits k o id m (e ∷ es) h = h.0

pub order_list : (k o id : ℕ) → (o ≡ 0 → ⊥) → (es : List EventT) (m : Module) → Reached m → Between 1 m.table.size k → WaitsThroughout k o id m es → place_in (waiters o (own (after m es) k)) id ≤ place_in (waiters o (own m k)) id
unfolding WaitsThroughout
order_list k o id some [] m h b w = omega arith
order_list k o id some (e ∷ es) m h b w =
    let rest = order_list k o id some es (next m e) (Reached.stepped m e h) (rw (step_size m e) b) w.1 in
    let one = place_step m h e k b o some id w.0 (first_waits k o id (next m e) es w.1) in
    omega arith

-- from what each service does
pub counts_list : (q : ServedQueue) (T : Table) → (q.on ≡ 0 → ⊥) → Between 1 T.size q.at
    → ((m : Module) → Reached m → m.table ≡ T → (e : EventT) → q.serves (answered_event m e) ≡ true → FirstGone q m e)
    → (es : List EventT) (m : Module) → Reached m → m.table ≡ T → (id : ℕ) → WaitsThroughout q.at q.on id m es
    → length (keep q.serves (answers m es)) + before q id (after m es) ≤ before q id m
unfolding WaitsThroughout
counts_list q T some b law [] m h is id w = omega arith
counts_list q T some b law (e ∷ es) m h is id w =
    let rest = counts_list q T some b law es (next m e) (Reached.stepped m e h) (step_table m e ∙ is) id w.1 in
    let on : Between 1 m.table.size q.at = rw is b in
    let still = first_waits q.at q.on id (next m e) es w.1 in
    either (q.serves (answered_event m e))
    (λ t. let one = place_less m h e q.at on q.on some id w.0 still (law m h is e t) in rw t (omega arith))
    (λ t. let one = place_step m h e q.at on q.on some id w.0 still in rw t (omega arith))
