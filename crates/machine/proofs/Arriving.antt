-- The arrival list after each change, who joins it, and who stands in it before whom. Assumes nothing.
use Rattle.machine.specs.declared.Mode.TheVariants.{Normal as NormalMode}
use Prim.Native.Nat.{ℕ}
use mathlib.Core.Path.{◌≡◌, refl, sym, ap, subst, ◌∙◌}
use mathlib.Core.Bool.{true, false, ◌&&◌, and-true, or-false, Bool, not, ◌||◌, or-true, true≢false}
use mathlib.Core.List.{List, [], ◌∷◌, ◌++◌, append-nil, append_assoc}
use mathlib.Core.Logic.{⊎_elim}
use native.Mathlib.Omega.{arith}
use lib.Dec.{eqb}
use borrow.Author.Tests.{ne_eqb, eqb-true}
use Rattle.machine.specs.declared.Ids.{Ids}
use Rattle.machine.specs.declared.Process.{Process}
use Rattle.machine.specs.declared.Partition.{Partition}
use Rattle.machine.specs.declared.Context.{Context}
use Rattle.machine.specs.declared.Buffer.{Buffer}
use Rattle.machine.specs.declared.Transfer.{Transfer}
use Rattle.machine.specs.declared.Transfer.TheVariants.{Put, HandedTo, Taken, LetIn}
use Rattle.machine.specs.declared.Change.{Change}
use Rattle.machine.specs.declared.Change.TheVariants.{Nothing, Stored, Created, Last, StoredSemaphore, StoredEvent, CreatedBuffer, Moved, StoredBlackboard, Ended, Handed, LevelSet, Entered}
use Rattle.machine.specs.Ids.{members, kept, other, kept_if}
use Rattle.machine.specs.Limits.{process_limit, semaphore_limit, event_limit, buffer_limit, blackboard_limit}
use Rattle.machine.specs.Process.{blank_process, ready, served, handed, entered}
use Rattle.machine.specs.Partition.{arrived_last, within, by_id, stored, created, stored_semaphore, stored_event, stored_buffer, stored_blackboard, empty_buffer, moved_in, ended_by, buffer, waiters, changed_all, each, with_mode, entered_normal, applied}
use Rattle.machine.specs.Messages.{moved}
use Rattle.machine.specs.Theorems.Valid.{Between, contains, Distinct, ListedIn, Valid, SoundContext, SoundChange, SoundEnd}
use Rattle.machine.specs.Theorems.Plain.{ids_from}
use Rattle.machine.proofs.Tests.{by_test, not_both}
use Rattle.machine.proofs.Bounds.{same_or_not, within_in, buffer_in}
use Rattle.machine.proofs.Lists.{members_ids_of}
use Rattle.machine.proofs.Flows.{kept_append}
use Rattle.machine.proofs.Tracking.{kept_same, kept_kept, kept_all, contains_kept}
use Rattle.machine.proofs.Keeping.{AllCreated, process_created, each_changed, from_range, distinct_from}
use Rattle.machine.proofs.Kept.{change_valid, end_stored, waiters_created, waiters_distinct}
use Rattle.machine.proofs.Queues.{ready_in, arrive_all}
use Rattle.machine.proofs.Acts.{last_of, touches}
use Rattle.machine.proofs.Plain.{arrived_plain}
use Rattle.machine.specs.Theorems.Arrivals.{precedes}
use Rattle.machine.proofs.Either.{either}

-- ---------------------------------------------------------------- a partition then
-- who of the list of p is READY in q keeps its place, and behind them stands who joins
pub record Keeps (p q : Partition) : Type 0 where
  pub joined : List ℕ
  pub order : members q.arrival ≡ kept (ready_in q) (members p.arrival) ++ joined

-- the same without the one that is moved
pub record Arrives (moved : ℕ) (p q : Partition) : Type 0 where
  pub joined : List ℕ
  pub order : members q.arrival ≡ kept (λ y. ready_in q y && other moved y) (members p.arrival) ++ joined

-- one that is not READY then is not in the list anyway
pub arrives_off : (moved : ℕ) (p q : Partition) → ready_in q moved ≡ false → Keeps p q → Arrives moved p q
arrives_off moved p q off h = record {
  joined = h.joined;
  order = h.order ∙ ap (λ (l : List ℕ). l ++ h.joined) (kept_same (ready_in q) (λ y. ready_in q y && other moved y) (members p.arrival) (λ y _. ⊎_elim
      (λ (s : y ≡ moved). rw (s, off))
      (λ (ne : y ≡ moved → ⊥). sym (rw (ne_eqb y moved ne) (and-true (ready_in q y))))
      (same_or_not y moved)));
}

-- no process has the id 0
pub none_zero : (q : Partition) → ready_in q 0 ≡ false
unfolding by_id
none_zero q = refl

-- all of a list are READY
pub kept_ready : (q : Partition) → ListedIn q → kept (ready_in q) (members q.arrival) ++ [] ≡ members q.arrival
kept_ready q v = append-nil _ ∙ kept_all (ready_in q) (members q.arrival) (λ y c. sym (v.arrivals.exact y) ∙ c)

pub keeps_same : (p q : Partition) → ListedIn q → q.arrival ≡ p.arrival → Keeps p q
keeps_same p q v e = record { joined = []; order = sym (kept_ready q v) ∙ ap (λ (a : Ids). kept (ready_in q) (members a) ++ []) e }

pub keeps_all : (f : Process → Process) (l : List ℕ) (p : Partition) → ListedIn p → AllCreated l p.process_count → Distinct l → Keeps p (changed_all f l p)
keeps_all f l p v all dis = record { joined = _; order = arrive_all f l p v all dis }

pub keeps_one : (id : ℕ) (x : Process) (p : Partition) → ListedIn p → Between 1 p.process_count id → Keeps p (stored id x p)
unfolding changed_all contains Distinct
keeps_one id x p v b = keeps_all (λ _. x) (id ∷ []) p v (λ y c. subst (Between 1 p.process_count) (eqb-true id y (sym (or-false (eqb id y)) ∙ c)) b) (refl, tt)

pub keeps_each : (f : Process → Process) (p : Partition) → ListedIn p → Keeps p (each f p)
keeps_each f p v = rw (each_changed f p.process_count 1 p) (keeps_all f (ids_from p.process_count 1) p v (λ y t. let b = from_range p.process_count 1 y t in (b.0, omega arith)) (distinct_from p.process_count 1))

-- from a partition with the same list
pub keeps_from : (p p' q : Partition) → p'.arrival ≡ p.arrival → Keeps p' q → Keeps p q
keeps_from p p' q e h = record { joined = h.joined; order = h.order ∙ ap (λ (a : Ids). kept (ready_in q) (members a) ++ h.joined) e }

-- to a partition with the same list and the same processes
pub keeps_to : (p q q' : Partition) → q'.arrival ≡ q.arrival → q'.processes ≡ q.processes → Keeps p q → Keeps p q'
keeps_to p q q' e f h = record { joined = h.joined; order = ap members e ∙ h.order ∙ ap (λ (l : List Process). kept (λ y. ready (by_id process_limit blank_process y l)) (members p.arrival) ++ h.joined) (sym f) }

-- ---------------------------------------------------------------- each change
buffer_arrival : (k : ℕ) (b : Buffer) (p : Partition) → (stored_buffer k b p).arrival ≡ p.arrival
unfolding stored_buffer
buffer_arrival k b p = by_test (λ (q : Partition). q.arrival ≡ p.arrival) (within buffer_limit k) (λ _. refl) (λ _. refl)

-- a change that reaches no process and moves none
pub idle_arrival : (c : Context) (a : Change) (p : Partition) → ListedIn p → SoundChange c p a → touches a ≡ false → last_of a ≡ 0 → (applied a p).arrival ≡ p.arrival
unfolding stored_semaphore stored_event stored_blackboard
idle_arrival c Nothing p v h t z = refl
idle_arrival c (Stored id y) p v h t z = not_both _ refl t
idle_arrival c (Created id y) p v h t z = not_both _ refl t
idle_arrival c (Last id) p v h t z = let b = process_created ready refl p v id h in absurd (omega (arith, b.0))
idle_arrival c (StoredSemaphore k s) p v h t z = by_test (λ (q : Partition). q.arrival ≡ p.arrival) (within semaphore_limit k) (λ _. refl) (λ _. refl)
idle_arrival c (StoredEvent k s) p v h t z = by_test (λ (q : Partition). q.arrival ≡ p.arrival) (within event_limit k) (λ _. refl) (λ _. refl)
idle_arrival c (CreatedBuffer k name limit) p v h t z = buffer_arrival k (empty_buffer name limit) p
idle_arrival c (Moved k a) p v h t z = not_both _ refl t
idle_arrival c (StoredBlackboard k b) p v h t z = by_test (λ (q : Partition). q.arrival ≡ p.arrival) (within blackboard_limit k) (λ _. refl) (λ _. refl)
idle_arrival c (Ended o) p v h t z = not_both _ refl t
idle_arrival c (Handed o m) p v h t z = not_both _ refl t
idle_arrival c (LevelSet level holder) p v h t z = refl
idle_arrival c (Entered d) p v h t z = not_both _ refl t

-- the wait that a transfer ends
pub keeps_ended : (p : Partition) → ListedIn p → (a : Transfer) → SoundEnd p a → Keeps p (ended_by a p)
keeps_ended p v (Put m) h = keeps_same p p v refl
keeps_ended p v (HandedTo id m) h = keeps_one id _ p v h.0
keeps_ended p v Taken h = keeps_same p p v refl
keeps_ended p v (LetIn id m) h = keeps_one id _ p v h.0

module _ (c : Context) {o : Partition} (k : SoundContext c o) (p : Partition) (v : Valid c.frame c.time p) where
  pub change_keeps : (a : Change) → SoundChange c p a → last_of a ≡ 0 → Keeps p (applied a p)
  unfolding created entered_normal
  change_keeps Nothing h z = keeps_same p p v.lists refl
  change_keeps (Stored id y) h z = keeps_one id y p v.lists h.0
  change_keeps (Created id y) h z = keeps_same p _ (change_valid c k p v (Created id y) h).lists (by_test (λ (q : Partition). q.arrival ≡ p.arrival) (within process_limit id) (λ _. refl) (λ _. refl))
  change_keeps (Last id) h z = keeps_same p _ (change_valid c k p v (Last id) h).lists (idle_arrival c (Last id) p v.lists h refl z)
  change_keeps (StoredSemaphore j s) h z = keeps_same p _ (change_valid c k p v (StoredSemaphore j s) h).lists (idle_arrival c (StoredSemaphore j s) p v.lists h refl z)
  change_keeps (StoredEvent j s) h z = keeps_same p _ (change_valid c k p v (StoredEvent j s) h).lists (idle_arrival c (StoredEvent j s) p v.lists h refl z)
  change_keeps (CreatedBuffer j name limit) h z = keeps_same p _ (change_valid c k p v (CreatedBuffer j name limit) h).lists (idle_arrival c (CreatedBuffer j name limit) p v.lists h refl z)
  change_keeps (Moved j a) h z =
      let b = moved_in a (buffer j p) in
      let is = buffer_in j b p (within_in buffer_limit j h.0.0 (omega (arith, h.0.1, v.objects.buffers.numbered.few))) in
      keeps_from p (stored_buffer j b p) _ (buffer_arrival j b p) (keeps_ended (stored_buffer j b p) (rw is v.lists) a (end_stored j b p a is h.2))
  change_keeps (StoredBlackboard j b) h z = keeps_same p _ (change_valid c k p v (StoredBlackboard j b) h).lists (idle_arrival c (StoredBlackboard j b) p v.lists h refl z)
  change_keeps (Ended u) h z = keeps_all served (waiters u p) p v.lists (waiters_created p v.lists u) (waiters_distinct p v.lists u)
  change_keeps (Handed u m) h z = keeps_all (handed m) (waiters u p) p v.lists (waiters_created p v.lists u) (waiters_distinct p v.lists u)
  change_keeps (LevelSet level holder) h z = keeps_same p _ v.lists refl
  change_keeps (Entered d) h z = keeps_from p (with_mode NormalMode p) _ refl (keeps_each (entered d) (with_mode NormalMode p) v.lists)

-- ---------------------------------------------------------------- one put last
pub last_arrives : (p : Partition) → ListedIn p → (id : ℕ) → ready_in p id ≡ true → Arrives id p (arrived_last id p)
unfolding arrived_last
last_arrives p v id h = record {
  joined = id ∷ [];
  order =
      ap (λ (q : Partition). members q.arrival) (arrived_plain p v id h) ∙ members_ids_of _
      ∙ ap (λ (l : List ℕ). l ++ (id ∷ [])) (kept_same (other id) (λ y. ready_in p y && other id y) (members p.arrival) (λ y c. sym (rw (sym (v.arrivals.exact y) ∙ c))));
}

-- from a partition with the same list
pub arrives_from : (moved : ℕ) (p p' q : Partition) → members p'.arrival ≡ members p.arrival → Arrives moved p' q → Arrives moved p q
arrives_from moved p p' q e h = record { joined = h.joined; order = h.order ∙ ap (λ (l : List ℕ). kept (λ y. ready_in q y && other moved y) l ++ h.joined) e }

-- two steps, of which the first leaves all READY who are
pub keeps_then : (p q r : Partition) → ListedIn p → ((y : ℕ) → ready_in p y ≡ true → ready_in q y ≡ true) → Keeps p q → Keeps q r → Keeps p r
keeps_then p q r v stays g h = record {
  joined = kept (ready_in r) g.joined ++ h.joined;
  order =
      h.order
      ∙ ap (λ (l : List ℕ). l ++ h.joined) (ap (kept (ready_in r)) g.order ∙ kept_append (ready_in r) (kept (ready_in q) (members p.arrival)) g.joined
      ∙ ap (λ (l : List ℕ). l ++ kept (ready_in r) g.joined) (kept_kept (ready_in r) (ready_in q) (members p.arrival) ∙ kept_same (λ y. ready_in r y && ready_in q y) (ready_in r) (members p.arrival) (λ y c. rw (stays y (sym (v.arrivals.exact y) ∙ c)) (and-true (ready_in r y)))))
      ∙ append_assoc (kept (ready_in r) (members p.arrival)) (kept (ready_in r) g.joined) h.joined;
}

-- ---------------------------------------------------------------- who joins
pub contains_append : (y : ℕ) (l k : List ℕ) → contains y (l ++ k) ≡ (contains y l || contains y k)
unfolding contains
contains_append y [] k = refl
contains_append y (x ∷ l) k = either (eqb x y) (λ e. rw e) (λ e. rw e (contains_append y l k))

-- one of the first part is not in the second
apart_append : (y : ℕ) (l k : List ℕ) → Distinct (l ++ k) → contains y k ≡ true → contains y l ≡ false
unfolding contains Distinct
apart_append y [] k d c = refl
apart_append y (x ∷ l) k d c = rw (ne_eqb x y (λ e. not_both _ (contains_append x l k ∙ ap (λ z. contains z l || contains z k) e ∙ rw c (or-true (contains y l))) d.0)) (apart_append y l k d.1 c)

-- READY now, moved, READY before, joins
joins_by : (now e was j : Bool) → now ≡ (((now && not e) && was) || j) → (j ≡ true → ((now && not e) && was) ≡ false) → j ≡ (now && (not was || e))
joins_by true true was true h f = sym (or-true (not was))
joins_by true true was false h f = absurd (true≢false h)
joins_by true false true true h f = not_both _ refl (f refl)
joins_by true false true false h f = refl
joins_by true false false true h f = refl
joins_by true false false false h f = sym h
joins_by false e was true h f = sym h
joins_by false e was false h f = refl

pub joins_in : (id₀ : ℕ) (o q : Partition) → ListedIn o → ListedIn q → (l : List ℕ) → members q.arrival ≡ kept (λ y. ready_in q y && other id₀ y) (members o.arrival) ++ l
    → (id : ℕ) → contains id l ≡ (ready_in q id && (not (ready_in o id) || eqb id id₀))
joins_in id₀ o q v u l order id =
    let f : ℕ → Bool = λ y. ready_in q y && other id₀ y in
    let a = kept f (members o.arrival) in
    let there : contains id a ≡ ((ready_in q id && not (eqb id id₀)) && ready_in o id) = contains_kept f id (members o.arrival) ∙ ap (λ (t : Bool). f id && t) (v.arrivals.exact id) in
    joins_by (ready_in q id) (eqb id id₀) (ready_in o id) (contains id l)
    (sym (u.arrivals.exact id) ∙ ap (contains id) order ∙ contains_append id a l ∙ ap (λ (t : Bool). t || contains id l) there)
    (λ c. sym there ∙ apart_append id a l (rw order at u.arrivals.distinct) c)

-- ---------------------------------------------------------------- who stands before whom
pub precedes_kept : (f : ℕ → Bool) (a b : ℕ) → f a ≡ true → f b ≡ true → (l : List ℕ) → precedes a b l ≡ true → precedes a b (kept f l) ≡ true
unfolding precedes kept
precedes_kept f a b fa fb [] h = h
precedes_kept f a b fa fb (x ∷ l) h = either (eqb x a)
    (λ e.
    let is = eqb-true x a e in
    let c : contains b l ≡ true = rw e at h in
    rw (ap f is ∙ fa, e) (contains_kept f b l ∙ rw (fb, c)))
    (λ e. let g = precedes_kept f a b fa fb l (rw e at h) in by_kept (f x) e g)
  where
    by_kept : (t : Bool) → eqb x a ≡ false → precedes a b (kept f l) ≡ true → precedes a b (kept_if t x (kept f l)) ≡ true
    by_kept true e g = rw e g
    by_kept false e g = g

pub precedes_first : (a b : ℕ) (l k : List ℕ) → precedes a b l ≡ true → precedes a b (l ++ k) ≡ true
unfolding precedes
precedes_first a b [] k h = not_both _ h refl
precedes_first a b (x ∷ l) k h = either (eqb x a)
    (λ e. rw (e, contains_append b l k) (let c : contains b l ≡ true = rw e at h in rw c))
    (λ e. rw e (precedes_first a b l k (rw e at h)))

pub precedes_across : (a b : ℕ) (l k : List ℕ) → contains a l ≡ true → contains b k ≡ true → precedes a b (l ++ k) ≡ true
unfolding precedes contains
precedes_across a b [] k c d = not_both _ c refl
precedes_across a b (x ∷ l) k c d = either (eqb x a)
    (λ e. rw (e, contains_append b l k, d) (or-true (contains b l)))
    (λ e. rw e (precedes_across a b l k (rw e at c) d))
