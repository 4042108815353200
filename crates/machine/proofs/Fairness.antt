-- What a call makes available was so before, or nobody waits for it. Assumes nothing.
use Rattle.machine.specs.declared.Mode.TheVariants.{Normal as NormalMode}
use Rattle.std.specs.Prelude.{is_some}
use Prim.Native.Nat.{ℕ, ◌+◌, ◌-◌, ◌≤◌, ◌<◌}
use mathlib.Core.Path.{◌≡◌, refl, ap, sym, ◌∙◌}
use mathlib.Core.Bool.{Bool, true, false}
use mathlib.Core.List.{List, [], ◌∷◌}
use mathlib.Core.Logic.{◌⊎◌, inl, inr, ⊎_elim}
use native.Mathlib.Omega.{arith}
use lib.ListN.{length, get_or, set}
use lib.Dec.{eqb, ltb}
use borrow.Author.Tests.{eq-eqb, ne_eqb, eqb-true, ltb-true}
use Rattle.machine.specs.declared.Process.{Process}
use Rattle.machine.specs.declared.Partition.{Partition}
use Rattle.machine.specs.declared.Context.{Context}
use Rattle.machine.specs.declared.Port.{Port}
use Rattle.machine.specs.declared.Semaphore.{Semaphore as SemaphoreT}
use Rattle.machine.specs.declared.EventState.{EventState}
use Rattle.machine.specs.declared.Buffer.{Buffer}
use Rattle.machine.specs.declared.Blackboard.{Blackboard as BlackboardT}
use Rattle.machine.specs.declared.Transfer.{Transfer}
use Rattle.machine.specs.declared.Transfer.TheVariants.{Put, HandedTo, Taken, LetIn}
use Rattle.machine.specs.declared.Change.{Change}
use Rattle.machine.specs.declared.Change.TheVariants.{Nothing, Stored, Created, Last, StoredSemaphore, StoredEvent, CreatedBuffer, Moved, StoredBlackboard, Ended, Handed, LevelSet, Entered}
use Rattle.machine.specs.declared.Decision.{Decision}
use Rattle.machine.specs.declared.Decision.TheVariants.{Refused, Unchanged, Ticked, Blocked, Changed, Restarted, Written, Passed as PassedOn}
use Rattle.machine.specs.declared.Wait.{Wait}
use Rattle.machine.specs.Limits.{process_limit, semaphore_limit, event_limit, buffer_limit, blackboard_limit, duration_limit}
use Rattle.machine.specs.Messages.{sent, received, moved}
use Rattle.machine.specs.Process.{Class, class_of, object_in, object, carried, served, handed, entered}
use Rattle.machine.specs.Partition.{within, by_id, no_semaphore, no_event, no_buffer, no_blackboard, process, buffer, normal_mode, moved_in, ended_by, first_waiter, with_mode, stored_semaphore, stored_event, stored_buffer, stored_blackboard, created, arrived_last, waiters, changed_all, entered_normal, applied}
use Rattle.machine.specs.Decisions.{changed}
use Rattle.machine.specs.Objects.{signalled}
use Rattle.machine.specs.Buffers.{has_room, holds}
use Rattle.machine.specs.Channels.{queuing}
use Rattle.machine.specs.Ids.{kept}
use Rattle.machine.specs.Theorems.Valid.{Between, contains, KnownWait, SoundBuffer, SoundMove, SoundEnd, ListedIn, setting_of, Valid, SoundContext, SoundProcess}
use Rattle.machine.specs.Theorems.Queues.{available, queue_number, SameObjects}
use Rattle.machine.proofs.Tests.{by_test, not_both}
use Rattle.machine.proofs.Bounds.{same_or_not, within_in, within_out, named_out, named_same, named_other, semaphore_in, semaphore_out, event_in, event_out, buffer_in, buffer_out, blackboard_in, blackboard_out}
use Rattle.machine.proofs.Either.{either}
use Rattle.machine.proofs.Messages.{let_in_length}
use Rattle.machine.proofs.Keeping.{AllCreated, stored_rest, changed_rest, each_rest}
use Rattle.machine.proofs.Kept.{waiters_created, waiters_exact, sent_sound, received_sound, end_stored}
use Rattle.machine.proofs.Orders.{rest_objects, same_objects, Part, ended_part, semaphore_queue, buffer_queue, ended_queue}

-- ---------------------------------------------------------------- objects that stay
along_objects : (p q r : Partition) → SameObjects p q → SameObjects q r → SameObjects p r
along_objects p q r a b = record {
  semaphores = b.semaphores ∙ a.semaphores;
  events = b.events ∙ a.events;
  buffers = b.buffers ∙ a.buffers;
  blackboards = b.blackboards ∙ a.blackboards;
}

-- a change that stores no object
abbrev pub OnProcesses : Change → Type 0
OnProcesses Nothing = Unit {0}
OnProcesses (Stored id x) = Unit {0}
OnProcesses (Created id x) = Unit {0}
OnProcesses (Last id) = Unit {0}
OnProcesses (StoredSemaphore k s) = ⊥
OnProcesses (StoredEvent k e) = ⊥
OnProcesses (CreatedBuffer k name limit) = ⊥
OnProcesses (Moved k a) = ⊥
OnProcesses (StoredBlackboard k b) = ⊥
OnProcesses (Ended o) = Unit {0}
OnProcesses (Handed o m) = Unit {0}
OnProcesses (LevelSet level holder) = Unit {0}
OnProcesses (Entered c) = Unit {0}

pub objects_stay : (a : Change) → OnProcesses a → (p : Partition) → ListedIn p → SameObjects p (applied a p)
unfolding created arrived_last entered_normal
objects_stay Nothing h p v = same_objects p
objects_stay (Stored id x) h p v = rest_objects p _ (stored_rest p id x)
objects_stay (Created id x) h p v = by_test (SameObjects p) (within process_limit id) (λ _. record { semaphores = refl; events = refl; buffers = refl; blackboards = refl }) (λ _. same_objects p)
objects_stay (Last id) h p v = record { semaphores = refl; events = refl; buffers = refl; blackboards = refl }
objects_stay (StoredSemaphore k s) h p v = absurd h
objects_stay (StoredEvent k e) h p v = absurd h
objects_stay (CreatedBuffer k name limit) h p v = absurd h
objects_stay (Moved k a) h p v = absurd h
objects_stay (StoredBlackboard k b) h p v = absurd h
objects_stay (Ended o) h p v = rest_objects p _ (changed_rest served (waiters o p) p)
objects_stay (Handed o m) h p v = rest_objects p _ (changed_rest (handed m) (waiters o p) p)
objects_stay (LevelSet level holder) h p v = record { semaphores = refl; events = refl; buffers = refl; blackboards = refl }
objects_stay (Entered c) h p v = along_objects p (with_mode NormalMode p) _ (record { semaphores = refl; events = refl; buffers = refl; blackboards = refl }) (rest_objects (with_mode NormalMode p) _ (each_rest (entered c) (with_mode NormalMode p) v))

pub available_same : (p q : Partition) → SameObjects p q → (kind k : ℕ) → available kind k q ≡ available kind k p
available_same p q s kind k = rw (s.semaphores, s.events, s.buffers, s.blackboards)

-- the wait that a transfer ends
pub ended_objects : (a : Transfer) (p : Partition) → SameObjects p (ended_by a p)
ended_objects (Put m) p = same_objects p
ended_objects (HandedTo id m) p = rest_objects p _ (stored_rest p id (handed m (process id p)))
ended_objects Taken p = same_objects p
ended_objects (LetIn id m) p = rest_objects p _ (stored_rest p id (served (process id p)))

-- ---------------------------------------------------------------- one object stored
-- a test that holds of object k after object j has been stored held before, or it is that one
stored_test : {A : Type 0} (limit : ℕ) (d : A) (l : List A) → length l ≡ limit → (j k : ℕ) → within limit j ≡ true → (a : A) (f : A → Bool) → f (by_id limit d k (set l (j - 1) a)) ≡ true → (f (by_id limit d k l) ≡ true) ⊎ ((k ≡ j) × (f a ≡ true))
stored_test limit d l size j k e a f h =
    let b = within_out limit j e in
    ⊎_elim
    (λ (i : k ≡ j). inr (i, rw (i, named_same limit d j a l b.0 b.1 (omega (arith, b.1, size))) at h))
    (λ (ne : k ≡ j → ⊥). inl (rw (named_other limit d j a l b.0 k ne) at h))
    (same_or_not k j)

-- what is available after an object of a family has been stored was so before, or is that object
module _ (frame t : ℕ) (p : Partition) (v : Valid frame t p) (kind k j : ℕ) where
  pub semaphore_available : (s : SemaphoreT) → available kind k (stored_semaphore j s p) ≡ true → (available kind k p ≡ true) ⊎ ((kind ≡ 1) × (k ≡ j) × (ltb 0 s.value ≡ true))
  semaphore_available s h = either (within semaphore_limit j)
      (λ e.
      let g = rw (semaphore_in j s p e) at h in
      either (eqb kind 1)
      (λ w.
      let is = eqb-true kind 1 w in
      ⊎_elim (λ y. inl (rw is y)) (λ y. inr (is, y.0, y.1)) (stored_test semaphore_limit no_semaphore p.semaphores v.objects.semaphores.numbered.size j k e s (λ (x : SemaphoreT). ltb 0 x.value) (rw is at g)))
      (λ w. inl (rw w (rw w at g))))
      (λ e. inl (rw (semaphore_out j s p e) at h))

  pub event_available : (s : EventState) → available kind k (stored_event j s p) ≡ true → (available kind k p ≡ true) ⊎ ((kind ≡ 2) × (k ≡ j) × (s.up ≡ true))
  event_available s h = either (within event_limit j)
      (λ e.
      let g = rw (event_in j s p e) at h in
      either (eqb kind 2)
      (λ w.
      let is = eqb-true kind 2 w in
      ⊎_elim (λ y. inl (rw is y)) (λ y. inr (is, y.0, y.1)) (stored_test event_limit no_event p.events v.objects.events.numbered.size j k e s (λ (x : EventState). x.up) (rw is at g)))
      (λ w. inl (rw w (rw w at g))))
      (λ e. inl (rw (event_out j s p e) at h))

  pub buffer_available : (s : Buffer) → available kind k (stored_buffer j s p) ≡ true → (available kind k p ≡ true) ⊎ (((kind ≡ 3) × (k ≡ j) × (has_room s ≡ true)) ⊎ ((kind ≡ 4) × (k ≡ j) × (holds s ≡ true)))
  buffer_available s h = either (within buffer_limit j)
      (λ e.
      let g = rw (buffer_in j s p e) at h in
      let size = v.objects.buffers.numbered.size in
      either (eqb kind 3)
      (λ w.
      let is = eqb-true kind 3 w in
      ⊎_elim (λ y. inl (rw is y)) (λ y. inr (inl (is, y.0, y.1))) (stored_test buffer_limit no_buffer p.buffers size j k e s has_room (rw is at g)))
      (λ w. either (eqb kind 4)
      (λ u.
      let is = eqb-true kind 4 u in
      ⊎_elim (λ y. inl (rw is y)) (λ y. inr (inr (is, y.0, y.1))) (stored_test buffer_limit no_buffer p.buffers size j k e s holds (rw is at g)))
      (λ u. inl (rw (w, u) (rw (w, u) at g)))))
      (λ e. inl (rw (buffer_out j s p e) at h))

  pub blackboard_available : (s : BlackboardT) → available kind k (stored_blackboard j s p) ≡ true → (available kind k p ≡ true) ⊎ ((kind ≡ 5) × (k ≡ j) × (is_some s.message ≡ true))
  blackboard_available s h = either (within blackboard_limit j)
      (λ e.
      let g = rw (blackboard_in j s p e) at h in
      either (eqb kind 5)
      (λ w.
      let is = eqb-true kind 5 w in
      ⊎_elim (λ y. inl (rw is y)) (λ y. inr (is, y.0, y.1)) (stored_test blackboard_limit no_blackboard p.blackboards v.objects.blackboards.numbered.size j k e s (λ (x : BlackboardT). is_some x.message) (rw is at g)))
      (λ w. inl (rw w (rw w at g))))
      (λ e. inl (rw (blackboard_out j s p e) at h))

-- ---------------------------------------------------------------- objects that have not been created
-- none is available
past_limit : {A : Type 0} (limit : ℕ) (d : A) (l : List A) (k : ℕ) (f : A → Bool) → f d ≡ false → f (by_id limit d k l) ≡ true → k ≤ limit
past_limit limit d l k f none h = either (within limit k)
    (λ e. (within_out limit k e).1)
    (λ e. not_both _ (rw (named_out limit k d l e) at h) none)

pub available_low : (kind k : ℕ) (p : Partition) → available kind k p ≡ true → (1 ≤ kind) × (k ≤ 8) × (kind ≤ 5)
available_low kind k p h =
    either (eqb kind 1) (λ w. let is = eqb-true kind 1 w in (omega arith, past_limit semaphore_limit no_semaphore p.semaphores k (λ (x : SemaphoreT). ltb 0 x.value) refl (rw is at h), omega arith)) λ w1.
    either (eqb kind 2) (λ w. let is = eqb-true kind 2 w in (omega arith, past_limit event_limit no_event p.events k (λ (x : EventState). x.up) refl (rw is at h), omega arith)) λ w2.
    either (eqb kind 3) (λ w. let is = eqb-true kind 3 w in (omega arith, past_limit buffer_limit no_buffer p.buffers k has_room refl (rw is at h), omega arith)) λ w3.
    either (eqb kind 4) (λ w. let is = eqb-true kind 4 w in (omega arith, past_limit buffer_limit no_buffer p.buffers k holds refl (rw is at h), omega arith)) λ w4.
    either (eqb kind 5) (λ w. let is = eqb-true kind 5 w in (omega arith, past_limit blackboard_limit no_blackboard p.blackboards k (λ (x : BlackboardT). is_some x.message) refl (rw is at h), omega arith)) λ w5.
    not_both _ (rw (w1, w2, w3, w4, w5) at h) refl

-- and nobody waits for one
pub counts_low : (frame t : ℕ) (p : Partition) → Valid frame t p → (kind : ℕ) → (setting_of frame t p).counts kind ≤ 16
counts_low frame t p v kind =
    by_test (λ (n : ℕ). n ≤ 16) (eqb kind 1) (λ _. omega (arith, v.objects.semaphores.numbered.few)) λ _.
    by_test (λ (n : ℕ). n ≤ 16) (eqb kind 2) (λ _. omega (arith, v.objects.events.numbered.few)) λ _.
    by_test (λ (n : ℕ). n ≤ 16) (eqb kind 3) (λ _. omega (arith, v.objects.buffers.numbered.few)) λ _.
    by_test (λ (n : ℕ). n ≤ 16) (eqb kind 4) (λ _. omega (arith, v.objects.buffers.numbered.few)) λ _.
    by_test (λ (n : ℕ). n ≤ 16) (eqb kind 5) (λ _. omega (arith, v.objects.blackboards.numbered.few)) λ _.
    by_test (λ (n : ℕ). n ≤ 16) (eqb kind 6) (λ _. omega arith) λ _.
    by_test (λ (n : ℕ). n ≤ 16) (eqb kind 7) (λ _. omega arith) λ _. omega arith

class_known : (counts : ℕ → ℕ) → ((kind : ℕ) → counts kind ≤ 16) → (c : Class) → KnownWait counts c → (kind k : ℕ) → 1 ≤ kind → k ≤ 255 → object_in c ≡ queue_number kind k → Between 1 (counts kind) k
class_known counts low Class.nothing h kind k some few e = absurd (omega arith)
class_known counts low Class.normal h kind k some few e = absurd h
class_known counts low Class.timer h kind k some few e = absurd (omega arith)
class_known counts low Class.release h kind k some few e = absurd (omega arith)
class_known counts low (Class.onto kind' k' m) h kind k some few e =
    let l = low kind' in
    let a : kind' ≡ kind = omega (arith, h.0.1) in
    let b : k' ≡ k = omega (arith, h.0.1) in
    rw (a, b) at h.0

-- a process that waits on an object is started, in NORMAL
pub wait_known : (frame t : ℕ) (p : Partition) (x : Process) → SoundProcess (setting_of frame t p) x → (object x.wait ≡ 0 → ⊥) → KnownWait (setting_of frame t p).counts (class_of x.wait)
wait_known frame t p x h some = either x.started
    (λ s. either (normal_mode p)
    (λ n. (h.going s n).wait)
    (λ n. absurd (some (ap object (h.early s n).wait))))
    (λ s. absurd (some (ap object (h.dormant s).wait)))

-- and its object has been created
pub waits_known : (frame t : ℕ) (p : Partition) → Valid frame t p → (id kind k : ℕ) → Between 1 p.process_count id → 1 ≤ kind → k ≤ 255 → object (process id p).wait ≡ queue_number kind k → Between 1 ((setting_of frame t p).counts kind) k
waits_known frame t p v id kind k b some few e =
    let x = process id p in
    class_known _ (counts_low frame t p v) (class_of x.wait) (wait_known frame t p x (v.each_process id b) (λ z. omega arith)) kind k some few e

pub none_in : (l : List ℕ) → ((id : ℕ) → contains id l ≡ true → ⊥) → l ≡ []
unfolding contains
none_in [] h = refl
none_in (x ∷ l) h = absurd (h x (rw (eq-eqb x x refl)))

-- a list of ids of processes that have been created has a first, or is empty
pub none_first : {n : ℕ} (l : List ℕ) → AllCreated l n → get_or l 0 0 ≡ 0 → l ≡ []
unfolding contains
none_first [] all e = refl
none_first (x ∷ l) all e = absurd (let b = all x (rw (eq-eqb x x refl)) in omega (arith, b.0))

pub unknown_unwaited : (frame t : ℕ) (p : Partition) → Valid frame t p → (kind k : ℕ) → 1 ≤ kind → k ≤ 255 → (setting_of frame t p).counts kind < k → waiters (queue_number kind k) p ≡ []
unknown_unwaited frame t p v kind k some few past = none_in (waiters (queue_number kind k) p) (λ id c.
    let b = waiters_created p v.lists (queue_number kind k) id c in
    let e : object (process id p).wait ≡ queue_number kind k = eqb-true _ _ (sym (waiters_exact p v.lists (queue_number kind k) (λ z. omega arith) id) ∙ c) in
    let r = waits_known frame t p v id kind k b some few e in
    omega (arith, r.1))

-- a part of a list with nothing in it
pub part_none : (l k : List ℕ) → l ≡ [] → Part l k → k ≡ []
unfolding kept
part_none l k e a = a.is ∙ ap (kept a.by) e

-- ---------------------------------------------------------------- what calls decide
-- what is available after a change was so before, or nobody waits for it
abbrev pub AfterChange : Partition → Partition → Type 0
AfterChange p q = (kind k : ℕ) → available kind k q ≡ true → (available kind k p ≡ true) ⊎ (waiters (queue_number kind k) q ≡ [])

-- a caller waits with a message at the source of a queuing channel by 30 alone, where there is no room, and for one at the destination by 31 alone,
-- where there is none
pub record WaitsAtSource (x : Port) (n k : ℕ) : Type 0 where
  pub call : n ≡ 30
  pub place : k ≡ x.place + 1
  pub there : x.exists ≡ true
  pub kind : queuing x.channel ≡ true
  pub source : x.channel.source ≡ x.own
  pub full : x.channel.size ≤ x.traffic.len

pub record WaitsAtDestination (x : Port) (n k : ℕ) : Type 0 where
  pub call : n ≡ 31
  pub place : k ≡ x.place + 1
  pub there : x.exists ≡ true
  pub kind : queuing x.channel ≡ true
  pub destination : x.channel.destination ≡ x.own
  pub empty : x.traffic.len ≡ 0

abbrev pub AtEnd : Port → ℕ → ℕ → Type 0
AtEnd x n o = ((k : ℕ) → k ≤ 255 → o ≡ queue_number 6 k → WaitsAtSource x n k) × ((k : ℕ) → k ≤ 255 → o ≡ queue_number 7 k → WaitsAtDestination x n k)

-- a caller waits only for what is not there, on the object with this number
abbrev pub NotThere : Port → ℕ → Partition → ℕ → Type 0
NotThere x n p o = ((kind k : ℕ) → available kind k p ≡ true → eqb o (queue_number kind k) ≡ false) × AtEnd x n o

module _ (x : Port) (n : ℕ) where
  abbrev pub Fair : Partition → Decision → Type 0
  Fair p (Refused code) = Unit {0}
  Fair p (Unchanged value extra) = Unit {0}
  Fair p Ticked = Unit {0}
  Fair p (Blocked id y) = NotThere x n p (object y.wait)
  Fair p (Changed a b value) = AfterChange p (applied b (applied a p))
  Fair p (Restarted mode) = Unit {0}
  Fair p (Written i y) = Unit {0}
  Fair p (PassedOn i a value) = Unit {0}

  pub record IsFair (p : Partition) (d : Decision) : Type 0 where
    pub is : Fair p d

module _ (c : Context) (p : Partition) (v : Valid c.frame c.time p) (s : SoundContext c p) (x : Port) (n : ℕ) where
  -- two changes of processes
  pub by_processes : (a b : Change) (value : ℕ) → OnProcesses a → OnProcesses b → ListedIn (applied a p) → Fair x n p (Changed a b value)
  by_processes a b value f g w kind k h = inl (sym (available_same p _ (along_objects p (applied a p) _ (objects_stay a f p v.lists) (objects_stay b g (applied a p) w)) kind k) ∙ h)

  pub one_process : (a : Change) → OnProcesses a → Fair x n p (changed a)
  one_process a f kind k h = inl (sym (available_same p _ (objects_stay a f p v.lists) kind k) ∙ h)

  -- one that waits on no object
  pub no_object : (o : ℕ) → o ≡ 0 → NotThere x n p o
  no_object o z = (
    λ kind k h. let r = available_low kind k p h in rw z (ne_eqb 0 (queue_number kind k) (λ e. omega (arith, r.0))),
    (λ k few e. absurd (omega (arith, z)), λ k few e. absurd (omega (arith, z))),
  )

  -- one that waits on an object of the partition that is not available
  pub on_object_holds : (o kind j : ℕ) → o ≡ queue_number kind j → j ≤ 8 → kind ≤ 5 → available kind j p ≡ false → NotThere x n p o
  on_object_holds o kind j is few low none = (
    λ kind' k h. ne_eqb o (queue_number kind' k) (λ e.
        let r = available_low kind' k p h in
        let a : kind' ≡ kind = omega (arith, r.0, r.1, is) in
        let b : k ≡ j = omega (arith, r.0, r.1, is) in
        not_both _ (rw (a, b) at h) none),
    (λ k _ e. absurd (omega (arith, is)), λ k _ e. absurd (omega (arith, is))),
  )

  -- nobody waits where there is no first
  pub no_first : (o : ℕ) → eqb (first_waiter o p) 0 ≡ true → waiters o p ≡ []
  no_first o e = none_first (waiters o p) (waiters_created p v.lists o) (eqb-true _ 0 e)

  -- an object created: nobody waits for it
  pub created_free : (kind count n : ℕ) → 1 ≤ kind → count ≤ 7 → (setting_of c.frame c.time p).counts kind ≡ count → n ≡ count + 1 → waiters (queue_number kind n) p ≡ []
  created_free kind count n some low is e = unknown_unwaited c.frame c.time p v kind n some (omega arith) (omega arith)

  -- the queue of an object after an object has been stored
  abbrev lists : ListedIn p
  lists = v.lists

  -- a store of an object after which all waits on it end, each process changed by f
  pub all_end : (q : Partition) → ListedIn q → (f : Process → Process) → ((x : Process) → object (f x).wait ≡ 0) → (kind j : ℕ) → 1 ≤ kind
      → ((kind' k : ℕ) → available kind' k q ≡ true → (available kind' k p ≡ true) ⊎ ((kind' ≡ kind) × (k ≡ j)))
      → AfterChange p (changed_all f (waiters (queue_number kind j) q) q)
  all_end q w f ends kind j some stores kind' k t =
      let o = queue_number kind j in
      ⊎_elim inl
      (λ y. inr (rw (y.0, y.1) (ended_queue q w o (λ z. omega arith) f ends)))
      (stores kind' k (sym (available_same q _ (rest_objects q _ (changed_rest f (waiters o q) q)) kind' k) ∙ t))

  -- SIGNAL
  pub signalled_fair : (l : List ℕ) (j : ℕ) → waiters (queue_number 1 j) p ≡ l → Fair x n p (changed (signalled l j p))
  unfolding signalled
  signalled_fair [] j e = λ kind k t. ⊎_elim inl (λ y. inr (rw (y.0, y.1) (semaphore_queue p lists (queue_number 1 j) (λ z. omega arith) j _ ∙ e))) (semaphore_available c.frame c.time p v kind k j _ t)
  signalled_fair (id ∷ l) j e = one_process (Stored id (served (process id p))) tt

  -- a transfer of a buffer's messages after which there is room only where there was, or nobody waits to send, and a message likewise
  pub move_fair : (j : ℕ) → Between 1 p.buffer_count j → (a : Transfer) → SoundEnd p a
      → (has_room (moved_in a (buffer j p)) ≡ true → (has_room (buffer j p) ≡ true) ⊎ (waiters (queue_number 3 j) p ≡ []))
      → (holds (moved_in a (buffer j p)) ≡ true → (holds (buffer j p) ≡ true) ⊎ (waiters (queue_number 4 j) p ≡ []))
      → AfterChange p (applied (Moved j a) p)
  move_fair j b a sound room message kind k t =
      let m = moved_in a (buffer j p) in
      let q = stored_buffer j m p in
      let is = buffer_in j m p (within_in buffer_limit j b.0 (omega (arith, b.1, v.objects.buffers.numbered.few))) in
      let w : ListedIn q = rw is lists in
      let end : SoundEnd q a = end_stored j m p a is sound in
      let stays : (o : ℕ) → (o ≡ 0 → ⊥) → waiters o p ≡ [] → waiters o (ended_by a q) ≡ [] = λ o some e. part_none _ _ (buffer_queue p lists o some j m ∙ e) (ended_part o some q w a end) in
      ⊎_elim inl
      (⊎_elim
      (λ y. ⊎_elim (λ h. inl (rw (y.0, y.1) h)) (λ e. inr (rw (y.0, y.1) (stays (queue_number 3 j) (λ z. omega arith) e))) (room y.2))
      (λ y. ⊎_elim (λ h. inl (rw (y.0, y.1) h)) (λ e. inr (rw (y.0, y.1) (stays (queue_number 4 j) (λ z. omega arith) e))) (message y.2)))
      (buffer_available c.frame c.time p v kind k j m (sym (available_same q _ (ended_objects a q) kind k) ∙ t))

  module _ (j : ℕ) (b : Between 1 p.buffer_count j) where
    abbrev it : Buffer
    it = buffer j p

    sound : SoundBuffer it
    sound = v.objects.buffers.each j b

    pub sent_fair : (m : ℕ) → m ≤ duration_limit → has_room it ≡ true → AfterChange p (applied (Moved j (sent (first_waiter (queue_number 4 j) p) m)) p)
    unfolding sent
    sent_fair m few h =
        let o = queue_number 4 j in
        by_test (λ (a : Transfer). SoundEnd p a → AfterChange p (applied (Moved j a) p)) (eqb (first_waiter o p) 0)
        (λ e g. move_fair j b (Put m) g (λ _. inl h) (λ _. inr (no_first o e)))
        (λ e g. move_fair j b (HandedTo (first_waiter o p) m) g inl inl)
        (sent_sound p lists o it.limit it.queue m (ltb-true _ _ h) few).1

    pub received_fair : holds it ≡ true → AfterChange p (applied (Moved j (received (first_waiter (queue_number 3 j) p) (carried (process (first_waiter (queue_number 3 j) p) p)))) p)
    unfolding received
    received_fair h =
        let o = queue_number 3 j in
        let m = carried (process (first_waiter o p) p) in
        by_test (λ (a : Transfer). SoundMove it.limit it.queue a × SoundEnd p a → AfterChange p (applied (Moved j a) p)) (eqb (first_waiter o p) 0)
        (λ e g. move_fair j b Taken g.1 (λ _. inr (no_first o e)) (λ _. inl h))
        (λ e g.
        let same : (moved (LetIn (first_waiter o p) m) it.queue).len ≡ it.queue.len = let_in_length it.limit it.queue sound.queue sound.limit.1 (first_waiter o p) m g.0 in
        move_fair j b (LetIn (first_waiter o p) m) g.1 (λ t. inl (rw same at t)) (λ _. inl h))
        (received_sound c.frame c.time p v o it.limit it.queue (ltb-true 0 _ h))

  -- ------------------------------------------------------------ queuing channels
  -- the caller waits at an end: for nothing that is the partition's
  pub at_end_holds : (w : Wait) (kind j : ℕ) → object w ≡ queue_number kind j → 6 ≤ kind → (kind k : ℕ) → available kind k p ≡ true → eqb (object w) (queue_number kind k) ≡ false
  at_end_holds w kind j is high kind' k h = let r = available_low kind' k p h in ne_eqb (object w) (queue_number kind' k) (λ e. omega (arith, is, r.1, r.2))
