-- What a change makes of a queue, and what it means that a call decides in order: over the number of an object. Assumes nothing.
use Rattle.machine.specs.declared.Mode.TheVariants.{Normal as NormalMode}
use Prim.Native.Nat.{ℕ, ◌+◌}
use mathlib.Core.Path.{◌≡◌, refl, ap, sym, ◌∙◌}
use mathlib.Core.Bool.{Bool, true, false, cond, not, ◌&&◌, and-true, and-false, or-true}
use mathlib.Core.List.{List, [], ◌∷◌, ◌++◌, append-nil}
use mathlib.Core.Logic.{inl, inr, ⊎_elim}
use native.Mathlib.Omega.{arith}
use lib.Dec.{eqb}
use borrow.Author.Tests.{eq-eqb, ne_eqb, eqb-true, not-false}
use Rattle.machine.specs.declared.Ids.{Ids}
use Rattle.machine.specs.declared.Process.{Process}
use Rattle.machine.specs.declared.Partition.{Partition}
use Rattle.machine.specs.declared.Context.{Context}
use Rattle.machine.specs.declared.Change.{Change}
use Rattle.machine.specs.declared.Change.TheVariants.{Nothing, Stored, Created, Last, StoredSemaphore, StoredEvent, CreatedBuffer, Moved, StoredBlackboard, Ended, Handed, LevelSet, Entered}
use Rattle.machine.specs.declared.Transfer.{Transfer}
use Rattle.machine.specs.declared.Transfer.TheVariants.{Put, HandedTo, Taken, LetIn}
use Rattle.machine.specs.declared.Decision.{Decision}
use Rattle.machine.specs.declared.Decision.TheVariants.{Refused, Unchanged, Ticked, Blocked, Changed, Restarted, Written, Passed as PassedOn}
use Rattle.machine.specs.declared.Semaphore.{Semaphore as SemaphoreT}
use Rattle.machine.specs.declared.EventState.{EventState}
use Rattle.machine.specs.declared.Buffer.{Buffer}
use Rattle.machine.specs.declared.Blackboard.{Blackboard as BlackboardT}
use Rattle.machine.specs.Limits.{process_limit, semaphore_limit, event_limit, buffer_limit, blackboard_limit}
use Rattle.machine.specs.Ids.{members, kept, other}
use Rattle.machine.specs.Process.{Class, class_of, object_in, for_normal, blank_process, object, on_object, periodic, ready, due, waits_for_normal, only_marked, served, handed, woken, expired, ticked, entered, start_rule}
use Rattle.machine.specs.Partition.{within, normal_mode, process, stored, created, stored_semaphore, stored_event, stored_buffer, stored_blackboard, empty_buffer, moved_in, ended_by, buffer, arrived_last, with_lock, changed_all, waits_on, waiters, applied, tick_partition, entered_normal, with_mode, each}
use Rattle.machine.specs.Objects.{signalled}
use Rattle.machine.specs.Theorems.Valid.{Between, contains, ListedIn, Valid, SoundEnd, SoundChange}
use Rattle.machine.specs.Theorems.Plain.{plain_by_id, followed, plain_stored}
use Rattle.machine.specs.Theorems.Queues.{SameObjects, Queue, KeepsOrEnds, NotExchanged, QueueChanges}
use Rattle.machine.proofs.Tests.{by_test, not_both}
use Rattle.machine.proofs.Bounds.{same_or_not, within_in, within_out, named_same, named_other, buffer_in, created_in, created_out}
use Rattle.machine.proofs.Either.{either}
use Rattle.machine.proofs.Lists.{members_ids_of, kept_snoc}
use Rattle.machine.proofs.Tracking.{contains_kept, kept_same, kept_kept, kept_all, kept_no}
use Rattle.machine.proofs.Keeping.{Rest, process_other, process_stored, stored_rest, rest_count, stored_listed, each_changed, from_range, changed_listed, changed_process, each_listed, each_process_holds, AllCreated}
use Rattle.machine.proofs.Sound.{ready_off}
use Rattle.machine.proofs.Kept.{waiters_distinct, waiters_exact, waiters_created, end_stored}
use Rattle.machine.proofs.Stored.{by_id_plain, stored_plain}

-- ---------------------------------------------------------------- objects that stay
-- a change of processes alone leaves the objects
pub rest_objects : (p q : Partition) → Rest p q → SameObjects p q
rest_objects p q e = record {
  semaphores = ap (λ (r : Partition). r.semaphores) e;
  events = ap (λ (r : Partition). r.events) e;
  buffers = ap (λ (r : Partition). r.buffers) e;
  blackboards = ap (λ (r : Partition). r.blackboards) e;
}

pub same_objects : (p : Partition) → SameObjects p p
same_objects p = record { semaphores = refl; events = refl; buffers = refl; blackboards = refl }

-- ---------------------------------------------------------------- a process stored
pub followed_same : (b : Bool) (id : ℕ) (l : List ℕ) → followed b b id l ≡ l
followed_same true id l = refl
followed_same false id l = refl

-- one that waits on no object does not wait on o
off_object : (o : ℕ) → (o ≡ 0 → ⊥) → (x : Process) → on_object x ≡ false → eqb (object x.wait) o ≡ false
off_object o some x h = ne_eqb (object x.wait) o (λ e. some (sym e ∙ eqb-true _ 0 (not-false _ h)))

pub on_some : (x : Process) → on_object x ≡ true → object x.wait ≡ 0 → ⊥
on_some x h e = not_both _ h (rw e)

module _ (p : Partition) (v : ListedIn p) (id : ℕ) (b : Between 1 p.process_count id) (x : Process) where
  -- the two lists follow
  old_is : plain_by_id blank_process id p.processes ≡ process id p
  old_is = sym (by_id_plain process_limit blank_process p.processes v.numbered.size id)

  pub stored_waiting : members (stored id x p).waiting ≡ followed (on_object (process id p)) (on_object x) id (members p.waiting)
  unfolding plain_stored
  stored_waiting = ap (λ (q : Partition). members q.waiting) (stored_plain p v id b x) ∙ members_ids_of _ ∙ ap (λ (y : Process). followed (on_object y) (on_object x) id (members p.waiting)) old_is

  pub stored_arrival : members (stored id x p).arrival ≡ followed (ready (process id p)) (ready x) id (members p.arrival)
  unfolding plain_stored
  stored_arrival = ap (λ (q : Partition). members q.arrival) (stored_plain p v id b x) ∙ members_ids_of _ ∙ ap (λ (y : Process). followed (ready y) (ready x) id (members p.arrival)) old_is

  module _ (o : ℕ) (some : o ≡ 0 → ⊥) where
    abbrev waits : ℕ → Bool
    waits y = waits_on o (stored id x p) y

    abbrev waited : ℕ → Bool
    waited y = waits_on o p y

    abbrev list : List ℕ
    list = members p.waiting

    waits_other : (y : ℕ) → (y ≡ id → ⊥) → waits y ≡ waited y
    waits_other y ne = ap (λ (z : Process). eqb (object z.wait) o) (process_other p id x y ne)

    pub waits_same : waits id ≡ eqb (object x.wait) o
    waits_same = ap (λ (z : Process). eqb (object z.wait) o) (process_stored p id x v b)

    -- where it is not in the waiting list, nothing changes for those who are
    without : on_object (process id p) ≡ false → kept waits list ≡ kept waited list
    without h = kept_same waits waited list (λ y c. waits_other y (λ e. not_both _ (rw e at c) (v.waitings.exact id ∙ h)))

    with_same : waits id ≡ waited id → (y : ℕ) → waits y ≡ waited y
    with_same e y = ⊎_elim (λ (s : y ≡ id). rw s e) (λ (ne : y ≡ id → ⊥). waits_other y ne) (same_or_not y id)

    leaving : (w : Bool) → waited id ≡ w → kept waits (kept (other id) list) ≡ followed w false id (kept waited list)
    leaving true e =
        kept_kept waits (other id) list
        ∙ kept_same (λ y. waits y && other id y) (λ y. other id y && waited y) list (λ y _. ⊎_elim
        (λ (s : y ≡ id). rw (s, eq-eqb id id refl) (and-false (waits id)))
        (λ (ne : y ≡ id → ⊥). rw (ne_eqb y id ne, waits_other y ne) (and-true (waited y)))
        (same_or_not y id))
        ∙ sym (kept_kept (other id) waited list)
    leaving false e =
        kept_kept waits (other id) list
        ∙ kept_same (λ y. waits y && other id y) waited list (λ y _. ⊎_elim
        (λ (s : y ≡ id). rw (s, eq-eqb id id refl) (and-false (waits id) ∙ sym e))
        (λ (ne : y ≡ id → ⊥). rw (ne_eqb y id ne, waits_other y ne) (and-true (waited y)))
        (same_or_not y id))

    joining_last : (w : Bool) → eqb (object x.wait) o ≡ w → on_object (process id p) ≡ false → kept waits (list ++ (id ∷ [])) ≡ followed false w id (kept waited list)
    joining_last true e h = kept_snoc waits list id ∙ rw (waits_same, e, without h)
    joining_last false e h = kept_snoc waits list id ∙ rw (waits_same, e, without h) (append-nil (kept waited list))

    by_lists : (a c : Bool) → on_object (process id p) ≡ a → on_object x ≡ c → NotExchanged (process id p) x
        → kept waits (followed a c id list) ≡ followed (waited id) (eqb (object x.wait) o) id (kept waited list)
    by_lists true true e f k =
        let same : object x.wait ≡ object (process id p).wait = ⊎_elim (λ (z : object (process id p).wait ≡ 0). absurd (on_some (process id p) e z)) (⊎_elim (λ (z : object x.wait ≡ 0). absurd (on_some x f z)) (λ (s : object x.wait ≡ object (process id p).wait). s)) k in
        let t : eqb (object x.wait) o ≡ waited id = ap (λ n. eqb n o) same in
        kept_same waits waited list (λ y _. with_same (waits_same ∙ t) y) ∙ rw t (sym (followed_same (waited id) id (kept waited list)))
    by_lists true false e f k = leaving (waited id) refl ∙ rw (off_object o some x f)
    by_lists false true e f k = joining_last (eqb (object x.wait) o) refl e ∙ rw (off_object o some (process id p) e)
    by_lists false false e f k = without e ∙ rw (off_object o some x f, off_object o some (process id p) e)

    pub stored_queue : NotExchanged (process id p) x → waiters o (stored id x p) ≡ followed (waits_on o p id) (eqb (object x.wait) o) id (waiters o p)
    unfolding waiters
    stored_queue k = ap (kept waits) stored_waiting ∙ by_lists (on_object (process id p)) (on_object x) refl refl k

-- ---------------------------------------------------------------- waits that are kept or end
-- a list is a part of another, in the same order
pub record Part (l k : List ℕ) : Type 0 where
  pub by : ℕ → Bool
  pub is : k ≡ kept by l

pub part_whole : (l : List ℕ) → Part l l
part_whole l = record { by = λ _. true; is = sym (kept_all (λ _. true) l (λ _ _. refl)) }

pub part_trans : {l k j : List ℕ} → Part l k → Part k j → Part l j
part_trans {l} a b = record { by = λ x. b.by x && a.by x; is = b.is ∙ ap (kept b.by) a.is ∙ kept_kept b.by a.by l }

-- a queue that is a part of another list holds those of the list that wait on the object
pub part_waits : (o : ℕ) (q : Partition) → Queue o q → (l : List ℕ) → Part l (waiters o q) → waiters o q ≡ kept (waits_on o q) l
part_waits o q h l a = a.is ∙ kept_same a.by (waits_on o q) l (λ y c. sym (sym (h.exact y) ∙ ap (contains y) a.is ∙ contains_kept a.by y l ∙ rw c (and-true (a.by y))))

pub queue_of_holds : (p : Partition) → ListedIn p → (o : ℕ) → (o ≡ 0 → ⊥) → Queue o p
queue_of_holds p v o some = record { exact = waiters_exact p v o some; once = waiters_distinct p v o }

-- process id keeps its wait or ends it: the queue is a part of what it was
module _ (o : ℕ) (some : o ≡ 0 → ⊥) where
  followed_part : (w n : Bool) → (n ≡ true → w ≡ true) → (id : ℕ) (l : List ℕ) → Part l (followed w n id l)
  followed_part true true h id l = part_whole l
  followed_part true false h id l = record { by = other id; is = refl }
  followed_part false true h id l = not_both _ (h refl) refl
  followed_part false false h id l = part_whole l

  pub stored_part : (p : Partition) → ListedIn p → (id : ℕ) → Between 1 p.process_count id → (x : Process) → KeepsOrEnds (process id p) x → Part (waiters o p) (waiters o (stored id x p))
  stored_part p v id b x k =
      let a = followed_part (waits_on o p id) (eqb (object x.wait) o) (λ e. ⊎_elim
      (λ (z : object x.wait ≡ 0). absurd (some (sym (eqb-true _ o e) ∙ z)))
      (λ (s : object x.wait ≡ object (process id p).wait). rw (← s) e) k) id (waiters o p) in
      record { by = a.by; is = stored_queue p v id b x o some (inr k) ∙ a.is }

  pub all_part : (f : Process → Process) → ((x : Process) → KeepsOrEnds x (f x)) → (l : List ℕ) (p : Partition) → ListedIn p → AllCreated l p.process_count → Part (waiters o p) (waiters o (changed_all f l p))
  unfolding changed_all contains
  all_part f k [] p v all = part_whole (waiters o p)
  all_part f k (id ∷ l) p v all =
      let x = f (process id p) in
      let b = all id (rw (eq-eqb id id refl)) in
      part_trans (stored_part p v id b x (k (process id p)))
      (all_part f k l (stored id x p) (stored_listed p id x v b) (λ y c. rw (rest_count p _ (stored_rest p id x)) (all y (rw c (or-true (eqb id y))))))

-- ---------------------------------------------------------------- what the rules make of a wait
pub expired_wait : (t : ℕ) (x : Process) → (expired t x).wait ≡ x.wait
unfolding expired
expired_wait t x = by_test (λ (y : Process). y.wait ≡ x.wait) (due t x.times.deadline) (λ _. refl) (λ _. refl)

-- a tick ends the wait whose time has come
pub ticked_object : (t : ℕ) (x : Process) → object (ticked t x).wait ≡ cond (due t x.times.wake) 0 (object x.wait)
unfolding woken
ticked_object t x = ap object (expired_wait t (woken t x)) ∙ either (due t x.times.wake)
    (λ e. rw e (by_test (λ (y : Process). object y.wait ≡ 0) (only_marked x) (λ _. refl) (λ _. refl)))
    (λ e. rw e)

ticked_ends : (t : ℕ) (x : Process) → KeepsOrEnds x (ticked t x)
ticked_ends t x = either (due t x.times.wake) (λ e. inl (ticked_object t x ∙ rw e)) (λ e. inr (ticked_object t x ∙ rw e))

pub start_object : (c : Context) (delay : ℕ) (x : Process) → object (start_rule c delay x).wait ≡ 0
unfolding start_rule
start_object c delay x = by_test (λ (y : Process). object y.wait ≡ 0) (periodic x) (λ _. refl) (λ _. by_test (λ (y : Process). object y.wait ≡ 0) (eqb delay 0) (λ _. refl) (λ _. refl))

entered_ends : (c : Context) (x : Process) → KeepsOrEnds x (entered c x)
unfolding entered
entered_ends c x = by_test (KeepsOrEnds x) (waits_for_normal x.wait) (λ _. inl (start_object c x.times.delay x)) (λ _. inr refl)

-- one that waits on an object is left
pub normal_off : (v : Class) → for_normal v ≡ true → object_in v ≡ 0
normal_off Class.nothing e = refl
normal_off Class.normal e = refl
normal_off Class.timer e = refl
normal_off Class.release e = refl
normal_off (Class.onto kind k n) e = not_both _ e refl

entered_on : (c : Context) (x : Process) → (object x.wait ≡ 0 → ⊥) → entered c x ≡ x
unfolding entered
entered_on c x some = by_test (λ (y : Process). y ≡ x) (waits_for_normal x.wait) (λ e. absurd (some (normal_off (class_of x.wait) e))) (λ _. refl)

-- ---------------------------------------------------------------- the changes
-- a partition with the same waiting list, whose processes wait as before
pub same_queue : (o : ℕ) (p q : Partition) → q.waiting ≡ p.waiting → ((y : ℕ) → object (process y q).wait ≡ object (process y p).wait) → waiters o q ≡ waiters o p
unfolding waiters
same_queue o p q e f = ap (λ (a : Ids). kept (waits_on o q) (members a)) e ∙ kept_same (waits_on o q) (waits_on o p) (members p.waiting) (λ y _. ap (λ n. eqb n o) (f y))

module _ (p : Partition) (v : ListedIn p) (o : ℕ) (some : o ≡ 0 → ⊥) where
  created_queue : (x : Process) → object x.wait ≡ 0 → waiters o (created (p.process_count + 1) x p) ≡ waiters o p
  created_queue x off =
      let n = p.process_count + 1 in
      either (within process_limit n)
      (λ e.
      let hi = (within_out process_limit n e).1 in
      rw (created_in n x p e) (same_queue o p _ refl (λ y. ⊎_elim
      (λ (s : y ≡ n). rw (s, named_same process_limit blank_process n x p.processes (omega arith) hi (omega (arith, v.numbered.size)), v.numbered.past n (omega arith)) off)
      (λ (ne : y ≡ n → ⊥). ap (λ (z : Process). object z.wait) (named_other process_limit blank_process n x p.processes (omega arith) y ne))
      (same_or_not y n))))
      (λ e. rw (created_out n x p e))

  arrived_queue : (id : ℕ) → waiters o (arrived_last id p) ≡ waiters o p
  unfolding arrived_last
  arrived_queue id = same_queue o p _ refl (λ _. refl)

  pub semaphore_queue : (k : ℕ) (s : SemaphoreT) → waiters o (stored_semaphore k s p) ≡ waiters o p
  unfolding stored_semaphore
  semaphore_queue k s = by_test (λ (q : Partition). waiters o q ≡ waiters o p) (within semaphore_limit k) (λ _. same_queue o p _ refl (λ _. refl)) (λ _. refl)

  pub event_queue : (k : ℕ) (e : EventState) → waiters o (stored_event k e p) ≡ waiters o p
  unfolding stored_event
  event_queue k e = by_test (λ (q : Partition). waiters o q ≡ waiters o p) (within event_limit k) (λ _. same_queue o p _ refl (λ _. refl)) (λ _. refl)

  pub buffer_queue : (k : ℕ) (b : Buffer) → waiters o (stored_buffer k b p) ≡ waiters o p
  unfolding stored_buffer
  buffer_queue k b = by_test (λ (q : Partition). waiters o q ≡ waiters o p) (within buffer_limit k) (λ _. same_queue o p _ refl (λ _. refl)) (λ _. refl)

  pub blackboard_queue : (k : ℕ) (b : BlackboardT) → waiters o (stored_blackboard k b p) ≡ waiters o p
  unfolding stored_blackboard
  blackboard_queue k b = by_test (λ (q : Partition). waiters o q ≡ waiters o p) (within blackboard_limit k) (λ _. same_queue o p _ refl (λ _. refl)) (λ _. refl)

  -- every process changed, so that waits are kept or end
  pub each_queue_holds : (f : Process → Process) → ((x : Process) → KeepsOrEnds x (f x)) → waiters o (each f p) ≡ kept (λ y. eqb (object (f (process y p)).wait) o) (waiters o p)
  each_queue_holds f k =
      let q = each f p in
      part_waits o q (queue_of_holds q (each_listed f p v) o some) (waiters o p) (rw (each_changed f p.process_count 1 p) (all_part o some f k _ p v (λ y h. let r = from_range p.process_count 1 y h in (r.0, omega arith))))
      ∙ kept_same (waits_on o q) (λ y. eqb (object (f (process y p)).wait) o) (waiters o p) (λ y c. ap (λ (z : Process). eqb (object z.wait) o) (each_process_holds f p v y (waiters_created p v o y c)))

  -- one of the queue waits on the object
  pub in_queue : (y : ℕ) → contains y (waiters o p) ≡ true → object (process y p).wait ≡ o
  in_queue y c = eqb-true _ o (sym (waiters_exact p v o some y) ∙ c)

  -- the waits on object u end, each process changed by f
  module _ (f : Process → Process) (ends : (x : Process) → object (f x).wait ≡ 0) (u : ℕ) where
    abbrev after : Partition
    after = changed_all f (waiters u p) p

    pub ended_process : (y : ℕ) → process y after ≡ cond (contains y (waiters u p)) (f (process y p)) (process y p)
    ended_process y = changed_process f (waiters u p) p v (waiters_created p v u) (waiters_distinct p v u) y

    ended_waits : waiters o after ≡ kept (waits_on o after) (waiters o p)
    ended_waits = part_waits o after (queue_of_holds after (changed_listed f (waiters u p) p v (waiters_created p v u)) o some) (waiters o p) (all_part o some f (λ x. inl (ends x)) (waiters u p) p v (waiters_created p v u))

    pub ended_other_holds : (u ≡ o → ⊥) → waiters o after ≡ waiters o p
    unfolding waiters
    ended_other_holds ne = ended_waits ∙ kept_all (waits_on o after) (waiters o p) (λ y c.
        let is = in_queue y c in
        let out : contains y (waiters u p) ≡ false = contains_kept (waits_on u p) y (members p.waiting) ∙ rw (ne_eqb (object (process y p).wait) u (λ e. ne (sym e ∙ is))) in
        rw (ended_process y, out) (eq-eqb _ o is))

  pub ended_queue : (f : Process → Process) → ((x : Process) → object (f x).wait ≡ 0) → waiters o (changed_all f (waiters o p) p) ≡ []
  ended_queue f ends = ended_waits f ends o ∙ kept_no (waits_on o (after f ends o)) (waiters o p) (λ y c. rw (ended_process f ends o y, c, ends (process y p)) (ne_eqb 0 o (λ e. some (sym e))))

  pub ticked_queue : (t : ℕ) → normal_mode p ≡ true → waiters o (tick_partition t p) ≡ kept (λ id. not (due t (process id p).times.wake)) (waiters o p)
  unfolding tick_partition
  ticked_queue t n = rw n (each_queue_holds (ticked t) (ticked_ends t) ∙ kept_same _ (λ id. not (due t (process id p).times.wake)) (waiters o p) (λ y c. rw (ticked_object t (process y p)) (either (due t (process y p).times.wake)
      (λ e. rw e (ne_eqb 0 o (λ e. some (sym e))))
      (λ e. rw e (eq-eqb _ o (in_queue y c))))))

entered_queue : (p : Partition) → ListedIn p → (o : ℕ) → (o ≡ 0 → ⊥) → (c : Context) → waiters o (entered_normal c p) ≡ waiters o p
unfolding entered_normal
entered_queue p v o some c =
    let q = with_mode NormalMode p in
    each_queue_holds q v o some (entered c) (entered_ends c)
    ∙ kept_all _ (waiters o q) (λ y h. let is = in_queue q v o some y h in rw (entered_on c (process y q) (λ z. some (sym is ∙ z))) (eq-eqb _ o is))
    ∙ same_queue o p q refl (λ _. refl)

pub changes_queue : (p : Partition) → ListedIn p → (o : ℕ) → (o ≡ 0 → ⊥) → QueueChanges o p
changes_queue p v o some = record {
  stored = λ id x b k. stored_queue p v id b x o some k;
  created = created_queue p v o some;
  arrived = arrived_queue p v o some;
  locked = λ level holder. same_queue o p (with_lock level holder p) refl (λ _. refl);
  semaphore = semaphore_queue p v o some;
  event = event_queue p v o some;
  buffer = buffer_queue p v o some;
  blackboard = blackboard_queue p v o some;
  ended = ended_queue p v o some served (λ _. refl);
  ended_other = ended_other_holds p v o some served (λ _. refl);
  handed = λ m. ended_queue p v o some (handed m) (λ _. refl);
  handed_other = λ m. ended_other_holds p v o some (handed m) (λ _. refl);
  entered = entered_queue p v o some;
  ticked = ticked_queue p v o some;
}

-- ---------------------------------------------------------------- what calls decide
-- a change that lets no process wait on another object
abbrev pub OrderlyChange : Partition → Change → Type 0
OrderlyChange p Nothing = Unit {0}
OrderlyChange p (Stored id x) = KeepsOrEnds (process id p) x
OrderlyChange p (Created id x) = Unit {0}
OrderlyChange p (Last id) = Unit {0}
OrderlyChange p (StoredSemaphore k s) = Unit {0}
OrderlyChange p (StoredEvent k e) = Unit {0}
OrderlyChange p (CreatedBuffer k name limit) = Unit {0}
OrderlyChange p (Moved k a) = Unit {0}
OrderlyChange p (StoredBlackboard k b) = Unit {0}
OrderlyChange p (Ended o) = Unit {0}
OrderlyChange p (Handed o m) = Unit {0}
OrderlyChange p (LevelSet level holder) = Unit {0}
OrderlyChange p (Entered c) = Unit {0}

-- only the caller begins to wait, in NORMAL, and the answer is 7 then
abbrev pub Orderly : Context → Partition → Decision → Type 0
Orderly c p (Refused code) = Unit {0}
Orderly c p (Unchanged value extra) = Unit {0}
Orderly c p Ticked = Unit {0}
Orderly c p (Blocked id x) = (id ≡ c.caller) × (normal_mode p ≡ true)
Orderly c p (Changed a b value) = OrderlyChange p a × OrderlyChange (applied a p) b
Orderly c p (Restarted mode) = Unit {0}
Orderly c p (Written i x) = Unit {0}
Orderly c p (PassedOn i a value) = Unit {0}

-- nobody begins to wait
abbrev pub NotBlocked : Decision → Type 0
NotBlocked (Refused code) = Unit {0}
NotBlocked (Unchanged value extra) = Unit {0}
NotBlocked Ticked = Unit {0}
NotBlocked (Blocked id x) = ⊥
NotBlocked (Changed a b value) = Unit {0}
NotBlocked (Restarted mode) = Unit {0}
NotBlocked (Written i x) = Unit {0}
NotBlocked (PassedOn i a value) = Unit {0}

pub record InOrder (c : Context) (p : Partition) (d : Decision) : Type 0 where
  pub is : Orderly c p d

pub signalled_order : (l : List ℕ) (k : ℕ) (p : Partition) → OrderlyChange p (signalled l k p)
unfolding signalled
signalled_order [] k p = tt
signalled_order (id ∷ l) k p = inl refl

-- ---------------------------------------------------------------- a partition after a decision
module _ (o : ℕ) (some : o ≡ 0 → ⊥) where
  pub part_of : (l k : List ℕ) → k ≡ l → Part l k
  part_of l k e = let w = part_whole l in record { by = w.by; is = e ∙ w.is }

  unticked : (t : ℕ) (p : Partition) → normal_mode p ≡ false → waiters o (tick_partition t p) ≡ waiters o p
  unfolding tick_partition
  unticked t p e = rw e

  pub tick_part : (t : ℕ) (p : Partition) → ListedIn p → Part (waiters o p) (waiters o (tick_partition t p))
  tick_part t p v = either (normal_mode p) (λ e. record { by = _; is = ticked_queue p v o some t e }) (λ e. part_of _ _ (unticked t p e))

  -- the wait that a transfer ends
  pub ended_part : (p : Partition) → ListedIn p → (a : Transfer) → SoundEnd p a → Part (waiters o p) (waiters o (ended_by a p))
  ended_part p v (Put m) h = part_whole (waiters o p)
  ended_part p v (HandedTo id m) h = stored_part o some p v id h.0 _ (inl refl)
  ended_part p v Taken h = part_whole (waiters o p)
  ended_part p v (LetIn id m) h = stored_part o some p v id h.0 _ (inl refl)

  pub change_part : (c : Context) (p : Partition) → Valid c.frame c.time p → (a : Change) → SoundChange c p a → OrderlyChange p a → Part (waiters o p) (waiters o (applied a p))
  change_part c p v Nothing h k = part_whole (waiters o p)
  change_part c p v (Stored id x) h k = stored_part o some p v.lists id h.0 x k
  change_part c p v (Created id x) h k = part_of _ _ (rw h.next (created_queue p v.lists o some x (rw h.dormant)))
  change_part c p v (Last id) h k = part_of _ _ (arrived_queue p v.lists o some id)
  change_part c p v (StoredSemaphore j s) h k = part_of _ _ (semaphore_queue p v.lists o some j s)
  change_part c p v (StoredEvent j e) h k = part_of _ _ (event_queue p v.lists o some j e)
  change_part c p v (CreatedBuffer j name limit) h k = part_of _ _ (buffer_queue p v.lists o some j (empty_buffer name limit))
  change_part c p v (Moved j a) h k =
      let q = moved_in a (buffer j p) in
      let is = buffer_in j q p (within_in buffer_limit j h.0.0 (omega (arith, h.0.1, v.objects.buffers.numbered.few))) in
      part_trans (part_of _ _ (buffer_queue p v.lists o some j q)) (ended_part (stored_buffer j q p) (rw is v.lists) a (end_stored j q p a is h.2))
  change_part c p v (StoredBlackboard j b) h k = part_of _ _ (blackboard_queue p v.lists o some j b)
  change_part c p v (Ended u) h k = record { by = _; is = ended_waits p v.lists o some served (λ _. refl) u }
  change_part c p v (Handed u m) h k = record { by = _; is = ended_waits p v.lists o some (handed m) (λ _. refl) u }
  change_part c p v (LevelSet level holder) h k = part_of _ _ (same_queue o p (with_lock level holder p) refl (λ _. refl))
  change_part c p v (Entered d) h k = part_of _ _ (entered_queue p v.lists o some d)

-- a READY process that begins to wait: it joins last, where it waits on the object
module _ (o : ℕ) (some : o ≡ 0 → ⊥) (p : Partition) (v : ListedIn p) (id : ℕ) (b : Between 1 p.process_count id) (x : Process) (h : ready (process id p) ≡ true) where
  pub joins_last : waiters o (stored id x p) ≡ waiters o p ++ cond (eqb (object x.wait) o) (id ∷ []) []
  joins_last = stored_queue p v id b x o some (inl (ready_off (process id p) h)) ∙ rw (off) (go (eqb (object x.wait) o))
    where
      off : waits_on o p id ≡ false
      off = rw (ready_off (process id p) h) (ne_eqb 0 o (λ e. some (sym e)))

      go : (w : Bool) → followed false w id (waiters o p) ≡ waiters o p ++ cond w (id ∷ []) []
      go true = refl
      go false = sym (append-nil (waiters o p))

  -- and the others stay
  pub others_stay : kept (waits_on o (stored id x p)) (waiters o p) ≡ waiters o p
  others_stay = kept_all (waits_on o (stored id x p)) (waiters o p) (λ y c.
      let is = in_queue p v o some y c in
      waits_other p v id b x o some y (λ e. some (sym is ∙ rw e (ready_off (process id p) h))) ∙ eq-eqb _ o is)
