-- The tick, every sound change and every sound decision keep a partition valid, and one with nothing created is valid. Assumes nothing.
use Rattle.machine.proofs.ModeNumbers.{numbered_back}
use Rattle.machine.specs.Mode.{mode_number}
use Rattle.machine.specs.declared.Mode.TheVariants.{Normal as NormalMode}
use Rattle.std.specs.Prelude.{Option, unwrap_or}
use Prim.Native.Nat.{ℕ, zero, suc, ◌+◌, ◌-◌, ◌%◌, ◌≤◌, ◌<◌, max}
use mathlib.Core.Path.{◌≡◌, refl, ap, sym, ◌∙◌}
use mathlib.Core.Bool.{Bool, true, false, not, ◌||◌, or-true}
use mathlib.Core.List.{List, [], ◌∷◌, map}
use native.Mathlib.Omega.{arith}
use lib.ListN.{length, get_or, set, take, replicate, length-replicate}
use lib.Dec.{eqb, ltb}
use borrow.Author.Tests.{eq-eqb, ne_eqb, eqb-true, eqb-false, ltb-false, leb-false, not-true, not-false}
use Rattle.machine.specs.declared.Given.{Given}
use Rattle.machine.specs.declared.Ids.{Ids}
use Rattle.machine.specs.declared.Process.{Process}
use Rattle.machine.specs.declared.Partition.{Partition}
use Rattle.machine.specs.declared.Context.{Context}
use Rattle.machine.specs.declared.Change.{Change}
use Rattle.machine.specs.declared.Change.TheVariants.{Nothing, Stored, Created, Last, StoredSemaphore, StoredEvent, CreatedBuffer, Moved, StoredBlackboard, Ended, Handed, LevelSet, Entered}
use Rattle.machine.specs.declared.Port.{Port}
use Rattle.machine.specs.declared.Decision.{Decision}
use Rattle.machine.specs.declared.Decision.TheVariants.{Refused, Unchanged, Ticked, Blocked, Changed, Restarted, Written, Passed as PassedOn}
use Rattle.machine.specs.declared.Semaphore.{Semaphore as SemaphoreT}
use Rattle.machine.specs.declared.EventState.{EventState}
use Rattle.machine.specs.declared.Queue.{Queue}
use Rattle.machine.specs.declared.Transfer.{Transfer}
use Rattle.machine.specs.declared.Transfer.TheVariants.{Put, HandedTo, Taken, LetIn}
use Rattle.machine.specs.declared.Buffer.{Buffer}
use Rattle.machine.specs.declared.Blackboard.{Blackboard as BlackboardT}
use Rattle.machine.specs.declared.Request.{Request}
use Rattle.machine.specs.declared.Field.{Field}
use Rattle.machine.specs.declared.Field.TheVariants.{Number, MinusOne, Other}
use Rattle.machine.specs.Time.{Time}
use Rattle.std.specs.Prelude.{None, Some}
use Rattle.machine.specs.Limits.{process_limit, semaphore_limit, event_limit, buffer_limit, blackboard_limit, name_limit, priority_limit, mode_limit, duration_limit, time_limit, frame_limit, greatest_value}
use Rattle.machine.specs.Messages.{queue_of, sent, received}
use Rattle.machine.specs.Ids.{members}
use Rattle.machine.specs.Fields.{is_number, between, is_duration, is_minus_one, is_timeout, is_name, number_of, time_of}
use Rattle.machine.specs.Process.{created_process, blank_process, later, object, on_object, periodic, ready, carried, served, handed, entered, ticked}
use Rattle.machine.specs.Partition.{normal_mode, idle_mode, locked, by_id, nothing_created, no_semaphore, no_event, no_buffer, no_blackboard, process, semaphore, buffer, blackboard, empty_buffer, moved_in, ended_by, with_mode, stored, waits_on, waiters, first_waiter, changed_all, each, running, tick_partition, entered_normal, created, stored_semaphore, stored_event, stored_buffer, stored_blackboard, applied, partition_after, fresh_partition, with_buffers}
use Rattle.machine.specs.Calls.{is_multiple, above, is_priority, admissible, reaches, status}
use Rattle.machine.specs.Objects.{with_value, with_up, one_more, signalled}
use Rattle.machine.specs.Theorems.Valid.{counted, Between, contains, Distinct, Tracks, Timeout, Ahead, SoundPeriod, SoundCapacity, NotAbove, Below, SoundGiven, SoundProcess, SoundSemaphore, SoundEvent, SoundBuffer, SoundBlackboard, AllMessages, SoundQueue, Numbered, Family, KnownOrNext, ObjectsIn, ListedIn, setting_of, SoundLock, LockIn, HolderReady, Valid, SoundContext, SoundMessage, SoundMove, SoundEnd, SoundChange, SoundDecision, NotAfter}
use Rattle.machine.proofs.Tests.{by_test, by_tests, not_both}
use Rattle.machine.proofs.Bounds.{not_so, or_false_parts, and_true_parts, within_in, named_same, named_other, named_replicate, created_in, semaphore_in, event_in, buffer_in, blackboard_in}
use Rattle.machine.proofs.Either.{either}
use Rattle.machine.proofs.Fields.{in_limits}
use Rattle.machine.proofs.Tracking.{contains_kept, distinct_kept, tracks_same}
use Rattle.machine.proofs.Messages.{queue_sound, moved_in_sound}
use Rattle.machine.proofs.Keeping.{numbered_set, all_set, family_set, process_created, each_rest, each_listed, each_process_holds, AllCreated, changed_rest, changed_listed, changed_process, valid_of, stored_valid, arrived_valid}
use Rattle.machine.proofs.Sound.{outside_normal, more_objects, ahead_later, created_sound, entered_sound, ended_sound, handed_sound, carried_sound, ticked_sound, ticked_ready, ready_no_object, object_not_ready, early_waits}
use Rattle.machine.proofs.Running.{holder_runs, running_ready}
use Rattle.machine.specs.Decisions.{start_mode, dormant}

-- ---------------------------------------------------------------- the preemption lock
-- level 0 with no holder
pub no_lock : (normal is_ready : Bool) → SoundLock 0 0 normal is_ready
no_lock normal is_ready = record { few = omega arith; free = λ _. refl; normal = λ some. absurd (omega arith); held = λ some. absurd (omega arith) }

holder_created : (p : Partition) → ListedIn p → LockIn p → 0 < p.level → Between 1 p.process_count p.holder
holder_created p v lock some = process_created ready refl p v p.holder (lock.held some)

-- a process that is not READY does not hold it
pub not_holder : (p : Partition) → LockIn p → (id : ℕ) (b : Bool) → ready (process id p) ≡ false → 0 < p.level → id ≡ p.holder → b ≡ true
not_holder p lock id b off some e = not_both _ (lock.held some) (ap (λ y. ready (process y p)) (sym e) ∙ off)

-- ---------------------------------------------------------------- the tick
pub tick_valid : (frame t : ℕ) (p : Partition) → Valid frame t p → Valid frame (t + 1) (tick_partition (t + 1) p)
unfolding tick_partition
tick_valid frame t p v = by_test (Valid frame (t + 1)) (normal_mode p)
    (λ e. valid_of frame (t + 1) p (each (ticked (t + 1)) p) (each_rest (ticked (t + 1)) p v.lists) v.mode v.lock (λ some. rw (each_process_holds (ticked (t + 1)) p v.lists p.holder (holder_created p v.lists v.lock some)) (ticked_ready (t + 1) (process p.holder p) (v.lock.held some))) v.objects (each_listed (ticked (t + 1)) p v.lists) (λ id b.
    rw (each_process_holds (ticked (t + 1)) p v.lists id b) (ticked_sound frame t _ (normal_mode p) e (process id p) (v.each_process id b))))
    (λ e. record {
      mode = v.mode;
      lock = v.lock;
      lists = v.lists;
      objects = v.objects;
      each_process = λ id b. outside_normal (setting_of frame t p) (setting_of frame (t + 1) p) (process id p) e e refl (v.each_process id b);
    })

-- ---------------------------------------------------------------- nothing created
pub nothing_valid : (frame t mode : ℕ) → mode ≤ mode_limit → Valid frame t (nothing_created mode)
unfolding contains Distinct
nothing_valid frame t mode h = record {
  mode = let b = numbered_back mode h in omega (arith, h, b);
  lock = no_lock _ _;
  lists = record {
    numbered = none process_limit blank_process;
    arrivals = record { canonical = refl; distinct = tt; exact = λ id. rw (named_replicate process_limit process_limit id blank_process) };
    waitings = record { canonical = refl; distinct = tt; exact = λ id. rw (named_replicate process_limit process_limit id blank_process) };
  };
  objects = record {
    semaphores = no_objects semaphore_limit no_semaphore SoundSemaphore;
    events = no_objects event_limit no_event SoundEvent;
    buffers = no_objects buffer_limit no_buffer SoundBuffer;
    blackboards = no_objects blackboard_limit no_blackboard SoundBlackboard;
  };
  each_process = λ id b. absurd (omega (arith, b.0, b.1));
}
  where
    none : {A : Type 0} (limit : ℕ) (d : A) → Numbered limit d (replicate limit d) 0
    none limit d = record { size = length-replicate limit d; few = omega arith; past = λ id _. named_replicate limit limit id d }

    no_objects : {A : Type 0} (limit : ℕ) (d : A) (Sound : A → Type 0) → Family limit d Sound (replicate limit d) 0
    no_objects limit d Sound = record { numbered = none limit d; each = λ k b. absurd (omega (arith, b.0, b.1)) }

pub fresh_valid : (frame t : ℕ) → Valid frame t fresh_partition
unfolding fresh_partition
fresh_valid frame t = nothing_valid frame t 1 (omega arith)

-- outside NORMAL no process is READY
pub none_ready : (frame t : ℕ) (p : Partition) → Valid frame t p → normal_mode p ≡ false → (id : ℕ) → ready (process id p) ≡ false
none_ready frame t p v n id = not_so (ready (process id p)) (λ k. not_both _ k (early_waits _ (process id p) (v.each_process id (process_created ready refl p v.lists id k)) n))

-- ---------------------------------------------------------------- what checks tell of fields
not_zero : (n : ℕ) → is_number 0 (Number n) ≡ false → n ≡ 0 → ⊥
not_zero n h e = eqb-false n 0 h e

pub duration_ahead : (t : ℕ) (a : Field) → t ≤ time_limit → is_duration a ≡ true → is_number 0 a ≡ false → Ahead t (later (Some t) (time_of a))
duration_ahead t (Number n) ends h z = ahead_later t n ends (not_zero n z) (in_limits 0 duration_limit (Number n) h).1
duration_ahead t MinusOne ends h z = not_both _ h refl
duration_ahead t Other ends h z = not_both _ h refl

pub timeout_ahead : (t : ℕ) (a : Field) → t ≤ time_limit → is_timeout a ≡ true → is_number 0 a ≡ false → Timeout t (later (Some t) (time_of a))
timeout_ahead t (Number n) ends h z = ahead_later t n ends (not_zero n z) (in_limits 0 duration_limit (Number n) h).1
timeout_ahead t MinusOne ends h z = tt
timeout_ahead t Other ends h z = not_both _ h refl

-- ---------------------------------------------------------------- objects
-- no object is lost
counted_more : (a b c d a' b' c' d' : ℕ) → a ≤ a' → b ≤ b' → c ≤ c' → d ≤ d' → (kind : ℕ) → counted a b c d kind ≤ counted a' b' c' d' kind
counted_more a b c d a' b' c' d' f g h k kind =
    by_tests (λ (x y : ℕ). x ≤ y) (eqb kind 1) _ refl (λ _. f) λ _.
    by_tests (λ (x y : ℕ). x ≤ y) (eqb kind 2) _ refl (λ _. g) λ _.
    by_tests (λ (x y : ℕ). x ≤ y) (eqb kind 3) _ refl (λ _. h) λ _.
    by_tests (λ (x y : ℕ). x ≤ y) (eqb kind 4) _ refl (λ _. h) λ _.
    by_tests (λ (x y : ℕ). x ≤ y) (eqb kind 5) _ refl (λ _. k) λ _. omega arith

-- the objects of q are sound and as many at least, and all else is as in p
objects_valid : (frame t : ℕ) (p q : Partition) → Valid frame t p
    → q.mode ≡ p.mode → q.level ≡ p.level → q.holder ≡ p.holder → ListedIn q → q.processes ≡ p.processes → q.process_count ≡ p.process_count → ObjectsIn q
    → p.semaphore_count ≤ q.semaphore_count → p.event_count ≤ q.event_count → p.buffer_count ≤ q.buffer_count → p.blackboard_count ≤ q.blackboard_count
    → Valid frame t q
objects_valid frame t p q v mode level holder lists processes count objects a b c d = record {
  mode = rw mode v.mode;
  lock = rw (mode, level, holder, processes) v.lock;
  lists = lists;
  objects = objects;
  each_process = λ id r.
      rw (mode, processes)
      (more_objects frame t (normal_mode p) _ _ (counted_more _ _ _ _ _ _ _ _ a b c d) (process id p) (v.each_process id (r.0, omega (arith, r.1, count))));
}

-- one stored that is known, or the next
module _ (frame t : ℕ) (p : Partition) (v : Valid frame t p) (k : ℕ) where
  abbrev o : ObjectsIn p
  o = v.objects

  pub semaphore_valid : KnownOrNext semaphore_limit p.semaphore_count k → (s : SemaphoreT) → SoundSemaphore s → Valid frame t (stored_semaphore k s p)
  semaphore_valid b s sound =
      rw (semaphore_in k s p (within_in semaphore_limit k b.0.0 b.1))
      (objects_valid frame t p _ v refl refl refl v.lists refl refl
      (record { semaphores = family_set o.semaphores k b s sound; events = o.events; buffers = o.buffers; blackboards = o.blackboards })
      (omega arith) (omega arith) (omega arith) (omega arith))

  pub event_valid : KnownOrNext event_limit p.event_count k → (s : EventState) → SoundEvent s → Valid frame t (stored_event k s p)
  event_valid b s sound =
      rw (event_in k s p (within_in event_limit k b.0.0 b.1))
      (objects_valid frame t p _ v refl refl refl v.lists refl refl
      (record { semaphores = o.semaphores; events = family_set o.events k b s sound; buffers = o.buffers; blackboards = o.blackboards })
      (omega arith) (omega arith) (omega arith) (omega arith))

  pub buffer_valid : KnownOrNext buffer_limit p.buffer_count k → (s : Buffer) → SoundBuffer s → Valid frame t (stored_buffer k s p)
  buffer_valid b s sound =
      rw (buffer_in k s p (within_in buffer_limit k b.0.0 b.1))
      (objects_valid frame t p _ v refl refl refl v.lists refl refl
      (record { semaphores = o.semaphores; events = o.events; buffers = family_set o.buffers k b s sound; blackboards = o.blackboards })
      (omega arith) (omega arith) (omega arith) (omega arith))

  pub blackboard_valid : KnownOrNext blackboard_limit p.blackboard_count k → (s : BlackboardT) → SoundBlackboard s → Valid frame t (stored_blackboard k s p)
  blackboard_valid b s sound =
      rw (blackboard_in k s p (within_in blackboard_limit k b.0.0 b.1))
      (objects_valid frame t p _ v refl refl refl v.lists refl refl
      (record { semaphores = o.semaphores; events = o.events; buffers = o.buffers; blackboards = family_set o.blackboards k b s sound })
      (omega arith) (omega arith) (omega arith) (omega arith))

-- one that is known
pub known_next : (limit count k : ℕ) → Between 1 count k → count ≤ limit → KnownOrNext limit count k
known_next limit count k b few = ((b.0, omega (arith, b.1)), omega (arith, b.1))

-- ---------------------------------------------------------------- queues
-- the queue of an object holds just the processes that wait on it, each once
module _ (p : Partition) (v : ListedIn p) (o : ℕ) where
  pub waiters_distinct : Distinct (waiters o p)
  unfolding waiters
  waiters_distinct = distinct_kept (waits_on o p) (members p.waiting) v.waitings.distinct

  pub waiters_exact : (o ≡ 0 → ⊥) → (id : ℕ) → contains id (waiters o p) ≡ waits_on o p id
  unfolding waiters
  waiters_exact some id = contains_kept (waits_on o p) id (members p.waiting) ∙ rw (v.waitings.exact id) (either (waits_on o p id)
      (λ e. rw (e, ne_eqb (object (process id p).wait) 0 (λ z. some (sym (eqb-true _ o e) ∙ z))))
      (λ e. rw e))

  pub waiters_on : (id : ℕ) → contains id (waiters o p) ≡ true → on_object (process id p) ≡ true
  unfolding waiters
  waiters_on id h = sym (v.waitings.exact id) ∙ (and_true_parts (waits_on o p id) _ (sym (contains_kept (waits_on o p) id (members p.waiting)) ∙ h)).1

  pub waiters_created : AllCreated (waiters o p) p.process_count
  waiters_created id h = process_created on_object refl p v id (waiters_on id h)

-- the first of a list is in it
pub first_in : (l : List ℕ) → (get_or l 0 0 ≡ 0 → ⊥) → contains (get_or l 0 0) l ≡ true
unfolding contains
first_in [] some = absurd (some refl)
first_in (x ∷ l) some = rw (eq-eqb x x refl)

-- the first of a queue has been created, and waits on the object
pub first_waits : (p : Partition) → ListedIn p → (o : ℕ) → (first_waiter o p ≡ 0 → ⊥) → Between 1 p.process_count (first_waiter o p) × (on_object (process (first_waiter o p) p) ≡ true)
first_waits p v o some =
    let i = first_in (waiters o p) some in
    (waiters_created p v o (first_waiter o p) i, waiters_on p v o (first_waiter o p) i)

-- a send where there is room, and a receive where there is a message: to and from the first who waits on o in partition p
pub sent_sound : (p : Partition) → ListedIn p → (o limit : ℕ) (q : Queue) (m : ℕ) → q.len < limit → m ≤ duration_limit → SoundMove limit q (sent (first_waiter o p) m) × SoundEnd p (sent (first_waiter o p) m)
unfolding sent
sent_sound p v o limit q m room few = by_test (λ (a : Transfer). SoundMove limit q a × SoundEnd p a) (eqb (first_waiter o p) 0)
    (λ _. ((room, few), tt))
    (λ e. (few, first_waits p v o (eqb-false _ 0 e)))

pub received_sound : (frame t : ℕ) (p : Partition) → Valid frame t p → (o limit : ℕ) (q : Queue) → 0 < q.len → let a = received (first_waiter o p) (carried (process (first_waiter o p) p)) in SoundMove limit q a × SoundEnd p a
unfolding received
received_sound frame t p v o limit q some = by_test (λ (a : Transfer). SoundMove limit q a × SoundEnd p a) (eqb (first_waiter o p) 0)
    (λ _. (some, tt))
    (λ e. let f = first_waits p v.lists o (eqb-false _ 0 e) in ((some, carried_sound _ (process (first_waiter o p) p) (v.each_process (first_waiter o p) f.0)), f))

-- waits on objects end, each of these processes changed by f
module _ (frame t : ℕ) (p : Partition) (v : Valid frame t p) (f : Process → Process)
    (sound : (x : Process) → SoundProcess (setting_of frame t p) x → on_object x ≡ true → SoundProcess (setting_of frame t p) (f x)) where
  pub changed_valid : (l : List ℕ) → AllCreated l p.process_count → Distinct l → ((id : ℕ) → contains id l ≡ true → on_object (process id p) ≡ true) → Valid frame t (changed_all f l p)
  changed_valid l all once on =
      valid_of frame t p (changed_all f l p) (changed_rest f l p) v.mode v.lock
      (λ some. rw (changed_process f l p v.lists all once p.holder, not_so (contains p.holder l) (λ e. not_both _ (on p.holder e) (ready_no_object (process p.holder p) (v.lock.held some)))) (v.lock.held some))
      v.objects (changed_listed f l p v.lists all) (λ id b.
      rw (changed_process f l p v.lists all once id) (by_test (SoundProcess (setting_of frame t p)) (contains id l)
      (λ e. sound (process id p) (v.each_process id b) (on id e))
      (λ _. v.each_process id b)))

  all_valid : (o : ℕ) → Valid frame t (changed_all f (waiters o p) p)
  all_valid o = changed_valid (waiters o p) (waiters_created p v.lists o) (waiters_distinct p v.lists o) (waiters_on p v.lists o)

-- the first n of a list
pub take_in : (n : ℕ) (l : List ℕ) (id : ℕ) → contains id (take n l) ≡ true → contains id l ≡ true
unfolding contains
take_in zero l id h = not_both _ h refl
take_in (suc n) [] id h = h
take_in (suc n) (x ∷ l) id h = either (eqb x id) (λ e. rw e) (λ e. rw e (take_in n l id (rw e at h)))

take_distinct : (n : ℕ) (l : List ℕ) → Distinct l → Distinct (take n l)
unfolding Distinct
take_distinct zero l h = tt
take_distinct (suc n) [] h = tt
take_distinct (suc n) (x ∷ l) h = (not_so _ (λ e. not_both _ (take_in n l x e) h.0), take_distinct n l h.1)

-- the first n who wait on an object are let in
module _ (frame t : ℕ) (p : Partition) (v : Valid frame t p) (o n : ℕ) where
  abbrev firsts : List ℕ
  firsts = take n (waiters o p)

  pub firsts_created : AllCreated firsts p.process_count
  firsts_created id h = waiters_created p v.lists o id (take_in n (waiters o p) id h)

  pub firsts_distinct : Distinct firsts
  firsts_distinct = take_distinct n (waiters o p) (waiters_distinct p v.lists o)

  firsts_on : (id : ℕ) → contains id firsts ≡ true → on_object (process id p) ≡ true
  firsts_on id h = waiters_on p v.lists o id (take_in n (waiters o p) id h)

  pub let_in_valid : Valid frame t (changed_all served firsts p)
  let_in_valid = changed_valid frame t p v served (λ x g on. ended_sound _ x g on) firsts firsts_created firsts_distinct firsts_on

  -- their messages
  carried_all : (l : List ℕ) → AllCreated l p.process_count → AllMessages (map (λ id. carried (process id p)) l)
  unfolding AllMessages contains
  carried_all [] all = tt
  carried_all (id ∷ l) all = (carried_sound _ (process id p) (v.each_process id (all id (rw (eq-eqb id id refl)))), carried_all l (λ y c. all y (rw c (or-true (eqb id y)))))

  length_firsts : (n : ℕ) (l : List ℕ) → length (map (λ id. carried (process id p)) (take n l)) ≤ n
  length_firsts zero l = omega arith
  length_firsts (suc n) [] = omega arith
  length_firsts (suc n) (x ∷ l) = let h = length_firsts n l in omega arith

  pub let_in_queue : SoundQueue n (queue_of (map (λ id. carried (process id p)) firsts))
  let_in_queue = queue_sound n (map (λ id. carried (process id p)) firsts) (length_firsts n (waiters o p)) (carried_all firsts firsts_created)

-- ---------------------------------------------------------------- the changes
module _ (c : Context) (p : Partition) (v : Valid c.frame c.time p) where
  puts : (id : ℕ) → Between 1 p.process_count id → (x : Process) → SoundProcess (setting_of c.frame c.time p) x → HolderReady p id x → Valid c.frame c.time (stored id x p)
  puts id b x s keeps = stored_valid c.frame c.time p v id b x s keeps

  -- the next process, DORMANT
  new_process_valid : p.process_count < process_limit → (g : Given) → SoundGiven c.frame g → Valid c.frame c.time (created (p.process_count + 1) (created_process g) p)
  new_process_valid room g h =
      let n = p.process_count + 1 in
      let x = created_process g in
      let o = v.lists in
      let tracked : (f : Process → Bool) → f blank_process ≡ f x → (q : Ids) → Tracks (λ y. f (process y p)) q → Tracks (λ y. f (by_id process_limit blank_process y (set p.processes (n - 1) x))) q = λ f e q tr.
      tracks_same (λ y. f (process y p)) q tr (λ y. f (by_id process_limit blank_process y (set p.processes (n - 1) x))) n
      (λ y ne. ap f (named_other process_limit blank_process n x p.processes (omega arith) y ne))
      (ap f (named_same process_limit blank_process n x p.processes (omega arith) (omega arith) (omega (arith, o.numbered.size))) ∙ sym e ∙ ap f (sym (o.numbered.past n (omega arith)))) in
      let e : max p.process_count n ≡ n = omega arith in
      rw (created_in n x p (within_in process_limit n (omega arith) (omega arith)), e) (record {
        mode = v.mode;
        lock = record {
          few = v.lock.few;
          free = v.lock.free;
          normal = v.lock.normal;
          held = λ some. let b = holder_created p o v.lock some in rw (named_other process_limit blank_process n x p.processes (omega arith) p.holder (λ y. omega (arith, b.1, y))) (v.lock.held some);
        };
        lists = record {
          numbered = numbered_set o.numbered n x n (omega arith) (omega arith, omega arith) (omega arith);
          arrivals = tracked ready refl p.arrival o.arrivals;
          waitings = tracked on_object refl p.waiting o.waitings;
        };
        objects = v.objects;
        each_process = all_set o.numbered n x n (omega arith) (omega arith, omega arith) (omega arith) (SoundProcess (setting_of c.frame c.time p)) (created_sound _ g h) (λ y b ne. v.each_process y (b.0, omega (arith, b.1, ne)));
      })

  -- entering NORMAL
  entered_valid : c.time ≤ time_limit → c.frame ≤ frame_limit → c.release ≤ c.time + c.frame → normal_mode p ≡ false → Valid c.frame c.time (entered_normal c p)
  unfolding entered_normal
  entered_valid ends frame near e =
      let q = with_mode NormalMode p in
      let f = entered c in
      valid_of c.frame c.time q (each f q) (each_rest f q v.lists) (omega arith) (no_lock _ _) (λ some. absurd (omega arith)) v.objects (each_listed f q v.lists) (λ id b.
      rw (each_process_holds f q v.lists id b) (entered_sound c ends frame near true refl _ c.time (normal_mode p) e (process id p) (v.each_process id b)))

-- the wait that a transfer ends
pub ended_valid : (frame t : ℕ) (p : Partition) → Valid frame t p → (limit : ℕ) (q : Queue) (a : Transfer) → SoundMove limit q a → SoundEnd p a → Valid frame t (ended_by a p)
ended_valid frame t p v limit q (Put m) h e = v
ended_valid frame t p v limit q (HandedTo id m) h e = stored_valid frame t p v id e.0 _ (handed_sound _ (process id p) (v.each_process id e.0) e.1 m h) (not_holder p v.lock id _ (object_not_ready (process id p) e.1))
ended_valid frame t p v limit q Taken h e = v
ended_valid frame t p v limit q (LetIn id m) h e = stored_valid frame t p v id e.0 _ (ended_sound _ (process id p) (v.each_process id e.0) e.1) (not_holder p v.lock id _ (object_not_ready (process id p) e.1))

-- a partition with the same processes
pub end_same : (p q : Partition) (a : Transfer) → q.processes ≡ p.processes → q.process_count ≡ p.process_count → SoundEnd p a → SoundEnd q a
end_same p q (Put m) e f h = tt
end_same p q (HandedTo id m) e f h = rw (e, f) h
end_same p q Taken e f h = tt
end_same p q (LetIn id m) e f h = rw (e, f) h

-- or with a buffer stored
pub end_stored : (j : ℕ) (q : Buffer) (p : Partition) (a : Transfer) → stored_buffer j q p ≡ with_buffers (set p.buffers (j - 1) q) (max p.buffer_count j) p → SoundEnd p a → SoundEnd (stored_buffer j q p) a
end_stored j q p a is h = rw is (end_same p (with_buffers (set p.buffers (j - 1) q) (max p.buffer_count j) p) a refl refl h)

-- each change keeps a partition valid; k says that the call was made at a sound time
pub change_valid : (c : Context) {o : Partition} → SoundContext c o → (p : Partition) → Valid c.frame c.time p → (a : Change) → SoundChange c p a → Valid c.frame c.time (applied a p)
change_valid c k p v Nothing h = v
change_valid c k p v (Stored id x) h = puts c p v id h.0 x h.1 h.2
change_valid c k p v (Created id x) h = rw (h.next, h.dormant) (new_process_valid c p v h.room x.given h.given)
change_valid c k p v (Last id) h = arrived_valid c.frame c.time p v id h
change_valid c k p v (StoredSemaphore j s) h = semaphore_valid c.frame c.time p v j h.0 s h.1
change_valid c k p v (StoredEvent j e) h = event_valid c.frame c.time p v j h.0 e h.1
change_valid c k p v (CreatedBuffer j name limit) h = buffer_valid c.frame c.time p v j h.0 (empty_buffer name limit) h.1
change_valid c k p v (Moved j a) h =
    let q = moved_in a (buffer j p) in
    let few = v.objects.buffers.numbered.few in
    let w = buffer_valid c.frame c.time p v j (known_next buffer_limit p.buffer_count j h.0 few) q (moved_in_sound (buffer j p) (v.objects.buffers.each j h.0) a h.1) in
    let is = buffer_in j q p (within_in buffer_limit j h.0.0 (omega (arith, h.0.1, few))) in
    ended_valid c.frame c.time _ w (buffer j p).limit (buffer j p).queue a h.1 (end_stored j q p a is h.2)
change_valid c k p v (StoredBlackboard j s) h = blackboard_valid c.frame c.time p v j h.0 s h.1
change_valid c k p v (Ended o) h = all_valid c.frame c.time p v served (λ x g on. ended_sound _ x g on) o
change_valid c k p v (Handed o m) h = all_valid c.frame c.time p v (handed m) (λ x g on. handed_sound _ x g on m h) o
change_valid c k p v (LevelSet level holder) h = record { mode = v.mode; lock = h.0; lists = v.lists; objects = v.objects; each_process = v.each_process }
change_valid c k p v (Entered d) h = rw h.0 (entered_valid c p v k.time k.frame.1 k.near h.1)

-- and so does each decision
pub decision_valid : (c : Context) (p : Partition) → SoundContext c p → Valid c.frame c.time p → (d : Decision) → SoundDecision c p d → Valid c.frame c.time (partition_after d p)
decision_valid c p k v (Refused n) h = v
decision_valid c p k v (Unchanged n e) h = v
decision_valid c p k v Ticked h = v
decision_valid c p k v (Blocked id x) h = change_valid c k p v (Stored id x) h
decision_valid c p k v (Changed a b n) h = change_valid c k (applied a p) (change_valid c k p v a h.0) b h.1
decision_valid c p k v (Restarted mode) h = nothing_valid c.frame c.time (mode_number mode) h
decision_valid c p k v (Written i x) h = v
decision_valid c p k v (PassedOn i a n) h = v

-- ---------------------------------------------------------------- the calls
pub record Sound (c : Context) (p : Partition) (d : Decision) : Type 0 where
  pub is : SoundDecision c p d

-- what the caller of a call is in NORMAL
pub record Caller (id : ℕ) (p : Partition) : Type 0 where
  pub created : Between 1 p.process_count id
  pub is_ready : ready (process id p) ≡ true

pub running_caller : (p : Partition) → ListedIn p → LockIn p → (running p ≡ 0 → ⊥) → Caller (running p) p
running_caller p v lock some = let k = running_ready p v lock some in record { created = process_created ready refl p v (running p) k; is_ready = k }

-- periodic and delay ≥ period is refused
pub reaches_below : (period : Time) (delay : ℕ) → reaches period delay ≡ false → Below period delay
reaches_below None delay h = tt
reaches_below (Some n) delay h = leb-false n delay h

pub more_room : (m n : ℕ) (t : Time) → m ≤ n → NotAfter m t → NotAfter n t
more_room m n None h k = tt
more_room m n (Some a) h k = omega arith

pub status_small : (c : Context) (id : ℕ) (x : Process) → status c id x ≤ 3
status_small c id x = by_test (λ (n : ℕ). n ≤ 3) (dormant x) (λ _. omega arith) (λ _. by_test (λ (n : ℕ). n ≤ 3) (eqb id c.caller) (λ _. omega arith) (λ _. by_test (λ (n : ℕ). n ≤ 3) (ready x) (λ _. omega arith) (λ _. omega arith)))

-- ---------------------------------------------------------------- what CREATE_PROCESS admits
field_period : (frame : ℕ) (f : Field) → (is_minus_one f || is_multiple frame f) ≡ true → SoundPeriod frame (time_of f)
field_period frame (Number n) h =
    let r = and_true_parts (between 1 duration_limit (Number n)) _ h in
    (in_limits 1 duration_limit (Number n) r.0, eqb-true (n % frame) 0 (and_true_parts (not (eqb frame 0)) _ r.1).1)
field_period frame MinusOne h = tt
field_period frame Other h = tt

field_above : (n : ℕ) (f : Field) → not (above (Number n) f) ≡ true → NotAbove (time_of f) n
field_above n (Number m) h = ltb-false m n (not-true _ h)
field_above n MinusOne h = tt
field_above n Other h = tt

field_capacity : (e f : Field) → (is_minus_one e || between 1 duration_limit e) ≡ true → not (above e f) ≡ true → SoundCapacity (time_of f) (time_of e)
field_capacity (Number n) f h k = (in_limits 1 duration_limit (Number n) h, field_above n f k)
field_capacity MinusOne f h k = tt
field_capacity Other f h k = tt

abbrev pub given_by : Request → Given
given_by r = record { name = number_of r.a; base = number_of r.b; period = time_of r.c; capacity = time_of r.e }

pub admitted : (c : Context) (r : Request) → admissible c r ≡ true → SoundGiven c.frame (given_by r)
admitted c r h =
    let h1 = and_true_parts (is_name r.a) _ h in
    let h2 = and_true_parts (is_priority r.b) _ h1.1 in
    let h3 = and_true_parts (is_minus_one r.c || is_multiple c.frame r.c) _ h2.1 in
    let h4 = and_true_parts (is_minus_one r.e || between 1 duration_limit r.e) _ h3.1 in
    record {
      name = in_limits 1 name_limit r.a h1.0;
      base = in_limits 1 priority_limit r.b h2.0;
      period = field_period c.frame r.c h3.0;
      capacity = field_capacity r.e r.c h4.0 h4.1;
    }

-- what a call decides of a valid partition that may make it
module _ (c : Context) (p : Partition) (v : Valid c.frame c.time p) (k : SoundContext c p) where
  pub normal_caller : normal_mode p ≡ true → Caller c.caller p
  normal_caller n = rw k.caller (running_caller p v.lists v.lock (λ z. not_both _ (rw (n, z)) (or_false_parts (idle_mode p) _ k.calls).1))

  -- not a start mode
  pub in_normal : start_mode p ≡ false → normal_mode p ≡ true
  in_normal h = not-false (normal_mode p) h

  -- the holder of the preemption lock is the caller; who is not the caller does not hold it
  pub holder_calls : 0 < p.level → p.holder ≡ c.caller
  holder_calls some = sym (k.caller ∙ holder_runs p v.lists (v.lock.normal some) some)

  pub not_caller : (id : ℕ) (b : Bool) → eqb id c.caller ≡ false → 0 < p.level → id ≡ p.holder → b ≡ true
  not_caller id b h some e = absurd (eqb-false id c.caller h (e ∙ holder_calls some))

  -- where preemption is not locked nobody does
  pub unlocked : locked p.level ≡ false → (id : ℕ) (b : Bool) → 0 < p.level → id ≡ p.holder → b ≡ true
  unlocked h id b some e = absurd (let l = ltb-false 0 p.level h in omega arith)

  -- DORMANT or periodic is refused
  pub fit : (id : ℕ) → (dormant (process id p) || periodic (process id p)) ≡ false → ((process id p).started ≡ true) × (periodic (process id p) ≡ false)
  fit id h = let r = or_false_parts _ (periodic (process id p)) h in (not-false (process id p).started r.0, r.1)

  -- one that is known
  pub value_sound : (j : ℕ) → Between 1 p.semaphore_count j → (n : ℕ) → n ≤ (semaphore j p).max → SoundChange c p (with_value j n p)
  value_sound j b n h = let s = v.objects.semaphores.each j b in (known_next semaphore_limit p.semaphore_count j b v.objects.semaphores.numbered.few, record { name = s.name; value = h; max = s.max })

  pub up_sound : (j : ℕ) → Between 1 p.event_count j → (up : Bool) → SoundChange c p (with_up j up p)
  up_sound j b up = (known_next event_limit p.event_count j b v.objects.events.numbered.few, record { name = (v.objects.events.each j b).name })

  pub signalled_sound : (l : List ℕ) (j : ℕ) → Between 1 p.semaphore_count j → ((semaphore j p).value ≡ (semaphore j p).max → ⊥) → ((id : ℕ) → contains id l ≡ true → on_object (process id p) ≡ true) → AllCreated l p.process_count → SoundChange c p (signalled l j p)
  unfolding signalled contains
  signalled_sound [] j b below on all =
      let s = v.objects.semaphores.each j b in
      value_sound j b (one_more (semaphore j p).value) (by_test (λ (n : ℕ). n ≤ (semaphore j p).max) (ltb (semaphore j p).value greatest_value) (λ _. omega (arith, s.value)) (λ _. s.value))
  signalled_sound (id ∷ l) j b below on all = let i : (eqb id id || contains id l) ≡ true = rw (eq-eqb id id refl) in (all id i, ended_sound _ (process id p) (v.each_process id (all id i)) (on id i), not_holder p v.lock id _ (object_not_ready (process id p) (on id i)))

  pub blackboard_known : (j : ℕ) → Between 1 p.blackboard_count j → (m : Option ℕ) → unwrap_or m 0 ≤ duration_limit → SoundChange c p (StoredBlackboard j (record { name = (blackboard j p).name; message = m }))
  blackboard_known j b m few = (known_next blackboard_limit p.blackboard_count j b v.objects.blackboards.numbered.few, record { name = (v.objects.blackboards.each j b).name; message = few })

-- what a call sees of a channel is sound: the message of a sampling one, the first of a queuing one
pub record SoundPort (t : ℕ) (x : Port) : Type 0 where
  pub message : SoundMessage t x.message
  pub first : x.traffic.first ≤ duration_limit
