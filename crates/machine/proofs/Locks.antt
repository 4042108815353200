-- The preemption lock, proved. Assumes nothing.
use Rattle.machine.specs.Mode.{mode_number}
use Rattle.machine.specs.declared.Mode.TheVariants.{Normal as NormalMode}
use Prim.Native.Nat.{ℕ, ◌+◌, ◌-◌, ◌≤◌, ◌<◌}
use mathlib.Core.Path.{◌≡◌, refl, sym, ap, ◌∙◌}
use mathlib.Core.Bool.{true, false, or-true}
use mathlib.Core.List.{List, [], ◌∷◌}
use mathlib.Core.Logic.{◌⊎◌, inl, inr, ⊎_elim}
use native.Mathlib.Omega.{arith}
use lib.ListN.{take}
use lib.IntN.{pos}
use lib.Dec.{eqb, ltb}
use borrow.Author.Tests.{eq-eqb, ne_eqb, eqb-true, ltb-true, ltb-false}
use Rattle.machine.specs.declared.Event.{Event as EventT}
use Rattle.machine.specs.declared.Process.{Process}
use Rattle.machine.specs.declared.Buffer.{Buffer}
use Rattle.machine.specs.declared.Partition.{Partition}
use Rattle.machine.specs.declared.Module.{Module}
use Rattle.machine.specs.declared.Request.{Request}
use Rattle.machine.specs.declared.Context.{Context}
use Rattle.machine.specs.declared.Transfer.{Transfer}
use Rattle.machine.specs.declared.Transfer.TheVariants.{Put, HandedTo, Taken, LetIn}
use Rattle.machine.specs.declared.Change.{Change}
use Rattle.machine.specs.declared.Change.TheVariants.{Nothing, Stored, Created, Last, StoredSemaphore, StoredEvent, CreatedBuffer, Moved, StoredBlackboard, Ended, Handed, LevelSet, Entered}
use Rattle.machine.specs.declared.Decision.{Decision}
use Rattle.machine.specs.declared.Decision.TheVariants.{Refused, Unchanged, Ticked, Blocked, Changed, Restarted, Written, Passed as PassedOn}
use Rattle.machine.specs.Limits.{process_limit, semaphore_limit, event_limit, buffer_limit, blackboard_limit}
use Rattle.machine.specs.Fields.{request_of, number_of}
use Rattle.machine.specs.Process.{served, handed, ticked, entered}
use Rattle.machine.specs.Partition.{within, normal_mode, buffer, empty_buffer, moved_in, ended_by, created, arrived_last, stored_semaphore, stored_event, stored_buffer, stored_blackboard, waiters, each, tick_partition, entered_normal, with_mode, applied, partition_after}
use Rattle.machine.specs.Module.{part, current}
use Rattle.machine.specs.Channels.{port_of}
use Rattle.machine.specs.Step.{context_of, decision, module_after, sees, step}
use Rattle.machine.specs.Runs.{after}
use Rattle.machine.specs.Theorems.Valid.{Between, SameHolder, SoundModule, SoundChange, SoundDecision, Reached}
use Rattle.machine.specs.Theorems.Plain.{ids_from}
use Rattle.machine.specs.Theorems.Events.{own}
use Rattle.machine.specs.Theorems.Locks.{LockHolds, SameLock, NoLockCall, NoLockCalls, LockedThroughout, Locks}
use Rattle.machine.proofs.Tests.{by_test, not_both}
use Rattle.machine.proofs.Bounds.{not_so, so}
use Rattle.machine.proofs.Either.{either}
use Rattle.machine.proofs.Dispatch.{Calls}
use Rattle.machine.proofs.Bodies.{Bodily, leaves_level, sets_level}
use Rattle.machine.proofs.Keeping.{Rest, stored_rest, each_changed, changed_rest}
use Rattle.machine.proofs.Running.{holder_runs}
use Rattle.machine.proofs.Reached.{made, made_sound, made_body, valid_sound, reached_valid, decided_sound}
use Rattle.machine.proofs.Answers.{decided_table}
use Rattle.machine.proofs.Calling.{field_number, number_of_holds}
use Rattle.machine.proofs.Isolation.{left_right}
use Rattle.machine.proofs.PerPartition.{by_partition}

-- ---------------------------------------------------------------- a partition
same_lock : (p : Partition) → SameLock p p
same_lock p = record { level = refl; holder = refl }

lock_along : (p q r : Partition) → SameLock p q → SameLock q r → SameLock p r
lock_along p q r f g = record { level = g.level ∙ f.level; holder = g.holder ∙ f.holder }

rest_lock : (p q : Partition) → Rest p q → SameLock p q
rest_lock p q e = record { level = ap (λ (x : Partition). x.level) e; holder = ap (λ (x : Partition). x.holder) e }

buffer_lock : (k : ℕ) (b : Buffer) (p : Partition) → SameLock p (stored_buffer k b p)
unfolding stored_buffer
buffer_lock k b p = by_test (SameLock p) (within buffer_limit k) (λ _. record { level = refl; holder = refl }) (λ _. same_lock p)

ended_lock : (a : Transfer) (p : Partition) → SameLock p (ended_by a p)
ended_lock (Put m) p = same_lock p
ended_lock (HandedTo id m) p = rest_lock p _ (stored_rest p id _)
ended_lock Taken p = same_lock p
ended_lock (LetIn id m) p = rest_lock p _ (stored_rest p id _)

each_lock : (f : Process → Process) (p : Partition) → SameLock p (each f p)
each_lock f p = rw (each_changed f p.process_count 1 p) (rest_lock p _ (changed_rest f (ids_from p.process_count 1) p))

tick_lock : (t : ℕ) (p : Partition) → SameLock p (tick_partition t p)
unfolding tick_partition
tick_lock t p = by_test (SameLock p) (normal_mode p) (λ _. each_lock (ticked t) p) (λ _. same_lock p)

-- from a level above 0 to another the holder stays
abbrev Holding : Partition → Partition → Type 0
Holding p q = SameHolder p q.level q.holder

-- the lock is what it was, under a premise; in any case the holder stays while the level is above 0
record LockAfter (Leaves : Type 0) (p q : Partition) : Type 0 where
  same : Leaves → SameLock p q
  holding : Holding p q

module _ {Leaves : Type 0} where
  left : (p q : Partition) → SameLock p q → LockAfter Leaves p q
  left p q l = record { same = λ _. l; holding = λ _ _. l.holder }

  then_left : (p q r : Partition) → LockAfter Leaves p q → SameLock q r → LockAfter Leaves p r
  then_left p q r f g = record { same = λ e. lock_along p q r (f.same e) g; holding = λ some more. g.holder ∙ f.holding some (let z = g.level in omega arith) }

-- each change that a call makes
change_lock : (c : Context) (p : Partition) (a : Change) → SoundChange c p a → LockAfter (leaves_level a ≡ true) p (applied a p)
unfolding created arrived_last stored_semaphore stored_event stored_buffer stored_blackboard entered_normal
change_lock c p Nothing h = left p p (same_lock p)
change_lock c p (Stored id x) h = left p _ (rest_lock p _ (stored_rest p id x))
change_lock c p (Created id x) h = left p _ (by_test (SameLock p) (within process_limit id) (λ _. record { level = refl; holder = refl }) (λ _. same_lock p))
change_lock c p (Last id) h = left p _ (record { level = refl; holder = refl })
change_lock c p (StoredSemaphore k s) h = left p _ (by_test (SameLock p) (within semaphore_limit k) (λ _. record { level = refl; holder = refl }) (λ _. same_lock p))
change_lock c p (StoredEvent k e) h = left p _ (by_test (SameLock p) (within event_limit k) (λ _. record { level = refl; holder = refl }) (λ _. same_lock p))
change_lock c p (CreatedBuffer k name limit) h = left p _ (buffer_lock k (empty_buffer name limit) p)
change_lock c p (Moved k a) h =
    let q = moved_in a (buffer k p) in
    left p _ (lock_along p (stored_buffer k q p) _ (buffer_lock k q p) (ended_lock a (stored_buffer k q p)))
change_lock c p (StoredBlackboard k b) h = left p _ (by_test (SameLock p) (within blackboard_limit k) (λ _. record { level = refl; holder = refl }) (λ _. same_lock p))
change_lock c p (Ended o) h = left p _ (rest_lock p _ (changed_rest served (waiters o p) p))
change_lock c p (Handed o m) h = left p _ (rest_lock p _ (changed_rest (handed m) (waiters o p) p))
change_lock c p (LevelSet level holder) h = record { same = λ e. not_both _ e refl; holding = h.1 }
change_lock c p (Entered d) h = record { same = λ e. not_both _ e refl; holding = λ _ more. absurd (let z = (each_lock (entered d) (with_mode NormalMode p)).level in omega (arith, more, z)) }

-- ---------------------------------------------------------------- an event
module _ (m : Module) (s : SoundModule m) (e : EventT) where
  abbrev r : Request
  r = request_of e

  abbrev k : ℕ
  k = number_of r.partition

  abbrev n : ℕ
  n = number_of r.call

  -- where partition number i + 1 makes the call, it is none of the four
  abbrev Elsewhere : ℕ → Type 0
  Elsewhere i = (k ≡ 0 → ⊥) → i ≡ k - 1 → sets_level n ≡ false

  -- the lock of partition number i + 1 then
  abbrev Left : ℕ → Partition → Type 0
  Left i q = LockAfter (Elsewhere i) (part m i) q

  module _ (q : Calls m r) where
    abbrev now : Partition
    now = part m (k - 1)

    decided_lock : (d : Decision) → SoundDecision (context_of m k) now d → Bodily (port_of m k r) n d → Left (k - 1) (partition_after d now)
    decided_lock (Refused c) h b = left now now (same_lock now)
    decided_lock (Unchanged v x) h b = left now now (same_lock now)
    decided_lock Ticked h b = absurd b
    decided_lock (Blocked id x) h b = left now _ (rest_lock now _ (stored_rest now id x))
    decided_lock (Changed x y v) h b =
        let f = change_lock (context_of m k) now x h.0 in
        let g = (change_lock (context_of m k) (applied x now) y h.1).same b.1 in
        then_left now (applied x now) _ (record { same = λ u. f.same (so (leaves_level x) (λ e. not_both _ (rw e at b.0) (u q.some refl))); holding = f.holding }) g
    decided_lock (Restarted mode) h b = record { same = λ u. not_both _ b (u q.some refl); holding = λ _ more. absurd (omega arith) }
    decided_lock (Written j x) h b = left now now (same_lock now)
    decided_lock (PassedOn j a v) h b = left now now (same_lock now)

  event_lock : (i : ℕ) → i < m.table.size → Left i (part (step m e).state i)
  event_lock = by_partition m s e Left
      (λ i _. left (part m i) (part m i) (same_lock (part m i)))
      (λ i _. left (part m i) _ (tick_lock (m.t + 1) (part m i)))
      (λ q _. decided_lock q (made m s r q) (made_sound m s r q) (made_body m s r q))
      (λ i _ o size _ _ p _ h. then_left (part m i) p _ h (rest_lock p _ (changed_rest served (take size (waiters o p)) p)))
      (λ i _ a _. left (part m i) _ (ended_lock a (part m i)))

-- ---------------------------------------------------------------- an event's numbers
one_of : (n : ℕ) → sets_level n ≡ true → (n ≡ 1) ⊎ ((n ≡ 6) ⊎ ((n ≡ 32) ⊎ (n ≡ 33)))
one_of n h = either (eqb n 1)
    (λ e. inl (eqb-true n 1 e))
    (λ a. inr (either (eqb n 6)
    (λ e. inl (eqb-true n 6 e))
    (λ b. inr (either (eqb n 32)
    (λ e. inl (eqb-true n 32 e))
    (λ c. inr (eqb-true n 33 (rw (a, b, c) at h)))))))

no_lock_call : (k : ℕ) (e : EventT) → NoLockCall k e → 1 ≤ k → let r = request_of e in
    (number_of r.partition ≡ 0 → ⊥) → k - 1 ≡ number_of r.partition - 1 → sets_level (number_of r.call) ≡ false
no_lock_call k e free some from is =
    let r = request_of e in
    let n = number_of r.call in
    let own : number_of r.partition ≡ k = omega arith in
    let f = free (number_of_holds e.partition from ∙ ap pos own) in
    not_so (sets_level n) (λ h. ⊎_elim
    (λ (z : n ≡ 1). f.0 (number_of_holds e.call (λ y. omega arith) ∙ ap pos z))
    (⊎_elim
    (λ (z : n ≡ 6). f.1 (number_of_holds e.call (λ y. omega arith) ∙ ap pos z))
    (⊎_elim
    (λ (z : n ≡ 32). f.2 (number_of_holds e.call (λ y. omega arith) ∙ ap pos z))
    (λ (z : n ≡ 33). f.3 (number_of_holds e.call (λ y. omega arith) ∙ ap pos z))))
    (one_of n h))

-- ---------------------------------------------------------------- reached records
holds : (m : Module) → SoundModule m → (k : ℕ) → Between 1 m.table.size k → LockHolds m k
holds m s k b =
    let p = own m k in
    let v = s.each_partition (k - 1) (omega (arith, b.0, b.1)) in
    let l = v.lock in
    record {
      few = l.few;
      outside = λ early. either (ltb 0 p.level) (λ e. absurd (early (eqb-true (mode_number p.mode) 3 (l.normal (ltb-true 0 p.level e))))) (λ e. let z = ltb-false 0 p.level e in omega arith);
      free = l.free;
      held = l.held;
      runs = λ some now. rw (now, ne_eqb k 0 (λ z. omega (arith, b.0))) (holder_runs p v.lists (l.normal some) some);
    }

-- the record after an event
module _ (m : Module) (h : Reached m) (k : ℕ) (b : Between 1 m.table.size k) where
  sound : SoundModule m
  sound = valid_sound m (reached_valid m h) (k - 1) (omega (arith, b.0, b.1))

  inside : (e : EventT) → Between 1 (step m e).state.table.size k
  unfolding step
  inside e = rw (decided_table m (number_of (request_of e).partition) (decision m (request_of e))) b

  step_lock : (e : EventT) → NoLockCall k e → SameLock (own m k) (own (step m e).state k)
  step_lock e free = (event_lock m sound e (k - 1) (omega (arith, b.0, b.1))).same (no_lock_call k e free b.0)

  step_holding : (e : EventT) → Holding (own m k) (own (step m e).state k)
  step_holding e = (event_lock m sound e (k - 1) (omega (arith, b.0, b.1))).holding

  shown_holder : (e : EventT) → let q = (step m e).state in
      (e.partition ≡ pos 0) ⊎ (e.partition ≡ pos k) → current q ≡ k → 0 < (own q k).level → (step m e).answer.running ≡ (own q k).holder
  unfolding step
  shown_holder e from now some =
      let r = request_of e in
      let q = module_after m (number_of r.partition) (decision m r) in
      let seen : sees r (current q) ≡ true = rw now (⊎_elim
      (λ (z : e.partition ≡ pos 0). rw z)
      (λ (z : e.partition ≡ pos k). rw (z, field_number k (omega (arith, b.1, sound.table.size.1)), eq-eqb k k refl, or-true (eqb k 0)))
      from) in
      rw seen ((holds q (decided_sound m sound r) k (inside e)).runs some now)

list_lock : (k : ℕ) (es : List EventT) (m : Module) → Reached m → Between 1 m.table.size k → NoLockCalls k es → SameLock (own m k) (own (after m es) k)
unfolding NoLockCalls
list_lock k [] m h b free = same_lock (own m k)
list_lock k (e ∷ es) m h b free = lock_along (own m k) (own (step m e).state k) _ (step_lock m h k b e free.0) (list_lock k es (step m e).state (Reached.stepped m e h) (inside m h k b e) free.1)

locked_first : (k : ℕ) (m : Module) (es : List EventT) → LockedThroughout k m es → 0 < (own m k).level
unfolding LockedThroughout
locked_first k m [] h = h
locked_first k m (e ∷ es) h = h.0

list_holding : (k : ℕ) (es : List EventT) (m : Module) → Reached m → Between 1 m.table.size k → LockedThroughout k m es → (own (after m es) k).holder ≡ (own m k).holder
unfolding LockedThroughout
list_holding k [] m h b t = refl
list_holding k (e ∷ es) m h b t = list_holding k es (step m e).state (Reached.stepped m e h) (inside m h k b e) t.1 ∙ step_holding m h k b e t.0 (locked_first k (step m e).state es t.1)

-- Law. The preemption lock.
pub locks : Locks
locks = record {
  reached = λ m h k b. holds m (sound m h k b) k b;
  shown = λ m h e k b. shown_holder m h k b e;
  held = λ m h k b es t. list_holding k es m h b t;
  kept = λ m h k b es free. list_lock k es m h b free;
  apart = λ m S within closed left right q k s. let e = (left_right m S within closed left right q).1.records k s in record { level = ap (λ (x : Partition). x.level) (sym e); holder = ap (λ (x : Partition). x.holder) (sym e) };
}
