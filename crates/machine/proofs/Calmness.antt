-- What a change, a decision and a tick leave of who waits to send, and of its buffer. Assumes nothing.
use Rattle.machine.specs.declared.Mode.TheVariants.{Normal as NormalMode}
use Prim.Native.Nat.{ℕ, ◌≤◌, ◌<◌, max, ◌-◌}
use mathlib.Core.Path.{◌≡◌, refl, ap, sym, ◌∙◌}
use mathlib.Core.Bool.{true, false, not, ◌&&◌}
use mathlib.Core.List.{List, [], ◌∷◌}
use native.Mathlib.Omega.{arith}
use lib.ListN.{take, set}
use lib.Dec.{eqb, leb}
use borrow.Author.Tests.{eq-eqb, ne_eqb, eqb-true, eqb-false, le-leb, leb-true}
use Rattle.machine.specs.declared.Process.{Process}
use Rattle.machine.specs.declared.Partition.{Partition}
use Rattle.machine.specs.declared.Context.{Context}
use Rattle.machine.specs.declared.Change.{Change}
use Rattle.machine.specs.declared.Change.TheVariants.{Nothing, Stored, Created, Last, StoredSemaphore, StoredEvent, CreatedBuffer, Moved, StoredBlackboard, Ended, Handed, LevelSet, Entered}
use Rattle.machine.specs.declared.Decision.{Decision}
use Rattle.machine.specs.declared.Decision.TheVariants.{Refused, Unchanged, Ticked, Blocked, Changed, Restarted, Written, Passed as PassedOn}
use Rattle.machine.specs.declared.Queue.{Queue}
use Rattle.machine.specs.declared.Transfer.{Transfer}
use Rattle.machine.specs.declared.Transfer.TheVariants.{Put, HandedTo, Taken, LetIn}
use Rattle.machine.specs.declared.Buffer.{Buffer}
use Rattle.machine.specs.declared.Field.{Field}
use Rattle.machine.specs.declared.Field.TheVariants.{Number, MinusOne, Other}
use Rattle.machine.specs.declared.Wait.{Wait}
use Rattle.machine.specs.Limits.{process_limit, semaphore_limit, event_limit, buffer_limit, blackboard_limit, mode_limit}
use Rattle.machine.specs.Messages.{sent, received}
use Rattle.machine.specs.Ids.{members}
use Rattle.machine.specs.Fields.{is_number, between}
use Rattle.machine.specs.Process.{class_of, blank_process, object, on_object, ready, served, handed, entered, ticked, due, waits_for_normal, woken}
use Rattle.machine.specs.Partition.{normal_mode, no_buffer, process, buffer, empty_buffer, moved_in, ended_by, with_mode, stored, waits_on, waiters, first_waiter, changed_all, each, tick_partition, entered_normal, stored_semaphore, stored_event, stored_buffer, stored_blackboard, applied, within, arrived_last, with_buffers}
use Rattle.machine.specs.Objects.{signalled}
use Rattle.machine.specs.Theorems.Valid.{Between, contains, Distinct, ListedIn, Valid, SoundContext, SoundMove, SoundEnd, SoundChange}
use mathlib.Core.Logic.{◌⊎◌, inl, inr, ⊎_elim}
use Rattle.machine.specs.Theorems.Queues.{queue_number}
use Rattle.machine.specs.declared.Wait.TheVariants.{None}
use Rattle.machine.proofs.Tests.{by_test, not_both, and_left, and_right}
use Rattle.machine.proofs.Bounds.{same_or_not, within_in, within_out, named_same, named_other, created_in, created_out, buffer_in, buffer_out}
use Rattle.machine.proofs.Either.{either}
use Rattle.machine.proofs.Tracking.{contains_kept}
use Rattle.machine.proofs.Keeping.{process_created, Rest, stored_rest, process_other, process_stored, AllCreated, rest_count, changed_rest, changed_process, each_rest, each_listed, each_process_holds}
use Rattle.machine.proofs.Sound.{ready_off}
use Rattle.machine.proofs.Kept.{waiters_distinct, waiters_created, first_in, take_in, firsts_created, firsts_distinct, let_in_valid, ended_valid, end_stored, change_valid, normal_caller}
use Rattle.machine.proofs.Orders.{Part, part_whole, part_trans, all_part, expired_wait, ticked_object, start_object, normal_off, ended_part}

-- 0..3 and not 3
pub below_three : (f : Field) → between 0 mode_limit f ≡ true → is_number 3 f ≡ false → between 0 2 f ≡ true
below_three (Number n) h e = let r = leb-true n mode_limit (and_right (leb 0 n) (leb n mode_limit) h) in let ne = eqb-false n 3 e in rw (le-leb 0 n (omega arith), le-leb n 2 (omega arith))
below_three MinusOne h e = not_both _ h refl
below_three Other h e = not_both _ h refl

-- one of a queue waits on its object
pub on_queue_holds : (p : Partition) (o id : ℕ) → contains id (waiters o p) ≡ true → object (process id p).wait ≡ o
unfolding waiters
on_queue_holds p o id c = eqb-true _ o (and_left (waits_on o p id) _ (sym (contains_kept (waits_on o p) id (members p.waiting)) ∙ c))

-- the kinds of queues of senders, by the kinds of class_of: 3 of buffers, 6 of channels
pub record OfSenders (kind : ℕ) : Type 0 where
  pub low : 3 ≤ kind
  pub receivers : kind ≡ 4 → ⊥
  pub readers : kind ≡ 5 → ⊥
  pub ends : kind ≡ 7 → ⊥

module _ (kind j : ℕ) (of : OfSenders kind) (low : j ≤ 16) where
  -- the senders of buffer j, or of channel j
  abbrev pub senders : ℕ
  senders = queue_number kind j

  pub senders_some : senders ≡ 0 → ⊥
  senders_some z = omega (arith, of.low)

  -- a process with the wait w gets the wait w': it waits to send only where it did so with the same wait, and ceases only by call 5
  abbrev pub KeepsSending : ℕ → Wait → Wait → Type 0
  KeepsSending n w w' = (object w' ≡ senders → w' ≡ w) × (object w ≡ senders → (object w' ≡ senders) ⊎ (n ≡ 5))

  pub keeps_same : (n : ℕ) (w : Wait) → KeepsSending n w w
  keeps_same n w = (λ _. refl, λ e. inl e)

  -- it waits to send neither before nor after
  keeps_off : (n : ℕ) (w w' : Wait) → (object w ≡ senders → ⊥) → (object w' ≡ senders → ⊥) → KeepsSending n w w'
  keeps_off n w w' a b = (λ e. absurd (b e), λ e. absurd (a e))

  no_sender : (n : ℕ) → n ≡ 0 → n ≡ senders → ⊥
  no_sender n z e = senders_some (sym e ∙ z)

  -- what stays: buffer j with its messages, and each wait to send, but for call 5
  pub record Stays (n : ℕ) (p q : Partition) : Type 0 where
    pub same : kind ≡ 3 → buffer j q ≡ buffer j p
    pub count : p.buffer_count ≤ q.buffer_count
    pub waits : (id : ℕ) → KeepsSending n (process id p).wait (process id q).wait

  pub stays_same : (n : ℕ) (p : Partition) → Stays n p p
  stays_same n p = record { same = λ _. refl; count = omega arith; waits = λ id. keeps_same n (process id p).wait }

  pub stays_along : (n : ℕ) (p q r : Partition) → Stays n p q → Stays n q r → Stays n p r
  stays_along n p q r a b = record {
    same = λ e. b.same e ∙ a.same e;
    count = omega (arith, a.count, b.count);
    waits = λ id.
        let f = a.waits id in
        let g = b.waits id in
        (λ e. let s = g.0 e in s ∙ f.0 (ap object (sym s) ∙ e), λ e. ⊎_elim g.1 inr (f.1 e));
  }

  -- a transfer that ends no wait to send
  abbrev pub CalmEnd : ℕ → Partition → Transfer → Type 0
  CalmEnd n p (Put m) = Unit {0}
  CalmEnd n p (HandedTo id m) = KeepsSending n (process id p).wait None
  CalmEnd n p Taken = Unit {0}
  CalmEnd n p (LetIn id m) = KeepsSending n (process id p).wait None

  -- a change that leaves them
  abbrev pub CalmChange : ℕ → Partition → Change → Type 0
  CalmChange n p Nothing = Unit {0}
  CalmChange n p (Stored id x) = KeepsSending n (process id p).wait x.wait
  CalmChange n p (Created id x) = Unit {0}
  CalmChange n p (Last id) = Unit {0}
  CalmChange n p (StoredSemaphore k s) = Unit {0}
  CalmChange n p (StoredEvent k e) = Unit {0}
  CalmChange n p (CreatedBuffer k name limit) = kind ≡ 3 → k ≡ j → ⊥
  CalmChange n p (Moved k a) = (kind ≡ 3 → k ≡ j → ⊥) × CalmEnd n p a
  CalmChange n p (StoredBlackboard k b) = Unit {0}
  CalmChange n p (Ended o) = o ≡ senders → ⊥
  CalmChange n p (Handed o m) = o ≡ senders → ⊥
  CalmChange n p (LevelSet level holder) = Unit {0}
  CalmChange n p (Entered c) = Unit {0}

  -- processes that change, and nothing else
  rest_stays : (n : ℕ) (p q : Partition) → Rest p q → ((id : ℕ) → KeepsSending n (process id p).wait (process id q).wait) → Stays n p q
  rest_stays n p q e w = record { same = λ _. ap (λ (r : Partition). buffer j r) e; count = let f : q.buffer_count ≡ p.buffer_count = ap (λ (r : Partition). r.buffer_count) e in omega arith; waits = w }

  -- a process that is as it was
  same_process : (n id : ℕ) (p q : Partition) → process id q ≡ process id p → KeepsSending n (process id p).wait (process id q).wait
  same_process n id p q e = rw e (keeps_same n (process id p).wait)

  -- one process stored
  stored_stays : (n : ℕ) (p : Partition) → ListedIn p → (id : ℕ) → Between 1 p.process_count id → (x : Process) → KeepsSending n (process id p).wait x.wait → Stays n p (stored id x p)
  stored_stays n p v id b x g = rest_stays n p _ (stored_rest p id x) (λ y. ⊎_elim
      (λ (s : y ≡ id). rw (s, process_stored p id x v b) g)
      (λ (ne : y ≡ id → ⊥). same_process n y p (stored id x p) (process_other p id x y ne))
      (same_or_not y id))

  -- another buffer stored
  other_stays : (n k : ℕ) (b : Buffer) (p : Partition) → (kind ≡ 3 → k ≡ j → ⊥) → Stays n p (stored_buffer k b p)
  other_stays n k b p ne = either (within buffer_limit k)
      (λ e. rw (buffer_in k b p e) (record { same = λ is. named_other buffer_limit no_buffer k b p.buffers (within_out buffer_limit k e).0 j (λ s. ne is (sym s)); count = omega arith; waits = λ id. keeps_same n (process id p).wait }))
      (λ e. rw (buffer_out k b p e) (stays_same n p))

  -- the wait that a transfer ends
  pub end_stays : (n : ℕ) (p : Partition) → ListedIn p → (a : Transfer) → SoundEnd p a → CalmEnd n p a → Stays n p (ended_by a p)
  end_stays n p v (Put m) h g = stays_same n p
  end_stays n p v (HandedTo id m) h g = stored_stays n p v id h.0 (handed m (process id p)) g
  end_stays n p v Taken h g = stays_same n p
  end_stays n p v (LetIn id m) h g = stored_stays n p v id h.0 (served (process id p)) g

  -- a partition with the same processes
  calm_same : (n : ℕ) (p q : Partition) (a : Transfer) → q.processes ≡ p.processes → CalmEnd n p a → CalmEnd n q a
  calm_same n p q (Put m) e h = tt
  calm_same n p q (HandedTo id m) e h = rw e h
  calm_same n p q Taken e h = tt
  calm_same n p q (LetIn id m) e h = rw e h

  -- these processes, which wait on another object, are changed by f, which ends waits
  waits_stay : (n : ℕ) (f : Process → Process) → ((x : Process) → object (f x).wait ≡ 0) → (o : ℕ) (p : Partition) → ListedIn p → (o ≡ senders → ⊥)
      → (l : List ℕ) → AllCreated l p.process_count → Distinct l → ((id : ℕ) → contains id l ≡ true → object (process id p).wait ≡ o) → Stays n p (changed_all f l p)
  waits_stay n f ends o p v ne l all once on =
      let q = changed_all f l p in
      rest_stays n p q (changed_rest f l p) (λ id.
      let is = changed_process f l p v all once id in
      either (contains id l)
      (λ c. rw (is, c) (keeps_off n (process id p).wait (f (process id p)).wait (λ e. ne (sym (on id c) ∙ e)) (no_sender _ (ends (process id p)))))
      (λ c. same_process n id p q (is ∙ rw c)))

  ended_stays : (n : ℕ) (f : Process → Process) → ((x : Process) → object (f x).wait ≡ 0) → (o : ℕ) (p : Partition) → ListedIn p → (o ≡ senders → ⊥) → Stays n p (changed_all f (waiters o p) p)
  ended_stays n f ends o p v ne = waits_stay n f ends o p v ne (waiters o p) (waiters_created p v o) (waiters_distinct p v o) (on_queue_holds p o)

  -- a process as NORMAL is entered
  entered_keeps : (n : ℕ) (c : Context) (x : Process) → KeepsSending n x.wait (entered c x).wait
  unfolding entered
  entered_keeps n c x = by_test (λ (y : Process). KeepsSending n x.wait y.wait) (waits_for_normal x.wait)
      (λ e. keeps_off n x.wait _ (no_sender _ (normal_off (class_of x.wait) e)) (no_sender _ (start_object c x.times.delay x)))
      (λ _. keeps_same n x.wait)

  -- every process changed
  each_stays : (n : ℕ) (f : Process → Process) (p : Partition) → ListedIn p → ((x : Process) → KeepsSending n x.wait (f x).wait) → Stays n p (each f p)
  each_stays n f p v k = rest_stays n p _ (each_rest f p v) (λ id. either (leb 1 id && leb id p.process_count)
      (λ e. rw (each_process_holds f p v id (leb-true 1 id (and_left (leb 1 id) _ e), leb-true id p.process_count (and_right (leb 1 id) _ e))) (k (process id p)))
      (λ e. keeps_off n (process id p).wait (process id (each f p)).wait
      (λ s. not_both _ (inside id (process_created on_object refl p v id (on (process id p).wait s))) e)
      (λ s. not_both _ (inside id (rw (rest_count p _ (each_rest f p v)) at (process_created on_object refl (each f p) (each_listed f p v) id (on (process id (each f p)).wait s)))) e)))
    where
      on : (w : Wait) → object w ≡ senders → not (eqb (object w) 0) ≡ true
      on w s = rw (s, ne_eqb senders 0 senders_some)

      inside : (id : ℕ) → Between 1 p.process_count id → (leb 1 id && leb id p.process_count) ≡ true
      inside id b = rw (le-leb 1 id b.0, le-leb id p.process_count b.1)

  -- one change
  change_stays : (n : ℕ) (c : Context) (p : Partition) → Valid c.frame c.time p → (a : Change) → SoundChange c p a → CalmChange n p a → Stays n p (applied a p)
  unfolding arrived_last stored_semaphore stored_event stored_blackboard entered_normal
  change_stays n c p v Nothing h g = stays_same n p
  change_stays n c p v (Stored id x) h g = stored_stays n p v.lists id h.0 x g
  change_stays n c p v (Created id x) h g = either (within process_limit id)
      (λ e. rw (created_in id x p e) (record {
        same = λ _. refl;
        count = omega arith;
        waits = λ y. ⊎_elim
            (λ (s : y ≡ id).
            let hi = (within_out process_limit id e).1 in
            let off : object (process id p).wait ≡ 0 = ap (λ (z : Process). object z.wait) (v.lists.numbered.past id (omega (arith, h.next))) in
            rw (s, named_same process_limit blank_process id x p.processes (within_out process_limit id e).0 hi (omega (arith, hi, v.lists.numbered.size)))
            (keeps_off n (process id p).wait x.wait (no_sender _ off) (no_sender _ (ap (λ (z : Process). object z.wait) h.dormant))))
            (λ (ne : y ≡ id → ⊥). rw (named_other process_limit blank_process id x p.processes (within_out process_limit id e).0 y ne) (keeps_same n (process y p).wait))
            (same_or_not y id);
      }))
      (λ e. rw (created_out id x p e) (stays_same n p))
  change_stays n c p v (Last id) h g = record { same = λ _. refl; count = omega arith; waits = λ id. keeps_same n (process id p).wait }
  change_stays n c p v (StoredSemaphore k s) h g = by_test (Stays n p) (within semaphore_limit k) (λ _. record { same = λ _. refl; count = omega arith; waits = λ id. keeps_same n (process id p).wait }) (λ _. stays_same n p)
  change_stays n c p v (StoredEvent k e) h g = by_test (Stays n p) (within event_limit k) (λ _. record { same = λ _. refl; count = omega arith; waits = λ id. keeps_same n (process id p).wait }) (λ _. stays_same n p)
  change_stays n c p v (CreatedBuffer k name limit) h g = other_stays n k (empty_buffer name limit) p g
  change_stays n c p v (Moved k a) h g =
      let b = moved_in a (buffer k p) in
      let is = buffer_in k b p (within_in buffer_limit k h.0.0 (omega (arith, h.0.1, v.objects.buffers.numbered.few))) in
      stays_along n p (stored_buffer k b p) _ (other_stays n k b p g.0) (end_stays n (stored_buffer k b p) (rw is v.lists) a (end_stored k b p a is h.2) (rw is (calm_same n p (with_buffers (set p.buffers (k - 1) b) (max p.buffer_count k) p) a refl g.1)))
  change_stays n c p v (StoredBlackboard k b) h g = by_test (Stays n p) (within blackboard_limit k) (λ _. record { same = λ _. refl; count = omega arith; waits = λ id. keeps_same n (process id p).wait }) (λ _. stays_same n p)
  change_stays n c p v (Ended o) h g = ended_stays n served (λ _. refl) o p v.lists g
  change_stays n c p v (Handed o m) h g = ended_stays n (handed m) (λ _. refl) o p v.lists g
  change_stays n c p v (LevelSet level holder) h g = record { same = λ _. refl; count = omega arith; waits = λ id. keeps_same n (process id p).wait }
  change_stays n c p v (Entered d) h g = stays_along n p (with_mode NormalMode p) _ (record { same = λ _. refl; count = omega arith; waits = λ id. keeps_same n (process id p).wait }) (each_stays n (entered d) (with_mode NormalMode p) v.lists (entered_keeps n d))

  -- ---------------------------------------------------------------- decisions
  -- a decides for call 1
  abbrev pub Calm : ℕ → Field → Partition → Decision → Type 0
  Calm n f p (Refused code) = Unit {0}
  Calm n f p (Unchanged value extra) = Unit {0}
  Calm n f p Ticked = Unit {0}
  Calm n f p (Blocked id x) = object x.wait ≡ senders → ⊥
  Calm n f p (Changed a b value) = CalmChange n p a × CalmChange n (applied a p) b
  Calm n f p (Restarted mode) = (n ≡ 1) × (between 0 2 f ≡ true)
  Calm n f p (Written i x) = Unit {0}
  Calm n f p (PassedOn i a value) = Unit {0}

  pub record IsCalm (n : ℕ) (f : Field) (p : Partition) (d : Decision) : Type 0 where
    pub is : Calm n f p d

  -- two changes
  pub changed_stays : (n : ℕ) (c : Context) {o : Partition} → SoundContext c o → (p : Partition) → Valid c.frame c.time p → (a b : Change) → SoundChange c p a → SoundChange c (applied a p) b → CalmChange n p a → CalmChange n (applied a p) b → Stays n p (applied b (applied a p))
  changed_stays n c s p v a b f g h k = stays_along n p (applied a p) _ (change_stays n c p v a f h) (change_stays n c (applied a p) (change_valid c s p v a f) b g k)

  -- the caller, which is READY, begins to wait, and not to send
  pub blocked_stays : (n : ℕ) (p : Partition) → ListedIn p → (id : ℕ) → Between 1 p.process_count id → (x : Process) → ready (process id p) ≡ true → (object x.wait ≡ senders → ⊥) → Stays n p (stored id x p)
  blocked_stays n p v id b x h ne = stored_stays n p v id b x (keeps_off n (process id p).wait x.wait (no_sender _ (ready_off (process id p) h)) ne)

  -- a transfer to or from the first of another queue
  module _ (n o : ℕ) (p : Partition) (ne : o ≡ senders → ⊥) where
    first_calm : (first_waiter o p ≡ 0 → ⊥) → KeepsSending n (process (first_waiter o p) p).wait None
    first_calm some = keeps_off n (process (first_waiter o p) p).wait None (λ e. ne (sym (on_queue_holds p o (first_waiter o p) (first_in (waiters o p) some)) ∙ e)) (no_sender _ refl)

    pub sent_calm : (m : ℕ) → CalmEnd n p (sent (first_waiter o p) m)
    unfolding sent
    sent_calm m = by_test (CalmEnd n p) (eqb (first_waiter o p) 0) (λ _. tt) (λ e. first_calm (eqb-false _ 0 e))

    pub received_calm : (m : ℕ) → CalmEnd n p (received (first_waiter o p) m)
    unfolding received
    received_calm m = by_test (CalmEnd n p) (eqb (first_waiter o p) 0) (λ _. tt) (λ e. first_calm (eqb-false _ 0 e))

  -- ---------------------------------------------------------------- every other call
  module _ (n : ℕ) (f : Field) (c : Context) (p : Partition) (v : Valid c.frame c.time p) (s : SoundContext c p) (there : kind ≡ 3 → p.buffer_count < j → ⊥) where
    -- a process on another object, whose wait ends; one on no object
    pub elsewhere : (id : ℕ) (w : Wait) (o : ℕ) → object (process id p).wait ≡ o → (o ≡ senders → ⊥) → object w ≡ 0 → KeepsSending n (process id p).wait w
    elsewhere id w o is ne off = keeps_off n (process id p).wait w (λ e. ne (sym is ∙ e)) (no_sender _ off)

    pub idle : (id : ℕ) (w : Wait) → object (process id p).wait ≡ 0 → object w ≡ 0 → KeepsSending n (process id p).wait w
    idle id w z off = elsewhere id w 0 z (λ e. senders_some (sym e)) off

    pub caller_off : normal_mode p ≡ true → object (process c.caller p).wait ≡ 0
    caller_off h = ready_off (process c.caller p) (normal_caller c p v s h).is_ready

    -- the first of a queue
    first_of_queue : (o : ℕ) (l : List ℕ) (id : ℕ) → waiters o p ≡ id ∷ l → object (process id p).wait ≡ o
    unfolding contains
    first_of_queue o l id e = on_queue_holds p o id (rw (e, eq-eqb id id refl))

    pub signalled_calm : (l : List ℕ) (k : ℕ) → k ≤ 8 → waiters (queue_number 1 k) p ≡ l → CalmChange n p (signalled l k p)
    unfolding signalled
    signalled_calm [] k few e = tt
    signalled_calm (id ∷ l) k few e = elsewhere id None (queue_number 1 k) (first_of_queue (queue_number 1 k) l id e) (λ z. omega (arith, of.low)) refl

  -- ---------------------------------------------------------------- the tick
  -- a tick ends waits; who still waits to send keeps its wait
  pub tick_keeps : (t : ℕ) (x : Process) → object (ticked t x).wait ≡ senders → (ticked t x).wait ≡ x.wait
  unfolding woken
  tick_keeps t x e = expired_wait t (woken t x) ∙ either (due t x.times.wake)
      (λ d. absurd (senders_some (sym e ∙ ticked_object t x ∙ rw d)))
      (λ d. rw d)

  tick_each : (n t : ℕ) (x : Process) → n ≡ 5 → KeepsSending n x.wait (ticked t x).wait
  tick_each n t x five = (tick_keeps t x, λ _. inr five)

  -- as STOP does
  pub tick_stays : (t : ℕ) (p : Partition) → ListedIn p → Stays 5 p (tick_partition t p)
  unfolding tick_partition
  tick_stays t p v = by_test (Stays 5 p) (normal_mode p) (λ _. each_stays 5 (ticked t) p v (λ x. tick_each 5 t x refl)) (λ _. stays_same 5 p)

  -- ---------------------------------------------------------------- another partition's event
  -- the partition with the senders after it: who waits to send goes on waiting, in the same order
  pub record Leaves (p q : Partition) : Type 0 where
    pub stays : Stays 0 p q
    pub lists : ListedIn q
    pub part : Part (waiters senders p) (waiters senders q)

  pub leaves_same : (p : Partition) → ListedIn p → Leaves p p
  leaves_same p v = record { stays = stays_same 0 p; lists = v; part = part_whole (waiters senders p) }

  pub leaves_along : (p q r : Partition) → Leaves p q → Leaves q r → Leaves p r
  leaves_along p q r a b = record { stays = stays_along 0 p q r a.stays b.stays; lists = b.lists; part = part_trans a.part b.part }

  -- a transfer that ends a wait on another object
  pub end_leaves : (frame t : ℕ) (p : Partition) → Valid frame t p → (limit : ℕ) (q : Queue) (a : Transfer) → SoundMove limit q a → SoundEnd p a → CalmEnd 0 p a → Leaves p (ended_by a p)
  end_leaves frame t p v limit q a h e c = record {
    stays = end_stays 0 p v.lists a e c;
    lists = (ended_valid frame t p v limit q a h e).lists;
    part = ended_part senders senders_some p v.lists a e;
  }

  -- the first who wait on another object let in
  pub let_in_leaves : (frame t : ℕ) (p : Partition) → Valid frame t p → (o n : ℕ) → (o ≡ senders → ⊥) → Leaves p (changed_all served (take n (waiters o p)) p)
  let_in_leaves frame t p v o n ne =
      let l = take n (waiters o p) in
      let all = firsts_created frame t p v o n in
      record {
        stays = waits_stay 0 served (λ _. refl) o p v.lists ne l all (firsts_distinct frame t p v o n) (λ id c. on_queue_holds p o id (take_in n (waiters o p) id c));
        lists = (let_in_valid frame t p v o n).lists;
        part = all_part senders senders_some served (λ x. inl refl) l p v.lists all;
      }
