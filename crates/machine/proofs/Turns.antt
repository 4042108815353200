-- What a call makes of the record of a process of its own partition. Assumes nothing.
use Rattle.machine.specs.Mode.{mode_number}
use Rattle.machine.specs.declared.Mode.TheVariants.{Normal as NormalMode}
use Prim.Native.Nat.{ℕ, ◌*◌, ◌-◌, ◌≤◌, ◌+◌}
use mathlib.Core.Path.{◌≡◌, refl, sym, ap, subst, ◌∙◌}
use mathlib.Core.Bool.{true, false}
use mathlib.Core.List.{List}
use mathlib.Core.Logic.{inl, inr, ⊎_elim}
use native.Mathlib.Omega.{arith}
use lib.ListN.{set}
use lib.Dec.{eqb}
use lib.IntN.{ℤ, pos}
use borrow.Author.Tests.{eq-eqb, eqb-true, eqb-false}
use Rattle.machine.specs.declared.Process.{Process}
use Rattle.machine.specs.declared.Partition.{Partition}
use Rattle.machine.specs.declared.Context.{Context}
use Rattle.machine.specs.declared.Request.{Request}
use Rattle.machine.specs.declared.Transfer.{Transfer}
use Rattle.machine.specs.declared.Change.{Change}
use Rattle.machine.specs.declared.Change.TheVariants.{Nothing, Stored, Created, Last, StoredSemaphore, StoredEvent, CreatedBuffer, Moved, StoredBlackboard, Ended, Handed, LevelSet, Entered}
use Rattle.machine.specs.declared.Wait.TheVariants.{None as NoWait, Normal, Period, Semaphore, Sending, Receiving}
use Rattle.std.specs.Prelude.{None}
use Rattle.machine.specs.declared.Event.{Event as EventT}
use Rattle.machine.specs.declared.Module.{Module}
use Rattle.machine.specs.Limits.{process_limit, buffer_limit}
use Rattle.machine.specs.Fields.{field, request_of, is_number, number_of}
use Rattle.machine.specs.Messages.{sent, received}
use Rattle.machine.specs.Process.{blank_process, object, served, handed, for_nothing, waits_for_nothing, waits_for_normal, ready, entered, carried}
use Rattle.machine.specs.Partition.{by_id, normal_mode, process, stored, stored_buffer, moved_in, ended_by, buffer, waiters, first_waiter, changed_all, with_mode, entered_normal, applied, running}
use Rattle.machine.specs.Step.{context_of}
use Rattle.machine.specs.Theorems.Valid.{Between, contains, Distinct, Valid, ListedIn, SoundModule, SoundChange, SoundEnd, setting_of}
use Rattle.machine.specs.Theorems.Plain.{ids_from}
use Rattle.machine.specs.Theorems.Events.{own}
use Rattle.machine.specs.Theorems.EachCall.{id_of, with, with_priority}
use Rattle.machine.specs.Theorems.EachProcess.{wait_of, served_by, Call, CallOf, CallBy, Tick, Service, ActsElsewhere, Becomes}
use Rattle.machine.proofs.Tests.{by_test, not_both, or_right}
use Rattle.machine.proofs.Bounds.{same_or_not, within_in, named_same, named_other, created_in, buffer_in}
use Rattle.machine.proofs.Keeping.{process_other, process_stored, changed_process, each_changed, AllCreated, from_range, distinct_from}
use Rattle.machine.proofs.Kept.{end_stored, first_in, waiters_created, waiters_distinct, waiters_exact}
use Rattle.machine.proofs.Sound.{ready_parts}
use Rattle.machine.proofs.Plain.{next_plain, next_deadline_plain}
use Rattle.machine.proofs.Calling.{number_of_holds, number_is}
use Rattle.machine.proofs.Reasons.{for_none}
use Rattle.machine.proofs.Acts.{StoredBy, BlockedBy, TransferBy, Makes, touches, acts_on_named}
use Rattle.machine.proofs.Alike.{Alike, buffer_alike, untouched, alike_along, alike_process, alike_waiters, not_created, Begun, starts_as, enters_as}
use Rattle.machine.proofs.WaitsOn.{wait_at, wait_is}

-- ---------------------------------------------------------------- an event's numbers
-- the id that a field names
pub id_of_holds : (z : ℤ) → (number_of (field z) ≡ 0 → ⊥) → id_of z ≡ number_of (field z)
id_of_holds z some = ap id_of (number_of_holds z some)

-- ---------------------------------------------------------------- events that name no process, or another
pub same_number : {a b : ℕ} → pos a ≡ pos b → a ≡ b
same_number e = ap id_of e

module _ (m : Module) (e : EventT) (k id : ℕ) where
  -- no tick, no call of the partition answered 0, and none by the process answered 7
  pub elsewhere_none : (code : ℕ) → (Tick m e code k id → ⊥) → ((n : ℕ) → Call m e code k id n 0 → ⊥) → ((n : ℕ) → CallBy m e code k id n 7 → ⊥) → ActsElsewhere m e code k id
  elsewhere_none code still none waits = record {
    tick = still;
    start = ⊎_elim (λ (c : CallOf m e code k id 3). none 3 c.0) (λ (c : CallOf m e code k id 4). none 4 c.0);
    stop = ⊎_elim (λ (c : CallOf m e code k id 5). none 5 c.0) (λ (c : CallBy m e code k id 6 0). none 6 c.0);
    suspend = λ c. none 7 c.0;
    resume = λ c. none 11 c.0;
    priority = λ c. none 12 c.0;
    wait = waits;
    enter = λ c. none 1 c.call;
    erase = λ c. none 1 c.call;
  }

  -- a code other than 0 and 7
  pub elsewhere_code : (code : ℕ) → (code ≡ 0 → ⊥) → (code ≡ 7 → ⊥) → ActsElsewhere m e code k id
  elsewhere_code code f g = elsewhere_none code (λ t. f t.1) (λ n c. f c.2) (λ n c. g c.0.2)

  -- a call of another partition
  pub elsewhere_from : (code h : ℕ) → e.partition ≡ pos h → (h ≡ k → ⊥) → (h ≡ 0 → ⊥) → ActsElsewhere m e code k id
  elsewhere_from code h by other some = elsewhere_none code (λ t. some (same_number (sym by ∙ t.0))) (λ n c. other (same_number (sym by ∙ c.0))) (λ n c. other (same_number (sym by ∙ c.0.0)))

  -- a call by another process that waits
  pub elsewhere_seven : (id ≡ running (own m k) → ⊥) → ActsElsewhere m e 7 k id
  elsewhere_seven ne = elsewhere_none 7 (λ t. omega (arith, t.1)) (λ n c. omega (arith, c.2)) (λ n c. ne c.2)

  -- call n answered 0: it names another process, is not by this one, and lets it enter NORMAL no more than it erases it
  pub elsewhere_call : (n h : ℕ) → e.partition ≡ pos h → (h ≡ 0 → ⊥) → e.call ≡ pos n → ((n ≡ 1 → ⊥) → (n ≡ 6 → ⊥) → acts_on_named n ≡ true → e.a ≡ pos id → ⊥) → (n ≡ 6 → id ≡ running (own m k) → ⊥)
      → (n ≡ 1 → (e.a ≡ pos 3) × ((process id (own m k)).wait ≡ Normal → ⊥)) → ActsElsewhere m e 0 k id
  elsewhere_call n h by some call other self one =
      let is : (j : ℕ) → e.call ≡ pos j → n ≡ j = λ j z. same_number (sym call ∙ z) in
      let names : (j : ℕ) → (j ≡ 1 → ⊥) → (j ≡ 6 → ⊥) → acts_on_named j ≡ true → CallOf m e 0 k id j → ⊥ = λ j a b t c. let z = is j c.0.1 in other (λ w. a (sym z ∙ w)) (λ w. b (sym z ∙ w)) (rw z t) c.1 in
      record {
        tick = λ t. some (same_number (sym by ∙ t.0));
        start = ⊎_elim (names 3 (λ z. omega arith) (λ z. omega arith) refl) (names 4 (λ z. omega arith) (λ z. omega arith) refl);
        stop = ⊎_elim (names 5 (λ z. omega arith) (λ z. omega arith) refl) (λ (c : CallBy m e 0 k id 6 0). self (is 6 c.0.1) c.2);
        suspend = names 7 (λ z. omega arith) (λ z. omega arith) refl;
        resume = names 11 (λ z. omega arith) (λ z. omega arith) refl;
        priority = names 12 (λ z. omega arith) (λ z. omega arith) refl;
        wait = λ n c. omega (arith, c.0.2);
        enter = λ c. (one (is 1 c.call.1)).1 c.waits;
        erase = λ c. let z = same_number (sym c.is ∙ (one (is 1 c.call.1)).0) in omega (arith, c.low);
      }

  -- a call that names no process
  pub elsewhere_number : (n h : ℕ) → e.partition ≡ pos h → (h ≡ 0 → ⊥) → e.call ≡ pos n → acts_on_named n ≡ false → ActsElsewhere m e 0 k id
  elsewhere_number n h by some call off = elsewhere_call n h by some call (λ _ _ t _. not_both _ t off) (λ z _. not_both _ (rw z) off) (λ z. not_both _ (rw z) off)

-- ---------------------------------------------------------------- waits that end
-- process id of partition k waits on o where it is in that queue, and its service there is given
module _ (m : Module) (e : EventT) (k id : ℕ) (v : ListedIn (own m k)) (o : ℕ) (some : o ≡ 0 → ⊥) (serves : object (process id (own m k)).wait ≡ o → Service m e 0 k id) (none : ActsElsewhere m e 0 k id) where
  waits_there : contains id (waiters o (own m k)) ≡ true → (msg : ℕ) → Becomes m e 0 k id (handed msg (process id (own m k)))
  waits_there h msg = Becomes.served (serves (eqb-true _ o (sym (waiters_exact (own m k) v o some id) ∙ h))) refl

  -- the wait of process w of the queue ends, in a partition that differs in no process
  ended_is : (q : Partition) → Alike (own m k) q → ListedIn q → (w : ℕ) → Between 1 q.process_count w → contains w (waiters o (own m k)) ≡ true → (msg : ℕ) → Becomes m e 0 k id (process id (stored w (handed msg (process w q)) q))
  ended_is q a u w b h msg = ⊎_elim
      (λ (z : id ≡ w).
      subst (Becomes m e 0 k id) (sym (ap (λ i. process i (stored w (handed msg (process w q)) q)) z ∙ process_stored q w (handed msg (process w q)) u b ∙ ap (λ i. handed msg (process i q)) (sym z) ∙ ap (handed msg) (alike_process (own m k) q a id)))
      (waits_there (rw z h) msg))
      (λ (ne : id ≡ w → ⊥). Becomes.same none (process_other q w (handed msg (process w q)) id ne ∙ alike_process (own m k) q a id))
      (same_or_not id w)

  abbrev first : ℕ
  first = first_waiter o (own m k)

  first_waits : eqb first 0 ≡ false → contains first (waiters o (own m k)) ≡ true
  first_waits z = first_in (waiters o (own m k)) (eqb-false _ 0 z)

  -- a transfer to the first of the queue, or from it
  pub sent_is : (q : Partition) → Alike (own m k) q → ListedIn q → (a : Transfer) (msg : ℕ) → a ≡ sent first msg → SoundEnd q a → Becomes m e 0 k id (process id (ended_by a q))
  unfolding sent
  sent_is q al u a msg is =
      subst (λ (t : Transfer). SoundEnd q t → Becomes m e 0 k id (process id (ended_by t q))) (sym is) (by_test (λ (t : Transfer). SoundEnd q t → Becomes m e 0 k id (process id (ended_by t q))) (eqb first 0)
      (λ _ _. Becomes.same none (alike_process (own m k) q al id))
      (λ z g. ended_is q al u first g.0 (first_waits z) msg))

  pub received_is : (q : Partition) → Alike (own m k) q → ListedIn q → (a : Transfer) (msg : ℕ) → a ≡ received first msg → SoundEnd q a → Becomes m e 0 k id (process id (ended_by a q))
  unfolding received
  received_is q al u a msg is =
      subst (λ (t : Transfer). SoundEnd q t → Becomes m e 0 k id (process id (ended_by t q))) (sym is) (by_test (λ (t : Transfer). SoundEnd q t → Becomes m e 0 k id (process id (ended_by t q))) (eqb first 0)
      (λ _ _. Becomes.same none (alike_process (own m k) q al id))
      (λ z g. ended_is q al u first g.0 (first_waits z) (process first q).message))

-- ---------------------------------------------------------------- a call of the process's own partition
module _ (m : Module) (s : SoundModule m) (e : EventT) (k : ℕ) (id : ℕ) (n : ℕ) (by : e.partition ≡ pos k) (call : e.call ≡ pos n) (inside : Between 1 m.table.size k) where
  abbrev r : Request
  r = request_of e

  abbrev p : Partition
  p = own m k

  abbrev c : Context
  c = context_of m k

  abbrev x : Process
  x = process id p

  abbrev After : Process → Type 0
  After y = Becomes m e 0 k id y

  to : {y z : Process} → y ≡ z → After z → After y
  to e h = subst After (sym e) h

  of : (j : ℕ) → n ≡ j → 1 ≤ id → id ≡ number_of r.a → CallOf m e 0 k id j
  of j is some a = ((by, call ∙ ap pos is, refl), number_of_holds e.a (λ z. omega arith) ∙ ap pos (sym a))

  calls : (j : ℕ) → n ≡ j → Call m e 0 k id j 0
  calls j is = (by, call ∙ ap pos is, refl)

  valid : Valid m.table.frame m.t p
  valid = s.each_partition (k - 1) (omega (arith, inside.0, inside.1))

  -- call j serves the queues of a kind, of which there are so many
  serve : (j kind : ℕ) → n ≡ j → 1 ≤ kind → (count : ℕ) → count ≤ 255 → Between 1 count (number_of r.a) → ((msg : ℕ) → wait_at kind (number_of r.a) msg ≡ served_by j (number_of r.a) msg) → object x.wait ≡ 256 * kind + number_of r.a
      → Service m e 0 k id
  serve j kind is some count few a alike w =
      let at = wait_is m.table.frame m.t p valid id kind (number_of r.a) some (omega (arith, a.1)) w in
      Service.here j (carried x) (calls j is) (at ∙ alike _ ∙ ap (λ i. served_by j i (carried x)) (sym (id_of_holds e.a (λ z. omega (arith, a.0))))) (λ z. omega (arith, w, ap object z))

  few_semaphores : p.semaphore_count ≤ 255
  few_semaphores = omega (arith, valid.objects.semaphores.numbered.few)

  few_events : p.event_count ≤ 255
  few_events = omega (arith, valid.objects.events.numbered.few)

  few_buffers : p.buffer_count ≤ 255
  few_buffers = omega (arith, valid.objects.buffers.numbered.few)

  few_blackboards : p.blackboard_count ≤ 255
  few_blackboards = omega (arith, valid.objects.blackboards.numbered.few)

  -- call j names no process
  off : (j : ℕ) → n ≡ j → acts_on_named j ≡ false → ActsElsewhere m e 0 k id
  off j is t = elsewhere_number m e k id n k by (λ z. omega (arith, inside.0)) call (rw is t)

  -- call j acts on process w alone
  others : (j w : ℕ) → n ≡ j → (j ≡ 1 → ⊥) → (j ≡ 6 → ⊥) → 1 ≤ w → w ≡ number_of r.a → (id ≡ w → ⊥) → ActsElsewhere m e 0 k id
  others j w is one six some a ne = elsewhere_call m e k id n k by (λ z. omega (arith, inside.0)) call
      (λ _ _ _ z. ne (same_number (sym z ∙ number_of_holds e.a (λ y. omega arith)) ∙ sym a))
      (λ z _. six (sym is ∙ z))
      (λ z. absurd (one (sym is ∙ z)))

  puts_other : (w : ℕ) (y : Process) → 1 ≤ w → StoredBy c r p n w y → (id ≡ w → ⊥) → ActsElsewhere m e 0 k id
  puts_other w y b (StoredBy.starts is a on delay y_is) ne = ⊎_elim (λ (i : n ≡ 3). others 3 w i (λ z. omega arith) (λ z. omega arith) b a ne) (λ (i : n ≡ 4). others 4 w i (λ z. omega arith) (λ z. omega arith) b a ne) is
  puts_other w y b (StoredBy.stops is a on y_is) ne = others 5 w is (λ z. omega arith) (λ z. omega arith) b a ne
  puts_other w y b (StoredBy.stops_self is self normal y_is) ne = elsewhere_call m e k id n k by (λ z. omega (arith, inside.0)) call (λ _ six _ _. six is) (λ _ z. ne (z ∙ sym self)) (λ z. absurd (omega (arith, is, z)))
  puts_other w y b (StoredBy.marks is a on unmarked y_is) ne = others 7 w is (λ z. omega arith) (λ z. omega arith) b a ne
  puts_other w y b (StoredBy.resumes is a on marked y_is) ne = others 11 w is (λ z. omega arith) (λ z. omega arith) b a ne
  puts_other w y b (StoredBy.prioritises is a on some y_is) ne = others 12 w is (λ z. omega arith) (λ z. omega arith) b a ne
  puts_other w y b (StoredBy.serves is known in_queue y_is) ne = off 16 is refl

  put : (y : Process) → 1 ≤ id → ListedIn p → StoredBy c r p n id y → After y
  put y b v (StoredBy.starts is a off delay y_is) =
      let st = ⊎_elim (λ (i : n ≡ 3). inl (of 3 i b a)) (λ (i : n ≡ 4). inr (of 4 i b a)) is in
      to y_is (by_test After (normal_mode p)
      (λ t. let g = starts_as c delay x in Becomes.started st off g.is (λ _. g.wait) (λ early. absurd (early (eqb-true _ 3 t))))
      (λ t. Becomes.started st off refl (λ z. not_both _ (eq-eqb (mode_number p.mode) 3 z) t) (λ _. refl)))
  put y b v (StoredBy.stops is a on y_is) = to y_is (Becomes.stopped (inl (of 5 is b a)) refl)
  put y b v (StoredBy.stops_self is self normal y_is) = to y_is (Becomes.stopped (inr (calls 6 is, eqb-true _ 3 normal, self)) refl)
  put y b v (StoredBy.marks is a on off y_is) = to y_is (Becomes.suspended (of 7 is b a) on off refl)
  put y b v (StoredBy.resumes is a on marked y_is) =
      to y_is (by_test After (waits_for_nothing x.wait)
      (λ t. Becomes.resumed (of 11 is b a) on marked (ap (λ w. with false None 0 w x) (sym (for_none x.wait t))))
      (λ _. Becomes.resumed (of 11 is b a) on marked refl))
  put y b v (StoredBy.prioritises is a on some y_is) = to y_is (Becomes.prioritised (of 12 is b a) on (ap (λ j. with_priority j x) (sym (id_of_holds e.b (λ z. omega arith)))))
  put y b v (StoredBy.serves is known in_queue y_is) = let o = object (Semaphore (number_of r.a)) in to y_is (waits_there m e k id v o (λ z. omega arith) (serve 16 1 is (omega arith) p.semaphore_count few_semaphores known (λ _. refl)) (off 16 is refl) in_queue x.message)

  -- the caller begins to wait, code 7
  pub begin : (y : Process) → Valid m.table.frame m.t p → Between 1 p.process_count id → normal_mode p ≡ true → id ≡ running p → ready x ≡ true → BlockedBy r n x y → Becomes m e 7 k id y
  begin y v b normal self on g = go g
    where
      none : x.wait ≡ NoWait
      none = for_none x.wait (ap for_nothing (ready_parts x on).2)

      its : (j : ℕ) → n ≡ j → CallBy m e 7 k id j 7
      its j is = ((by, call ∙ ap pos is, refl), eqb-true _ 3 normal, self)

      go : BlockedBy r n x y → Becomes m e 7 k id y
      go (BlockedBy.suspends is until y_is) = subst (Becomes m e 7 k id) (sym y_is) (Becomes.suspended_self (its 8 is) none (ap (λ w. with true until x.code w x) none))
      go (BlockedBy.releases is per y_is) =
          let sound = v.each_process id b in
          let at = next_plain (setting_of m.table.frame m.t p) x sound normal on s.time per in
          let d = next_deadline_plain (setting_of m.table.frame m.t p) x sound normal on s.time per in
          subst (Becomes m e 7 k id) (sym y_is) (Becomes.released (its 10 is) none (λ i. record { given = x.given; times = record { release = at i; deadline = d i; wake = at i; delay = x.times.delay }; current = x.current; suspended = x.suspended; missed = x.missed; code = x.code; message = x.message; started = x.started; wait = Period }))
      go (BlockedBy.waits off known until wait y_is) =
          let b = number_of r.b in
          let w : wait_of n (number_of r.a) b ≡ wait_of n (id_of e.a) b = ⊎_elim (λ (nine : eqb n 9 ≡ true). rw nine) (λ (some : number_of r.a ≡ 0 → ⊥). ap (λ j. wait_of n j b) (sym (id_of_holds e.a some))) known in
          subst (Becomes m e 7 k id) (sym y_is) (Becomes.waiting n b (its n refl) (eqb-false n 10 (or_right (eqb n 8) _ off)) none (λ z. not_both _ (ap waits_for_nothing (w ∙ z)) wait) (ap (λ v. with x.suspended until x.code v x) w))

  module _ (v : ListedIn p) where
    moved_turn : (j : ℕ) (a : Transfer) (q : Partition) → Alike p q → ListedIn q → SoundEnd q a → TransferBy r p n j a → After (process id (ended_by a q))
    moved_turn j a q al u h (TransferBy.sends is j-is known msg a_is) =
        sent_is m e k id v (object (Receiving j)) (λ z. omega arith) (λ w. serve 24 4 is (omega arith) p.buffer_count few_buffers (rw (← j-is) known) (λ _. refl) (w ∙ ap (λ i. object (Receiving i)) j-is)) (off 24 is refl) q al u a msg a_is h
    moved_turn j a q al u h (TransferBy.receives is j-is known msg a_is) =
        received_is m e k id v (object (Sending j 0)) (λ z. omega arith) (λ w. serve 25 3 is (omega arith) p.buffer_count few_buffers (rw (← j-is) known) (λ _. refl) (w ∙ ap (λ i. object (Sending i 0)) j-is)) (off 25 is refl) q al u a msg a_is h

    -- several processes changed by f
    all_turn : (f : Process → Process) (l : List ℕ) (q : Partition) → Alike p q → ListedIn q → AllCreated l q.process_count → Distinct l → (contains id l ≡ true → After (f x)) → (contains id l ≡ false → ActsElsewhere m e 0 k id) → After (process id (changed_all f l q))
    all_turn f l q a u all dis g none =
        to (changed_process f l q u all dis id)
        (by_test After (contains id l) (λ t. to (ap f (alike_process p q a id)) (g t)) (λ t. Becomes.same (none t) (alike_process p q a id)))

    entering : n ≡ 1 → is_number 3 r.a ≡ true → (x.wait ≡ Normal → ⊥) → ActsElsewhere m e 0 k id
    entering is three out = elsewhere_call m e k id n k by (λ z. omega (arith, inside.0)) call (λ one _ _ _. one is) (λ z _. omega (arith, is)) (λ _. (number_is e.a 3 three, out))

    pub turned : (a : Change) (q : Partition) → Alike p q → Valid m.table.frame m.t q → SoundChange c q a → Makes c r p n a → (touches a ≡ false → ActsElsewhere m e 0 k id) → After (process id (applied a q))
    unfolding entered_normal
    turned Nothing q al u h g none = Becomes.same (none refl) (alike_process p q al id)
    turned (Stored w y) q al u h g none = ⊎_elim
        (λ (z : id ≡ w).
        to (ap (λ i. process i (stored w y q)) z ∙ process_stored q w y u.lists h.0)
        (put y (omega (arith, h.0.0)) v (subst (λ i. StoredBy c r p n i y) (sym z) g)))
        (λ (ne : id ≡ w → ⊥). Becomes.same (puts_other w y h.0.0 g ne) (process_other q w y id ne ∙ alike_process p q al id))
        (same_or_not id w)
    turned (Created w y) q al u h g none =
        let few : w ≤ process_limit = omega (arith, h.room, h.next) in
        let low : 1 ≤ w = omega (arith, h.next) in
        let is = created_in w y q (within_in process_limit w low few) in
        ⊎_elim
        (λ (z : id ≡ w).
        to (ap (process id) is ∙ ap (λ i. by_id process_limit blank_process i (set q.processes (w - 1) y)) z ∙ named_same process_limit blank_process w y q.processes low few (omega (arith, u.lists.numbered.size)))
        (Becomes.created (calls 2 g) (sym (alike_process p q al id) ∙ u.lists.numbered.past id (omega (arith, h.next))) h.dormant))
        (λ (ne : id ≡ w → ⊥). Becomes.same (off 2 g refl) (ap (process id) is ∙ named_other process_limit blank_process w y q.processes low id ne ∙ alike_process p q al id))
        (same_or_not id w)
    turned (Last w) q al u h g none = Becomes.same (none refl) (alike_process q (applied (Last w) q) (untouched (Last w) q refl) id ∙ alike_process p q al id)
    turned (StoredSemaphore j y) q al u h g none = Becomes.same (none refl) (alike_process q (applied (StoredSemaphore j y) q) (untouched (StoredSemaphore j y) q refl) id ∙ alike_process p q al id)
    turned (StoredEvent j y) q al u h g none = Becomes.same (none refl) (alike_process q (applied (StoredEvent j y) q) (untouched (StoredEvent j y) q refl) id ∙ alike_process p q al id)
    turned (CreatedBuffer j name limit) q al u h g none = Becomes.same (none refl) (alike_process q (applied (CreatedBuffer j name limit) q) (untouched (CreatedBuffer j name limit) q refl) id ∙ alike_process p q al id)
    turned (Moved j a) q al u h g none =
        let b = moved_in a (buffer j q) in
        let w = buffer_alike j b q in
        let is = buffer_in j b q (within_in buffer_limit j h.0.0 (omega (arith, h.0.1, u.objects.buffers.numbered.few))) in
        moved_turn j a (stored_buffer j b q) (alike_along p q _ al w) (rw is u.lists) (end_stored j b q a is h.2) g
    turned (StoredBlackboard j y) q al u h g none = Becomes.same (none refl) (alike_process q (applied (StoredBlackboard j y) q) (untouched (StoredBlackboard j y) q refl) id ∙ alike_process p q al id)
    turned (Ended o) q al u h g none =
        all_turn served (waiters o q) q al u.lists (waiters_created q u.lists o) (waiters_distinct q u.lists o)
        (λ t. waits_there m e k id v o (λ z. omega (arith, g.1)) (λ w. serve 18 2 g.0 (omega arith) p.event_count few_events g.2 (λ _. refl) (w ∙ g.1)) (off 18 g.0 refl) (ap (contains id) (sym (alike_waiters p q al o)) ∙ t) x.message)
        (λ _. off 18 g.0 refl)
    turned (Handed o msg) q al u h g none =
        all_turn (handed msg) (waiters o q) q al u.lists (waiters_created q u.lists o) (waiters_distinct q u.lists o)
        (λ t. waits_there m e k id v o (λ z. omega (arith, g.1)) (λ w. serve 27 5 g.0 (omega arith) p.blackboard_count few_blackboards g.2 (λ _. refl) (w ∙ g.1)) (off 27 g.0 refl) (ap (contains id) (sym (alike_waiters p q al o)) ∙ t) msg)
        (λ _. off 27 g.0 refl)
    turned (LevelSet level holder) q al u h g none = Becomes.same (none refl) (alike_process p q al id)
    turned (Entered d) q al u h g none =
        let w = with_mode NormalMode q in
        to (ap (process id) (each_changed (entered d) q.process_count 1 w))
        (all_turn (entered d) (ids_from q.process_count 1) w (record { processes = al.processes; waiting = al.waiting }) u.lists (λ y t. let b = from_range q.process_count 1 y t in (b.0, omega arith)) (distinct_from q.process_count 1)
        (λ _. ⊎_elim
        (λ (b : (x.wait ≡ Normal) × Begun x (entered d x) x.current x.suspended). Becomes.entered (record { call = calls 1 g.0; is = number_is e.a 3 g.1; waits = b.0 }) b.1.is b.1.wait)
        (λ (z : (x.wait ≡ Normal → ⊥) × (entered d x ≡ x)). Becomes.same (entering g.0 g.1 z.0) z.1)
        (enters_as d x))
        (λ t. entering g.0 g.1 (λ z. not_both _ (ap waits_for_normal z) (ap (λ (y : Process). waits_for_normal y.wait) (sym (alike_process p q al id) ∙ not_created q u.lists id t)))))
