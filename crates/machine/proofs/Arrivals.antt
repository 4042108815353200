-- The order of the arrival list: every event. Assumes nothing.
use Prim.Native.Nat.{ℕ, ◌+◌, ◌-◌}
use mathlib.Core.Path.{◌≡◌, refl, sym, ap, subst, ◌∙◌}
use mathlib.Core.Bool.{Bool, true, false, cond, not, ◌&&◌, and-false, or-true}
use mathlib.Core.List.{List, [], ◌∷◌, ◌++◌, append-nil}
use mathlib.Core.Logic.{◌⊎◌, ⊎_elim}
use native.Mathlib.Omega.{arith}
use lib.ListN.{take}
use lib.Dec.{eqb, leb}
use lib.IntN.{pos}
use borrow.Author.Tests.{eq-eqb, ne_eqb, eqb-true}
use Rattle.machine.specs.declared.Partition.{Partition}
use Rattle.machine.specs.declared.Change.{Change}
use Rattle.machine.specs.declared.Change.TheVariants.{Nothing, Stored, Last}
use Rattle.machine.specs.declared.Request.{Request}
use Rattle.machine.specs.declared.Decision.TheVariants.{Changed}
use Rattle.machine.specs.declared.Wait.TheVariants.{Source}
use Rattle.machine.specs.declared.Event.{Event as EventT}
use Rattle.machine.specs.declared.Module.{Module}
use Rattle.machine.specs.Ids.{members, kept}
use Rattle.machine.specs.Limits.{process_limit}
use Rattle.machine.specs.Process.{blank_process, with_current, ticked, ready, served, object}
use Rattle.machine.specs.Partition.{arrived_last, normal_mode, running, tick_partition, process, stored, waiters, changed_all, applied, nothing_created}
use Rattle.machine.specs.Fields.{request_of, number_of}
use Rattle.machine.specs.Step.{context_of, step}
use Rattle.machine.specs.Channels.{port_of}
use Rattle.machine.specs.Theorems.Events.{own}
use Rattle.machine.specs.Theorems.EachCall.{id_of}
use Rattle.machine.specs.Theorems.Arrivals.{moved_at, moved_by, ArrivalAfter, Arrivals, precedes, ReadyThroughout}
use Rattle.machine.specs.Theorems.Valid.{SoundModule, SoundDecision, Between, contains, ListedIn, Valid, SoundContext, SoundChange, Reached}
use Rattle.machine.specs.Theorems.Plain.{ids_from, plain_number}
use Rattle.machine.proofs.Tests.{by_test, not_both, or_left, or_right}
use Rattle.machine.proofs.Either.{either}
use Rattle.machine.proofs.Bounds.{not_so, named_replicate}
use Rattle.machine.proofs.Tracking.{contains_kept, kept_no}
use Rattle.machine.proofs.Keeping.{process_stored, stored_listed, changed_process, each_changed, from_range, distinct_from}
use Rattle.machine.proofs.Kept.{change_valid, firsts_created, firsts_distinct, take_in, waiters_on}
use Rattle.machine.proofs.Queues.{ready_in, becomes_ready, arrive_all}
use Rattle.machine.proofs.Acts.{last_of, touches, Acts, acts_on_named}
use Rattle.machine.proofs.Alike.{untouched}
use Rattle.machine.proofs.Turns.{id_of_holds}
use Rattle.machine.proofs.Sound.{object_not_ready}
use Rattle.machine.proofs.Bodies.{Sends, Receives}
use Rattle.machine.proofs.ProcessStates.{tick_state}
use Rattle.machine.proofs.Answers.{step_table}
use Rattle.machine.proofs.Reached.{valid_sound, reached_valid}
use Rattle.machine.proofs.Arriving.{kept_ready, Keeps, Arrives, arrives_off, none_zero, keeps_same, keeps_all, keeps_one, keeps_each, keeps_from, keeps_to, idle_arrival, keeps_ended, last_arrives, arrives_from, keeps_then, change_keeps, joins_in, precedes_kept, precedes_first, precedes_across}
use Rattle.machine.proofs.AtPartition.{ticked_part, Kinds, at_partition}
use Rattle.machine.specs.Runs.{after}
use Rattle.machine.proofs.Orders.{followed_same, stored_arrival}

-- ---------------------------------------------------------------- an event
module _ (m : Module) (s : SoundModule m) (e : EventT) (k : ℕ) (b : Between 1 m.table.size k) where
  abbrev asks : Request
  asks = request_of e

  abbrev from : ℕ
  from = number_of asks.partition

  abbrev number : ℕ
  number = number_of asks.call

  abbrev p : Partition
  p = own m k

  valid : Valid m.table.frame m.t p
  valid = s.each_partition (k - 1) (omega (arith, b.0, b.1))

  -- the record q of partition k after an event that answers code
  abbrev Is : ℕ → Partition → Type 0
  Is code q = Arrives (moved_at m e code k) p q

  -- nobody is moved
  still : (code : ℕ) (q : Partition) → moved_at m e code k ≡ 0 → Keeps p q → Is code q
  still code q z h = subst (λ j. Arrives j p q) (sym z) (arrives_off 0 p q (none_zero q) h)

  same : (code : ℕ) → moved_at m e code k ≡ 0 → Is code p
  same code z = still code p z (keeps_same p p valid.lists refl)

  by_code : (code : ℕ) → (code ≡ 0 → ⊥) → moved_at m e code k ≡ 0
  by_code code z = rw (ne_eqb code 0 z)

  by_partition : (code h : ℕ) → e.partition ≡ pos h → (h ≡ k → ⊥) → moved_at m e code k ≡ 0
  by_partition code h by ne = rw (by, ne_eqb h k ne, and-false (eqb code 0))

  not_twelve : (n : ℕ) → acts_on_named n ≡ false → eqb n 12 ≡ false
  not_twelve n t = or_right (eqb n 11) _ (or_right (leb 3 n && leb n 7) _ (or_right (eqb n 1) _ t))

  by_call : (code n : ℕ) → e.call ≡ pos n → eqb n 9 ≡ false → eqb n 12 ≡ false → moved_at m e code k ≡ 0
  by_call code n call nine twelve = rw (call, nine, twelve) (by_test (λ (j : ℕ). j ≡ 0) (eqb code 0 && plain_number k e.partition) (λ _. refl) (λ _. refl))

  tick_is : e.partition ≡ pos 0 → Is 0 (tick_partition (m.t + 1) p)
  unfolding tick_partition
  tick_is by = still 0 _ (by_partition 0 0 by (λ z. omega (arith, b.0))) (by_test (Keeps p) (normal_mode p) (λ _. keeps_each (ticked (m.t + 1)) p valid.lists) (λ _. keeps_same p p valid.lists refl))

  module _ (by : e.partition ≡ pos k) (call : e.call ≡ pos number) where
    moved_nine : number ≡ 9 → moved_at m e 0 k ≡ running p
    moved_nine z = let c = call ∙ ap pos z in rw (by, eq-eqb k k refl, c)

    moved_twelve : number ≡ 12 → moved_at m e 0 k ≡ id_of e.a
    moved_twelve z = let c = call ∙ ap pos z in rw (by, eq-eqb k k refl, c)

    -- SET_PRIORITY
    priority_is : number ≡ 12 → (id n : ℕ) → id ≡ number_of asks.a → SoundChange (context_of m k) p (Stored id (with_current n (process id p)))
        → Is 0 (applied (cond (ready (process id p)) (Last id) Nothing) (stored id (with_current n (process id p)) p))
    priority_is twelve id n a h =
        let w = with_current n (process id p) in
        let u = stored id w p in
        let v = stored_listed p id w valid.lists h.0 in
        let now : ready_in u id ≡ ready_in p id = ap ready (process_stored p id w valid.lists h.0) in
        let moved : moved_at m e 0 k ≡ id = moved_twelve twelve ∙ id_of_holds e.a (λ z. omega (arith, h.0.0)) ∙ sym a in
        subst (λ j. Arrives j p (applied (cond (ready_in p id) (Last id) Nothing) u)) (sym moved) (by_test (λ (c : Change). Arrives id p (applied c u)) (ready_in p id)
        (λ t. arrives_from id p u _ (stored_arrival p valid.lists id h.0 w ∙ followed_same (ready_in p id) id (members p.arrival)) (last_arrives u v id (now ∙ t)))
        (λ t. arrives_off id p u (now ∙ t) (keeps_one id w p valid.lists h.0)))

    changed_is : SoundContext (context_of m k) p → (x y : Change) (v : ℕ) → SoundDecision (context_of m k) p (Changed x y v) → Acts (context_of m k) asks p number (Changed x y v) → Is 0 (applied y (applied x p))
    changed_is sound x y v h a = either (eqb number 9)
        (λ nine.
        let g : (x ≡ Last (running p)) × (y ≡ Nothing) = rw nine at a.4 in
        subst (λ (c : Change). Is 0 (applied y (applied c p))) (sym g.0) (subst (λ (c : Change). Is 0 (applied c (arrived_last (running p) p))) (sym g.1)
        (subst (λ j. Arrives j p (arrived_last (running p) p)) (sym (moved_nine (eqb-true _ 9 nine))) (last_arrives p valid.lists (running p) (subst (SoundChange (context_of m k) p) g.0 h.0)))))
        (λ nine. either (eqb number 12)
        (λ twelve.
        let id = number_of asks.a in
        let w = with_current (number_of asks.b) (process id p) in
        let g : (x ≡ Stored id w) × (y ≡ cond (ready (process id p)) (Last id) Nothing) = rw (nine, twelve) at a.4 in
        subst (λ (c : Change). Is 0 (applied y (applied c p))) (sym g.0) (subst (λ (c : Change). Is 0 (applied c (stored id w p))) (sym g.1) (priority_is (eqb-true _ 12 twelve) id (number_of asks.b) refl (subst (SoundChange (context_of m k) p) g.0 h.0))))
        (λ twelve.
        let g : (last_of x ≡ 0) × (last_of y ≡ 0) = rw (nine, twelve) at a.4 in
        let after = change_valid (context_of m k) sound p valid x h.0 in
        still 0 _ (by_call 0 number call nine twelve) (either (touches x)
        (λ t.
        let off : touches y ≡ false = not_so (touches y) (λ u. not_both _ (rw (u, t)) a.2) in
        keeps_to p (applied x p) _ (idle_arrival (context_of m k) y (applied x p) after.lists h.1 off g.1) (untouched y (applied x p) off).processes (change_keeps (context_of m k) sound p valid x h.0 g.0))
        (λ t. keeps_from p (applied x p) _ (idle_arrival (context_of m k) x p valid.lists h.0 t g.0) (change_keeps (context_of m k) sound (applied x p) after y h.1 g.1)))))

  -- while a restart of another partition lets senders in: who is READY stays so
  abbrev Left : Partition → Type 0
  Left o = Keeps p o × ((y : ℕ) → ready_in p y ≡ true → ready_in o y ≡ true)

  let_in_holds : (w size frame t : ℕ) (o : Partition) → Valid frame t o → Left o → Left (changed_all served (take size (waiters w o)) o)
  let_in_holds w size frame t o v h =
      let l = take size (waiters w o) in
      let all = firsts_created frame t o v w size in
      let dis = firsts_distinct frame t o v w size in
      let q = changed_all served l o in
      let stays : (y : ℕ) → ready_in o y ≡ true → ready_in q y ≡ true = λ y r. ap ready (changed_process served l o v.lists all dis y) ∙ either (contains y l)
      (λ c. not_both _ r (object_not_ready (process y o) (waiters_on o v.lists w y (take_in size (waiters w o) y c))))
      (λ c. rw c r) in
      (keeps_then p o q valid.lists h.1 h.0 (keeps_all served l o v.lists all dis), λ y r. stays y (h.1 y r))

  nobody : (mode : ℕ) → Keeps p (nothing_created mode)
  nobody mode = record { joined = []; order = sym (append-nil _ ∙ kept_no (ready_in (nothing_created mode)) (members p.arrival) (λ y _. ap ready (named_replicate process_limit process_limit y blank_process))) }

  kinds : Kinds m s e k b Is Left
  kinds = record {
    refused = λ n f g. same n (by_code n f);
    ticked = tick_is;
    another = λ code h by other some. same code (by_partition code h by other);
    quiet = λ h n by some call t. same 0 (by_call 0 n call (or_left _ _ t) (not_twelve n (or_right (eqb n 9) _ t)));
    blocked = λ by call w y h a. still 7 _ (by_code 7 (λ z. omega arith)) (keeps_one w y p valid.lists h.0);
    changed = changed_is;
    erased = λ by call mode low a. still 0 _ (by_call 0 1 call refl refl) (nobody mode);
    left_first = (keeps_same p p valid.lists refl, λ _ t. t);
    left_next = λ call mode low a i l by source size frame t o. let_in_holds (object (Source (i + 1) 0)) size frame t o;
    left_last = λ h by other some call o left. still 0 o (by_call 0 1 call refl refl) left.0;
    passed = λ i a v g w by some call a_is end sound. still 0 _ (⊎_elim (λ (f : Sends (port_of m from asks) number a v). by_call 0 number call (rw f.call) (rw f.call)) (λ (f : Receives (port_of m from asks) number a v). by_call 0 number call (rw f.call) (rw f.call)) g.end) (keeps_ended p valid.lists a sound);
  }

-- ---------------------------------------------------------------- every event
module _ (m : Module) (h : Reached m) (e : EventT) (k : ℕ) (b : Between 1 m.table.size k) where
  sound_here : SoundModule m
  sound_here = valid_sound m (reached_valid m h) (k - 1) (omega (arith, b.0, b.1))

  lists_after : ListedIn (own (step m e).state k)
  lists_after =
      let w : Between 1 (step m e).state.table.size k = rw (step_table m e) b in
      ((valid_sound (step m e).state (reached_valid (step m e).state (Reached.stepped m e h)) (k - 1) (omega (arith, w.0, w.1))).each_partition (k - 1) (omega (arith, w.0, w.1))).lists

  arrival_is : Arrives (moved_by m e k) (own m k) (own (step m e).state k)
  arrival_is = at_partition m sound_here e k b _ _ (kinds m sound_here e k b)

  arrival_after : ArrivalAfter m e k
  arrival_after = record {
    exact = lists_after.arrivals.exact;
    once = lists_after.arrivals.distinct;
    joined = arrival_is.joined;
    order = arrival_is.order;
    joins = joins_in (moved_by m e k) (own m k) (own (step m e).state k) (sound_here.each_partition (k - 1) (omega (arith, b.0, b.1))).lists lists_after arrival_is.joined arrival_is.order;
  }

  -- by ascending id
  ticked_arrival : e.partition ≡ pos 0 → (step m e).answer.code ≡ 0 → let q = own (step m e).state k in members q.arrival ≡ kept (ready_in q) (members (own m k).arrival) ++ kept (becomes_ready (own m k) q) (ids_from (own m k).process_count 1)
  unfolding tick_partition
  ticked_arrival by z =
      let p = own m k in
      let v = (sound_here.each_partition (k - 1) (omega (arith, b.0, b.1))).lists in
      let is = ap (λ (u : Module). own u k) (tick_state m e by z) ∙ ticked_part m sound_here k b in
      subst (λ (q : Partition). members q.arrival ≡ kept (ready_in q) (members p.arrival) ++ kept (becomes_ready p q) (ids_from p.process_count 1)) (sym is)
      (by_test (λ (q : Partition). members q.arrival ≡ kept (ready_in q) (members p.arrival) ++ kept (becomes_ready p q) (ids_from p.process_count 1)) (normal_mode p)
      (λ _. rw (each_changed (ticked (m.t + 1)) p.process_count 1 p) (arrive_all (ticked (m.t + 1)) (ids_from p.process_count 1) p v (λ y t. let b = from_range p.process_count 1 y t in (b.0, omega arith)) (distinct_from p.process_count 1)))
      (λ _. sym (kept_ready p v) ∙ ap (λ (l : List ℕ). kept (ready_in p) (members p.arrival) ++ l) (sym (kept_no (becomes_ready p p) (ids_from p.process_count 1) (λ y _. never (ready_in p y))))))
    where
      never : (t : Bool) → (t && not t) ≡ false
      never true = refl
      never false = refl

-- ---------------------------------------------------------------- who stands before whom
-- who is READY then and is not moved
stays_test : (q : Partition) (z y : ℕ) → ready_in q y ≡ true → (z ≡ y → ⊥) → (ready_in q y && not (eqb y z)) ≡ true
stays_test q z y r ne = rw (r, ne_eqb y z (λ e. ne (sym e)))

stands_behind : (m : Module) → Reached m → (e : EventT) (k a c : ℕ) → Between 1 m.table.size k → let p = own m k in
    let q = own (step m e).state k in
    ready_in p a ≡ true → ready_in q a ≡ true → (moved_by m e k ≡ a → ⊥) → ready_in q c ≡ true → (ready_in p c ≡ false) ⊎ (moved_by m e k ≡ c) → precedes a c (members q.arrival) ≡ true
stands_behind m h e k a c b was now ne ready-c joins =
    let g = arrival_after m h e k b in
    let z = moved_by m e k in
    let q = own (step m e).state k in
    let v = ((sound_here m h e k b).each_partition (k - 1) (omega (arith, b.0, b.1))).lists in
    rw g.order (precedes_across a c _ g.joined
    (contains_kept (λ y. ready_in q y && not (eqb y z)) a (members (own m k).arrival) ∙ rw (stays_test q z a now ne, v.arrivals.exact a, was))
    (g.joins c ∙ rw ready-c (⊎_elim (λ (o : ready_in (own m k) c ≡ false). rw o) (λ (o : z ≡ c). rw (eq-eqb c z (sym o)) (or-true (not (ready_in (own m k) c)))) joins)))

ready_first : (k id : ℕ) (m : Module) (es : List EventT) → ReadyThroughout k id m es → ready_in (own m k) id ≡ true
unfolding ReadyThroughout
ready_first k id m [] h = h
ready_first k id m (e ∷ es) h = h.0

list_stays : (k a c : ℕ) (es : List EventT) (m : Module) → Reached m → Between 1 m.table.size k → ReadyThroughout k a m es → ReadyThroughout k c m es
    → precedes a c (members (own m k).arrival) ≡ true → precedes a c (members (own (after m es) k).arrival) ≡ true
unfolding ReadyThroughout
list_stays k a c [] m h b ra rc g = g
list_stays k a c (e ∷ es) m h b ra rc g =
    let q = (step m e).state in
    let z = moved_by m e k in
    let o = arrival_after m h e k b in
    list_stays k a c es q (Reached.stepped m e h) (rw (step_table m e) b) ra.2 rc.2
    (rw o.order (precedes_first a c _ o.joined (precedes_kept (λ y. ready_in (own q k) y && not (eqb y z)) a c
    (stays_test (own q k) z a (ready_first k a q es ra.2) ra.1) (stays_test (own q k) z c (ready_first k c q es rc.2) rc.1) (members (own m k).arrival) g)))

-- Law. The order of the arrival list.
pub arrivals : Arrivals
arrivals = record {
  events = arrival_after;
  ticked = λ m h e k b by z. ticked_arrival m h e k b by z;
  behind = stands_behind;
  stay = λ m h es k a c b ra rc g. list_stays k a c es m h b ra rc g;
}
