-- Queues: a waiter joins its object's queue last, ended waits leave it and the others keep their order, and the first is served first: over
-- an object's number, for each change, for every event of every reached record, and for the calls. Assumes nothing.
use Rattle.machine.specs.Mode.{mode_number}
use Prim.Native.Nat.{ℕ, zero, suc, ◌+◌, ◌-◌, ◌≤◌, ◌<◌, max}
use mathlib.Core.Path.{◌≡◌, refl, ap, sym, ◌∙◌}
use mathlib.Core.Bool.{Bool, true, false, cond, and-false, or-true, ◌&&◌, and-true, not}
use mathlib.Core.List.{List, [], ◌∷◌, ◌++◌, append-nil, append_assoc}
use mathlib.Core.Logic.{◌⊎◌, inl, inr, ⊎_elim}
use native.Mathlib.Omega.{arith}
use lib.ListN.{length, get_or, set, take}
use lib.Dec.{eqb, leb}
use lib.IntN.{ℤ, pos, negsuc}
use borrow.Author.Tests.{lt-ltb, eq-eqb, ne_eqb, le-leb, leb-true}
use Rattle.machine.specs.declared.Process.{Process}
use Rattle.machine.specs.declared.Partition.{Partition}
use Rattle.machine.specs.declared.Change.TheVariants.{Ended}
use Rattle.machine.specs.declared.Decision.{Decision}
use Rattle.machine.specs.declared.Decision.TheVariants.{Refused, Unchanged, Ticked, Blocked, Changed, Restarted, Written, Passed as PassedOn}
use Rattle.machine.specs.declared.Semaphore.{Semaphore as SemaphoreT}
use Rattle.machine.specs.declared.EventState.{EventState}
use Rattle.machine.specs.declared.Wait.TheVariants.{Semaphore, Event, Source}
use Rattle.std.specs.Prelude.{Some}
use Rattle.machine.specs.declared.Field.TheVariants.{Number}
use Rattle.machine.specs.declared.Request.{Request}
use Rattle.machine.specs.declared.Event.{Event as EventT}
use Rattle.machine.specs.declared.Module.{Module}
use Rattle.machine.specs.Limits.{semaphore_limit, event_limit, duration_limit, partition_limit, channel_limit, greatest_value}
use Rattle.machine.specs.Messages.{moved, ends_wait}
use Rattle.machine.specs.Ids.{members, kept_if, kept, other}
use Rattle.machine.specs.Process.{object, on_object, ready, served, handed}
use Rattle.machine.specs.Partition.{nothing_created, idle_mode, normal_mode, no_semaphore, no_event, process, semaphore, event, stored, stored_semaphore, stored_event, ended_by, changed_all, waits_on, waiters, running, applied, with_events}
use Rattle.machine.specs.Fields.{field, request_of, is_timeout, is_message, number_of}
use Rattle.machine.specs.Decisions.{checked, reply_of, changed}
use Rattle.machine.specs.Objects.{one_more, with_up, signalled, signal, set_event}
use Rattle.machine.specs.Channels.{other_end, port_of, erased_to}
use Rattle.machine.specs.Services.{services, call_decision}
use Rattle.machine.specs.Places.{stray_field}
use Rattle.machine.specs.Module.{no_partition, channel, part, queue, with_part, with_queue}
use Rattle.machine.specs.Ticks.{tick_module}
use Rattle.machine.specs.Step.{context_of, decision, module_after, step}
use Rattle.machine.specs.Theorems.Valid.{Between, contains, Distinct, ListedIn, Valid, SoundDecision, SoundModule, Reached}
use Rattle.machine.specs.Theorems.Plain.{followed, wait_over}
use Rattle.machine.specs.Theorems.Events.{own, call_by, TimeOut, Calling, Gives}
use Rattle.machine.specs.Theorems.Queues.{SameObjects, has, joining, QueueAfter, FirstServed, NoneServed, AllServed}
use Rattle.machine.proofs.Tests.{by_test, not_both, or_right, and_left, and_right}
use Rattle.machine.proofs.Bounds.{same_or_not, not_so, within_in, named_same, semaphore_in, event_in}
use Rattle.machine.proofs.Either.{either}
use Rattle.machine.proofs.Lists.{kept_snoc}
use Rattle.machine.proofs.Tracking.{kept_same, kept_kept, kept_all, kept_no, kept_whole}
use Rattle.machine.proofs.Keeping.{process_other, process_stored, stored_rest, rest_count, stored_listed, changed_rest, changed_process, AllCreated}
use Rattle.machine.proofs.Sound.{ready_off}
use Rattle.machine.proofs.Dispatch.{Calls, by_event}
use Rattle.machine.proofs.Bodies.{Bodily, body_refusal}
use Rattle.machine.proofs.Kept.{tick_valid, change_valid, nothing_valid, Caller, running_caller, waiters_distinct, waiters_on, waiters_created, firsts_created, let_in_valid, ended_valid}
use Rattle.machine.proofs.Calling.{field_number, from_zero, calling_valid, gives, own_after, known}
use Rattle.machine.proofs.Reached.{at_set, tick_each, place, context_sound, made, made_sound, made_body, decided_sound, valid_sound, reached_valid, part_sound, erased_sound, refilled_keeps, on_queue_holds, transfer_sound}
use Rattle.machine.proofs.Answers.{decided_table}
use Rattle.machine.proofs.Orders.{rest_objects, on_some, stored_arrival, waits_same, stored_queue, Part, part_whole, part_trans, part_waits, queue_of_holds, all_part, semaphore_queue, event_queue, in_queue, ended_process, ended_queue, Orderly, NotBlocked, tick_part, ended_part, change_part, joins_last, others_stay}
use Rattle.machine.proofs.EveryCall.{call_order}

-- ---------------------------------------------------------------- every event
module _ (m : Module) (s : SoundModule m) (o : ℕ) (some : o ≡ 0 → ⊥) where
  -- partition number i + 1 has the record q after an event of partition k that answers code
  abbrev Follows : ℕ → ℕ → ℕ → Partition → Type 0
  Follows code k i q = waiters o q ≡ kept (waits_on o q) (waiters o (part m i)) ++ joining code k i o (part m i) q

  pub listed : (i : ℕ) → i < m.table.size → ListedIn (part m i)
  listed i l = (s.each_partition i l).lists

  none_joins : (code k i : ℕ) (q : Partition) → (eqb code 7 ≡ false) ⊎ (eqb k (i + 1) ≡ false) → ListedIn q → Part (waiters o (part m i)) (waiters o q) → Follows code k i q
  none_joins code k i q e v a = part_waits o q (queue_of_holds q v o some) (waiters o (part m i)) a ∙ sym (ap (λ (l : List ℕ). kept (waits_on o q) (waiters o (part m i)) ++ l) (no_one e) ∙ append-nil _)
    where
      no_one : (eqb code 7 ≡ false) ⊎ (eqb k (i + 1) ≡ false) → joining code k i o (part m i) q ≡ []
      no_one (inl e) = rw e
      no_one (inr e) = rw (e, and-false (eqb code 7))

  -- a record of the module in which each queue is a part of what it was
  abbrev pub Parts : Module → Type 0
  Parts q = (i : ℕ) → i < m.table.size → ListedIn (part q i) × Part (waiters o (part m i)) (waiters o (part q i))

  same_parts : Parts m
  same_parts i l = (listed i l, part_whole (waiters o (part m i)))

  parts_follow : (code : ℕ) → eqb code 7 ≡ false → (q : Module) → Parts q → (k i : ℕ) → i < m.table.size → Follows code k i (part q i)
  parts_follow code e q h k i l = let g = h i l in none_joins code k i (part q i) (inl e) g.0 g.1

  pub tick_parts : Parts (tick_module m)
  tick_parts i l =
      let p = part m i in
      rw (tick_each m s i l) ((tick_valid m.table.frame m.t p (s.each_partition i l)).lists, tick_part o some (m.t + 1) p (listed i l))

  -- a partition stored whose queue is a part of what it was
  store_parts : (q : Module) → Parts q → length q.partitions ≡ partition_limit → (j : ℕ) → j < m.table.size → (p : Partition) → ListedIn p → Part (waiters o (part q j)) (waiters o p) → Parts (with_part j p q)
  store_parts q h long j here p v a i l =
      at_set (λ i x. ListedIn x × Part (waiters o (part m i)) (waiters o x)) q.partitions j p no_partition (omega (arith, s.table.size.1)) i
      (v, part_trans (h j here).1 a)
      (λ _. h i l)

  -- the first who wait at the source of a channel let in
  let_in_parts : (j i n frame t : ℕ) (p : Partition) → Valid frame t p → ListedIn p × Part (waiters o (part m j)) (waiters o p)
      → let q = changed_all served (take n (waiters (object (Source (i + 1) 0)) p)) p in ListedIn q × Part (waiters o (part m j)) (waiters o q)
  let_in_parts j i n frame t p v h = (
    (let_in_valid frame t p v (object (Source (i + 1) 0)) n).lists,
    part_trans h.1 (all_part o some served (λ x. inl refl) (take n (waiters (object (Source (i + 1) 0)) p)) p v.lists (firsts_created frame t p v (object (Source (i + 1) 0)) n)),
  )

  module _ (r : Request) (c : Calls m r) where
    abbrev k : ℕ
    k = number_of r.partition

    abbrev now : Partition
    now = part m (k - 1)

    here : k - 1 < m.table.size
    here = place m s r c

    now_valid : Valid m.table.frame m.t now
    now_valid = s.each_partition (k - 1) here

    -- the caller begins to wait, the other partitions stay
    blocks_follow : (id : ℕ) (x : Process) → Between 1 now.process_count id → id ≡ running now → ready (process id now) ≡ true → (i : ℕ) → i < m.table.size → Follows 7 k i (get_or (set m.partitions (k - 1) (stored id x now)) i no_partition)
    blocks_follow id x b is h i l =
        let v = now_valid.lists in
        let q = stored id x now in
        let e : joining 7 k (k - 1) o now q ≡ cond (eqb (object x.wait) o) (id ∷ []) [] = rw (eq-eqb k (k - 1 + 1) (omega (arith, c.some)), ← is, waits_same now v id b x o some) in
        at_set (λ i q. Follows 7 k i q) m.partitions (k - 1) q no_partition (omega (arith, here, s.partitions_size, s.table.size.1)) i
        (joins_last o some now v id b x h ∙ sym (ap (λ (l : List ℕ). l ++ joining 7 k (k - 1) o now q) (others_stay o some now v id b x h) ∙ ap (λ (l : List ℕ). waiters o now ++ l) e))
        (λ ne. none_joins 7 k i (part m i) (inr (ne_eqb k (i + 1) (λ e. ne (omega arith)))) (listed i l) (part_whole (waiters o (part m i))))

    -- the caller in NORMAL
    caller_is : (id : ℕ) → id ≡ running now → normal_mode now ≡ true → Caller id now
    caller_is id e n = rw e (running_caller now now_valid.lists now_valid.lock (λ z. not_both _ (rw (n, z)) (or_right (idle_mode now) _ c.caller)))

    restart_part : (mode : ℕ) → Part (waiters o now) (waiters o (nothing_created mode))
    unfolding waiters kept
    restart_part mode = record { by = λ _. false; is = sym (kept_no (λ _. false) (waiters o now) (λ _ _. refl)) }

    -- where nobody begins to wait, each queue is a part of what it was
    pub decided_parts : (d : Decision) → SoundDecision (context_of m k) now d → Bodily (port_of m k r) (number_of r.call) d → Orderly (context_of m k) now d → NotBlocked d → Parts (module_after m k d)
    decided_parts (Refused n) h b g f = same_parts
    decided_parts (Unchanged n e) h b g f = same_parts
    decided_parts Ticked h b g f = absurd b
    decided_parts (Blocked id x) h b g f = absurd f
    decided_parts (Changed x y n) h b g f =
        let v = change_valid (context_of m k) (context_sound m s r c) now now_valid x h.0 in
        store_parts m same_parts s.partitions_size (k - 1) here (applied y (applied x now)) (change_valid (context_of m k) (context_sound m s r c) (applied x now) v y h.1).lists
        (part_trans (change_part o some (context_of m k) now now_valid x h.0 g.0) (change_part o some (context_of m k) (applied x now) v y h.1 g.1))
    decided_parts (Restarted mode) h b g f =
        let u = erased_to k channel_limit m in
        let v = nothing_valid m.table.frame m.t (mode_number mode) h in
        let p = nothing_created (mode_number mode) in
        refilled_keeps (λ i x. ListedIn x × Part (waiters o (part m i)) (waiters o x)) k (with_part (k - 1) p u) (part_sound u (erased_sound k channel_limit m (omega arith) s) (k - 1) here p v) channel_limit (λ i _ _. let_in_parts ((channel m.table i).source - 1) i)
        (store_parts u same_parts s.partitions_size (k - 1) here p v.lists (restart_part (mode_number mode)))
    decided_parts (Written j x) h b g f = same_parts
    decided_parts (PassedOn j a n) h b g f =
        let t = transfer_sound m s r c j a n b in
        let w = on_queue_holds m s r c j a n b in
        let e = other_end k (channel m.table j) - 1 in
        let q = with_queue j (moved a (queue m j)) m in
        let v = s.each_partition e w.inside in
        by_test Parts (ends_wait a)
        (λ _. store_parts q same_parts s.partitions_size e w.inside (ended_by a (part m e)) (ended_valid m.table.frame m.t (part m e) v (channel m.table j).size (queue m j) a t.1 t.2).lists (ended_part o some (part m e) v.lists a t.2))
        (λ _. same_parts)

    follows : (d : Decision) → SoundDecision (context_of m k) now d → Bodily (port_of m k r) (number_of r.call) d → Orderly (context_of m k) now d → (i : ℕ) → i < m.table.size → Follows (reply_of d).code k i (part (module_after m k d) i)
    follows (Blocked id x) h b g i l = blocks_follow id x h.0 g.0 (caller_is id g.0 g.1).is_ready i l
    follows (Refused n) h b g i l = parts_follow n (low n b) m same_parts k i l
      where
        low : (n : ℕ) → body_refusal n ≡ true → eqb n 7 ≡ false
        low n e = let u = leb-true n 5 (and_right (leb 1 n) (leb n 5) e) in ne_eqb n 7 (λ z. omega arith)
    follows (Unchanged n e) h b g i l = parts_follow 0 refl m same_parts k i l
    follows Ticked h b g i l = absurd b
    follows (Changed x y n) h b g i l = parts_follow 0 refl (module_after m k (Changed x y n)) (decided_parts (Changed x y n) h b g tt) k i l
    follows (Restarted mode) h b g i l = parts_follow 0 refl (module_after m k (Restarted mode)) (decided_parts (Restarted mode) h b g tt) k i l
    follows (Written j x) h b g i l = parts_follow 0 refl (module_after m k (Written j x)) (decided_parts (Written j x) h b g tt) k i l
    follows (PassedOn j a n) h b g i l = parts_follow 0 refl (module_after m k (PassedOn j a n)) (decided_parts (PassedOn j a n) h b g tt) k i l

  pub event_follows : (r : Request) (i : ℕ) → i < m.table.size → Follows (reply_of (decision m r)).code (number_of r.partition) i (part (module_after m (number_of r.partition) (decision m r)) i)
  event_follows r =
      by_event m r (λ (d : Decision). (i : ℕ) → i < m.table.size → Follows (reply_of d).code (number_of r.partition) i (part (module_after m (number_of r.partition) d) i))
      (λ n e. parts_follow n (let h = leb-true 8 n (and_left (leb 8 n) (leb n 13) e) in ne_eqb n 7 (λ z. omega arith)) m same_parts (number_of r.partition))
      (λ _ _ _. parts_follow 0 refl (tick_module m) tick_parts (number_of r.partition))
      (λ c. follows r c (made m s r c) (made_sound m s r c) (made_body m s r c) (call_order (context_of m (number_of r.partition)) (part m (number_of r.partition - 1)) (port_of m (number_of r.partition) r) (number_of r.call) r).is)

-- every event of every reached record
pub queue_after : (m : Module) → Reached m → (e : EventT) (i : ℕ) → i < m.table.size → (o : ℕ) → (o ≡ 0 → ⊥) → QueueAfter m e i o
unfolding step
queue_after m h e i l o some =
    let s = valid_sound m (reached_valid m h) i l in
    let r = request_of e in
    let d = decision m r in
    let after = module_after m (number_of r.partition) d in
    let u = decided_sound m s r in
    record {
      before = queue_of_holds (part m i) (s.each_partition i l).lists o some;
      after = queue_of_holds (part after i) (u.each_partition i (rw (decided_table m (number_of r.partition) d) l)).lists o some;
      order = event_follows m s o some r i l;
    }

-- ---------------------------------------------------------------- waits that end, and the arrival list
-- who is READY then
abbrev pub ready_in : Partition → ℕ → Bool
ready_in p y = ready (process y p)

-- who becomes READY
abbrev pub becomes_ready : Partition → Partition → ℕ → Bool
becomes_ready p q y = ready_in q y && not (ready_in p y)

-- each process once: who stays READY keeps its place, and who becomes so joins in the order of the changes
pub arrive_all : (f : Process → Process) (l : List ℕ) (p : Partition) → ListedIn p → AllCreated l p.process_count → Distinct l
    → let q = changed_all f l p in members q.arrival ≡ kept (ready_in q) (members p.arrival) ++ kept (becomes_ready p q) l
unfolding changed_all contains Distinct kept
arrive_all f [] p v all dis = sym (append-nil _ ∙ kept_all (ready_in p) (members p.arrival) (λ y c. sym (v.arrivals.exact y) ∙ c))
arrive_all f (id ∷ l) p v all dis =
    let x = f (process id p) in
    let b = all id (rw (eq-eqb id id refl)) in
    let p₁ = stored id x p in
    let v₁ = stored_listed p id x v b in
    let all₁ : AllCreated l p₁.process_count = λ y c. rw (rest_count p _ (stored_rest p id x)) (all y (rw c (or-true (eqb id y)))) in
    let q = changed_all f l p₁ in
    let apart : (y : ℕ) → contains y l ≡ true → y ≡ id → ⊥ = λ y c e. not_both _ (rw e at c) dis.0 in
    let is : process id q ≡ x = changed_process f l p₁ v₁ all₁ dis.1 id ∙ rw dis.0 (process_stored p id x v b) in
    arrive_all f l p₁ v₁ all₁ dis.1
    ∙ ap (λ (k : List ℕ). kept (ready_in q) (members p₁.arrival) ++ k) (kept_same (becomes_ready p₁ q) (becomes_ready p q) l (λ y c. ap (λ (z : Process). ready_in q y && not (ready z)) (process_other p id x y (apart y c))))
    ∙ ap (λ (k : List ℕ). kept (ready_in q) k ++ kept (becomes_ready p q) l) (stored_arrival p v id b x)
    ∙ go q (ready_in p id) (ready x) refl (ap ready is) (members p.arrival) (kept (becomes_ready p q) l)
  where
    go : (q : Partition) (o n : Bool) → ready_in p id ≡ o → ready_in q id ≡ n → (a k : List ℕ) → kept (ready_in q) (followed o n id a) ++ k ≡ kept (ready_in q) a ++ kept_if (ready_in q id && not (ready_in p id)) id k
    go q true true was now a k = rw (was, now)
    go q true false was now a k = rw now (ap (λ (l : List ℕ). l ++ k) (kept_kept (ready_in q) (other id) a ∙ kept_same (λ y. ready_in q y && other id y) (ready_in q) a (λ y _. ⊎_elim
        (λ (s : y ≡ id). rw (s, now))
        (λ (ne : y ≡ id → ⊥). rw (ne_eqb y id ne) (and-true (ready_in q y)))
        (same_or_not y id))))
    go q false true was now a k = rw (kept_snoc, was, now) (append_assoc (kept (ready_in q) a) (id ∷ []) k)
    go q false false was now a k = rw now

-- none of them READY before: those READY then join, and the others stay
pub all_arrive : (f : Process → Process) (l : List ℕ) (p : Partition) → ListedIn p → AllCreated l p.process_count → Distinct l → ((y : ℕ) → contains y l ≡ true → ready (process y p) ≡ false)
    → members (changed_all f l p).arrival ≡ members p.arrival ++ kept (λ y. ready (f (process y p))) l
all_arrive f l p v all dis none =
    let q = changed_all f l p in
    let is = changed_process f l p v all dis in
    arrive_all f l p v all dis
    ∙ ap (λ (k : List ℕ). k ++ kept (becomes_ready p q) l) (kept_all (ready_in q) (members p.arrival) (λ y c. let r = sym (v.arrivals.exact y) ∙ c in ap ready (is y) ∙ either (contains y l) (λ t. not_both _ r (none y t)) (λ t. rw t r)))
    ∙ ap (λ (k : List ℕ). members p.arrival ++ k) (kept_same (becomes_ready p q) (λ y. ready (f (process y p))) l (λ y c. rw (is y, c, none y c) (and-true _)))

-- one that waits on an object is not READY
on_not_ready : (x : Process) → on_object x ≡ true → ready x ≡ false
on_not_ready x h = not_so (ready x) (λ k. on_some x h (ready_off x k))

-- the first of a queue is served: its wait ends, and the rest stay in their order
module _ (o : ℕ) (some : o ≡ 0 → ⊥) (p : Partition) (v : ListedIn p) (id : ℕ) (rest : List ℕ) (e : waiters o p ≡ id ∷ rest) where
  first_in : contains id (waiters o p) ≡ true
  unfolding contains
  first_in = rw (e, eq-eqb id id refl)

  pub first_created : Between 1 p.process_count id
  first_created = waiters_created p v o id first_in

  pub others_apart : (y : ℕ) → contains y rest ≡ true → y ≡ id → ⊥
  unfolding Distinct
  others_apart y g z = let d : Distinct (id ∷ rest) = rw e at (waiters_distinct p v o) in not_both _ (rw z at g) d.0

  pub served_queue : (x : Process) → object x.wait ≡ 0 → waiters o (stored id x p) ≡ rest
  unfolding kept Distinct
  served_queue x off =
      let d : Distinct (id ∷ rest) = rw e at (waiters_distinct p v o) in
      stored_queue p v id first_created x o some (inr (inl off))
      ∙ rw (eq-eqb (object (process id p).wait) o (in_queue p v o some id first_in), off, ne_eqb 0 o (λ z. some (sym z)), e, eq-eqb id id refl)
      (kept_whole id rest d.0)

  pub first_served : waiters o (stored id (served (process id p)) p) ≡ rest
  first_served = served_queue (served (process id p)) refl

-- all of a queue are served: those READY then join the arrival list in queue order
pub all_served : (f : Process → Process) → ((x : Process) → object (f x).wait ≡ 0) → (o : ℕ) → (o ≡ 0 → ⊥) → (p : Partition) → ListedIn p → members (changed_all f (waiters o p) p).arrival ≡ members p.arrival ++ kept (λ y. ready (process y (changed_all f (waiters o p) p))) (waiters o p)
all_served f ends o some p v =
    let l = waiters o p in
    all_arrive f l p v (waiters_created p v o) (waiters_distinct p v o) (λ y c. on_not_ready (process y p) (waiters_on p v o y c))
    ∙ ap (λ (k : List ℕ). members p.arrival ++ k) (kept_same (λ y. ready (f (process y p))) (λ y. ready (process y (changed_all f l p))) l (λ y c. let is : process y (changed_all f l p) ≡ f (process y p) = ended_process p v o some f ends o y ∙ rw c in ap ready (sym is)))

-- ---------------------------------------------------------------- the calls
-- a time-out other than 0
pub time_out : (a : ℤ) → TimeOut a → is_timeout (field a) ≡ true
time_out (pos n) h =
    let hi = leb-true n duration_limit (and_right (leb 0 n) (leb n duration_limit) h) in
    rw (field_number n (omega arith), from_zero n, le-leb n duration_limit hi)
time_out (negsuc zero) h = refl
time_out (negsuc (suc n)) h = not_both _ h (rw (ne_eqb (suc n) 0 (λ z. omega arith)))

-- a message
pub a_message : (b : ℕ) → b ≤ duration_limit → is_message (Number b) ≡ true
a_message b h = rw (from_zero b, le-leb b duration_limit h)

-- an ended wait, as a record
abbrev Ends : (Process → Process) → Type 0
Ends f = (x : Process) → f x ≡ wait_over 0 (f x).message x

pub ends_handed : (b : ℕ) → Ends (handed b)
ends_handed b x = refl

pub ended_is : Ends served
ended_is x = refl

-- an event after which partition k is q: the first of queue o served, in a record r that differs from that before the event in no process
module _ (m : Module) (k o : ℕ) (some : o ≡ 0 → ⊥) (r : Partition) (v : ListedIn r) (same : (y : ℕ) → process y r ≡ process y (own m k)) (f : Process → Process) (ends : Ends f) where
  module _ (id : ℕ) (rest : List ℕ) (e : waiters o r ≡ id ∷ rest) (event : EventT) (code : (step m event).answer.code ≡ 0) where
    abbrev x : Process
    x = f (process id (own m k))

    abbrev q : Partition
    q = stored id x r

    pub served_in : own (step m event).state k ≡ q → FirstServed m k event o id rest x.message
    served_in after =
        let b = first_created o some r v id rest e in
        record {
          code = code;
          queue = rw after (served_queue o some r v id rest e x (ap (λ (y : Process). object y.wait) (ends (process id (own m k)))));
          ended = rw (after, process_stored r id x v b) (ends (process id (own m k)));
          others = λ y ne. rw after (process_other r id x y ne ∙ same y);
        }

module _ (m : Module) (k : ℕ) (u : SoundModule m) (h : Calling m k) where
  abbrev p : Partition
  p = own m k

  valid : Valid m.table.frame m.t p
  valid = calling_valid m k u h

  -- a call that stores q: the first of queue o served, in a record r that differs from the caller's in no process
  pub first_served_by : (o : ℕ) (some : o ≡ 0 → ⊥) (r : Partition) → ListedIn r → ((y : ℕ) → process y r ≡ process y p) → (f : Process → Process) → Ends f
      → (id : ℕ) (rest : List ℕ) → waiters o r ≡ id ∷ rest → (value : ℕ) (event : EventT) → Gives m event 0 value (Some 0) (with_part (k - 1) (stored id (f (process id p)) r) m) → FirstServed m k event o id rest (f (process id p)).message
  first_served_by o some r v same f ends id rest e value event g = served_in m k o some r v same f ends id rest e event g.code_is (own_after m k u h (stored id (f (process id p)) r) g)

  -- a call that stores q, which has all processes of the caller's record
  pub none_served : (o value : ℕ) (event : EventT) (q : Partition) → Gives m event 0 value (Some 0) (with_part (k - 1) q m) → waiters o q ≡ [] → q.processes ≡ p.processes → NoneServed m k event o
  none_served o value event q g e f = record {
    code = g.code_is;
    queue = rw (own_after m k u h q g) e;
    processes = rw (own_after m k u h q g) f;
  }

  -- SIGNAL
  module _ (j : ℕ) (b : Between 1 p.semaphore_count j) (below : (semaphore j p).value ≡ (semaphore j p).max → ⊥) where
    abbrev o : ℕ
    o = object (Semaphore j)

    some : o ≡ 0 → ⊥
    some e = omega arith

    abbrev signals : EventT
    signals = call_by k 16 (pos j) (pos 0) (pos 0) (pos 0)

    signal_gives : (l : List ℕ) → waiters o p ≡ l → Gives m signals 0 0 (Some 0) (with_part (k - 1) (applied (signalled l j p) p) m)
    unfolding call_decision services stray_field signal checked
    signal_gives l e =
        let f : field (pos j) ≡ Number j = field_number j (omega (arith, b.1, valid.objects.semaphores.numbered.few)) in
        gives m k u h 16 (pos j) (pos 0) (pos 0) (pos 0) (omega arith) (omega arith) refl (changed (signalled l j p)) (rw (f, known m k u h j p.semaphore_count b, ne_eqb _ _ below, e))

    pub signal_first_holds : (id : ℕ) (rest : List ℕ) → waiters o p ≡ id ∷ rest → FirstServed m k signals o id rest (has m k id) × SameObjects p (own (step m signals).state k)
    unfolding signalled
    signal_first_holds id rest e =
        let g = signal_gives (id ∷ rest) e in
        let q = stored id (served (process id p)) p in
        (first_served_by o some p valid.lists (λ _. refl) served ended_is id rest e 0 signals g, rw (own_after m k u h q g) (rest_objects p q (stored_rest p id (served (process id p)))))

    pub signal_none_holds : waiters o p ≡ [] → NoneServed m k signals o × ((semaphore j (own (step m signals).state k)).value ≡ (semaphore j p).value + 1)
    unfolding signalled
    signal_none_holds e =
        let few : j ≤ semaphore_limit = omega (arith, b.1, valid.objects.semaphores.numbered.few) in
        let i = within_in semaphore_limit j b.0 few in
        let t = valid.objects.semaphores.each j b in
        let s : SemaphoreT = record { name = (semaphore j p).name; value = one_more (semaphore j p).value; max = (semaphore j p).max } in
        let q = stored_semaphore j s p in
        let g = signal_gives [] e in (
          none_served o 0 signals q g (semaphore_queue p valid.lists o some j s ∙ e) (ap (λ (r : Partition). r.processes) (semaphore_in j s p i)),
          rw (own_after m k u h q g, semaphore_in j s p i, named_same semaphore_limit no_semaphore j s p.semaphores b.0 few (omega (arith, valid.objects.semaphores.numbered.size))) (rw (lt-ltb (semaphore j p).value greatest_value (omega (arith, t.value, t.max.1)))),
        )

  -- a call that ends all waits of queue o, each process changed by f, in a record r that differs from the caller's in no process and no list
  module _ (o : ℕ) (some : o ≡ 0 → ⊥) (r : Partition) (v : ListedIn r) (queue : waiters o r ≡ waiters o p) (same : (y : ℕ) → process y r ≡ process y p) (arrived : r.arrival ≡ p.arrival) (f : Process → Process) (ends : Ends f) where
    off : (x : Process) → object (f x).wait ≡ 0
    off x = ap (λ (y : Process). object y.wait) (ends x)

    abbrev done : Partition
    done = changed_all f (waiters o r) r

    pub all_served_by : (event : EventT) → Gives m event 0 0 (Some 0) (with_part (k - 1) done m) → AllServed m k event o (λ id. (f (process id p)).message)
    all_served_by event gives =
        let is : (y : ℕ) → process y done ≡ cond (contains y (waiters o p)) (f (process y p)) (process y p) = λ y. ended_process r v o some f off o y ∙ rw (queue, same y) in
        let g = own_after m k u h done gives in
        record {
          code = gives.code_is;
          queue = rw g (ended_queue r v o some f off);
          ended = λ id c. rw (g, is id, c) (ends (process id p));
          others = λ id c. rw (g, is id, c);
          arrival = rw g (all_served f off o some r v ∙ rw (queue, arrived));
        }

  -- SET_EVENT
  module _ (j : ℕ) (b : Between 1 p.event_count j) where
    abbrev sets : EventT
    sets = call_by k 18 (pos j) (pos 0) (pos 0) (pos 0)

    abbrev state : EventState
    state = record { name = (event j p).name; up = true }

    -- the event is UP, and then the waits end
    abbrev up : Partition
    up = stored_event j state p

    up_is : up ≡ with_events (set p.events (j - 1) state) (max p.event_count j) p
    up_is = event_in j state p (within_in event_limit j b.0 (omega (arith, b.1, valid.objects.events.numbered.few)))

    abbrev waits_on_holds : ℕ
    waits_on_holds = object (Event j)

    abbrev after_all : Partition
    after_all = changed_all served (waiters waits_on_holds up) up

    set_gives : Gives m sets 0 0 (Some 0) (with_part (k - 1) after_all m)
    unfolding call_decision services stray_field set_event checked
    set_gives =
        let f : field (pos j) ≡ Number j = field_number j (omega (arith, b.1, valid.objects.events.numbered.few)) in
        gives m k u h 18 (pos j) (pos 0) (pos 0) (pos 0) (omega arith) (omega arith) refl (Changed (with_up j true p) (Ended waits_on_holds) 0) (rw (f, known m k u h j p.event_count b))

    set_up : (event j after_all).up ≡ true
    set_up =
        let few = valid.objects.events.numbered.few in
        ap (λ (r : Partition). (event j r).up) (changed_rest served (waiters waits_on_holds up) up)
        ∙ rw up_is (ap (λ (e : EventState). e.up) (named_same event_limit no_event j state p.events b.0 (omega (arith, b.1, few)) (omega (arith, b.1, few, valid.objects.events.numbered.size))))

    pub set_event_holds : AllServed m k sets waits_on_holds (has m k) × ((event j (own (step m sets).state k)).up ≡ true)
    set_event_holds = (
      all_served_by waits_on_holds (λ z. omega arith) up (rw up_is valid.lists) (event_queue p valid.lists waits_on_holds (λ z. omega arith) j state) (λ y. rw up_is) (rw up_is) served ended_is sets set_gives,
      rw (own_after m k u h after_all set_gives) set_up,
    )
