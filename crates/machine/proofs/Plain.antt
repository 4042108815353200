-- On a reached record no bound and no cap acts at any event: the definitions are document 01's plain ones there. Assumes nothing.
use Rattle.machine.specs.Mode.{mode_number}
use Rattle.machine.specs.declared.Mode.TheVariants.{Normal as NormalMode}
use Prim.Native.Nat.{ℕ, zero, suc, ◌+◌, ◌-◌, ◌≤◌, ◌<◌, max}
use mathlib.Core.Path.{◌≡◌, refl, ap, ap₂, sym, ◌∙◌}
use mathlib.Core.Bool.{true, false, cond, not, ◌&&◌, and-false, or-true}
use mathlib.Core.List.{List, [], ◌∷◌, ◌++◌, map}
use mathlib.Core.Logic.{◌⊎◌, inl, inr, ⊎_elim}
use native.Mathlib.Omega.{arith}
use lib.ListN.{length, get_or}
use lib.Seq.{ext_get_or}
use lib.Dec.{eqb, leb, ltb}
use lib.IntN.{ℤ, pos, negsuc}
use borrow.Author.Tests.{lt-ltb, le-ltb, le-leb, lt-leb, ltb-true, ltb-false, leb-true, leb-false, eq-eqb, ne_eqb, eqb-true, eqb-false, not-true, not-false}
use Rattle.machine.specs.declared.Process.{Process}
use Rattle.machine.specs.declared.Partition.{Partition}
use Rattle.machine.specs.declared.Context.{Context}
use Rattle.machine.specs.declared.Change.{Change}
use Rattle.machine.specs.declared.Change.TheVariants.{Nothing, Stored, Created, Last, StoredSemaphore, StoredEvent, CreatedBuffer, Moved, StoredBlackboard, Ended, Handed, LevelSet, Entered}
use Rattle.machine.specs.declared.Transfer.{Transfer}
use Rattle.machine.specs.declared.Transfer.TheVariants.{Put, HandedTo, Taken, LetIn}
use Rattle.machine.specs.declared.Wait.TheVariants.{Source}
use Rattle.machine.specs.declared.Decision.{Decision}
use Rattle.machine.specs.declared.Decision.TheVariants.{Refused, Unchanged, Ticked, Blocked, Changed, Restarted, Written, Passed}
use Rattle.machine.specs.declared.Request.{Request}
use Rattle.machine.specs.declared.Event.{Event as EventT}
use Rattle.machine.specs.declared.Module.{Module}
use Rattle.machine.specs.declared.Table.{Table}
use Rattle.machine.specs.declared.Stepped.{Stepped}
use Rattle.machine.specs.declared.Field.{Field}
use Rattle.machine.specs.Time.{Time}
use Rattle.std.specs.Prelude.{None, Some}
use Rattle.machine.specs.Limits.{process_limit, semaphore_limit, event_limit, buffer_limit, blackboard_limit, level_limit, duration_limit, time_limit, partition_limit, channel_limit, greatest_time, greatest_value}
use Rattle.machine.specs.Messages.{queue_of, ends_wait}
use Rattle.machine.specs.Fields.{field, request_of, is_number, between, is_minus_one, number_of}
use Rattle.machine.specs.Ids.{members, ids_of, kept, other, removed}
use Rattle.machine.specs.Process.{blank_process, later, is_never, periodic, ready, object, carried, served, handed, due, only_marked, woken, expired, ticked, entered}
use Rattle.machine.specs.Partition.{normal_mode, no_semaphore, no_event, no_buffer, no_blackboard, process, buffer, empty_buffer, moved_in, ended_by, with_mode, with_processes, stored, stored_buffer, arrived_last, waiters, changed_all, each, tick_partition, entered_normal, applied}
use Rattle.machine.specs.Decisions.{checked, unknown}
use Rattle.machine.specs.Objects.{one_more}
use Rattle.machine.specs.Windows.{lookup, release_after, next_start}
use Rattle.machine.specs.Module.{no_partition, empty_table, empty_module, channel, part, queue, with_part, with_queue, with_time}
use Rattle.machine.specs.Channels.{queuing_at, other_end, port_of, leads_into, erased_to, admitted, refilled_at, refilled_to}
use Rattle.machine.specs.Ticks.{tick_to, tick_module}
use Rattle.machine.specs.Places.{malformed}
use Rattle.machine.specs.Step.{context_of, decision, module_after, sees, step}
use Rattle.machine.specs.Theorems.Valid.{Between, contains, NotAfter, latest_wake, latest_deadline, Setting, LastingIn, SoundProcess, ListedIn, Valid, SoundContext, SoundTable, SoundModule, Reached, SoundEnd, SoundChange, SoundDecision, plain_later}
use Rattle.machine.specs.Theorems.Plain.{ids_from, changed_first, plain_created, plain_last, count_with, plain_semaphore, plain_event, plain_buffer, plain_blackboard, plain_ended, come, at_tick, plain_each, plain_all, plain_applied, EndInPlace, InPlace, plain_refilled_at, plain_refilled_to, plain_tick_partition, plain_ticked, plain_after, AllInPlace, Uncapped, plain_between, plain_number, plain_minus_one, plain_unknown, Lossless, PlainReads, PlainNumbers, PlainTable, CapsSeen, NoBoundActs, EmptyStays}
use Rattle.machine.proofs.Tests.{by_test, by_tests, and_left, or_left, or_right, not_both}
use Rattle.machine.proofs.Fields.{in_limits}
use Rattle.machine.proofs.Bounds.{within_in, created_in, semaphore_in, event_in, buffer_in, blackboard_in}
use Rattle.machine.proofs.Either.{either}
use Rattle.machine.proofs.Lists.{members_ids_of, appended_ids_of}
use Rattle.machine.proofs.Messages.{moved_plain, moved_in_plain}
use Rattle.machine.proofs.Keeping.{process_created, removed_room, each_changed, AllCreated, from_range, stored_rest, rest_count, stored_listed}
use Rattle.machine.proofs.Sound.{later_plain, later_not_after, at_most_more, at_most_not_after, capacity_bound, period_not_after, at_most_released, ready_released, times_bounded}
use Rattle.machine.proofs.Dispatch.{Calls, by_event}
use Rattle.machine.proofs.Bodies.{Bodily}
use Rattle.machine.proofs.Kept.{change_valid, nothing_valid, waiters_created, firsts_created, end_stored}
use Rattle.machine.proofs.Reached.{tick_around, tick_size, tick_later, tick_first, count_plain, place, context_sound, made, made_sound, made_body, decided_sound, reached_valid, part_sound, erased_sound, queuing_plain, refilled_table, refilled_sound, on_queue_holds, transfer_sound}
use Rattle.machine.proofs.Starts.{frame_some, release_plain}
use Rattle.machine.proofs.Answers.{decided_table}
use Rattle.machine.proofs.Stored.{by_id_plain, stored_plain}

-- ---------------------------------------------------------------- what an id names
pub reads_plain : (frame t : ℕ) (p : Partition) → Valid frame t p → PlainReads p
reads_plain frame t p v = record {
  processes = by_id_plain process_limit blank_process p.processes v.lists.numbered.size;
  semaphores = by_id_plain semaphore_limit no_semaphore p.semaphores v.objects.semaphores.numbered.size;
  events = by_id_plain event_limit no_event p.events v.objects.events.numbered.size;
  buffers = by_id_plain buffer_limit no_buffer p.buffers v.objects.buffers.numbered.size;
  blackboards = by_id_plain blackboard_limit no_blackboard p.blackboards v.objects.blackboards.numbered.size;
}

-- ---------------------------------------------------------------- the other changes
pub all_plain : (f : Process → Process) (l : List ℕ) (p : Partition) → ListedIn p → AllCreated l p.process_count → changed_all f l p ≡ plain_all f l p
unfolding changed_all plain_all contains
all_plain f [] p v all = refl
all_plain f (id ∷ l) p v all =
    let x = f (process id p) in
    let b = all id (rw (eq-eqb id id refl)) in
    all_plain f l (stored id x p) (stored_listed p id x v b) (λ y c. rw (rest_count p _ (stored_rest p id x)) (all y (rw c (or-true (eqb id y)))))
    ∙ rw (stored_plain p v id b x, by_id_plain process_limit blank_process p.processes v.numbered.size id)

pub each_plain : (f : Process → Process) (p : Partition) → ListedIn p → each f p ≡ plain_all f (ids_from p.process_count 1) p
each_plain f p v =
    each_changed f p.process_count 1 p
    ∙ all_plain f (ids_from p.process_count 1) p v (λ y h. let r = from_range p.process_count 1 y h in (r.0, omega arith))

-- the wait that a transfer ends
pub ended_plain : (p : Partition) → ListedIn p → (a : Transfer) → SoundEnd p a → ended_by a p ≡ plain_ended a p
ended_plain p v (Put m) h = refl
ended_plain p v (HandedTo id m) h = stored_plain p v id h.0 (handed m (process id p)) ∙ rw (by_id_plain process_limit blank_process p.processes v.numbered.size id)
ended_plain p v Taken h = refl
ended_plain p v (LetIn id m) h = stored_plain p v id h.0 (served (process id p)) ∙ rw (by_id_plain process_limit blank_process p.processes v.numbered.size id)

pub end_in_place : (p : Partition) → ListedIn p → (a : Transfer) → SoundEnd p a → EndInPlace a p
end_in_place p v (Put m) h = tt
end_in_place p v (HandedTo id m) h = (h.0.0, omega (arith, h.0.1, v.numbered.few, v.numbered.size))
end_in_place p v Taken h = tt
end_in_place p v (LetIn id m) h = (h.0.0, omega (arith, h.0.1, v.numbered.few, v.numbered.size))

-- a READY process that goes to the end of the arrival list
pub arrived_plain : (p : Partition) → ListedIn p → (id : ℕ) → ready (process id p) ≡ true → arrived_last id p ≡ with_processes p.processes p.process_count (ids_of (kept (other id) (members p.arrival) ++ (id ∷ []))) p.waiting p
unfolding arrived_last removed
arrived_plain p v id h =
    let l = kept (other id) (members p.arrival) in
    rw (appended_ids_of l id (rw (members_ids_of l) at (removed_room p v id h)))

-- how many there are after one that is known, or the next, has been stored
count_with_holds : (n id : ℕ) → id ≤ n + 1 → max n id ≡ count_with id n
count_with_holds n id h = by_test (λ (k : ℕ). max n id ≡ k) (ltb n id) (λ e. omega (arith, ltb-true n id e)) (λ e. omega (arith, ltb-false n id e))

-- each change of a valid partition is the plain one
module _ (c : Context) {o : Partition} (k : SoundContext c o) where
  pub change_plain : (p : Partition) → Valid c.frame c.time p → (a : Change) → SoundChange c p a → applied a p ≡ plain_applied a p
  unfolding plain_created plain_last plain_semaphore plain_event plain_buffer plain_blackboard entered_normal
  change_plain p v Nothing h = refl
  change_plain p v (Stored id x) h = stored_plain p v.lists id h.0 x
  change_plain p v (Created id x) h =
      let e : max p.process_count id ≡ p.process_count + 1 = omega (arith, h.next) in
      created_in id x p (within_in process_limit id (omega (arith, h.next)) (omega (arith, h.next, h.room))) ∙ rw e
  change_plain p v (Last id) h = arrived_plain p v.lists id h
  change_plain p v (StoredSemaphore j s) h = semaphore_in j s p (within_in semaphore_limit j h.0.0.0 h.0.1) ∙ rw (count_with_holds p.semaphore_count j h.0.0.1)
  change_plain p v (StoredEvent j e) h = event_in j e p (within_in event_limit j h.0.0.0 h.0.1) ∙ rw (count_with_holds p.event_count j h.0.0.1)
  change_plain p v (CreatedBuffer j name limit) h = buffer_in j (empty_buffer name limit) p (within_in buffer_limit j h.0.0.0 h.0.1) ∙ rw (count_with_holds p.buffer_count j h.0.0.1)
  change_plain p v (Moved j a) h =
      let few = v.objects.buffers.numbered.few in
      let in_List = buffer_in j (moved_in a (buffer j p)) p (within_in buffer_limit j h.0.0 (omega (arith, h.0.1, few))) in
      ended_plain (stored_buffer j (moved_in a (buffer j p)) p) (rw in_List v.lists) a (end_stored j (moved_in a (buffer j p)) p a in_List h.2)
      ∙ ap (plain_ended a) (in_List
      ∙ rw (count_with_holds p.buffer_count j (omega (arith, h.0.1)), moved_in_plain (buffer j p) (v.objects.buffers.each j h.0) a h.1, by_id_plain buffer_limit no_buffer p.buffers v.objects.buffers.numbered.size j))
  change_plain p v (StoredBlackboard j b) h = blackboard_in j b p (within_in blackboard_limit j h.0.0.0 h.0.1) ∙ rw (count_with_holds p.blackboard_count j h.0.0.1)
  change_plain p v (Ended o) h = all_plain served (waiters o p) p v.lists (waiters_created p v.lists o)
  change_plain p v (Handed o m) h = all_plain (handed m) (waiters o p) p v.lists (waiters_created p v.lists o)
  change_plain p v (LevelSet level holder) h = refl
  change_plain p v (Entered d) h = each_plain (entered d) (with_mode NormalMode p) v.lists

  -- and what it stores has its place
  pub change_in_place : (p : Partition) → Valid c.frame c.time p → (a : Change) → SoundChange c p a → InPlace a p
  change_in_place p v Nothing h = tt
  change_in_place p v (Stored id x) h = (h.0.0, omega (arith, h.0.1, v.lists.numbered.few, v.lists.numbered.size))
  change_in_place p v (Created id x) h = (omega (arith, h.next), omega (arith, h.next, h.room, v.lists.numbered.size))
  change_in_place p v (Last id) h = let b = process_created ready refl p v.lists id h in (b.0, omega (arith, b.1, v.lists.numbered.few, v.lists.numbered.size))
  change_in_place p v (StoredSemaphore j s) h = (h.0.0.0, omega (arith, h.0.1, v.objects.semaphores.numbered.size))
  change_in_place p v (StoredEvent j e) h = (h.0.0.0, omega (arith, h.0.1, v.objects.events.numbered.size))
  change_in_place p v (CreatedBuffer j name limit) h = (h.0.0.0, omega (arith, h.0.1, v.objects.buffers.numbered.size))
  change_in_place p v (Moved j a) h = ((h.0.0, omega (arith, h.0.1, v.objects.buffers.numbered.few, v.objects.buffers.numbered.size)), end_in_place p v.lists a h.2)
  change_in_place p v (StoredBlackboard j b) h = (h.0.0.0, omega (arith, h.0.1, v.objects.blackboards.numbered.size))
  change_in_place p v (Ended o) h = tt
  change_in_place p v (Handed o m) h = tt
  change_in_place p v (LevelSet level holder) h = tt
  change_in_place p v (Entered d) h = omega (arith, v.lists.numbered.few, v.lists.numbered.size)

-- ---------------------------------------------------------------- the tick
length_first : {A : Type 0} (n : ℕ) (f : A → A) (l : List A) → length (changed_first n f l) ≡ length l
unfolding changed_first
length_first zero f l = refl
length_first (suc n) f [] = refl
length_first (suc n) f (a ∷ l) = ap suc (length_first n f l)

-- what stands at place i of a list whose first n have been changed
first_at : {A : Type 0} (n : ℕ) (f : A → A) (l : List A) (d : A) (i : ℕ) → i < length l → get_or (changed_first n f l) i d ≡ cond (ltb i n) (f (get_or l i d)) (get_or l i d)
unfolding changed_first
first_at zero f l d i h = rw (le-ltb i 0 (omega arith))
first_at (suc n) f [] d i h = absurd (omega arith)
first_at (suc n) f (a ∷ l) d zero h = rw (lt-ltb 0 (suc n) (omega arith))
first_at (suc n) f (a ∷ l) d (suc i) h = first_at n f l d i (omega arith) ∙ ap (λ b. cond b (f (get_or l i d)) (get_or l i d)) (ltb_suc i n)
  where
    ltb_suc : (i n : ℕ) → ltb i n ≡ ltb (suc i) (suc n)
    ltb_suc i n = either (ltb i n)
        (λ e. let k = ltb-true i n e in rw (e, lt-ltb (suc i) (suc n) (omega arith)))
        (λ e. let k = ltb-false i n e in rw (e, le-ltb (suc i) (suc n) (omega arith)))

-- one process: its wait, its mark, its deadline
come_is : (t : ℕ) (a : Time) → come t a ≡ due t a
come_is t None = refl
come_is t (Some n) = refl

pub tick_one : (t : ℕ) (x : Process) → ticked t x ≡ at_tick t x
unfolding woken expired
tick_one t x = rw (come_is t x.times.wake, come_is t x.times.deadline) (either (due t x.times.wake)
    (λ w. either (only_marked x)
    (λ o. either (due t x.times.deadline) (λ d. rw (w, o, d)) (λ d. rw (w, o, d)))
    (λ o. either (due t x.times.deadline) (λ d. rw (w, o, d)) (λ d. rw (w, o, d))))
    (λ w. either (due t x.times.deadline) (λ d. rw (w, d)) (λ d. rw (w, d))))

-- one partition: each process of it is stored plainly
pub tick_partition_plain : (t frame now : ℕ) (p : Partition) → Valid frame now p → tick_partition t p ≡ plain_tick_partition t p
unfolding tick_partition
tick_partition_plain t frame now p v = by_tests (λ (a b : Partition). a ≡ b) (normal_mode p) (normal_mode p) refl (λ _. each_plain (ticked t) p v.lists ∙ ap (λ (f : Process → Process). plain_each f p) (λ i x. tick_one t x i)) (λ _. refl)

module _ (m : Module) (s : SoundModule m) where
  pub tick_plain : tick_module m ≡ plain_ticked m
  tick_plain =
      let n = m.table.size in
      let q = with_time (m.t + 1) m in
      let f = plain_tick_partition (m.t + 1) in
      let long : n ≤ length m.partitions = omega (arith, s.partitions_size, s.table.size.1) in
      ap (λ n. tick_to n q) (count_plain m s) ∙ tick_around n q ∙ ap (λ (l : List Partition). record { table = m.table; t = m.t + 1; messages = m.messages; queues = m.queues; partitions = l })
      (ext_get_or no_partition (tick_to n q).partitions (changed_first n f m.partitions) (tick_size n q ∙ sym (length_first n f m.partitions)) (λ i h.
      sym (first_at n f m.partitions no_partition i (rw (tick_size n q) at h) ∙ either (ltb i n)
      (λ e. rw (e, tick_first n q long i (ltb-true i n e), tick_partition_plain (m.t + 1) m.table.frame m.t (part m i) (s.each_partition i (ltb-true i n e))))
      (λ e. rw (e, tick_later n i q (ltb-false i n e))))))

-- ---------------------------------------------------------------- channels
-- one queue filled anew
module _ (i : ℕ) (m : Module) (s : SoundModule m) (l : i < m.table.channel_count) where
  refilled_at_plain : refilled_at i m ≡ plain_refilled_at i m
  refilled_at_plain =
      let c = channel m.table i in
      let j = c.source - 1 in
      let p = part m j in
      let b = (s.table.each_channel i l).source in
      let v = s.each_partition j (omega (arith, b.0, b.1)) in
      let ids = admitted i c p in
      ap₂ (λ (x : Partition) (f : ℕ → ℕ). with_part j x (with_queue i (queue_of (map f ids)) m))
      (all_plain served ids p v.lists (firsts_created m.table.frame m.t p v (object (Source (i + 1) 0)) c.size))
      (λ t id. carried (by_id_plain process_limit blank_process p.processes v.lists.numbered.size id t))

-- those of the table's channels that are queuing and lead into a partition
pub refilled_plain : (k n : ℕ) (m : Module) → SoundModule m → n ≤ m.table.channel_count → refilled_to k n m ≡ plain_refilled_to k n m
unfolding refilled_to plain_refilled_to
refilled_plain k zero m s h = refl
refilled_plain k (suc n) m s h =
    let u = refilled_to k n m in
    let e : n < u.table.channel_count = rw (refilled_table k n m) h in
    let g = refilled_sound k n m s in
    let c = channel u.table n in
    let is : (queuing_at u.table n && leads_into k c) ≡ (ltb 0 c.size && leads_into k c) = rw (lt-ltb n u.table.channel_count e, queuing_plain u.table g.table n e) in
    by_tests (λ (x y : Module). x ≡ y) _ _ is (λ _. refilled_at_plain n u g e) (λ _. refl)
    ∙ ap (λ (h : Module). cond (ltb 0 (channel h.table n).size && leads_into k (channel h.table n)) (plain_refilled_at n h) h) (refilled_plain k n m s (omega arith))

-- past them there is nothing to fill
refilled_past : (k d : ℕ) (m : Module) → refilled_to k (m.table.channel_count + d) m ≡ refilled_to k m.table.channel_count m
unfolding refilled_to
refilled_past k zero m = ap (λ n. refilled_to k n m) (let e : m.table.channel_count + 0 ≡ m.table.channel_count = omega arith in e)
refilled_past k (suc d) m =
    let n = m.table.channel_count + d in
    let e : m.table.channel_count + suc d ≡ suc n = omega arith in
    let u = refilled_to k n m in
    let off : ltb n u.table.channel_count ≡ false = rw (refilled_table k n m) (le-ltb n m.table.channel_count (omega arith)) in
    ap (λ i. refilled_to k i m) e
    ∙ by_test (λ (x : Module). x ≡ refilled_to k m.table.channel_count m) (queuing_at u.table n && leads_into k (channel u.table n))
    (λ t. not_both _ (and_left (ltb n u.table.channel_count) _ (and_left (queuing_at u.table n) _ t)) off)
    (λ _. refilled_past k d m)

pub refilled_all : (k : ℕ) (m : Module) → SoundModule m → refilled_to k channel_limit m ≡ plain_refilled_to k m.table.channel_count m
refilled_all k m s =
    let few = s.table.channel_count in
    let e : m.table.channel_count + (channel_limit - m.table.channel_count) ≡ channel_limit = omega arith in
    ap (λ n. refilled_to k n m) (sym e) ∙ refilled_past k (channel_limit - m.table.channel_count) m ∙ refilled_plain k m.table.channel_count m s (omega arith)

-- ---------------------------------------------------------------- decisions
-- what a call decides of its partition is applied plainly, and what it stores has its place
module _ (m : Module) (s : SoundModule m) (r : Request) (q : Calls m r) where
  abbrev k : ℕ
  k = number_of r.partition

  abbrev now : Partition
  now = part m (k - 1)

  valid : Valid m.table.frame m.t now
  valid = s.each_partition (k - 1) (place m s r q)

  -- one change, and another after it
  one_plain : (a : Change) → SoundChange (context_of m k) now a → applied a now ≡ plain_applied a now
  one_plain a h = change_plain (context_of m k) (context_sound m s r q) now valid a h

  after_one : (a : Change) → SoundChange (context_of m k) now a → Valid m.table.frame m.t (applied a now)
  after_one a h = change_valid (context_of m k) (context_sound m s r q) now valid a h

  pub decided_plain : (d : Decision) → SoundDecision (context_of m k) now d → Bodily (port_of m k r) (number_of r.call) d → module_after m k d ≡ plain_after m k d
  decided_plain (Refused n) h b = refl
  decided_plain (Unchanged n e) h b = refl
  decided_plain Ticked h b = absurd b
  decided_plain (Blocked id x) h b = rw (one_plain (Stored id x) h)
  decided_plain (Changed x y n) h b = rw (change_plain (context_of m k) (context_sound m s r q) (applied x now) (after_one x h.0) y h.1, one_plain x h.0)
  decided_plain (Restarted mode) h b = refilled_all k _ (part_sound (erased_to k channel_limit m) (erased_sound k channel_limit m (omega arith) s) (k - 1) (place m s r q) _ (nothing_valid m.table.frame m.t (mode_number mode) h))
  decided_plain (Written i x) h b = refl
  decided_plain (Passed i a n) h b =
      let t = transfer_sound m s r q i a n b in
      let g = on_queue_holds m s r q i a n b in
      let c = channel m.table i in
      let j = other_end k c - 1 in
      let moves = moved_plain c.size (queue m i) (s.each_queue i) (let w = (s.table.each_channel i t.0).room in omega arith) a t.1 in
      by_tests (λ (x y : Module). x ≡ y) (ends_wait a) _ refl
      (λ _. rw (moves, ended_plain (part m j) (s.each_partition j g.inside).lists a t.2))
      (λ _. rw moves)

  pub decided_in_place : (d : Decision) → SoundDecision (context_of m k) now d → Bodily (port_of m k r) (number_of r.call) d → AllInPlace m k d
  decided_in_place (Refused n) h b = tt
  decided_in_place (Unchanged n e) h b = tt
  decided_in_place Ticked h b = absurd b
  decided_in_place (Blocked id x) h b = change_in_place (context_of m k) (context_sound m s r q) now valid (Stored id x) h
  decided_in_place (Changed x y n) h b = (
    change_in_place (context_of m k) (context_sound m s r q) now valid x h.0,
    rw (one_plain x h.0) at (change_in_place (context_of m k) (context_sound m s r q) (applied x now) (after_one x h.0) y h.1),
  )
  decided_in_place (Restarted mode) h b = λ i l. (omega (arith, l, s.table.channel_count, s.queues_size), (s.table.each_channel i l).source)
  decided_in_place (Written i x) h b =
      let c = in_limits 1 m.table.channel_count r.a b.there in
      (omega (arith, b.place, c.0, c.1), omega (arith, b.place, c.0, c.1, s.table.channel_count, s.messages_size))
  decided_in_place (Passed i a n) h b =
      let t = transfer_sound m s r q i a n b in
      let g = on_queue_holds m s r q i a n b in
      let c = channel m.table i in
      let e = s.table.each_channel i t.0 in
      let l = t.0 in (
        l,
        omega (arith, s.table.channel_count, s.queues_size),
        by_test (Between 1 m.table.size) (eqb c.source k) (λ _. e.destination) (λ _. e.source),
        end_in_place (part m (other_end k c - 1)) (s.each_partition (other_end k c - 1) g.inside).lists a t.2,
      )

-- ---------------------------------------------------------------- sums of times
pub caps_seen : CapsSeen
caps_seen = record { sum = sum; sums = sums; more = more }
  where
    sum : (a b : Time) → (later a b ≡ plain_later a b) ⊎ (later a b ≡ Some greatest_time)
    sum None b = inl refl
    sum (Some m) None = inl refl
    sum (Some m) (Some n) = by_test (λ (k : ℕ). (Some k ≡ Some (m + n)) ⊎ (Some k ≡ Some greatest_time)) (leb (m + n) greatest_time) (λ _. inl refl) (λ _. inr refl)

    -- the greatest time stays the greatest whatever is added
    greatest : (n : ℕ) (c : Time) → (later (Some greatest_time) c ≡ plain_later (Some n) c) ⊎ (later (Some greatest_time) c ≡ Some greatest_time)
    greatest n None = inl refl
    greatest n (Some j) = inr (by_test (λ (k : ℕ). Some k ≡ Some greatest_time) (leb (greatest_time + j) greatest_time) (λ e. ap Some (let h = leb-true (greatest_time + j) greatest_time e in omega arith)) (λ _. refl))

    sums : (a b c : Time) → (later (later a b) c ≡ plain_later (plain_later a b) c) ⊎ (later (later a b) c ≡ Some greatest_time)
    sums None b c = inl refl
    sums (Some m) None c = inl refl
    sums (Some m) (Some n) c = by_test (λ (k : ℕ). (later (Some k) c ≡ plain_later (Some (m + n)) c) ⊎ (later (Some k) c ≡ Some greatest_time)) (leb (m + n) greatest_time) (λ _. sum (Some (m + n)) c) (λ _. greatest (m + n) c)

    more : (n : ℕ) → (one_more n ≡ n + 1) ⊎ (greatest_value ≤ one_more n)
    more n = by_test (λ (k : ℕ). (k ≡ n + 1) ⊎ (greatest_value ≤ k)) (ltb n greatest_value) (λ _. inl refl) (λ e. inr (ltb-false n greatest_value e))

uncapped : (n : ℕ) (w : Time) → NotAfter n w → n < greatest_time → Uncapped w
uncapped n None h k = tt
uncapped n (Some a) h k = omega arith

-- no number of a valid partition is one that a cap made
pub numbers_plain : (frame t : ℕ) (p : Partition) → Valid frame t p → t ≤ time_limit → PlainNumbers p
numbers_plain frame t p v ends = record {
  times = λ id b.
      let u = times_bounded _ (process id p) (v.each_process id b) ends in
      let s = (process id p).times in
      record { release = uncapped latest_wake s.release u.release (omega arith); deadline = uncapped latest_deadline s.deadline u.deadline (omega arith); wake = uncapped latest_wake s.wake u.wake (omega arith) };
  values = λ k b. let u = v.objects.semaphores.each k b in omega (arith, u.value, u.max.1);
  level = either (eqb p.level level_limit)
      (λ e. le-leb level_limit p.level (omega (arith, eqb-true p.level level_limit e)) ∙ sym e)
      (λ e. lt-leb level_limit p.level (let ne = eqb-false p.level level_limit e in omega (arith, v.lock.few)) ∙ sym e);
}

-- the sums of a call, each said by itself
pub later_uncapped : (m n : ℕ) (a b : Time) → NotAfter m a → NotAfter n b → m + n ≤ greatest_time → later a b ≡ plain_later a b
later_uncapped m n None b ha hb h = refl
later_uncapped m n (Some a) None ha hb h = refl
later_uncapped m n (Some a) (Some b) ha hb h = later_plain a b (omega arith)

-- the sums of the start rule for a periodic process, delay n
module _ (c : Context) (p : Partition) (k : SoundContext c p) (x : Process) (l : LastingIn c.frame x) (n : ℕ) (short : n ≤ duration_limit) where
  cap : NotAfter duration_limit x.given.capacity
  cap = capacity_bound x.given.period x.given.capacity l.given.capacity

  pub release_point_plain : later (Some c.release) (Some n) ≡ Some (c.release + n)
  release_point_plain = later_plain c.release n (omega (arith, k.time, k.near, k.frame.1))

  pub release_deadline_plain : later (later (Some c.release) (Some n)) x.given.capacity ≡ plain_later (Some (c.release + n)) x.given.capacity
  release_deadline_plain = ap (λ at. later at x.given.capacity) release_point_plain ∙ later_uncapped (c.release + n) duration_limit (Some (c.release + n)) x.given.capacity (omega arith) cap (omega (arith, k.time, k.near, k.frame.1))

-- PERIODIC_WAIT of a READY process
module _ (s : Setting) (x : Process) (h : SoundProcess s x) (normal : s.normal ≡ true) (k : ready x ≡ true) (ends : s.time ≤ time_limit) (p : periodic x ≡ true) where
  some : is_never x.given.period ≡ false
  some = not-true (is_never x.given.period) p

  r_bound : NotAfter time_limit x.times.release
  r_bound = at_most_not_after time_limit x.times.release (at_most_more s.time time_limit x.times.release (at_most_released s.time x.given.period x.times.release some (ready_released s x h normal k)) ends)

  p_bound : NotAfter duration_limit x.given.period
  p_bound = period_not_after s.frame x.given.period h.lasting.given.period

  pub next_plain : later x.times.release x.given.period ≡ plain_later x.times.release x.given.period
  next_plain = later_uncapped time_limit duration_limit x.times.release x.given.period r_bound p_bound (omega arith)

  pub next_deadline_plain : later (later x.times.release x.given.period) x.given.capacity ≡ plain_later (plain_later x.times.release x.given.period) x.given.capacity
  next_deadline_plain =
      later_uncapped latest_wake duration_limit (later x.times.release x.given.period) x.given.capacity
      (later_not_after time_limit duration_limit latest_wake x.times.release x.given.period r_bound p_bound (omega arith))
      (capacity_bound x.given.period x.given.capacity h.lasting.given.capacity) (omega arith)
      ∙ ap (λ at. plain_later at x.given.capacity) next_plain

-- ---------------------------------------------------------------- the table
pub table_plain : (T : Table) → SoundTable T → (t : ℕ) → t ≤ time_limit → PlainTable T t
unfolding lookup next_start release_after
table_plain T s t ends = record {
  frame = s.frame.0;
  current = λ u. rw (frame_some T s);
  starts = λ u f. rw (frame_some T s);
  count = rw (le-leb T.size partition_limit s.size.1);
  queuing = queuing_plain T s;
  channels = s.channel_count;
  flagged = s.flagged;
  release = release_plain T s t ends;
}

-- ---------------------------------------------------------------- the event's numbers
-- no limit is above the greatest time, so what a field loses no rule admits
pub lossless : (z : ℤ) → Lossless z
lossless z = record { number = λ n h e. rw (e, le-leb n greatest_time h); minus_one = λ e. rw e; between = within z; is_number = number z; is_minus_one = minus z; unknown = named z }
  where
    within : (z : ℤ) (low high : ℕ) → high ≤ greatest_time → between low high (field z) ≡ plain_between low high z
    within (pos n) low high h = by_test (λ (f : Field). between low high f ≡ (leb low n && leb n high)) (leb n greatest_time)
        (λ _. refl)
        (λ e. rw (lt-leb n high (omega (arith, leb-false n greatest_time e))) (sym (and-false (leb low n))))
    within (negsuc zero) low high h = refl
    within (negsuc (suc n)) low high h = refl

    number : (z : ℤ) (k : ℕ) → k ≤ greatest_time → is_number k (field z) ≡ plain_number k z
    number (pos n) k h = by_test (λ (f : Field). is_number k f ≡ eqb n k) (leb n greatest_time)
        (λ _. refl)
        (λ e. sym (ne_eqb n k (λ q. omega (arith, leb-false n greatest_time e))))
    number (negsuc zero) k h = refl
    number (negsuc (suc n)) k h = refl

    minus : (z : ℤ) → is_minus_one (field z) ≡ plain_minus_one z
    minus (pos n) = by_test (λ (f : Field). is_minus_one f ≡ false) (leb n greatest_time) (λ _. refl) (λ _. refl)
    minus (negsuc zero) = refl
    minus (negsuc (suc n)) = sym (ne_eqb (suc n) 0 (λ q. omega arith))

    named : (z : ℤ) (count : ℕ) → count ≤ greatest_time → unknown (number_of (field z)) count ≡ plain_unknown z count
    named (pos n) count h = by_test (λ (f : Field). unknown (number_of f) count ≡ unknown n count) (leb n greatest_time)
        (λ _. refl)
        (λ e. let k = leb-false n greatest_time e in rw (lt-ltb count n (omega arith)) (sym (or-true (eqb n 0))))
    named (negsuc zero) count h = refl
    named (negsuc (suc n)) count h = refl

-- ---------------------------------------------------------------- every event of every reached record
-- the partition that an event names: 13 where there is none such
event_partition : (m : Module) (r : Request) → (decision m r ≡ Refused 13) ⊎ (number_of r.partition ≤ m.table.size)
unfolding decision checked
event_partition m r = either (malformed m.table r)
    (λ e. inl (rw e))
    (λ e. inr (in_limits 0 m.table.size r.partition (not-false _ (or_left (not (between 0 m.table.size r.partition)) _ (or_right (eqb m.table.size 0) _ e)))).1)

-- a tick of each partition finds its processes in their places
ticks_in_place : (m : Module) → SoundModule m → (i : ℕ) → i < m.table.size → (part m i).process_count ≤ length (part m i).processes
ticks_in_place m s i h = let n = (s.each_partition i h).lists.numbered in omega (arith, n.few, n.size)

module _ (m : Module) (s : SoundModule m) (e : EventT) where
  abbrev r : Request
  r = request_of e

  applied_plain : module_after m (number_of r.partition) (decision m r) ≡ plain_after m (number_of r.partition) (decision m r)
  applied_plain =
      by_event m r (λ (d : Decision). module_after m (number_of r.partition) d ≡ plain_after m (number_of r.partition) d)
      (λ n _. refl)
      (λ _ _ _. tick_plain m s)
      (λ q. decided_plain m s r q (made m s r q) (made_sound m s r q) (made_body m s r q))

  abbrev after : Module
  after = module_after m (number_of r.partition) (decision m r)

  after_sound : SoundModule after
  after_sound = decided_sound m s r

  sound_plain : NoBoundActs m e
  unfolding step
  sound_plain = record {
    numbers = (lossless e.partition, lossless e.call, lossless e.a, lossless e.b, lossless e.c, lossless e.e);
    table = table_plain m.table s.table m.t s.time;
    partition = event_partition m r;
    partitions = omega (arith, s.partitions_size, s.table.size.1);
    reads = λ i h. reads_plain m.table.frame m.t (part m i) (s.each_partition i h);
    places = by_event m r (AllInPlace m (number_of r.partition)) (λ n _. tt) (λ _ _ _. ticks_in_place m s) (λ q. decided_in_place m s r q (made m s r q) (made_sound m s r q) (made_body m s r q));
    steps = rw applied_plain;
    caps = caps_seen;
    uncapped = λ i h. numbers_plain after.table.frame after.t (part after i) (after_sound.each_partition i (rw (decided_table m (number_of r.partition) (decision m r)) h)) after_sound.time;
  }

pub empty_refused : (e : EventT) → step empty_module e ≡ record { state = empty_module; answer = record { code = 13; value = 0; extra = Some 0; t = 0; current = 0; running = 0 } }
unfolding step decision checked empty_module empty_table lookup
empty_refused e = by_test (λ (n : ℕ). ◌≡◌ {A = Stepped} (record { state = empty_module; answer = record { code = 13; value = 0; extra = Some 0; t = 0; current = 0; running = n } }) (record { state = empty_module; answer = record { code = 13; value = 0; extra = Some 0; t = 0; current = 0; running = 0 } })) (sees (request_of e) 0) (λ _. refl) (λ _. refl)

-- Law. At every event of every reached record no bound acts; the empty record apart, which answers 13 and stays.
pub no_bound_acts : (m : Module) → Reached m → (e : EventT) → EmptyStays m e ⊎ NoBoundActs m e
no_bound_acts m h e = ⊎_elim (λ (z : m ≡ empty_module). inl (record { empty = z; refused = rw z (empty_refused e) })) (λ (s : SoundModule m). inr (sound_plain m s e)) (reached_valid m h)
