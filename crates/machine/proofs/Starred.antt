-- The mistakes to shut out, proved, and the whole list of starred cases. Assumes nothing.
use Rattle.machine.specs.Mode.{mode_numbered}
use Rattle.machine.proofs.ModeNumbers.{numbered_back}
use Rattle.machine.specs.Mode.{mode_number}
use Rattle.std.specs.Prelude.{Option}
use Prim.Native.Nat.{ℕ, zero, suc, ◌+◌, ◌-◌, ◌*◌, ◌≤◌, ◌<◌}
use mathlib.Core.Path.{◌≡◌, refl, sym, ap, ◌∙◌}
use mathlib.Core.Bool.{Bool, true, false, cond, not, ◌||◌, and-false, or-true, ◌&&◌}
use mathlib.Core.List.{List, [], ◌∷◌, ◌++◌, map}
use mathlib.Core.Logic.{⊎_elim}
use native.Mathlib.Omega.{arith}
use lib.IntN.{pos}
use lib.ListN.{get_or, take}
use lib.Seq.{get_or-set_same, get_or-set_other}
use lib.Dec.{eqb, ltb}
use borrow.Author.Tests.{eqb-true, eqb-false, eq-eqb, ne_eqb, le-leb, lt-ltb, not-true}
use Rattle.machine.specs.declared.Process.{Process}
use Rattle.machine.specs.declared.Partition.{Partition}
use Rattle.machine.specs.declared.Event.{Event as EventT}
use Rattle.machine.specs.declared.Module.{Module}
use Rattle.machine.specs.declared.Port.{Port}
use Rattle.machine.specs.declared.Message.{Message}
use Rattle.machine.specs.declared.Queue.{Queue}
use Rattle.machine.specs.declared.Transfer.{Transfer}
use Rattle.machine.specs.declared.Decision.{Decision}
use Rattle.machine.specs.declared.Decision.TheVariants.{Written, Ticked, Restarted, Passed}
use Rattle.machine.specs.declared.Field.{Field}
use Rattle.machine.specs.declared.Field.TheVariants.{Number, MinusOne, Other}
use Rattle.machine.specs.declared.Wait.{Wait}
use Rattle.machine.specs.declared.Wait.TheVariants.{None as NoWait, Normal, Delay, Timed, Period, Semaphore, Event, Sending, Receiving, Blackboard, Source, Destination}
use Rattle.machine.specs.Time.{Time}
use Rattle.std.specs.Prelude.{None, Some}
use Rattle.machine.specs.Limits.{time_limit, channel_limit, mode_limit}
use Rattle.machine.specs.Fields.{field, request_of, is_number, number_of}
use Rattle.machine.specs.Ids.{members, kept}
use Rattle.machine.specs.Messages.{no_queue, held, ends_wait}
use Rattle.machine.specs.Process.{due, object, carried, on_object, ready, only_marked, wait_ended, woken, expired, ticked, waits_for_nothing}
use Rattle.machine.specs.Partition.{process, semaphore, event, waits_on, waiters, tick_partition, nothing_created}
use Rattle.machine.specs.Services.{services, call_decision}
use Rattle.machine.specs.Decisions as D
use Rattle.machine.specs.Calls as C
use Rattle.machine.specs.Module as M
use Rattle.machine.specs.Ticks as Ti
use Rattle.machine.specs.Channels as Ch
use Rattle.machine.specs.Places as Pl
use Rattle.machine.specs.Step as St
use Rattle.machine.specs.Theorems.Events.{own, call_by, tick, Gives, Calling}
use Rattle.machine.specs.Theorems.Starred.{WaitEnded, ReadyUnmarked, Ticks, Mistakes, Starred}
use Rattle.machine.specs.Theorems.Valid.{Between, SoundModule, contains}
use Rattle.machine.specs.Theorems.Plain.{let_go}
use Rattle.machine.proofs.Tests.{by_test, and_left, and_right}
use Rattle.machine.proofs.Bounds.{not_so}
use Rattle.machine.proofs.Dispatch.{by_event, by_decision, ticks_decided}
use Rattle.machine.proofs.Bodies.{FromSource, Sends, Receives, OnQueue, Bodily}
use Rattle.machine.proofs.EveryCall.{call_body}
use Rattle.machine.proofs.Refusals.{refused_same, places, call_in_range}
use Rattle.machine.proofs.Keeping.{each_process_holds}
use Rattle.machine.proofs.Kept.{waiters_exact, nothing_valid}
use Rattle.machine.proofs.Lists.{held_queue_of}
use Rattle.machine.proofs.Restarts.{refilled_messages, refilled_queue, refilled_queue_other, refilled_served, refilled_part_other}
use Rattle.machine.proofs.Reached.{reached_valid, valid_sound, tick_each, part_sound, erased_sound, Fills, queuing_plain}
use Rattle.machine.proofs.Queues.{signal_first_holds, set_event_holds}
use Rattle.machine.proofs.Calling.{field_number, from_zero, number_is, number_of_holds, calling_sound, calling_place, calling_valid, gives}
use Rattle.machine.proofs.Worked.{worked}
use Rattle.machine.proofs.EachCall.{kept_at}
use Rattle.machine.proofs.Reasons.{waits}
use Rattle.machine.proofs.Corners.{releases_at, corners}

-- ---------------------------------------------------------------- a neighbour's running process
unseen : (m : Module) (e : EventT) → St.sees (request_of e) (St.step m e).answer.current ≡ false → (St.step m e).answer.running ≡ 0
unfolding St.step
unseen m e h = rw h

or_both : (a b : Bool) → a ≡ false → b ≡ false → (a || b) ≡ false
or_both a b p q = rw (p, q)

answer_current : (m : Module) (e : EventT) → (St.step m e).answer.current ≡ M.current (St.step m e).state
unfolding St.step
answer_current m e = refl

neighbour : (m : Module) (e : EventT) → (e.partition ≡ pos 0 → ⊥) → (e.partition ≡ pos (M.current (St.step m e).state) → ⊥) → (St.step m e).answer.running ≡ 0
neighbour m e none other =
    unseen m e (or_both (is_number 0 (field e.partition)) (is_number (St.step m e).answer.current (field e.partition))
    (not_so _ (λ t. none (number_is e.partition 0 t))) (not_so _ (λ t. other (number_is e.partition _ t ∙ ap pos (answer_current m e)))))

-- an 8 is given to a partition that is neither 0 nor current, and leaves the record as it is
eight_unseen : (m : Module) (e : EventT) → (St.step m e).answer.code ≡ 8 → St.sees (request_of e) (M.current m) ≡ false
eight_unseen m e h =
    let q = sym (places m e).eight ∙ eq-eqb _ _ h in
    let r = and_right (not (Pl.malformed m.table (request_of e))) _ q in
    go (request_of e).partition (and_left (not (eqb (number_of (request_of e).partition) 0)) _ r) (and_right (not (eqb (number_of (request_of e).partition) 0)) _ r)
  where
    go : (f : Field) → not (eqb (number_of f) 0) ≡ true → not (eqb (M.current m) (number_of f)) ≡ true → (is_number 0 f || is_number (M.current m) f) ≡ false
    go (Number n) z c = rw (not-true (eqb n 0) z) (ne_eqb n (M.current m) (λ q. eqb-false (M.current m) n (not-true (eqb (M.current m) n) c) (sym q)))
    go MinusOne z c = refl
    go Other z c = refl

neighbour_in_eight_holds : (m : Module) (e : EventT) → (St.step m e).answer.code ≡ 8 → (St.step m e).answer.running ≡ 0
neighbour_in_eight_holds m e h =
    let same : (St.step m e).state ≡ m = refused_same m e (λ z. omega (arith, h)) (λ z. omega (arith, h)) in
    unseen m e (ap (St.sees (request_of e)) (answer_current m e ∙ ap M.current same) ∙ eight_unseen m e h)

-- ---------------------------------------------------------------- messages
-- erasing messages into partition k leaves those of channels into another
pub erased_other : (k n : ℕ) (m : Module) (i : ℕ) → eqb (M.channel m.table i).destination k ≡ false → M.message (Ch.erased_to k n m) i ≡ M.message m i
erased_other k n m i h = kept_at m.table k n m.messages i ∙ rw (h, and-false (ltb i n))

-- and those into partition k are gone
pub erased_own : (k n : ℕ) (m : Module) (i : ℕ) → i < n → (M.channel m.table i).destination ≡ k → M.message (Ch.erased_to k n m) i ≡ D.no_message
erased_own k n m i h d = kept_at m.table k n m.messages i ∙ rw (lt-ltb i n h, eq-eqb (M.channel m.table i).destination k d)

pub tick_messages : (n : ℕ) (m : Module) → (Ti.tick_to n m).messages ≡ m.messages
unfolding Ti.tick_to Ti.tick_at
tick_messages zero m = refl
tick_messages (suc n) m = tick_messages n m

restart_keeps : (m : Module) (e : EventT) (i : ℕ) → (e.call ≡ pos 21 → ⊥) → (e.partition ≡ pos (M.channel m.table i).destination → ⊥) → M.message (St.step m e).state i ≡ M.message m i
unfolding St.step
restart_keeps m e i w d =
    let r = request_of e in
    let k = number_of r.partition in
    let ticked : M.message (Ti.tick_module m) i ≡ M.message m i = ap (λ (l : _). get_or l i D.no_message) (tick_messages (Ti.partition_count m.table) (M.with_time (m.t + 1) m)) in
    by_event m r (λ (x : Decision). M.message (St.module_after m k x) i ≡ M.message m i)
    (λ n _. refl)
    (λ _ _ _. ticked)
    λ q.
    let x = Ch.port_of m k r in
    let u = call_in_range m.table r q.formed (ne_eqb k 0 q.some) in
    let made = call_decision (St.context_of m k) x (number_of r.call) r (M.part m (k - 1)) in
    let body = (call_body x (number_of r.call) (St.context_of m k) r (M.part m (k - 1)) u.0 u.1).is in
    by_decision m k made (λ (y : Module). M.message y i ≡ M.message m i) refl ticked refl
    (ap (λ (l : List (Option Message)). get_or l i D.no_message) (refilled_messages k channel_limit _) ∙ erased_other k channel_limit m i (ne_eqb _ k (λ s. d (number_of_holds e.partition q.some ∙ ap pos (sym s)))))
    (λ j y s. absurd (w (number_of_holds e.call (λ z. omega (arith, u.0)) ∙ ap pos (left_by x (number_of r.call) made j y s body).call)))
    (λ j a v s. by_test (λ (y : Module). M.message y i ≡ M.message m i) (ends_wait a) (λ _. refl) (λ _. refl))
  where
    left_by : (x : Port) (n : ℕ) (a : Decision) (j : ℕ) (y : Message) → a ≡ Written j y → Bodily x n a → FromSource x n j
    left_by x n a j y e b = rw e at b

-- the queues of messages
pub tick_queues : (n : ℕ) (m : Module) → (Ti.tick_to n m).queues ≡ m.queues
unfolding Ti.tick_to Ti.tick_at
tick_queues zero m = refl
tick_queues (suc n) m = tick_queues n m

restart_keeps_queue : (m : Module) (e : EventT) (i : ℕ) → (e.call ≡ pos 30 → ⊥) → (e.call ≡ pos 31 → ⊥) → (e.partition ≡ pos (M.channel m.table i).destination → ⊥) → M.queue (St.step m e).state i ≡ M.queue m i
unfolding St.step
restart_keeps_queue m e i no_send_holds no_receive_holds d =
    let r = request_of e in
    let k = number_of r.partition in
    let ticked : M.queue (Ti.tick_module m) i ≡ M.queue m i = ap (λ (l : List Queue). get_or l i no_queue) (tick_queues (Ti.partition_count m.table) (M.with_time (m.t + 1) m)) in
    by_event m r (λ (x : Decision). M.queue (St.module_after m k x) i ≡ M.queue m i)
    (λ n _. refl)
    (λ _ _ _. ticked)
    λ q.
    let x = Ch.port_of m k r in
    let u = call_in_range m.table r q.formed (ne_eqb k 0 q.some) in
    let made = call_decision (St.context_of m k) x (number_of r.call) r (M.part m (k - 1)) in
    let body = (call_body x (number_of r.call) (St.context_of m k) r (M.part m (k - 1)) u.0 u.1).is in
    let call_is : e.call ≡ pos (number_of r.call) = number_of_holds e.call (λ z. omega (arith, u.0)) in
    let out : eqb (M.channel m.table i).destination k ≡ false = ne_eqb _ k (λ s. d (number_of_holds e.partition q.some ∙ ap pos (sym s))) in
    by_decision m k made (λ (y : Module). M.queue y i ≡ M.queue m i) refl ticked refl
    (refilled_queue_other k channel_limit _ i (rw out (and-false (Ch.queuing_at m.table i))))
    (λ j y s. refl)
    (λ j a v s. ⊎_elim
    (λ (h : Sends x (number_of r.call) a v). absurd (no_send_holds (call_is ∙ ap pos h.call)))
    (λ (h : Receives x (number_of r.call) a v). absurd (no_receive_holds (call_is ∙ ap pos h.call)))
    (passed_by x (number_of r.call) made j a v s body).end)
  where
    passed_by : (x : Port) (n : ℕ) (y : Decision) (j : ℕ) (a : Transfer) (v : ℕ) → y ≡ Passed j a v → Bodily x n y → OnQueue x n j a v
    passed_by x n y j a v e b = rw e at b

-- ---------------------------------------------------------------- waits
-- the wait that names semaphore j, event j
semaphore_is : (w : Wait) (j : ℕ) → j ≤ 255 → object w ≡ object (Semaphore j) → w ≡ Semaphore j
semaphore_is NoWait j h e = absurd (omega arith)
semaphore_is Normal j h e = absurd (omega arith)
semaphore_is Delay j h e = absurd (omega arith)
semaphore_is Timed j h e = absurd (omega arith)
semaphore_is Period j h e = absurd (omega arith)
semaphore_is (Semaphore i) j h e = ap Semaphore (omega arith)
semaphore_is (Event i) j h e = absurd (omega arith)
semaphore_is (Sending i m) j h e = absurd (omega arith)
semaphore_is (Receiving i) j h e = absurd (omega arith)
semaphore_is (Blackboard i) j h e = absurd (omega arith)
semaphore_is (Source i m) j h e = absurd (omega arith)
semaphore_is (Destination i) j h e = absurd (omega arith)

suspended_not_ready : (x : Process) → x.suspended ≡ true → ready x ≡ false
suspended_not_ready x h = rw h (and-false x.started)

-- ---------------------------------------------------------------- the tick
-- what a deadline leaves as it is
record Past (x y : Process) : Type 0 where
  wake : y.times.wake ≡ x.times.wake
  wait : y.wait ≡ x.wait
  code_is : y.code ≡ x.code
  mark : y.suspended ≡ x.suspended
  started : y.started ≡ x.started

module _ (t : ℕ) (x : Process) where
  expired_past : Past x (expired t x)
  unfolding expired
  expired_past = by_test (Past x) (due t x.times.deadline)
      (λ _. record { wake = refl; wait = refl; code_is = refl; mark = refl; started = refl })
      (λ _. record { wake = refl; wait = refl; code_is = refl; mark = refl; started = refl })

  woken_deadline : (woken t x).times.deadline ≡ x.times.deadline
  unfolding woken
  woken_deadline = by_test (λ (y : Process). y.times.deadline ≡ x.times.deadline) (due t x.times.wake) (λ _. by_test (λ (y : Process). y.times.deadline ≡ x.times.deadline) (only_marked x) (λ _. refl) (λ _. refl)) (λ _. refl)

  -- a process that waits keeps its mark
  woken_marked : waits_for_nothing x.wait ≡ false → (woken t x).suspended ≡ x.suspended
  unfolding woken
  woken_marked w = by_test (λ (y : Process). y.suspended ≡ x.suspended) (due t x.times.wake) (λ _. rw w) (λ _. refl)

  come : (a : Time) (n : ℕ) → a ≡ Some n → n ≤ t → due t a ≡ true
  come a n e h = rw e (le-leb n t h)

  woken_is : (n : ℕ) (code : ℕ) → x.times.wake ≡ Some n → n ≤ t → waits_for_nothing x.wait ≡ false → cond (on_object x) 6 0 ≡ code → woken t x ≡ wait_ended code x
  unfolding woken
  woken_is n code e h w c = rw (come x.times.wake n e h, w, c)

-- what a tick makes of one process
module _ (t : ℕ) (x : Process) where
  wait_over_holds : (n : ℕ) (code : ℕ) → x.times.wake ≡ Some n → n ≤ t → waits_for_nothing x.wait ≡ false → cond (on_object x) 6 0 ≡ code → WaitEnded code x (ticked t x)
  wait_over_holds n code e h w c =
      let y = woken_is t x n code e h w c in
      let k = expired_past t (woken t x) in
      record {
        wake = k.wake ∙ ap (λ (z : Process). z.times.wake) y;
        wait = k.wait ∙ ap (λ (z : Process). z.wait) y;
        code_is = k.code_is ∙ ap (λ (z : Process). z.code) y;
        mark = k.mark ∙ ap (λ (z : Process). z.suspended) y;
        started = k.started ∙ ap (λ (z : Process). z.started) y;
      }

  suspension_over : (n : ℕ) → x.times.wake ≡ Some n → n ≤ t → x.wait ≡ NoWait → x.suspended ≡ true → ((ticked t x).suspended ≡ false) × ((ticked t x).code ≡ 6) × ((ticked t x).times.wake ≡ None)
  unfolding woken
  suspension_over n e h w s =
      let k = expired_past t (woken t x) in
      let d = come t x x.times.wake n e h in
      (k.mark ∙ rw (d, w, s), k.code_is ∙ rw (d, w, s), k.wake ∙ rw (d, w, s))

  deadline_over : (n : ℕ) → x.times.deadline ≡ Some n → n ≤ t → ((ticked t x).missed ≡ true) × ((ticked t x).times.deadline ≡ None)
  unfolding expired
  deadline_over n e h = let d : due t (woken t x).times.deadline ≡ true = come t x (woken t x).times.deadline n (woken_deadline t x ∙ e) h in (rw d, rw d)

  ticks_of : Ticks t x (ticked t x)
  ticks_of = record {
    semaphore = λ w j e h r. wait_over_holds w 6 e h (rw r) (rw (r, ne_eqb (256 * 1 + j) 0 (λ z. omega arith)));
    event = λ w j e h r. wait_over_holds w 6 e h (rw r) (rw (r, ne_eqb (256 * 2 + j) 0 (λ z. omega arith)));
    sending = λ w j n e h r. wait_over_holds w 6 e h (rw r) (rw (r, ne_eqb (256 * 3 + j) 0 (λ z. omega arith)));
    receiving = λ w j e h r. wait_over_holds w 6 e h (rw r) (rw (r, ne_eqb (256 * 4 + j) 0 (λ z. omega arith)));
    blackboard = λ w j e h r. wait_over_holds w 6 e h (rw r) (rw (r, ne_eqb (256 * 5 + j) 0 (λ z. omega arith)));
    source = λ w j n e h r. wait_over_holds w 6 e h (rw r) (rw (r, ne_eqb (256 * 6 + j) 0 (λ z. omega arith)));
    destination = λ w j e h r. wait_over_holds w 6 e h (rw r) (rw (r, ne_eqb (256 * 7 + j) 0 (λ z. omega arith)));
    delay = λ w e h r. wait_over_holds w 0 e h (rw r) (rw r);
    timed = λ w e h r. wait_over_holds w 0 e h (rw r) (rw r);
    period = λ w e h r. wait_over_holds w 0 e h (rw r) (rw r);
    suspension = suspension_over;
    deadline = deadline_over;
    marked = λ w s. suspended_not_ready (ticked t x) ((expired_past t (woken t x)).mark ∙ woken_marked t x (waits x.wait w) ∙ s);
  }

-- a tick is an event of its own
tick_formed : (m : Module) → 1 ≤ m.table.size → Pl.malformed m.table (request_of tick) ≡ false
unfolding Pl.stray_field
tick_formed m h = rw (ne_eqb m.table.size 0 (λ z. omega arith), from_zero m.table.size)

module _ (m : Module) (u : SoundModule m) (room : m.t < time_limit) (k id : ℕ) (b : Between 1 m.table.size k) (normal : mode_number (own m k).mode ≡ 3) (c : Between 1 (own m k).process_count id) where
  ticked_process : process id (own (Ti.tick_module m) k) ≡ ticked (m.t + 1) (process id (own m k))
  unfolding tick_partition
  ticked_process =
      ap (process id) (tick_each m u (k - 1) (omega (arith, b.0, b.1)))
      ∙ rw (eq-eqb (mode_number (own m k).mode) 3 normal) (each_process_holds (ticked (m.t + 1)) (own m k) (u.each_partition (k - 1) (omega (arith, b.0, b.1))).lists id c)

  never_frozen : ((St.step m tick).answer.code ≡ 0) × Ticks (m.t + 1) (process id (own m k)) (process id (own (St.step m tick).state k))
  unfolding St.step
  never_frozen =
      let d : St.decision m (request_of tick) ≡ Ticked = ticks_decided m (request_of tick) (tick_formed m (omega (arith, b.0, b.1))) refl room in
      (rw d, rw (d, ticked_process) (ticks_of (m.t + 1) (process id (own m k))))

-- ---------------------------------------------------------------- calls
module _ (m : Module) (k : ℕ) (u : SoundModule m) (h : Calling m k) where
  -- ---------------------------------------------------------------- modes 0, 1, 2
  -- the caller's partition then: nothing refills it
  pub own_restarted : (mode : ℕ) → mode ≤ mode_limit → own (St.restarted k (nothing_created mode) m) k ≡ nothing_created mode
  own_restarted mode low =
      let p = nothing_created mode in
      let place = calling_place m k u h in
      let erased = Ch.erased_to k channel_limit m in
      let w = part_sound erased (erased_sound k channel_limit m (omega arith) u) (k - 1) place p (nothing_valid m.table.frame m.t mode low) in
      refilled_part_other k (M.with_part (k - 1) p erased) w channel_limit (k - 1) place (λ i f z. let c = u.table.each_channel i f.there in c.apart (omega (arith, c.source.0, c.destination.0, f.into)))
      ∙ get_or-set_same m.partitions (k - 1) p M.no_partition (omega (arith, place, u.partitions_size, u.table.size.1))

  module _ (mode : ℕ) (low : mode ≤ 2) (warm : mode ≡ 2 → mode_number (own m k).mode ≡ 1 → ⊥) where
    pub restart_gives : Gives m (call_by k 1 (pos mode) (pos 0) (pos 0) (pos 0)) 0 0 (Some 0) (St.restarted k (nothing_created mode) m)
    unfolding call_decision services Pl.stray_field C.set_mode D.checked
    restart_gives = rw (numbered_back mode (omega arith)) at
        (gives m k u h 1 (pos mode) (pos 0) (pos 0) (pos 0) (omega arith) (omega arith) refl (Restarted (mode_numbered mode))
        (rw (field_number mode (omega arith), from_zero mode, le-leb mode 3 (omega arith), ne_eqb mode 3 (λ e. omega arith), not_warm)))
      where
        not_warm : (eqb mode 2 && eqb (mode_number (own m k).mode) 1) ≡ false
        not_warm = not_so _ (λ t. warm (eqb-true mode 2 (and_left (eqb mode 2) _ t)) (eqb-true (mode_number (own m k).mode) 1 (and_right (eqb mode 2) _ t)))

    restart_is : let e = call_by k 1 (pos mode) (pos 0) (pos 0) (pos 0) in
        ((St.step m e).answer.code ≡ 0) × (own (St.step m e).state k ≡ nothing_created mode)
        × ((i : ℕ) → i < m.table.channel_count → (M.channel m.table i).destination ≡ k → M.message (St.step m e).state i ≡ None)
        × ((i : ℕ) → ((M.channel m.table i).destination ≡ k → ⊥) → M.message (St.step m e).state i ≡ M.message m i)
        × ((i : ℕ) → i < m.table.channel_count → ((M.channel m.table i).size ≡ 0 → ⊥) → (M.channel m.table i).destination ≡ k
        → let c = M.channel m.table i in
        let p = own m c.source in
        held (M.queue (St.step m e).state i) ≡ map (λ id. carried (process id p)) (take c.size (waiters (object (Source (i + 1) 0)) p)))
        × ((i : ℕ) → ((M.channel m.table i).destination ≡ k → ⊥) → M.queue (St.step m e).state i ≡ M.queue m i)
        × ((i id : ℕ) → i < m.table.channel_count → ((M.channel m.table i).size ≡ 0 → ⊥) → (M.channel m.table i).destination ≡ k
        → let c = M.channel m.table i in
        let p = own m c.source in
        contains id (take c.size (waiters (object (Source (i + 1) 0)) p)) ≡ true → process id (own (St.step m e).state c.source) ≡ let_go (process id p))
    restart_is =
        let g = restart_gives in
        let p = nothing_created mode in
        let place = calling_place m k u h in
        let erased = Ch.erased_to k channel_limit m in
        let q = M.with_part (k - 1) p erased in
        let w = part_sound erased (erased_sound k channel_limit m (omega arith) u) (k - 1) place p (nothing_valid m.table.frame m.t mode (omega arith)) in
        let messages = refilled_messages k channel_limit q in
        let fills : (i : ℕ) → i < m.table.channel_count → ((M.channel m.table i).size ≡ 0 → ⊥) → (M.channel m.table i).destination ≡ k → Fills q k i = λ i b full d. record { there = b; few = omega (arith, b, u.table.channel_count); kind = queuing_plain m.table u.table i b ∙ lt-ltb 0 (M.channel m.table i).size (omega (arith, full)); into = d } in
        let source : (i : ℕ) → i < m.table.channel_count → (M.channel m.table i).destination ≡ k → M.part q ((M.channel m.table i).source - 1) ≡ own m (M.channel m.table i).source = λ i b d.
        let c = u.table.each_channel i b in
        get_or-set_other m.partitions (k - 1) ((M.channel m.table i).source - 1) p M.no_partition (λ z. c.apart (omega (arith, c.source.0, c.destination.0, d))) in (
          g.code_is,
          ap (λ (n : Module). own n k) g.state ∙ own_restarted mode (omega arith),
          λ i b d. ap (λ (n : Module). M.message n i) g.state ∙ ap (λ (l : List (Option Message)). get_or l i D.no_message) messages ∙ (erased_own k channel_limit m i (omega (arith, u.table.channel_count)) d),
          λ i ne. ap (λ (n : Module). M.message n i) g.state ∙ ap (λ (l : List (Option Message)). get_or l i D.no_message) messages ∙ erased_other k channel_limit m i (ne_eqb _ k ne),
          λ i b full d.
              let f = fills i b full d in
              ap (λ (n : Module). held (M.queue n i)) g.state ∙ ap held (refilled_queue k q w i f channel_limit f.few) ∙ held_queue_of _ ∙ ap (λ (x : Partition). map (λ id. carried (process id x)) (take (M.channel m.table i).size (waiters (object (Source (i + 1) 0)) x))) (source i b d),
          λ i ne. ap (λ (n : Module). M.queue n i) g.state ∙ refilled_queue_other k channel_limit q i (rw (ne_eqb _ k ne) (and-false (Ch.queuing_at m.table i))),
          λ i id b full d first.
              let f = fills i b full d in
              let same = source i b d in
              ap (λ (n : Module). process id (own n (M.channel m.table i).source)) g.state ∙ refilled_served k q w i f channel_limit f.few id (rw same first) ∙ ap (λ (x : Partition). let_go (process id x)) same,
        )

  -- ---------------------------------------------------------------- SIGNAL
  module _ (j id : ℕ) (before after : List ℕ) (b : Between 1 (own m k).semaphore_count j) (below : (semaphore j (own m k)).value ≡ (semaphore j (own m k)).max → ⊥)
      (split : members (own m k).waiting ≡ before ++ (id ∷ after)) (w : (process id (own m k)).wait ≡ Semaphore j)
      (first : (y : ℕ) → contains y before ≡ true → (process y (own m k)).wait ≡ Semaphore j → ⊥) where
    few : j ≤ 255
    few = omega (arith, b.1, (calling_valid m k u h).objects.semaphores.numbered.few)

    -- it is the first of the queue
    queue_is : waiters (object (Semaphore j)) (own m k) ≡ id ∷ kept (waits_on (object (Semaphore j)) (own m k)) after
    unfolding waiters kept contains
    queue_is = rw split (go before first)
      where
        go : (l : List ℕ) → ((y : ℕ) → contains y l ≡ true → (process y (own m k)).wait ≡ Semaphore j → ⊥) → kept (waits_on (object (Semaphore j)) (own m k)) (l ++ (id ∷ after)) ≡ id ∷ kept (waits_on (object (Semaphore j)) (own m k)) after
        go [] f = rw (w, eq-eqb (256 + j) (256 + j) refl)
        go (y ∷ l) f =
            let off : waits_on (object (Semaphore j)) (own m k) y ≡ false = ne_eqb (object (process y (own m k)).wait) (object (Semaphore j)) (λ q. f y (rw (eq-eqb y y refl)) (semaphore_is (process y (own m k)).wait j few q)) in
            rw off (go l (λ z c. f z (rw c (or-true (eqb y z)))))

    signal_ends : let a = call_by k 16 (pos j) (pos 0) (pos 0) (pos 0) in
        let y = process id (own (St.step m a).state k) in
        ((St.step m a).answer.code ≡ 0) × (y ≡ let_go (process id (own m k))) × ReadyUnmarked (process id (own m k)) y
    signal_ends = let q = signal_first_holds m k u h j b below id _ queue_is in (q.0.code, q.0.ended, λ s. suspended_not_ready (process id (own (St.step m (call_by k 16 (pos j) (pos 0) (pos 0) (pos 0))).state k)) (ap (λ (x : Process). x.suspended) q.0.ended ∙ s))

  -- ---------------------------------------------------------------- SET_EVENT
  module _ (j id : ℕ) (b : Between 1 (own m k).event_count j) (w : (process id (own m k)).wait ≡ Event j) where
    set_ends : let a = call_by k 18 (pos j) (pos 0) (pos 0) (pos 0) in
        let y = process id (own (St.step m a).state k) in
        ((St.step m a).answer.code ≡ 0) × ((event j (own (St.step m a).state k)).up ≡ true) × (y ≡ let_go (process id (own m k))) × ReadyUnmarked (process id (own m k)) y
    set_ends =
        let q = set_event_holds m k u h j b in
        let there : contains id (waiters (object (Event j)) (own m k)) ≡ true = waiters_exact (own m k) (calling_valid m k u h).lists (object (Event j)) (λ z. omega arith) id ∙ rw w (eq-eqb (512 + j) (512 + j) refl) in
        let e = q.0.ended id there in
        (q.0.code, q.1, e, λ s. suspended_not_ready (process id (own (St.step m (call_by k 18 (pos j) (pos 0) (pos 0) (pos 0))).state k)) (ap (λ (x : Process). x.suspended) e ∙ s))

pub mistakes : Mistakes
mistakes = record {
  frozen = λ m reached room k id b. never_frozen m (valid_sound m (reached_valid m reached) (k - 1) (omega (arith, b.0, b.1))) room k id b;
  neighbour = neighbour;
  neighbour_in_eight = neighbour_in_eight_holds;
  periodic_deadline = λ m k h. releases_at m k (calling_sound m k h) h;
  signalled = λ m k h. signal_ends m k (calling_sound m k h) h;
  event_set = λ m k h. set_ends m k (calling_sound m k h) h;
  restart = restart_keeps;
  restart_queue = restart_keeps_queue;
  restarted = λ m k h. restart_is m k (calling_sound m k h) h;
}

-- every starred case, and every mistake to shut out
pub starred : Starred
starred = record { worked = worked; numbers = record { partition = refl; fields = refl; table = refl }; corners = corners; mistakes = mistakes }
