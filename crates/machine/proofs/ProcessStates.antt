-- The states of a process: which changes there are and by what alone, what a tick leaves, SUSPEND and RESUME. Assumes nothing.
use Rattle.machine.specs.Mode.{mode_number}
use Prim.Native.Nat.{ℕ, ◌+◌, ◌-◌, ◌≤◌}
use mathlib.Core.Path.{◌≡◌, refl, sym, ap, ◌∙◌}
use mathlib.Core.Bool.{Bool, true, false, cond, not, ◌&&◌, ◌||◌, and-false}
use mathlib.Core.List.{List, [], ◌∷◌}
use mathlib.Core.Logic.{◌⊎◌, inl, inr, ⊎_elim}
use native.Mathlib.Omega.{arith}
use lib.IntN.{pos}
use lib.Dec.{eqb}
use borrow.Author.Tests.{ne_eqb, eqb-true, eqb-false, leb-false, not-false}
use Rattle.machine.specs.declared.Process.{Process}
use Rattle.machine.specs.declared.Partition.{Partition}
use Rattle.machine.specs.declared.Event.{Event as EventT}
use Rattle.machine.specs.declared.Module.{Module}
use Rattle.machine.specs.declared.Wait.TheVariants.{None as NoWait, Delay, Period}
use Rattle.machine.specs.declared.Field.TheVariants.{Number}
use Rattle.std.specs.Prelude.{None}
use Rattle.machine.specs.Process.{ready, object, waits_for_nothing}
use Rattle.machine.specs.Partition.{normal_mode, tick_partition, process, running, waiters, waits_on, stored}
use Rattle.machine.specs.Module.{current}
use Rattle.machine.specs.Limits.{time_limit, call_limit}
use Rattle.machine.specs.Fields.{request_of, number_of}
use Rattle.machine.specs.Ticks.{tick_module}
use Rattle.machine.specs.Step.{module_after, step}
use Rattle.machine.specs.Theorems.Valid.{Between, contains, ListedIn, Valid, SoundModule, Reached}
use Rattle.machine.specs.Theorems.Plain.{ids_from, come, plain_between, plain_number, plain_stored, followed}
use Rattle.machine.specs.Theorems.Events.{own, call_by, Calling, Puts}
use Rattle.machine.specs.Theorems.EachCall.{Checks, with, periodic_at}
use Rattle.machine.specs.Theorems.ProcessStates.{OwnWait, StateChanges, TickLeaves, WaitStays, Suspensions, ProcessStates}
use Rattle.machine.specs.Theorems.EachProcess.{CallOf, CallBy, Tick, StartOf, StopOf, Erasure, Entry, Service, Becomes}
use Rattle.machine.proofs.Tests.{Passed, codes_in, and_left, and_right, or_left, or_right, not_both}
use Rattle.machine.proofs.Either.{either}
use Rattle.machine.proofs.Bounds.{so}
use Rattle.machine.proofs.Fields.{in_limits}
use Rattle.machine.proofs.Bodies.{body_refusal}
use Rattle.machine.proofs.Keeping.{process_stored, from_range}
use Rattle.machine.proofs.Calling.{calling_sound, calling_valid, own_after, puts_is}
use Rattle.machine.proofs.Reasons.{for_none}
use Rattle.machine.proofs.EachProcess.{tick_process, each_process_holds}
use Rattle.machine.proofs.Alike.{same_started, same_wait, same_mark, same_missed, not_created}
use Rattle.machine.proofs.Refusals.{places}
use Rattle.machine.proofs.Dispatch.{ticks_decided}
use Rattle.machine.proofs.Reached.{valid_sound, reached_valid}
use Rattle.machine.proofs.EachCall.{each_event, each_call}
use Rattle.machine.proofs.Account.{step_size}
use Rattle.machine.proofs.Kept.{waiters_exact}
use Rattle.machine.proofs.AtPartition.{ticked_part}
use Rattle.machine.proofs.Orders.{followed_same, stored_queue}
use Rattle.machine.proofs.Stored.{stored_plain}

-- ---------------------------------------------------------------- an accepted call
-- an event that is not refused has passed its checks
passed_checks : (m : Module) (e : EventT) (l : List (Bool × ℕ)) (A : Type 0) → codes_in body_refusal l ≡ true → (step m e).answer.code ≡ 0 → Checks m e l A → Passed l × A
unfolding Checks Passed
passed_checks m e [] A h z c = (tt, c)
passed_checks m e ((test, code) ∷ l) A h z c = either test
    (λ t. not_both _ (and_left (body_refusal code) _ h) (rw (sym (c.0 t).code_is ∙ z)))
    (λ t. let r = passed_checks m e l A (and_right (body_refusal code) _ h) z (c.1 t) in ((t, r.0), r.1))

-- a call that is answered with a number up to 7 comes to its body
module _ (m : Module) (h : Reached m) (e : EventT) (low : (step m e).answer.code ≤ 7) (k n : ℕ) (by : e.partition ≡ pos k) (call : e.call ≡ pos n) (some : n ≡ 0 → ⊥) where
  comes : Calling m k
  comes =
      let g = each_event m h e in
      let bad = sym g.thirteen ∙ ne_eqb (step m e).answer.code 13 (λ z. omega arith) in
      let P = m.table.size in
      let one : cond (plain_number 0 e.partition) (not (plain_number 0 e.call)) (plain_number 0 e.call) ≡ false = or_left _ _ (or_right (not (plain_between 0 call_limit e.call)) _ (or_right (not (plain_between 0 P e.partition)) _ (or_right (eqb P 0) _ bad))) in
      let from : eqb k 0 ≡ false = either (eqb k 0) (λ z. let w : not (eqb n 0) ≡ false = rw (by, call, z) at one in not_both _ (rw (ne_eqb n 0 some)) w) (λ z. z) in
      let eight = sym g.eight ∙ ne_eqb (step m e).answer.code 8 (λ z. omega arith) in
      let nine = sym g.nine ∙ ne_eqb (step m e).answer.code 9 (λ z. omega arith) in
      let now : eqb k (current m) ≡ true = not-false _ (rw (bad, by, from) at eight) in
      let can : (eqb (mode_number (own m k).mode) 0 || (eqb (mode_number (own m k).mode) 3 && eqb (running (own m k)) 0)) ≡ false = rw (bad, by, from, now) at nine in
      record {
        reached = h;
        some = let z = eqb-false k 0 from in omega arith;
        now = sym (eqb-true k (current m) now);
        active = eqb-false _ 0 (or_left _ _ can);
        runs = λ z w. not_both _ (rw (z, w)) (or_right (eqb (mode_number (own m k).mode) 0) _ can);
      }

-- ---------------------------------------------------------------- SUSPEND and RESUME
-- a call after which process id has the record x, with the wait that it had
module _ (m : Module) (k id : ℕ) (c : Calling m k) (e : EventT) (b : Between 1 (own m k).process_count id) (x : Process) (same : x.wait ≡ (process id (own m k)).wait) (g : Puts m e 0 0 k (plain_stored id x (own m k))) where
  abbrev p : Partition
  p = own m k

  lists : ListedIn p
  lists = (calling_valid m k (calling_sound m k c) c).lists

  after_is : own (step m e).state k ≡ stored id x p
  after_is = own_after m k (calling_sound m k c) c (stored id x p) (puts_is m k _ _ g (sym (stored_plain p lists id b x)))

  process_is : process id (own (step m e).state k) ≡ x
  process_is = ap (process id) after_is ∙ process_stored p id x lists b

  queues_stay : (o : ℕ) → (o ≡ 0 → ⊥) → waiters o (own (step m e).state k) ≡ waiters o p
  queues_stay o some =
      let q = stored id x p in
      ap (waiters o) after_is ∙ stored_queue p lists id b x o some (inr (inr (ap object same)))
      ∙ ap (λ n. followed (waits_on o p id) (eqb n o) id (waiters o p)) (ap object same) ∙ followed_same (waits_on o p id) id (waiters o p)

  stays : ((x.wait ≡ NoWait → ⊥) → x.times.wake ≡ (process id p).times.wake) → x.times.release ≡ (process id p).times.release → x.times.deadline ≡ (process id p).times.deadline
      → WaitStays p (own (step m e).state k) (process id p) (process id (own (step m e).state k))
  stays w r d = record {
    wait = ap (λ (y : Process). y.wait) process_is ∙ same;
    wake = λ some. ap (λ (y : Process). y.times.wake) process_is ∙ w (λ z. some (sym same ∙ z));
    release = ap (λ (y : Process). y.times.release) process_is ∙ r;
    deadline = ap (λ (y : Process). y.times.deadline) process_is ∙ d;
    queues = queues_stay;
  }

module _ (m : Module) (h : Reached m) (k id : ℕ) where
  abbrev x : Process
  x = process id (own m k)

  suspensions : Suspensions m k id
  unfolding Passed
  suspensions = record {
    suspend = λ z.
        let e = call_by k 7 (pos id) (pos 0) (pos 0) (pos 0) in
        let c = comes m h e (omega arith) k 7 refl refl (λ n. omega arith) in
        let y : Process = with true x.times.wake x.code x.wait x in
        let g = passed_checks m e _ _ refl z ((each_call m k c).suspend (pos id)) in
        let b = in_limits 1 (own m k).process_count (Number id) (not-false _ g.0.0) in
        let is = process_is m k id c e b y refl g.1 in
        (stays m k id c e b y refl g.1 (λ _. refl) refl refl, ap (λ (y : Process). y.suspended) is, ap ready is ∙ and-false x.started);
    resume = λ z.
        let e = call_by k 11 (pos id) (pos 0) (pos 0) (pos 0) in
        let c = comes m h e (omega arith) k 11 refl refl (λ n. omega arith) in
        let g = passed_checks m e _ _ refl z ((each_call m k c).resume (pos id)) in
        let b = in_limits 1 (own m k).process_count (Number id) (not-false _ g.0.0) in
        either (waits_for_nothing x.wait)
        (λ t.
        let none = for_none x.wait t in
        let y : Process = with false None 0 NoWait x in
        let is = process_is m k id c e b y (sym none) (g.1.0 none) in
        (stays m k id c e b y (sym none) (g.1.0 none) (λ some. absurd (some refl)) refl refl, ap (λ (y : Process). y.suspended) is, λ _. (ap ready is ∙ rw (not-false x.started (or_left (not x.started) _ g.0.1.1.0)), ap (λ (y : Process). y.times.wake) is), λ some. absurd (some none)))
        (λ t.
        let some : x.wait ≡ NoWait → ⊥ = λ z. not_both _ (rw z) t in
        let y : Process = with false x.times.wake x.code x.wait x in
        let is = process_is m k id c e b y refl (g.1.1 some) in
        (stays m k id c e b y refl (g.1.1 some) (λ _. refl) refl refl, ap (λ (y : Process). y.suspended) is, λ z. absurd (some z), λ _. ap ready is ∙ rw (t, and-false x.started)));
  }

-- ---------------------------------------------------------------- which changes there are
module _ (m : Module) (e : EventT) (code k id : ℕ) (asleep : (process id (own m k)).started ≡ false → ((process id (own m k)).wait ≡ NoWait) × ((process id (own m k)).suspended ≡ false)) where
  abbrev before : Process
  before = process id (own m k)

  -- what StateChanges asks of started, wait, suspended mark and missed mark
  abbrev Starting : Process → Type 0
  Starting y =
      (before.started ≡ true → y.started ≡ false → StopOf m e code k id ⊎ Erasure m e code k id)
      × (before.started ≡ false → y.started ≡ true → StartOf m e code k id)

  abbrev Waiting : Process → Type 0
  Waiting y =
      (before.wait ≡ NoWait → (y.wait ≡ NoWait → ⊥) → StartOf m e code k id ⊎ OwnWait m e code k id y.wait)
      × ((before.wait ≡ NoWait → ⊥) → y.wait ≡ NoWait
      → (Tick m e code k id × (come (m.t + 1) before.times.wake ≡ true)) ⊎ (StopOf m e code k id ⊎ (Erasure m e code k id ⊎ (Service m e code k id ⊎ Entry m e code k id))))
      × ((before.wait ≡ NoWait → ⊥) → (y.wait ≡ NoWait → ⊥) → (y.wait ≡ before.wait → ⊥) → Entry m e code k id × ((y.wait ≡ Delay) ⊎ (y.wait ≡ Period)))

  abbrev Marking : Process → Type 0
  Marking y =
      (before.suspended ≡ false → y.suspended ≡ true → CallOf m e code k id 7 ⊎ CallBy m e code k id 8 7)
      × (before.suspended ≡ true → y.suspended ≡ false
      → CallOf m e code k id 11 ⊎ ((Tick m e code k id × (come (m.t + 1) before.times.wake ≡ true) × (before.wait ≡ NoWait)) ⊎ (StopOf m e code k id ⊎ Erasure m e code k id)))

  abbrev Missing : Process → Type 0
  Missing y = before.missed ≡ false → y.missed ≡ true → Tick m e code k id × (come (m.t + 1) before.times.deadline ≡ true)

  altogether : (y : Process) → Starting y → Waiting y → Marking y → Missing y → StateChanges m e code k id before y
  altogether y a b c d = record { stops = a.0; starts = a.1; waits = b.0; ends = b.1; turns = b.2; marks = c.0; unmarks = c.1; misses = d }

  module _ (y : Process) where
    starting : y.started ≡ before.started → Starting y
    starting z = (λ t f. not_both _ t (sym z ∙ f), λ f t. not_both _ t (z ∙ f))

    waiting : y.wait ≡ before.wait → Waiting y
    waiting z = (λ a b. absurd (b (z ∙ a)), λ a b. absurd (a (sym z ∙ b)), λ _ _ c. absurd (c z))

    marking : y.suspended ≡ before.suspended → Marking y
    marking z = (λ f t. not_both _ t (z ∙ f), λ t f. not_both _ t (sym z ∙ f))

    missing : y.missed ≡ before.missed → Missing y
    missing z f t = not_both _ t (z ∙ f)

    -- it is not missed then
    missing_none : y.missed ≡ false → Missing y
    missing_none z f t = not_both _ t z

  changes_by : (y : Process) → Becomes m e code k id y → StateChanges m e code k id before y
  changes_by y (Becomes.same u is) = altogether y (starting y (same_started is)) (waiting y (same_wait is)) (marking y (same_mark is)) (missing y (same_missed is))
  changes_by y (Becomes.ticked t is) =
      let over = come (m.t + 1) before.times.wake in
      let late = come (m.t + 1) before.times.deadline in
      let unmarked = over && (waits_for_nothing before.wait && before.suspended) in
      altogether y (starting y (same_started is)) (
        λ a b. absurd (b (same_wait is ∙ either over (λ o. rw o) (λ o. rw o a))),
        λ a b. inl (t, so over (λ o. a (sym (same_wait is ∙ rw o) ∙ b))),
        λ a b c. either over (λ o. absurd (b (same_wait is ∙ rw o))) (λ o. absurd (c (same_wait is ∙ rw o))),
      ) (
        λ f on. not_both _ on (same_mark is ∙ either unmarked (λ o. rw o) (λ o. rw o f)),
        λ on off. let u = so unmarked (λ o. not_both _ on (sym (same_mark is ∙ rw o) ∙ off)) in inr (inl (t, and_left over _ u, for_none before.wait (and_left (waits_for_nothing before.wait) _ (and_right over _ u)))),
      ) (λ f on. (t, so late (λ o. not_both _ on (same_missed is ∙ rw o f))))
  changes_by y (Becomes.created c none is) = altogether y (starting y (same_started is ∙ sym (same_started none))) (waiting y (same_wait is ∙ sym (same_wait none))) (marking y (same_mark is ∙ sym (same_mark none))) (missing_none y (same_missed is))
  changes_by y (Becomes.started c off is in_normal early) = altogether y
      (λ on _. not_both _ on off, λ _ _. c)
      (λ _ _. inl c, λ some _. absurd (some (asleep off).0), λ some _ _. absurd (some (asleep off).0))
      (λ _ on. not_both _ on (same_mark is), λ on _. not_both _ on (asleep off).1)
      (missing_none y (same_missed is))
  changes_by y (Becomes.stopped c is) = altogether y
      (λ _ _. inl c, λ _ on. not_both _ on (same_started is))
      (λ _ b. absurd (b (same_wait is)), λ _ _. inr (inl c), λ _ b _. absurd (b (same_wait is)))
      (λ _ on. not_both _ on (same_mark is), λ _ _. inr (inr (inl c)))
      (missing y (same_missed is))
  changes_by y (Becomes.suspended c on off is) = altogether y (starting y (same_started is)) (waiting y (same_wait is)) (λ _ _. inl c, λ t _. not_both _ t off) (missing y (same_missed is))
  changes_by y (Becomes.suspended_self c none is) = altogether y (starting y (same_started is)) (waiting y (same_wait is ∙ sym none)) (λ _ _. inr c, λ _ f. not_both _ (same_mark is) f) (missing y (same_missed is))
  changes_by y (Becomes.waiting n message c ten none some is) = altogether y (starting y (same_started is))
      (λ _ _. inr (record { number = n; message = message; call = c; is = same_wait is }), λ a _. absurd (a none), λ a _ _. absurd (a none))
      (marking y (same_mark is)) (missing y (same_missed is))
  changes_by y (Becomes.released c none is) = altogether y (starting y (same_started is))
      (λ _ _. inr (record { number = 10; message = 0; call = c; is = same_wait is }), λ a _. absurd (a none), λ a _ _. absurd (a none))
      (marking y (same_mark is)) (missing y (same_missed is))
  changes_by y (Becomes.resumed c on marked is) = altogether y (starting y (same_started is)) (waiting y (same_wait is)) (λ _ t. not_both _ t (same_mark is), λ _ _. inl c) (missing y (same_missed is))
  changes_by y (Becomes.prioritised c on is) = altogether y (starting y (same_started is)) (waiting y (same_wait is)) (marking y (same_mark is)) (missing y (same_missed is))
  changes_by y (Becomes.served c is) = altogether y (starting y (same_started is))
      (λ _ b. absurd (b (same_wait is)), λ _ _. inr (inr (inr (inl c))), λ _ b _. absurd (b (same_wait is)))
      (marking y (same_mark is)) (missing y (same_missed is))
  changes_by y (Becomes.entered c is wait) =
      let waits : before.wait ≡ NoWait → ⊥ = λ z. not_both _ (ap waits_for_nothing z) (ap waits_for_nothing c.waits) in
      altogether y
      (λ _ f. not_both _ (same_started is) f, λ off _. absurd (waits (asleep off).0))
      (λ a _. absurd (waits a), λ _ _. inr (inr (inr (inr c))), λ _ b _. (c, either (periodic_at before.given.period) (λ p. inr (rw p at wait)) (λ p. ⊎_elim (λ (z : y.wait ≡ NoWait). absurd (b z)) (λ (z : y.wait ≡ Delay). inl z) (rw p at wait))))
      (marking y (same_mark is)) (missing_none y (same_missed is))
  changes_by y (Becomes.erased c is) = altogether y
      (λ _ _. inr c, λ _ on. not_both _ on (same_started is))
      (λ _ b. absurd (b (same_wait is)), λ _ _. inr (inr (inl c)), λ _ b _. absurd (b (same_wait is)))
      (λ _ on. not_both _ on (same_mark is), λ _ _. inr (inr (inr c)))
      (missing_none y (same_missed is))

-- one that is DORMANT has neither a wait nor the mark
asleep_in : (frame t : ℕ) (p : Partition) → Valid frame t p → (id : ℕ) → (process id p).started ≡ false → ((process id p).wait ≡ NoWait) × ((process id p).suspended ≡ false)
asleep_in frame t p v id off = either (contains id (ids_from p.process_count 1))
    (λ c. let b = from_range p.process_count 1 id c in let d = (v.each_process id (b.0, omega arith)).dormant off in (d.wait, d.unmarked))
    (λ c. let z = not_created p v.lists id c in (same_wait z, same_mark z))

-- ---------------------------------------------------------------- a tick
-- an event of no partition that is not refused is a tick
pub tick_state : (m : Module) (e : EventT) → e.partition ≡ pos 0 → (step m e).answer.code ≡ 0 → (step m e).state ≡ tick_module m
unfolding step
tick_state m e by z =
    let r = request_of e in
    let g = places m e in
    let formed = sym g.thirteen ∙ ap (λ n. eqb n 13) z in
    let zero : eqb (number_of r.partition) 0 ≡ true = rw by in
    let room = sym g.ten ∙ ap (λ n. eqb n 10) z in
    ap (module_after m (number_of r.partition)) (ticks_decided m r formed zero (leb-false time_limit m.t (rw (formed, zero) at room)))

tick_leaves : (m : Module) → SoundModule m → (e : EventT) → e.partition ≡ pos 0 → (step m e).answer.code ≡ 0 → (k : ℕ) → Between 1 m.table.size k → TickLeaves m e k
unfolding tick_partition
tick_leaves m s e by z k b =
    let is = tick_state m e by z in
    let p = own m k in
    record {
      partition = λ early. ap (λ (q : Module). own q k) is ∙ ticked_part m s k b ∙ rw (ne_eqb (mode_number p.mode) 3 early);
      process = λ id w d. ap (λ (q : Module). process id (own q k)) is ∙ tick_process m s k b id ∙ either (normal_mode p) (λ t. rw t (rw (w, d))) (λ t. rw t);
    }

-- ---------------------------------------------------------------- who leaves a queue
changes_at : (m : Module) → Reached m → (e : EventT) (k id : ℕ) → Between 1 m.table.size k → StateChanges m e (step m e).answer.code k id (process id (own m k)) (process id (own (step m e).state k))
changes_at m h e k id b =
    let s = valid_sound m (reached_valid m h) (k - 1) (omega (arith, b.0, b.1)) in
    changes_by m e (step m e).answer.code k id (asleep_in m.table.frame m.t (own m k) (s.each_partition (k - 1) (omega (arith, b.0, b.1))) id) _ (each_process_holds m h e k id b)

module _ (m : Module) (h : Reached m) (e : EventT) (k id o : ℕ) (b : Between 1 m.table.size k) (some : o ≡ 0 → ⊥) where
  abbrev code : ℕ
  code = (step m e).answer.code

  -- the wait of one of the queue, and of one that is not
  on : (n : Module) → Reached n → Between 1 n.table.size k → contains id (waiters o (own n k)) ≡ eqb (object (process id (own n k)).wait) o
  on n r c = waiters_exact (own n k) ((valid_sound n (reached_valid n r) (k - 1) (omega (arith, c.0, c.1))).each_partition (k - 1) (omega (arith, c.0, c.1))).lists o some id

  leaves_by : contains id (waiters o (own m k)) ≡ true → contains id (waiters o (own (step m e).state k)) ≡ false
      → (Tick m e code k id × (come (m.t + 1) (process id (own m k)).times.wake ≡ true)) ⊎ (StopOf m e code k id ⊎ (Erasure m e code k id ⊎ Service m e code k id))
  leaves_by was gone =
      let c = changes_at m h e k id b in
      let x = process id (own m k) in
      let y = process id (own (step m e).state k) in
      let is : object x.wait ≡ o = eqb-true _ o (sym (on m h b) ∙ was) in
      let no : object y.wait ≡ o → ⊥ = eqb-false _ o (sym (on (step m e).state (Reached.stepped m e h) (rw (step_size m e) b)) ∙ gone) in
      let early : Entry m e code k id → ⊥ = λ t. some (sym is ∙ ap object t.waits) in
      either (waits_for_nothing y.wait)
      (λ t. without_entry early (c.ends (λ z. some (sym is ∙ ap object z)) (for_none y.wait t)))
      (λ t. absurd (early (c.turns (λ z. some (sym is ∙ ap object z)) (λ z. not_both _ (ap waits_for_nothing z) t) (λ z. no (ap object z ∙ is))).0))
    where
      without_entry : {A B C D F : Type 0} → (F → ⊥) → A ⊎ (B ⊎ (C ⊎ (D ⊎ F))) → A ⊎ (B ⊎ (C ⊎ D))
      without_entry f (inl a) = inl a
      without_entry f (inr (inl b)) = inr (inl b)
      without_entry f (inr (inr (inl c))) = inr (inr (inl c))
      without_entry f (inr (inr (inr (inl d)))) = inr (inr (inr d))
      without_entry f (inr (inr (inr (inr z)))) = absurd (f z)

-- Law. The states of a process.
pub process_states : ProcessStates
process_states = record {
  changes = changes_at;
  leaves = leaves_by;
  ticks = λ m h e by z k b. tick_leaves m (valid_sound m (reached_valid m h) (k - 1) (omega (arith, b.0, b.1))) e by z k b;
  suspensions = suspensions;
}
