-- One event in parts: its places, its decision, and what is stored of it, are the machine's step. Assumes nothing.
use Rattle.std.specs.Prelude.{Option}
use Prim.Native.Nat.{ℕ, zero, suc, ◌+◌, ◌-◌, ◌≤◌, ◌<◌}
use mathlib.Core.Bool.{Bool, true, false, cond, not, ◌&&◌}
use mathlib.Core.List.{List, [], ◌∷◌, ◌++◌}
use mathlib.Core.Path.{◌≡◌, refl, sym, ap, ◌∙◌, subst}
use native.Mathlib.Omega.{arith}
use lib.Dec.{eqb, leb, ltb}
use lib.IntN.{ℤ}
use lib.ListN.{length, get_or, set, length-set, get_or-eq_default}
use lib.Seq.{set_out}
use mir.Syntax.{w64}
use mir.Val.{to_z, of_z, SFits}
use mir.ValLaws.{to_z-of_z}
use borrow.Author.Tests.{ne_eqb, ltb-true, ltb-false, eqb-true, eqb-false, leb-true, not-false}
use Rattle.machine.specs.Channels.{port_at, port_of, sees_traffic, other_end, other_queue, no_traffic, traffic_of, passed, leads_into, kept_to, refilled_to}
use Rattle.machine.specs.Decisions.{no_caller_as, coded, checked, code_of, reply_of, no_message}
use Rattle.machine.specs.Questions.{changes, restarts, message_at, message_of, transfer_at, transfer_of}
use Rattle.machine.specs.Messages.{no_queue, moved, ends_wait}
use Rattle.machine.specs.Fields.{request_of, number_of}
use Rattle.machine.specs.Limits.{partition_limit, channel_limit}
use Rattle.machine.specs.Module.{no_partition, channel, part, message, queue, current, ticks_left, running_in, with_part, with_message, with_queue, with_time}
use Rattle.machine.specs.Partition.{running, ended_by, partition_after}
use Rattle.machine.specs.Places.{no_caller, ticks, event_checks, first_checks}
use Rattle.machine.specs.Services.{called}
use Rattle.machine.specs.Step.{context_of, decision, module_after, sees, answer_to, stepped, step}
use Rattle.machine.specs.Ticks.{tick_at, tick_to, partition_count, tick_module}
use Rattle.machine.specs.Windows.{lookup, release_point, waiting_of}
use Rattle.machine.specs.declared.Answer.{Answer}
use Rattle.machine.specs.declared.Decision.{Decision}
use Rattle.machine.specs.declared.Decision.TheVariants.{Refused, Ticked}
use Rattle.machine.specs.declared.Event.{Event}
use Rattle.machine.specs.declared.Lookup.{Lookup}
use Rattle.machine.specs.declared.Message.{Message}
use Rattle.machine.specs.declared.Module.{Module}
use Rattle.machine.specs.declared.Partition.{Partition}
use Rattle.machine.specs.declared.Port.{Port}
use Rattle.machine.specs.declared.Queue.{Queue}
use Rattle.machine.specs.declared.Traffic.{Traffic}
use Rattle.machine.specs.declared.Transfer.{Transfer}
use Rattle.machine.specs.declared.Reply.{Reply}
use Rattle.machine.specs.declared.Request.{Request}
use Rattle.machine.specs.declared.Table.{Table}
use Rattle.machine.specs.Windows.{Waiting}
use Rattle.machine.proofs.Applied.{NoTick, called_no_tick, after_changed, after_restarted, after_written, after_passed, after_same}
use Rattle.machine.proofs.Reached.{refilled_table}
use Rattle.machine.proofs.Restarts.{refilled_time, refilled_sizes}
use Rattle.machine.proofs.Either.{either}
use Rattle.machine.proofs.EveryCall.{release_unseen}
use Rattle.machine.proofs.Folds.{tick_to_none}
use Rattle.machine.proofs.Tests.{by_test, codes_in, Passed, code_refuses, code_passes, and_left, and_right, or_left, or_right}
use Rattle.places.specs.Placed.{placed_at}
use Rattle.places.specs.declared.Placed.{Placed}
use Rattle.events.specs.Plans.{call_checks, tick_count, slot_of, call_slot, takes_start_rule, release_for, shown_slot, planned, plan_of, answer_of}
use Rattle.events.specs.declared.Plan.{Plan}
use Rattle.executive.specs.Executive.{turned}

-- ---------------------------------------------------------------- lists of checks
checked_more : {A : Type 0} (f : ℕ → A) (l k : List (Bool × ℕ)) (x : A) → checked f l (checked f k x) ≡ checked f (l ++ k) x
unfolding checked
checked_more f [] k x = refl
checked_more f ((true, n) ∷ l) k x = refl
checked_more f ((false, n) ∷ l) k x = checked_more f l k x

-- the code of a list by the code of its first part
code_more : (l k : List (Bool × ℕ)) → codes_in (leb 1) l ≡ true → code_of ((not (eqb (code_of l) 0), code_of l) ∷ k) ≡ code_of (l ++ k)
unfolding checked
code_more [] k h = refl
code_more ((true, n) ∷ l) k h = rw (ne_eqb n 0 (λ z. let g = leb-true 1 n (and_left (leb 1 n) (codes_in (leb 1) l) h) in omega arith))
code_more ((false, n) ∷ l) k h = code_more l k (and_right (leb 1 n) (codes_in (leb 1) l) h)

-- ---------------------------------------------------------------- the release point
-- a call that takes no start rule may be shown another
release_shown : (T : Table) (t k left caller n : ℕ) (x : Port) (r : Request) (p : Partition)
    → called (record { time = t; frame = T.frame; left = left; release = release_for T t k n; caller = caller }) x n r p ≡ called (record { time = t; frame = T.frame; left = left; release = release_point T t k; caller = caller }) x n r p
release_shown T t k left caller n x r p = either (takes_start_rule n)
    (λ e. rw e)
    (λ e.
    let late = or_right (eqb n 1) _ e in
    ap (checked Refused ((no_caller_as caller p, 9) ∷ []))
    (release_unseen n (eqb-false n 1 (or_left (eqb n 1) _ e), eqb-false n 3 (or_left (eqb n 3) _ late), eqb-false n 4 (or_right (eqb n 3) _ late)) _ _ x r p))

-- ---------------------------------------------------------------- the places
abbrev own : Request → ℕ
own r = number_of r.partition

abbrev place_checks : Table → ℕ → ℕ → Request → List (Bool × ℕ)
place_checks T t now r = event_checks T t r ++ call_checks (own r) now

module _ (m : Module) (r : Request) (long : length m.partitions ≡ partition_limit) where
  abbrev accepted : Decision
  accepted = cond (ticks r) Ticked (called (context_of m (own r)) (port_of m (own r) r) (number_of r.call) r (part m (own r - 1)))

  -- past the partitions none has a caller
  past : partition_limit < own r → no_caller (part m (own r - 1)) ≡ true
  past h = let e : part m (own r - 1) ≡ no_partition = get_or-eq_default m.partitions no_partition (omega arith) in rw e

  bound : accepted ≡ checked Refused ((not (ticks r) && ltb partition_limit (own r), 9) ∷ []) accepted
  unfolding checked
  bound = either (ticks r)
      (λ z. rw z)
      (λ z. either (ltb partition_limit (own r))
      (λ l. rw (z, l, past (ltb-true partition_limit (own r) l)))
      (λ l. rw (z, l)))

  -- now is the current partition, but at a tick, which does not look at it
  module _ (now : ℕ) (seen : ticks r ≡ false → now ≡ current m) where
    first_same : first_checks m.table m.t (current m) r ≡ first_checks m.table m.t now r
    first_same = either (ticks r) (λ z. rw z) (λ z. rw (seen z))

    decided : decision m r ≡ checked Refused (place_checks m.table m.t now r) accepted
    unfolding decision
    decided = ap (λ (l : List (Bool × ℕ)). checked Refused l accepted) first_same
        ∙ ap (checked Refused (first_checks m.table m.t now r)) bound
        ∙ checked_more Refused (first_checks m.table m.t now r) _ accepted

    module _ (n : ℕ) (e : n ≡ code_of (place_checks m.table m.t now r)) where
      place_refused : (n ≡ 0 → ⊥) → decision m r ≡ Refused n
      place_refused h = decided ∙ sym (ap Refused e ∙ code_refuses Refused (place_checks m.table m.t now r) accepted (λ z. h (e ∙ z)))

      place_passed : n ≡ 0 → decision m r ≡ accepted
      place_passed z = decided ∙ sym (code_passes Refused (place_checks m.table m.t now r) accepted refl (sym e ∙ z)).0

      -- what the places then tell of a call
      place_calls : n ≡ 0 → ticks r ≡ false → (now ≡ own r) × (own r ≤ partition_limit)
      unfolding Passed
      place_calls z t =
          let h : Passed (place_checks m.table m.t now r) = (code_passes Refused (place_checks m.table m.t now r) accepted refl (sym e ∙ z)).1 in
          (eqb-true now (own r) (not-false _ (rw t at h.1.1.0)), ltb-false partition_limit (own r) (rw t at h.1.1.1.0))

-- a tick gets no code but 13 and 10
tick_code : (T : Table) (t now : ℕ) (r : Request) → ticks r ≡ true → code_of (place_checks T t now r) ≡ code_of (event_checks T t r)
unfolding checked
tick_code T t now r z = rw z

-- t + 1 after a tick that is taken, else t
module _ (T : Table) (t now : ℕ) (r : Request) where
  time_taken : code_of (place_checks T t now r) ≡ 0 → ticks r ≡ true → (placed_at T t r).time ≡ t + 1
  time_taken n z = rw (sym (tick_code T t now r z) ∙ n, z)

  time_called : ticks r ≡ false → (placed_at T t r).time ≡ t
  time_called z = either (eqb (code_of (event_checks T t r)) 0) (λ c. rw (c, z)) (λ c. rw c)

  time_refused : (code_of (place_checks T t now r) ≡ 0 → ⊥) → (placed_at T t r).time ≡ t
  time_refused h = either (ticks r)
      (λ z. rw (ne_eqb (code_of (event_checks T t r)) 0 (λ c. h (tick_code T t now r z ∙ c))))
      time_called

-- erasing leaves every place
kept_long : (T : Table) (k n : ℕ) (l : List (Option Message)) → length (kept_to T k n l) ≡ length l
unfolding kept_to
kept_long T k zero l = refl
kept_long T k (suc n) l = by_test (λ (v : List (Option Message)). length v ≡ length l) (leads_into k (channel T n)) (λ _. length-set (kept_to T k n l) n no_message ∙ kept_long T k n l) (λ _. kept_long T k n l)

-- ---------------------------------------------------------------- one event
-- what storing a partition leaves, the tick of the partitions leaves
tick_keeps : (P : Module → Type 0) → ((i : ℕ) (p : Partition) (q : Module) → P q → P (with_part i p q)) → (n : ℕ) (m : Module) → P m → P (tick_to n m)
unfolding tick_to tick_at
tick_keeps P f zero m h = h
tick_keeps P f (suc n) m h = f n _ (tick_to n m) (tick_keeps P f n m h)

pub tick_table : (n : ℕ) (m : Module) → (tick_to n m).table ≡ m.table
tick_table n m = tick_keeps (λ (v : Module). v.table ≡ m.table) (λ i p v h. h) n m refl

-- the record has a place for the message and for the queue of each channel
abbrev pub Held : Module → Type 0
Held m = (length m.messages ≡ channel_limit) × (length m.queues ≡ channel_limit)

-- what partition k sees of the traffic of the channel at place i, by the table T
abbrev pub seen_traffic : Table → Module → ℕ → ℕ → Traffic
seen_traffic T q k i =
    let c = channel T i in
    cond (sees_traffic T k i) (traffic_of (queue q i) (other_queue k i c) (part q (other_end k c - 1))) no_traffic

-- what a read of an array of queues would give past its end
abbrev pub past_queue : Queue
past_queue = record { items = []; len = 0 }

-- what stands at a place of a list, whatever would stand past its end
get_d_any : {A : Type 0} (l : List A) (i : ℕ) (d e : A) → i < length l → get_or l i d ≡ get_or l i e
get_d_any [] i d e h = absurd (omega arith)
get_d_any (x ∷ l) zero d e h = refl
get_d_any (x ∷ l) (suc i) d e h = get_d_any l i d e (omega arith)

-- record and reply after an event are the machine's, and the record has its places; the window was looked up as it is then
pub record After (m : Module) (r : Request) (now t : ℕ) (q : Module) (b : Reply) : Type 0 where
  pub state : q ≡ module_after m (own r) (decision m r)
  pub reply : b ≡ reply_of (decision m r)
  pub long : length q.partitions ≡ partition_limit
  pub held : Held q
  pub window : now ≡ current q
  pub clock : q.t ≡ t

-- the answer is read off the record after the event
answered_is : (m : Module) (r : Request) (now t : ℕ) (y : Module) (b : Reply) → After m r now t y b → (n : ℕ) (a : Answer) → n ≡ cond (sees r now) (running_in now y) 0 → a ≡ answer_of b y.t now n
    → record { executive = record { inner = y }; answer = a } ≡ turned (stepped m r (decision m r))
answered_is m r now t y b done n a shows says = rw (says, shows, done.window) (λ i. turned (record { state = done.state i; answer = answer_to r (done.reply i) (done.state i) }))

-- it is found in parts: the request, its place, and the window at the time after it
pub plan_made : (T : Table) (t : ℕ) (e : Event) {r : Request} {first : Placed} {v : Lookup} {x : Plan} → r ≡ request_of e → first ≡ placed_at T t r → v ≡ lookup T first.time → x ≡ planned T r (own r) first v → x ≡ plan_of T t e
unfolding plan_of
plan_made T t e {r} {first} {v} {x} is at seen made = made ∙ rw (seen, at, is)

-- what is found of the event e before its partition is looked at; T is the table, which no event changes
pub record Planned (m : Module) (e : Event) (T : Table) (x : Plan) : Type 0 where
  pub same : m.table ≡ T
  pub long : length m.partitions ≡ partition_limit
  pub held : Held m
  pub plan : x ≡ plan_of T m.t e

module _ {m : Module} {e : Event} {T : Table} {x : Plan} (f : Planned m e T x) where
  here : x ≡ plan_of m.table m.t e
  here = rw f.same f.plan

  abbrev r : Request
  r = request_of e

  abbrev k : ℕ
  k = own r

  abbrev time : ℕ
  time = (placed_at m.table m.t r).time

  abbrev now : ℕ
  now = (lookup m.table time).partition

  abbrev code : ℕ
  code = code_of (place_checks m.table m.t now r)

  request_is : x.request ≡ r
  unfolding plan_of
  request_is = rw here

  pub own_is : x.own ≡ k
  unfolding plan_of
  own_is = rw here

  call_is : x.call ≡ number_of r.call
  unfolding plan_of
  call_is = rw here

  place_is : x.place ≡ number_of r.a - 1
  unfolding plan_of
  place_is = rw here

  pub place_named : x.place ≡ number_of x.request.a - 1
  place_named = place_is ∙ ap (λ (v : Request). number_of v.a - 1) (sym request_is)

  code_is_holds : x.code ≡ code
  unfolding plan_of
  code_is_holds = rw here (code_more (event_checks m.table m.t r) (call_checks k now) refl)

  time_is : x.time ≡ time
  unfolding plan_of
  time_is = rw here

  current_is : x.current ≡ now
  unfolding plan_of
  current_is = rw here

  left_is : x.left ≡ (lookup m.table time).left
  unfolding plan_of
  left_is = rw here

  ticks_is : x.ticks ≡ tick_count m.table x.code k
  unfolding plan_of
  ticks_is = rw here

  spot_is : x.spot ≡ slot_of x.current
  unfolding plan_of
  spot_is = rw here

  slot_is : x.slot ≡ call_slot x.code k
  unfolding plan_of
  slot_is = rw here

  shown_is : x.shown ≡ shown_slot r x.current
  unfolding plan_of
  shown_is = rw here

  pub few_ticks : x.ticks ≤ partition_limit
  few_ticks = rw ticks_is (by_test (λ (n : ℕ). n ≤ partition_limit) (eqb x.code 0) (λ _. by_test (λ (n : ℕ). n ≤ partition_limit) (eqb k 0) (λ _. few m.table.size) (λ _. omega arith)) (λ _. omega arith))
    where
      few : (n : ℕ) → cond (leb n partition_limit) n partition_limit ≤ partition_limit
      few n = by_test (λ (i : ℕ). i ≤ partition_limit) (leb n partition_limit) (λ h. leb-true n partition_limit h) (λ _. omega arith)

  -- a call looks at the window that is current
  seen : ticks r ≡ false → now ≡ current m
  seen z = ap (λ (t : ℕ). (lookup m.table t).partition) (time_called m.table m.t now r z)

  left_seen : ticks r ≡ false → x.left ≡ ticks_left m
  left_seen z = left_is ∙ ap (λ (t : ℕ). (lookup m.table t).left) (time_called m.table m.t now r z)

  -- a call that no place refuses: its partition has a place, and is the current one
  pub record Called : Type 0 where
    pub none : x.code ≡ 0
    pub some : ticks r ≡ false
    pub slot : x.slot ≡ k - 1
    pub now : x.current ≡ k

  calls : x.slot < partition_limit → Called
  calls h = either (eqb x.code 0)
      (λ z. either (eqb k 0)
      (λ o. let w : x.slot ≡ partition_limit = slot_is ∙ rw (z, o) in absurd (omega arith))
      (λ o. record { none = eqb-true x.code 0 z; some = o; slot = slot_is ∙ rw (z, o); now = current_is ∙ (place_calls m r f.long now seen x.code code_is_holds (eqb-true x.code 0 z) o).0 }))
      (λ z. let w : x.slot ≡ partition_limit = slot_is ∙ rw z in absurd (omega arith))

  -- where the partition that makes a call lies, the current one does
  pub slot_spot : x.slot < partition_limit → x.slot ≡ x.spot
  slot_spot h = let c = calls h in c.slot ∙ sym (spot_is ∙ ap slot_of c.now ∙ rw c.some)

  pub slot_own : x.slot < partition_limit → x.own - 1 ≡ x.slot
  slot_own h = ap (λ (n : ℕ). n - 1) own_is ∙ sym (calls h).slot

  -- q is the record after the ticks
  module _ {q : Module} (ticked : q ≡ tick_to x.ticks (with_time x.time m)) where
    still : tick_count m.table x.code k ≡ 0 → time ≡ m.t → q ≡ m
    still none stays = ticked ∙ rw (ticks_is, none, time_is, stays) (tick_to_none m)

    -- no call: a tick, or refused
    pub not_called : partition_limit ≤ x.slot → {y : Module} {b : Reply} → y ≡ q → b ≡ coded x.code → After m x.request x.current x.time y b
    not_called far {y} {b} g h = either (eqb x.code 0)
        (λ z. either (eqb k 0)
        (λ o. taken (eqb-true x.code 0 z) o)
        (λ o.
        let u = (place_calls m r f.long now seen x.code code_is_holds (eqb-true x.code 0 z) o).1 in
        let w : x.slot ≡ k - 1 = slot_is ∙ rw (z, o) in
        let v = eqb-false k 0 o in
        absurd (omega (arith, u, v))))
        (λ z. refused (eqb-false x.code 0 z))
      where
        refused : (x.code ≡ 0 → ⊥) → After m x.request x.current x.time y b
        refused z =
            let d = place_refused m r f.long now seen x.code code_is_holds z in
            let t : time ≡ m.t = time_refused m.table m.t now r (λ c. z (code_is_holds ∙ c)) in
            let w : y ≡ m = g ∙ still (rw (ne_eqb x.code 0 z)) t in
            record { state = rw (request_is, d) w; reply = rw (request_is, d) h; long = rw w f.long; held = rw w f.held; window = rw (current_is, w) (ap (λ (t : ℕ). (lookup m.table t).partition) t); clock = ap (λ (z : Module). z.t) w ∙ sym (time_is ∙ t) }

        taken : x.code ≡ 0 → ticks r ≡ true → After m x.request x.current x.time y b
        taken z o =
            let d : decision m r ≡ Ticked = place_passed m r f.long now seen x.code code_is_holds z ∙ rw o in
            let t : time ≡ m.t + 1 = time_taken m.table m.t now r (sym code_is_holds ∙ z) o in
            let w : y ≡ tick_module m = g ∙ ticked ∙ rw (ticks_is, time_is, t, z, o) in
            record {
              state = rw (request_is, d) w;
              reply = rw (request_is, d) (h ∙ ap coded z);
              long = rw w (tick_keeps (λ (v : Module). length v.partitions ≡ partition_limit) (λ i p v l. length-set v.partitions i p ∙ l) (partition_count m.table) (with_time (m.t + 1) m) f.long);
              held = rw w (tick_keeps Held (λ i p v l. l) (partition_count m.table) (with_time (m.t + 1) m) f.held);
              window = rw (current_is, w) (ap (λ (t : ℕ). (lookup m.table t).partition) t ∙ tick_keeps (λ (v : Module). (lookup m.table (m.t + 1)).partition ≡ current v) (λ i p v l. l) (partition_count m.table) (with_time (m.t + 1) m) refl);
              clock = ap (λ (z : Module). z.t) w ∙ tick_keeps (λ (v : Module). v.t ≡ m.t + 1) (λ i p v l. l) (partition_count m.table) (with_time (m.t + 1) m) refl ∙ sym (time_is ∙ t);
            }

    -- a call
    module _ (inside : x.slot < partition_limit) where
      -- the record is as it was
      called_same : q ≡ m
      called_same = let c = calls inside in still (rw (c.none, c.some)) (time_called m.table m.t now r c.some)

      -- what the code decides is the machine's decision
      pub made_is : (caller v : ℕ) (hold : Option Message) (view : Traffic) (port : Port) {d : Decision} → caller ≡ running (part q x.slot) → v ≡ release_for T q.t x.own x.call → hold ≡ message q x.place
          → view ≡ seen_traffic T q x.own x.place → port ≡ port_at T x.own x.request.a hold view
          → d ≡ called (record { time = q.t; frame = T.frame; left = x.left; release = v; caller = caller }) port x.call x.request (part q x.slot) → d ≡ decision m r
      made_is caller v hold view port runs point lies shows sees-port made =
          let c = calls inside in
          let w = called_same in
          let shown : called (record { time = q.t; frame = T.frame; left = x.left; release = v; caller = caller }) port x.call x.request (part q x.slot) ≡ called (record { time = q.t; frame = T.frame; left = x.left; release = release_point T q.t x.own; caller = caller }) port x.call x.request (part q x.slot) =
          rw point (release_shown T q.t x.own x.left caller x.call port x.request (part q x.slot)) in
          made ∙ shown ∙ rw (runs, sees-port, lies, shows, w, ← f.same, request_is, own_is, call_is, place_is, left_seen c.some, c.slot) (sym (place_passed m r f.long now seen x.code code_is_holds c.none ∙ rw c.some))

      module _ {d : Decision} (Made-so : d ≡ decision m r) where
        made_called : d ≡ called (context_of m k) (port_of m k r) (number_of r.call) r (part m (k - 1))
        made_called = Made-so ∙ place_passed m r f.long now seen x.code code_is_holds (calls inside).none ∙ chosen (calls inside).some
          where
            chosen : ticks r ≡ false → accepted m r f.long ≡ called (context_of m k) (port_of m k r) (number_of r.call) r (part m (k - 1))
            chosen z = rw z

        window_is : (y : Module) → y.table ≡ q.table → y.t ≡ q.t → x.current ≡ current y
        window_is y a b = let w = called_same in rw (a, b, w) (current_is ∙ seen (calls inside).some)

        module _ {b : Reply} (says : b ≡ reply_of d) where
          stores : {y : Module} → y ≡ module_after m k d → length y.partitions ≡ partition_limit → Held y → y.table ≡ q.table → y.t ≡ q.t → After m x.request x.current x.time y b
          stores {y} g l l' a t = record { state = rw (request_is) (g ∙ ap (module_after m k) Made-so); reply = rw (request_is) (says ∙ ap reply_of Made-so); long = l; held = l'; window = window_is y a t; clock = t ∙ ap (λ (z : Module). z.t) called_same ∙ sym (time_is ∙ time_called m.table m.t now r (calls inside).some) }

          pub call_same : changes d ≡ false → channel_limit ≤ message_at d → channel_limit ≤ transfer_at d → {y : Module} → y ≡ q → After m x.request x.current x.time y b
          call_same c h h' {y} g =
              let w = called_same in
              let n = called_no_tick (context_of m k) (port_of m k r) (number_of r.call) r (part m (k - 1)) in
              let u : NoTick d = subst NoTick (sym made_called) n.is in
              stores (g ∙ w ∙ sym (after_same m k f.held.0 d u c h h')) (rw (g, w) f.long) (rw (g, w) f.held) (ap (λ (z : Module). z.table) g) (ap (λ (z : Module). z.t) g)

          pub call_written : message_at d < channel_limit → {a : Option Message} → a ≡ message_of d → {y : Module} → y ≡ with_message (message_at d) a q → After m x.request x.current x.time y b
          call_written h {a} e {y} g =
              let w = called_same in
              stores (g ∙ rw (e, w) (sym (after_written m k d h))) (rw (g, w) f.long) (rw (g, w) (length-set m.messages (message_at d) a ∙ f.held.0, f.held.1)) (ap (λ (z : Module). z.table) g) (ap (λ (z : Module). z.t) g)

          -- a transfer: the queue of messages, and where a wait ends, the partition at the other end
          module _ (h : transfer_at d < channel_limit) {a : Transfer} (is : a ≡ transfer_of d) {l : Queue} (moved-is : l ≡ moved a (get_or q.queues (transfer_at d) past_queue)) {end : ℕ} (ends : end ≡ cond (ends_wait a) (other_end x.own (channel T (transfer_at d)) - 1) partition_limit) where
            moves : l ≡ moved a (queue q (transfer_at d))
            moves = moved-is ∙ ap (moved a) (get_d_any q.queues (transfer_at d) past_queue no_queue (let w = called_same in let z : length q.queues ≡ channel_limit = rw w f.held.1 in omega arith))

            pub call_passed : end < partition_limit → {p : Partition} → p ≡ ended_by a (part q end)
                → {y : Module} → y ≡ record { table = q.table; t = q.t; messages = q.messages; queues = set q.queues (transfer_at d) l; partitions = set q.partitions end p } → After m x.request x.current x.time y b
            call_passed inside {p} e {y} g =
                let w = called_same in
                let on : ends_wait a ≡ true = either (ends_wait a) (λ t. t) (λ t. let z : end ≡ partition_limit = ends ∙ rw t in absurd (omega arith)) in
                let at : end ≡ other_end k (channel m.table (transfer_at d)) - 1 = ends ∙ rw (on, own_is, ← f.same) in
                let done : passed k (transfer_at d) (transfer_of d) m ≡ with_part (other_end k (channel m.table (transfer_at d)) - 1) (ended_by a (part m (other_end k (channel m.table (transfer_at d)) - 1))) (with_queue (transfer_at d) (moved a (queue m (transfer_at d))) m) = rw (← is, on) in
                stores (g ∙ rw (e, moves, w, at) (sym (after_passed m k d h ∙ done))) (rw (g, w) (length-set m.partitions end p ∙ f.long)) (rw (g, w) (f.held.0, length-set m.queues (transfer_at d) l ∙ f.held.1)) (ap (λ (z : Module). z.table) g) (ap (λ (z : Module). z.t) g)

            pub call_moved : partition_limit ≤ end → {y : Module} → y ≡ record { table = q.table; t = q.t; messages = q.messages; queues = set q.queues (transfer_at d) l; partitions = q.partitions } → After m x.request x.current x.time y b
            call_moved far {y} g =
                let w = called_same in
                let u = with_queue (transfer_at d) (moved a (queue m (transfer_at d))) m in
                let done : passed k (transfer_at d) (transfer_of d) m ≡ u = rw (← is) (by_test (λ (z : Module). z ≡ u) (ends_wait a)
                (λ t.
                let at : end ≡ other_end k (channel m.table (transfer_at d)) - 1 = ends ∙ rw (t, own_is, ← f.same) in
                ap (λ (v : List Partition). record { table = m.table; t = m.t; messages = m.messages; queues = set m.queues (transfer_at d) (moved a (queue m (transfer_at d))); partitions = v }) (set_out m.partitions (other_end k (channel m.table (transfer_at d)) - 1) _ (omega (arith, f.long))))
                (λ _. refl)) in
                stores (g ∙ rw (moves, w) (sym (after_passed m k d h ∙ done))) (rw (g, w) f.long) (rw (g, w) (f.held.0, length-set m.queues (transfer_at d) l ∙ f.held.1)) (ap (λ (z : Module). z.table) g) (ap (λ (z : Module). z.t) g)

          module _ {p : Partition} (after : p ≡ partition_after d (part q x.slot)) where
            pub call_changed : changes d ≡ true → restarts d ≡ false → {y : Module} → y ≡ record { table = q.table; t = q.t; messages = q.messages; queues = q.queues; partitions = set q.partitions x.slot p } → After m x.request x.current x.time y b
            call_changed c n {y} g =
                let w = called_same in
                stores (g ∙ rw (after, w, (calls inside).slot) (sym (after_changed m k d c n))) (rw (g, w) (length-set m.partitions x.slot p ∙ f.long)) (rw (g, w) f.held) (ap (λ (z : Module). z.table) g) (ap (λ (z : Module). z.t) g)

            pub call_restarted : restarts d ≡ true → {l : List (Option Message)} → l ≡ kept_to T x.own channel_limit q.messages
                → {y : Module} → y ≡ refilled_to x.own channel_limit (record { table = q.table; t = q.t; messages = l; queues = q.queues; partitions = set q.partitions x.slot p }) → After m x.request x.current x.time y b
            call_restarted n {l} kept {y} g =
                let w = called_same in
                let u : Module = record { table = q.table; t = q.t; messages = l; queues = q.queues; partitions = set q.partitions x.slot p } in
                let z = refilled_sizes x.own channel_limit u in
                stores (g ∙ rw (after, kept, own_is, w, ← f.same, (calls inside).slot) (sym (after_restarted m k d n)))
                (ap (λ (v : Module). length v.partitions) g ∙ z.partitions ∙ rw w (length-set m.partitions x.slot p ∙ f.long))
                (ap (λ (v : Module). length v.messages) g ∙ z.messages ∙ rw (kept, w) (kept_long T x.own channel_limit m.messages ∙ f.held.0), ap (λ (v : Module). length v.queues) g ∙ z.queues ∙ rw w f.held.1)
                (ap (λ (v : Module). v.table) g ∙ refilled_table x.own channel_limit u) (ap (λ (v : Module). v.t) g ∙ refilled_time x.own channel_limit u)

  -- what is decided of the event: of a call the machine's decision, and of no call its code
  pub record Decides (d : Decision) : Type 0 where
    pub call : x.slot < partition_limit → d ≡ decision m r
    pub none : partition_limit ≤ x.slot → d ≡ Refused x.code

  -- ------------------------------------------------------------ the answer
  pub shown_spot : x.shown < partition_limit → x.shown ≡ x.spot
  shown_spot h = either (sees r x.current)
      (λ z. shown_is ∙ rw z (sym spot_is))
      (λ z. let w : x.shown ≡ partition_limit = shown_is ∙ rw z in absurd (omega arith))

  -- y is the record after the event, and n the running process of the current partition, where it has one
  module _ {y : Module} {b : Reply} (done : After m x.request x.current x.time y b) where
    none_past : partition_limit ≤ x.spot → running_in x.current y ≡ 0
    unfolding running
    none_past h = by_test (λ (n : ℕ). n ≡ 0) (eqb x.current 0) (λ _. refl)
        (λ z.
        let w : x.spot ≡ x.current - 1 = spot_is ∙ rw z in
        let e : part y (x.current - 1) ≡ no_partition = get_or-eq_default y.partitions no_partition (omega (arith, done.long)) in
        rw e)

    spot_running : x.spot < partition_limit → running (part y x.spot) ≡ running_in x.current y
    spot_running h = either (eqb x.current 0)
        (λ z. let w : x.spot ≡ partition_limit = spot_is ∙ rw z in absurd (omega arith))
        (λ z. let w : x.spot ≡ x.current - 1 = spot_is ∙ rw z in rw (z, w))

    -- what is shown
    pub runs_shown : x.shown < partition_limit → {n : ℕ} → n ≡ running (part y x.spot) → n ≡ cond (sees x.request x.current) (running_in x.current y) 0
    runs_shown h {n} e = either (sees r x.current)
        (λ z. e ∙ rw (request_is, z) (spot_running (rw (shown_spot h) at h)))
        (λ z. let w : x.shown ≡ partition_limit = shown_is ∙ rw z in absurd (omega arith))

    pub none_shown : partition_limit ≤ x.shown → 0 ≡ cond (sees x.request x.current) (running_in x.current y) 0
    none_shown h = either (sees r x.current)
        (λ z. let w : x.shown ≡ x.spot = shown_is ∙ rw z (sym spot_is) in rw (request_is, z) (sym (none_past (rw w at h))))
        (λ z. rw (request_is, z))

    -- the answer is read off the record after the event
    pub event_answered : {n : ℕ} → n ≡ cond (sees x.request x.current) (running_in x.current y) 0 → {a : Answer} → a ≡ answer_of b y.t x.current n → record { executive = record { inner = y }; answer = a } ≡ turned (step m e)
    unfolding step
    event_answered {n} shows {a} says = answered_is m x.request x.current x.time y b done n a shows says ∙ ap (λ (v : Request). turned (stepped m v (decision m v))) request_is

-- ---------------------------------------------------------------- the waiting time
-- the two numbers are passed on by their bits
pub awaited : (T : Table) (t k : ℤ) (w : Waiting) → SFits w64 t → SFits w64 k → w ≡ waiting_of T (to_z w64 (of_z w64 t)) (to_z w64 (of_z w64 k)) → w ≡ waiting_of T t k
awaited T t k w f g e = rw (to_z-of_z w64 t f, to_z-of_z w64 k g) at e
