-- The account of a buffer, for every list of events from a fresh module. Assumes nothing.
use Rattle.machine.specs.Mode.{mode_number}
use Prim.Native.Nat.{ℕ, ◌+◌, ◌-◌, ◌≤◌, ◌<◌}
use mathlib.Core.Path.{◌≡◌, refl, ap, sym, ◌∙◌}
use mathlib.Core.Bool.{true, false, not, ◌&&◌, and-false, or-true}
use mathlib.Core.List.{List, [], ◌∷◌, append-nil}
use mathlib.Core.Logic.{◌⊎◌, inl, inr, ⊎_elim}
use native.Mathlib.Omega.{arith}
use lib.ListN.{length, get_or, set, drop}
use lib.Dec.{eqb, leb}
use lib.Seq.{get_or-set_same, get_or-set_other}
use lib.IntN.{ℤ, pos, negsuc}
use borrow.Author.Tests.{eq-eqb, ne_eqb, eqb-true, leb-true, ltb-true, ltb-false, leb-false, not-false}
use Rattle.machine.specs.declared.Process.{Process}
use Rattle.machine.specs.declared.Buffer.{Buffer}
use Rattle.machine.specs.declared.Transfer.{Transfer}
use Rattle.machine.specs.declared.Transfer.TheVariants.{Put, Taken, LetIn}
use Rattle.machine.specs.declared.Change.TheVariants.{Moved}
use Rattle.machine.specs.declared.Partition.{Partition}
use Rattle.machine.specs.declared.Event.{Event as EventT}
use Rattle.machine.specs.declared.Module.{Module}
use Rattle.machine.specs.declared.Decision.{Decision}
use Rattle.machine.specs.declared.Decision.TheVariants.{Refused, Unchanged, Ticked, Blocked, Changed, Restarted, Written, Passed as PassedOn}
use Rattle.machine.specs.Time.{Time}
use Rattle.std.specs.Prelude.{Some}
use Rattle.machine.specs.declared.Wait.{Wait}
use Rattle.machine.specs.declared.Wait.TheVariants.{Sending, Receiving}
use Rattle.machine.specs.declared.Request.{Request}
use Rattle.machine.specs.declared.Port.{Port}
use Rattle.machine.specs.declared.Context.{Context}
use Rattle.machine.specs.Channels.{other_queue, port_of, passed}
use Rattle.machine.specs.Services.{services, call_decision}
use Rattle.machine.specs.Table.{read_table}
use Rattle.machine.specs.declared.Stepped.{Stepped}
use Rattle.machine.specs.declared.Table.{Table}
use Rattle.machine.specs.declared.Field.{Field}
use Rattle.machine.specs.declared.Field.TheVariants.{Number, MinusOne, Other}
use Rattle.machine.specs.Limits.{call_limit, duration_limit, buffer_limit}
use Rattle.machine.specs.Fields.{field, request_of, is_number, between, is_message, number_of, time_of}
use Rattle.machine.specs.Messages.{held, first, sent, received}
use Rattle.machine.specs.Process.{class_of, carried_in, carried, object, served, handed, waiting_for, later}
use Rattle.machine.specs.Partition.{no_buffer, process, buffer, empty_buffer, stored_buffer, moved_in, normal_mode, running, waiters, stored, applied, tick_partition}
use Rattle.machine.specs.Runs.{next, after}
use Rattle.machine.specs.Theorems.LeftRight.{is_tick, is_zero}
use Rattle.machine.specs.Decisions.{reply_of, changed, blocked, queued, awaiting}
use Rattle.machine.specs.Buffers.{create_buffer, has_room, holds, send_buffer, receive_buffer}
use Rattle.machine.specs.Buffers as Bu
use Rattle.machine.specs.Module.{no_partition, empty_module, channel, part, with_part, with_message}
use Rattle.machine.specs.Ticks.{tick_module}
use Rattle.machine.specs.Places.{malformed, one_zero, ticks}
use Rattle.machine.specs.Step.{context_of, decision, module_after, step}
use Rattle.machine.specs.Theorems.Events.{own, call_by}
use Rattle.machine.specs.Theorems.Valid.{Between, SoundMove, ListedIn, Valid, SoundContext, SoundDecision, SoundModule, Reached}
use Rattle.machine.specs.Theorems.Plain.{plain_number, plain_between, plain_moved}
use Rattle.machine.specs.Theorems.Queues.{queue_number, NoneWaits}
use Rattle.machine.specs.Theorems.Account.{is_call, code_at, restarts_by, erases, erased, message_in, Flow, buffer_flow, is_send, is_receive, sending, gives_up, Balances}
use Rattle.machine.proofs.Tests.{by_test, by_codes, Passed, not_both, and_left, and_right, or_left, or_right}
use Rattle.machine.proofs.Fields.{in_limits}
use Rattle.machine.proofs.Lists.{cons_not}
use Rattle.machine.proofs.Sound.{carried_sound}
use Rattle.machine.proofs.Bounds.{not_so, same_or_not, within_in, named_same, buffer_in}
use Rattle.machine.proofs.Either.{either}
use Rattle.machine.proofs.Messages.{queue_first}
use Rattle.machine.proofs.Moves as Mo
use Rattle.machine.proofs.Flows as Fl
use Rattle.machine.proofs.Passing.{joined_same, joined_still, joined_queue, gone_queue, gone_first, gone_same, gone_still, handed_one}
use Rattle.machine.proofs.Fairness.{part_none, unknown_unwaited}
use Rattle.machine.proofs.Available.{none_waits}
use Rattle.machine.proofs.Orders.{Part, part_whole, part_waits, part_trans, queue_of_holds, tick_part, change_part, stored_part, buffer_queue, joins_last, Orderly}
use Rattle.machine.proofs.Queues.{first_created}
use Rattle.machine.proofs.EveryCall.{call_order}
use Rattle.machine.proofs.Dispatch.{place_code, Calls, by_event}
use Rattle.machine.proofs.Bodies.{OnQueue, Bodily, body_refusal}
use Rattle.machine.proofs.Kept.{Caller, tick_valid, change_valid, normal_caller, in_normal}
use Rattle.machine.proofs.Keeping.{stored_listed, stored_rest, process_stored}
use Rattle.machine.proofs.Refusals.{call_in_range}
use Rattle.machine.proofs.Plain.{lossless, empty_refused}
use Rattle.machine.proofs.Answers.{decided_table}
use Rattle.machine.proofs.Calling.{field_number, number_is, number_of_holds}
use Rattle.machine.proofs.Reached.{on_queue_holds, tick_each, place, context_sound, made, made_sound, made_body, reached_valid, valid_sound}
use Rattle.machine.proofs.Calmness.{Leaves, leaves_same, OfSenders, Stays, stays_same, tick_stays, changed_stays, blocked_stays, Calm, on_queue_holds as waits_there}
use Rattle.machine.proofs.Senders.{passed_leaves, restart_leaves}
use Rattle.machine.proofs.EveryCall.{call_calm}

-- ---------------------------------------------------------------- lists
pub empty_of : (l : List ℕ) → length l ≡ 0 → l ≡ []
empty_of [] h = refl
empty_of (x ∷ l) h = absurd (omega arith)

pub first_rest : (l : List ℕ) → 1 ≤ length l → l ≡ get_or l 0 0 ∷ drop 1 l
first_rest [] h = absurd (omega arith)
first_rest (x ∷ l) h = refl

-- ---------------------------------------------------------------- one event
of_buffers : OfSenders 3
of_buffers = record { low = omega arith; receivers = λ z. omega arith; readers = λ z. omega arith; ends = λ z. omega arith }

module _ (k j : ℕ) where
  abbrev o : ℕ
  o = queue_number 3 j

  abbrev flow : Flow
  flow = buffer_flow k j

  module _ (m : Module) (e : EventT) (es : List EventT) where
    record Even (q : Module) (code value : ℕ) : Type 0 where
      is : Fl.Even flow m e es q code value
      count : (own m k).buffer_count ≤ (own q k).buffer_count

    -- what stays of a buffer and its senders, where nothing is sent and nothing received
    module _ (low : j ≤ 16) where
      some : o ≡ 0 → ⊥
      some z = omega arith

      stays_quiet : (q : Module) (n : ℕ) → Stays 3 j of_buffers low n (own m k) (own q k) → ListedIn (own q k) → Part (waiters o (own m k)) (waiters o (own q k))
          → (code value : ℕ) → restarts_by k e code ≡ false → (is_receive flow e && eqb code 0) ≡ false → (n ≡ 5 → gives_up flow e code ≡ true) → Fl.sent_by flow m e es q code ≡ [] → Fl.received_by flow m e es q code value ≡ [] → Even q code value
      stays_quiet q n s v a code value on none ends sn rc = record {
        is = Fl.quiet_even flow m e es q code value on none (ap (λ (b : Buffer). held b.queue) (s.same refl)) (part_waits o (own q k) (queue_of_holds (own q k) v o some) (waiters o (own m k)) a)
            (λ id c h. ap (λ (w : Wait). carried_in (class_of w)) ((s.waits id).0 (eqb-true _ o h)))
            (λ id c h. ⊎_elim (λ (z : object (process id (own q k)).wait ≡ o). not_both _ (eq-eqb _ o z) h) ends ((s.waits id).1 (waits_there (own m k) o id c)))
            sn rc;
        count = s.count;
      }

      -- a record in which the buffer and its senders are left
      leaves_even : (q : Module) → Leaves 3 j of_buffers low (own m k) (own q k) → (code value : ℕ) → restarts_by k e code ≡ false → (is_receive flow e && eqb code 0) ≡ false → Fl.sent_by flow m e es q code ≡ [] → Fl.received_by flow m e es q code value ≡ [] → Even q code value
      leaves_even q h code value on none = stays_quiet q 0 h.stays h.lists h.part code value on none (λ z. absurd (omega arith))

      -- a record in which the partition is as it was
      left_even : (q : Module) → own q k ≡ own m k → ListedIn (own m k) → (code value : ℕ) → restarts_by k e code ≡ false → (is_receive flow e && eqb code 0) ≡ false → Fl.sent_by flow m e es q code ≡ [] → Fl.received_by flow m e es q code value ≡ [] → Even q code value
      left_even q is v code value on none = stays_quiet q 0 (rw is (stays_same 3 j of_buffers low 0 (own m k))) (rw is v) (rw is (part_whole (waiters o (own m k)))) code value on none (λ z. absurd (omega arith))

    -- a code other than 0 and 7
    refused_even : (low : j ≤ 16) → ListedIn (own m k) → (n : ℕ) → eqb n 0 ≡ false → eqb n 7 ≡ false → Even m n 0
    refused_even low v n z w = left_even low m refl v n 0 (rw (z, and-false (plain_between 0 2 e.a), and-false (is_call k 1 e))) (rw (z, and-false (is_receive flow e))) (Fl.refused_sent flow m e es m n z w) (Fl.refused_received flow m e es m n 0 z)

-- ---------------------------------------------------------------- the numbers of an event
number_zero : (size : ℕ) (f : Field) → between 0 size f ≡ true → number_of f ≡ 0 → is_number 0 f ≡ true
number_zero size (Number n) h e = eq-eqb n 0 e
number_zero size MinusOne h e = not_both _ h refl
number_zero size Other h e = not_both _ h refl

pub tick_is : (T : Table) (e : EventT) → malformed T (request_of e) ≡ false → ticks (request_of e) ≡ true → is_tick e ≡ true
tick_is T e h t =
    let r = request_of e in
    let h2 = or_right (eqb T.size 0) _ h in
    let h3 = or_right (not (between 0 T.size r.partition)) _ h2 in
    let h4 = or_right (not (between 0 call_limit r.call)) _ h3 in
    let z = number_zero T.size r.partition (not-false _ (or_left (not (between 0 T.size r.partition)) _ h2)) (eqb-true _ 0 t) in
    let one : one_zero r ≡ false = or_left (one_zero r) _ h4 in
    let w : is_number 0 r.call ≡ true = not-false _ (rw z at one) in
    rw (number_is e.partition 0 z, number_is e.call 0 w)

-- call x of partition k
pub call_of : (z w : ℤ) (k n x : ℕ) → z ≡ pos k → w ≡ pos n → (plain_number k z && plain_number x w) ≡ eqb n x
call_of z w k n x a b = rw (a, b, eq-eqb k k refl)

pub number_test : (z : ℤ) (n x : ℕ) → z ≡ pos n → plain_number x z ≡ eqb n x
number_test z n x e = rw e

pub plain_is : (z : ℤ) (x : ℕ) → plain_number x z ≡ true → z ≡ pos x
plain_is (pos n) x h = ap pos (eqb-true n x h)
plain_is (negsuc n) x h = not_both _ h refl

pub no_zero : (z : ℤ) (k : ℕ) → z ≡ pos k → (k ≡ 0 → ⊥) → is_zero z ≡ false
no_zero z k e h = rw e (ne_eqb k 0 h)

-- two numbers are these, or not both
both : (n x a j : ℕ) → ((n ≡ x) × (a ≡ j)) ⊎ (n ≡ x → a ≡ j → ⊥)
both n x a j = ⊎_elim
    (λ (p : n ≡ x). ⊎_elim (λ (q : a ≡ j). inl (p, q)) (λ (q : a ≡ j → ⊥). inr (λ _ z. q z)) (same_or_not a j))
    (λ (p : n ≡ x → ⊥). inr (λ z _. p z))
    (same_or_not n x)

call_send : (c : Context) (x : Port) (r : Request) (p : Partition) → call_decision c x 24 r p ≡ send_buffer c (number_of r.a) r.b r.c p
unfolding call_decision services
call_send c x r p = refl

call_receive : (c : Context) (x : Port) (r : Request) (p : Partition) → call_decision c x 25 r p ≡ receive_buffer c (number_of r.a) r.b p
unfolding call_decision services
call_receive c x r p = refl

-- a message in range is that of its field
pub message_is : (z : ℤ) → is_message (field z) ≡ true → message_in z ≡ number_of (field z)
message_is z h = go (field z) refl h
  where
    go : (f : Field) → field z ≡ f → is_message f ≡ true → message_in z ≡ number_of f
    go (Number n) e h = ap message_in (number_is z n (rw e (eq-eqb n n refl)))
    go MinusOne e h = not_both _ h refl
    go Other e h = not_both _ h refl

-- those at the ends of a channel do not wait for a buffer
other_queue_holds : (m : Module) → SoundModule m → (e : EventT) (c : Calls m (request_of e)) → let r = request_of e in
    let i = number_of r.partition in
    (a : ℕ) (y : Transfer) (v : ℕ) → OnQueue (port_of m i r) (number_of r.call) a y v → (j : ℕ) → j ≤ 16 → other_queue i a (channel m.table a) ≡ queue_number 3 j → ⊥
other_queue_holds m s e c a y v b j low =
    let r = request_of e in
    let i = number_of r.partition in
    let there = (on_queue_holds m s r c a y v b).there in
    by_test (λ (o : ℕ). o ≡ queue_number 3 j → ⊥) (eqb (channel m.table a).source i) (λ _ z. omega (arith, there, s.table.channel_count)) (λ _ z. omega (arith, there, s.table.channel_count))

-- ---------------------------------------------------------------- an event that leaves the buffer
module _ (k j : ℕ) (m : Module) (s : SoundModule m) (e : EventT) (es : List EventT) (some : 1 ≤ k) (inside : k - 1 < m.table.size) (known : Between 1 (own m k).buffer_count j) where
  valid : Valid m.table.frame m.t (own m k)
  valid = s.each_partition (k - 1) inside

  low : j ≤ 16
  low = omega (arith, known.1, valid.objects.buffers.numbered.few)

  -- refused before its body
  place_even : (n : ℕ) → place_code n ≡ true → Even k j m e es m n 0
  place_even n h =
      let u = leb-true 8 n (and_left (leb 8 n) (leb n 13) h) in
      refused_even k j m e es low valid.lists n (ne_eqb n 0 (λ z. omega arith)) (ne_eqb n 7 (λ z. omega arith))

  -- a tick
  tick_even : is_tick e ≡ true → Even k j m e es (tick_module m) 0 0
  tick_even t =
      let p = own m k in
      let q = tick_partition (m.t + 1) p in
      let is : own (tick_module m) k ≡ q = tick_each m s (k - 1) inside in
      let v = (tick_valid m.table.frame m.t p valid).lists in
      let zero : e.partition ≡ pos 0 = is_zero_holds e.partition (and_left (is_zero e.partition) _ t) in
      let other : eqb 0 k ≡ false = ne_eqb 0 k (λ z. omega arith) in
      let no_send_holds : is_send (buffer_flow k j) e ≡ false = rw (zero, other) in
      let no_receive_holds : is_receive (buffer_flow k j) e ≡ false = rw (zero, other) in
      stays_quiet k j m e es low (tick_module m) 5 (rw is (tick_stays 3 j of_buffers low (m.t + 1) p valid.lists)) (rw is v)
      (rw is (tick_part (queue_number 3 j) (λ z. omega arith) (m.t + 1) p valid.lists))
      0 0 (rw (zero, other)) (rw no_receive_holds) (λ _. rw t) (Fl.no_sent (buffer_flow k j) m e es (tick_module m) 0 no_send_holds) (Fl.no_received (buffer_flow k j) m e es (tick_module m) 0 0 no_send_holds no_receive_holds)
    where
      is_zero_holds : (z : ℤ) → is_zero z ≡ true → z ≡ pos 0
      is_zero_holds (pos n) h = ap pos (eqb-true n 0 h)
      is_zero_holds (negsuc n) h = not_both _ h refl

  -- a call of another partition
  module _ (c : Calls m (request_of e)) (ne : number_of (request_of e).partition ≡ k → ⊥) where
    abbrev i : ℕ
    i = number_of (request_of e).partition

    same_leaves : Leaves 3 j of_buffers low (own m k) (own m k)
    same_leaves = leaves_same 3 j of_buffers low (own m k) valid.lists

    other_own : (p : Partition) → get_or (set m.partitions (i - 1) p) (k - 1) no_partition ≡ own m k
    other_own p = let f = c.some in get_or-set_other m.partitions (i - 1) (k - 1) p no_partition (λ z. ne (omega arith))

    other_leaves : (d : Decision) → SoundDecision (context_of m i) (part m (i - 1)) d → Bodily (port_of m i (request_of e)) (number_of (request_of e).call) d → Leaves 3 j of_buffers low (own m k) (own (module_after m i d) k)
    other_leaves (Refused a) h b = same_leaves
    other_leaves (Unchanged a y) h b = same_leaves
    other_leaves Ticked h b = absurd b
    other_leaves (Blocked id y) h b = rw (other_own (stored id y (part m (i - 1)))) same_leaves
    other_leaves (Changed a y v) h b = rw (other_own (applied y (applied a (part m (i - 1))))) same_leaves
    other_leaves (Restarted mode) h b = restart_leaves 3 j of_buffers low m s (request_of e) c k inside (mode_number mode) h ne some (λ _ _ z. omega (arith, low))
    other_leaves (Written a y) h b = same_leaves
    other_leaves (PassedOn a y v) h b = passed_leaves 3 j of_buffers low m s (request_of e) c k inside a y v b (other_queue_holds m s e c a y v b j low)

    other_even : (d : Decision) → SoundDecision (context_of m i) (part m (i - 1)) d → Bodily (port_of m i (request_of e)) (number_of (request_of e).call) d → Even k j m e es (module_after m i d) (reply_of d).code (reply_of d).value
    other_even d h b =
        let is = number_of_holds e.partition c.some in
        let other : eqb i k ≡ false = ne_eqb i k ne in
        let no_send_holds : is_send (buffer_flow k j) e ≡ false = rw (is, other) in
        let no_receive_holds : is_receive (buffer_flow k j) e ≡ false = rw (is, other) in
        leaves_even k j m e es low (module_after m i d) (other_leaves d h b) (reply_of d).code (reply_of d).value (rw (is, other)) (rw no_receive_holds) (Fl.no_sent (buffer_flow k j) m e es (module_after m i d) (reply_of d).code no_send_holds) (Fl.no_received (buffer_flow k j) m e es (module_after m i d) (reply_of d).code (reply_of d).value no_send_holds no_receive_holds)

-- ---------------------------------------------------------------- a call of the buffer's partition
module _ (j : ℕ) (m : Module) (s : SoundModule m) (e : EventT) (es : List EventT) (c : Calls m (request_of e)) where
  abbrev r : Request
  r = request_of e

  abbrev k : ℕ
  k = number_of r.partition

  abbrev n : ℕ
  n = number_of r.call

  abbrev p : Partition
  p = own m k

  abbrev ctx : Context
  ctx = context_of m k

  here : k - 1 < m.table.size
  here = place m s r c

  own_valid : Valid m.table.frame m.t p
  own_valid = s.each_partition (k - 1) here

  sound_ctx : SoundContext ctx p
  sound_ctx = context_sound m s r c

  partition_is : e.partition ≡ pos k
  partition_is = number_of_holds e.partition c.some

  call_is : e.call ≡ pos n
  call_is = let u = call_in_range m.table r c.formed (ne_eqb k 0 c.some) in number_of_holds e.call (λ z. omega (arith, u.0))

  is_call_holds : (x : ℕ) → is_call k x e ≡ eqb n x
  is_call_holds x = call_of e.partition e.call k n x partition_is call_is

  put : (q : Partition) → own (with_part (k - 1) q m) k ≡ q
  put q = get_or-set_same m.partitions (k - 1) q no_partition (omega (arith, here, s.partitions_size, s.table.size.1))

  module _ (known : Between 1 p.buffer_count j) (none : NoneWaits p) where
    few : j ≤ 16
    few = omega (arith, known.1, own_valid.objects.buffers.numbered.few)

    abbrev senders : ℕ
    senders = queue_number 3 j

    is_some : senders ≡ 0 → ⊥
    is_some z = omega arith

    record EvenAfter (d : Decision) : Type 0 where
      is : Even k j m e es (module_after m k d) (reply_of d).code (reply_of d).value

    abbrev flow_is : Flow
    flow_is = buffer_flow k j

    -- the partition has the record q then
    stored_even : (q : Partition) (x : ℕ) → Stays 3 j of_buffers few x p q → ListedIn q → Part (waiters senders p) (waiters senders q)
        → (code value : ℕ) → restarts_by k e code ≡ false → (is_receive flow_is e && eqb code 0) ≡ false → (x ≡ 5 → gives_up flow_is e code ≡ true) → Fl.sent_by flow_is m e es (with_part (k - 1) q m) code ≡ [] → Fl.received_by flow_is m e es (with_part (k - 1) q m) code value ≡ [] → Even k j m e es (with_part (k - 1) q m) code value
    stored_even q x st v a =
        stays_quiet k j m e es few (with_part (k - 1) q m) x (rw (put q) st) (rw (put q) v) (rw (put q) a)

    -- the caller waits, and not to send
    waits_even : (id : ℕ) (x : Process) → Caller id p → (object x.wait ≡ senders → ⊥) → (code value : ℕ) → restarts_by k e code ≡ false → (is_receive flow_is e && eqb code 0) ≡ false → Fl.sent_by flow_is m e es (with_part (k - 1) (stored id x p) m) code ≡ [] → Fl.received_by flow_is m e es (with_part (k - 1) (stored id x p) m) code value ≡ [] → Even k j m e es (with_part (k - 1) (stored id x p) m) code value
    waits_even id x q ne code value on none =
        let v = own_valid.lists in
        let same : waiters senders (stored id x p) ≡ waiters senders p = joins_last senders is_some p v id q.created x q.is_ready ∙ rw (ne_eqb (object x.wait) senders ne) (append-nil (waiters senders p)) in
        stored_even (stored id x p) 0 (blocked_stays 3 j of_buffers few 0 p v id q.created x q.is_ready ne) (stored_listed p id x v q.created) (rw same (part_whole (waiters senders p))) code value on none (λ z. absurd (omega arith))

    caller_in : normal_mode p ≡ true → Caller (running p) p
    caller_in h = normal_caller ctx p own_valid sound_ctx h

    -- an accepted mode 0, 1 or 2
    call_one : (x : ℕ) → eqb n x ≡ false → is_call k x e ≡ false
    call_one x h = is_call_holds x ∙ h

    -- what leaves the buffer
    calm_even : (d : Decision) → SoundDecision ctx p d → Bodily (port_of m k r) n d → Orderly ctx p d → Calm 3 j of_buffers few n r.a p d → erases k m e ≡ false → code_at m e ≡ (reply_of d).code
        → is_send flow_is e ≡ false → is_receive flow_is e ≡ false → Even k j m e es (module_after m k d) (reply_of d).code (reply_of d).value
    calm_even d h b g f lasts is no_send_holds no_receive_holds = go d h b g f is (λ q code. Fl.no_sent flow_is m e es q code no_send_holds) (λ q code value. Fl.no_received flow_is m e es q code value no_send_holds no_receive_holds)
      where
        five : (code : ℕ) → n ≡ 5 → gives_up flow_is e code ≡ true
        five code z = rw (is_call_holds 5, eq-eqb n 5 z) (or-true (is_tick e))

        no_one : (code : ℕ) → (is_receive flow_is e && eqb code 0) ≡ false
        no_one code = rw no_receive_holds

        on : (code : ℕ) → code_at m e ≡ code → restarts_by k e code ≡ false
        on code is = ap (restarts_by k e) (sym is) ∙ lasts

        go : (d : Decision) → SoundDecision ctx p d → Bodily (port_of m k r) n d → Orderly ctx p d → Calm 3 j of_buffers few n r.a p d → code_at m e ≡ (reply_of d).code
            → ((q : Module) (code : ℕ) → Fl.sent_by flow_is m e es q code ≡ []) → ((q : Module) (code value : ℕ) → Fl.received_by flow_is m e es q code value ≡ []) → Even k j m e es (module_after m k d) (reply_of d).code (reply_of d).value
        go (Refused a) h b g f is sn rc = left_even k j m e es few m refl own_valid.lists a 0 (on a is) (no_one a) (sn m a) (rc m a 0)
        go (Unchanged a y) h b g f is sn rc = left_even k j m e es few m refl own_valid.lists 0 a (on 0 is) (no_one 0) (sn m 0) (rc m 0 a)
        go Ticked h b g f is sn rc = absurd b
        go (Blocked id x) h b g f is sn rc = let q : Caller id p = rw g.0 (caller_in g.1) in waits_even id x q f 7 0 (on 7 is) (no_one 7) (sn (with_part (k - 1) (stored id x p) m) 7) (rc (with_part (k - 1) (stored id x p) m) 7 0)
        go (Changed x y v) h b g f is sn rc =
            let w = change_valid ctx sound_ctx p own_valid x h.0 in
            let q = applied y (applied x p) in
            stored_even q n (changed_stays 3 j of_buffers few n ctx sound_ctx p own_valid x y h.0 h.1 f.0 f.1) (change_valid ctx sound_ctx (applied x p) w y h.1).lists
            (part_trans (change_part senders is_some ctx p own_valid x h.0 g.0) (change_part senders is_some ctx (applied x p) w y h.1 g.1))
            0 v (on 0 is) (no_one 0) (five 0) (sn (with_part (k - 1) q m) 0) (rc (with_part (k - 1) q m) 0 v)
        go (Restarted mode) h b g f is sn rc = not_both _ (rw (is_call_holds 1, eq-eqb n 1 f.0, ← (lossless e.a).between 0 2 (omega arith), f.1, is)) lasts
        go (Written a y) h b g f is sn rc = left_even k j m e es few (with_message a (Some y) m) refl own_valid.lists 0 0 (on 0 is) (no_one 0) (sn (with_message a (Some y) m) 0) (rc (with_message a (Some y) m) 0 0)
        go (PassedOn a y v) h b g f is sn rc = leaves_even k j m e es few (passed k a y m) (passed_leaves 3 j of_buffers few m s r c k here a y v b (other_queue_holds m s e c a y v b j few)) 0 v (on 0 is) (no_one 0) (sn (passed k a y m) 0) (rc (passed k a y m) 0 v)

    -- ------------------------------------------------------------ the buffer's messages and queues
    abbrev now : Buffer
    now = buffer j p

    abbrev messages : List ℕ
    messages = held now.queue

    abbrev size : length messages ≡ now.queue.len
    size = Mo.size m.table.frame m.t p own_valid j known

    -- the record after the buffer's messages moved, and then a wait ended
    abbrev moving : Transfer → Partition
    moving a = stored_buffer j (moved_in a now) p

    moving_held : (a : Transfer) → SoundMove now.limit now.queue a → held (buffer j (moving a)).queue ≡ plain_moved a messages
    moving_held a = Mo.moving_held m.table.frame m.t p own_valid j known a

    moving_queue : (a : Transfer) → waiters senders (moving a) ≡ waiters senders p
    moving_queue a = Mo.moving_queue m.table.frame m.t p own_valid j known a senders is_some

    moving_count : (a : Transfer) → p.buffer_count ≤ (moving a).buffer_count
    moving_count a = Mo.moving_count m.table.frame m.t p own_valid j known a

    -- who waits to send then, and what is held
    sending_after : (q : Partition) → sending flow_is (with_part (k - 1) q m) ≡ waiters senders q
    sending_after q = ap (waiters senders) (put q)

    held_after_holds : (q : Partition) (l : List ℕ) → held (buffer j q).queue ≡ l → flow_is.holds (with_part (k - 1) q m) ≡ l
    held_after_holds q l h = ap (λ (x : Partition). held (buffer j x).queue) (put q) ∙ h

    count_after : (q : Partition) → p.buffer_count ≤ q.buffer_count → p.buffer_count ≤ (own (with_part (k - 1) q m) k).buffer_count
    count_after q h = rw (put q) h

    stored_count : (q : Partition) (id : ℕ) (x : Process) → p.buffer_count ≤ q.buffer_count → p.buffer_count ≤ (stored id x q).buffer_count
    stored_count q id x h = let f : (stored id x q).buffer_count ≡ q.buffer_count = ap (λ (r : Partition). r.buffer_count) (stored_rest q id x) in omega arith

    -- refused
    refused_by : (a : ℕ) → body_refusal a ≡ true → EvenAfter (Refused a)
    refused_by a h =
        let lo = leb-true 1 a (and_left (leb 1 a) (leb a 5) h) in
        let hi = leb-true a 5 (and_right (leb 1 a) (leb a 5) h) in
        record { is = refused_even k j m e es few own_valid.lists a (ne_eqb a 0 (λ z. omega arith)) (ne_eqb a 7 (λ z. omega arith)) }

    -- ------------------------------------------------------------ SEND
    module _ (to : is_send flow_is e ≡ true) (from : is_receive flow_is e ≡ false) (on : (code : ℕ) → restarts_by k e code ≡ false) (word : message_in e.b ≡ number_of r.b) where
      abbrev x : ℕ
      x = number_of r.b

      -- to a buffer with room
      sent_even : (l : List ℕ) → waiters (queue_number 4 j) p ≡ l → has_room now ≡ true → x ≤ duration_limit → EvenAfter (changed (Moved j (sent (get_or l 0 0) x)))
      unfolding sent
      sent_even [] h room ok =
          let q = moving (Put x) in
          let free = none 3 j room in
          record {
            is = record {
              is = Fl.put_even flow_is m e es to from on x word (with_part (k - 1) q m) free (sending_after q ∙ moving_queue (Put x) ∙ free) h (held_after_holds q _ (moving_held (Put x) (ltb-true _ _ room, ok)));
              count = count_after q (moving_count (Put x));
            };
          }
      sent_even (id ∷ l) h room ok =
          let v = own_valid.lists in
          let y = handed x (process id p) in
          let q = stored id y p in
          let free = none 3 j room in
          let b = first_created (queue_number 4 j) (λ z. omega arith) p v id l h in
          let same = Mo.handed_same m.table.frame m.t p own_valid j known id x in
          let empty : now.queue.len ≡ 0 = either (holds now) (λ t. absurd (cons_not id l (sym h ∙ none 4 j t))) (λ t. omega (arith, ltb-false 0 now.queue.len t)) in
          let nothing : messages ≡ [] = empty_of messages (size ∙ empty) in
          record {
            is = rw (ne_eqb id 0 (λ z. omega (arith, b.0)), same) (record {
              is = Fl.handed_even flow_is m e es to from on x word (with_part (k - 1) q m) nothing (held_after_holds q [] (ap (λ (z : Partition). held (buffer j z).queue) (stored_rest p id y) ∙ nothing)) free
                  (sending_after q ∙ part_none _ _ free (stored_part senders is_some p v id b y (inl refl))) (rw (put q, h) (handed_one (queue_number 4 j) (λ z. omega arith) p v id l h x));
              count = count_after q (stored_count p id y (omega arith));
            });
          }

      -- to a full one
      module _ (id : ℕ) (q : Caller id p) (until : Time) where
        abbrev waiter : Process
        waiter = waiting_for (Sending j x) until (process id p)

        abbrev joined : Partition
        joined = stored id waiter p

        abbrev full : Module
        full = with_part (k - 1) joined m

        listed : ListedIn p
        listed = own_valid.lists

        blocked_even : id ≡ running p → Even k j m e es full 7 0
        blocked_even run = record {
          is = Fl.blocked_even flow_is m e es to from on x word full id (sending_after joined ∙ joined_queue senders is_some p listed id q waiter refl) (λ y g. rw (put joined) (joined_still senders is_some p listed id q waiter refl y g)) (λ y g. rw (put joined) (ap carried (joined_same senders is_some p listed id q waiter refl y g)))
              (rw (put joined) (ap carried (process_stored p id waiter listed q.created))) run (held_after_holds joined messages (ap (λ (z : Partition). held (buffer j z).queue) (stored_rest p id waiter)));
          count = count_after joined (stored_count p id waiter (omega arith));
        }

      send_even : EvenAfter (send_buffer ctx j r.b r.c p)
      unfolding send_buffer awaiting queued blocked Passed
      send_even = by_codes EvenAfter body_refusal Refused _ _ refl refused_by (λ h.
          let ok = (in_limits 0 duration_limit r.b (and_left (is_message r.b) _ (not-false _ h.1.1.0))).1 in
          by_test EvenAfter (has_room now)
          (λ room. sent_even (waiters (queue_number 4 j) p) refl room ok)
          (λ _. by_codes EvenAfter body_refusal Refused _ _ refl refused_by (λ _. by_codes EvenAfter body_refusal Refused _ _ refl refused_by (λ _. record { is = blocked_even (running p) (caller_in (in_normal ctx p own_valid sound_ctx h.1.0)) (later (Some m.t) (time_of r.c)) refl }))))

    -- ------------------------------------------------------------ RECEIVE
    module _ (to : is_send flow_is e ≡ false) (from : is_receive flow_is e ≡ true) (on : (code : ℕ) → restarts_by k e code ≡ false) (Stays-on : gives_up flow_is e 0 ≡ false) where
      abbrev value : ℕ
      value = first now.queue

      value_first : holds now ≡ true → messages ≡ value ∷ drop 1 messages
      value_first some = first_rest messages (omega (arith, size, ltb-true 0 now.queue.len some)) ∙ ap (λ a. a ∷ drop 1 messages) (sym (queue_first now.limit now.queue (Mo.sound m.table.frame m.t p own_valid j known).queue))

      -- with a waiting sender: its message is let in at the end, and the others go on waiting
      module _ (id : ℕ) (l : List ℕ) (h : waiters senders p ≡ id ∷ l) where
        abbrev sender : Process
        sender = process id p

        abbrev a : Transfer
        a = LetIn id (carried sender)

        abbrev let_in_holds : Partition
        let_in_holds = stored id (served (process id (moving a))) (moving a)

        abbrev served_module : Module
        served_module = with_part (k - 1) let_in_holds m

        moving_listed : ListedIn (moving a)
        moving_listed = Mo.moving_listed m.table.frame m.t p own_valid j known a

        moving_process : (y : ℕ) → process y (moving a) ≡ process y p
        moving_process y = Mo.moving_process m.table.frame m.t p own_valid j known a y

        sender_created : Between 1 p.process_count id
        sender_created = first_created senders is_some p own_valid.lists id l h

        queue_then : waiters senders (moving a) ≡ id ∷ l
        queue_then = moving_queue a ∙ h

        abbrev ended : Process
        ended = served (process id (moving a))

        let_in_even : holds now ≡ true → Even k j m e es served_module 0 value
        let_in_even some =
            let small = carried_sound _ sender (own_valid.each_process id sender_created) in
            record {
              is = Fl.let_in_even flow_is m e es to from (on 0) served_module value (drop 1 messages) (value_first some) id l h (sending_after let_in_holds ∙ gone_queue senders is_some (moving a) moving_listed id l queue_then ended refl) (rw (put let_in_holds) (gone_first senders is_some (moving a) moving_listed id l queue_then ended refl)) Stays-on
                  (λ y g. rw (put let_in_holds) (gone_still senders is_some (moving a) moving_listed id l queue_then ended refl y g)) (λ y g. rw (put let_in_holds) (ap carried (gone_same senders is_some (moving a) moving_listed id l queue_then ended refl y g ∙ moving_process y))) (held_after_holds let_in_holds _ (Mo.moving_stored m.table.frame m.t p own_valid j known a id (served (process id (moving a))) (ltb-true 0 _ some, small)));
              count = count_after let_in_holds (stored_count (moving a) id (served (process id (moving a))) (moving_count a));
            }

      received_even : (l : List ℕ) → waiters senders p ≡ l → holds now ≡ true → EvenAfter (Bu.receives (get_or l 0 0) j p)
      unfolding received
      received_even [] h some =
          let q = moving Taken in
          record {
            is = record {
              is = Fl.taken_even flow_is m e es to from (on 0) (with_part (k - 1) q m) value (drop 1 messages) (value_first some) h (sending_after q ∙ moving_queue Taken ∙ h) (held_after_holds q _ (moving_held Taken (ltb-true 0 _ some)));
              count = count_after q (moving_count Taken);
            };
          }
      received_even (id ∷ l) h some = record { is = rw (ne_eqb id 0 (λ z. let b = sender_created id l h in omega (arith, b.0))) (let_in_even id l h some) }

      receive_even : EvenAfter (receive_buffer ctx j r.b p)
      unfolding receive_buffer awaiting queued blocked Passed
      receive_even = by_codes EvenAfter body_refusal Refused _ _ refl refused_by (λ h.
          by_test EvenAfter (holds now)
          (λ some. received_even (waiters senders p) refl some)
          (λ _. by_codes EvenAfter body_refusal Refused _ _ refl refused_by (λ _. by_codes EvenAfter body_refusal Refused _ _ refl refused_by (λ _.
          let x = waiting_for (Receiving j) (later (Some m.t) (time_of r.b)) (process (running p) p) in
          let q = with_part (k - 1) (stored (running p) x p) m in
          record { is = waits_even (running p) x (caller_in (in_normal ctx p own_valid sound_ctx h.1.0)) (λ z. omega arith) 7 0 (on 7) (and-false (is_receive flow_is e)) (Fl.no_sent flow_is m e es q 7 to) (Fl.refused_received flow_is m e es q 7 0 refl) }))))

    -- ------------------------------------------------------------ every call
    -- a SEND with a bad message is refused
    bad_message : is_message r.b ≡ false → EvenAfter (send_buffer ctx j r.b r.c p)
    unfolding send_buffer awaiting Passed
    bad_message bad = by_codes EvenAfter body_refusal Refused _ _ refl refused_by (λ h. not_both _ (and_left (is_message r.b) _ (not-false _ h.1.1.0)) bad)

    number_in : number_of r.a ≡ j → plain_number j e.a ≡ true
    number_in is = number_test e.a (number_of r.a) j (number_of_holds e.a (λ z. omega (arith, known.0))) ∙ eq-eqb (number_of r.a) j is

    -- a call of another number, or of another buffer
    no_call : (x : ℕ) → (n ≡ x → number_of r.a ≡ j → ⊥) → (is_call k x e && plain_number j e.a) ≡ false
    no_call x out = not_so _ (λ t. out
        (eqb-true n x (sym (is_call_holds x) ∙ and_left (is_call k x e) _ t))
        (ap (λ (z : ℤ). number_of (field z)) (plain_is e.a j (and_right (is_call k x e) _ t)) ∙ rw (field_number j (omega (arith, few)))))

    not_tick : is_tick e ≡ false
    not_tick = rw (no_zero e.partition k partition_is c.some)

    calls_even : erases k m e ≡ false → code_at m e ≡ (reply_of (made m s r c)).code → Even k j m e es (module_after m k (made m s r c)) (reply_of (made m s r c)).code (reply_of (made m s r c)).value
    calls_even lasts code = ⊎_elim
        (λ (sends : (n ≡ 24) × (number_of r.a ≡ j)).
        let to : is_send flow_is e ≡ true = rw (is_call_holds 24, eq-eqb n 24 sends.0) (number_in sends.1) in
        let from : is_receive flow_is e ≡ false = no_call 25 (λ z _. omega (arith, sends.0)) in
        let d : made m s r c ≡ send_buffer ctx j r.b r.c p = ap (λ i. call_decision ctx (port_of m k r) i r p) sends.0 ∙ call_send ctx (port_of m k r) r p ∙ ap (λ i. send_buffer ctx i r.b r.c p) sends.1 in
        rw d (either (is_message r.b) (λ t. send_even to from (λ code. rw (is_call_holds 1, sends.0)) (message_is e.b t)) bad_message).is)
        (λ (not-send : n ≡ 24 → number_of r.a ≡ j → ⊥). ⊎_elim
        (λ (receives : (n ≡ 25) × (number_of r.a ≡ j)).
        let from : is_receive flow_is e ≡ true = rw (is_call_holds 25, eq-eqb n 25 receives.0) (number_in receives.1) in
        let on : (code : ℕ) → restarts_by k e code ≡ false = λ code. rw (is_call_holds 1, receives.0) in
        let stays : gives_up flow_is e 0 ≡ false = rw (not_tick, is_call_holds 5, is_call_holds 1, receives.0) in
        let d : made m s r c ≡ receive_buffer ctx j r.b p = ap (λ i. call_decision ctx (port_of m k r) i r p) receives.0 ∙ call_receive ctx (port_of m k r) r p ∙ ap (λ i. receive_buffer ctx i r.b p) receives.1 in
        rw d (receive_even (no_call 24 not-send) from on stays).is)
        (λ (not-receive : n ≡ 25 → number_of r.a ≡ j → ⊥).
        calm_even (made m s r c) (made_sound m s r c) (made_body m s r c) (call_order ctx p (port_of m k r) n r).is
        (call_calm 3 j of_buffers few n ctx (port_of m k r) r p (record { valid = own_valid; context = sound_ctx; there = λ _ z. omega (arith, known.1); no_send = λ _. not-send; no_receive = λ _. not-receive; no_send_channel = λ z. absurd (omega arith) })).is
        lasts code (no_call 24 not-send) (no_call 25 not-receive))
        (both n 25 (number_of r.a) j))
        (both n 24 (number_of r.a) j)

-- ---------------------------------------------------------------- every event
module _ (k j : ℕ) (m : Module) (s : SoundModule m) (e : EventT) (es : List EventT) (some : 1 ≤ k) (inside : k - 1 < m.table.size) (known : Between 1 (own m k).buffer_count j) (none : NoneWaits (own m k)) (lasts : erases k m e ≡ false) where
  event_even : Even k j m e es (step m e).state (step m e).answer.code (step m e).answer.value
  unfolding step
  event_even =
      let r = request_of e in
      by_event m r (λ (d : Decision). code_at m e ≡ (reply_of d).code → Even k j m e es (module_after m (number_of r.partition) d) (reply_of d).code (reply_of d).value)
      (λ n h _. place_even k j m s e es some inside known n h)
      (λ f t _ _. tick_even k j m s e es some inside known (tick_is m.table e f t))
      (λ c is. ⊎_elim
      (λ (h : number_of r.partition ≡ k). rw (← h) (calls_even j m s e es c (rw (← h) at known) (rw (← h) at none) (rw (← h) at lasts) is))
      (λ (ne : number_of r.partition ≡ k → ⊥). other_even k j m s e es some inside known c ne (made m s r c) (made_sound m s r c) (made_body m s r c))
      (same_or_not (number_of r.partition) k))
      refl

-- ---------------------------------------------------------------- a list of events
pub reached_after : (m : Module) → Reached m → (es : List EventT) → Reached (after m es)
reached_after m h [] = h
reached_after m h (e ∷ es) = reached_after (next m e) (Reached.stepped m e h) es

pub step_size : (m : Module) (e : EventT) → (step m e).state.table.size ≡ m.table.size
unfolding step
step_size m e = ap (λ (T : Table). T.size) (decided_table m (number_of (request_of e).partition) (decision m (request_of e)))

-- while the partition is not erased, from a reached record on
record Lasts (k j : ℕ) (es : List EventT) (m : Module) : Type 0 where
  reached : Reached m
  some : 1 ≤ k
  inside : k - 1 < m.table.size
  known : Between 1 (own m k).buffer_count j
  lasts : erased k m es ≡ false

lasts_even : (k j : ℕ) (e : EventT) (es : List EventT) (m : Module) → Lasts k j (e ∷ es) m → Fl.Even (buffer_flow k j) m e es (next m e) (step m e).answer.code (step m e).answer.value × Lasts k j es (next m e)
unfolding erased
lasts_even k j e es m h =
    let s = valid_sound m (reached_valid m h.reached) (k - 1) h.inside in
    let ev = event_even k j m s e es h.some h.inside h.known (none_waits m h.reached (k - 1) h.inside) (or_left (erases k m e) _ h.lasts) in
    (ev.is, record { reached = Reached.stepped m e h.reached; some = h.some; inside = rw (step_size m e) h.inside; known = (h.known.0, omega (arith, h.known.1, ev.count)); lasts = or_right (erases k m e) _ h.lasts })

-- ---------------------------------------------------------------- the creation
-- a buffer with nothing in it, for which nobody waits
record Begins (k j : ℕ) (m q : Module) : Type 0 where
  some : 1 ≤ k
  inside : k - 1 < m.table.size
  known : Between 1 (own q k).buffer_count j
  nothing : (buffer_flow k j).holds q ≡ []
  free : waiters (queue_number 3 j) (own q k) ≡ []

created_at : (m : Module) → SoundModule m → (w j name limit k : ℕ) → k ≡ w → (w ≡ 0 → ⊥) → w - 1 < m.table.size → (own m w).buffer_count < buffer_limit → (own m w).buffer_count + 1 ≡ j
    → Begins k j m (with_part (w - 1) (stored_buffer ((own m w).buffer_count + 1) (empty_buffer name limit) (own m w)) m)
created_at m s w j name limit k same some here room is =
    let old = own m w in
    let v = s.each_partition (w - 1) here in
    let b = empty_buffer name limit in
    let q = stored_buffer j b old in
    let at : own (with_part (w - 1) q m) w ≡ q = get_or-set_same m.partitions (w - 1) q no_partition (omega (arith, here, s.partitions_size, s.table.size.1)) in
    let high : j ≤ buffer_limit = omega arith in
    let is-in = buffer_in j b old (within_in buffer_limit j (omega arith) high) in
    let size = v.objects.buffers.numbered.size in
    rw (same, is) (record {
      some = omega (arith, some);
      inside = here;
      known = rw (at, is-in) (omega arith, omega arith);
      nothing = rw (at, is-in) (ap (λ (x : Buffer). held x.queue) (named_same buffer_limit no_buffer j b old.buffers (omega arith) high (omega (arith, size))));
      free = rw at (buffer_queue old v.lists (queue_number 3 j) (λ z. omega arith) j b ∙ unknown_unwaited m.table.frame m.t old v 3 j (omega arith) (omega arith) (omega arith));
    })

call_create : (c : Context) (x : Port) (r : Request) (p : Partition) → call_decision c x 23 r p ≡ create_buffer r.a r.b p
unfolding call_decision services
call_create c x r p = refl

module _ (m : Module) (s : SoundModule m) (k j : ℕ) (name limit : ℤ) where
  abbrev creates : EventT
  creates = call_by k 23 name limit (pos 0) (pos 0)

  abbrev asked : Request
  asked = request_of creates

  record Started (i : ℕ) (d : Decision) : Type 0 where
    is : (reply_of d).code ≡ 0 → (reply_of d).value ≡ j → Begins k j m (module_after m i d)

  not_started : (i n : ℕ) → (n ≡ 0 → ⊥) → Started i (Refused n)
  not_started i n h = record { is = λ z _. absurd (h z) }

  module _ (c : Calls m asked) where
    abbrev who : ℕ
    who = number_of asked.partition

    abbrev old : Partition
    old = part m (who - 1)

    same_number : k ≡ who
    same_number = ap message_in (number_of_holds (pos k) c.some)

    started_call : Started who (create_buffer (field name) (field limit) old)
    unfolding create_buffer Passed
    started_call = by_codes (Started who) (leb 1) Refused _ _ refl (λ n h. not_started who n (λ z. let u = leb-true 1 n h in omega arith)) (λ h.
        record { is = λ _ e. created_at m s who j (number_of (field name)) (number_of (field limit)) k same_number c.some (place m s asked c) (leb-false buffer_limit old.buffer_count h.0) e })

  begins : (step m creates).answer.code ≡ 0 → (step m creates).answer.value ≡ j → Begins k j m (step m creates).state
  unfolding step
  begins =
      (by_event m asked (λ (d : Decision). Started (number_of asked.partition) d)
      (λ n h. not_started _ n (λ z. let u = leb-true 8 n (and_left (leb 8 n) (leb n 13) h) in omega arith))
      (λ f t _. absurd (not_both _ (and_right (is_zero (pos k)) (is_zero (pos 23)) (tick_is m.table creates f t)) refl))
      (λ c. rw (call_create (context_of m (number_of asked.partition)) (port_of m (number_of asked.partition) asked) asked (part m (number_of asked.partition - 1))) (started_call c))
      ).is

-- Law of a buffer. Since its creation: sent and not given up = received ++ held ++ kept with waiting senders, in order.
pub buffer_account : (input : List ℕ) (before : List EventT) (k j : ℕ) (name limit : ℤ) (es : List EventT)
    → let m = after (read_table input).state before in
    let e = call_by k 23 name limit (pos 0) (pos 0) in
    (step m e).answer.code ≡ 0 → (step m e).answer.value ≡ j → erased k (next m e) es ≡ false → Balances (buffer_flow k j) (next m e) es
buffer_account input before k j name limit es code value lasts =
    let m = after (read_table input).state before in
    let e = call_by k 23 name limit (pos 0) (pos 0) in
    let f = buffer_flow k j in
    let h : Reached m = reached_after (read_table input).state (Reached.read input) before in
    let b = first m h k j name limit code value in
    Fl.run_from f (Lasts k j) (lasts_even k j) es (next m e) (record { reached = Reached.stepped m e h; some = b.some; inside = rw (step_size m e) b.inside; known = b.known; lasts = lasts }) b.nothing b.free
  where
    first : (m : Module) → Reached m → (k j : ℕ) (name limit : ℤ) → (step m (call_by k 23 name limit (pos 0) (pos 0))).answer.code ≡ 0 → (step m (call_by k 23 name limit (pos 0) (pos 0))).answer.value ≡ j → Begins k j m (next m (call_by k 23 name limit (pos 0) (pos 0)))
    first m h k j name limit code value = ⊎_elim
        (λ (z : m ≡ empty_module). absurd (let w : (step m (call_by k 23 name limit (pos 0) (pos 0))).answer.code ≡ 13 = rw z (ap (λ (x : Stepped). x.answer.code) (empty_refused (call_by k 23 name limit (pos 0) (pos 0)))) in omega arith))
        (λ (s : SoundModule m). begins m s k j name limit code value)
        (reached_valid m h)
