-- The account of a queuing channel, for every list of events from the fresh module on. Assumes nothing.
use Rattle.machine.specs.Mode.{mode_number}
use Prim.Native.Nat.{ℕ, ◌+◌, ◌-◌, ◌≤◌, ◌<◌}
use mathlib.Core.Path.{◌≡◌, refl, ap, sym, ◌∙◌, subst}
use mathlib.Core.Bool.{Bool, true, false, ◌&&◌, ◌||◌, and-false, or-true}
use mathlib.Core.List.{List, [], ◌∷◌, ◌++◌, map, append-nil}
use mathlib.Core.Logic.{◌⊎◌, inl, inr, ⊎_elim}
use native.Mathlib.Omega.{arith}
use lib.ListN.{length, get_or, take, drop, get_or-replicate}
use lib.Dec.{eqb, leb, ltb}
use lib.Seq.{get_or-set_same, get_or-set_other}
use lib.IntN.{ℤ, pos, negsuc}
use borrow.Author.Tests.{eq-eqb, ne_eqb, eqb-true, eqb-false, leb-true, ltb-true, ltb-false, lt-ltb, not-false}
use Rattle.machine.specs.declared.Partition.{Partition}
use Rattle.machine.specs.declared.Channel.{Channel}
use Rattle.machine.specs.declared.Table.{Table}
use Rattle.machine.specs.declared.Queue.{Queue}
use Rattle.machine.specs.declared.Traffic.{Traffic}
use Rattle.machine.specs.declared.Port.{Port}
use Rattle.machine.specs.declared.Context.{Context}
use Rattle.machine.specs.declared.Transfer.{Transfer}
use Rattle.machine.specs.declared.Transfer.TheVariants.{Put, HandedTo, Taken, LetIn}
use Rattle.machine.specs.declared.Decision.{Decision}
use Rattle.machine.specs.declared.Decision.TheVariants.{Refused, Unchanged, Ticked, Blocked, Changed, Restarted, Written, Passed as PassedOn}
use Rattle.machine.specs.declared.Field.{Field}
use Rattle.machine.specs.declared.Field.TheVariants.{Number, MinusOne, Other}
use Rattle.machine.specs.declared.Request.{Request}
use Rattle.machine.specs.declared.Event.{Event as EventT}
use Rattle.machine.specs.declared.Module.{Module}
use Rattle.machine.specs.Time.{Time}
use Rattle.std.specs.Prelude.{Some}
use Rattle.machine.specs.declared.Wait.{Wait}
use Rattle.machine.specs.declared.Wait.TheVariants.{Source, Destination}
use Rattle.machine.specs.Limits.{process_limit, duration_limit, message_limit, mode_limit, channel_limit, partition_limit}
use Rattle.machine.specs.Fields.{field, request_of, is_number, between, is_message, number_of, time_of}
use Rattle.machine.specs.Ids.{kept}
use Rattle.machine.specs.Messages.{no_queue, held, first, sent, received, moved, ends_wait}
use Rattle.machine.specs.Process.{blank_process, class_of, carried_in, carried, object, served, handed, waiting_for, later}
use Rattle.machine.specs.Partition.{process, waits_on, waiters, first_waiter, stored, applied, running, nothing_created, tick_partition, fresh_partition}
use Rattle.machine.specs.Runs.{next}
use Rattle.machine.specs.Theorems.LeftRight.{is_tick, is_zero}
use Rattle.machine.specs.Decisions.{reply_of, blocked, queued, awaiting}
use Rattle.machine.specs.Calls.{set_mode}
use Rattle.machine.specs.Channels.{queuing, queuing_at, other_queue, port_of, channel_checks, send, receive, passed, erased_to}
use Rattle.machine.specs.Services.{services, call_decision}
use Rattle.machine.specs.Module.{no_partition, empty_table, empty_module, fresh_module, channel, part, queue, with_part, with_queue, with_time}
use Rattle.machine.specs.Ticks.{partition_count, tick_module}
use Rattle.machine.specs.Table.{read_table}
use Rattle.machine.specs.Step.{context_of, restarted, module_after, step}
use Rattle.machine.specs.Theorems.Events.{own}
use Rattle.machine.specs.Theorems.Valid.{contains, ListedIn, Valid, SoundContext, SoundDecision, SoundMove, SoundModule, Reached}
use Rattle.machine.specs.Theorems.Plain.{plain_number, plain_between, plain_moved}
use Rattle.machine.specs.Theorems.Queues.{queue_number, ChannelEnds}
use Rattle.machine.specs.Theorems.Account.{is_call, restarts_by, message_in, Flow, channel_flow, is_send, is_receive, waits_to_send, sending, keeps, gives_up, Balances, Account}
use Rattle.machine.proofs.Tests.{by_test, by_codes, Passed, not_both, and_left, and_right}
use Rattle.machine.proofs.Fields.{in_limits}
use Rattle.machine.proofs.Bounds.{not_so, same_or_not, named_replicate, get_d_replicate_any}
use Rattle.machine.proofs.Either.{either}
use Rattle.machine.proofs.Messages.{queue_length, queue_first, moved_held}
use Rattle.machine.proofs.Lists.{cons_not, held_queue_of}
use Rattle.machine.proofs.Keeping.{process_stored, stored_listed}
use Rattle.machine.proofs.Sound.{carried_sound}
use Rattle.machine.proofs.Kept.{Caller, tick_valid, change_valid, nothing_valid, normal_caller, in_normal, waiters_distinct, waiters_exact}
use Rattle.machine.proofs.Dispatch.{place_code, Calls, by_event}
use Rattle.machine.proofs.Bodies.{Sends, Receives, OnQueue, Bodily, body_refusal}
use Rattle.machine.proofs.Refusals.{call_in_range}
use Rattle.machine.proofs.Plain.{lossless}
use Rattle.machine.proofs.Calling.{field_number, number_of_holds}
use Rattle.machine.proofs.Reached.{tick_each, place, context_sound, made, made_sound, made_body, reached_valid, part_sound, erased_sound, Fills, on_queue_holds, queuing_plain, refilled_table, refilled_sound}
use Rattle.machine.proofs.Tables.{table_read}
use Rattle.machine.proofs.Answers.{step_table}
use Rattle.machine.proofs.Orders.{Part, part_whole, part_waits, part_trans, queue_of_holds, tick_part, change_part, joins_last, Orderly}
use Rattle.machine.proofs.EveryCall.{call_order}
use Rattle.machine.proofs.Queues.{first_created}
use Rattle.machine.proofs.Calmness.{Leaves, leaves_same, OfSenders, Stays, tick_stays, changed_stays, blocked_stays, Calm, on_queue_holds as waits_there}
use Rattle.machine.proofs.Senders.{passed_leaves, restart_leaves}
use Rattle.machine.proofs.EveryCall.{call_calm}
use Rattle.machine.proofs.Restarts.{refilled_queue, refilled_queue_other, refilled_senders, refilled_waits, refilled_part_other, apart_in}
use Rattle.machine.proofs.Starred.{tick_queues}
use Rattle.machine.proofs.Ends.{channel_ends}
use Rattle.machine.proofs.Tracking.{kept_no}
use Rattle.machine.proofs.Passing.{joined_same, joined_still, joined_queue, gone_queue, gone_first, gone_same, gone_still, handed_one}
use Rattle.machine.proofs.Flows as Fl
use Rattle.machine.proofs.Account.{tick_is, number_test, plain_is, no_zero, message_is, empty_of, first_rest, buffer_account}

of_channels : OfSenders 6
of_channels = record { low = omega arith; receivers = λ z. omega arith; readers = λ z. omega arith; ends = λ z. omega arith }

-- ---------------------------------------------------------------- an accepted mode 0, 1 or 2 is a restart
abbrev IsRestart : Decision → Type 0
IsRestart (Refused code) = ⊥
IsRestart (Unchanged value extra) = ⊥
IsRestart Ticked = ⊥
IsRestart (Blocked id x) = ⊥
IsRestart (Changed a b value) = ⊥
IsRestart (Restarted mode) = Unit {0}
IsRestart (Written i x) = ⊥
IsRestart (PassedOn i a value) = ⊥

record Restarts (d : Decision) : Type 0 where
  is : (reply_of d).code ≡ 0 → IsRestart d

not_three : (f : Field) → between 0 2 f ≡ true → is_number 3 f ≡ false
not_three (Number n) h = let l = leb-true n 2 (and_right (leb 0 n) (leb n 2) h) in ne_eqb n 3 (λ z. omega arith)
not_three MinusOne h = refl
not_three Other h = refl

mode_restarts : (c : Context) (a : Field) (p : Partition) → between 0 2 a ≡ true → Restarts (set_mode c a p)
unfolding set_mode Passed
mode_restarts c a p low = by_codes Restarts body_refusal Refused _ _ refl
    (λ n h. record { is = λ z. let u = leb-true 1 n (and_left (leb 1 n) (leb n 5) h) in absurd (omega arith) })
    (λ _. by_test Restarts (is_number 3 a) (λ e. not_both _ e (not_three a low)) (λ _. record { is = λ _. tt }))

call_mode : (c : Context) (x : Port) (r : Request) (p : Partition) → call_decision c x 1 r p ≡ set_mode c r.a p
unfolding call_decision services
call_mode c x r p = refl

call_send : (c : Context) (x : Port) (r : Request) (p : Partition) → call_decision c x 30 r p ≡ send c x r.b r.c p
unfolding call_decision services
call_send c x r p = refl

call_receive : (c : Context) (x : Port) (r : Request) (p : Partition) → call_decision c x 31 r p ≡ receive c x r.b p
unfolding call_decision services
call_receive c x r p = refl

-- ---------------------------------------------------------------- one event
module _ (m : Module) (s : SoundModule m) (ends : ChannelEnds m) (i : ℕ) (there : i < m.table.channel_count) (some_size : (channel m.table i).size ≡ 0 → ⊥) (e : EventT) (es : List EventT) where
  abbrev T : Table
  T = m.table

  abbrev c : Channel
  c = channel T i

  abbrev from : ℕ
  from = c.source

  abbrev to : ℕ
  to = c.destination

  abbrev flow : Flow
  flow = channel_flow T i

  abbrev senders : ℕ
  senders = queue_number 6 (i + 1)

  abbrev receivers : ℕ
  receivers = queue_number 7 (i + 1)

  some : senders ≡ 0 → ⊥
  some z = omega arith

  some_receivers : receivers ≡ 0 → ⊥
  some_receivers z = omega arith

  low : i + 1 ≤ 16
  low = omega (arith, there, s.table.channel_count)

  kind : queuing c ≡ true
  kind = queuing_plain T s.table i there ∙ lt-ltb 0 c.size (omega (arith, some_size))

  from_some : 1 ≤ from
  from_some = (s.table.each_channel i there).source.0

  from_inside : from - 1 < T.size
  from_inside = let b = (s.table.each_channel i there).source in omega (arith, b.0, b.1)

  to_some : 1 ≤ to
  to_some = (s.table.each_channel i there).destination.0

  to_inside : to - 1 < T.size
  to_inside = let b = (s.table.each_channel i there).destination in omega (arith, b.0, b.1)

  apart_ends : from ≡ to → ⊥
  apart_ends = (s.table.each_channel i there).apart

  source_valid : Valid T.frame m.t (own m from)
  source_valid = s.each_partition (from - 1) from_inside

  abbrev Even : Module → ℕ → ℕ → Type 0
  Even q code value = Fl.Even flow m e es q code value

  -- what stays of the queue and of the senders, where nothing is sent and nothing received
  stays_quiet : (q : Module) (n : ℕ) → Stays 6 (i + 1) of_channels low n (own m from) (own q from) → ListedIn (own q from) → Part (waiters senders (own m from)) (waiters senders (own q from)) → queue q i ≡ queue m i
      → (code value : ℕ) → restarts_by to e code ≡ false → (is_receive flow e && eqb code 0) ≡ false → (n ≡ 5 → gives_up flow e code ≡ true) → Fl.sent_by flow m e es q code ≡ [] → Fl.received_by flow m e es q code value ≡ [] → Even q code value
  stays_quiet q n st v a same code value on none gives sn rc =
      Fl.quiet_even flow m e es q code value on none (ap held same) (part_waits senders (own q from) (queue_of_holds (own q from) v senders some) (waiters senders (own m from)) a)
      (λ id g h. ap (λ (w : Wait). carried_in (class_of w)) ((st.waits id).0 (eqb-true _ senders h)))
      (λ id g h. ⊎_elim (λ (z : object (process id (own q from)).wait ≡ senders). not_both _ (eq-eqb _ senders z) h) gives ((st.waits id).1 (waits_there (own m from) senders id g)))
      sn rc

  leaves_quiet : (q : Module) → Leaves 6 (i + 1) of_channels low (own m from) (own q from) → queue q i ≡ queue m i
      → (code value : ℕ) → restarts_by to e code ≡ false → (is_receive flow e && eqb code 0) ≡ false → Fl.sent_by flow m e es q code ≡ [] → Fl.received_by flow m e es q code value ≡ [] → Even q code value
  leaves_quiet q h same code value on none = stays_quiet q 0 h.stays h.lists h.part same code value on none (λ z. absurd (omega arith))

  same_leaves : Leaves 6 (i + 1) of_channels low (own m from) (own m from)
  same_leaves = leaves_same 6 (i + 1) of_channels low (own m from) source_valid.lists

  -- a code other than 0 and 7
  refused_even : (n : ℕ) → eqb n 0 ≡ false → eqb n 7 ≡ false → Even m n 0
  refused_even n z w = leaves_quiet m same_leaves refl n 0 (rw (z, and-false (plain_between 0 2 e.a), and-false (is_call to 1 e))) (rw (z, and-false (is_receive flow e))) (Fl.refused_sent flow m e es m n z w) (Fl.refused_received flow m e es m n 0 z)

  place_even : (n : ℕ) → place_code n ≡ true → Even m n 0
  place_even n h = let u = leb-true 8 n (and_left (leb 8 n) (leb n 13) h) in refused_even n (ne_eqb n 0 (λ z. omega arith)) (ne_eqb n 7 (λ z. omega arith))

  -- a tick
  tick_even : is_tick e ≡ true → Even (tick_module m) 0 0
  tick_even t =
      let p = own m from in
      let q = tick_partition (m.t + 1) p in
      let is : own (tick_module m) from ≡ q = tick_each m s (from - 1) from_inside in
      let v = (tick_valid T.frame m.t p source_valid).lists in
      let zero : e.partition ≡ pos 0 = is_zero_holds e.partition (and_left (is_zero e.partition) _ t) in
      let no-from : eqb 0 from ≡ false = ne_eqb 0 from (λ z. omega (arith, from_some)) in
      let no-to : eqb 0 to ≡ false = ne_eqb 0 to (λ z. omega (arith, to_some)) in
      let no_send_holds : is_send flow e ≡ false = rw (zero, no-from) in
      let no_receive_holds : is_receive flow e ≡ false = rw (zero, no-to) in
      stays_quiet (tick_module m) 5 (rw is (tick_stays 6 (i + 1) of_channels low (m.t + 1) p source_valid.lists)) (rw is v)
      (rw is (tick_part senders some (m.t + 1) p source_valid.lists))
      (ap (λ (l : List Queue). get_or l i no_queue) (tick_queues (partition_count T) (with_time (m.t + 1) m)))
      0 0 (rw (zero, no-to)) (rw no_receive_holds) (λ _. rw t) (Fl.no_sent flow m e es (tick_module m) 0 no_send_holds) (Fl.no_received flow m e es (tick_module m) 0 0 no_send_holds no_receive_holds)
    where
      is_zero_holds : (z : ℤ) → is_zero z ≡ true → z ≡ pos 0
      is_zero_holds (pos n) h = ap pos (eqb-true n 0 h)
      is_zero_holds (negsuc n) h = not_both _ h refl

  -- ---------------------------------------------------------------- a call
  module _ (q : Calls m (request_of e)) where
    abbrev r : Request
    r = request_of e

    abbrev k : ℕ
    k = number_of r.partition

    abbrev n : ℕ
    n = number_of r.call

    abbrev p : Partition
    p = own m k

    abbrev ctx : Context
    ctx = context_of m k

    abbrev x : Port
    x = port_of m k r

    here : k - 1 < T.size
    here = place m s r q

    own_valid : Valid T.frame m.t p
    own_valid = s.each_partition (k - 1) here

    sound_ctx : SoundContext ctx p
    sound_ctx = context_sound m s r q

    partition_is : e.partition ≡ pos k
    partition_is = number_of_holds e.partition q.some

    call_is : e.call ≡ pos n
    call_is = let u = call_in_range T r q.formed (ne_eqb k 0 q.some) in number_of_holds e.call (λ z. omega (arith, u.0))

    -- call y of partition d
    call_by : (d y : ℕ) → (k ≡ d → n ≡ y → ⊥) → is_call d y e ≡ false
    call_by d y out = not_so _ (λ t. out
        (number_same k d (sym partition_is ∙ plain_is e.partition d (and_left (plain_number d e.partition) _ t)))
        (number_same n y (sym call_is ∙ plain_is e.call y (and_right (plain_number d e.partition) _ t))))
      where
        number_same : (a b : ℕ) → ◌≡◌ {A = ℤ} (pos a) (pos b) → a ≡ b
        number_same a b z = ap message_in z

    call_at : (d y : ℕ) → k ≡ d → n ≡ y → is_call d y e ≡ true
    call_at d y is-d is_y = rw (partition_is, call_is, eq-eqb k d is-d, eq-eqb n y is_y)

    number_in : number_of r.a ≡ i + 1 → plain_number (i + 1) e.a ≡ true
    number_in is = number_test e.a (number_of r.a) (i + 1) (number_of_holds e.a (λ z. omega arith)) ∙ eq-eqb (number_of r.a) (i + 1) is

    -- a call of another number, by another partition, or on another channel
    no_call : (d y : ℕ) → (k ≡ d → n ≡ y → number_of r.a ≡ i + 1 → ⊥) → (is_call d y e && plain_number (i + 1) e.a) ≡ false
    no_call d y out = not_so _ (λ t.
        let u = and_left (is_call d y e) _ t in
        let v = plain_is e.a (i + 1) (and_right (is_call d y e) _ t) in
        let w : number_of r.a ≡ i + 1 = ap (λ (z : ℤ). number_of (field z)) v ∙ rw (field_number (i + 1) (omega (arith, low))) in
        not_both _ u (call_by d y (λ a b. out a b w)))

    not_tick : is_tick e ≡ false
    not_tick = rw (no_zero e.partition k partition_is q.some)

    record EvenAfter (d : Decision) : Type 0 where
      is : Even (module_after m k d) (reply_of d).code (reply_of d).value

    refused_by : (a : ℕ) → body_refusal a ≡ true → EvenAfter (Refused a)
    refused_by a h =
        let lo = leb-true 1 a (and_left (leb 1 a) (leb a 5) h) in
        let hi = leb-true a 5 (and_right (leb 1 a) (leb a 5) h) in
        record { is = refused_even a (ne_eqb a 0 (λ z. omega arith)) (ne_eqb a 7 (λ z. omega arith)) }

    -- the partition at the other end, stored
    put : (j : ℕ) → j < T.size → (y : Partition) (u : Module) → u.partitions ≡ m.partitions → part (with_part j y u) j ≡ y
    put j l y u is = rw is (get_or-set_same m.partitions j y no_partition (omega (arith, l, s.partitions_size, s.table.size.1)))

    put_other : (j d : ℕ) (y : Partition) (u : Module) → u.partitions ≡ m.partitions → (d ≡ j → ⊥) → part (with_part j y u) d ≡ part m d
    put_other j d y u is ne = rw is (get_or-set_other m.partitions j d y no_partition ne)

    -- ------------------------------------------------------------ the queue
    abbrev messages : List ℕ
    messages = held (queue m i)

    size : length messages ≡ (queue m i).len
    size = queue_length c.size (queue m i) (s.each_queue i)

    few_size : c.size ≤ message_limit
    few_size = let g = (s.table.each_channel i there).room in omega arith

    abbrev moving : Transfer → Module
    moving a = with_queue i (moved a (queue m i)) m

    moving_held : (a : Transfer) → SoundMove c.size (queue m i) a → held (queue (moving a) i) ≡ plain_moved a messages
    moving_held a h =
        ap held (get_or-set_same m.queues i (moved a (queue m i)) no_queue (omega (arith, there, s.table.channel_count, s.queues_size)))
        ∙ moved_held c.size (queue m i) (s.each_queue i) few_size a h

    -- ------------------------------------------------------------ SEND
    module _ (caller : k ≡ from) (is-send : n ≡ 30) (number : number_of r.a ≡ i + 1) where
      to_send : is_send flow e ≡ true
      to_send = rw (call_at from 30 caller is-send, number_in number)

      no_receive_holds : is_receive flow e ≡ false
      no_receive_holds = no_call to 31 (λ a b _. omega (arith, is-send))

      no_restart : (code : ℕ) → restarts_by to e code ≡ false
      no_restart code = rw (call_by to 1 (λ a b. omega (arith, is-send)))

      place_is : number_of r.a - 1 ≡ i
      place_is = omega (arith, number)

      abbrev word : ℕ
      word = number_of r.b

      -- what is seen of the channel
      sees : x.traffic ≡ record { len = (queue m i).len; first = first (queue m i); waiter = first_waiter receivers (own m to); carried = carried (process (first_waiter receivers (own m to)) (own m to)) }
      sees = rw (place_is, lt-ltb i T.channel_count there, kind, eq-eqb from k (sym caller))

      sound_room : (queue m i).len < c.size → word ≤ duration_limit → SoundMove c.size (queue m i) (Put word)
      sound_room h g = (h, g)

      receivers_valid : Valid T.frame m.t (own m to)
      receivers_valid = s.each_partition (to - 1) to_inside

      free : (queue m i).len < c.size → sending flow m ≡ []
      free h = ends.room i there h

      -- where there is room
      sent_even : (l : List ℕ) → waiters receivers (own m to) ≡ l → (queue m i).len < c.size → word ≤ duration_limit → message_in e.b ≡ word → Even (passed k i (sent (get_or l 0 0) word) m) 0 0
      unfolding sent
      sent_even [] h room ok is =
          let u = moving (Put word) in
          Fl.put_even flow m e es to_send no_receive_holds no_restart word is u (free room) (free room) h (moving_held (Put word) (room, ok))
      sent_even (id ∷ l) h room ok is =
          let v = receivers_valid.lists in
          let b = first_created receivers some_receivers (own m to) v id l h in
          let y = stored id (handed word (process id (own m to))) (own m to) in
          let u = moving (HandedTo id word) in
          let z = with_part (to - 1) y u in
          let empty : (queue m i).len ≡ 0 = either (ltb 0 (queue m i).len) (λ t. absurd (cons_not id l (sym h ∙ ends.message i there (ltb-true 0 _ t)))) (λ t. omega (arith, ltb-false 0 (queue m i).len t)) in
          let nothing : messages ≡ [] = empty_of messages (size ∙ empty) in
          let held_then : held (queue z i) ≡ [] = moving_held (HandedTo id word) ok ∙ nothing in
          let source-same : own z from ≡ own m from = put_other (to - 1) (from - 1) y u refl (λ z. apart_ends (omega (arith, from_some, to_some))) in
          let there_is : own z to ≡ y = put (to - 1) to_inside y u refl in
          rw (ne_eqb id 0 (λ z. omega (arith, b.0)), eq-eqb from k (sym caller))
          (Fl.handed_even flow m e es to_send no_receive_holds no_restart word is z nothing held_then (free room) (ap (waiters senders) source-same ∙ free room)
          (rw (there_is, h) (handed_one receivers some_receivers (own m to) v id l h word)))

      -- where there is none
      blocked_even : (id : ℕ) → Caller id p → (until : Time) → id ≡ running p → message_in e.b ≡ word → Even (with_part (k - 1) (stored id (waiting_for (Source (i + 1) word) until (process id p)) p) m) 7 0
      blocked_even id w until run is =
          let y = waiting_for (Source (i + 1) word) until (process id p) in
          let v = own_valid.lists in
          let z = with_part (k - 1) (stored id y p) m in
          let at : own z from ≡ stored id y p = ap (λ d. own z d) (sym caller) ∙ put (k - 1) here (stored id y p) m refl in
          let back : own m from ≡ p = ap (own m) (sym caller) in
          let queue_is : sending flow z ≡ sending flow m ++ (id ∷ []) = ap (waiters senders) at ∙ joined_queue senders some p v id w y refl ∙ ap (λ (u : Partition). waiters senders u ++ (id ∷ [])) (sym back) in
          Fl.blocked_even flow m e es to_send no_receive_holds no_restart word is z id queue_is
          (λ d g. rw at (joined_still senders some p v id w y refl d (rw back at g)))
          (λ d g. ap (λ (u : Partition). carried (process d u)) at ∙ ap carried (joined_same senders some p v id w y refl d (rw back at g)) ∙ ap (λ (u : Partition). carried (process d u)) (sym back))
          (ap (λ (u : Partition). carried (process id u)) at ∙ ap carried (process_stored p id y v w.created))
          (run ∙ ap running (sym back)) refl

      send_even : EvenAfter (send ctx x r.b r.c p)
      unfolding send awaiting queued blocked channel_checks Passed
      send_even = by_codes EvenAfter body_refusal Refused _ _ refl refused_by (λ h.
          let u = h.1.1.1.1 in
          let ok = and_left (is_message r.b) _ (not-false _ u.1.0) in
          let is = message_is e.b ok in
          let few = (in_limits 0 duration_limit r.b ok).1 in
          let len : x.traffic.len ≡ (queue m i).len = ap (λ (y : Traffic). y.len) sees in
          let same : x.channel ≡ c = ap (λ d. channel T d) place_is in
          by_test EvenAfter (ltb x.traffic.len x.channel.size)
          (λ room.
          let t : x.traffic.len < x.channel.size = ltb-true _ _ room in
          let w : (queue m i).len < c.size = let g = ap (λ (y : Channel). y.size) same in omega arith in
          let first_is : x.traffic.waiter ≡ first_waiter receivers (own m to) = ap (λ (y : Traffic). y.waiter) sees in
          record { is = subst (λ d. Even (passed k d (sent x.traffic.waiter word) m) 0 0) (sym place_is) (subst (λ d. Even (passed k i (sent d word) m) 0 0) (sym first_is) (sent_even (waiters receivers (own m to)) refl w few is)) })
          (λ _. by_codes EvenAfter body_refusal Refused _ _ refl refused_by (λ _. by_codes EvenAfter body_refusal Refused _ _ refl refused_by (λ _.
          record { is = subst (λ d. Even (with_part (k - 1) (stored (running p) (waiting_for (Source (d + 1) word) (later (Some m.t) (time_of r.c)) (process (running p) p)) p) m) 7 0) (sym place_is) (blocked_even (running p) (normal_caller ctx p own_valid sound_ctx (in_normal ctx p own_valid sound_ctx u.0)) (later (Some m.t) (time_of r.c)) refl is) }))))

    -- ------------------------------------------------------------ RECEIVE
    module _ (caller : k ≡ to) (is-receive : n ≡ 31) (number : number_of r.a ≡ i + 1) where
      to_receive : is_receive flow e ≡ true
      to_receive = rw (call_at to 31 caller is-receive, number_in number)

      no_send_holds : is_send flow e ≡ false
      no_send_holds = no_call from 30 (λ a b _. omega (arith, is-receive))

      never_restart : (code : ℕ) → restarts_by to e code ≡ false
      never_restart code = rw (call_by to 1 (λ a b. omega (arith, is-receive)))

      stays_on : (code : ℕ) → gives_up flow e code ≡ false
      stays_on code = rw (not_tick, call_by from 5 (λ a b. omega (arith, is-receive)), call_by from 1 (λ a b. omega (arith, is-receive)))

      at_place : number_of r.a - 1 ≡ i
      at_place = omega (arith, number)

      other_side : eqb from k ≡ false
      other_side = ne_eqb from k (λ z. apart_ends (z ∙ caller))

      seen : x.traffic ≡ record { len = (queue m i).len; first = first (queue m i); waiter = first_waiter senders (own m from); carried = carried (process (first_waiter senders (own m from)) (own m from)) }
      seen = rw (at_place, lt-ltb i T.channel_count there, kind, other_side, eq-eqb to k (sym caller))

      abbrev value : ℕ
      value = first (queue m i)

      value_first : 0 < (queue m i).len → messages ≡ value ∷ drop 1 messages
      value_first h = first_rest messages (omega (arith, size)) ∙ ap (λ a. a ∷ drop 1 messages) (sym (queue_first c.size (queue m i) (s.each_queue i)))

      -- where a message is held
      received_even : (l : List ℕ) → waiters senders (own m from) ≡ l → 0 < (queue m i).len → Even (passed k i (received (get_or l 0 0) (carried (process (get_or l 0 0) (own m from)))) m) 0 value
      unfolding received
      received_even [] h held_some =
          let u = moving Taken in
          Fl.taken_even flow m e es no_send_holds to_receive (never_restart 0) u value (drop 1 messages) (value_first held_some) h h (moving_held Taken held_some)
      received_even (id ∷ l) h held_some =
          let v = source_valid.lists in
          let b = first_created senders some (own m from) v id l h in
          let y = served (process id (own m from)) in
          let d = stored id y (own m from) in
          let a = LetIn id (carried (process id (own m from))) in
          let u = moving a in
          let z = with_part (from - 1) d u in
          let at : own z from ≡ d = put (from - 1) from_inside d u refl in
          let small = carried_sound _ (process id (own m from)) (source_valid.each_process id b) in
          rw (ne_eqb id 0 (λ z. omega (arith, b.0)), other_side)
          (Fl.let_in_even flow m e es no_send_holds to_receive (never_restart 0) z value (drop 1 messages) (value_first held_some) id l h
          (ap (waiters senders) at ∙ gone_queue senders some (own m from) v id l h y refl)
          (rw at (gone_first senders some (own m from) v id l h y refl)) (stays_on 0)
          (λ w g. rw at (gone_still senders some (own m from) v id l h y refl w g))
          (λ w g. rw at (ap carried (gone_same senders some (own m from) v id l h y refl w g)))
          (moving_held a (held_some, small)))

      receive_even : EvenAfter (receive ctx x r.b p)
      unfolding receive awaiting queued blocked channel_checks Passed
      receive_even = by_codes EvenAfter body_refusal Refused _ _ refl refused_by (λ h.
          let u = h.1.1.1.1 in
          let len : x.traffic.len ≡ (queue m i).len = ap (λ (y : Traffic). y.len) seen in
          by_test EvenAfter (ltb 0 x.traffic.len)
          (λ room.
          let t : 0 < x.traffic.len = ltb-true 0 _ room in
          let held_some : 0 < (queue m i).len = omega arith in
          let o = own m from in
          let transfer : received x.traffic.waiter x.traffic.carried ≡ received (first_waiter senders o) (carried (process (first_waiter senders o) o)) = ap (λ (y : Traffic). received y.waiter y.carried) seen in
          record {
            is = subst (λ d. Even (passed k d (received x.traffic.waiter x.traffic.carried) m) 0 x.traffic.first) (sym at_place)
                (subst (λ (a : Transfer). Even (passed k i a m) 0 x.traffic.first) (sym transfer)
                (subst (λ (a : ℕ). Even (passed k i (received (first_waiter senders o) (carried (process (first_waiter senders o) o))) m) 0 a) (sym (ap (λ (y : Traffic). y.first) seen))
                (received_even (waiters senders o) refl held_some)));
          })
          (λ _. by_codes EvenAfter body_refusal Refused _ _ refl refused_by (λ _. by_codes EvenAfter body_refusal Refused _ _ refl refused_by (λ _.
          let y = waiting_for (Destination (number_of r.a - 1 + 1)) (later (Some m.t) (time_of r.b)) (process (running p) p) in
          let z = with_part (k - 1) (stored (running p) y p) m in
          let same : own z from ≡ own m from = put_other (k - 1) (from - 1) (stored (running p) y p) m refl (λ z. apart_ends (let w = q.some in omega (arith, from_some, to_some, caller))) in
          record { is = leaves_quiet z (rw same same_leaves) refl 7 0 (never_restart 7) (and-false (is_receive flow e)) (Fl.no_sent flow m e es z 7 no_send_holds) (Fl.refused_received flow m e es z 7 0 refl) }))))

    -- ------------------------------------------------------------ restarts
    module _ (mode : ℕ) (small : mode ≤ mode_limit) (one : n ≡ 1) (modes : between 0 2 r.a ≡ true) (no_send_holds : is_send flow e ≡ false) (no_receive_holds : is_receive flow e ≡ false) where
      abbrev erased : Module
      erased = with_part (k - 1) (nothing_created mode) (erased_to k channel_limit m)

      abbrev then : Module
      then = restarted k (nothing_created mode) m

      erased_valid : SoundModule erased
      erased_valid = part_sound (erased_to k channel_limit m) (erased_sound k channel_limit m (omega arith) s) (k - 1) here (nothing_created mode) (nothing_valid T.frame m.t mode small)

      restarts_by_holds : (d : ℕ) → k ≡ d → restarts_by d e 0 ≡ true
      restarts_by_holds d is = rw (call_at d 1 is one, ← (lossless e.a).between 0 2 (omega arith), modes)

      other_restarts : (d : ℕ) → (k ≡ d → ⊥) → restarts_by d e 0 ≡ false
      other_restarts d ne = rw (call_by d 1 (λ a _. ne a))

      quiet_sent : Fl.sent_by flow m e es then 0 ≡ []
      quiet_sent = Fl.no_sent flow m e es then 0 no_send_holds

      quiet_received : Fl.received_by flow m e es then 0 0 ≡ []
      quiet_received = Fl.no_received flow m e es then 0 0 no_send_holds no_receive_holds

      -- a channel that this restart does not fill anew keeps its queue
      queue_stays : (to ≡ k → ⊥) → queue then i ≡ queue m i
      queue_stays ne = refilled_queue_other k channel_limit erased i (rw (ne_eqb to k ne) (and-false (queuing_at T i)))

      -- of the destination
      destination_even : k ≡ to → Even then 0 0
      destination_even is =
          let f : Fills erased k i = record { there = there; few = omega (arith, low); kind = kind; into = sym is } in
          let v = refilled_sound k channel_limit erased erased_valid in
          let same : own erased from ≡ own m from = get_or-set_other m.partitions (k - 1) (from - 1) (nothing_created mode) no_partition (λ z. apart_ends (let w = q.some in omega (arith, from_some, is))) in
          let w = own m from in
          let l = waiters senders w in
          let size_is = c.size in
          let table_is : then.table.size ≡ T.size = ap (λ (U : Table). U.size) (refilled_table k channel_limit erased) in
          let listed : ListedIn (own then from) = (v.each_partition (from - 1) (omega (arith, from_inside, table_is))).lists in
          let queue_is : waiters senders (own then from) ≡ drop size_is l = refilled_senders k erased erased_valid i f channel_limit f.few ∙ ap (λ (u : Partition). drop size_is (waiters senders u)) same in
          let exact : (y : ℕ) → contains y (drop size_is l) ≡ waits_to_send flow then y = λ y. ap (contains y) (sym queue_is) ∙ waiters_exact (own then from) listed senders some y in
          let keeps-is : (y : ℕ) → waits_to_send flow then y ≡ true → keeps flow then y ≡ keeps flow m y = λ y h. ap (λ (u : Wait). carried_in (class_of u)) (refilled_waits k erased erased_valid i f channel_limit y (eqb-true _ senders h)) ∙ ap (λ (u : Partition). carried (process y u)) same in
          Fl.restart_even flow m e es then size_is (restarts_by_holds to is) (rw (not_tick, call_by from 5 (λ a b. omega (arith, one)), other_restarts from (λ z. apart_ends (sym z ∙ is)))) (waiters_distinct w source_valid.lists senders)
          (ap held (refilled_queue k erased erased_valid i f channel_limit f.few) ∙ held_queue_of _ ∙ ap (λ (u : Partition). map (λ id. carried (process id u)) (take size_is (waiters senders u))) same)
          queue_is
          (λ y g. not_so _ (λ t. not_both _ g (apart_in size_is l (waiters_distinct w source_valid.lists senders) y (exact y ∙ t))))
          (λ y g. sym (exact y) ∙ g)
          (λ y g. keeps-is y (sym (exact y) ∙ g))
          quiet_sent quiet_received

      -- of the source: its senders go
      nobody : (o : ℕ) → waiters o (nothing_created mode) ≡ []
      unfolding waiters kept
      nobody o = refl

      source_even : k ≡ from → Even then 0 0
      source_even is =
          let at : own then from ≡ nothing_created mode =
          ap (own then) (sym is)
          ∙ refilled_part_other k erased erased_valid channel_limit (k - 1) here (λ j f z. let b = s.table.each_channel j f.there in b.apart (let w = q.some in omega (arith, b.source.0, f.into)))
          ∙ get_or-set_same m.partitions (k - 1) (nothing_created mode) no_partition (omega (arith, here, s.partitions_size, s.table.size.1)) in
          let none : sending flow then ≡ [] = ap (waiters senders) at ∙ nobody senders in
          let off : (id : ℕ) → waits_to_send flow then id ≡ false = λ id. ap (λ (u : Partition). waits_on senders u id) at ∙ no_process id in
          Fl.quiet_even flow m e es then 0 0 (other_restarts to (λ z. apart_ends (sym is ∙ z))) (rw no_receive_holds) (ap held (queue_stays (λ z. apart_ends (sym is ∙ sym z))))
          (none ∙ sym (kept_no (waits_to_send flow then) (sending flow m) (λ id _. off id)))
          (λ id _ t. not_both _ t (off id))
          (λ id _ _. rw (restarts_by_holds from is) (or_true_last (is_tick e) (is_call from 5 e)))
          quiet_sent quiet_received
        where
          no_process : (id : ℕ) → waits_on senders (nothing_created mode) id ≡ false
          no_process id = rw (named_replicate process_limit process_limit id blank_process) (ne_eqb 0 senders (λ z. some (sym z)))

          or_true_last : (a b : Bool) → (a || (b || true)) ≡ true
          or_true_last a b = rw (or-true b) (or-true a)

      -- of another partition
      apart_even : (k ≡ from → ⊥) → (k ≡ to → ⊥) → Even then 0 0
      apart_even no-from no-to =
          leaves_quiet then (restart_leaves 6 (i + 1) of_channels low m s r q from from_inside mode small no-from from_some (λ j f z. let is : j ≡ i = omega arith in no-to (sym f.into ∙ ap (λ d. (channel T d).destination) is)))
          (queue_stays (λ z. no-to (sym z))) 0 0 (other_restarts to no-to) (rw no_receive_holds) quiet_sent quiet_received

      restart_even : Even then 0 0
      restart_even = ⊎_elim destination_even (λ (no-to : k ≡ to → ⊥). ⊎_elim source_even (λ (no-from : k ≡ from → ⊥). apart_even no-from no-to) (same_or_not k from)) (same_or_not k to)

    -- ------------------------------------------------------------ every other call
    -- what is no restart restarts nothing
    not_restarted : (d : Decision) → d ≡ made m s r q → (IsRestart d → ⊥) → (z : ℕ) → restarts_by z e (reply_of d).code ≡ false
    not_restarted d is out z = not_so _ (λ t.
        let u = and_left (is_call z 1 e) _ t in
        let w = and_right (is_call z 1 e) _ t in
        let one : n ≡ 1 = ap message_in (sym call_is ∙ plain_is e.call 1 (and_right (plain_number z e.partition) _ u)) in
        let modes : between 0 2 r.a ≡ true = (lossless e.a).between 0 2 (omega arith) ∙ and_left (plain_between 0 2 e.a) _ w in
        let made_is : d ≡ set_mode ctx r.a p = is ∙ ap (λ j. call_decision ctx x j r p) one ∙ call_mode ctx x r p in
        out ((rw (← made_is) at (mode_restarts ctx r.a p modes)).is (eqb-true _ 0 (and_right (plain_between 0 2 e.a) _ w))))

    module _ (not-send : k ≡ from → n ≡ 30 → number_of r.a ≡ i + 1 → ⊥) (not-receive : k ≡ to → n ≡ 31 → number_of r.a ≡ i + 1 → ⊥) where
      sends_not : is_send flow e ≡ false
      sends_not = no_call from 30 not-send

      receives_not : is_receive flow e ≡ false
      receives_not = no_call to 31 not-receive

      receives_none : (code : ℕ) → (is_receive flow e && eqb code 0) ≡ false
      receives_none code = rw receives_not

      nothing_sent : (z : Module) (code : ℕ) → Fl.sent_by flow m e es z code ≡ []
      nothing_sent z code = Fl.no_sent flow m e es z code sends_not

      nothing_received : (z : Module) (code value : ℕ) → Fl.received_by flow m e es z code value ≡ []
      nothing_received z code value = Fl.no_received flow m e es z code value sends_not receives_not

      -- a record that leaves the senders and the queue
      leaves_by : (d : Decision) → d ≡ made m s r q → (IsRestart d → ⊥) → Leaves 6 (i + 1) of_channels low (own m from) (own (module_after m k d) from) → queue (module_after m k d) i ≡ queue m i → Even (module_after m k d) (reply_of d).code (reply_of d).value
      leaves_by d is out h same = leaves_quiet (module_after m k d) h same (reply_of d).code (reply_of d).value (not_restarted d is out to) (receives_none (reply_of d).code) (nothing_sent (module_after m k d) (reply_of d).code) (nothing_received (module_after m k d) (reply_of d).code (reply_of d).value)

      -- a transfer on another channel
      passed_even : (j : ℕ) (a : Transfer) (v : ℕ) → PassedOn j a v ≡ made m s r q → OnQueue x n j a v → Even (passed k j a m) 0 v
      passed_even j a v is b =
          let w = on_queue_holds m s r q j a v b in
          let named = in_limits 1 T.channel_count r.a b.there in
          let number : j ≡ i → number_of r.a ≡ i + 1 = λ z. omega (arith, b.place, named.0) in
          let ne : j ≡ i → ⊥ = λ z.
          let same : x.channel ≡ c = w.is ∙ ap (λ d. channel T d) z in
          ⊎_elim
          (λ (h : Sends x n a v). not-send (sym h.source ∙ ap (λ (y : Channel). y.source) same) h.call (number z))
          (λ (h : Receives x n a v). not-receive (sym h.destination ∙ ap (λ (y : Channel). y.destination) same) h.call (number z))
          b.end in
          let other : other_queue k j (channel T j) ≡ senders → ⊥ = by_test (λ (o : ℕ). o ≡ senders → ⊥) (eqb (channel T j).source k) (λ _ z. omega (arith, w.there, s.table.channel_count, low)) (λ _ z. ne (omega arith)) in
          leaves_by (PassedOn j a v) is (λ z. z) (passed_leaves 6 (i + 1) of_channels low m s r q from from_inside j a v b other)
          (by_test (λ (y : Module). queue y i ≡ queue m i) (ends_wait a) (λ _. get_or-set_other m.queues j i (moved a (queue m j)) no_queue (λ z. ne (sym z))) (λ _. get_or-set_other m.queues j i (moved a (queue m j)) no_queue (λ z. ne (sym z))))

      zero_low : 0 ≤ 16
      zero_low = omega arith

      -- by another partition than the source
      other_even : (k ≡ from → ⊥) → (d : Decision) → d ≡ made m s r q → SoundDecision ctx p d → Bodily x n d → Calm 6 0 of_channels zero_low n r.a p d → Even (module_after m k d) (reply_of d).code (reply_of d).value
      other_even ne (Refused a) is h b f = leaves_by (Refused a) is (λ z. z) same_leaves refl
      other_even ne (Unchanged a y) is h b f = leaves_by (Unchanged a y) is (λ z. z) same_leaves refl
      other_even ne Ticked is h b f = absurd b
      other_even ne (Blocked id y) is h b f = leaves_by (Blocked id y) is (λ z. z) (rw (put_other (k - 1) (from - 1) (stored id y p) m refl (λ z. ne (let w = q.some in omega (arith, from_some)))) same_leaves) refl
      other_even ne (Changed a y v) is h b f = leaves_by (Changed a y v) is (λ z. z) (rw (put_other (k - 1) (from - 1) (applied y (applied a p)) m refl (λ z. ne (let w = q.some in omega (arith, from_some)))) same_leaves) refl
      other_even ne (Restarted mode) is h b f = restart_even (mode_number mode) h f.0 f.1 sends_not receives_not
      other_even ne (Written a y) is h b f = leaves_by (Written a y) is (λ z. z) same_leaves refl
      other_even ne (PassedOn a y v) is h b f = passed_even a y v is b

      -- the source's record is z then
      stored_even : k ≡ from → (z : Partition) (y : ℕ) → Stays 6 (i + 1) of_channels low y p z → ListedIn z → Part (waiters senders p) (waiters senders z)
          → (code value : ℕ) → restarts_by to e code ≡ false → (y ≡ 5 → gives_up flow e code ≡ true) → Even (with_part (k - 1) z m) code value
      stored_even at z y st v a code value on gives =
          let u = with_part (k - 1) z m in
          let is : own u from ≡ z = ap (own u) (sym at) ∙ put (k - 1) here z m refl in
          let back : own m from ≡ p = ap (own m) (sym at) in
          stays_quiet u y (rw (is, back) st) (rw is v) (rw (is, back) a) refl
          code value on (receives_none code) gives (nothing_sent u code) (nothing_received u code value)

      -- by the source
      own_even : k ≡ from → (d : Decision) → d ≡ made m s r q → SoundDecision ctx p d → Bodily x n d → Orderly ctx p d → Calm 6 (i + 1) of_channels low n r.a p d → Even (module_after m k d) (reply_of d).code (reply_of d).value
      own_even at (Refused a) is h b g f = leaves_by (Refused a) is (λ z. z) same_leaves refl
      own_even at (Unchanged a y) is h b g f = leaves_by (Unchanged a y) is (λ z. z) same_leaves refl
      own_even at Ticked is h b g f = absurd b
      own_even at (Blocked id y) is h b g f =
          let w : Caller id p = rw g.0 (normal_caller ctx p own_valid sound_ctx g.1) in
          let v = own_valid.lists in
          let z = stored id y p in
          let st = blocked_stays 6 (i + 1) of_channels low 0 p v id w.created y w.is_ready f in
          let queue_is : waiters senders z ≡ waiters senders p = joins_last senders some p v id w.created y w.is_ready ∙ rw (ne_eqb (object y.wait) senders f) (append-nil (waiters senders p)) in
          stored_even at z 0 st (stored_listed p id y v w.created) (rw queue_is (part_whole (waiters senders p))) 7 0 (not_restarted (Blocked id y) is (λ z. z) to) (λ z. absurd (omega arith))
      own_even at (Changed a y v) is h b g f =
          let w = change_valid ctx sound_ctx p own_valid a h.0 in
          let z = applied y (applied a p) in
          stored_even at z n (changed_stays 6 (i + 1) of_channels low n ctx sound_ctx p own_valid a y h.0 h.1 f.0 f.1) (change_valid ctx sound_ctx (applied a p) w y h.1).lists
          (part_trans (change_part senders some ctx p own_valid a h.0 g.0) (change_part senders some ctx (applied a p) w y h.1 g.1))
          0 v (not_restarted (Changed a y v) is (λ z. z) to) (λ z. rw (call_at from 5 at z) (or-true (is_tick e)))
      own_even at (Restarted mode) is h b g f = restart_even (mode_number mode) h f.0 f.1 sends_not receives_not
      own_even at (Written a y) is h b g f = leaves_by (Written a y) is (λ z. z) same_leaves refl
      own_even at (PassedOn a y v) is h b g f = passed_even a y v is b

      calm_even : Even (module_after m k (made m s r q)) (reply_of (made m s r q)).code (reply_of (made m s r q)).value
      calm_even =
          let d = made m s r q in
          let body = made_body m s r q in
          let sound = made_sound m s r q in
          ⊎_elim
          (λ (at : k ≡ from). own_even at d refl sound body (call_order ctx p x n r).is
          (call_calm 6 (i + 1) of_channels low n ctx x r p (record { valid = own_valid; context = sound_ctx; there = λ z. absurd (omega arith); no_send = λ z. absurd (omega arith); no_receive = λ z. absurd (omega arith); no_send_channel = λ _ thirty exists is. let b = in_limits 1 T.channel_count r.a exists in not-send at thirty (omega (arith, b.0)) })).is)
          (λ (ne : k ≡ from → ⊥). other_even ne d refl sound body
          (call_calm 6 0 of_channels zero_low n ctx x r p (record { valid = own_valid; context = sound_ctx; there = λ z. absurd (omega arith); no_send = λ z. absurd (omega arith); no_receive = λ z. absurd (omega arith); no_send_channel = λ _ _ _ z. omega arith })).is)
          (same_or_not k from)

    -- ------------------------------------------------------------ every call
    calls_even : Even (module_after m k (made m s r q)) (reply_of (made m s r q)).code (reply_of (made m s r q)).value
    calls_even = ⊎_elim
        (λ (h : (k ≡ from) × (n ≡ 30) × (number_of r.a ≡ i + 1)).
        let d : made m s r q ≡ send ctx x r.b r.c p = ap (λ j. call_decision ctx x j r p) h.1 ∙ call_send ctx x r p in
        rw d (send_even h.0 h.1 h.2).is)
        (λ (not-send : k ≡ from → n ≡ 30 → number_of r.a ≡ i + 1 → ⊥). ⊎_elim
        (λ (h : (k ≡ to) × (n ≡ 31) × (number_of r.a ≡ i + 1)).
        let d : made m s r q ≡ receive ctx x r.b p = ap (λ j. call_decision ctx x j r p) h.1 ∙ call_receive ctx x r p in
        rw d (receive_even h.0 h.1 h.2).is)
        (λ (not-receive : k ≡ to → n ≡ 31 → number_of r.a ≡ i + 1 → ⊥). calm_even not-send not-receive)
        (three k to n 31 (number_of r.a) (i + 1)))
        (three k from n 30 (number_of r.a) (i + 1))
      where
        three : (a b c d f g : ℕ) → ((a ≡ b) × (c ≡ d) × (f ≡ g)) ⊎ (a ≡ b → c ≡ d → f ≡ g → ⊥)
        three a b c d f g = ⊎_elim
            (λ (x : a ≡ b). ⊎_elim
            (λ (y : c ≡ d). ⊎_elim (λ (z : f ≡ g). inl (x, y, z)) (λ (z : f ≡ g → ⊥). inr (λ _ _ w. z w)) (same_or_not f g))
            (λ (y : c ≡ d → ⊥). inr (λ _ w _. y w)) (same_or_not c d))
            (λ (x : a ≡ b → ⊥). inr (λ w _ _. x w)) (same_or_not a b)

  event_even : Even (step m e).state (step m e).answer.code (step m e).answer.value
  unfolding step
  event_even =
      let r = request_of e in
      by_event m r (λ (d : Decision). Even (module_after m (number_of r.partition) d) (reply_of d).code (reply_of d).value)
      place_even
      (λ f t _. tick_even (tick_is T e f t))
      calls_even

-- ---------------------------------------------------------------- a list of events
-- the empty record has no channel
none_there : (m : Module) → m ≡ empty_module → (i : ℕ) → i < m.table.channel_count → ⊥
unfolding empty_module empty_table
none_there m e i l = omega (arith, ap (λ (q : Module). q.table.channel_count) e)

sound : (m : Module) → Reached m → (i : ℕ) → i < m.table.channel_count → SoundModule m
sound m r i l = ⊎_elim (λ (z : m ≡ empty_module). absurd (none_there m z i l)) (λ (s : SoundModule m). s) (reached_valid m r)

-- from a reached record of the table on
record Runs (T : Table) (i : ℕ) (es : List EventT) (m : Module) : Type 0 where
  reached : Reached m
  table : m.table ≡ T
  there : i < T.channel_count
  queues : (channel T i).size ≡ 0 → ⊥

runs_even : (T : Table) (i : ℕ) (e : EventT) (es : List EventT) (m : Module) → Runs T i (e ∷ es) m → Fl.Even (channel_flow T i) m e es (next m e) (step m e).answer.code (step m e).answer.value × Runs T i es (next m e)
runs_even T i e es m h =
    let inside : i < m.table.channel_count = rw h.table h.there in
    let s = sound m h.reached i inside in
    let ev = event_even m s (channel_ends m h.reached) i inside (rw h.table h.queues) e es in (
      subst (λ (U : Table). Fl.Even (channel_flow U i) m e es (next m e) (step m e).answer.code (step m e).answer.value) h.table ev,
      record { reached = Reached.stepped m e h.reached; table = step_table m e ∙ h.table; there = h.there; queues = h.queues },
    )

-- nothing is held and nobody waits to send in a fresh module
fresh_none : (T : Table) (i : ℕ) → (held (queue (fresh_module T) i) ≡ []) × ((o j : ℕ) → j < partition_limit → waiters o (part (fresh_module T) j) ≡ [])
unfolding fresh_module fresh_partition waiters kept
fresh_none T i = (
  rw (get_d_replicate_any channel_limit i no_queue),
  λ o j l. rw (get_or-replicate partition_limit j fresh_partition no_partition l),
)

-- Law of a queuing channel. From the fresh module on: sent and not lost = received ++ held ++ kept with waiting senders, in order.
channel_account : (input : List ℕ) (i : ℕ) (es : List EventT)
    → let m = (read_table input).state in
    i < m.table.channel_count → ((channel m.table i).size ≡ 0 → ⊥) → Balances (channel_flow m.table i) m es
channel_account input i es there queues =
    let m = (read_table input).state in
    let T = m.table in
    let t = table_read input in
    either (eqb (read_table input).code 0)
    (λ e.
    let a = t.accepted (eqb-true _ 0 e) in
    let c = (a.0.each_channel i there).source in
    let none = fresh_none T i in
    Fl.run_from (channel_flow T i) (Runs T i) (runs_even T i) es m (record { reached = Reached.read input; table = refl; there = there; queues = queues })
    (ap (λ (q : Module). held (queue q i)) a.1 ∙ none.0)
    (ap (λ (q : Module). waiters (object (Source (i + 1) 0)) (own q (channel T i).source)) a.1 ∙ none.1 (object (Source (i + 1) 0)) ((channel T i).source - 1) (omega (arith, c.0, c.1, a.0.size.1))))
    (λ e. absurd (none_there m (t.refused (eqb-false _ 0 e)) i there))

-- the account of buffers and of queuing channels
pub account : Account
account = record { buffer = buffer_account; channel = channel_account }
