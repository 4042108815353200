-- Who waits at the ends of queuing channels, on every reached record. Assumes nothing.
use Rattle.machine.specs.Mode.{mode_number}
use Prim.Native.Nat.{ℕ, zero, suc, ◌+◌, ◌-◌, ◌≤◌, ◌<◌}
use mathlib.Core.Path.{◌≡◌, refl, ap, sym, ◌∙◌, subst}
use mathlib.Core.Bool.{true, false, not, ◌&&◌, and-false}
use mathlib.Core.List.{List, [], ◌∷◌, map, append-nil}
use mathlib.Core.Logic.{◌⊎◌, inl, inr, ⊎_elim}
use native.Mathlib.Omega.{arith}
use lib.ListN.{length, get_or, set, take, drop, get_or-replicate}
use lib.Seq.{get_or-set_same, get_or-set_other}
use lib.Dec.{eqb, ltb}
use borrow.Author.Tests.{eq-eqb, ne_eqb, eqb-true, eqb-false, ltb-true, lt-ltb}
use Rattle.machine.specs.declared.Process.{Process}
use Rattle.machine.specs.declared.Partition.{Partition}
use Rattle.machine.specs.declared.Channel.{Channel}
use Rattle.machine.specs.declared.Table.{Table}
use Rattle.machine.specs.declared.Queue.{Queue}
use Rattle.machine.specs.declared.Port.{Port}
use Rattle.machine.specs.declared.Traffic.{Traffic}
use Rattle.machine.specs.declared.Transfer.{Transfer}
use Rattle.machine.specs.declared.Transfer.TheVariants.{LetIn}
use Rattle.machine.specs.declared.Decision.{Decision}
use Rattle.machine.specs.declared.Decision.TheVariants.{Refused, Unchanged, Ticked, Blocked, Changed, Restarted, Written, Passed}
use Rattle.machine.specs.declared.Request.{Request}
use Rattle.machine.specs.declared.Module.{Module}
use Rattle.machine.specs.Limits.{mode_limit, channel_limit, message_limit, partition_limit}
use Rattle.machine.specs.Fields.{request_of, number_of}
use Rattle.machine.specs.Messages.{no_queue, sent, received, moved, ends_wait}
use Rattle.machine.specs.Process.{Class, class_of, object_in, object, on_object, carried}
use Rattle.machine.specs.Partition.{process, waiters, first_waiter, stored, normal_mode, nothing_created, fresh_partition}
use Rattle.machine.specs.Ids.{kept}
use Rattle.machine.specs.Module.{no_partition, empty_table, empty_module, fresh_module, channel, part, queue, with_part, with_time}
use Rattle.machine.specs.Ticks.{partition_count, tick_module}
use Rattle.machine.specs.Channels.{queuing, queuing_at, leads_into, apart, other_end, other_queue, port_of, passed, erased_to}
use Rattle.machine.specs.Table.{read_table}
use Rattle.machine.specs.Step.{context_of, decision, restarted, module_after, step}
use Rattle.machine.specs.Theorems.Valid.{Between, contains, KnownWait, setting_of, SoundDecision, SoundModule, SoundMove, SoundEnd, Reached}
use Rattle.machine.specs.Theorems.Queues.{queue_number, EndOf, ChannelEnds}
use Rattle.machine.proofs.Tests.{by_test, not_both}
use Rattle.machine.proofs.Bounds.{same_or_not}
use Rattle.machine.proofs.Either.{either}
use Rattle.machine.proofs.Fields.{in_limits}
use Rattle.machine.proofs.Dispatch.{Calls, by_event}
use Rattle.machine.proofs.Bodies.{Sends, Receives, OnQueue, Bodily}
use Rattle.machine.proofs.Messages.{let_in_length}
use Rattle.machine.proofs.Kept.{Caller, normal_caller, nothing_valid, waiters_created, waiters_exact}
use Rattle.machine.proofs.Reached.{at_set, place, context_sound, made, made_sound, made_body, valid_sound, reached_valid, part_sound, erased_sound, Fills, fills, Channelled, on_queue_holds, transfer_sound, queuing_plain, empty_step}
use Rattle.machine.proofs.Answers.{decided_table}
use Rattle.machine.proofs.Tables.{table_read}
use Rattle.machine.proofs.Orders.{joins_last, Orderly}
use Rattle.machine.proofs.EveryCall.{call_order}
use Rattle.machine.proofs.Queues.{Parts, tick_parts, decided_parts}
use Rattle.machine.proofs.Fairness.{AtEnd, Fair, part_none, none_first, counts_low}
use Rattle.machine.proofs.EveryCall.{call_fair}
use Rattle.machine.proofs.Keeping.{process_created}
use Rattle.machine.proofs.Restarts.{refilled_queue, refilled_queue_other, refilled_senders, refilled_part_other}
use Rattle.machine.proofs.Starred.{tick_queues}

-- ---------------------------------------------------------------- what holds
-- who waits on queue j of a kind stands in the partition at that end of channel j
abbrev Only : ℕ → (Channel → ℕ) → Table → Module → Type 0
Only kind end T m = (i j : ℕ) → i < T.size → j ≤ 255 → (waiters (queue_number kind j) (part m i) ≡ []) ⊎ EndOf T end j i

-- nobody waits for what is there, at channel number i + 1
record Open (T : Table) (m : Module) (i : ℕ) : Type 0 where
  room : (queue m i).len < (channel T i).size → waiters (queue_number 6 (i + 1)) (part m ((channel T i).source - 1)) ≡ []
  message : 0 < (queue m i).len → waiters (queue_number 7 (i + 1)) (part m ((channel T i).destination - 1)) ≡ []

record Holds (T : Table) (m : Module) : Type 0 where
  sources : Only 6 (λ c. c.source) T m
  destinations : Only 7 (λ c. c.destination) T m
  opens : (i : ℕ) → i < T.channel_count → Open T m i

-- ---------------------------------------------------------------- one event
-- a channel's end at which a caller begins to wait
record BeginsAt (x : Port) (end : Channel → ℕ) (j : ℕ) : Type 0 where
  place : j ≡ x.place + 1
  there : x.exists ≡ true
  kind : queuing x.channel ≡ true
  here : end x.channel ≡ x.own

module _ (m : Module) (s : SoundModule m) (h : Holds m.table m) where
  abbrev T : Table
  T = m.table

  source_inside : (i : ℕ) → i < T.channel_count → (channel T i).source - 1 < T.size
  source_inside i l = let b = (s.table.each_channel i l).source in omega (arith, b.0, b.1)

  destination_inside : (i : ℕ) → i < T.channel_count → (channel T i).destination - 1 < T.size
  destination_inside i l = let b = (s.table.each_channel i l).destination in omega (arith, b.0, b.1)

  -- each queue is a part of what it was
  only_parts : (kind : ℕ) (end : Channel → ℕ) → 1 ≤ kind → Only kind end T m → (q : Module) → ((o : ℕ) (some : o ≡ 0 → ⊥) → Parts m s o some q) → Only kind end T q
  only_parts kind end some only q parts i j l few = ⊎_elim (λ e. inl (part_none _ _ e (parts (queue_number kind j) (λ z. omega arith) i l).1)) inr (only i j l few)

  -- and so is what a channel holds
  open_parts : (q : Module) → ((o : ℕ) (some : o ≡ 0 → ⊥) → Parts m s o some q) → (i : ℕ) → i < T.channel_count → queue q i ≡ queue m i → Open T q i
  open_parts q parts i l same = record {
    room = λ b. part_none _ _ ((h.opens i l).room (rw same at b)) (parts (queue_number 6 (i + 1)) (λ z. omega arith) ((channel T i).source - 1) (source_inside i l)).1;
    message = λ b. part_none _ _ ((h.opens i l).message (rw same at b)) (parts (queue_number 7 (i + 1)) (λ z. omega arith) ((channel T i).destination - 1) (destination_inside i l)).1;
  }

  holds_parts : (q : Module) → ((o : ℕ) (some : o ≡ 0 → ⊥) → Parts m s o some q) → ((i : ℕ) → i < T.channel_count → Open T q i) → Holds T q
  holds_parts q parts opened = record { sources = only_parts 6 (λ c. c.source) (omega arith) h.sources q parts; destinations = only_parts 7 (λ c. c.destination) (omega arith) h.destinations q parts; opens = opened }

  module _ (r : Request) (c : Calls m r) where
    abbrev k : ℕ
    k = number_of r.partition

    abbrev now : Partition
    now = part m (k - 1)

    abbrev x : Port
    x = port_of m k r

    abbrev n : ℕ
    n = number_of r.call

    here : k - 1 < T.size
    here = place m s r c

    -- ------------------------------------------------------------ the caller begins to wait
    module _ (id : ℕ) (y : Process) (b : Between 1 now.process_count id) (q : Caller id now) (end : AtEnd x n (object y.wait)) where
      abbrev blocked : Module
      blocked = with_part (k - 1) (stored id y now) m

      -- the end of the channel at which it waits
      end_is : (e : Channel → ℕ) (j : ℕ) → BeginsAt x e j → EndOf T e j (k - 1)
      end_is e j w =
          let l = in_limits 1 T.channel_count r.a w.there in
          let i = number_of r.a - 1 in
          let inside : i < T.channel_count = omega (arith, l.0, l.1) in
          let is : j - 1 ≡ i = omega (arith, w.place) in
          let kind : ltb 0 (channel T i).size ≡ true = sym (queuing_plain T s.table i inside) ∙ w.kind in
          record {
            there = (omega (arith, w.place), omega (arith, w.place));
            queuing = rw is (λ z. let p = ltb-true 0 (channel T i).size kind in omega arith);
            here = rw is (w.here ∙ let some = c.some in omega arith);
          }

      joins : (o : ℕ) (some : o ≡ 0 → ⊥) (e : List ℕ) → waiters o now ≡ e → eqb (object y.wait) o ≡ false → waiters o (stored id y now) ≡ e
      joins o some e is off = joins_last o some now (s.each_partition (k - 1) here).lists id b y q.is_ready ∙ rw off (append-nil (waiters o now)) ∙ is

      only_blocked : (kind : ℕ) (e : Channel → ℕ) → 1 ≤ kind → ((j : ℕ) → j ≤ 255 → object y.wait ≡ queue_number kind j → BeginsAt x e j) → Only kind e T m → Only kind e T blocked
      only_blocked kind e some meets only i j l few =
          let o = queue_number kind j in
          at_set (λ i p. (waiters o p ≡ []) ⊎ EndOf T e j i) m.partitions (k - 1) (stored id y now) no_partition (omega (arith, here, s.partitions_size, s.table.size.1)) i
          (either (eqb (object y.wait) o)
          (λ t. inr (end_is e j (meets j few (eqb-true _ o t))))
          (λ t. ⊎_elim (λ z. inl (joins o (λ z. omega arith) [] z t)) inr (only (k - 1) j here few)))
          (λ _. only i j l few)

      -- where it waits with a message there is no room, and where it waits for one there is none
      open_blocked : (i : ℕ) → i < T.channel_count → Open T blocked i
      open_blocked i l = record {
        room = λ g. stays (queue_number 6 (i + 1)) ((channel T i).source - 1) (λ z. omega arith) ((h.opens i l).room g) (λ z.
            let w = end.0 (i + 1) (omega (arith, l, s.table.channel_count)) z in
            let is : i ≡ x.place = omega (arith, w.place) in
            let t = traffic_is i is w.kind w.there (inl w.source) in
            let f = w.full in
            let size = ap (λ (d : ℕ). (channel T d).size) is in
            omega arith);
        message = λ g. stays (queue_number 7 (i + 1)) ((channel T i).destination - 1) (λ z. omega arith) ((h.opens i l).message g) (λ z.
            let w = end.1 (i + 1) (omega (arith, l, s.table.channel_count)) z in
            let is : i ≡ x.place = omega (arith, w.place) in
            let t = traffic_is i is w.kind w.there (inr w.destination) in
            let f = w.empty in
            omega arith);
      }
        where
          stays : (o j : ℕ) → (o ≡ 0 → ⊥) → waiters o (part m j) ≡ [] → (object y.wait ≡ o → ⊥) → waiters o (part blocked j) ≡ []
          stays o j some e off = at_set (λ i p. waiters o (part m i) ≡ [] → waiters o p ≡ []) m.partitions (k - 1) (stored id y now) no_partition (omega (arith, here, s.partitions_size, s.table.size.1)) j
              (λ z. joins o some [] z (ne_eqb _ o off))
              (λ _ z. z) e

          traffic_is : (i : ℕ) → i ≡ x.place → queuing x.channel ≡ true → x.exists ≡ true → (x.channel.source ≡ x.own) ⊎ (x.channel.destination ≡ x.own) → x.traffic.len ≡ (queue m i).len
          traffic_is i is kind there at =
              let l = in_limits 1 T.channel_count r.a there in
              let c = channel T x.place in
              let near : apart k c ≡ false = ⊎_elim (λ (e : c.source ≡ k). rw (eq-eqb c.source k e)) (λ (e : c.destination ≡ k). rw (eq-eqb c.destination k e, and-false (not (eqb c.source k)))) at in
              rw is (rw (lt-ltb x.place T.channel_count (omega (arith, l.0, l.1)), kind, near))

    -- ------------------------------------------------------------ a transfer
    module _ (i : ℕ) (a : Transfer) (v : ℕ) (b : OnQueue x n i a v) (parts : (o : ℕ) (some : o ≡ 0 → ⊥) → Parts m s o some (passed k i a m)) where
      t : (i < T.channel_count) × SoundMove (channel T i).size (queue m i) a × SoundEnd (part m (other_end k (channel T i) - 1)) a
      t = transfer_sound m s r c i a v b

      w : Channelled m k i x
      w = on_queue_holds m s r c i a v b

      abbrev after : Module
      after = passed k i a m

      queue_passed : (j : ℕ) → queue after j ≡ get_or (set m.queues i (moved a (queue m i))) j no_queue
      queue_passed j = by_test (λ (y : Module). queue y j ≡ get_or (set m.queues i (moved a (queue m i))) j no_queue) (ends_wait a) (λ _. refl) (λ _. refl)

      here_queue : queue after i ≡ moved a (queue m i)
      here_queue = queue_passed i ∙ get_or-set_same m.queues i (moved a (queue m i)) no_queue (omega (arith, t.0, s.table.channel_count, s.queues_size))

      -- where nobody waits, nobody does then
      gone : (o j : ℕ) → (o ≡ 0 → ⊥) → j < T.size → waiters o (part m j) ≡ [] → waiters o (part after j) ≡ []
      gone o j some l e = part_none _ _ e (parts o some j l).1

      abbrev senders : ℕ
      senders = queue_number 6 (i + 1)

      abbrev receivers : ℕ
      receivers = queue_number 7 (i + 1)

      abbrev source : ℕ
      source = (channel T i).source - 1

      abbrev destination : ℕ
      destination = (channel T i).destination - 1

      before : Open T m i
      before = h.opens i t.0

      no_first : (o j : ℕ) → j < T.size → first_waiter o (part m j) ≡ 0 → waiters o (part m j) ≡ []
      no_first o j l e = none_first (waiters o (part m j)) (waiters_created (part m j) (s.each_partition j l).lists o) e

      len_is : x.traffic.len ≡ (queue m i).len
      len_is = ap (λ (u : Traffic). u.len) w.sees

      size_is : x.channel.size ≡ (channel T i).size
      size_is = ap (λ (u : Channel). u.size) w.is

      -- a send: where there is room nobody waits to send; a message is held then only where nobody waits for one
      sent_message : (f message : ℕ) → first_waiter receivers (part m destination) ≡ f → a ≡ sent f message → 0 < (queue after i).len → waiters receivers (part after destination) ≡ []
      unfolding sent
      sent_message f message e is g = either (eqb f 0)
          (λ z. gone receivers destination (λ z. omega arith) (destination_inside i t.0) (no_first receivers destination (destination_inside i t.0) (e ∙ eqb-true f 0 z)))
          (λ z.
          let same : (queue after i).len ≡ (queue m i).len = ap (λ (q : Queue). q.len) here_queue ∙ rw (is, z) in
          let none = before.message (omega arith) in
          absurd (eqb-false f 0 z (sym e ∙ ap (λ (l : List ℕ). get_or l 0 0) none)))

      open_sent : Sends x n a v → Open T after i
      open_sent y =
          let here-is : eqb (channel T i).source k ≡ true = eq-eqb _ k (ap (λ (u : Channel). u.source) (sym w.is) ∙ y.source) in
          let first : first_waiter (other_queue k i (channel T i)) (part m (other_end k (channel T i) - 1)) ≡ first_waiter receivers (part m destination) = rw here-is in
          let is : a ≡ sent (first_waiter receivers (part m destination)) y.message = y.transfer ∙ ap (λ (u : Traffic). sent u.waiter y.message) w.sees ∙ ap (λ f. sent f y.message) first in
          let room : (queue m i).len < (channel T i).size = let g = y.room in omega (arith, len_is, size_is) in
          record {
            room = λ _. gone senders source (λ z. omega arith) (source_inside i t.0) (before.room room);
            message = sent_message (first_waiter receivers (part m destination)) y.message refl is;
          }

      -- a receive: where a message is held nobody waits for one; there is room then only where nobody waits to send
      received_room : (f message : ℕ) → first_waiter senders (part m source) ≡ f → a ≡ received f message → (queue after i).len < (channel T i).size → waiters senders (part after source) ≡ []
      unfolding received
      received_room f message e is g = either (eqb f 0)
          (λ z. gone senders source (λ z. omega arith) (source_inside i t.0) (no_first senders source (source_inside i t.0) (e ∙ eqb-true f 0 z)))
          (λ z.
          let let_in_holds : a ≡ LetIn f message = is ∙ rw z in
          let few : (channel T i).size ≤ message_limit = let g = (s.table.each_channel i t.0).room in omega arith in
          let move : SoundMove (channel T i).size (queue m i) (LetIn f message) = rw let_in_holds at t.1 in
          let same : (queue after i).len ≡ (queue m i).len = ap (λ (q : Queue). q.len) (here_queue ∙ ap (λ (a : Transfer). moved a (queue m i)) let_in_holds) ∙ let_in_length (channel T i).size (queue m i) (s.each_queue i) few f message move in
          let none = before.room (omega arith) in
          absurd (eqb-false f 0 z (sym e ∙ ap (λ (l : List ℕ). get_or l 0 0) none)))

      open_received : Receives x n a v → Open T after i
      open_received y =
          let end = s.table.each_channel i t.0 in
          let at : (channel T i).destination ≡ k = ap (λ (u : Channel). u.destination) (sym w.is) ∙ y.destination in
          let here-is : eqb (channel T i).source k ≡ false = ne_eqb _ k (λ z. end.apart (z ∙ sym at)) in
          let first : first_waiter (other_queue k i (channel T i)) (part m (other_end k (channel T i) - 1)) ≡ first_waiter senders (part m source) = rw here-is in
          let is : a ≡ received (first_waiter senders (part m source)) x.traffic.carried = y.transfer ∙ ap (λ f. received f x.traffic.carried) (ap (λ (u : Traffic). u.waiter) w.sees ∙ first) in
          let some : 0 < (queue m i).len = let g = y.some in omega (arith, len_is) in
          record {
            room = received_room (first_waiter senders (part m source)) x.traffic.carried refl is;
            message = λ _. gone receivers destination (λ z. omega arith) (destination_inside i t.0) (before.message some);
          }

      open_passed : (j : ℕ) → j < T.channel_count → Open T after j
      open_passed j l = ⊎_elim
          (λ (is : j ≡ i). rw is (⊎_elim open_sent open_received b.end))
          (λ (ne : j ≡ i → ⊥). open_parts after parts j l (queue_passed j ∙ get_or-set_other m.queues i j (moved a (queue m i)) no_queue ne))
          (same_or_not j i)

    -- ------------------------------------------------------------ a restart
    module _ (mode : ℕ) (low : mode ≤ mode_limit) (parts : (o : ℕ) (some : o ≡ 0 → ⊥) → Parts m s o some (restarted k (nothing_created mode) m)) where
      abbrev erased : Module
      erased = with_part (k - 1) (nothing_created mode) (erased_to k channel_limit m)

      sound : SoundModule erased
      sound = part_sound (erased_to k channel_limit m) (erased_sound k channel_limit m (omega arith) s) (k - 1) here (nothing_created mode) (nothing_valid m.table.frame m.t mode low)

      nobody : (o : ℕ) → waiters o (nothing_created mode) ≡ []
      unfolding waiters kept
      nobody o = refl

      -- a queue into the partition is filled with the messages of senders, all of them where there is room then, and there are no receivers
      open_filled : (i : ℕ) → Fills m k i → Open T (restarted k (nothing_created mode) m) i
      open_filled i f =
          let g : Fills erased k i = record { there = f.there; few = f.few; kind = f.kind; into = f.into } in
          let size = (channel T i).size in
          let end = s.table.each_channel i f.there in
          let from = (channel T i).source - 1 in
          let l = waiters (queue_number 6 (i + 1)) (part erased from) in
          let len : (queue (restarted k (nothing_created mode) m) i).len ≡ length (take size l) = ap (λ (q : Queue). q.len) (refilled_queue k erased sound i g channel_limit f.few) ∙ length-map (λ id. carried (process id (part erased from))) (take size l) in
          record {
            room = λ b. refilled_senders k erased sound i g channel_limit f.few ∙ drop_none size l (rw len at b);
            message = λ _.
                ap (λ (d : ℕ). waiters (queue_number 7 (i + 1)) (part (restarted k (nothing_created mode) m) (d - 1))) f.into
                ∙ ap (waiters (queue_number 7 (i + 1))) (refilled_part_other k erased sound channel_limit (k - 1) here (λ j o z. let e = s.table.each_channel j o.there in e.apart (omega (arith, e.source.0, e.destination.0, o.into)))
                ∙ get_or-set_same m.partitions (k - 1) (nothing_created mode) no_partition (omega (arith, here, s.partitions_size, s.table.size.1)))
                ∙ nobody (queue_number 7 (i + 1));
          }
        where
          length-map : (f : ℕ → ℕ) (l : List ℕ) → length (map f l) ≡ length l
          length-map f [] = refl
          length-map f (y ∷ l) = ap suc (length-map f l)

          drop_none : (d : ℕ) (l : List ℕ) → length (take d l) < d → drop d l ≡ []
          drop_none zero l h = absurd (omega arith)
          drop_none (suc d) [] h = refl
          drop_none (suc d) (y ∷ l) h = drop_none d l (omega arith)

      open_restarted : (i : ℕ) → i < T.channel_count → Open T (restarted k (nothing_created mode) m) i
      open_restarted i l = either (queuing_at T i && leads_into k (channel T i))
          (λ t. open_filled i (fills m s k i T refl t))
          (λ t. open_parts (restarted k (nothing_created mode) m) parts i l (refilled_queue_other k channel_limit erased i t))

    -- ------------------------------------------------------------ every decision
    decided_holds : (d : Decision) → SoundDecision (context_of m k) now d → Bodily x n d → Orderly (context_of m k) now d → Fair x n now d → Holds T (module_after m k d)
    decided_holds (Refused a) f b g e = h
    decided_holds (Unchanged a y) f b g e = h
    decided_holds Ticked f b g e = absurd b
    decided_holds (Blocked id y) f b g e =
        let q : Caller id now = rw g.0 (normal_caller (context_of m k) now (s.each_partition (k - 1) here) (context_sound m s r c) g.1) in
        record {
          sources = only_blocked id y f.0 q e.1 6 (λ c. c.source) (omega arith) (λ j few o. let w = e.1.0 j few o in record { place = w.place; there = w.there; kind = w.kind; here = w.source }) h.sources;
          destinations = only_blocked id y f.0 q e.1 7 (λ c. c.destination) (omega arith) (λ j few o. let w = e.1.1 j few o in record { place = w.place; there = w.there; kind = w.kind; here = w.destination }) h.destinations;
          opens = open_blocked id y f.0 q e.1;
        }
    decided_holds (Changed a y v) f b g e =
        let q = module_after m k (Changed a y v) in
        let parts : (o : ℕ) (some : o ≡ 0 → ⊥) → Parts m s o some q = λ o some. decided_parts m s o some r c (Changed a y v) f b g tt in
        holds_parts q parts (λ i l. open_parts q parts i l refl)
    decided_holds (Restarted mode) f b g e =
        let q = module_after m k (Restarted mode) in
        let parts : (o : ℕ) (some : o ≡ 0 → ⊥) → Parts m s o some q = λ o some. decided_parts m s o some r c (Restarted mode) f b g tt in
        holds_parts q parts (open_restarted (mode_number mode) f parts)
    decided_holds (Written a y) f b g e =
        let q = module_after m k (Written a y) in
        let parts : (o : ℕ) (some : o ≡ 0 → ⊥) → Parts m s o some q = λ o some. decided_parts m s o some r c (Written a y) f b g tt in
        holds_parts q parts (λ i l. open_parts q parts i l refl)
    decided_holds (Passed i a v) f b g e =
        let q = module_after m k (Passed i a v) in
        let parts : (o : ℕ) (some : o ≡ 0 → ⊥) → Parts m s o some q = λ o some. decided_parts m s o some r c (Passed i a v) f b g tt in
        holds_parts q parts (open_passed i a v b parts)

  event_holds : (r : Request) → Holds T (module_after m (number_of r.partition) (decision m r))
  event_holds r =
      let k = number_of r.partition in
      by_event m r (λ (d : Decision). Holds T (module_after m k d))
      (λ _ _. h)
      (λ _ _ _. holds_parts (tick_module m) (λ o some. tick_parts m s o some) (λ i l. open_parts (tick_module m) (λ o some. tick_parts m s o some) i l (ap (λ (l : List Queue). get_or l i no_queue) (tick_queues (partition_count T) (with_time (m.t + 1) m)))))
      (λ c. decided_holds r c (made m s r c) (made_sound m s r c) (made_body m s r c)
      (call_order (context_of m k) (part m (k - 1)) (port_of m k r) (number_of r.call) r).is
      (call_fair (context_of m k) (part m (k - 1)) (s.each_partition (k - 1) (place m s r c)) (context_sound m s r c) (port_of m k r) (number_of r.call) r).is)

-- ---------------------------------------------------------------- every reached record
fresh_holds : (T : Table) → T.size ≤ partition_limit → ((i : ℕ) → i < T.channel_count → ((channel T i).source - 1 < T.size) × ((channel T i).destination - 1 < T.size)) → Holds T (fresh_module T)
unfolding fresh_module fresh_partition waiters kept
fresh_holds T few inside = record {
  sources = λ i j l _. inl (none i (queue_number 6 j) (omega arith));
  destinations = λ i j l _. inl (none i (queue_number 7 j) (omega arith));
  opens = λ i l. let e = inside i l in record { room = λ _. none ((channel T i).source - 1) (queue_number 6 (i + 1)) (let g = e.0 in omega arith); message = λ _. none ((channel T i).destination - 1) (queue_number 7 (i + 1)) (let g = e.1 in omega arith) };
}
  where
    none : (i o : ℕ) → i < partition_limit → waiters o (part (fresh_module T) i) ≡ []
    none i o l = rw (get_or-replicate partition_limit i fresh_partition no_partition l)

empty_holds : Holds empty_module.table empty_module
unfolding empty_module empty_table
empty_holds = record { sources = λ i j l _. absurd (omega arith); destinations = λ i j l _. absurd (omega arith); opens = λ i l. absurd (omega arith) }

reached_holds : (m : Module) → Reached m → Holds m.table m
unfolding step
reached_holds m (Reached.read input) =
    let t = table_read input in
    either (eqb (read_table input).code 0)
    (λ e.
    let a = t.accepted (eqb-true _ 0 e) in
    let T = (read_table input).state.table in
    let s = a.0 in
    subst (λ (q : Module). Holds T q) (sym a.1) (fresh_holds T s.size.1 (λ i l. let c = s.each_channel i l in let x = c.source in let y = c.destination in (omega arith, omega arith))))
    (λ e. rw (t.refused (eqb-false _ 0 e)) empty_holds)
reached_holds _ (Reached.stepped m e h) =
    let r = request_of e in
    let k = number_of r.partition in
    ⊎_elim
    (λ (z : m ≡ empty_module). rw (z, empty_step e) empty_holds)
    (λ (s : SoundModule m). subst (λ (T : Table). Holds T (step m e).state) (sym (decided_table m k (decision m r))) (event_holds m s (reached_holds m h) r))
    (reached_valid m h)

-- a process that waits on queue k of a kind has a number in reach of it, and stands in that queue
waits_in : (m : Module) → SoundModule m → (i id kind k n : ℕ) → i < m.table.size → 1 ≤ kind → class_of (process id (part m i)).wait ≡ Class.onto kind k n
    → (k ≤ 255) × (waiters (queue_number kind k) (part m i) ≡ [] → ⊥)
unfolding contains
waits_in m s i id kind k n l some e =
    let p = part m i in
    let v = s.each_partition i l in
    let y = process id p in
    let o = queue_number kind k in
    let is : object y.wait ≡ o = ap object_in e in
    let on : on_object y ≡ true = rw (is, ne_eqb o 0 (λ z. omega arith)) in
    let b = process_created on_object refl p v.lists id on in
    let g = v.each_process id b in
    let known : Between 1 ((setting_of m.table.frame m.t p).counts kind) k = either y.started
    (λ t. either (normal_mode p)
    (λ u. let w : KnownWait (setting_of m.table.frame m.t p).counts (Class.onto kind k n) = rw e at (g.going t u).wait in w.0)
    (λ u. absurd (let z : object y.wait ≡ 0 = ap object (g.early t u).wait in omega arith)))
    (λ t. absurd (let z : object y.wait ≡ 0 = ap object (g.dormant t).wait in omega arith)) in
    (omega (arith, known.1, counts_low m.table.frame m.t p v kind), λ none. not_both _ (waiters_exact p v.lists o (λ z. omega arith) id ∙ eq-eqb _ o is) (rw none no_one))
  where
    no_one : contains id [] ≡ false
    no_one = refl

-- Law. Who waits at the ends of channels.
pub channel_ends : (m : Module) → Reached m → ChannelEnds m
channel_ends m h =
    let g = reached_holds m h in
    record {
      sources = λ i id k n l e. waits_at 6 (λ c. c.source) (omega arith) g.sources i id k n l (ap class_of e);
      destinations = λ i id k l e. waits_at 7 (λ c. c.destination) (omega arith) g.destinations i id k 0 l (ap class_of e);
      room = λ i l. (g.opens i l).room;
      message = λ i l. (g.opens i l).message;
    }
  where
    waits_at : (kind : ℕ) (end : Channel → ℕ) → 1 ≤ kind → Only kind end m.table m → (i id k n : ℕ) → i < m.table.size → class_of (process id (part m i)).wait ≡ Class.onto kind k n → EndOf m.table end k i
    waits_at kind end some only i id k n l e =
        let w = waits_in m (valid_sound m (reached_valid m h) i l) i id kind k n l some e in
        ⊎_elim (λ (z : waiters (queue_number kind k) (part m i) ≡ []). absurd (w.1 z)) (λ (z : EndOf m.table end k i). z) (only i k l w.0)
