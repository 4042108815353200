-- Queue order, who waits, and what the calls of all four families do to their queues: the whole. Assumes nothing.
use Rattle.machine.specs.Mode.{mode_number}
use Rattle.std.specs.Prelude.{Option}
use Prim.Native.Nat.{ℕ, suc, ◌-◌, ◌≤◌, ◌<◌, max}
use mathlib.Core.Path.{◌≡◌, refl, ap, sym, ◌∙◌}
use mathlib.Core.Bool.{true}
use mathlib.Core.List.{List, [], ◌∷◌, ◌++◌}
use native.Mathlib.Omega.{arith}
use lib.ListN.{length, get_or, set, drop}
use lib.IntN.{ℤ, pos}
use borrow.Author.Tests.{eq-eqb, ne_eqb, lt-ltb, ltb-false}
use Rattle.machine.specs.declared.Process.{Process}
use Rattle.machine.specs.declared.Partition.{Partition}
use Rattle.machine.specs.declared.Blackboard.{Blackboard as BlackboardT}
use Rattle.machine.specs.declared.Transfer.{Transfer}
use Rattle.machine.specs.declared.Transfer.TheVariants.{Put, Taken, LetIn}
use Rattle.machine.specs.declared.Change.TheVariants.{Nothing, Moved, StoredBlackboard, Handed}
use Rattle.machine.specs.declared.Decision.{Decision}
use Rattle.machine.specs.declared.Decision.TheVariants.{Changed}
use Rattle.machine.specs.declared.Wait.TheVariants.{Sending, Receiving, Blackboard}
use Rattle.std.specs.Prelude.{Some}
use Rattle.machine.specs.declared.Field.TheVariants.{Number}
use Rattle.machine.specs.declared.Event.{Event as EventT}
use Rattle.machine.specs.declared.Module.{Module}
use Rattle.machine.specs.Limits.{blackboard_limit, duration_limit}
use Rattle.machine.specs.Fields.{field}
use Rattle.machine.specs.Messages.{held, first, sent, received}
use Rattle.machine.specs.Process.{object, carried, served, handed}
use Rattle.machine.specs.Partition.{no_blackboard, process, buffer, blackboard, with_blackboards, stored, stored_buffer, moved_in, stored_blackboard, waiters, changed_all, applied}
use Rattle.machine.specs.Decisions.{checked, changed, awaiting}
use Rattle.machine.specs.Buffers.{has_room, holds, send_buffer, receives, receive_buffer}
use Rattle.machine.specs.Blackboards.{show}
use Rattle.machine.specs.Services.{services, call_decision}
use Rattle.machine.specs.Places.{stray_field}
use Rattle.machine.specs.Module.{part, with_part}
use Rattle.machine.specs.Step.{step}
use Rattle.machine.specs.Theorems.Valid.{Between, SoundBuffer, Valid, SoundModule}
use Rattle.machine.specs.Theorems.Events.{own, call_by, TimeOut, Calling, Gives}
use Rattle.machine.specs.Theorems.Queues.{SameObjects, FirstServed, NoneServed, AllServed, has, Queues}
use Rattle.machine.proofs.Bounds.{within_in, named_same, blackboard_in}
use Rattle.machine.proofs.Either.{either}
use Rattle.machine.proofs.Messages.{queue_first}
use Rattle.machine.proofs.Lists.{cons_not}
use Rattle.machine.proofs.Moves as Mo
use Rattle.machine.proofs.Keeping.{stored_rest, changed_rest}
use Rattle.machine.proofs.Sound.{carried_sound}
use Rattle.machine.proofs.Calling.{field_number, calling_sound, calling_valid, calling_place, decides, gives, own_after, known}
use Rattle.machine.proofs.Reached.{valid_sound, reached_valid}
use Rattle.machine.proofs.Queues.{queue_after, first_created, ended_is, time_out, a_message, ends_handed, first_served_by, none_served, all_served_by, signal_first_holds, signal_none_holds, set_event_holds}
use Rattle.machine.proofs.Orders.{rest_objects, changes_queue, blackboard_queue}
use Rattle.machine.proofs.Available.{none_waits}
use Rattle.machine.proofs.Ends.{channel_ends}
use Rattle.machine.proofs.Transfers.{channel_calls}

module _ (m : Module) (k : ℕ) (u : SoundModule m) (h : Calling m k) where
  abbrev p : Partition
  p = own m k

  valid : Valid m.table.frame m.t p
  valid = calling_valid m k u h

  -- ---------------------------------------------------------------- buffers
  module _ (j : ℕ) (normal : mode_number p.mode ≡ 3) (b : Between 1 p.buffer_count j) where
    is_field : field (pos j) ≡ Number j
    is_field = field_number j (omega (arith, b.1, valid.objects.buffers.numbered.few))

    abbrev sound : SoundBuffer (buffer j p)
    sound = Mo.sound m.table.frame m.t p valid j b

    abbrev messages : List ℕ
    messages = held (buffer j p).queue

    abbrev size : length messages ≡ (buffer j p).queue.len
    size = Mo.size m.table.frame m.t p valid j b

    abbrev moving : Transfer → Partition
    moving a = stored_buffer j (moved_in a (buffer j p)) p

    -- SEND
    module _ (x : ℕ) (a : ℤ) (ok : x ≤ duration_limit) (t : TimeOut a) where
      abbrev sends : EventT
      sends = call_by k 24 (pos j) (pos x) a (pos 0)

      send_gives : (l : List ℕ) → waiters (object (Receiving j)) p ≡ l → has_room (buffer j p) ≡ true → Gives m sends 0 0 (Some 0) (with_part (k - 1) (applied (Moved j (sent (get_or l 0 0) x)) p) m)
      unfolding call_decision services stray_field send_buffer awaiting checked
      send_gives l e room =
          gives m k u h 24 (pos j) (pos x) a (pos 0) (omega arith) (omega arith) refl (changed (Moved j (sent (get_or l 0 0) x)))
          (rw (is_field, field_number x (omega arith), known m k u h j p.buffer_count b, eq-eqb (mode_number p.mode) 3 normal, a_message x ok, time_out a t, room, e))

      send_first_holds : (id : ℕ) (rest : List ℕ) → waiters (object (Receiving j)) p ≡ id ∷ rest → FirstServed m k sends (object (Receiving j)) id rest x × SameObjects p (own (step m sends).state k)
      unfolding sent
      send_first_holds id rest e =
          let none : (buffer j p).queue.len ≡ 0 = either (holds (buffer j p)) (λ s. absurd (cons_not id rest (sym e ∙ none_waits m h.reached (k - 1) (calling_place m k u h) 4 j s))) (λ s. omega (arith, ltb-false 0 (buffer j p).queue.len s)) in
          let g = send_gives (id ∷ rest) e (lt-ltb (buffer j p).queue.len (buffer j p).limit (omega (arith, none, sound.limit.0))) in
          let q = stored id (handed x (process id p)) p in
          let c = first_created (object (Receiving j)) (λ z. omega arith) p valid.lists id rest e in
          let is : applied (Moved j (sent id x)) p ≡ q = rw (ne_eqb id 0 (λ z. omega (arith, c.0)), Mo.handed_same m.table.frame m.t p valid j b id x) in
          let g = rw is at g in (
            first_served_by m k u h (object (Receiving j)) (λ z. omega arith) p valid.lists (λ _. refl) (handed x) (ends_handed x) id rest e 0 sends g,
            rw (own_after m k u h q g) (rest_objects p q (stored_rest p id (handed x (process id p)))),
          )

      send_none_holds : waiters (object (Receiving j)) p ≡ [] → (buffer j p).queue.len < (buffer j p).limit → NoneServed m k sends (object (Receiving j)) × (held (buffer j (own (step m sends).state k)).queue ≡ messages ++ (x ∷ []))
      unfolding sent
      send_none_holds e room =
          let q = moving (Put x) in
          let g = send_gives [] e (lt-ltb (buffer j p).queue.len (buffer j p).limit room) in (
            none_served m k u h (object (Receiving j)) 0 sends q g (Mo.moving_queue m.table.frame m.t p valid j b (Put x) (object (Receiving j)) (λ z. omega arith) ∙ e) (Mo.moving_processes m.table.frame m.t p valid j b (Put x)),
            rw (own_after m k u h q g) (Mo.moving_held m.table.frame m.t p valid j b (Put x) (room, ok)),
          )

    -- RECEIVE
    module _ (a : ℤ) (t : TimeOut a) (x : ℕ) (l : List ℕ) (first_is : messages ≡ x ∷ l) where
      abbrev takes : EventT
      takes = call_by k 25 (pos j) a (pos 0) (pos 0)

      some : 1 ≤ (buffer j p).queue.len
      some = let z : length messages ≡ suc (length l) = ap length first_is in omega (arith, size)

      value_is_holds : first (buffer j p).queue ≡ x
      value_is_holds = queue_first (buffer j p).limit (buffer j p).queue sound.queue ∙ ap (λ (r : List ℕ). get_or r 0 0) first_is

      takes_as : (w : List ℕ) (d : Decision) → waiters (object (Sending j 0)) p ≡ w → receives (get_or w 0 0) j p ≡ d → decides m k u h 25 (pos j) a (pos 0) (pos 0) (omega arith) (omega arith) ≡ d
      unfolding call_decision services receive_buffer awaiting checked
      takes_as w d e is =
          rw (is_field, known m k u h j p.buffer_count b, eq-eqb (mode_number p.mode) 3 normal, time_out a t, lt-ltb 0 (buffer j p).queue.len some, e) is

      receive_first_holds : (id : ℕ) (rest : List ℕ) → waiters (object (Sending j 0)) p ≡ id ∷ rest
          → FirstServed m k takes (object (Sending j 0)) id rest (has m k id) × ((step m takes).answer.value ≡ x) × (held (buffer j (own (step m takes).state k)).queue ≡ l ++ (carried (process id p) ∷ []))
      unfolding received stray_field services
      receive_first_holds id rest e =
          let o = object (Sending j 0) in
          let c = LetIn id (carried (process id p)) in
          let r = moving c in
          let y = served (process id p) in
          let q = stored id y r in
          let in_List = first_created o (λ z. omega arith) p valid.lists id rest e in
          let is : applied (Moved j c) p ≡ q = ap (λ (z : Process). stored id (served z) r) (Mo.moving_process m.table.frame m.t p valid j b c id) in
          let queue : waiters o r ≡ id ∷ rest = Mo.moving_queue m.table.frame m.t p valid j b c o (λ z. omega arith) ∙ e in
          let small = carried_sound _ (process id p) (valid.each_process id in_List) in
          let g = gives m k u h 25 (pos j) a (pos 0) (pos 0) (omega arith) (omega arith) refl (Changed (Moved j c) Nothing (first (buffer j p).queue)) (takes_as (id ∷ rest) _ e (rw (ne_eqb id 0 (λ z. omega (arith, in_List.0))))) in
          let g = rw is at g in (
            first_served_by m k u h o (λ z. omega arith) r (Mo.moving_listed m.table.frame m.t p valid j b c) (Mo.moving_process m.table.frame m.t p valid j b c) served ended_is id rest queue (first (buffer j p).queue) takes g,
            g.value_is ∙ value_is_holds,
            rw (own_after m k u h q g) (Mo.moving_stored m.table.frame m.t p valid j b c id y (some, small) ∙ ap (λ (s : List ℕ). drop 1 s ++ (carried (process id p) ∷ [])) first_is),
          )

      receive_none_holds : waiters (object (Sending j 0)) p ≡ [] → NoneServed m k takes (object (Sending j 0)) × ((step m takes).answer.value ≡ x) × (held (buffer j (own (step m takes).state k)).queue ≡ l)
      unfolding received stray_field services
      receive_none_holds e =
          let o = object (Sending j 0) in
          let q = moving Taken in
          let g = gives m k u h 25 (pos j) a (pos 0) (pos 0) (omega arith) (omega arith) refl (Changed (Moved j Taken) Nothing (first (buffer j p).queue)) (takes_as [] _ e refl) in (
            none_served m k u h o (first (buffer j p).queue) takes q g (Mo.moving_queue m.table.frame m.t p valid j b Taken o (λ z. omega arith) ∙ e) (Mo.moving_processes m.table.frame m.t p valid j b Taken),
            g.value_is ∙ value_is_holds,
            rw (own_after m k u h q g) (Mo.moving_held m.table.frame m.t p valid j b Taken some ∙ ap (drop 1) first_is),
          )

  -- ---------------------------------------------------------------- blackboards
  module _ (j : ℕ) (b : Between 1 p.blackboard_count j) where
    low : j ≤ blackboard_limit
    low = omega (arith, b.1, valid.objects.blackboards.numbered.few)

    the_field : field (pos j) ≡ Number j
    the_field = field_number j (omega (arith, low))

    -- the blackboard stored
    abbrev board : Option ℕ → BlackboardT
    board x = record { name = (blackboard j p).name; message = x }

    stored_is : (s : BlackboardT) → stored_blackboard j s p ≡ with_blackboards (set p.blackboards (j - 1) s) (max p.blackboard_count j) p
    stored_is s = blackboard_in j s p (within_in blackboard_limit j b.0 low)

    stored_has : (s : BlackboardT) → blackboard j (stored_blackboard j s p) ≡ s
    stored_has s = rw (stored_is s) (named_same blackboard_limit no_blackboard j s p.blackboards b.0 low (omega (arith, low, valid.objects.blackboards.numbered.size)))

    show_all : (x : ℕ) → x ≤ duration_limit → let e = call_by k 27 (pos j) (pos x) (pos 0) (pos 0) in
        AllServed m k e (object (Blackboard j)) (λ _. x) × (blackboard j (own (step m e).state k) ≡ board (Some x))
    unfolding call_decision services stray_field show checked
    show_all x ok =
        let o = object (Blackboard j) in
        let e = call_by k 27 (pos j) (pos x) (pos 0) (pos 0) in
        let s = board (Some x) in
        let r = stored_blackboard j s p in
        let q = changed_all (handed x) (waiters o r) r in
        let g = gives m k u h 27 (pos j) (pos x) (pos 0) (pos 0) (omega arith) (omega arith) refl (Changed (StoredBlackboard j s) (Handed o x) 0) (rw (the_field, field_number x (omega arith), known m k u h j p.blackboard_count b, a_message x ok)) in (
          all_served_by m k u h o (λ z. omega arith) r (rw (stored_is s) valid.lists) (blackboard_queue p valid.lists o (λ z. omega arith) j s) (λ y. rw (stored_is s)) (rw (stored_is s)) (handed x) (ends_handed x) e g,
          rw (own_after m k u h q g) (ap (λ (z : Partition). blackboard j z) (changed_rest (handed x) (waiters o r) r) ∙ stored_has s),
        )

-- Law. A waiter joins its object's queue last, ended waits leave it and the others keep their order, the first is served first, and nobody waits for
-- what is there.
pub queues : Queues
queues = record {
  events = queue_after;
  changes = λ m h i l. changes_queue (part m i) ((valid_sound m (reached_valid m h) i l).each_partition i l).lists;
  none = none_waits;
  ends = channel_ends;
  channels = channel_calls;
  calls = λ m k h j. let u = calling_sound m k h in record {
    signal_first = λ id rest b below. signal_first_holds m k u h j b below id rest;
    signal_none = signal_none_holds m k u h j;
    set_event = set_event_holds m k u h j;
  };
  messages = λ m k h j. let u = calling_sound m k h in record {
    send_first = λ x id rest a normal b e ok t. send_first_holds m k u h j normal b x a ok t id rest e;
    send_none = λ x a normal b e room ok t. send_none_holds m k u h j normal b x a ok t e room;
    receive_first = λ x l id rest a normal b is e t. receive_first_holds m k u h j normal b a t x l is id rest e;
    receive_none = λ x l a normal b is e t. receive_none_holds m k u h j normal b a t x l is e;
    show = λ x b ok. show_all m k u h j b x ok;
  };
}
