-- What SEND and RECEIVE on a queuing channel do, said about step. Assumes nothing.
use Rattle.machine.specs.Mode.{mode_number}
use Prim.Native.Nat.{ℕ, suc, ◌+◌, ◌-◌, ◌≤◌, ◌<◌}
use mathlib.Core.Path.{◌≡◌, refl, ap, sym, ◌∙◌}
use mathlib.Core.Bool.{true, false}
use mathlib.Core.List.{List, [], ◌∷◌, ◌++◌}
use native.Mathlib.Omega.{arith}
use lib.ListN.{length, get_or, drop}
use lib.Seq.{get_or-set_same, get_or-set_other}
use lib.Dec.{eqb, ltb}
use lib.IntN.{ℤ, pos}
use borrow.Author.Tests.{eq-eqb, ne_eqb, lt-ltb, ltb-true, ltb-false, le-leb}
use Rattle.machine.specs.declared.Partition.{Partition}
use Rattle.machine.specs.declared.Channel.{Channel}
use Rattle.machine.specs.declared.Table.{Table}
use Rattle.machine.specs.declared.Queue.{Queue}
use Rattle.machine.specs.declared.Transfer.{Transfer}
use Rattle.machine.specs.declared.Transfer.TheVariants.{HandedTo, LetIn}
use Rattle.machine.specs.declared.Decision.TheVariants.{Passed}
use Rattle.machine.specs.declared.Wait.TheVariants.{Source, Destination}
use Rattle.std.specs.Prelude.{Some}
use Rattle.machine.specs.declared.Field.TheVariants.{Number}
use Rattle.machine.specs.declared.Event.{Event as EventT}
use Rattle.machine.specs.declared.Module.{Module}
use Rattle.machine.specs.Limits.{channel_limit, message_limit, duration_limit}
use Rattle.machine.specs.Fields.{field, between}
use Rattle.machine.specs.Messages.{no_queue, held, first, sent, received, moved}
use Rattle.machine.specs.Process.{object, carried, served, handed}
use Rattle.machine.specs.Partition.{process, stored, waiters}
use Rattle.machine.specs.Decisions.{checked, awaiting}
use Rattle.machine.specs.Channels.{queuing, channel_checks, send, receive, passed}
use Rattle.machine.specs.Services.{services, call_decision}
use Rattle.machine.specs.Places.{stray_field}
use Rattle.machine.specs.Module.{no_partition, channel, queue, with_part, with_queue}
use Rattle.machine.specs.Step.{step}
use Rattle.machine.specs.Theorems.Valid.{Between, SoundModule, SoundMove}
use Rattle.machine.specs.Theorems.Events.{own, call_by, TimeOut, Calling, Gives}
use Rattle.machine.specs.Theorems.Queues.{FirstServed, has, EndOf, ChannelCalls}
use Rattle.machine.specs.Theorems.Plain.{plain_moved}
use Rattle.machine.proofs.Either.{either}
use Rattle.machine.proofs.Lists.{cons_not}
use Rattle.machine.proofs.Messages.{queue_first, queue_length, moved_held}
use Rattle.machine.proofs.Sound.{carried_sound}
use Rattle.machine.proofs.Calling.{field_number, calling_sound, gives}
use Rattle.machine.proofs.Reached.{queuing_plain}
use Rattle.machine.proofs.Queues.{first_created, ended_is, time_out, a_message, ends_handed, served_in}
use Rattle.machine.proofs.Ends.{channel_ends}

place : (i : ℕ) → i + 1 - 1 ≡ i
place i = omega arith

module _ (m : Module) (k : ℕ) (u : SoundModule m) (h : Calling m k) (normal : mode_number (own m k).mode ≡ 3) (i : ℕ) (there : i < m.table.channel_count) (some : (channel m.table i).size ≡ 0 → ⊥) where
  abbrev p : Partition
  p = own m k

  abbrev T : Table
  T = m.table

  abbrev c : Channel
  c = channel T i

  few : c.size ≤ message_limit
  few = let g = (u.table.each_channel i there).room in omega arith

  low : i < channel_limit
  low = omega (arith, there, u.table.channel_count)

  number : field (pos (i + 1)) ≡ Number (i + 1)
  number = field_number (i + 1) (omega (arith, low))

  exists : between 1 T.channel_count (Number (i + 1)) ≡ true
  exists = rw (le-leb 1 (i + 1) (omega arith), le-leb (i + 1) T.channel_count (omega (arith, there)))

  kind : queuing c ≡ true
  kind = queuing_plain T u.table i there ∙ either (ltb 0 c.size) (λ e. e) (λ e. absurd (some (omega (arith, ltb-false 0 c.size e))))

  abbrev messages : List ℕ
  messages = held (queue m i)

  size : length messages ≡ (queue m i).len
  size = queue_length c.size (queue m i) (u.each_queue i)

  abbrev moving : Transfer → Module
  moving a = with_queue i (moved a (queue m i)) m

  moving_held : (a : Transfer) → SoundMove c.size (queue m i) a → held (queue (moving a) i) ≡ plain_moved a messages
  moving_held a g =
      ap held (get_or-set_same m.queues i (moved a (queue m i)) no_queue (omega (arith, low, u.queues_size)))
      ∙ moved_held c.size (queue m i) (u.each_queue i) few a g

  -- the partition at the other end stored beside a queue, and the caller's
  module _ (j : ℕ) (inside : Between 1 T.size j) (apart : k ≡ j → ⊥) (y : Partition) (z : Queue) where
    abbrev both : Module
    both = with_part (j - 1) y (with_queue i z m)

    ended : own both j ≡ y
    ended = get_or-set_same m.partitions (j - 1) y no_partition (omega (arith, inside.0, inside.1, u.partitions_size, u.table.size.1))

    mine : own both k ≡ own m k
    mine = get_or-set_other m.partitions (j - 1) (k - 1) y no_partition (λ e. apart (omega (arith, e, inside.0, h.some)))

  -- ---------------------------------------------------------------- SEND
  module _ (from : c.source ≡ k) where
    abbrev to : ℕ
    to = c.destination

    abbrev receivers : ℕ
    receivers = object (Destination (i + 1))

    inside : Between 1 T.size to
    inside = (u.table.each_channel i there).destination

    apart : k ≡ to → ⊥
    apart e = (u.table.each_channel i there).apart (from ∙ e)

    module _ (x : ℕ) (a : ℤ) (ok : x ≤ duration_limit) (t : TimeOut a) where
      abbrev sends : EventT
      sends = call_by k 30 (pos (i + 1)) (pos x) a (pos 0)

      send_gives : (l : List ℕ) → waiters receivers (own m to) ≡ l → (queue m i).len < c.size → Gives m sends 0 0 (Some 0) (passed k i (sent (get_or l 0 0) x) m)
      unfolding call_decision services stray_field send awaiting checked channel_checks
      send_gives l e room =
          gives m k u h 30 (pos (i + 1)) (pos x) a (pos 0) (omega arith) (omega arith) refl (Passed i (sent (get_or l 0 0) x) 0)
          (rw (number, field_number x (omega arith), place i, exists, lt-ltb i T.channel_count there, kind, lt-ltb i channel_limit low, eq-eqb c.source k from, eq-eqb (mode_number p.mode) 3 normal, a_message x ok, time_out a t, lt-ltb (queue m i).len c.size room, e))

      send_first_holds : (id : ℕ) (rest : List ℕ) → waiters receivers (own m to) ≡ id ∷ rest
          → FirstServed m to sends receivers id rest x × (held (queue (step m sends).state i) ≡ messages) × (own (step m sends).state k ≡ own m k)
      unfolding sent
      send_first_holds id rest e =
          let none : (queue m i).len ≡ 0 = either (ltb 0 (queue m i).len) (λ s. absurd (cons_not id rest (sym e ∙ (channel_ends m h.reached).message i there (ltb-true 0 _ s)))) (λ s. omega (arith, ltb-false 0 (queue m i).len s)) in
          let v = u.each_partition (to - 1) (omega (arith, inside.0, inside.1)) in
          let b = first_created receivers (λ z. omega arith) (own m to) v.lists id rest e in
          let g = send_gives (id ∷ rest) e (either (ltb (queue m i).len c.size) (λ s. ltb-true _ _ s) (λ s. absurd (some (omega (arith, none, ltb-false (queue m i).len c.size s))))) in
          let y = stored id (handed x (process id (own m to))) (own m to) in
          let z = moved (HandedTo id x) (queue m i) in
          let is : (step m sends).state ≡ both to inside apart y z = g.state ∙ rw (ne_eqb id 0 (λ w. omega (arith, b.0)), eq-eqb c.source k from) in (
            served_in m to receivers (λ w. omega arith) (own m to) v.lists (λ _. refl) (handed x) (ends_handed x) id rest e sends g.code_is (ap (λ (n : Module). own n to) is ∙ ended to inside apart y z),
            ap (λ (n : Module). held (queue n i)) is ∙ moving_held (HandedTo id x) ok,
            ap (λ (n : Module). own n k) is ∙ mine to inside apart y z,
          )

  -- ---------------------------------------------------------------- RECEIVE
  module _ (to : c.destination ≡ k) where
    abbrev from : ℕ
    from = c.source

    abbrev senders : ℕ
    senders = object (Source (i + 1) 0)

    source_inside : Between 1 T.size from
    source_inside = (u.table.each_channel i there).source

    source_apart : k ≡ from → ⊥
    source_apart e = (u.table.each_channel i there).apart (sym e ∙ sym to)

    other : eqb from k ≡ false
    other = ne_eqb from k (λ e. source_apart (sym e))

    module _ (a : ℤ) (t : TimeOut a) (x : ℕ) (l : List ℕ) (first_is : messages ≡ x ∷ l) where
      abbrev takes : EventT
      takes = call_by k 31 (pos (i + 1)) a (pos 0) (pos 0)

      held_some : 0 < (queue m i).len
      held_some = let z : length messages ≡ suc (length l) = ap length first_is in omega (arith, size)

      value_is_holds : first (queue m i) ≡ x
      value_is_holds = queue_first c.size (queue m i) (u.each_queue i) ∙ ap (λ (r : List ℕ). get_or r 0 0) first_is

      receive_gives : (w : List ℕ) → waiters senders (own m from) ≡ w → Gives m takes 0 x (Some 0) (passed k i (received (get_or w 0 0) (carried (process (get_or w 0 0) (own m from)))) m)
      unfolding call_decision services stray_field receive awaiting checked channel_checks
      receive_gives w e =
          gives m k u h 31 (pos (i + 1)) a (pos 0) (pos 0) (omega arith) (omega arith) refl (Passed i (received (get_or w 0 0) (carried (process (get_or w 0 0) (own m from)))) x)
          (rw (number, place i, exists, lt-ltb i T.channel_count there, kind, lt-ltb i channel_limit low, other, eq-eqb c.destination k to, eq-eqb (mode_number p.mode) 3 normal, time_out a t, lt-ltb 0 (queue m i).len held_some, e, value_is_holds))

      receive_first_holds : (id : ℕ) (rest : List ℕ) → waiters senders (own m from) ≡ id ∷ rest
          → FirstServed m from takes senders id rest (has m from id) × ((step m takes).answer.value ≡ x) × (held (queue (step m takes).state i) ≡ l ++ (carried (process id (own m from)) ∷ [])) × (own (step m takes).state k ≡ own m k)
      unfolding received
      receive_first_holds id rest e =
          let v = u.each_partition (from - 1) (omega (arith, source_inside.0, source_inside.1)) in
          let b = first_created senders (λ z. omega arith) (own m from) v.lists id rest e in
          let g = receive_gives (id ∷ rest) e in
          let y = stored id (served (process id (own m from))) (own m from) in
          let o = LetIn id (carried (process id (own m from))) in
          let small = carried_sound _ (process id (own m from)) (v.each_process id b) in
          let is : (step m takes).state ≡ both from source_inside source_apart y (moved o (queue m i)) = g.state ∙ rw (ne_eqb id 0 (λ w. omega (arith, b.0)), other) in (
            served_in m from senders (λ w. omega arith) (own m from) v.lists (λ _. refl) served ended_is id rest e takes g.code_is (ap (λ (n : Module). own n from) is ∙ ended from source_inside source_apart y (moved o (queue m i))),
            g.value_is,
            ap (λ (n : Module). held (queue n i)) is ∙ moving_held o (held_some, small) ∙ ap (λ (s : List ℕ). drop 1 s ++ (carried (process id (own m from)) ∷ [])) first_is,
            ap (λ (n : Module). own n k) is ∙ mine from source_inside source_apart y (moved o (queue m i)),
          )

-- a channel by its place, and its end
module _ (m : Module) (k : ℕ) (h : Calling m k) (i : ℕ) (end : Channel → ℕ) (q : EndOf m.table end (i + 1) (k - 1)) where
  is_there : i < m.table.channel_count
  is_there = omega (arith, q.there.1)

  is_queuing : (channel m.table i).size ≡ 0 → ⊥
  is_queuing z = q.queuing (rw (place i) z)

  is_here : end (channel m.table i) ≡ k
  is_here = ap (λ j. end (channel m.table j)) (sym (place i)) ∙ q.here ∙ omega (arith, h.some)

pub channel_calls : (m : Module) (k : ℕ) → Calling m k → (i : ℕ) → ChannelCalls m k i
channel_calls m k h i = let u = calling_sound m k h in record {
  send_first = λ x id rest a normal q e ok t. send_first_holds m k u h normal i (is_there m k h i _ q) (is_queuing m k h i _ q) (is_here m k h i _ q) x a ok t id rest e;
  receive_first = λ x l id rest a normal q is e t. receive_first_holds m k u h normal i (is_there m k h i _ q) (is_queuing m k h i _ q) (is_here m k h i _ q) a t x l is id rest e;
}
