-- How often others of its queue are served before a process that waits, proved. Assumes nothing.
use Prim.Native.Nat.{ℕ, zero, suc, ◌+◌, ◌-◌, ◌≤◌, ◌<◌}
use mathlib.Core.Path.{◌≡◌, refl, ap, sym, subst, ◌∙◌}
use mathlib.Core.Bool.{Bool, true, false}
use mathlib.Core.List.{List, ◌∷◌}
use native.Mathlib.Omega.{arith}
use lib.ListN.{get_or, take, drop}
use lib.Dec.{leb, ltb}
use lib.IntN.{ℤ, pos}
use borrow.Author.Tests.{eq-eqb, ne_eqb, eqb-true, eqb-false, ltb-true, not-false}
use Rattle.machine.specs.declared.Event.{Event as EventT}
use Rattle.machine.specs.declared.Module.{Module}
use Rattle.machine.specs.declared.Table.{Table}
use Rattle.machine.specs.declared.Process.{Process}
use Rattle.machine.specs.declared.Channel.{Channel}
use Rattle.machine.specs.declared.Partition.{Partition}
use Rattle.machine.specs.Partition.{process, buffer, waits_on}
use Rattle.machine.specs.Messages.{held}
use Rattle.machine.specs.Module.{channel, queue}
use Rattle.machine.specs.Theorems.Plain.{wait_over}
use Rattle.machine.specs.Limits.{duration_limit}
use Rattle.machine.specs.Theorems.EachCall.{id_of, in_d, Checks}
use Rattle.machine.specs.Theorems.Latest.{done}
use Rattle.machine.specs.Step.{step}
use Rattle.machine.specs.Runs.{next, answered_event}
use Rattle.machine.specs.Theorems.Valid.{Between, SoundChannel, SoundModule, Reached, contains}
use Rattle.machine.specs.Theorems.Events.{own, call_by, Puts}
use Rattle.machine.specs.Theorems.Account.{code_at, restarts_by}
use Rattle.machine.specs.Theorems.Queues.{EndOf}
use Rattle.machine.specs.Theorems.ServedBefore.{of_semaphore, of_event, of_board, of_receivers, of_senders, at_destination, at_source, ServedBefore}
use Rattle.machine.proofs.Either.{either}
use Rattle.machine.proofs.Bounds.{so}
use Rattle.machine.proofs.Tests.{Passed, codes_in, and_left, and_right}
use Rattle.machine.proofs.Account.{first_rest}
use Rattle.machine.proofs.Families.{queues}
use Rattle.machine.proofs.EachCall.{each_call}
use Rattle.machine.proofs.Reached.{reached_valid}
use Rattle.machine.proofs.Messages.{queue_length}
use Rattle.machine.proofs.Calling.{calling_sound, calling_valid}
use Rattle.machine.proofs.Accepted.{plain_in, checks_passed, accepted, restarting}
use Rattle.machine.proofs.Starred.{mistakes}
use Rattle.machine.proofs.Sampling.{done_by, done_at, done_zero, channel_sound}
use Rattle.machine.proofs.QueuePlaces.{FirstGone, order_list, counts_list}

-- ---------------------------------------------------------------- services
-- a process whose wait is over waits on no object
over_gone : (o : ℕ) → (o ≡ 0 → ⊥) → (p : Partition) (x code message : ℕ) (y : Process) → process x p ≡ wait_over code message y → waits_on o p x ≡ false
over_gone o some p x code message y is = rw is (ne_eqb 0 o (λ z. some (sym z)))

-- a call that waits and is answered 0 need not wait
at_once : (m : Module) (e : EventT) (k : ℕ) (l : List (Bool × ℕ)) (p : Partition) (available : Bool) {S : Type 0} → codes_in (leb 1) l ≡ true
    → (available ≡ true → S) × (available ≡ false → Checks m e l (Puts m e 7 0 k p)) → code_at m e ≡ 0 → available ≡ true
at_once m e k l p available codes r z = so available (λ none. let seven = (checks_passed m e l codes (r.1 none) z).1.code_is in omega arith)

module _ (m : Module) (h : Reached m) (e : EventT) (k j : ℕ) (b : Between 1 m.table.size k) where
  signals : done k 16 j (answered_event m e) ≡ true → FirstGone (of_semaphore k j) m e
  unfolding Passed
  signals t x rest first =
      let z = done_zero m e k 16 j t in
      let u = accepted m h e k 16 b.0 (done_by m e k 16 j t) z in
      let is : e ≡ call_by k 16 (pos j) (pos 0) (pos 0) (pos 0) = u.is ∙ ap (λ (a : ℤ). call_by k 16 a (pos 0) (pos 0) (pos 0)) (done_at m e k 16 j t) in
      let f = (checks_passed m (call_by k 16 (pos j) (pos 0) (pos 0) (pos 0)) _ refl ((each_call m k u.calling).signal (pos j)) (rw (← is) z)).0 in
      let g = rw (← is) at ((queues.calls m k u.calling j).signal_first x rest (plain_in 1 _ (pos j) (not-false _ f.0)).1 (eqb-false _ _ f.1.0) first).0 in
      over_gone _ (λ y. omega arith) (own (next m e) k) x 0 _ (process x (own m k)) g.ended

  sets : done k 18 j (answered_event m e) ≡ true → FirstGone (of_event k j) m e
  unfolding Passed contains
  sets t x rest first =
      let z = done_zero m e k 18 j t in
      let u = accepted m h e k 18 b.0 (done_by m e k 18 j t) z in
      let is : e ≡ call_by k 18 (pos j) (pos 0) (pos 0) (pos 0) = u.is ∙ ap (λ (a : ℤ). call_by k 18 a (pos 0) (pos 0) (pos 0)) (done_at m e k 18 j t) in
      let f = (checks_passed m (call_by k 18 (pos j) (pos 0) (pos 0) (pos 0)) _ refl ((each_call m k u.calling).set_event (pos j)) (rw (← is) z)).0 in
      let g = rw (← is) at ((queues.calls m k u.calling j).set_event (plain_in 1 _ (pos j) (not-false _ f.0)).1).0 in
      over_gone _ (λ y. omega arith) (own (next m e) k) x 0 _ (process x (own m k)) (g.ended x (rw (first, eq-eqb x x refl)))

  shows : done k 27 j (answered_event m e) ≡ true → FirstGone (of_board k j) m e
  unfolding Passed contains
  shows t x rest first =
      let z = done_zero m e k 27 j t in
      let u = accepted m h e k 27 b.0 (done_by m e k 27 j t) z in
      let at : e ≡ call_by k 27 (pos j) e.b (pos 0) (pos 0) = u.is ∙ ap (λ (a : ℤ). call_by k 27 a e.b (pos 0) (pos 0)) (done_at m e k 27 j t) in
      let f = (checks_passed m (call_by k 27 (pos j) e.b (pos 0) (pos 0)) _ refl ((each_call m k u.calling).show (pos j) e.b) (ap (λ (x : EventT). (step m x).answer.code) (sym at) ∙ z)).0 in
      let d = plain_in 0 duration_limit e.b (not-false _ f.1.0) in
      let is = at ∙ ap (λ (a : ℤ). call_by k 27 (pos j) a (pos 0) (pos 0)) d.0 in
      let g = rw (← is) at ((queues.messages m k u.calling j).show (id_of e.b) (plain_in 1 _ (pos j) (not-false _ f.0)).1 d.1.1).0 in
      over_gone _ (λ y. omega arith) (own (next m e) k) x 0 _ (process x (own m k)) (g.ended x (rw (first, eq-eqb x x refl)))

  sends : done k 24 j (answered_event m e) ≡ true → FirstGone (of_receivers k j) m e
  unfolding Passed
  sends t x rest first =
      let z = done_zero m e k 24 j t in
      let u = accepted m h e k 24 b.0 (done_by m e k 24 j t) z in
      let at : e ≡ call_by k 24 (pos j) e.b e.c (pos 0) = u.is ∙ ap (λ (a : ℤ). call_by k 24 a e.b e.c (pos 0)) (done_at m e k 24 j t) in
      let f = (checks_passed m (call_by k 24 (pos j) e.b e.c (pos 0)) _ refl ((each_call m k u.calling).send_buffer (pos j) e.b e.c) (ap (λ (x : EventT). (step m x).answer.code) (sym at) ∙ z)).0 in
      let ok = not-false _ f.1.1.0 in
      let d = plain_in 0 duration_limit e.b (and_left (in_d e.b) _ ok) in
      let is = at ∙ ap (λ (a : ℤ). call_by k 24 (pos j) a e.c (pos 0)) d.0 in
      let g = rw (← is) at ((queues.messages m k u.calling j).send_first (id_of e.b) x rest e.c (eqb-true _ 3 (not-false _ f.1.0)) (plain_in 1 _ (pos j) (not-false _ f.0)).1 first d.1.1 (and_right (in_d e.b) _ ok)).0 in
      over_gone _ (λ y. omega arith) (own (next m e) k) x 0 _ (process x (own m k)) g.ended

  receives : done k 25 j (answered_event m e) ≡ true → FirstGone (of_senders k j) m e
  unfolding Passed
  receives t x rest first =
      let z = done_zero m e k 25 j t in
      let u = accepted m h e k 25 b.0 (done_by m e k 25 j t) z in
      let p = own m k in
      let is : e ≡ call_by k 25 (pos j) e.b (pos 0) (pos 0) = u.is ∙ ap (λ (a : ℤ). call_by k 25 a e.b (pos 0) (pos 0)) (done_at m e k 25 j t) in
      let zero = ap (λ (x : EventT). (step m x).answer.code) (sym is) ∙ z in
      let f = checks_passed m (call_by k 25 (pos j) e.b (pos 0) (pos 0)) _ refl ((each_call m k u.calling).receive_buffer (pos j) e.b) zero in
      let known = (plain_in 1 _ (pos j) (not-false _ f.0.0)).1 in
      let some = ltb-true 0 (buffer j p).queue.len (at_once m (call_by k 25 (pos j) e.b (pos 0) (pos 0)) k _ _ (ltb 0 (buffer j p).queue.len) refl f.1 zero) in
      let q = ((calling_valid m k (calling_sound m k u.calling) u.calling).objects.buffers.each j known).queue in
      let l = held (buffer j p).queue in
      let more = first_rest l (omega (arith, some, queue_length (buffer j p).limit (buffer j p).queue q)) in
      let g = rw (← is) at ((queues.messages m k u.calling j).receive_first (get_or l 0 0) (drop 1 l) x rest e.b (eqb-true _ 3 (not-false _ f.0.1.0)) known more first (not-false _ f.0.1.1.0)).0 in
      over_gone _ (λ y. omega arith) (own (next m e) k) x 0 _ (process x p) g.ended

-- ---------------------------------------------------------------- services of channels
module _ (m : Module) (h : Reached m) (i : ℕ) (inside : i < m.table.channel_count) where
  abbrev c : Channel
  c = channel m.table i

  sound : SoundModule m
  sound = channel_sound m (reached_valid m h) i inside

  ends : SoundChannel m.table.size c
  ends = sound.table.each_channel i inside

  -- the end at which the call is
  end_of : (end : Channel → ℕ) → 1 ≤ end c → ltb 0 c.size ≡ true → EndOf m.table end (i + 1) (end c - 1)
  end_of end some full =
      let place : i + 1 - 1 ≡ i = omega arith in
      record {
        there = (omega arith, omega arith);
        queuing = rw place (λ z. let l = ltb-true 0 c.size full in omega arith);
        here = rw place (omega arith);
      }

  module _ (e : EventT) where
    passes : done c.source 30 (i + 1) (answered_event m e) ≡ true → FirstGone (at_destination m.table i) m e
    unfolding Passed
    passes t x rest first =
        let k = c.source in
        let z = done_zero m e k 30 (i + 1) t in
        let u = accepted m h e k 30 ends.source.0 (done_by m e k 30 (i + 1) t) z in
        let at : e ≡ call_by k 30 (pos (i + 1)) e.b e.c (pos 0) = u.is ∙ ap (λ (a : ℤ). call_by k 30 a e.b e.c (pos 0)) (done_at m e k 30 (i + 1) t) in
        let f = (checks_passed m (call_by k 30 (pos (i + 1)) e.b e.c (pos 0)) _ refl ((each_call m k u.calling).send (pos (i + 1)) e.b e.c) (ap (λ (x : EventT). (step m x).answer.code) (sym at) ∙ z)).0 in
        let place : i + 1 - 1 ≡ i = omega arith in
        let ok = not-false _ f.1.1.1.1.1.0 in
        let d = plain_in 0 duration_limit e.b (and_left (in_d e.b) _ ok) in
        let is = at ∙ ap (λ (a : ℤ). call_by k 30 (pos (i + 1)) a e.c (pos 0)) d.0 in
        let g = rw (← is) at ((queues.channels m k u.calling i).send_first (id_of e.b) x rest e.c (eqb-true _ 3 (not-false _ f.1.1.1.1.0)) (end_of (λ y. y.source) ends.source.0 (rw place at (not-false (ltb 0 (channel m.table (i + 1 - 1)).size) f.1.0))) first d.1.1 (and_right (in_d e.b) _ ok)).0 in
        over_gone _ (λ y. omega arith) (own (next m e) c.destination) x 0 _ (process x (own m c.destination)) g.ended

    -- RECEIVE
    takes : done c.destination 31 (i + 1) (answered_event m e) ≡ true → FirstGone (at_source m.table i) m e
    unfolding Passed
    takes t x rest first =
        let k = c.destination in
        let z = done_zero m e k 31 (i + 1) t in
        let u = accepted m h e k 31 ends.destination.0 (done_by m e k 31 (i + 1) t) z in
        let is : e ≡ call_by k 31 (pos (i + 1)) e.b (pos 0) (pos 0) = u.is ∙ ap (λ (a : ℤ). call_by k 31 a e.b (pos 0) (pos 0)) (done_at m e k 31 (i + 1) t) in
        let zero = ap (λ (x : EventT). (step m x).answer.code) (sym is) ∙ z in
        let f = checks_passed m (call_by k 31 (pos (i + 1)) e.b (pos 0) (pos 0)) _ refl ((each_call m k u.calling).receive (pos (i + 1)) e.b) zero in
        let place : i + 1 - 1 ≡ i = omega arith in
        let some = ltb-true 0 (queue m i).len (rw place at (at_once m (call_by k 31 (pos (i + 1)) e.b (pos 0) (pos 0)) k _ _ (ltb 0 (queue m (i + 1 - 1)).len) refl f.1 zero)) in
        let l = held (queue m i) in
        let more = first_rest l (omega (arith, some, queue_length c.size (queue m i) (sound.each_queue i))) in
        let g = rw (← is) at ((queues.channels m k u.calling i).receive_first (get_or l 0 0) (drop 1 l) x rest e.b (eqb-true _ 3 (not-false _ f.0.1.1.1.1.0)) (end_of (λ y. y.destination) ends.destination.0 (rw place at (not-false (ltb 0 (channel m.table (i + 1 - 1)).size) f.0.1.0))) more first (not-false _ f.0.1.1.1.1.1.0)).0 in
        over_gone _ (λ y. omega arith) (own (next m e) c.source) x 0 _ (process x (own m c.source)) g.ended

    -- a restart of the destination lets the first in
    restarts : (c.size ≡ 0 → ⊥) → restarts_by c.destination e (code_at m e) ≡ true → FirstGone (at_source m.table i) m e
    unfolding contains
    restarts full t x rest first =
        let u = restarting m h e c.destination ends.destination.0 t in
        let g = rw (← u.is) at ((mistakes.restarted m c.destination u.calling (id_of e.a) u.few u.warm).6 i x inside full refl) in
        over_gone _ (λ y. omega arith) (own (next m e) c.source) x 0 _ (process x (own m c.source)) (g (rw first (first_in x rest c.size full)))
      where
        first_in : (x : ℕ) (l : List ℕ) (n : ℕ) → (n ≡ 0 → ⊥) → contains x (take n (x ∷ l)) ≡ true
        first_in x l zero some = absurd (some refl)
        first_in x l (suc n) some = rw (eq-eqb x x refl)

    lets_in : (c.size ≡ 0 → ⊥) → (at_source m.table i).serves (answered_event m e) ≡ true → FirstGone (at_source m.table i) m e
    lets_in full t = either (done c.destination 31 (i + 1) (answered_event m e)) takes (λ no. restarts full (rw no at t))

-- Law. How often others are served before a process that waits.
pub served_before : ServedBefore
served_before = record {
  order = λ m h k b o id some es w. order_list k o id some es m h b w;
  semaphore = λ m h k b j id es w. counts_list (of_semaphore k j) m.table (λ z. omega arith) b (λ q g is e t. signals q g e k j (rw is b) t) es m h refl id w;
  event = λ m h k b j id es w. counts_list (of_event k j) m.table (λ z. omega arith) b (λ q g is e t. sets q g e k j (rw is b) t) es m h refl id w;
  board = λ m h k b j id es w. counts_list (of_board k j) m.table (λ z. omega arith) b (λ q g is e t. shows q g e k j (rw is b) t) es m h refl id w;
  receivers = λ m h k b j id es w. counts_list (of_receivers k j) m.table (λ z. omega arith) b (λ q g is e t. sends q g e k j (rw is b) t) es m h refl id w;
  senders = λ m h k b j id es w. counts_list (of_senders k j) m.table (λ z. omega arith) b (λ q g is e t. receives q g e k j (rw is b) t) es m h refl id w;
  destination = λ m h i l id es w. counts_list (at_destination m.table i) m.table (λ z. omega arith) (ends m h i l).destination (λ q g is e t. subst (λ (U : Table). (at_destination U i).serves (answered_event q e) ≡ true → FirstGone (at_destination U i) q e) is (passes q g i (rw is l) e) t) es m h refl id w;
  source = λ m h i l full id es w. counts_list (at_source m.table i) m.table (λ z. omega arith) (ends m h i l).source (λ q g is e t. subst (λ (U : Table). (at_source U i).serves (answered_event q e) ≡ true → FirstGone (at_source U i) q e) is (lets_in q g i (rw is l) e (rw is full)) t) es m h refl id w;
}
