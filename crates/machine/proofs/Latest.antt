-- What the latest accepted call left, proved. Assumes nothing.
use Rattle.std.specs.Prelude.{Option, Some, None}
use Prim.Native.Nat.{ℕ, ◌+◌, ◌-◌, ◌≤◌, ◌<◌}
use mathlib.Core.Path.{◌≡◌, refl, ap, sym, ◌∙◌}
use mathlib.Core.Bool.{true, false}
use mathlib.Core.List.{List, [], ◌∷◌}
use native.Mathlib.Omega.{arith}
use lib.ListN.{length, set}
use lib.IntN.{ℤ, pos}
use borrow.Author.Tests.{eq-eqb, leb-false, not-false}
use Rattle.machine.specs.declared.Event.{Event as EventT}
use Rattle.machine.specs.declared.EventState.{EventState}
use Rattle.machine.specs.declared.Blackboard.{Blackboard as BlackboardT}
use Rattle.machine.specs.declared.Partition.{Partition}
use Rattle.machine.specs.declared.Module.{Module}
use Rattle.machine.specs.Limits.{event_limit, blackboard_limit, duration_limit}
use Rattle.machine.specs.Partition.{by_id, no_event, no_blackboard, event, blackboard}
use Rattle.machine.specs.Table.{read_table}
use Rattle.machine.specs.Step.{step}
use Rattle.machine.specs.Runs.{next, answered_event, after, answers}
use Rattle.machine.specs.Theorems.Valid.{Between, Reached}
use Rattle.machine.specs.Theorems.Events.{own, call_by, Calling}
use Rattle.machine.specs.Theorems.Account.{is_call, erases, erased, message_in}
use Rattle.machine.specs.Theorems.EachCall.{id_of}
use Rattle.machine.specs.Theorems.Latest.{along, done, shows, sets, last_written, last_shown, last_set, Since, Latest}
use Rattle.machine.proofs.Tests.{Passed, or_left, or_right}
use Rattle.machine.proofs.Bounds.{named_same}
use Rattle.machine.proofs.Either.{either}
use Rattle.machine.proofs.Calling.{calling_sound, calling_valid, own_after}
use Rattle.machine.proofs.Reached.{valid_sound, reached_valid}
use Rattle.machine.proofs.Account.{step_size, reached_after}
use Rattle.machine.proofs.EachCall.{each_call}
use Rattle.machine.proofs.TicksLeft.{after_table}
use Rattle.machine.proofs.Families.{queues}
use Rattle.machine.proofs.Accepted.{plain_in, checks_passed, accepted, by_partition_of}
use Rattle.machine.proofs.BoardsStay.{LeftBy, event_left}
use Rattle.machine.proofs.Sampling.{along_list, done_by, done_at, done_zero, sampling, read_message}

-- ---------------------------------------------------------------- an accepted call
module _ (m : Module) (h : Reached m) (e : EventT) (k j : ℕ) (some : 1 ≤ k) where
  -- SHOW, CLEAR
  shown : Between 1 (own m k).blackboard_count j → done k 27 j (answered_event m e) ≡ true → (blackboard j (own (step m e).state k)).message ≡ Some (message_in e.b)
  unfolding Passed
  shown b t =
      let z = done_zero m e k 27 j t in
      let u = accepted m h e k 27 some (done_by m e k 27 j t) z in
      let f = (checks_passed m e _ refl (rw (← u.is) at ((each_call m k u.calling).show e.a e.b)) z).0 in
      let d = plain_in 0 duration_limit e.b (not-false _ f.1.0) in
      let is : e ≡ call_by k 27 (pos j) (pos (id_of e.b)) (pos 0) (pos 0) = u.is ∙ ap (λ (a : ℤ). call_by k 27 a e.b (pos 0) (pos 0)) (done_at m e k 27 j t) ∙ ap (λ (a : ℤ). call_by k 27 (pos j) a (pos 0) (pos 0)) d.0 in
      let g = rw (← is) at ((queues.messages m k u.calling j).show (id_of e.b) b d.1.1).1 in
      ap (λ (x : BlackboardT). x.message) g

  cleared : Between 1 (own m k).blackboard_count j → done k 29 j (answered_event m e) ≡ true → (blackboard j (own (step m e).state k)).message ≡ None
  cleared b t =
      let z = done_zero m e k 29 j t in
      let u = accepted m h e k 29 some (done_by m e k 29 j t) z in
      let s = calling_sound m k u.calling in
      let p = own m k in
      let v = (calling_valid m k s u.calling).objects.blackboards.numbered in
      let g = (checks_passed m e _ refl (rw (← u.is) at ((each_call m k u.calling).clear e.a)) z).1 in
      let at : id_of e.a ≡ j = ap id_of (done_at m e k 29 j t) in
      let is : blackboard j (own (step m e).state k) ≡ record { name = (blackboard j p).name; message = None } = ap (λ (x : Partition). blackboard j x) (own_after m k s u.calling _ g) ∙ rw at (named_same blackboard_limit no_blackboard j _ p.blackboards b.0 (omega (arith, b.1, v.few)) (omega (arith, b.1, v.few, v.size))) in
      ap (λ (x : BlackboardT). x.message) is

  -- SET_EVENT, RESET_EVENT
  up : Between 1 (own m k).event_count j → done k 18 j (answered_event m e) ≡ true → (event j (own (step m e).state k)).up ≡ true
  up b t =
      let u = accepted m h e k 18 some (done_by m e k 18 j t) (done_zero m e k 18 j t) in
      let is : e ≡ call_by k 18 (pos j) (pos 0) (pos 0) (pos 0) = u.is ∙ ap (λ (a : ℤ). call_by k 18 a (pos 0) (pos 0) (pos 0)) (done_at m e k 18 j t) in
      rw (← is) at ((queues.calls m k u.calling j).set_event b).1

  down : Between 1 (own m k).event_count j → done k 19 j (answered_event m e) ≡ true → (event j (own (step m e).state k)).up ≡ false
  down b t =
      let z = done_zero m e k 19 j t in
      let u = accepted m h e k 19 some (done_by m e k 19 j t) z in
      let s = calling_sound m k u.calling in
      let p = own m k in
      let v = (calling_valid m k s u.calling).objects.events.numbered in
      let g = (checks_passed m e _ refl (rw (← u.is) at ((each_call m k u.calling).reset_event e.a)) z).1 in
      let at : id_of e.a ≡ j = ap id_of (done_at m e k 19 j t) in
      ap (λ (x : Partition). (event j x).up) (own_after m k s u.calling _ g)
      ∙ rw at (ap (λ (x : EventState). x.up) (named_same event_limit no_event j _ p.events b.0 (omega (arith, b.1, v.few)) (omega (arith, b.1, v.few, v.size))))

-- ---------------------------------------------------------------- one event
-- what blackboard j of partition k shows
abbrev board_at : ℕ → ℕ → Module → Option ℕ
board_at k j q = (blackboard j (own q k)).message

module _ (m : Module) (h : Reached m) (e : EventT) (k j : ℕ) (b : Between 1 m.table.size k) (lasts : erases k m e ≡ false) where
  left : LeftBy m e k (own m k) (own (step m e).state k)
  left =
      let same : k - 1 + 1 ≡ k = omega (arith, b.0) in
      let s = valid_sound m (reached_valid m h) (k - 1) (omega (arith, b.0, b.1)) in
      rw same at (event_left m e s (k - 1) (omega (arith, b.0, b.1)) (rw same lasts))

  board_step : Between 1 (own m k).blackboard_count j → board_at k j (next m e) ≡ shows k j (answered_event m e) (board_at k j m)
  board_step known = either (done k 27 j (answered_event m e))
      (λ t. rw t (shown m h e k j b.0 known t))
      (λ t. either (done k 29 j (answered_event m e))
      (λ u. rw (t, u) (cleared m h e k j b.0 known u))
      (λ u. rw (t, u) (ap (λ (x : BlackboardT). x.message) (left.boards j known t u))))

  event_step : Between 1 (own m k).event_count j → (event j (own (next m e) k)).up ≡ sets k j (answered_event m e) (event j (own m k)).up
  event_step known = either (done k 18 j (answered_event m e))
      (λ t. rw t (up m h e k j b.0 known t))
      (λ t. either (done k 19 j (answered_event m e))
      (λ u. rw (t, u) (down m h e k j b.0 known u))
      (λ u. rw (t, u) (ap (λ (x : EventState). x.up) (left.events j known t u))))

-- ---------------------------------------------------------------- the creation
-- the next of a list
next_named : {A : Type 0} (limit : ℕ) (d a : A) (l : List A) (n j : ℕ) → length l ≡ limit → n < limit → n + 1 ≡ j → by_id limit d j (set l n a) ≡ a
next_named limit d a l n j size room is =
    let e : j - 1 ≡ n = omega arith in
    rw (← e) (named_same limit d j a l (omega arith) (omega arith) (omega arith))

module _ (m : Module) (h : Reached m) (k j : ℕ) (name : ℤ) where
  is_call_holds : (n : ℕ) → is_call k n (call_by k n name (pos 0) (pos 0) (pos 0)) ≡ true
  is_call_holds n = rw (eq-eqb k k refl, eq-eqb n n refl)

  module _ (n : ℕ) (some : 1 ≤ n) (code : (step m (call_by k n name (pos 0) (pos 0) (pos 0))).answer.code ≡ 0) where
    partition_in : Between 1 m.table.size k
    partition_in = by_partition_of m h (call_by k n name (pos 0) (pos 0) (pos 0)) k n some (is_call_holds n) code

    comes : Calling m k
    comes = (accepted m h (call_by k n name (pos 0) (pos 0) (pos 0)) k n partition_in.0 (is_call_holds n) code).calling

  abbrev p : Partition
  p = own m k

  board_created : let e = call_by k 26 name (pos 0) (pos 0) (pos 0) in
      (step m e).answer.code ≡ 0 → (step m e).answer.value ≡ j
      → Between 1 (own (next m e) k).blackboard_count j × ((blackboard j (own (next m e) k)).message ≡ None)
  unfolding Passed
  board_created code value =
      let e = call_by k 26 name (pos 0) (pos 0) (pos 0) in
      let c = comes 26 (omega arith) code in
      let s = calling_sound m k c in
      let f = checks_passed m e _ refl ((each_call m k c).create_blackboard name) code in
      let is : p.blackboard_count + 1 ≡ j = sym f.1.value_is ∙ value in
      let q = own_after m k s c _ f.1 in
      let room = leb-false 8 p.blackboard_count f.0.0 in
      let at = next_named blackboard_limit no_blackboard (record { name = id_of name; message = None }) p.blackboards p.blackboard_count j (calling_valid m k s c).objects.blackboards.numbered.size room is in
      (rw q (omega arith, omega arith), ap (λ (x : Partition). (blackboard j x).message) q ∙ ap (λ (x : BlackboardT). x.message) at)

  event_created : let e = call_by k 17 name (pos 0) (pos 0) (pos 0) in
      (step m e).answer.code ≡ 0 → (step m e).answer.value ≡ j → Between 1 (own (next m e) k).event_count j × ((event j (own (next m e) k)).up ≡ false)
  unfolding Passed
  event_created code value =
      let e = call_by k 17 name (pos 0) (pos 0) (pos 0) in
      let c = comes 17 (omega arith) code in
      let s = calling_sound m k c in
      let f = checks_passed m e _ refl ((each_call m k c).create_event name) code in
      let is : p.event_count + 1 ≡ j = sym f.1.value_is ∙ value in
      let q = own_after m k s c _ f.1 in
      let room = leb-false 8 p.event_count f.0.0 in
      let at = next_named event_limit no_event (record { name = id_of name; up = false }) p.events p.event_count j (calling_valid m k s c).objects.events.numbered.size room is in
      (rw q (omega arith, omega arith), ap (λ (x : Partition). (event j x).up) q ∙ ap (λ (x : EventState). x.up) at)

-- ---------------------------------------------------------------- a list of events
-- from a reached record on in which number j exists, while its partition is not erased
record Lasts (count : Partition → ℕ) (k j : ℕ) (es : List EventT) (m : Module) : Type 0 where
  reached : Reached m
  inside : Between 1 m.table.size k
  known : Between 1 (count (own m k)) j
  lasts : erased k m es ≡ false

lasts_on : (count : Partition → ℕ) (k j : ℕ) (e : EventT) (es : List EventT) (m : Module) → Lasts count k j (e ∷ es) m → (erases k m e ≡ false → count (own m k) ≤ count (own (next m e) k)) → Lasts count k j es (next m e)
unfolding erased
lasts_on count k j e es m h more = record {
  reached = Reached.stepped m e h.reached;
  inside = rw (step_size m e) h.inside;
  known = let l = more (or_left (erases k m e) _ h.lasts) in (h.known.0, omega (arith, h.known.1));
  lasts = or_right (erases k m e) _ h.lasts;
}

first_lasts : (count : Partition → ℕ) (k j : ℕ) (e : EventT) (es : List EventT) (m : Module) → Lasts count k j (e ∷ es) m → erases k m e ≡ false
unfolding erased
first_lasts count k j e es m h = or_left (erases k m e) _ h.lasts

-- a list from the creation on
module _ (input : List ℕ) (before : List EventT) (k j : ℕ) (name : ℤ) (es : List EventT) where
  abbrev m : Module
  m = after (read_table input).state before

  h : Reached m
  h = reached_after (read_table input).state (Reached.read input) before

  abbrev made : ℕ → Module
  made n = next m (call_by k n name (pos 0) (pos 0) (pos 0))

  begins : (n : ℕ) → 1 ≤ n → (count : Partition → ℕ) → Since m k n j name es → Between 1 (count (own (made n) k)) j → Lasts count k j es (made n)
  begins n some count since known = record { reached = Reached.stepped m _ h; inside = rw (step_size m (call_by k n name (pos 0) (pos 0) (pos 0))) (partition_in m h k j name n some since.code); known = known; lasts = since.lasts }

  board_run : Since m k 26 j name es → (board_at k j (after (made 26) es) ≡ last_shown (made 26) k j es) × Lasts (λ (p : Partition). p.blackboard_count) k j [] (after (made 26) es)
  board_run since =
      let c = board_created m h k j name since.code since.value in
      let g = along_list (shows k j) (board_at k j) (Lasts (λ (p : Partition). p.blackboard_count) k j)
      (λ e es q h.
      let on = first_lasts _ k j e es q h in
      (board_step q h.reached e k j h.inside on h.known, lasts_on _ k j e es q h (λ l. (left q h.reached e k j h.inside l).board_count)))
      es (made 26) (begins 26 (omega arith) _ since c.0) in
      (g.0 ∙ ap (λ x. along (shows k j) x (answers (made 26) es)) c.1, g.1)

  event_run : Since m k 17 j name es → ((event j (own (after (made 17) es) k)).up ≡ last_set (made 17) k j es) × Lasts (λ (p : Partition). p.event_count) k j [] (after (made 17) es)
  event_run since =
      let c = event_created m h k j name since.code since.value in
      let g = along_list (sets k j) (λ q. (event j (own q k)).up) (Lasts (λ (p : Partition). p.event_count) k j)
      (λ e es q h.
      let on = first_lasts _ k j e es q h in
      (event_step q h.reached e k j h.inside on h.known, lasts_on _ k j e es q h (λ l. (left q h.reached e k j h.inside l).event_count)))
      es (made 17) (begins 17 (omega arith) _ since c.0) in
      (g.0 ∙ ap (λ x. along (sets k j) x (answers (made 17) es)) c.1, g.1)

-- Law. What the latest accepted call left.
pub latest : Latest
latest = record {
  sampling = sampling;
  read = λ input i k es l size to h.
      let m = (read_table input).state in
      let T = after_table m es in
      rw T at (read_message (after m es) k i (last_written m i es) (rw T l) (rw T size) (rw T to) h (sampling input i es l));
  board = λ input before k j name es since. (board_run input before k j name es since).0;
  set = λ input before k j name es since. (event_run input before k j name es since).0;
  read_board = λ input before k j name a es since c. rw (board_run input before k j name es since).0 at ((each_call _ k c).read_blackboard (pos j) a);
  wait_event = λ input before k j name a es since c. rw (event_run input before k j name es since).0 at ((each_call _ k c).wait_event (pos j) a);
}
