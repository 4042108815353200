-- When something of a partition is due, and a list of events done in place. Assumes nothing.
use Prim.Native.Nat.{ℕ, zero, suc, ◌+◌, ◌-◌, ◌*◌, ◌/◌, ◌≤◌, ◌<◌}
use mathlib.Core.List.{List, [], ◌∷◌, ◌++◌, append_assoc, append-nil}
use mathlib.Core.Path.{◌≡◌, refl, sym, ap, ◌∙◌}
use native.Mathlib.Nat.{add-zero, zero-add}
use native.Mathlib.Numerals.{unary_clauses}
use native.Mathlib.Omega.{arith}
use lib.Dec.{eqb}
use lib.IntN.{ℤ}
use lib.ListN.{length, get_or, get_or-replicate, replicate, set, length-set, take, drop, length-append, take-append-drop, drop_of_length-le}
use lib.Seq.{get_or-set_same, get_or-set_other, length-take-le, sets, sets-eq, length-sets, take_at, drop_at, drop-drop, get_or-drop}
use borrow.Author.Tests.{eqb-true, eqb-false}
use Rattle.machine.specs.Runs.{next, after, answers}
use Rattle.machine.specs.Limits.{partition_limit}
use Rattle.machine.specs.Module.{no_partition, part}
use Rattle.machine.specs.Partition.{tick_partition}
use Rattle.machine.specs.Replay.{answer_numbers}
use Rattle.machine.specs.Step.{step}
use Rattle.machine.specs.declared.Answer.{Answer}
use Rattle.machine.specs.declared.Event.{Event}
use Rattle.machine.specs.declared.Module.{Module}
use Rattle.machine.specs.declared.Partition.{Partition}
use Rattle.machine.proofs.Answers.{step_table}
use Rattle.machine.proofs.Either.{either}
use Rattle.partition.specs.Soonest.{soonest_of}
use Rattle.partition.proofs.Soonest.{tick_same}
use Rattle.events.specs.Plans.{no_answer}
use Rattle.executive.specs.Executive.{turned}
use Rattle.executive.specs.Lists.{Early, six, event_at, first_events, event_numbers, numbers_in, events_in, after_list, answered_list, last_answer}
use Rattle.executive.specs.declared.Turn.{Turn}
use Rattle.executive.proofs.Laws.{Held}

-- ---------------------------------------------------------------- when something of a partition is due
-- 0 is such a number of every partition
pub begins_early : (m : Module) → Early m (replicate partition_limit 0)
begins_early m = record { long = refl; each = λ i h. rw (get_or-replicate {A = ℕ} partition_limit i 0 0 h) (omega arith) }

module _ {m : Module} {l : List ℕ} (f : Early m l) where
  pub early_same : {y : Module} {k : List ℕ} → y.partitions ≡ m.partitions → k ≡ l → Early y k
  early_same g h = rw h (record { long = f.long; each = λ j k. rw g (f.each j k) })

  -- partition i is stored, and with it a number of it
  pub early_set : length m.partitions ≡ partition_limit → {i : ℕ} → i < partition_limit → (p : Partition) {n : ℕ} → n ≤ soonest_of p → {y : Module} {k : List ℕ} → y.partitions ≡ set m.partitions i p → k ≡ set l i n → Early y k
  early_set long {i} h p {n} e {y} {k} g s = rw s (record {
    long = length-set l i n ∙ f.long;
    each = λ j b. either (eqb j i)
        (λ z. rw (eqb-true j i z, g, get_or-set_same l i n 0 (rw f.long h), get_or-set_same m.partitions i p no_partition (rw long h)) e)
        (λ z. rw (g, get_or-set_other l i j n 0 (eqb-false j i z), get_or-set_other m.partitions i j p no_partition (eqb-false j i z)) (f.each j b));
  })

  -- before it a tick leaves the partition as it is
  pub early_tick : {i t : ℕ} → i < partition_limit → t < get_or l i 0 → tick_partition t (part m i) ≡ part m i
  early_tick {i} {t} h b = tick_same t (get_or l i 0) (part m i) b (f.each i h)

-- ---------------------------------------------------------------- six numbers of a list
pub stored_six : (l : List ℤ) (i : ℕ) (a b c d e f : ℤ)
    → set (set (set (set (set (set l i a) (i + 1) b) (i + 2) c) (i + 3) d) (i + 4) e) (i + 5) f ≡ sets l i (a ∷ b ∷ c ∷ d ∷ e ∷ f ∷ [])
stored_six l i a b c d e f =
    let h₁ : i + 1 ≡ suc i = omega arith in
    let h₂ : i + 2 ≡ suc (suc i) = omega arith in
    let h₃ : i + 3 ≡ suc (suc (suc i)) = omega arith in
    let h₄ : i + 4 ≡ suc (suc (suc (suc i))) = omega arith in
    let h₅ : i + 5 ≡ suc (suc (suc (suc (suc i)))) = omega arith in
    rw (h₁, h₂, h₃, h₄, h₅)

-- an event at a place is the first of what is left there
first_left : (l : List ℤ) (i : ℕ) → event_at (drop i l) 0 ≡ event_at l i
first_left l i = simp (get_or-drop, add-zero, zero-add)

-- ---------------------------------------------------------------- the events of a list
-- the list after its first n events
unfoldable pub answered_in : ℕ → Module → List ℤ → List ℤ
answered_in zero m l = l
answered_in (suc n) m l = answer_numbers (step m (event_at l 0)).answer ++ answered_in n (next m (event_at l 0)) (drop six l)

answered_in_holds : (n : ℕ) (m : Module) (l : List ℤ) → answered_in n m l ≡ numbers_in (answers m (first_events n l)) ++ drop (n * six) l
unfolding answered_in first_events numbers_in
answered_in_holds zero m l = refl
answered_in_holds (suc n) m l =
    let e : six + n * six ≡ suc n * six = omega arith in
    ap (λ (k : List ℤ). answer_numbers (step m (event_at l 0)).answer ++ k) (answered_in_holds n (next m (event_at l 0)) (drop six l) ∙ rw (drop-drop (n * six) six l, e))
    ∙ sym (append_assoc (answer_numbers (step m (event_at l 0)).answer) (numbers_in (answers (next m (event_at l 0)) (first_events n (drop six l)))) (drop (suc n * six) l))

-- i of n events of the list l₀ are done, from m₀ on: what is left to do from here gives the whole
pub record Running (m₀ : Module) (l₀ : List ℤ) (n i : ℕ) (m : Module) (l : List ℤ) (last : Answer) : Type 0 where
  pub within : i ≤ n
  pub room : n * six ≤ length l
  pub size : length l ≡ length l₀
  pub table : m.table ≡ m₀.table
  pub long : length m.partitions ≡ partition_limit
  pub held : Held m
  pub state : after m (first_events (n - i) (drop (i * six) l)) ≡ after m₀ (first_events n l₀)
  pub answer : last_answer m last (first_events (n - i) (drop (i * six) l)) ≡ last_answer m₀ no_answer (first_events n l₀)
  pub list : take (i * six) l ++ answered_in (n - i) m (drop (i * six) l) ≡ answered_in n m₀ l₀

pub begins : (m₀ : Module) (l₀ : List ℤ) (n : ℕ) → length m₀.partitions ≡ partition_limit → Held m₀ → n * six ≤ length l₀ → (a : Answer) → a ≡ no_answer → Running m₀ l₀ n 0 m₀ l₀ a
begins m₀ l₀ n long held h a none = rw none (record { within = omega arith; room = h; size = refl; table = refl; long = long; held = held; state = simp unary_clauses; answer = simp unary_clauses; list = simp unary_clauses })

module _ {m₀ : Module} {l₀ : List ℤ} {n i : ℕ} {m : Module} {l : List ℤ} {last : Answer} (so_far : Running m₀ l₀ n i m l last) where
  pub fits : i < n → i * six + six ≤ length l
  fits h = omega (arith, so_far.room)

  pub ends : n ≤ i → (m ≡ after m₀ (first_events n l₀)) × (last ≡ last_answer m₀ no_answer (first_events n l₀)) × (l ≡ numbers_in (answers m₀ (first_events n l₀)) ++ drop (n * six) l₀)
  unfolding answered_in first_events last_answer
  ends h =
      let z : n - i ≡ 0 = omega arith in
      (rw z at so_far.state, rw z at so_far.answer, sym (take-append-drop (i * six) l) ∙ (rw z at so_far.list) ∙ answered_in_holds n m₀ l₀)

  -- the event at i is done: y is the record after it, and k the list with its answer a
  module _ (h : i < n) {e : Event} (is : e ≡ event_at l (i * six)) {y : Module} {a : Answer} (did : record { executive = record { inner = y }; answer = a } ≡ turned (step m e)) (long : length y.partitions ≡ partition_limit) (held : Held y)
      {k : List ℤ} (put : k ≡ sets l (i * six) (answer_numbers a)) where
    left_is : n - i ≡ suc (n - (i + 1))
    left_is = omega arith

    place : i * six + six ≡ (i + 1) * six
    place = omega arith

    y_is : next m (event_at l (i * six)) ≡ y
    y_is = rw (← is) (sym (ap (λ (z : Turn). z.executive.inner) did))

    a_is : (step m (event_at l (i * six))).answer ≡ a
    a_is = rw (← is) (sym (ap (λ (z : Turn). z.answer) did))

    put_is : k ≡ (take (i * six) l ++ answer_numbers a) ++ drop ((i + 1) * six) l
    put_is = put ∙ sets-eq (answer_numbers a) l (i * six) (fits h) ∙ rw place

    front_long : length (take (i * six) l ++ answer_numbers a) ≡ (i + 1) * six
    front_long = length-append (take (i * six) l) (answer_numbers a) ∙ rw (length-take-le (i * six) l (let w = fits h in omega (arith, w))) place

    front : take ((i + 1) * six) k ≡ take (i * six) l ++ answer_numbers a
    front = rw put_is (take_at (take (i * six) l ++ answer_numbers a) (drop ((i + 1) * six) l) ((i + 1) * six) front_long)

    left : drop ((i + 1) * six) k ≡ drop ((i + 1) * six) l
    left = rw put_is (drop_at (take (i * six) l ++ answer_numbers a) (drop ((i + 1) * six) l) ((i + 1) * six) front_long)

    next_left : drop six (drop (i * six) l) ≡ drop ((i + 1) * six) l
    next_left = drop-drop six (i * six) l ∙ rw place

    state_on : after y (first_events (n - (i + 1)) (drop ((i + 1) * six) k)) ≡ after m (first_events (n - i) (drop (i * six) l))
    unfolding first_events
    state_on = rw (left, left_is, first_left l (i * six), next_left, ← y_is)

    answer_on : last_answer y a (first_events (n - (i + 1)) (drop ((i + 1) * six) k)) ≡ last_answer m last (first_events (n - i) (drop (i * six) l))
    unfolding first_events last_answer
    answer_on = rw (left, left_is, first_left l (i * six), next_left, ← y_is, ← a_is)

    list_on : take ((i + 1) * six) k ++ answered_in (n - (i + 1)) y (drop ((i + 1) * six) k) ≡ take (i * six) l ++ answered_in (n - i) m (drop (i * six) l)
    unfolding answered_in
    list_on = rw (front, left, left_is, first_left l (i * six), next_left, y_is, a_is) (append_assoc (take (i * six) l) (answer_numbers a) (answered_in (n - (i + 1)) y (drop ((i + 1) * six) l)))

    pub goes_on : Running m₀ l₀ n (i + 1) y k a
    goes_on = record {
      within = omega arith;
      room = rw (put, length-sets l (i * six) (answer_numbers a)) so_far.room;
      size = ap length put ∙ length-sets l (i * six) (answer_numbers a) ∙ so_far.size;
      table = rw (← y_is) (step_table m (event_at l (i * six))) ∙ so_far.table;
      long = long;
      held = held;
      answer = answer_on ∙ so_far.answer;
      state = state_on ∙ so_far.state;
      list = list_on ∙ so_far.list;
    }

-- ---------------------------------------------------------------- one event
-- the run over the six numbers of an event is its step
pub one_event : (m : Module) (e : Event) (l : List ℤ) → l ≡ e.partition ∷ e.call ∷ e.a ∷ e.b ∷ e.c ∷ e.e ∷ [] → (x : Turn) → x.executive.inner ≡ after_list m l → x.answer ≡ last_answer m no_answer (events_in l) → x ≡ turned (step m e)
unfolding first_events last_answer
one_event m e l is x state answer =
    let s = rw is at state in
    let a = rw is at answer in
    λ i. record { executive = record { inner = s i }; answer = a i }

-- ---------------------------------------------------------------- a list made of events
pub numbers_length : (es : List Event) → length (event_numbers es) ≡ length es * six
unfolding event_numbers
numbers_length [] = refl
numbers_length (v ∷ es) = omega (arith, numbers_length es)

first_events_holds : (es : List Event) → first_events (length es) (event_numbers es) ≡ es
unfolding event_numbers first_events
first_events_holds [] = refl
first_events_holds (v ∷ es) = rw (first_events_holds es)

events_in_holds : (es : List Event) → events_in (event_numbers es) ≡ es
events_in_holds es = let q : length (event_numbers es) / six ≡ length es = omega (arith, numbers_length es) in rw q (first_events_holds es)

-- the run over the numbers of events is the run over the events
pub list_after : (m : Module) (es : List Event) → after_list m (event_numbers es) ≡ after m es
list_after m es = rw (events_in_holds es)

pub list_answered : (m : Module) (es : List Event) → answered_list m (event_numbers es) ≡ numbers_in (answers m es)
list_answered m es =
    let q : length (event_numbers es) / six * six ≡ length (event_numbers es) = omega (arith, numbers_length es) in
    rw (events_in_holds es, q, drop_of_length-le (event_numbers es) {i = length (event_numbers es)} (omega arith)) (append-nil (numbers_in (answers m es)))
