-- What a test settles, and what an id inside its limit names, and one outside. Assumes nothing.
use Prim.Native.Nat.{ℕ, ◌+◌, ◌-◌, ◌≤◌, ◌<◌, max}
use mathlib.Core.Path.{◌≡◌, refl, ap, ◌∙◌}
use mathlib.Core.Bool.{Bool, true, false, cond, ◌&&◌, ◌||◌, and-false}
use mathlib.Core.List.{List}
use mathlib.Core.Logic.{◌⊎◌, inl, inr}
use native.Mathlib.Omega.{arith}
use lib.ListN.{length, get_or, set, replicate, get_or-eq_default, get_or-replicate, length-replicate}
use lib.Seq.{get_or-set_same, get_or-set_other, set-get_or}
use lib.Dec.{eqb, ltb, leb}
use borrow.Author.Tests.{lt-ltb, le-ltb, le-leb, lt-leb, ltb-true, ltb-false, leb-true, eqb-true, eqb-false}
use Rattle.machine.specs.declared.Process.{Process}
use Rattle.machine.specs.declared.Semaphore.{Semaphore as SemaphoreT}
use Rattle.machine.specs.declared.EventState.{EventState}
use Rattle.machine.specs.declared.Buffer.{Buffer}
use Rattle.machine.specs.declared.Blackboard.{Blackboard as BlackboardT}
use Rattle.machine.specs.declared.Partition.{Partition}
use Rattle.machine.specs.Limits.{process_limit, semaphore_limit, event_limit, buffer_limit, blackboard_limit}
use Rattle.machine.specs.Ids.{follow}
use Rattle.machine.specs.Process.{blank_process, ready, on_object}
use Rattle.machine.specs.Partition.{within, by_id, replaced, with_semaphores, with_events, with_buffers, with_blackboards, with_processes, stored, created, stored_semaphore, stored_event, stored_buffer, stored_blackboard}
use Rattle.machine.specs.Decisions.{unknown}
use Rattle.machine.proofs.Either.{either}
use Rattle.machine.proofs.Tests.{by_test, or_left, or_right, and_left, and_right}

-- ---------------------------------------------------------------- tests
pub not_so : (b : Bool) → (b ≡ true → ⊥) → b ≡ false
not_so true h = absurd (h refl)
not_so false h = refl

pub so : (b : Bool) → (b ≡ false → ⊥) → b ≡ true
so true h = refl
so false h = absurd (h refl)

pub same_or_not : (a b : ℕ) → (a ≡ b) ⊎ (a ≡ b → ⊥)
same_or_not a b = go (eqb a b) refl
  where
    go : (t : Bool) → eqb a b ≡ t → (a ≡ b) ⊎ (a ≡ b → ⊥)
    go true e = inl (eqb-true a b e)
    go false e = inr (eqb-false a b e)

pub or_false_parts : (a b : Bool) → (a || b) ≡ false → (a ≡ false) × (b ≡ false)
or_false_parts a b h = (or_left a b h, or_right a b h)

pub and_true_parts : (a b : Bool) → (a && b) ≡ true → (a ≡ true) × (b ≡ true)
and_true_parts a b h = (and_left a b h, and_right a b h)

-- an id that is known
pub known_id : (id count : ℕ) → unknown id count ≡ false → (1 ≤ id) × (id ≤ count)
known_id id count h =
    let r = or_false_parts (eqb id 0) (ltb count id) h in
    let some = eqb-false id 0 r.0 in
    (omega arith, ltb-false count id r.1)

-- ---------------------------------------------------------------- what an id names
module _ (limit id : ℕ) where
  pub inside : (id ≡ 0 → ⊥) → id - 1 < limit → within limit id ≡ true
  inside some low = rw (lt-ltb 0 id (omega arith), le-leb id limit (omega arith))

  pub outside_zero : id ≡ 0 → within limit id ≡ false
  outside_zero none = rw (le-ltb 0 id (omega arith))

  pub outside_high : (id ≡ 0 → ⊥) → limit ≤ id - 1 → within limit id ≡ false
  outside_high some high = rw (lt-leb id limit (omega arith)) (and-false (ltb 0 id))

  pub within_in : 1 ≤ id → id ≤ limit → within limit id ≡ true
  within_in lo hi = rw (lt-ltb 0 id lo, le-leb id limit hi)

  pub within_out : within limit id ≡ true → (1 ≤ id) × (id ≤ limit)
  within_out h = let r = and_true_parts (ltb 0 id) (leb id limit) h in (ltb-true 0 id r.0, leb-true id limit r.1)

  module _ {A : Type 0} (d : A) (l : List A) where
    pub named_in : within limit id ≡ true → by_id limit d id l ≡ get_or l (id - 1) d
    unfolding by_id
    named_in h = rw h

    pub named_out : within limit id ≡ false → by_id limit d id l ≡ d
    unfolding by_id
    named_out h = rw h

    pub replaced_in : within limit id ≡ true → replaced limit id d l ≡ set l (id - 1) d
    unfolding replaced
    replaced_in h = rw h

    pub replaced_out : within limit id ≡ false → replaced limit id d l ≡ l
    unfolding replaced
    replaced_out h = rw h

    -- replacing what is there by itself changes nothing
    pub replaced_same : replaced limit id (by_id limit d id l) l ≡ l
    unfolding replaced by_id
    replaced_same = go (within limit id)
      where
        go : (b : Bool) → cond b (set l (id - 1) (cond b (get_or l (id - 1) d) d)) l ≡ l
        go true = set-get_or l (id - 1) d
        go false = refl

-- one more, with the next id
pub replaced_next : {A : Type 0} (limit n : ℕ) (a : A) (l : List A) → n < limit → replaced limit (n + 1) a l ≡ set l n a
replaced_next limit n a l h =
    let e : n + 1 - 1 ≡ n = omega arith in
    replaced_in limit (n + 1) a l (within_in limit (n + 1) (omega arith) (omega arith)) ∙ ap (λ (i : ℕ). set l i a) e

pub get_d_replicate_any : {A : Type 0} (n i : ℕ) (a : A) → get_or (replicate n a) i a ≡ a
get_d_replicate_any n i a = either (ltb i n)
    (λ e. get_or-replicate n i a a (ltb-true i n e))
    (λ e. get_or-eq_default (replicate n a) a (rw (length-replicate n a) (ltb-false i n e)))

pub named_replicate : {A : Type 0} (limit n id : ℕ) (a : A) → by_id limit a id (replicate n a) ≡ a
unfolding by_id
named_replicate limit n id a = by_test (λ (y : _). y ≡ a) (within limit id) (λ _. get_d_replicate_any n (id - 1) a) (λ _. refl)

-- what an id names after another, or the same, has been replaced
module _ {A : Type 0} (limit : ℕ) (d : A) (id : ℕ) (a : A) (l : List A) (lo : 1 ≤ id) where
  pub named_same : id ≤ limit → id ≤ length l → by_id limit d id (set l (id - 1) a) ≡ a
  named_same hi long = named_in limit id d (set l (id - 1) a) (within_in limit id lo hi) ∙ get_or-set_same l (id - 1) a d (omega arith)

  pub named_other : (y : ℕ) → (y ≡ id → ⊥) → by_id limit d y (set l (id - 1) a) ≡ by_id limit d y l
  unfolding by_id
  named_other y ne = go (within limit y) refl
    where
      go : (b : Bool) → within limit y ≡ b → cond b (get_or (set l (id - 1) a) (y - 1) d) d ≡ cond b (get_or l (y - 1) d) d
      go true e = let k = within_out limit y e in get_or-set_other l (id - 1) (y - 1) a d (λ s. ne (omega arith))
      go false e = refl

-- ---------------------------------------------------------------- what a partition's stores do
module _ (id : ℕ) (x : Process) (p : Partition) where
  pub stored_in : within process_limit id ≡ true → stored id x p ≡ (let old = get_or p.processes (id - 1) blank_process in with_processes (set p.processes (id - 1) x) p.process_count (follow (ready old) (ready x) id p.arrival) (follow (on_object old) (on_object x) id p.waiting) p)
  unfolding stored
  stored_in h = rw (replaced_in process_limit id x p.processes h, named_in process_limit id blank_process p.processes h, h)

  pub stored_out : within process_limit id ≡ false → stored id x p ≡ p
  unfolding stored
  stored_out h = rw h

  pub created_in : within process_limit id ≡ true → created id x p ≡ with_processes (set p.processes (id - 1) x) (max p.process_count id) p.arrival p.waiting p
  unfolding created replaced
  created_in h = rw h

  pub created_out : within process_limit id ≡ false → created id x p ≡ p
  unfolding created
  created_out h = rw h

module _ (k : ℕ) (s : SemaphoreT) (p : Partition) where
  pub semaphore_in : within semaphore_limit k ≡ true → stored_semaphore k s p ≡ with_semaphores (set p.semaphores (k - 1) s) (max p.semaphore_count k) p
  unfolding stored_semaphore replaced
  semaphore_in h = rw h

  pub semaphore_out : within semaphore_limit k ≡ false → stored_semaphore k s p ≡ p
  unfolding stored_semaphore
  semaphore_out h = rw h

module _ (k : ℕ) (e : EventState) (p : Partition) where
  pub event_in : within event_limit k ≡ true → stored_event k e p ≡ with_events (set p.events (k - 1) e) (max p.event_count k) p
  unfolding stored_event replaced
  event_in h = rw h

  pub event_out : within event_limit k ≡ false → stored_event k e p ≡ p
  unfolding stored_event
  event_out h = rw h

module _ (k : ℕ) (b : Buffer) (p : Partition) where
  pub buffer_in : within buffer_limit k ≡ true → stored_buffer k b p ≡ with_buffers (set p.buffers (k - 1) b) (max p.buffer_count k) p
  unfolding stored_buffer replaced
  buffer_in h = rw h

  pub buffer_out : within buffer_limit k ≡ false → stored_buffer k b p ≡ p
  unfolding stored_buffer
  buffer_out h = rw h

module _ (k : ℕ) (b : BlackboardT) (p : Partition) where
  pub blackboard_in : within blackboard_limit k ≡ true → stored_blackboard k b p ≡ with_blackboards (set p.blackboards (k - 1) b) (max p.blackboard_count k) p
  unfolding stored_blackboard replaced
  blackboard_in h = rw h

  pub blackboard_out : within blackboard_limit k ≡ false → stored_blackboard k b p ≡ p
  unfolding stored_blackboard
  blackboard_out h = rw h
