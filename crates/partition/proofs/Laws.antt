-- Loops over the processes, from the first up; the first who wait on an object; records at their places; two changes in order. Assumes
-- nothing.
use Prim.Native.Nat.{ℕ, zero, suc, ◌+◌, ◌-◌, ◌≤◌, ◌<◌, max}
use mathlib.Core.Path.{◌≡◌, refl, sym, ap, ap₂, ◌∙◌}
use mathlib.Core.Bool.{true, false, ◌||◌}
use mathlib.Core.List.{List, [], ◌∷◌, ◌++◌, map, map-append}
use native.Mathlib.Omega.{arith}
use native.Mathlib.Numerals.{add-one}
use lib.ListN.{length, get_or, set, take, drop, length-take, length-map, drop_of_length-le}
use lib.Seq.{drop-cons, take-append-le, take_all, take-suc}
use lib.Dec.{eqb}
use borrow.Author.Tests.{eq-eqb, ne_eqb, eqb-true, eqb-false}
use Rattle.machine.specs.declared.Ids.{Ids}
use Rattle.machine.specs.declared.Process.{Process}
use Rattle.machine.specs.declared.Semaphore.{Semaphore}
use Rattle.machine.specs.declared.EventState.{EventState}
use Rattle.machine.specs.declared.Buffer.{Buffer}
use Rattle.machine.specs.declared.Blackboard.{Blackboard}
use Rattle.machine.specs.declared.Transfer.{Transfer}
use Rattle.machine.specs.declared.Transfer.TheVariants.{Put, HandedTo, Taken, LetIn}
use Rattle.machine.specs.declared.Partition.{Partition}
use Rattle.machine.specs.declared.Change.{Change}
use Rattle.machine.specs.declared.Choice.{Choice}
use Rattle.std.specs.List.{fold}
use Rattle.machine.specs.Limits.{message_limit, process_limit, semaphore_limit, event_limit, buffer_limit, blackboard_limit}
use Rattle.machine.specs.Ids.{members, ids_of, follow}
use Rattle.machine.specs.Messages.{queue_of, put}
use Rattle.machine.specs.Process.{blank_process, due, ticked, ready, on_object}
use Rattle.machine.specs.Partition.{within, by_id, process, buffer, no_buffer, moved_in, with_processes, with_semaphores, with_events, with_buffers, with_blackboards, stored, created, preferred, chosen, changed_all, stored_semaphore, stored_event, stored_buffer, stored_blackboard, ended_by, applied}
use Rattle.machine.proofs.Bounds.{inside, outside_zero, outside_high, named_in, named_out, stored_in, created_in, semaphore_in, event_in, buffer_in, blackboard_in, stored_out}
use Rattle.machine.proofs.Either.{either}
use Rattle.machine.proofs.Lists.{members_of, put_queue_of}
use Rattle.machine.proofs.Quiet.{stored_same, ticked_same}
use Rattle.machine.proofs.Tests.{or_left, or_right}
use Rattle.partition.specs.Places.{slot_of, in_byte}
use Rattle.partition.specs.Waits.{ended_id, ended_as}

-- ---------------------------------------------------------------- the running process
-- the one chosen, as a fold over the ids
pub chosen-fold : (p : Partition) (c : Choice) (l : List ℕ) → chosen p c l ≡ fold (λ c id. preferred c id (process id p).current) c l
unfolding chosen
chosen-fold p c [] = refl
chosen-fold p c (id ∷ l) = chosen-fold p (preferred c id (process id p).current) l

-- the first n of a list that was made of ids
module _ (q : Ids) (l : List ℕ) (n : ℕ) (e : q ≡ ids_of l) where
  size : q.len ≡ length l
  size = ap (λ (r : Ids). r.len) e

  pub fewer : n < q.len → take n q.items ≡ take n l
  fewer h = ap (λ (r : Ids). take n r.items) e ∙ take-append-le n l _ (omega (arith, size))

  pub not_fewer : q.len ≤ n → members q ≡ take n l
  not_fewer h = members_of q l e ∙ sym (take_all n l (omega (arith, size)))

-- the messages of the ids before place i of a list, as a loop puts them into a queue
pub gathered_more : (f : ℕ → ℕ) (ids : List ℕ) (i : ℕ) → i < length ids → i < message_limit → put (f (get_or ids i 0)) (queue_of (map f (take i ids))) ≡ queue_of (map f (take (i + 1) ids))
gathered_more f ids i more low =
    let x = get_or ids i 0 in
    let l = take i ids in
    let short : length (map f l) < message_limit = omega (arith, length-map l f, length-take i ids) in
    let next : take (i + 1) ids ≡ l ++ (x ∷ []) = rw (add-one, take-suc ids i 0) in
    put_queue_of (map f l) (f x) short ∙ rw next (ap queue_of (sym (map-append f l (x ∷ []))))

-- a change of the processes of a list, from place i on
module _ (f : Process → Process) (ids : List ℕ) (i : ℕ) (p : Partition) where
  pub changed_more : i < length ids → changed_all f (drop i ids) p ≡ changed_all f (drop (i + 1) ids) (stored (get_or ids i 0) (f (process (get_or ids i 0) p)) p)
  unfolding changed_all
  changed_more h = rw (drop-cons ids i 0 h, add-one)

  pub changed_done : length ids ≤ i → changed_all f (drop i ids) p ≡ p
  unfolding changed_all
  changed_done h = rw (drop_of_length-le ids h)

-- ---------------------------------------------------------------- the place of an id
-- inside a list the default does not matter
any_default : {A : Type 0} (l : List A) (k : ℕ) (d e : A) → k < length l → get_or l k d ≡ get_or l k e
any_default [] k d e h = absurd (omega arith)
any_default (x ∷ l) zero d e h = refl
any_default (x ∷ l) (suc k) d e h = any_default l k d e (omega arith)

-- nothing is stored past its end
set_default : {A : Type 0} (f : A → A) (l : List A) (k : ℕ) (d e : A) → set l k (f (get_or l k d)) ≡ set l k (f (get_or l k e))
set_default f [] k d e = refl
set_default f (x ∷ l) zero d e = refl
set_default f (x ∷ l) (suc k) d e = ap (λ (r : List _). x ∷ r) (set_default f l k d e)

module _ (limit id k : ℕ) (e : k ≡ slot_of limit id) where
  known : k < limit → id ≡ 0 → ⊥
  known h z = let a : k ≡ limit = rw (eq-eqb id 0 z) at e in omega arith

  below : (id ≡ 0 → ⊥) → k ≡ id - 1
  below some = rw (ne_eqb id 0 some) at e

  pub slot_in : k < limit → within limit id ≡ true
  slot_in h = let b : k ≡ id - 1 = below (known h) in inside limit id (known h) (omega arith)

  slot_place : k < limit → id - 1 ≡ k
  slot_place h = sym (below (known h))

  -- a byte holds it
  slot_byte : limit ≤ 255 → k < limit → in_byte id ≡ id
  slot_byte low h = let b : k ≡ id - 1 = below (known h) in let n = known h in omega arith

  pub slot_out : limit ≤ k → within limit id ≡ false
  slot_out h = either (eqb id 0)
      (λ t. outside_zero limit id (eqb-true id 0 t))
      (λ t. let b : k ≡ id - 1 = below (eqb-false id 0 t) in outside_high limit id (eqb-false id 0 t) (omega arith))

  -- what is read there is what the id names
  module _ {A : Type 0} (d : A) (l : List A) where
    pub named_at : k < limit → get_or l k d ≡ by_id limit d id l
    named_at h = sym (named_in limit id d l (slot_in h) ∙ ap (λ (j : ℕ). get_or l j d) (slot_place h))

    -- from an array of that length with whatever default
    pub named_long : (o : A) → length l ≡ limit → k < limit → get_or l k o ≡ by_id limit d id l
    named_long o long h = any_default l k o d (omega arith) ∙ named_at h

    pub named_past : limit ≤ k → d ≡ by_id limit d id l
    named_past h = sym (named_out limit id d l (slot_out h))

-- a process's record that is read, or stored, at its place
module _ (id k : ℕ) (p : Partition) (x : Process) (e : k ≡ slot_of process_limit id) where
  pub read_in : k < process_limit → x ≡ get_or p.processes k blank_process → x ≡ process id p
  read_in h r = r ∙ named_at process_limit id k e blank_process p.processes h

  pub read_out : process_limit ≤ k → x ≡ blank_process → x ≡ process id p
  read_out h r = r ∙ named_past process_limit id k e blank_process p.processes h

  pub stored_at : (a w : Ids) → k < process_limit
      → a ≡ follow (ready (get_or p.processes k blank_process)) (ready x) (in_byte id) p.arrival
      → w ≡ follow (on_object (get_or p.processes k blank_process)) (on_object x) (in_byte id) p.waiting
      → with_processes (set p.processes k x) p.process_count a w p ≡ stored id x p
  stored_at a w h ea ew =
      rw (ea, ew)
      (sym (stored_in id x p (slot_in process_limit id k e h)
      ∙ ap₂ (λ (j n : ℕ). let old = get_or p.processes j blank_process in with_processes (set p.processes j x) p.process_count (follow (ready old) (ready x) n p.arrival) (follow (on_object old) (on_object x) n p.waiting) p)
      (slot_place process_limit id k e h) (sym (slot_byte process_limit id k e (omega arith) h))))

-- one of a kind stored at its place, with how many there are
kind_at : {A : Type 0} (limit id k : ℕ) (low : limit ≤ 255) (e : k ≡ slot_of limit id) (h : k < limit) (l : List A) (a : A) (count n : ℕ) → n ≡ max count (in_byte id) → (f : List A → ℕ → Partition) → f (set l k a) n ≡ f (set l (id - 1) a) (max count id)
kind_at limit id k low e h l a count n en f = rw en (sym (ap₂ (λ (j m : ℕ). f (set l j a) (max count m)) (slot_place limit id k e h) (sym (slot_byte limit id k e low h))))

module _ (id k : ℕ) (p : Partition) where
  pub created_at : (x : Process) (n : ℕ) → k ≡ slot_of process_limit id → k < process_limit → n ≡ max p.process_count (in_byte id) → with_processes (set p.processes k x) n p.arrival p.waiting p ≡ created id x p
  created_at x n e h en = kind_at process_limit id k (omega arith) e h p.processes x p.process_count n en (λ l m. with_processes l m p.arrival p.waiting p) ∙ sym (created_in id x p (slot_in process_limit id k e h))

  pub semaphore_at : (s : Semaphore) (n : ℕ) → k ≡ slot_of semaphore_limit id → k < semaphore_limit → n ≡ max p.semaphore_count (in_byte id) → with_semaphores (set p.semaphores k s) n p ≡ stored_semaphore id s p
  semaphore_at s n e h en = kind_at semaphore_limit id k (omega arith) e h p.semaphores s p.semaphore_count n en (λ l m. with_semaphores l m p) ∙ sym (semaphore_in id s p (slot_in semaphore_limit id k e h))

  pub event_at_holds : (x : EventState) (n : ℕ) → k ≡ slot_of event_limit id → k < event_limit → n ≡ max p.event_count (in_byte id) → with_events (set p.events k x) n p ≡ stored_event id x p
  event_at_holds x n e h en = kind_at event_limit id k (omega arith) e h p.events x p.event_count n en (λ l m. with_events l m p) ∙ sym (event_in id x p (slot_in event_limit id k e h))

  pub buffer_at : (b : Buffer) (n : ℕ) → k ≡ slot_of buffer_limit id → k < buffer_limit → n ≡ max p.buffer_count (in_byte id) → with_buffers (set p.buffers k b) n p ≡ stored_buffer id b p
  buffer_at b n e h en = kind_at buffer_limit id k (omega arith) e h p.buffers b p.buffer_count n en (λ l m. with_buffers l m p) ∙ sym (buffer_in id b p (slot_in buffer_limit id k e h))

  pub blackboard_at : (b : Blackboard) (n : ℕ) → k ≡ slot_of blackboard_limit id → k < blackboard_limit → n ≡ max p.blackboard_count (in_byte id) → with_blackboards (set p.blackboards k b) n p ≡ stored_blackboard id b p
  blackboard_at b n e h en = kind_at blackboard_limit id k (omega arith) e h p.blackboards b p.blackboard_count n en (λ l m. with_blackboards l m p) ∙ sym (blackboard_in id b p (slot_in blackboard_limit id k e h))

  -- the messages of a buffer moved where they lie
  pub moved_at_holds : (a : Transfer) (o : Buffer) (n : ℕ) → k ≡ slot_of buffer_limit id → k < buffer_limit → n ≡ max p.buffer_count (in_byte id) → with_buffers (set p.buffers k (moved_in a (get_or p.buffers k o))) n p ≡ stored_buffer id (moved_in a (buffer id p)) p
  moved_at_holds a o n e h en =
      rw (set_default (moved_in a) p.buffers k o no_buffer)
      (buffer_at (moved_in a (get_or p.buffers k no_buffer)) n e h en ∙ ap (λ (b : Buffer). stored_buffer id (moved_in a b) p) (named_at buffer_limit id k e no_buffer p.buffers h))

-- ---------------------------------------------------------------- a transfer
-- it ends the wait of the process that it names
ended_stored : (a : Transfer) (p : Partition) → stored (ended_id a) (ended_as a (process (ended_id a) p)) p ≡ ended_by a p
ended_stored (Put m) p = stored_out 0 _ p (outside_zero process_limit 0 refl)
ended_stored (HandedTo id m) p = refl
ended_stored Taken p = stored_out 0 _ p (outside_zero process_limit 0 refl)
ended_stored (LetIn id m) p = refl

module _ (a : Transfer) (id : ℕ) (p : Partition) (named : id ≡ ended_id a) where
  pub ended : (x : Process) → x ≡ ended_as a (process id p) → stored id x p ≡ ended_by a p
  ended x r = rw (r, named) (ended_stored a p)

  module _ (k : ℕ) (e : k ≡ slot_of process_limit id) where
    pub ended_at_holds : (x : Process) → k < process_limit → x ≡ ended_as a (get_or p.processes k blank_process) → stored id x p ≡ ended_by a p
    ended_at_holds x h r = ended x (r ∙ ap (ended_as a) (named_at process_limit id k e blank_process p.processes h))

    pub none_ended : process_limit ≤ k → p ≡ ended_by a p
    none_ended h = sym (stored_out id _ p (slot_out process_limit id k e h)) ∙ ended _ refl

-- ---------------------------------------------------------------- two changes
-- what is left of two changes after n of them, where c is the next and b the second
abbrev pub left : ℕ → Change → Change → Partition → Partition
left zero c b q = applied b (applied c q)
left (suc zero) c b q = applied c q
left (suc (suc n)) c b q = q

pub left_more : (n : ℕ) (c b : Change) (q r w : Partition) → n < 2 → r ≡ applied c q → left n c b q ≡ w → left (n + 1) b b r ≡ w
left_more zero c b q r w h e s = rw e s
left_more (suc zero) c b q r w h e s = e ∙ s
left_more (suc (suc n)) c b q r w h e s = absurd (omega arith)

pub left_done : (n : ℕ) (c b : Change) (q w : Partition) → 2 ≤ n → left n c b q ≡ w → q ≡ w
left_done zero c b q w h s = absurd (omega arith)
left_done (suc zero) c b q w h s = absurd (omega arith)
left_done (suc (suc n)) c b q w h s = s

-- a process of which nothing is due is as a tick leaves it
pub untouched : (t id : ℕ) (x : Process) (p : Partition) → x ≡ process id p → (due t x.times.wake || due t x.times.deadline) ≡ false → stored id (ticked t (process id p)) p ≡ p
untouched t id x p e h =
    let a : (due t (process id p).times.wake || due t (process id p).times.deadline) ≡ false = rw e at h in
    let w : due t (process id p).times.wake ≡ false = or_left (due t (process id p).times.wake) (due t (process id p).times.deadline) a in
    let d : due t (process id p).times.deadline ≡ false = or_right (due t (process id p).times.wake) (due t (process id p).times.deadline) a in
    rw (ticked_same t (process id p) w d) (stored_same id p)
