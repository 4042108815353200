-- Numbers beside the records say what the records say. Assumes nothing.
use Prim.Native.Nat.{ℕ, zero, suc, ◌+◌, ◌-◌, ◌≤◌, ◌<◌}
use mathlib.Core.Bool.{Bool, cond}
use mathlib.Core.List.{List, [], ◌∷◌, map}
use mathlib.Core.Path.{◌≡◌, refl, sym, ap, ap₂, ◌∙◌}
use native.Mathlib.Numerals.{add-one}
use native.Mathlib.Omega.{arith}
use lib.Dec.{eqb}
use lib.ListN.{length, get_or, set, take, length-set, length-map, get_or-map}
use lib.Seq.{take_all}
use borrow.Author.Tests.{ne_eqb}
use Rattle.machine.specs.Mode.{mode_number}
use Rattle.machine.specs.Ids.{members, kept, kept_if, follow}
use Rattle.machine.specs.Limits.{process_limit}
use Rattle.machine.specs.Partition.{within, by_id, process, preferred, locked, chosen, running, waits_on, waiters, first_waiter, with_processes, stored}
use Rattle.machine.specs.Process.{blank_process, ready, on_object}
use Rattle.machine.specs.declared.Choice.{Choice}
use Rattle.machine.specs.declared.Ids.{Ids}
use Rattle.machine.specs.declared.Partition.{Partition}
use Rattle.machine.specs.declared.Process.{Process}
use Rattle.machine.proofs.Bounds.{stored_out}
use Rattle.machine.proofs.Either.{either}
use Rattle.std.specs.List.{fold}
use Rattle.partition.specs.Places.{slot_of, in_byte}
use Rattle.partition.proofs.Laws.{slot_out, stored_at}
use Rattle.resident.specs.Mirrors.{current_of, object_of, Mirrors, filled, is_on, queue_on, first_on, chosen_by, running_by}

-- ---------------------------------------------------------------- lists of numbers
by_id_map : {A B : Type 0} (limit : ℕ) (f : A → B) (d : A) (id : ℕ) (l : List A) → by_id limit (f d) id (map f l) ≡ f (by_id limit d id l)
unfolding by_id
by_id_map limit f d id l = either (within limit id)
    (λ t. rw t (get_or-map f l (id - 1) d))
    (λ t. rw t)

map_set : {A B : Type 0} (f : A → B) (l : List A) (k : ℕ) (x : A) → map f (set l k x) ≡ set (map f l) k (f x)
map_set f [] k x = refl
map_set f (y ∷ l) zero x = refl
map_set f (y ∷ l) (suc k) x = ap (λ (r : List _). f y ∷ r) (map_set f l k x)

kept_same : (f g : ℕ → Bool) → ((x : ℕ) → f x ≡ g x) → (l : List ℕ) → kept f l ≡ kept g l
unfolding kept
kept_same f g h [] = refl
kept_same f g h (x ∷ l) = ap₂ (λ (b : Bool) (k : List ℕ). kept_if b x k) (h x) (kept_same f g h l)

abbrev pub processes_of : Partition → List Process
processes_of p = p.processes

-- ---------------------------------------------------------------- what the numbers say
module _ {p : Partition} {currents objects : List ℕ} (m : Mirrors p currents objects) where
  -- as many as processes
  pub mirrors_lengths : (length currents ≡ process_limit) × (length objects ≡ process_limit)
  mirrors_lengths = (ap length m.priorities ∙ length-map p.processes current_of ∙ m.long, ap length m.waits ∙ length-map p.processes object_of ∙ m.long)

  -- a process's own
  pub current_of_holds : (id : ℕ) → by_id process_limit 0 id currents ≡ (process id p).current
  current_of_holds id = ap (by_id process_limit 0 id) m.priorities ∙ by_id_map process_limit current_of blank_process id p.processes

  pub object_of_holds : (id : ℕ) → by_id process_limit 0 id objects ≡ object_of (process id p)
  object_of_holds id = ap (by_id process_limit 0 id) m.waits ∙ by_id_map process_limit object_of blank_process id p.processes

  -- the queue of an object, and the first of it
  pub mirrors_queue : (o : ℕ) → queue_on o p.waiting objects ≡ waiters o p
  unfolding waiters
  mirrors_queue o = kept_same (is_on o objects) (waits_on o p) (λ id. ap (λ (n : ℕ). eqb n o) (object_of_holds id)) (members p.waiting)

  pub mirrors_first : (o : ℕ) → first_on o p.waiting objects ≡ first_waiter o p
  mirrors_first o = ap (λ (l : List ℕ). get_or l 0 0) (mirrors_queue o)

  -- the running process
  chosen_by_holds : (c : Choice) (l : List ℕ) → chosen_by currents c l ≡ chosen p c l
  unfolding chosen_by chosen
  chosen_by_holds c [] = refl
  chosen_by_holds c (id ∷ l) = ap (λ (n : ℕ). chosen_by currents (preferred c id n) l) (current_of_holds id) ∙ chosen_by_holds (preferred c id (process id p).current) l

  pub mirrors_running : running_by (mode_number p.mode) p.level p.holder p.arrival currents ≡ running p
  unfolding running
  mirrors_running = ap (λ (c : Choice). cond (eqb (mode_number p.mode) 3) (cond (locked p.level) p.holder c.id) 0) (chosen_by_holds (record { id = 0; priority = 0 }) (members p.arrival))

  -- ---------------------------------------------------------------- what keeps them
  -- the processes stay
  pub mirrors_same : {q : Partition} → q.processes ≡ p.processes → Mirrors q currents objects
  mirrors_same e = record { long = ap length e ∙ m.long; priorities = m.priorities ∙ ap (map current_of) (sym e); waits = m.waits ∙ ap (map object_of) (sym e) }

  -- the process at place k has the record x, and the numbers there are its own
  pub mirrors_set : {q : Partition} (k : ℕ) (x : Process) {c o : ℕ} → q.processes ≡ set p.processes k x → c ≡ x.current → o ≡ object_of x → Mirrors q (set currents k c) (set objects k o)
  mirrors_set k x e ec eo = record {
    long = ap length e ∙ length-set p.processes k x ∙ m.long;
    priorities = ap₂ (λ (l : List ℕ) (n : ℕ). set l k n) m.priorities ec ∙ sym (map_set current_of p.processes k x) ∙ ap (map current_of) (sym e);
    waits = ap₂ (λ (l : List ℕ) (n : ℕ). set l k n) m.waits eo ∙ sym (map_set object_of p.processes k x) ∙ ap (map object_of) (sym e);
  }

  -- process id has the record x from now on, at its place or nowhere
  module _ (id k : ℕ) (x : Process) (e : k ≡ slot_of process_limit id) where
    pub mirrors_stored : k < process_limit → {c o : ℕ} → c ≡ x.current → o ≡ object_of x → Mirrors (stored id x p) (set currents k c) (set objects k o)
    mirrors_stored h ec eo = mirrors_set k x (sym (ap processes_of (stored_at id k p x e _ _ h refl refl))) ec eo

    pub mirrors_none : process_limit ≤ k → Mirrors (stored id x p) currents objects
    mirrors_none h = mirrors_same (ap processes_of (stored_out id x p (slot_out process_limit id k e h)))

    -- the same by what the code leaves of the partition and of the numbers
    module _ {q : Partition} {cs os : List ℕ} where
      pub stored_here : k < process_limit → {a w : Ids} {c o : ℕ}
          → a ≡ follow (ready (get_or p.processes k blank_process)) (ready x) (in_byte id) p.arrival
          → w ≡ follow (on_object (get_or p.processes k blank_process)) (on_object x) (in_byte id) p.waiting
          → c ≡ x.current → o ≡ object_of x
          → q ≡ with_processes (set p.processes k x) p.process_count a w p → cs ≡ set currents k c → os ≡ set objects k o
          → (q ≡ stored id x p) × Mirrors q cs os
      stored_here h ea ew ec eo eq ecs eos = (eq ∙ stored_at id k p x e _ _ h ea ew, rw (ecs, eos) (mirrors_set k x (ap processes_of eq) ec eo))

      pub stored_nowhere : process_limit ≤ k → q ≡ p → cs ≡ currents → os ≡ objects → (q ≡ stored id x p) × Mirrors q cs os
      stored_nowhere h eq ecs eos = (eq ∙ sym (stored_out id x p (slot_out process_limit id k e h)), rw (ecs, eos) (mirrors_same (ap processes_of eq)))

-- all of them are written over a list that has as many
filled_whole : (f : Process → ℕ) (ps : List Process) (l : List ℕ) → length l ≡ length ps → filled f ps l ≡ map f ps
unfolding filled
filled_whole f [] [] h = refl
filled_whole f [] (n ∷ l) h = absurd (omega arith)
filled_whole f (x ∷ ps) [] h = absurd (omega arith)
filled_whole f (x ∷ ps) (n ∷ l) h = ap (λ (r : List ℕ). f x ∷ r) (filled_whole f ps l (omega arith))

pub mirrors_filled : {p : Partition} (currents objects : List ℕ) {cs os : List ℕ} → (length currents ≡ process_limit) × (length objects ≡ process_limit)
    → (length p.processes ≡ process_limit) × (cs ≡ filled current_of p.processes currents) × (os ≡ filled object_of p.processes objects)
    → Mirrors p cs os
mirrors_filled {p} currents objects h e = record {
  long = e.0;
  priorities = e.1 ∙ filled_whole current_of p.processes currents (h.0 ∙ sym e.0);
  waits = e.2 ∙ filled_whole object_of p.processes objects (h.1 ∙ sym e.0);
}

-- the place of the id after k
pub place_after : (k : ℕ) → k ≡ slot_of process_limit (k + 1)
place_after k = rw (ne_eqb (k + 1) 0 (λ z. omega arith)) (omega arith)

-- ---------------------------------------------------------------- loops
-- one more of the numbers is written
pub fill_more : (f : Process → ℕ) (l r : List ℕ) (ps : List Process) (k : ℕ) {n : ℕ} → n ≡ f (get_or ps k blank_process) → k < length ps → r ≡ filled f (take k ps) l → set r k n ≡ filled f (take (k + 1) ps) l
unfolding filled
fill_more f l r ps k e h t = rw (e, t, add-one) (next ps k l h)
  where
    next : (ps : List Process) (k : ℕ) (l : List ℕ) → k < length ps → set (filled f (take k ps) l) k (f (get_or ps k blank_process)) ≡ filled f (take (suc k) ps) l
    next [] k l h = absurd (omega arith)
    next (x ∷ ps) zero [] h = refl
    next (x ∷ ps) zero (n ∷ l) h = refl
    next (x ∷ ps) (suc k) [] h = refl
    next (x ∷ ps) (suc k) (n ∷ l) h = ap (λ (r : List ℕ). f x ∷ r) (next ps k l (omega arith))

pub fill_none : (f : Process → ℕ) (l : List ℕ) → l ≡ filled f [] l
unfolding filled
fill_none f l = refl

pub fill_done : (f : Process → ℕ) (l r : List ℕ) (ps : List Process) (k : ℕ) → length ps ≤ k → r ≡ filled f (take k ps) l → r ≡ filled f ps l
fill_done f l r ps k h t = t ∙ ap (λ (q : List Process). filled f q l) (take_all k ps h)

-- the one chosen, as a fold over the ids
pub chosen_by-fold : (l : List ℕ) (c : Choice) (k : List ℕ) → chosen_by l c k ≡ fold (λ c id. preferred c id (by_id process_limit 0 id l)) c k
unfolding chosen_by
chosen_by-fold l c [] = refl
chosen_by-fold l c (id ∷ k) = chosen_by-fold l (preferred c id (by_id process_limit 0 id l)) k
