-- What storing processes, semaphores and events does to a partition's lists, one at a time or over a list of ids. Assumes nothing.
use Rattle.machine.specs.Mode.{mode_number}
use Prim.Native.Nat.{ℕ, zero, suc, ◌+◌, ◌-◌, ◌≤◌, ◌<◌, max}
use mathlib.Core.Path.{◌≡◌, refl, ap, sym, ◌∙◌}
use mathlib.Core.Bool.{Bool, true, false, cond, ◌&&◌, and-true, and-false, or-true}
use mathlib.Core.List.{List, [], ◌∷◌}
use mathlib.Core.Logic.{⊎_elim}
use native.Mathlib.Omega.{arith}
use lib.ListN.{length, get_or, set, length-set}
use lib.Dec.{eqb, ltb}
use borrow.Author.Tests.{eq-eqb, ne_eqb, eqb-true, eqb-false, ltb-true, ltb-false}
use Rattle.machine.specs.declared.Ids.{Ids}
use Rattle.machine.specs.declared.Process.{Process}
use Rattle.machine.specs.declared.Partition.{Partition}
use Rattle.machine.specs.Limits.{process_limit}
use Rattle.machine.specs.Ids.{members, other, removed, follow}
use Rattle.machine.specs.Process.{blank_process, ready, on_object}
use Rattle.machine.specs.Partition.{within, by_id, process, with_processes, stored, arrived_last, changed_all, each_from, each}
use Rattle.machine.specs.Theorems.Valid.{Between, contains, Distinct, Tracks, Numbered, Family, KnownOrNext, ListedIn, ObjectsIn, SoundProcess, setting_of, LockIn, HolderReady, Valid}
use Rattle.machine.specs.Theorems.Plain.{ids_from}
use Rattle.machine.proofs.Tests.{by_test, not_both}
use Rattle.machine.proofs.Bounds.{not_so, same_or_not, and_true_parts, within_in, within_out, named_in, named_same, named_other, stored_in, stored_out}
use Rattle.machine.proofs.Either.{either}
use Rattle.machine.proofs.Tracking.{Ranged, tracks_room, tracks_append, tracks_remove, tracks_follow}

-- ---------------------------------------------------------------- one of a list replaced, or the next one created
module _ {A : Type 0} {limit : ℕ} {d : A} {l : List A} {n : ℕ} (h : Numbered limit d l n) (id : ℕ) (a : A) (m : ℕ) (more : n ≤ m) (b : Between 1 m id) (room : m ≤ limit) where
  pub numbered_set : Numbered limit d (set l (id - 1) a) m
  numbered_set = record {
    size = simp length-set h.size;
    few = room;
    past = λ y out. named_other limit d id a l b.0 y (λ e. omega (arith, out, b.1)) ∙ h.past y (omega (arith, out, more));
  }

  -- a property of all of them
  pub all_set : (P : A → Type 0) → P a → ((y : ℕ) → Between 1 m y → (y ≡ id → ⊥) → P (by_id limit d y l)) → (y : ℕ) → Between 1 m y → P (by_id limit d y (set l (id - 1) a))
  all_set P new old y r = ⊎_elim
      (λ (e : y ≡ id). rw (e, named_same limit d id a l b.0 (omega arith) (omega (arith, h.size))) new)
      (λ (ne : y ≡ id → ⊥). rw (named_other limit d id a l b.0 y ne) (old y r ne))
      (same_or_not y id)

-- an object of a family stored: one that is known, or the next
pub family_set : {A : Type 0} {limit : ℕ} {d : A} {Sound : A → Type 0} {l : List A} {n : ℕ} → Family limit d Sound l n → (k : ℕ) → KnownOrNext limit n k → (a : A) → Sound a → Family limit d Sound (set l (k - 1) a) (max n k)
family_set {limit = limit} {d = d} {Sound = Sound} {l = l} {n = n} f k b a sound =
    let h = f.numbered in
    let r : Between 1 (max n k) k = (b.0.0, omega arith) in
    let room : max n k ≤ limit = omega (arith, h.few, b.1) in
    record {
      numbered = numbered_set h k a (max n k) (omega arith) r room;
      each = all_set h k a (max n k) (omega arith) r room Sound sound (λ y q ne. f.each y (q.0, omega (arith, q.1, b.0.1, ne)));
    }

-- ---------------------------------------------------------------- what the created processes are
-- a property that the blank process lacks is one of ids, and of those created
module _ (f : Process → Bool) (blank : f blank_process ≡ false) where
  pub process_ranged : (l : List Process) → Ranged (λ id. f (by_id process_limit blank_process id l))
  unfolding by_id
  process_ranged l x h = go (within process_limit x) refl h
    where
      go : (b : Bool) → within process_limit x ≡ b → f (cond b (get_or l (x - 1) blank_process) blank_process) ≡ true → (1 ≤ x) × (x ≤ process_limit)
      go true e k = within_out process_limit x e
      go false e k = not_both _ k blank

  pub process_created : (p : Partition) → ListedIn p → (id : ℕ) → f (process id p) ≡ true → Between 1 p.process_count id
  process_created p v id h = (
    (process_ranged p.processes id h).0,
    either (ltb p.process_count id)
        (λ e. let k : f blank_process ≡ true = rw (v.numbered.past id (ltb-true p.process_count id e)) at h in not_both _ k blank)
        (λ e. ltb-false p.process_count id e),
  )

-- ---------------------------------------------------------------- a process stored
-- all but the processes and the two lists of q is as in p
abbrev pub Rest : Partition → Partition → Type 0
Rest p q = q ≡ with_processes q.processes p.process_count q.arrival q.waiting p

module _ (p : Partition) (id : ℕ) (x : Process) where
  pub stored_rest : Rest p (stored id x p)
  unfolding stored
  stored_rest = by_test (λ (q : Partition). q ≡ with_processes q.processes p.process_count q.arrival q.waiting p) (within process_limit id) (λ _. refl) (λ _. refl)

  pub process_other : (y : ℕ) → (y ≡ id → ⊥) → process y (stored id x p) ≡ process y p
  process_other y ne = either (within process_limit id)
      (λ e. rw (stored_in id x p e) (named_other process_limit blank_process id x p.processes (within_out process_limit id e).0 y ne))
      (λ e. rw (stored_out id x p e))

  module _ (v : ListedIn p) (b : Between 1 p.process_count id) where
    high : id ≤ process_limit
    high = omega (arith, b.1, v.numbered.few)

    inside_limit : within process_limit id ≡ true
    inside_limit = within_in process_limit id b.0 high

    pub process_stored : process id (stored id x p) ≡ x
    process_stored = rw (stored_in id x p inside_limit) (named_same process_limit blank_process id x p.processes b.0 high (omega (arith, high, v.numbered.size)))

    tracked : (f : Process → Bool) → f blank_process ≡ false → (q : Ids) → Tracks (λ y. f (process y p)) q → Tracks (λ y. f (by_id process_limit blank_process y (set p.processes (id - 1) x))) (follow (f (process id p)) (f x) id q)
    tracked f blank q tr =
        tracks_follow (λ y. f (process y p)) q tr (λ y. f (by_id process_limit blank_process y (set p.processes (id - 1) x))) id
        (λ y ne. ap f (named_other process_limit blank_process id x p.processes b.0 y ne))
        (process_ranged f blank p.processes) b.0 high (f (process id p)) (f x) refl
        (ap f (named_same process_limit blank_process id x p.processes b.0 high (omega (arith, high, v.numbered.size))))

    pub stored_listed : ListedIn (stored id x p)
    stored_listed =
        rw (stored_in id x p inside_limit, ← named_in process_limit id blank_process p.processes inside_limit) (record {
          numbered = numbered_set v.numbered id x p.process_count (omega arith) b v.numbered.few;
          arrivals = tracked ready refl p.arrival v.arrivals;
          waitings = tracked on_object refl p.waiting v.waitings;
        })

-- ---------------------------------------------------------------- a change of several processes, by their ids
pub each_changed : (f : Process → Process) (n id : ℕ) (p : Partition) → each_from f n id p ≡ changed_all f (ids_from n id) p
unfolding each_from changed_all ids_from
each_changed f zero id p = refl
each_changed f (suc n) id p = each_changed f n (id + 1) (stored id (f (process id p)) p)

pub from_range : (n id y : ℕ) → contains y (ids_from n id) ≡ true → (id ≤ y) × (y < id + n)
unfolding contains ids_from
from_range zero id y h = not_both _ h refl
from_range (suc n) id y h = either (eqb id y)
    (λ e. let s = eqb-true id y e in (omega arith, omega arith))
    (λ e. let r = from_range n (id + 1) y (rw e at h) in (omega arith, omega arith))

pub from_has : (n id y : ℕ) → id ≤ y → y < id + n → contains y (ids_from n id) ≡ true
unfolding contains ids_from
from_has zero id y lo hi = absurd (omega arith)
from_has (suc n) id y lo hi = either (eqb id y)
    (λ e. rw e)
    (λ e. let ne = eqb-false id y e in rw e (from_has n (id + 1) y (omega arith) (omega arith)))

pub distinct_from : (n id : ℕ) → Distinct (ids_from n id)
unfolding Distinct ids_from
distinct_from zero id = tt
distinct_from (suc n) id = (not_so (contains id (ids_from n (id + 1))) (λ h. let r = from_range n (id + 1) id h in omega arith), distinct_from n (id + 1))

-- the ids of a list have been created
abbrev pub AllCreated : List ℕ → ℕ → Type 0
AllCreated l n = (x : ℕ) → contains x l ≡ true → Between 1 n x

rest_trans : (p q r : Partition) → Rest p q → Rest q r → Rest p r
rest_trans p q r e f = f ∙ ap (with_processes r.processes q.process_count r.arrival r.waiting) e ∙ ap (λ n. with_processes r.processes n r.arrival r.waiting p) (ap (λ (q : Partition). q.process_count) e)

pub rest_count : (p q : Partition) → Rest p q → q.process_count ≡ p.process_count
rest_count p q e = ap (λ (q : Partition). q.process_count) e

module _ (f : Process → Process) where
  pub changed_rest : (l : List ℕ) (p : Partition) → Rest p (changed_all f l p)
  unfolding changed_all
  changed_rest [] p = refl
  changed_rest (id ∷ l) p = rest_trans p _ _ (stored_rest p id (f (process id p))) (changed_rest l (stored id (f (process id p)) p))

  pub changed_listed : (l : List ℕ) (p : Partition) → ListedIn p → AllCreated l p.process_count → ListedIn (changed_all f l p)
  unfolding changed_all contains
  changed_listed [] p v all = v
  changed_listed (id ∷ l) p v all =
      let x = f (process id p) in
      changed_listed l (stored id x p)
      (stored_listed p id x v (all id (rw (eq-eqb id id refl))))
      (λ y c. rw (rest_count p _ (stored_rest p id x)) (all y (rw c (or-true (eqb id y)))))

  -- each of them has been changed, and no other
  pub changed_process : (l : List ℕ) (p : Partition) → ListedIn p → AllCreated l p.process_count → Distinct l → (y : ℕ) → process y (changed_all f l p) ≡ cond (contains y l) (f (process y p)) (process y p)
  unfolding changed_all contains Distinct
  changed_process [] p v all dis y = refl
  changed_process (id ∷ l) p v all dis y =
      let x = f (process id p) in
      let b = all id (rw (eq-eqb id id refl)) in
      changed_process l (stored id x p) (stored_listed p id x v b)
      (λ z c. rw (rest_count p _ (stored_rest p id x)) (all z (rw c (or-true (eqb id z))))) dis.1 y
      ∙ either (eqb id y)
      (λ e. let s : id ≡ y = eqb-true id y e in rw (e, ← s, dis.0) (process_stored p id x v b))
      (λ e. rw (e, process_other p id x y (λ s. eqb-false id y e (sym s))))

-- every created process is changed
module _ (f : Process → Process) (p : Partition) (v : ListedIn p) where
  all_ids : AllCreated (ids_from p.process_count 1) p.process_count
  all_ids y h = let r = from_range p.process_count 1 y h in (r.0, omega arith)

  pub each_rest : Rest p (each f p)
  each_rest = rw (each_changed f p.process_count 1 p) (changed_rest f (ids_from p.process_count 1) p)

  pub each_listed : ListedIn (each f p)
  each_listed = rw (each_changed f p.process_count 1 p) (changed_listed f (ids_from p.process_count 1) p v all_ids)

  pub each_process_holds : (y : ℕ) → Between 1 p.process_count y → process y (each f p) ≡ f (process y p)
  each_process_holds y b =
      rw (each_changed f p.process_count 1 p)
      (changed_process f (ids_from p.process_count 1) p v all_ids (distinct_from p.process_count 1) y
      ∙ rw (from_has p.process_count 1 y b.0 (omega (arith, b.1))))

-- ---------------------------------------------------------------- the end of the arrival list
-- a READY process that goes there
module _ (p : Partition) (v : ListedIn p) (id : ℕ) (h : ready (process id p) ≡ true) where
  -- READY, and another
  abbrev away : ℕ → Bool
  away y = ready (process y p) && other id y

  none_away : away id ≡ false
  none_away = rw (eq-eqb id id refl) (and-false (ready (process id p)))

  same_away : (y : ℕ) → (y ≡ id → ⊥) → away y ≡ ready (process y p)
  same_away y ne = rw (ne_eqb y id ne) (and-true (ready (process y p)))

  removed_tracks : Tracks away (removed id p.arrival)
  removed_tracks = tracks_remove (λ y. ready (process y p)) p.arrival v.arrivals away id same_away none_away

  pub removed_room : length (members (removed id p.arrival)) < process_limit
  removed_room =
      let r = process_ranged ready refl p.processes in
      let b = r id h in
      tracks_room away (removed id p.arrival) removed_tracks (λ y t. r y (and_true_parts (ready (process y p)) (other id y) t).0) id b.0 b.1 none_away

  pub arrived_listed : ListedIn (arrived_last id p)
  unfolding arrived_last
  arrived_listed = record {
    numbered = v.numbered;
    arrivals = tracks_append away (removed id p.arrival) removed_tracks (λ y. ready (process y p)) id (λ y ne. sym (same_away y ne)) removed_room none_away h;
    waitings = v.waitings;
  }

-- ---------------------------------------------------------------- a valid partition, from its parts
pub valid_of : (frame t : ℕ) (p q : Partition) → Rest p q → mode_number p.mode ≤ 3 → LockIn p → (0 < p.level → ready (process p.holder q) ≡ true) → ObjectsIn p → ListedIn q → ((id : ℕ) → Between 1 p.process_count id → SoundProcess (setting_of frame t p) (process id q)) → Valid frame t q
valid_of frame t p q e mode lock held objects lists sound = rw e (record { mode = mode; lock = record { few = lock.few; free = lock.free; normal = lock.normal; held = held }; lists = rw (rest_count p q e) at lists; objects = objects; each_process = sound })

-- one process stored
pub stored_valid : (frame t : ℕ) (p : Partition) → Valid frame t p → (id : ℕ) → Between 1 p.process_count id → (x : Process) → SoundProcess (setting_of frame t p) x → HolderReady p id x → Valid frame t (stored id x p)
stored_valid frame t p v id b x s keeps =
    valid_of frame t p (stored id x p) (stored_rest p id x) v.mode v.lock
    (λ some. ⊎_elim
    (λ (e : p.holder ≡ id). ap (λ y. ready (process y (stored id x p))) e ∙ ap ready (process_stored p id x v.lists b) ∙ keeps some (sym e))
    (λ (ne : p.holder ≡ id → ⊥). ap ready (process_other p id x p.holder ne) ∙ v.lock.held some)
    (same_or_not p.holder id))
    v.objects (stored_listed p id x v.lists b) (λ y r. ⊎_elim
    (λ (e : y ≡ id). rw (e, process_stored p id x v.lists b) s)
    (λ (ne : y ≡ id → ⊥). rw (process_other p id x y ne) (v.each_process y r))
    (same_or_not y id))

-- a READY process that goes to the end of the arrival list
pub arrived_valid : (frame t : ℕ) (p : Partition) → Valid frame t p → (id : ℕ) → ready (process id p) ≡ true → Valid frame t (arrived_last id p)
unfolding arrived_last
arrived_valid frame t p v id h = record { mode = v.mode; lock = v.lock; lists = arrived_listed p v.lists id h; objects = v.objects; each_process = v.each_process }
