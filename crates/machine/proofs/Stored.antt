-- One process stored, on a valid partition, without a bound. Assumes nothing.
use Prim.Native.Nat.{ℕ, zero, suc, ◌-◌, ◌≤◌, ◌<◌}
use mathlib.Core.Path.{◌≡◌, refl, ap, sym, ◌∙◌}
use mathlib.Core.Bool.{Bool, true, false}
use mathlib.Core.List.{List}
use native.Mathlib.Omega.{arith}
use lib.ListN.{length, get_or, get_or-eq_default}
use lib.Dec.{leb}
use borrow.Author.Tests.{leb-true, leb-false}
use Rattle.machine.specs.declared.Ids.{Ids}
use Rattle.machine.specs.declared.Process.{Process}
use Rattle.machine.specs.declared.Partition.{Partition}
use Rattle.machine.specs.Limits.{process_limit}
use Rattle.machine.specs.Ids.{members, ids_of, removed, follow}
use Rattle.machine.specs.Process.{blank_process, ready, on_object}
use Rattle.machine.specs.Partition.{by_id, process, stored}
use Rattle.machine.specs.Theorems.Valid.{Between, Tracks, ListedIn}
use Rattle.machine.specs.Theorems.Plain.{plain_by_id, followed, plain_stored}
use Rattle.machine.proofs.Bounds.{within_in, outside_high, named_in, named_out, stored_in}
use Rattle.machine.proofs.Either.{either}
use Rattle.machine.proofs.Tracking.{tracks_room, appended_plain}
use Rattle.machine.proofs.Keeping.{process_ranged}

-- ---------------------------------------------------------------- what an id names
-- in a list as long as its limit, an id names what stands at its place
module _ {A : Type 0} (limit : ℕ) (d : A) (l : List A) (long : length l ≡ limit) where
  pub by_id_plain : (id : ℕ) → by_id limit d id l ≡ plain_by_id d id l
  unfolding by_id
  by_id_plain zero = refl
  by_id_plain (suc i) =
      let e : suc i - 1 ≡ i = omega arith in
      either (leb limit i)
      (λ h. let k = leb-true limit i h in named_out limit (suc i) d l (outside_high limit (suc i) (λ z. omega arith) (omega arith)) ∙ sym (get_or-eq_default l d (omega arith)))
      (λ h. let k = leb-false limit i h in named_in limit (suc i) d l (within_in limit (suc i) (omega arith) k) ∙ ap (λ j. get_or l j d) e)

-- ---------------------------------------------------------------- one process stored
-- a list after an id joined last or left: one that lacks the id has room for it
follow_plain : (f : ℕ → Bool) (q : Ids) → Tracks f q → (now next : Bool) (id : ℕ) → (now ≡ false → length (members q) < process_limit) → follow now next id q ≡ ids_of (followed now next id (members q))
unfolding removed
follow_plain f q tr true true id room = tr.canonical
follow_plain f q tr true false id room = refl
follow_plain f q tr false true id room = appended_plain f q tr id (room refl)
follow_plain f q tr false false id room = tr.canonical

module _ (p : Partition) (v : ListedIn p) (id : ℕ) (b : Between 1 p.process_count id) where
  high : id ≤ process_limit
  high = omega (arith, b.1, v.numbered.few)

  -- a list that lacks the id has room for it
  list_plain : (f : Process → Bool) → f blank_process ≡ false → (q : Ids) → Tracks (λ y. f (process y p)) q → (next : Bool) → follow (f (process id p)) next id q ≡ ids_of (followed (f (process id p)) next id (members q))
  list_plain f blank q tr next =
      follow_plain (λ y. f (process y p)) q tr (f (process id p)) next id
      (tracks_room (λ y. f (process y p)) q tr (process_ranged f blank p.processes) id b.0 high)

  pub stored_plain : (x : Process) → stored id x p ≡ plain_stored id x p
  unfolding plain_stored
  stored_plain x =
      let inside = within_in process_limit id b.0 high in
      stored_in id x p inside
      ∙ rw (← named_in process_limit id blank_process p.processes inside, list_plain ready refl p.arrival v.arrivals (ready x), list_plain on_object refl p.waiting v.waitings (on_object x), by_id_plain process_limit blank_process p.processes v.numbered.size id)
