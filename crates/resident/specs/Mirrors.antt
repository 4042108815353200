-- Numbers of a partition's processes that stand beside their records.
use Rattle.std.specs.Prelude.{ℕ, Bool, cond, List, [], ◌∷◌, map, ◌≡◌, eqb, length, get_or}
use Rattle.machine.specs.Ids.{members, kept}
use Rattle.machine.specs.Limits.{process_limit}
use Rattle.machine.specs.Partition.{by_id, preferred, locked}
use Rattle.machine.specs.Process.{object}
use Rattle.machine.specs.declared.Choice.{Choice}
use Rattle.machine.specs.declared.Ids.{Ids}
use Rattle.machine.specs.declared.Partition.{Partition}
use Rattle.machine.specs.declared.Process.{Process}

abbrev pub current_of : Process → ℕ
current_of x = x.current

abbrev pub object_of : Process → ℕ
object_of x = object x.wait

-- these are the current priorities of a partition's processes, and the objects that they wait for, one for each place
pub record Mirrors (p : Partition) (currents objects : List ℕ) : Type 0 where
  pub long : length p.processes ≡ process_limit
  pub priorities : currents ≡ map current_of p.processes
  pub waits : objects ≡ map object_of p.processes

-- numbers with those of these processes written over them, from the first place on
unfoldable pub filled : (Process → ℕ) → List Process → List ℕ → List ℕ
filled f [] l = l
filled f (x ∷ k) [] = []
filled f (x ∷ k) (n ∷ l) = f x ∷ filled f k l

-- whether process id waits for this object, by the numbers l
abbrev pub is_on : ℕ → List ℕ → ℕ → Bool
is_on o l id = eqb (by_id process_limit 0 id l) o

-- those of a list who do, and the first of them; 0 for none
abbrev pub queue_on : ℕ → Ids → List ℕ → List ℕ
queue_on o q l = kept (is_on o l) (members q)

abbrev pub first_on : ℕ → Ids → List ℕ → ℕ
first_on o q l = get_or (queue_on o q l) 0 0

-- the one chosen of a list, by the priorities l
unfoldable pub chosen_by : List ℕ → Choice → List ℕ → Choice
chosen_by l c [] = c
chosen_by l c (id ∷ k) = chosen_by l (preferred c id (by_id process_limit 0 id l)) k

-- the running process of a partition in the mode of this number, with this lock and this arrival list
abbrev pub running_by : ℕ → ℕ → ℕ → Ids → List ℕ → ℕ
running_by mode level holder q l = cond (eqb mode 3) (cond (locked level) holder (chosen_by l (record { id = 0; priority = 0 }) (members q)).id) 0
