-- Lists of process ids.
use Rattle.std.specs.Prelude.{ℕ, ◌+◌, ◌-◌, Bool, true, false, cond, not, List, [], ◌∷◌, ◌++◌, length, set, take, replicate, eqb, ltb}
use Rattle.machine.specs.declared.Ids.{Ids}
use Rattle.machine.specs.Limits.{process_limit}

abbrev pub members : Ids → List ℕ
members q = take q.len q.items

-- the list that holds these ids; what lies past them is 0
abbrev pub ids_of : List ℕ → Ids
ids_of l = record { items = l ++ replicate (process_limit - length l) 0; len = length l }

abbrev pub kept_if : Bool → ℕ → List ℕ → List ℕ
kept_if true x l = x ∷ l
kept_if false x l = l

-- the ids of which f says true
unfoldable pub kept : (ℕ → Bool) → List ℕ → List ℕ
kept f [] = []
kept f (x ∷ l) = kept_if (f x) x (kept f l)

abbrev pub other : ℕ → ℕ → Bool
other id x = not (eqb x id)

-- bound: a full list stays as it is
unfoldable pub appended : ℕ → Ids → Ids
appended id q = cond (ltb q.len process_limit) (record { items = set q.items q.len id; len = q.len + 1 }) q

unfoldable pub removed : ℕ → Ids → Ids
removed id q = ids_of (kept (other id) (members q))

-- a list after an id went from belonging to it or not to belonging to it or not: it joins last, or leaves
abbrev pub follow : Bool → Bool → ℕ → Ids → Ids
follow true true id q = q
follow true false id q = removed id q
follow false true id q = appended id q
follow false false id q = q
