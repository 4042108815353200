-- The running process: where one runs, it is READY; while preemption is locked it is the holder, else it is of greatest current priority, and
-- first among its equals in the arrival list. Assumes nothing.
use Prim.Native.Nat.{ℕ, ◌≤◌, ◌<◌}
use mathlib.Core.Path.{◌≡◌, refl, ap, sym, ◌∙◌}
use mathlib.Core.Bool.{true, ◌||◌, or-true}
use mathlib.Core.List.{List, [], ◌∷◌, ◌++◌}
use mathlib.Core.Logic.{◌↔◌}
use native.Mathlib.Omega.{arith}
use lib.Dec.{eqb, ltb}
use borrow.Author.Tests.{eq-eqb, ne_eqb, eqb-true, lt-ltb, le-ltb, ltb-true, ltb-false}
use Rattle.machine.specs.declared.Partition.{Partition}
use Rattle.machine.specs.declared.Choice.{Choice}
use Rattle.machine.specs.Ids.{members}
use Rattle.machine.specs.Process.{ready}
use Rattle.machine.specs.Partition.{normal_mode, locked, process, chosen, running}
use Rattle.machine.specs.Theorems.Valid.{contains, ListedIn, LockIn, Runs}
use Rattle.machine.proofs.Tests.{by_test, not_both}
use Rattle.machine.proofs.Bounds.{so}
use Rattle.machine.proofs.Either.{either}
use Rattle.machine.proofs.Keeping.{process_created}

abbrev priority_of : Partition → ℕ → ℕ
priority_of p id = (process id p).current

-- id is first among the greatest of a list
record First (p : Partition) (l : List ℕ) (id : ℕ) : Type 0 where
  before : List ℕ
  after : List ℕ
  split : l ≡ before ++ (id ∷ after)
  smaller : (y : ℕ) → contains y before ≡ true → priority_of p y < priority_of p id
  not_greater : (y : ℕ) → contains y after ≡ true → priority_of p y ≤ priority_of p id

-- the choice stays, since none of the list is greater, or it is now the first among the greatest of the list
data Scanned (p : Partition) (c : Choice) (l : List ℕ) : Choice → Type 0 where
  stays : ((y : ℕ) → contains y l ≡ true → priority_of p y ≤ c.priority) → Scanned p c l c
  moves : (id : ℕ) → c.priority < priority_of p id → First p l id → Scanned p c l (record { id = id; priority = priority_of p id })

-- what holds of one id and of each of a list holds of both together
in_front : (P : ℕ → Type 0) (id : ℕ) (l : List ℕ) → P id → ((y : ℕ) → contains y l ≡ true → P y) → (y : ℕ) → contains y (id ∷ l) ≡ true → P y
unfolding contains
in_front P id l here there y h = either (eqb id y)
    (λ e. rw (eqb-true id y e) at here)
    (λ e. there y (rw e at h))

module _ (p : Partition) (id : ℕ) (l : List ℕ) where
  first_later : (k : ℕ) → priority_of p id < priority_of p k → First p l k → First p (id ∷ l) k
  first_later k h f = record {
    before = id ∷ f.before;
    after = f.after;
    split = ap (λ (r : List ℕ). id ∷ r) f.split;
    smaller = in_front (λ y. priority_of p y < priority_of p k) id f.before h f.smaller;
    not_greater = f.not_greater;
  }

  first_here : ((y : ℕ) → contains y l ≡ true → priority_of p y ≤ priority_of p id) → First p (id ∷ l) id
  unfolding contains
  first_here h = record { before = []; after = l; split = refl; smaller = λ y e. not_both _ e refl; not_greater = h }

  -- the scan went on from id
  taken : (c d : Choice) → c.priority < priority_of p id → Scanned p (record { id = id; priority = priority_of p id }) l d → Scanned p c (id ∷ l) d
  taken c d h (stays g) = moves id h (first_here g)
  taken c d h (moves k g f) = moves k (omega arith) (first_later k g f)

  -- the scan passed over id
  passed : (c d : Choice) → priority_of p id ≤ c.priority → Scanned p c l d → Scanned p c (id ∷ l) d
  passed c d h (stays g) = stays (in_front (λ y. priority_of p y ≤ c.priority) id l h g)
  passed c d h (moves k g f) = moves k g (first_later k (omega arith) f)

  first_of : (d : Choice) → Scanned p (record { id = id; priority = priority_of p id }) l d → First p (id ∷ l) d.id
  first_of d (stays g) = first_here g
  first_of d (moves k g f) = first_later k g f

-- a list of ids, none of them 0
abbrev Proper : List ℕ → Type 0
Proper l = (y : ℕ) → contains y l ≡ true → y ≡ 0 → ⊥

proper_head : (id : ℕ) (l : List ℕ) → Proper (id ∷ l) → (id ≡ 0 → ⊥) × Proper l
unfolding contains
proper_head id l h = (h id (rw (eq-eqb id id refl)), λ y e. h y (rw e (or-true (eqb id y))))

scanned : (p : Partition) (l : List ℕ) (c : Choice) → (c.id ≡ 0 → ⊥) → Proper l → Scanned p c l (chosen p c l)
unfolding chosen contains
scanned p [] c some all = stays (λ y e. not_both _ e refl)
scanned p (id ∷ l) c some all =
    let r = proper_head id l all in
    by_test (λ (d : Choice). Scanned p c (id ∷ l) (chosen p d l)) (eqb c.id 0 || ltb c.priority (priority_of p id))
    (λ e. taken p id l c _ (ltb-true c.priority (priority_of p id) (rw (ne_eqb c.id 0 some) at e)) (scanned p l _ r.0 r.1))
    (λ e. passed p id l c _ (ltb-false c.priority (priority_of p id) (rw (ne_eqb c.id 0 some) at e)) (scanned p l c some r.1))

abbrev no_choice : Choice
no_choice = record { id = 0; priority = 0 }

contains_middle : (a : List ℕ) (id : ℕ) (b : List ℕ) → contains id (a ++ (id ∷ b)) ≡ true
unfolding contains
contains_middle [] id b = rw (eq-eqb id id refl)
contains_middle (x ∷ a) id b = rw (contains_middle a id b) (or-true (eqb x id))

throughout : (P : ℕ → Type 0) (a : List ℕ) (id : ℕ) (b : List ℕ) → ((y : ℕ) → contains y a ≡ true → P y) → P id → ((y : ℕ) → contains y b ≡ true → P y) → (y : ℕ) → contains y (a ++ (id ∷ b)) ≡ true → P y
unfolding contains
throughout P [] id b f here g y h = in_front P id b here g y h
throughout P (x ∷ a) id b f here g y h =
    in_front P x (a ++ (id ∷ b)) (f x (rw (eq-eqb x x refl))) (throughout P a id b (λ z e. f z (rw e (or-true (eqb x z)))) here g) y h

-- the process chosen from a list
first_chosen : (p : Partition) (id : ℕ) (l : List ℕ) → Proper (id ∷ l) → First p (id ∷ l) (chosen p no_choice (id ∷ l)).id
unfolding chosen
first_chosen p id l h = let r = proper_head id l h in first_of p id l _ (scanned p l (record { id = id; priority = priority_of p id }) r.0 r.1)

first_member : (p : Partition) (l : List ℕ) (id : ℕ) → First p l id → contains id l ≡ true
first_member p l id f = rw f.split (contains_middle f.before id f.after)

module _ (p : Partition) (v : ListedIn p) where
  proper : Proper (members p.arrival)
  proper y e z = let b = process_created ready refl p v y (sym (v.arrivals.exact y) ∙ e) in omega (arith, b.0)

  -- where nothing is READY nothing runs; else the first among the greatest does
  ran : (l : List ℕ) → members p.arrival ≡ l → ((chosen p no_choice l).id ≡ 0 → ⊥) → Runs p (chosen p no_choice l).id
  unfolding chosen
  ran [] e some = absurd (some refl)
  ran (x ∷ l) e some =
      let f = first_chosen p x l (rw e at proper) in
      record {
        is_ready = sym (v.arrivals.exact _) ∙ rw e (first_member p (x ∷ l) _ f);
        before = f.before;
        after = f.after;
        split = e ∙ f.split;
        smaller = f.smaller;
        not_greater = f.not_greater;
      }

  runs_some : (l : List ℕ) → members p.arrival ≡ l → (id : ℕ) → ready (process id p) ≡ true → (chosen p no_choice l).id ≡ 0 → ⊥
  unfolding contains
  runs_some [] e id k z = not_both _ k (sym (v.arrivals.exact id) ∙ rw e)
  runs_some (x ∷ l) e id k z =
      let q : Proper (x ∷ l) = rw e at proper in
      q _ (first_member p (x ∷ l) _ (first_chosen p x l q)) z

  -- while preemption is locked the holder runs
  pub holder_runs : normal_mode p ≡ true → 0 < p.level → running p ≡ p.holder
  unfolding running
  holder_runs n some = rw (n, lt-ltb 0 p.level some)

  pub running_runs : p.level ≡ 0 → (running p ≡ 0 → ⊥) → Runs p (running p)
  unfolding running
  running_runs free = by_test (λ (r : ℕ). (r ≡ 0 → ⊥) → Runs p r) (normal_mode p) (λ _. rw (le-ltb 0 p.level (omega (arith, free))) (ran (members p.arrival) refl)) (λ _ some. absurd (some refl))

  pub running_normal : (running p ≡ 0 → ⊥) → normal_mode p ≡ true
  unfolding running
  running_normal some = so (normal_mode p) (λ e. some (rw e))

  -- no READY process has a greater current priority
  pub running_greatest : p.level ≡ 0 → (some : running p ≡ 0 → ⊥) (id : ℕ) → ready (process id p) ≡ true → (process id p).current ≤ (process (running p) p).current
  running_greatest free some id k =
      let r = running_runs free some in
      let top = (process (running p) p).current in
      throughout (λ y. priority_of p y ≤ top) r.before (running p) r.after (λ y e. omega (arith, r.smaller y e)) (omega arith) r.not_greater id
      (rw (← r.split) (v.arrivals.exact id ∙ k))

  -- a process runs exactly where the mode is NORMAL and one is READY, and it is READY
  module _ (lock : LockIn p) where
    pub running_ready : (running p ≡ 0 → ⊥) → ready (process (running p) p) ≡ true
    running_ready some = either (locked p.level)
        (λ e. let l = ltb-true 0 p.level e in rw (holder_runs (lock.normal l) l) (lock.held l))
        (λ e. (running_runs (let l = ltb-false 0 p.level e in omega arith) some).is_ready)

    pub ready_runs : normal_mode p ≡ true → (id : ℕ) → ready (process id p) ≡ true → running p ≡ 0 → ⊥
    unfolding running
    ready_runs n id k z = either (locked p.level)
        (λ e. let b = process_created ready refl p v p.holder (lock.held (ltb-true 0 p.level e)) in let none : p.holder ≡ 0 = rw (n, e) at z in omega (arith, b.0))
        (λ e. runs_some (members p.arrival) refl id k (rw (n, e) at z))

    pub running_exact : (running p ≡ 0 → ⊥) ↔ ((normal_mode p ≡ true) × ((id : ℕ) × (ready (process id p) ≡ true)))
    running_exact = ((λ some. (running_normal some, (running p, running_ready some))), λ r. ready_runs r.0 r.1.0 r.1.1)
