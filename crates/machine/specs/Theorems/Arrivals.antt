-- The order of the arrival list, as claims about `step`: who stays READY keeps its place, TIMED_WAIT 0 and SET_PRIORITY alone move one, and who becomes READY joins
-- behind. The premises speak of an event's numbers, the answer's code, the table and the record.
use Rattle.std.specs.Prelude.{ℕ, ◌≡◌, Bool, true, false, cond, not, ◌&&◌, ◌||◌, List, [], ◌∷◌, ◌++◌, ◌⊎◌, eqb, pos}
use Rattle.machine.specs.declared.Event.{Event as EventT}
use Rattle.machine.specs.declared.Module.{Module}
use Rattle.machine.specs.Ids.{members, kept}
use Rattle.machine.specs.Process.{ready}
use Rattle.machine.specs.Partition.{process, running}
use Rattle.machine.specs.Step.{step}
use Rattle.machine.specs.Runs.{after}
use Rattle.machine.specs.Theorems.Valid.{Between, contains, Distinct, Reached}
use Rattle.machine.specs.Theorems.Plain.{plain_number, ids_from}
use Rattle.machine.specs.Theorems.Events.{own}
use Rattle.machine.specs.Theorems.EachCall.{id_of}

-- the process of partition k that an event moves: the caller of 9 TIMED_WAIT and that which 12 SET_PRIORITY names, where the answer's code is 0 (a TIMED_WAIT
-- of more than 0 answers 7); 0 for none
abbrev pub moved_at : Module → EventT → ℕ → ℕ → ℕ
moved_at m e code k =
    cond (eqb code 0 && plain_number k e.partition)
    (cond (plain_number 9 e.call) (running (own m k)) (cond (plain_number 12 e.call) (id_of e.a) 0))
    0

abbrev pub moved_by : Module → EventT → ℕ → ℕ
moved_by m e k = moved_at m e (step m e).answer.code k

-- the arrival list of partition k after an event
pub record ArrivalAfter (m : Module) (e : EventT) (k : ℕ) : Type 0 where
  -- it holds just the READY processes, each once
  pub exact : (id : ℕ) → let q = own (step m e).state k in contains id (members q.arrival) ≡ ready (process id q)
  pub once : Distinct (members (own (step m e).state k).arrival)
  -- those of the list before who are READY then and are not moved, in their order, and behind them who joins
  pub joined : List ℕ
  pub order : let q = own (step m e).state k in
      members q.arrival ≡ kept (λ id. ready (process id q) && not (eqb id (moved_by m e k))) (members (own m k).arrival) ++ joined
  -- who joins: those READY then who were not before, and the one that is moved
  pub joins : (id : ℕ) → let q = own (step m e).state k in
      contains id joined ≡ (ready (process id q) && (not (ready (process id (own m k))) || eqb id (moved_by m e k)))

-- a stands before b in a list that holds each once
unfoldable pub precedes : ℕ → ℕ → List ℕ → Bool
precedes a b [] = false
precedes a b (x ∷ l) = cond (eqb x a) (contains b l) (precedes a b l)

-- process id of partition k is READY in the record and after each event of a list, and none of them moves it
unfoldable pub ReadyThroughout : ℕ → ℕ → Module → List EventT → Type 0
ReadyThroughout k id m [] = ready (process id (own m k)) ≡ true
ReadyThroughout k id m (e ∷ es) = (ready (process id (own m k)) ≡ true) × (moved_by m e k ≡ id → ⊥) × ReadyThroughout k id (step m e).state es

pub record Arrivals : Type 0 where
  -- every event of every reached record, in each partition
  pub events : (m : Module) → Reached m → (e : EventT) (k : ℕ) → Between 1 m.table.size k → ArrivalAfter m e k
  -- at a tick, those who become READY join by ascending id
  pub ticked : (m : Module) → Reached m → (e : EventT) (k : ℕ) → Between 1 m.table.size k → let p = own m k in
      let q = own (step m e).state k in
      e.partition ≡ pos 0 → (step m e).answer.code ≡ 0
      → members q.arrival ≡ kept (λ id. ready (process id q)) (members p.arrival) ++ kept (λ id. ready (process id q) && not (ready (process id p))) (ids_from p.process_count 1)
  -- who joins, or is moved, stands behind everyone who stays READY and is not
  pub behind : (m : Module) → Reached m → (e : EventT) (k a b : ℕ) → Between 1 m.table.size k → let p = own m k in
      let q = own (step m e).state k in
      ready (process a p) ≡ true → ready (process a q) ≡ true → (moved_by m e k ≡ a → ⊥) → ready (process b q) ≡ true → (ready (process b p) ≡ false) ⊎ (moved_by m e k ≡ b)
      → precedes a b (members q.arrival) ≡ true
  -- over every list of events, of two who are READY throughout and are not moved the one before stays before, also where others preempt it
  pub stay : (m : Module) → Reached m → (es : List EventT) (k a b : ℕ) → Between 1 m.table.size k → ReadyThroughout k a m es → ReadyThroughout k b m es
      → precedes a b (members (own m k).arrival) ≡ true → precedes a b (members (own (after m es) k).arrival) ≡ true
