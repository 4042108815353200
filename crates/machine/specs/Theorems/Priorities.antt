-- Where a current priority comes from, as a claim about every list of events: from the last accepted start of the process, which gives its base priority, or from
-- the last accepted SET_PRIORITY of it since. The premises speak of the events' numbers, the answers' codes, the table and the record.
use Rattle.std.specs.Prelude.{ℕ, ◌≡◌, cond, ◌&&◌, ◌||◌, List, [], ◌∷◌, eqb}
use Rattle.machine.specs.declared.Event.{Event as EventT}
use Rattle.machine.specs.declared.Module.{Module}
use Rattle.machine.specs.Partition.{process}
use Rattle.machine.specs.Step.{step}
use Rattle.machine.specs.Table.{read_table}
use Rattle.machine.specs.Runs.{after}
use Rattle.machine.specs.Theorems.Valid.{Between, Reached}
use Rattle.machine.specs.Theorems.Plain.{plain_between, plain_number}
use Rattle.machine.specs.Theorems.Events.{own}
use Rattle.machine.specs.Theorems.EachCall.{id_of}
use Rattle.machine.specs.Theorems.EachProcess.{CallOf, StartOf, Erasure}

-- the current priority of process id of partition k after an event, where it is n before: an accepted 3 START or 4 DELAYED_START of it gives its base priority, an
-- accepted 12 SET_PRIORITY of it the number that it names; an accepted mode 0, 1 or 2 leaves no process; else it stays
abbrev pub priority_after : Module → EventT → ℕ → ℕ → ℕ → ℕ
priority_after m e k id n =
    cond (eqb (step m e).answer.code 0 && plain_number k e.partition)
    (cond (plain_number id e.a && (plain_number 3 e.call || plain_number 4 e.call)) (process id (own m k)).given.base
    (cond (plain_number id e.a && plain_number 12 e.call) (id_of e.b)
    (cond (plain_number 1 e.call && plain_between 0 2 e.a) 0 n)))
    n

-- after a list of events
unfoldable pub priority_after_all : ℕ → ℕ → Module → ℕ → List EventT → ℕ
priority_after_all k id m n [] = n
priority_after_all k id m n (e ∷ es) = priority_after_all k id (step m e).state (priority_after m e k id n) es

-- no event of a list is such a one
unfoldable pub NoneGives : ℕ → ℕ → Module → List EventT → Type 0
NoneGives k id m [] = Unit {0}
NoneGives k id m (e ∷ es) =
    let code = (step m e).answer.code in
    (StartOf m e code k id → ⊥) × (CallOf m e code k id 12 → ⊥) × (Erasure m e code k id → ⊥) × NoneGives k id (step m e).state es

pub record Priorities : Type 0 where
  -- one event, and every list of events, of every reached record
  pub event : (m : Module) → Reached m → (e : EventT) (k id : ℕ) → Between 1 m.table.size k
      → (process id (own (step m e).state k)).current ≡ priority_after m e k id (process id (own m k)).current
  pub events : (m : Module) → Reached m → (es : List EventT) (k id : ℕ) → Between 1 m.table.size k
      → (process id (own (after m es) k)).current ≡ priority_after_all k id m (process id (own m k)).current es
  -- from the record that reading a table gives
  pub whole : (input : List ℕ) (es : List EventT) (k id : ℕ) → let m = (read_table input).state in
      Between 1 m.table.size k → (process id (own (after m es) k)).current ≡ priority_after_all k id m 0 es
  -- where no event of the list is such a one, it stays
  pub stays : (m : Module) → Reached m → (es : List EventT) (k id : ℕ) → Between 1 m.table.size k → NoneGives k id m es
      → (process id (own (after m es) k)).current ≡ (process id (own m k)).current
