-- The modes of a partition (document 01, call 1): which changes of mode there are, and that IDLE is final, as claims about `step` and about lists of
-- events. The premises speak of an event's numbers, its code, the table and the record.
use Rattle.machine.specs.Mode.{mode_number}
use Rattle.std.specs.Prelude.{ℕ, ◌≤◌, ◌≡◌, Bool, true, false, ◌&&◌, List, [], ◌∷◌, get_or, eqb, pos}
use Rattle.machine.specs.declared.Event.{Event as EventT}
use Rattle.machine.specs.declared.Module.{Module}
use Rattle.machine.specs.Step.{step}
use Rattle.machine.specs.Runs.{after}
use Rattle.machine.specs.Theorems.Valid.{Between, Reached, contains}
use Rattle.machine.specs.Theorems.Events.{own, call_by, Calling}
use Rattle.machine.specs.Theorems.Account.{is_call, code_at}

-- the modes to which call 1 leads, by the mode before it: from IDLE none, from COLD_START 0, 1, 3, from WARM_START 0, 1, 2, 3, from NORMAL 0, 1, 2
abbrev pub leads_to : ℕ → List ℕ
leads_to mode = get_or ([] ∷ (0 ∷ 1 ∷ 3 ∷ []) ∷ (0 ∷ 1 ∷ 2 ∷ 3 ∷ []) ∷ (0 ∷ 1 ∷ 2 ∷ []) ∷ []) mode []

-- an accepted call 1 of partition k
abbrev pub sets_mode : ℕ → Module → EventT → Bool
sets_mode k m e = is_call k 1 e && eqb (code_at m e) 0

-- the mode of partition k after an event
pub record ModeAfter (m : Module) (e : EventT) (k : ℕ) : Type 0 where
  -- an accepted call 1 sets the mode that it names, one of these, and NORMAL only where a process has been created
  pub set : let p = own m k in
      let q = own (step m e).state k in
      sets_mode k m e ≡ true → (e.a ≡ pos (mode_number q.mode)) × (contains (mode_number q.mode) (leads_to (mode_number p.mode)) ≡ true) × (mode_number q.mode ≡ 3 → 1 ≤ p.process_count)
  -- every other event leaves the mode
  pub kept : sets_mode k m e ≡ false → (own (step m e).state k).mode ≡ (own m k).mode

pub record Modes : Type 0 where
  -- every event of every reached record
  pub event : (m : Module) → Reached m → (e : EventT) (k : ℕ) → Between 1 m.table.size k → ModeAfter m e k
  -- each of these modes is set where the call comes to its body
  pub accepted : (m : Module) (k : ℕ) → Calling m k → (mode : ℕ) → contains mode (leads_to (mode_number (own m k).mode)) ≡ true → (mode ≡ 3 → 1 ≤ (own m k).process_count)
      → (step m (call_by k 1 (pos mode) (pos 0) (pos 0) (pos 0))).answer.code ≡ 0
  -- IDLE is final: over every list of events the whole record of the partition stays
  pub final : (m : Module) → Reached m → (k : ℕ) → Between 1 m.table.size k → mode_number (own m k).mode ≡ 0 → (es : List EventT) → own (after m es) k ≡ own m k
