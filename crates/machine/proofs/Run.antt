-- The machine is no frozen one: time, and the run over a list. Demand 3 over a table's bytes. Assumes nothing.
use Prim.Native.Nat.{ℕ, zero, suc, ◌+◌, ◌<◌}
use mathlib.Core.Path.{◌≡◌, refl, ap}
use mathlib.Core.Bool.{true, false}
use mathlib.Core.List.{List, [], ◌∷◌, ◌++◌}
use lib.Dec.{eqb}
use Rattle.machine.specs.declared.Module.{Module}
use Rattle.machine.specs.declared.Event.{Event}
use Rattle.machine.specs.declared.EventRecord.{EventRecord}
use Rattle.machine.specs.Limits.{time_limit}
use Rattle.machine.specs.Fields.{request_of, number_of}
use Rattle.machine.specs.declared.Decision.TheVariants.{Ticked}
use Rattle.machine.specs.Module as M
use Rattle.machine.specs.Ticks as Ti
use Rattle.machine.specs.Places as Pl
use Rattle.machine.specs.Step as St
use Rattle.machine.specs.Table.{read_table}
use Rattle.machine.specs.Runs.{after, answers}
use Rattle.machine.specs.Theorems.LeftRight.{LeftRight}
use Rattle.machine.specs.Theorems.Valid.{SoundTable}
use Rattle.machine.proofs.Dispatch.{ticks_decided}
use Rattle.machine.proofs.Isolation.{left_right}
use Rattle.machine.proofs.Tables.{table_read}

pub tick_time : (n : ℕ) (m : Module) → (Ti.tick_to n m).t ≡ m.t
unfolding Ti.tick_to Ti.tick_at
tick_time zero m = refl
tick_time (suc n) m = tick_time n m

-- time rises by one with every tick below 99,999,999
pub time_rises : (m : Module) (e : Event) → Pl.malformed m.table (request_of e) ≡ false → eqb (number_of (request_of e).partition) 0 ≡ true → m.t < time_limit
    → ((St.step m e).answer.code ≡ 0) × ((St.step m e).state.t ≡ m.t + 1) × ((St.step m e).answer.t ≡ m.t + 1)
unfolding St.step
time_rises m e f z l =
    let d : St.decision m (request_of e) ≡ Ticked = ticks_decided m (request_of e) f z l in
    let t : (Ti.tick_to (Ti.partition_count m.table) (M.with_time (m.t + 1) m)).t ≡ m.t + 1 = tick_time (Ti.partition_count m.table) (M.with_time (m.t + 1) m) in
    (rw d, rw d t, rw d t)

-- the run over a list acts on what the event before left
pub after_more : (m : Module) (left right : List Event) → after m (left ++ right) ≡ after (after m left) right
after_more m [] right = refl
after_more m (e ∷ left) right = after_more (St.step m e).state left right

pub answers_more : (m : Module) (left right : List Event) → answers m (left ++ right) ≡ answers m left ++ answers (after m left) right
answers_more m [] right = refl
answers_more m (e ∷ left) right = ap (λ (l : List EventRecord). record { event = e; answer = (St.step m e).answer } ∷ l) (answers_more (St.step m e).state left right)

-- Demand 3 for every accepted table, over its bytes: both runs start from the record that reading it gives: t 0, every partition in
-- mode 1 with nothing created, no message
pub left_right_of_table : (input : List ℕ) → (read_table input).code ≡ 0
    → SoundTable (read_table input).state.table × ((read_table input).state ≡ M.fresh_module (read_table input).state.table) × LeftRight (read_table input).state
left_right_of_table input h = let r = (table_read input).accepted h in (r.0, r.1, left_right (read_table input).state)
