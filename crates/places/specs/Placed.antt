-- An event before its partition is looked at.
use Rattle.std.specs.Prelude.{ℕ, ◌+◌, cond, ◌&&◌, eqb, Result, Ok, Err}
use Rattle.machine.specs.declared.Refusal.{Refusal}
use Rattle.machine.specs.Refusals.{code}
use Rattle.machine.specs.Decisions.{code_of}
use Rattle.machine.specs.Places.{ticks, event_checks}
use Rattle.machine.specs.declared.Request.{Request}
use Rattle.machine.specs.declared.Table.{Table}
use Rattle.places.specs.declared.Placed.{Placed as PlacedT}

-- t rises by one at a tick that is taken
abbrev pub time_after : Request → ℕ → ℕ → ℕ
time_after r t code = cond (eqb code 0 && ticks r) (t + 1) t

abbrev pub placed_at : Table → ℕ → Request → PlacedT
placed_at T t r = let n = code_of (event_checks T t r) in record { code = n; time = time_after r t n }

-- the same by the time after it, or why it is refused at t
abbrev pub placed_as : ℕ → Result ℕ Refusal → PlacedT
placed_as t (Ok time) = record { code = 0; time = time }
placed_as t (Err why) = record { code = code why; time = t }
