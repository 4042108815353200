-- Each partition's share of time (document 01, windows and ticks): in M ticks, wherever they begin, a partition is current as often as its windows are long
-- together.
use Rattle.std.specs.Prelude.{ℕ, zero, suc, ◌+◌, ◌≡◌, Bool, cond, ◌&&◌, List, [], ◌∷◌, length, eqb}
use Rattle.machine.specs.declared.Event.{Event}
use Rattle.machine.specs.declared.EventRecord.{EventRecord}
use Rattle.machine.specs.declared.Window.{Window}
use Rattle.machine.specs.declared.Module.{Module}
use Rattle.machine.specs.Windows.{windows}
use Rattle.machine.specs.Module.{current, with_time}
use Rattle.machine.specs.Runs.{keep, answers}
use Rattle.machine.specs.Theorems.LeftRight.{is_tick}
use Rattle.machine.specs.Theorems.Valid.{Between, Reached}

-- how many of n numbers from a on pass a test
unfoldable pub how_many : (ℕ → Bool) → ℕ → ℕ → ℕ
how_many f a zero = 0
how_many f a (suc n) = cond (f a) 1 0 + how_many f (a + 1) n

-- the sum of the durations of partition k's windows
unfoldable pub durations : ℕ → List Window → ℕ
durations k [] = 0
durations k (w ∷ ws) = cond (eqb w.partition k) w.duration 0 + durations k ws

-- a tick answered 0; one after which partition k is current
abbrev pub ticked : EventRecord → Bool
ticked r = is_tick r.event && eqb r.answer.code 0

abbrev pub ticked_into : ℕ → EventRecord → Bool
ticked_into k r = ticked r && eqb r.answer.current k

pub record Share : Type 0 where
  -- by the window lookup: of M times from any t on (from q·M on: those of a frame), so many with partition k current
  pub times : (m : Module) → Reached m → (k : ℕ) → Between 1 m.table.size k → (t : ℕ)
      → how_many (λ u. eqb (current (with_time u m)) k) t m.table.frame ≡ durations k (windows m.table)
  -- over every list of events with M ticks answered 0 in it, whatever lies between them: after so many of them partition k is current
  pub run : (m : Module) → Reached m → (k : ℕ) → Between 1 m.table.size k → (es : List Event)
      → length (keep ticked (answers m es)) ≡ m.table.frame → length (keep (ticked_into k) (answers m es)) ≡ durations k (windows m.table)
