-- Strict periods, as a claim about every list of events: the release of a periodic process rises by its period with each of its PERIODIC_WAITs, and by nothing
-- else. The premises speak of the events' numbers, the answers' codes, the table and the record.
use Rattle.machine.specs.Mode.{mode_number}
use Rattle.std.specs.Prelude.{ℕ, ◌+◌, ◌*◌, ◌≡◌, Bool, true, cond, ◌&&◌, List, [], ◌∷◌, eqb}
use Rattle.machine.specs.declared.Event.{Event as EventT}
use Rattle.machine.specs.declared.Module.{Module}
use Rattle.std.specs.Prelude.{None, Some}
use Rattle.machine.specs.Partition.{process, running}
use Rattle.machine.specs.Step.{step}
use Rattle.machine.specs.Runs.{after}
use Rattle.machine.specs.Theorems.Valid.{Between, Reached}
use Rattle.machine.specs.Theorems.Plain.{plain_number}
use Rattle.machine.specs.Theorems.Events.{own}
use Rattle.machine.specs.Theorems.EachProcess.{StopOf, Erasure}

-- an event is 10 PERIODIC_WAIT by process id of partition k, answered 7
abbrev pub waits_period : Module → EventT → ℕ → ℕ → Bool
waits_period m e k id = eqb (step m e).answer.code 7 && (plain_number k e.partition && (plain_number 10 e.call && eqb id (running (own m k))))

-- how many events of a list are
unfoldable pub period_waits : ℕ → ℕ → Module → List EventT → ℕ
period_waits k id m [] = 0
period_waits k id m (e ∷ es) = cond (waits_period m e k id) 1 0 + period_waits k id (step m e).state es

-- no event of a list stops the process or erases it
unfoldable pub NeverStopped : ℕ → ℕ → Module → List EventT → Type 0
NeverStopped k id m [] = Unit {0}
NeverStopped k id m (e ∷ es) =
    let code = (step m e).answer.code in
    (StopOf m e code k id → ⊥) × (Erasure m e code k id → ⊥) × NeverStopped k id (step m e).state es

pub record Periods : Type 0 where
  -- a started periodic process of a NORMAL partition has a release
  pub known : (m : Module) → Reached m → (k id n : ℕ) → let x = process id (own m k) in
      Between 1 m.table.size k → mode_number (own m k).mode ≡ 3 → x.started ≡ true → x.given.period ≡ Some n → x.times.release ≡ None → ⊥
  -- r after = r before + period × its PERIODIC_WAITs answered 7
  pub strict : (m : Module) → Reached m → (es : List EventT) (k id n r : ℕ) → let x = process id (own m k) in
      Between 1 m.table.size k → mode_number (own m k).mode ≡ 3 → x.started ≡ true → x.given.period ≡ Some n → x.times.release ≡ Some r → NeverStopped k id m es
      → (process id (own (after m es) k)).times.release ≡ Some (r + n * period_waits k id m es)
