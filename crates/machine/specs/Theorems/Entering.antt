-- Entering NORMAL, which is call 1 with 3: what becomes of each process, by case, and of the arrival list. (A periodic process: `ReleasesAt`; the whole
-- record: `SetMode` of EachCall.)
use Rattle.machine.specs.Mode.{mode_number}
use Rattle.std.specs.Prelude.{ℕ, ◌≡◌, not, ◌&&◌, eqb, pos}
use Rattle.machine.specs.declared.Event.{Event as EventT}
use Rattle.machine.specs.declared.Module.{Module}
use Rattle.std.specs.Prelude.{None}
use Rattle.machine.specs.declared.Wait.TheVariants.{Normal}
use Rattle.machine.specs.Ids.{members, kept}
use Rattle.machine.specs.Process.{ready}
use Rattle.machine.specs.Partition.{process}
use Rattle.machine.specs.Step.{step}
use Rattle.machine.specs.Theorems.Valid.{Between}
use Rattle.machine.specs.Theorems.Plain.{ids_from}
use Rattle.machine.specs.Theorems.Events.{own, call_by}
use Rattle.machine.specs.Theorems.EachCall.{started_at}

abbrev pub enter : ℕ → EventT
enter k = call_by k 1 (pos 3) (pos 0) (pos 0) (pos 0)

-- x is process id before, y after it
pub record Enters (m : Module) (k : ℕ) : Type 0 where
  pub code : (step m (enter k)).answer.code ≡ 0
  pub mode : mode_number (own (step m (enter k)).state k).mode ≡ 3
  -- an aperiodic one that waits for NORMAL takes the start rule with its delay, keeping its suspended mark and current priority: d = t + delay + capacity, or −1
  pub aperiodic : (id : ℕ) → let x = process id (own m k) in
      let y = process id (own (step m (enter k)).state k) in
      Between 1 (own m k).process_count id → x.wait ≡ Normal → x.given.period ≡ None → y ≡ started_at m.t x.times.delay x.current x.suspended x
  -- it is READY where its delay is 0 and it is not suspended
  pub ready_at : (id : ℕ) → let x = process id (own m k) in
      let y = process id (own (step m (enter k)).state k) in
      Between 1 (own m k).process_count id → x.wait ≡ Normal → x.given.period ≡ None → ready y ≡ (not x.suspended && eqb x.times.delay 0)
  -- who does not wait for NORMAL stays
  pub others : (id : ℕ) → let x = process id (own m k) in
      let y = process id (own (step m (enter k)).state k) in
      Between 1 (own m k).process_count id → (x.wait ≡ Normal → ⊥) → y ≡ x
  -- the arrival list holds the READY ones by ascending id
  pub arrival : let q = own (step m (enter k)).state k in
      members q.arrival ≡ kept (λ id. ready (process id q)) (ids_from (own m k).process_count 1)
