-- Ticks left in the window (document 02, f): what they are in every record that a run reaches, and how they count down over every list of events, as
-- claims about `step` and about lists of events (what call 34 answers: `EachCall`). The premises speak of an event's numbers, the table, the record and the
-- current partition.
use Rattle.std.specs.Prelude.{ℕ, ◌+◌, ◌-◌, ◌%◌, ◌<◌, ◌≡◌, Bool, true, List, ◌⊎◌, pos, length, get_or}
use Rattle.machine.specs.declared.Event.{Event as EventT}
use Rattle.machine.specs.declared.Module.{Module}
use Rattle.machine.specs.declared.Table.{Table}
use Rattle.machine.specs.Windows.{no_window, windows, covers, lookup}
use Rattle.machine.specs.Theorems.Starts.{StartAt, WindowLeft}
use Rattle.machine.specs.Module.{window, current, ticks_left}
use Rattle.machine.specs.Step.{step}
use Rattle.machine.specs.Runs.{keep, after}
use Rattle.machine.specs.Theorems.LeftRight.{common, Within, Closed}
use Rattle.machine.specs.Theorems.Valid.{Between, Reached}
use Rattle.machine.specs.Theorems.Events.{call_by, Calling}

-- ---------------------------------------------------------------- the call
-- 34 GET_TICKS_LEFT of partition k
abbrev pub get_left : ℕ → EventT
get_left k = call_by k 34 (pos 0) (pos 0) (pos 0) (pos 0)

-- a window of partition k covers place x of the frame, and ends n ticks later
pub record EndsIn (T : Table) (x k n : ℕ) : Type 0 where
  pub at : ℕ
  pub inside : at < length (windows T)
  pub owner : (get_or (windows T) at no_window).partition ≡ k
  pub covered : covers (get_or (windows T) at no_window) x ≡ true
  pub ends : x + n ≡ (get_or (windows T) at no_window).start + (get_or (windows T) at no_window).duration

-- ---------------------------------------------------------------- the whole
pub record TicksLeft : Type 0 where
  -- 1 ≤ ticks left ≤ M in every reached record with M > 0
  pub reached : (m : Module) → Reached m → 0 < m.table.frame → Between 1 m.table.frame (ticks_left m)
  -- and the lookup as a function of t
  pub window_left : (m : Module) → Reached m → 0 < m.table.frame → (t : ℕ) → WindowLeft m.table t (lookup m.table t).left
  -- the empty record gives 0, 0
  pub empty : (m : Module) → Reached m → m.table.frame ≡ 0 → (t : ℕ) → lookup m.table t ≡ record { partition = 0; left = 0 }
  -- over every list of events, n ticks left before it: j ticks later, j < n, the same partition is current with n − j
  pub lasts : (m : Module) → Reached m → (es : List EventT) (j : ℕ) → let q = after m es in
      q.t ≡ m.t + j → j < ticks_left m → (current q ≡ current m) × (ticks_left q ≡ ticks_left m - j)
  -- and n ticks later a window starts, or there is none
  pub ends : (m : Module) → Reached m → 0 < m.table.frame → (es : List EventT) → let q = after m es in
      q.t ≡ m.t + ticks_left m → StartAt m.table (q.t % m.table.frame) ⊎ (current q ≡ 0)
  -- asked again j ticks later, the call gives j less
  pub again : (m : Module) (k : ℕ) → Calling m k → (es : List EventT) (j : ℕ) → let q = after m es in
      let n = (step m (get_left k)).answer.value in
      Calling q k → q.t ≡ m.t + j → j < n → (step q (get_left k)).answer.value ≡ n - j
  -- two runs that differ outside a closed set agree on the lookup at the end (of Left and Right)
  pub apart : (m : Module) (S : ℕ → Bool) → Within m.table S → Closed m.table S → (left right : List EventT) → keep (common S) left ≡ keep (common S) right
      → window (after m left) ≡ window (after m right)
