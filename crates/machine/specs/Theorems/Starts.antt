-- What the ticks left, the release point and the waiting time are, without a search.
use Rattle.std.specs.Prelude.{ℕ, ◌+◌, ◌-◌, ◌%◌, ◌≤◌, ◌<◌, Bool, true, false, ◌&&◌, ◌||◌, List, [], ◌∷◌, length, get_or, eqb, ◌⊎◌, ◌≡◌}
use Rattle.machine.specs.declared.Window.{Window}
use Rattle.machine.specs.declared.Table.{Table}
use Rattle.machine.specs.Windows.{covers, lookup, no_window, windows}

-- ---------------------------------------------------------------- the ticks left
-- a window starts at place x of the frame
pub record StartAt (T : Table) (x : ℕ) : Type 0 where
  pub at : ℕ
  pub inside : at < length (windows T)
  pub starts : (get_or (windows T) at no_window).start ≡ x

-- none of the windows covers place x of the frame
abbrev pub Uncovered : List Window → ℕ → Type 0
Uncovered ws x = (i : ℕ) → i < length ws → covers (get_or ws i no_window) x ≡ false

-- what the lookup gives at t, without a search, with n ticks left
pub record WindowLeft (T : Table) (t n : ℕ) : Type 0 where
  -- 1 ≤ n ≤ M
  pub some : 1 ≤ n
  pub few : n ≤ T.frame
  -- in a window: its partition, and its end minus t mod M
  pub window : (i : ℕ) → let w = get_or (windows T) i no_window in
      let x = t % T.frame in
      i < length (windows T) → covers w x ≡ true → ((lookup T t).partition ≡ w.partition) × (x + n ≡ w.start + w.duration)
  -- without one: no partition, and until a window starts
  pub gap : Uncovered (windows T) (t % T.frame) → ((lookup T t).partition ≡ 0) × StartAt T ((t + n) % T.frame)
  -- for j < n the lookup at t + j gives the same partition and n − j; no window starts in between, so that adjacent ones are not joined
  pub lasts : (j : ℕ) → j < n → lookup T (t + j) ≡ record { partition = (lookup T t).partition; left = n - j }
  pub between : (j : ℕ) → 1 ≤ j → j < n → StartAt T ((t + j) % T.frame) → ⊥
  -- at t + n a window starts, or none covers it
  pub ends : StartAt T ((t + n) % T.frame) ⊎ Uncovered (windows T) ((t + n) % T.frame)

-- ---------------------------------------------------------------- the release point
-- a window of partition k with this flag starts at place x of the frame
pub record WindowAt (T : Table) (k : ℕ) (flag : Bool) (x : ℕ) : Type 0 where
  pub at : ℕ
  pub inside : at < length (windows T)
  pub owner : (get_or (windows T) at no_window).partition ≡ k
  pub flag_is : (get_or (windows T) at no_window).flag ≡ flag
  pub starts : (get_or (windows T) at no_window).start ≡ x

-- in the frame s is the nearest start of a window of partition k with flag 1 after place x
abbrev pub NextFlagged : Table → ℕ → ℕ → ℕ → Type 0
NextFlagged T k x s = WindowAt T k true s × (x < s) × ((y : ℕ) → WindowAt T k true y → x < y → s ≤ y)

-- r is the earliest start of a window with flag 1, of that partition, strictly after t
pub record Release (T : Table) (k t r : ℕ) : Type 0 where
  pub starts : WindowAt T k true (r % T.frame)
  pub after : t < r
  pub earliest : (s : ℕ) → WindowAt T k true (s % T.frame) → t < s → r ≤ s

-- ---------------------------------------------------------------- the waiting time
-- a window of partition k starts at x
unfoldable pub starts_at : ℕ → ℕ → List Window → Bool
starts_at k x [] = false
starts_at k x (w ∷ ws) = (eqb w.partition k && eqb w.start x) || starts_at k x ws

-- n is the least of 1..M such that a window of partition k starts at (t + n) mod M
pub record WaitingTime (T : Table) (k t n : ℕ) : Type 0 where
  pub some : 1 ≤ n
  pub few : n ≤ T.frame
  pub starts : starts_at k ((t + n) % T.frame) (windows T) ≡ true
  pub least : (j : ℕ) → 1 ≤ j → j < n → starts_at k ((t + j) % T.frame) (windows T) ≡ false
