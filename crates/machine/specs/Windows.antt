-- The windows of a table: the next start of a window, the current partition with the ticks left, the release point and the waiting time.
use Rattle.std.specs.Prelude.{ℕ, ◌+◌, ◌-◌, ◌%◌, Bool, true, false, cond, not, ◌&&◌, ◌||◌, List, [], ◌∷◌, take, leb, ltb, eqb, ℤ}
use Rattle.machine.specs.declared.Field.{Field}
use Rattle.machine.specs.Limits.{time_limit}
use Rattle.machine.specs.Fields.{between, number_of, field}
use Rattle.machine.specs.Process.{capped}
use Rattle.machine.specs.Time.{Time}
use Rattle.std.specs.Prelude.{None, Some, Result, Ok, Err}
use Rattle.machine.specs.declared.Window.{Window}
use Rattle.machine.specs.declared.Table.{Table}
use Rattle.machine.specs.declared.Lookup.{Lookup}
use Rattle.machine.specs.declared.Refusal.{Refusal}
use Rattle.machine.specs.Refusals.{code}

abbrev pub no_window : Window
no_window = record { start = 0; duration = 0; partition = 0; flag = false }

abbrev pub windows : Table → List Window
windows T = take T.window_count T.windows

-- start ≤ x < start + duration
abbrev pub covers : Window → ℕ → Bool
covers w x = leb w.start x && ltb x (w.start + w.duration)

-- any window
abbrev pub any_window : Window → Bool
any_window w = true

-- a window of the partition
abbrev pub owned_by : ℕ → Window → Bool
owned_by k w = eqb w.partition k

-- a window of the partition with flag 1
abbrev pub flagged_for : ℕ → Window → Bool
flagged_for k w = w.flag && eqb w.partition k

-- ---------------------------------------------------------------- the next start
-- a window that passes a test and does not start before this place of the frame
abbrev pub starts_from : (Window → Bool) → ℕ → Window → Bool
starts_from f from w = f w && leb from w.start

-- the start of the first window that passes a test; −1 where none does
unfoldable pub first_start : (Window → Bool) → List Window → Time
first_start f [] = None
first_start f (w ∷ ws) = cond (f w) (Some w.start) (first_start f ws)

-- how far ahead of place x the first of these starts lies: the first in this frame, or the second in the next one; M where there is none
abbrev pub ahead_of : ℕ → ℕ → Time → Time → ℕ
ahead_of frame x (Some s) next = s - x
ahead_of frame x None (Some s) = s + frame - x
ahead_of frame x None None = frame

-- the next start after t of a window that passes a test, as a number of ticks. Bound: 0 where M is 0
unfoldable pub next_start : Table → ℕ → (Window → Bool) → ℕ
next_start T t f =
    let x = t % T.frame in
    cond (eqb T.frame 0) 0
    (ahead_of T.frame x (first_start (starts_from f (x + 1)) (windows T)) (first_start (starts_from f 0) (windows T)))

-- ---------------------------------------------------------------- the window lookup
-- The current partition owns the window with start ≤ x < start + duration, 0 if none; with it the ticks until that window ends, or the
-- given ones where there is none.
unfoldable pub covering : List Window → ℕ → ℕ → Lookup
covering [] x gap = record { partition = 0; left = gap }
covering (w ∷ ws) x gap = cond (covers w x) (record { partition = w.partition; left = w.start + w.duration - x }) (covering ws x gap)

-- The window lookup at t: x is t mod M, and where there is no window the ticks are those until the next start of any window, counting into the
-- next frame. Bound: 0 and 0 where M is 0.
unfoldable pub lookup : Table → ℕ → Lookup
lookup T t = cond (eqb T.frame 0) (record { partition = 0; left = 0 }) (covering (windows T) (t % T.frame) (next_start T t any_window))

-- ---------------------------------------------------------------- the release point
-- the earliest start of a window with flag 1, of that partition, strictly after t
unfoldable pub release_after : Table → ℕ → ℕ → ℕ
release_after T t k = t + next_start T t (flagged_for k)

-- bound: no time is past the greatest
unfoldable pub release_point : Table → ℕ → ℕ → ℕ
release_point T t k = capped (release_after T t k)

-- ---------------------------------------------------------------- the waiting time
-- 13, with n 0, for t or partition out of range (in the empty record there is no partition)
abbrev pub waiting_refused : Table → Field → Field → Bool
waiting_refused T t k = not (between 0 time_limit t) || not (between 1 T.size k)

-- code 0 and n, or 13 and 0
pub record Waiting : Type 0 where
  pub code : ℕ
  pub n : ℕ

-- the number or the refusal
abbrev pub waited : Result ℕ Refusal → Waiting
waited (Ok n) = record { code = 0; n = n }
waited (Err e) = record { code = code e; n = 0 }

-- The waiting time, given t and a partition: exactly the least n in 1..M such that a window of it, of either flag, starts at (t + n) mod M.
unfoldable pub waiting_of : Table → ℤ → ℤ → Waiting
waiting_of T t k = cond (waiting_refused T (field t) (field k)) (record { code = 13; n = 0 }) (record { code = 0; n = next_start T (number_of (field t)) (owned_by (number_of (field k))) })
