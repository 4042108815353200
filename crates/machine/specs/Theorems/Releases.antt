-- Which start releases a periodic process: laws beside the proved list, for every reached record in which a call of partition k comes to
-- its body. M, t and the windows are those of the record; q is t div M, x is t mod M.
use Rattle.machine.specs.Mode.{mode_number}
use Rattle.std.specs.Prelude.{ℕ, ◌+◌, ◌*◌, ◌/◌, ◌%◌, ◌≤◌, ◌<◌, ◌≡◌, true, false, length, get_or, pos}
use Rattle.machine.specs.declared.Module.{Module}
use Rattle.machine.specs.declared.Table.{Table}
use Rattle.std.specs.Prelude.{Some}
use Rattle.machine.specs.Partition.{process}
use Rattle.machine.specs.Step.{step}
use Rattle.machine.specs.Theorems.Valid.{Between}
use Rattle.machine.specs.Windows.{windows, no_window, release_point}
use Rattle.machine.specs.Theorems.Starts.{WindowAt, NextFlagged, Release}
use Rattle.machine.specs.Theorems.Events.{own, call_by}
use Rattle.machine.specs.Theorems.Starred.{ReleasesAt}

-- s is the first in the frame of the starts of windows of partition k with flag 1, the last of them
abbrev pub FirstFlagged : Table → ℕ → ℕ → Type 0
FirstFlagged T k s = WindowAt T k true s × ((y : ℕ) → WindowAt T k true y → s ≤ y)

abbrev pub LastFlagged : Table → ℕ → ℕ → Type 0
LastFlagged T k s = WindowAt T k true s × ((y : ℕ) → WindowAt T k true y → y ≤ s)

pub record Releases (m : Module) (k : ℕ) : Type 0 where
  -- there is an earliest start, which is the machine's release point, and one only
  pub some : Release m.table k m.t (release_point m.table m.t k)
  pub one : (r s : ℕ) → Release m.table k m.t r → Release m.table k m.t s → r ≡ s
  -- it lies in this frame or in the next one, M ticks ahead at most
  pub near : (r : ℕ) → Release m.table k m.t r → r ≤ m.t + m.table.frame
  -- t exactly at a flagged start: the next one counts, in this frame
  pub at_start : (s next : ℕ) → let T = m.table in
      let q = m.t / T.frame in
      let x = m.t % T.frame in
      WindowAt T k true s → x ≡ s → NextFlagged T k x next → ReleasesAt m k (q * T.frame + next)
  -- and at or after the frame's last one, the first of the next frame
  pub at_last : (s first : ℕ) → let T = m.table in
      let q = m.t / T.frame in
      let x = m.t % T.frame in
      LastFlagged T k s → s ≤ x → FirstFlagged T k first → ReleasesAt m k ((q + 1) * T.frame + first)
  -- a single flagged window, t mod M at or past its start: the next frame's
  pub single : (s : ℕ) → let T = m.table in
      let q = m.t / T.frame in
      let x = m.t % T.frame in
      WindowAt T k true s → ((y : ℕ) → WindowAt T k true y → y ≡ s) → s ≤ x → ReleasesAt m k ((q + 1) * T.frame + s)
  -- windows without the flag are passed over: one that starts before the next flagged one
  pub passed_over : (u s : ℕ) → let T = m.table in
      let q = m.t / T.frame in
      let x = m.t % T.frame in
      WindowAt T k false u → x < u → u < s → NextFlagged T k x s → ReleasesAt m k (q * T.frame + s)
  -- and whichever window starts where START has put the release, it is the partition's and has flag 1
  pub window : (id n r i : ℕ) → let T = m.table in
      let p = own m k in
      let e = call_by k 3 (pos id) (pos 0) (pos 0) (pos 0) in
      mode_number p.mode ≡ 3 → Between 1 p.process_count id → (process id p).started ≡ false → (process id p).given.period ≡ Some n
      → (process id (own (step m e).state k)).times.release ≡ Some r → i < length (windows T) → (get_or (windows T) i no_window).start ≡ r % T.frame
      → ((get_or (windows T) i no_window).partition ≡ k) × ((get_or (windows T) i no_window).flag ≡ true)
