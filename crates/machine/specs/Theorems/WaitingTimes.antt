-- The waiting time (document 02, g), asked outside events: what it is in every record that a run reaches, when it is refused, and what it says
-- of every list of events. The premises speak of t and the partition as numbers, the table, the record and the current partition.
use Rattle.std.specs.Prelude.{ℕ, ◌+◌, ◌-◌, ◌%◌, ◌≤◌, ◌<◌, ◌≡◌, true, false, ◌&&◌, List, [], ◌∷◌, map, ℤ, pos}
use Rattle.machine.specs.declared.Event.{Event as EventT}
use Rattle.machine.specs.declared.Module.{Module}
use Rattle.machine.specs.declared.Table.{Table}
use Rattle.machine.specs.Limits.{time_limit}
use Rattle.machine.specs.Windows.{windows, waiting_of}
use Rattle.machine.specs.Theorems.Starts.{starts_at, WaitingTime}
use Rattle.machine.specs.Module.{current}
use Rattle.machine.specs.Table.{read_table}
use Rattle.machine.specs.Runs.{after}
use Rattle.machine.specs.Theorems.Valid.{Between, Reached}
use Rattle.machine.specs.Theorems.Plain.{plain_between}
use Rattle.machine.specs.Theorems.Examples.{text, two_windows}

-- the waiting time of partition k, asked at the record's own time
abbrev pub waiting_now : Module → ℕ → ℕ
waiting_now m k = (waiting_of m.table (pos m.t) (pos k)).n

-- the table of releases inside a frame: partition 1 has windows from 0, from 3 without flag 1 and from 5, partition 2 from 4, M is 10
pub record WaitingExample : Type 0 where
  pub first : let T = (read_table (text two_windows)).state.table in
      map (λ (t : ℕ). (waiting_of T (pos t) (pos 1)).n) (0 ∷ 2 ∷ 3 ∷ 5 ∷ 9 ∷ 10 ∷ []) ≡ 3 ∷ 1 ∷ 2 ∷ 5 ∷ 1 ∷ 3 ∷ []
  pub second : let T = (read_table (text two_windows)).state.table in
      map (λ (t : ℕ). (waiting_of T (pos t) (pos 2)).n) (0 ∷ 3 ∷ 4 ∷ 5 ∷ 14 ∷ []) ≡ 4 ∷ 1 ∷ 10 ∷ 9 ∷ 10 ∷ []

pub record WaitingTimes : Type 0 where
  -- t in 0..99,999,999 and a partition in 1..P: code 0 and the least n in 1..M such that a window of it starts at (t + n) mod M
  pub given : (m : Module) → Reached m → (t k : ℕ) → let w = waiting_of m.table (pos t) (pos k) in
      t ≤ time_limit → Between 1 m.table.size k → (w.code ≡ 0) × WaitingTime m.table k t w.n
  -- there is one such number only
  pub one : (T : Table) (k t n u : ℕ) → WaitingTime T k t n → WaitingTime T k t u → n ≡ u
  -- 13, with n 0, for t or partition out of range; the empty record has no partition
  pub refused : (m : Module) → Reached m → (t k : ℤ) → (plain_between 0 time_limit t && plain_between 1 m.table.size k) ≡ false
      → waiting_of m.table t k ≡ record { code = 13; n = 0 }
  -- no event changes what is given
  pub steady : (m : Module) (es : List EventT) (t k : ℤ) → waiting_of (after m es).table t k ≡ waiting_of m.table t k
  -- over every list of events, with n the waiting time before it: asked j ticks later, j < n, it is n − j
  pub nearer : (m : Module) → Reached m → (k : ℕ) → Between 1 m.table.size k → (es : List EventT) (j : ℕ) → let q = after m es in
      q.t ≡ m.t + j → j < waiting_now m k → waiting_now q k ≡ waiting_now m k - j
  -- until then a partition that is not current does not become so
  pub sleeps : (m : Module) → Reached m → (k : ℕ) → Between 1 m.table.size k → (es : List EventT) (j : ℕ) → let q = after m es in
      (current m ≡ k → ⊥) → q.t ≡ m.t + j → j < waiting_now m k → current q ≡ k → ⊥
  -- and n ticks later a window of the partition starts, and it is current
  pub comes : (m : Module) → Reached m → (k : ℕ) → Between 1 m.table.size k → (es : List EventT) → let q = after m es in
      q.t ≡ m.t + waiting_now m k → (starts_at k (q.t % m.table.frame) (windows m.table) ≡ true) × (current q ≡ k)
  pub example : WaitingExample
