-- The preemption lock (document 02, e): what holds of it in every record that a run reaches, and that nothing but its two calls, STOP_SELF and a mode
-- change (`EachCall`) reaches it, as claims about `step` and about lists of events. The premises speak of an event's numbers, the table, the record, the
-- current partition and the running process.
use Rattle.machine.specs.Mode.{mode_number}
use Rattle.std.specs.Prelude.{ℕ, ◌≤◌, ◌<◌, ◌≡◌, Bool, true, List, [], ◌∷◌, ◌⊎◌, pos}
use Rattle.machine.specs.declared.Event.{Event as EventT}
use Rattle.machine.specs.declared.Partition.{Partition}
use Rattle.machine.specs.declared.Module.{Module}
use Rattle.machine.specs.Limits.{level_limit}
use Rattle.machine.specs.Process.{ready}
use Rattle.machine.specs.Partition.{process}
use Rattle.machine.specs.Module.{current, running_in}
use Rattle.machine.specs.Step.{step}
use Rattle.machine.specs.Runs.{keep, after}
use Rattle.machine.specs.Theorems.LeftRight.{common, Within, Closed}
use Rattle.machine.specs.Theorems.Valid.{Between, Reached}
use Rattle.machine.specs.Theorems.Events.{own}

-- ---------------------------------------------------------------- every reached record
pub record LockHolds (m : Module) (k : ℕ) : Type 0 where
  -- a level 0..16
  pub few : (own m k).level ≤ level_limit
  -- outside NORMAL the level is 0; at level 0 there is no holder
  pub outside : (mode_number (own m k).mode ≡ 3 → ⊥) → (own m k).level ≡ 0
  pub free : (own m k).level ≡ 0 → (own m k).holder ≡ 0
  -- a level above 0 has a READY holder, and it is the running process where its partition is current
  pub held : 0 < (own m k).level → ready (process (own m k).holder (own m k)) ≡ true
  pub runs : 0 < (own m k).level → current m ≡ k → running_in (current m) m ≡ (own m k).holder

-- ---------------------------------------------------------------- what reaches a lock
pub record SameLock (p q : Partition) : Type 0 where
  pub level : q.level ≡ p.level
  pub holder : q.holder ≡ p.holder

-- no call 1, 6, 32 or 33 of partition k: a tick, an event of another partition, or another call
abbrev pub NoLockCall : ℕ → EventT → Type 0
NoLockCall k e = e.partition ≡ pos k → (e.call ≡ pos 1 → ⊥) × (e.call ≡ pos 6 → ⊥) × (e.call ≡ pos 32 → ⊥) × (e.call ≡ pos 33 → ⊥)

-- the events of a list are such ones
unfoldable pub NoLockCalls : ℕ → List EventT → Type 0
NoLockCalls k [] = Unit {0}
NoLockCalls k (e ∷ es) = NoLockCall k e × NoLockCalls k es

-- the level is above 0 in the record, and after each event of the list
unfoldable pub LockedThroughout : ℕ → Module → List EventT → Type 0
LockedThroughout k m [] = 0 < (own m k).level
LockedThroughout k m (e ∷ es) = (0 < (own m k).level) × LockedThroughout k (step m e).state es

-- ---------------------------------------------------------------- the whole
pub record Locks : Type 0 where
  pub reached : (m : Module) → Reached m → (k : ℕ) → Between 1 m.table.size k → LockHolds m k
  -- the answer to an event of its partition, or of none, shows the holder
  pub shown : (m : Module) → Reached m → (e : EventT) (k : ℕ) → let q = (step m e).state in
      Between 1 m.table.size k → (e.partition ≡ pos 0) ⊎ (e.partition ≡ pos k) → current q ≡ k → 0 < (own q k).level
      → (step m e).answer.running ≡ (own q k).holder
  -- over every list of events the holder stays while the level is above 0, also where it locks further and unlocks
  pub held : (m : Module) → Reached m → (k : ℕ) → Between 1 m.table.size k → (es : List EventT) → LockedThroughout k m es → (own (after m es) k).holder ≡ (own m k).holder
  -- no other event reaches the lock of a partition, whatever it does to priorities and arrivals: with `reached`, the holder is READY, and it is the
  -- running process where its partition is current, after the whole list
  pub kept : (m : Module) → Reached m → (k : ℕ) → Between 1 m.table.size k → (es : List EventT) → NoLockCalls k es → SameLock (own m k) (own (after m es) k)
  -- Neighbours outside a closed set can't reach its levels: two runs that differ in their calls alone agree on them (of Left and Right, whose
  -- claim is of every field)
  pub apart : (m : Module) (S : ℕ → Bool) → Within m.table S → Closed m.table S → (left right : List EventT) → keep (common S) left ≡ keep (common S) right
      → (k : ℕ) → S k ≡ true → SameLock (own (after m left) k) (own (after m right) k)
