-- Names (document 01, calls 2, 14 and 17; document 02, a): in every reached record two created processes of a partition that have one name are one and
-- the same, and so are two semaphores, events, buffers and blackboards.
use Rattle.std.specs.Prelude.{ℕ, ◌≡◌}
use Rattle.machine.specs.declared.Partition.{Partition}
use Rattle.machine.specs.declared.Module.{Module}
use Rattle.machine.specs.Partition.{process, semaphore, event, buffer, blackboard}
use Rattle.machine.specs.Theorems.Valid.{Between, Reached}
use Rattle.machine.specs.Theorems.Events.{own}

-- of the ids 1..count, no two have one name
abbrev pub Differ : (ℕ → ℕ) → ℕ → Type 0
Differ name_of count = (i j : ℕ) → Between 1 count i → Between 1 count j → name_of i ≡ name_of j → i ≡ j

-- names differ within the partition and the kind
pub record NamesDiffer (p : Partition) : Type 0 where
  pub processes : Differ (λ id. (process id p).given.name) p.process_count
  pub semaphores : Differ (λ j. (semaphore j p).name) p.semaphore_count
  pub events : Differ (λ j. (event j p).name) p.event_count
  pub buffers : Differ (λ j. (buffer j p).name) p.buffer_count
  pub blackboards : Differ (λ j. (blackboard j p).name) p.blackboard_count

-- every partition of every reached record
abbrev pub Names : Type 0
Names = (m : Module) → Reached m → (k : ℕ) → Between 1 m.table.size k → NamesDiffer (own m k)
