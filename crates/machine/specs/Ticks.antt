-- The tick of a module.
use Rattle.std.specs.Prelude.{ℕ, ◌+◌, zero, suc, cond, leb}
use Rattle.machine.specs.Limits.{partition_limit}
use Rattle.machine.specs.Partition.{tick_partition}
use Rattle.machine.specs.declared.Table.{Table}
use Rattle.machine.specs.declared.Module.{Module}
use Rattle.machine.specs.Module.{part, with_part, with_time}

-- partition number i + 1 at a tick
unfoldable pub tick_at : ℕ → Module → Module
tick_at i m = with_part i (tick_partition m.t (part m i)) m

-- the first n partitions
unfoldable pub tick_to : ℕ → Module → Module
tick_to zero m = m
tick_to (suc n) m = tick_at n (tick_to n m)

-- bound: there are at most 8 partitions
abbrev pub partition_count : Table → ℕ
partition_count T = cond (leb T.size partition_limit) T.size partition_limit

-- t rises by one; in each NORMAL partition, processes by ascending id
abbrev pub tick_module : Module → Module
tick_module m = tick_to (partition_count m.table) (with_time (m.t + 1) m)
