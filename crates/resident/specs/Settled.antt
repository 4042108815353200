-- A module one of whose partitions lies elsewhere.
use Rattle.std.specs.Prelude.{ℕ, set}
use Rattle.machine.specs.declared.Module.{Module}
use Rattle.machine.specs.declared.Partition.{Partition}

-- the module, where its partition at this place is p
abbrev pub settled : ℕ → Partition → Module → Module
settled i p m = record { table = m.table; t = m.t; messages = m.messages; queues = m.queues; partitions = set m.partitions i p }
