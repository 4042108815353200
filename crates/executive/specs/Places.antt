-- The places of a module's arrays, of which a loan does not tell.
use Rattle.std.specs.Prelude.{◌≡◌, length}
use Rattle.machine.specs.Limits.{partition_limit, channel_limit}
use Rattle.machine.specs.declared.Module.{Module}

-- each array has the length of its type
pub record HasPlaces (m : Module) : Type 0 where
  pub channels : length m.table.channels ≡ channel_limit
  pub messages : length m.messages ≡ channel_limit
  pub queues : length m.queues ≡ channel_limit
  pub partitions : length m.partitions ≡ partition_limit
