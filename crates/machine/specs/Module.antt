-- The module: records with nothing in them, reading the record, and the only four ways to change it.
use Rattle.machine.specs.declared.Mode.TheVariants.{Idle}
use Rattle.std.specs.Prelude.{Option}
use Rattle.std.specs.Prelude.{ℕ, ◌-◌, cond, List, [], get_or, set, replicate, eqb}
use Rattle.machine.specs.declared.Partition.{Partition}
use Rattle.machine.specs.Limits.{partition_limit, window_limit, channel_limit}
use Rattle.machine.specs.Partition.{running, fresh_partition, empty_partition}
use Rattle.machine.specs.declared.Channel.{Channel}
use Rattle.machine.specs.declared.Table.{Table}
use Rattle.machine.specs.declared.Message.{Message}
use Rattle.machine.specs.declared.Queue.{Queue}
use Rattle.machine.specs.declared.Module.{Module}
use Rattle.machine.specs.Messages.{no_queue}
use Rattle.machine.specs.Decisions.{no_message}
use Rattle.machine.specs.declared.Lookup.{Lookup}
use Rattle.machine.specs.Windows.{no_window, lookup}

abbrev pub no_channel : Channel
no_channel = record { source = 0; destination = 0; refresh = 0; size = 0 }

-- what stands past the end of a list of partitions
abbrev pub no_partition : Partition
no_partition = record {
  mode = Idle;
  level = 0;
  holder = 0;
  processes = [];
  process_count = 0;
  semaphores = [];
  semaphore_count = 0;
  events = [];
  event_count = 0;
  buffers = [];
  buffer_count = 0;
  blackboards = [];
  blackboard_count = 0;
  arrival = record { items = []; len = 0 };
  waiting = record { items = []; len = 0 };
}

unfoldable pub empty_table : Table
empty_table = record {
  frame = 0;
  size = 0;
  windows = replicate window_limit no_window;
  window_count = 0;
  channels = replicate channel_limit no_channel;
  channel_count = 0;
}

-- no module: an empty record, M, P and all else 0
unfoldable pub empty_module : Module
empty_module = record { table = empty_table; t = 0; messages = replicate channel_limit no_message; queues = replicate channel_limit no_queue; partitions = replicate partition_limit empty_partition }

-- the record that reading the table gives: t 0, every partition in mode 1 with nothing created, no message
unfoldable pub fresh_module : Table → Module
fresh_module T = record { table = T; t = 0; messages = replicate channel_limit no_message; queues = replicate channel_limit no_queue; partitions = replicate partition_limit fresh_partition }

-- channel number i + 1
abbrev pub channel : Table → ℕ → Channel
channel T i = get_or T.channels i no_channel

-- partition number i + 1, and the message and the queue of messages on channel number i + 1
abbrev pub part : Module → ℕ → Partition
part m i = get_or m.partitions i no_partition

abbrev pub message : Module → ℕ → Option Message
message m i = get_or m.messages i no_message

abbrev pub queue : Module → ℕ → Queue
queue m i = get_or m.queues i no_queue

-- the window lookup at t: the current partition, and the ticks left
abbrev pub window : Module → Lookup
window m = lookup m.table m.t

abbrev pub current : Module → ℕ
current m = (window m).partition

abbrev pub ticks_left : Module → ℕ
ticks_left m = (window m).left

abbrev pub running_in : ℕ → Module → ℕ
running_in k m = cond (eqb k 0) 0 (running (part m (k - 1)))

abbrev pub with_part : ℕ → Partition → Module → Module
with_part i p m = record { table = m.table; t = m.t; messages = m.messages; queues = m.queues; partitions = set m.partitions i p }

abbrev pub with_messages : List (Option Message) → Module → Module
with_messages l m = record { table = m.table; t = m.t; messages = l; queues = m.queues; partitions = m.partitions }

abbrev pub with_message : ℕ → Option Message → Module → Module
with_message i x m = with_messages (set m.messages i x) m

abbrev pub with_queue : ℕ → Queue → Module → Module
with_queue i q m = record { table = m.table; t = m.t; messages = m.messages; queues = set m.queues i q; partitions = m.partitions }

abbrev pub with_time : ℕ → Module → Module
with_time t m = record { table = m.table; t = t; messages = m.messages; queues = m.queues; partitions = m.partitions }
