-- Every limit of documents 01 and 02, as the constants of `Module` name them, and the bounds of the record's numbers.
use Rattle.std.specs.Prelude.{ℕ}

-- Module::PROCESSES
abbrev pub process_limit : ℕ
process_limit = 16

-- Module::SEMAPHORES
abbrev pub semaphore_limit : ℕ
semaphore_limit = 8

-- Module::EVENTS
abbrev pub event_limit : ℕ
event_limit = 8

-- Module::BUFFERS
abbrev pub buffer_limit : ℕ
buffer_limit = 8

-- Module::MESSAGES
abbrev pub message_limit : ℕ
message_limit = 16

-- Module::BLACKBOARDS
abbrev pub blackboard_limit : ℕ
blackboard_limit = 8

-- Module::NAME
abbrev pub name_limit : ℕ
name_limit = 255

-- Module::PRIORITY
abbrev pub priority_limit : ℕ
priority_limit = 239

-- Module::VALUE
abbrev pub value_limit : ℕ
value_limit = 32767

-- Module::MODE
abbrev pub mode_limit : ℕ
mode_limit = 3

-- Module::CALL
abbrev pub call_limit : ℕ
call_limit = 34

-- Module::LEVEL
abbrev pub level_limit : ℕ
level_limit = 16

-- Module::DURATION
abbrev pub duration_limit : ℕ
duration_limit = 9999999

-- Module::END
abbrev pub time_limit : ℕ
time_limit = 99999999

-- Module::FRAME
abbrev pub frame_limit : ℕ
frame_limit = 10000

-- Module::PARTITIONS
abbrev pub partition_limit : ℕ
partition_limit = 8

-- Module::WINDOWS
abbrev pub window_limit : ℕ
window_limit = 32

-- Module::CHANNELS
abbrev pub channel_limit : ℕ
channel_limit = 16

-- Module::SIZE
abbrev pub size_limit : ℕ
size_limit = 8

-- Module::NUMBER
abbrev pub number_limit : ℕ
number_limit = 999999999

-- Module::LINE
abbrev pub line_length : ℕ
line_length = 61

-- no limit of document 01: the greatest time that the record can hold, where sums of times stop
abbrev pub greatest_time : ℕ
greatest_time = 4294967295

-- no limit of document 01: the greatest semaphore value that the record can hold
abbrev pub greatest_value : ℕ
greatest_value = 65535
