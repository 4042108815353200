-- What the code asks of a decision, for the contracts of `decisions`. The machine asks none of it.
use Rattle.machine.specs.declared.Mode.TheVariants.{Idle}
use Rattle.machine.specs.declared.Mode.{Mode}
use Rattle.std.specs.Prelude.{Option, Some}
use Rattle.std.specs.Prelude.{ℕ, Bool, true, false}
use Rattle.machine.specs.declared.Change.{Change}
use Rattle.machine.specs.declared.Change.TheVariants.{Nothing, Stored}
use Rattle.machine.specs.declared.Message.{Message}
use Rattle.machine.specs.declared.Transfer.{Transfer}
use Rattle.machine.specs.declared.Transfer.TheVariants.{Taken}
use Rattle.machine.specs.declared.Decision.{Decision}
use Rattle.machine.specs.declared.Decision.TheVariants.{Refused, Unchanged, Ticked, Blocked, Changed, Restarted, Written, Passed}
use Rattle.machine.specs.Limits.{channel_limit}
use Rattle.machine.specs.Decisions.{no_message}

-- it changes the caller's partition
abbrev pub changes : Decision → Bool
changes (Refused code) = false
changes (Unchanged value extra) = false
changes Ticked = false
changes (Blocked id x) = true
changes (Changed a b value) = true
changes (Restarted mode) = true
changes (Written i x) = false
changes (Passed i a value) = false

-- modes 0, 1, 2
abbrev pub restarts : Decision → Bool
restarts (Refused code) = false
restarts (Unchanged value extra) = false
restarts Ticked = false
restarts (Blocked id x) = false
restarts (Changed a b value) = false
restarts (Restarted mode) = true
restarts (Written i x) = false
restarts (Passed i a value) = false

-- the mode then
abbrev pub mode_of : Decision → Mode
mode_of (Refused code) = Idle
mode_of (Unchanged value extra) = Idle
mode_of Ticked = Idle
mode_of (Blocked id x) = Idle
mode_of (Changed a b value) = Idle
mode_of (Restarted mode) = mode
mode_of (Written i x) = Idle
mode_of (Passed i a value) = Idle

-- the two changes that it makes otherwise, in order
abbrev pub first_change : Decision → Change
first_change (Refused code) = Nothing
first_change (Unchanged value extra) = Nothing
first_change Ticked = Nothing
first_change (Blocked id x) = Stored id x
first_change (Changed a b value) = a
first_change (Restarted mode) = Nothing
first_change (Written i x) = Nothing
first_change (Passed i a value) = Nothing

abbrev pub second_change : Decision → Change
second_change (Refused code) = Nothing
second_change (Unchanged value extra) = Nothing
second_change Ticked = Nothing
second_change (Blocked id x) = Nothing
second_change (Changed a b value) = b
second_change (Restarted mode) = Nothing
second_change (Written i x) = Nothing
second_change (Passed i a value) = Nothing

-- the place of the channel on which it leaves a message; past the last for none
abbrev pub message_at : Decision → ℕ
message_at (Refused code) = channel_limit
message_at (Unchanged value extra) = channel_limit
message_at Ticked = channel_limit
message_at (Blocked id x) = channel_limit
message_at (Changed a b value) = channel_limit
message_at (Restarted mode) = channel_limit
message_at (Written i x) = i
message_at (Passed i a value) = channel_limit

-- the message that it leaves there
abbrev pub message_of : Decision → Option Message
message_of (Refused code) = no_message
message_of (Unchanged value extra) = no_message
message_of Ticked = no_message
message_of (Blocked id x) = no_message
message_of (Changed a b value) = no_message
message_of (Restarted mode) = no_message
message_of (Written i x) = Some x
message_of (Passed i a value) = no_message

-- the place of the channel on which it makes a transfer; past the last for none
abbrev pub transfer_at : Decision → ℕ
transfer_at (Refused code) = channel_limit
transfer_at (Unchanged value extra) = channel_limit
transfer_at Ticked = channel_limit
transfer_at (Blocked id x) = channel_limit
transfer_at (Changed a b value) = channel_limit
transfer_at (Restarted mode) = channel_limit
transfer_at (Written i x) = channel_limit
transfer_at (Passed i a value) = i

-- the transfer that it makes there
abbrev pub transfer_of : Decision → Transfer
transfer_of (Refused code) = Taken
transfer_of (Unchanged value extra) = Taken
transfer_of Ticked = Taken
transfer_of (Blocked id x) = Taken
transfer_of (Changed a b value) = Taken
transfer_of (Restarted mode) = Taken
transfer_of (Written i x) = Taken
transfer_of (Passed i a value) = a
