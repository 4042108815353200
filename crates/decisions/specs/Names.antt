-- The names of what a partition creates.
use Rattle.std.specs.Prelude.{ℕ}
use Rattle.machine.specs.declared.Process.{Process}
use Rattle.machine.specs.declared.Semaphore.{Semaphore}
use Rattle.machine.specs.declared.EventState.{EventState}
use Rattle.machine.specs.declared.Buffer.{Buffer}
use Rattle.machine.specs.declared.Blackboard.{Blackboard}

abbrev pub process_name : Process → ℕ
process_name x = x.given.name

abbrev pub semaphore_name : Semaphore → ℕ
semaphore_name x = x.name

abbrev pub event_name : EventState → ℕ
event_name x = x.name

abbrev pub buffer_name : Buffer → ℕ
buffer_name x = x.name

abbrev pub blackboard_name : Blackboard → ℕ
blackboard_name x = x.name
