use mathlib.Core.Path.{◌≡◌}
use mathlib.Core.List.{map}
use lib.ListN.{take}
use Rattle.machine.specs.Messages.{queue_of}
use Rattle.machine.specs.Process.{carried}
use Rattle.machine.specs.Partition.{process}
use Rattle.partition.proofs.waiting_messages.Given as goal

abbrev pub invariant-loop-id : goal.invariant-loop-id
invariant-loop-id l = l.q ≡ queue_of (map (λ id. carried (process id l.p)) (take l.id-index l.id-items))
