use mathlib.Core.Path.{◌≡◌}
use Rattle.machine.specs.Channels.{kept_to}
use Rattle.channels.proofs.erase_into.Given as goal

abbrev pub invariant-loop-i : goal.invariant-loop-i
invariant-loop-i l = l.messages ≡ kept_to l.table l.k l.i l.initial.messages
