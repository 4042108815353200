use mathlib.Core.Path.{◌≡◌}
use Rattle.machine.specs.Channels.{refilled_to}
use Rattle.queuing.proofs.refill.Given as goal

abbrev pub invariant-loop-i : goal.invariant-loop-i
invariant-loop-i l = l.r ≡ refilled_to l.k l.i l.initial.r
