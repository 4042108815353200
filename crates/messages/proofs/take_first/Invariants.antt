use mathlib.Core.Path.{◌≡◌}
use lib.ListN.{take}
use Rattle.machine.specs.Messages.{queue_of}
use Rattle.messages.proofs.take_first.Given as goal

abbrev pub invariant-loop-m : goal.invariant-loop-m
invariant-loop-m l = l.rest ≡ queue_of (take l.m-index l.later)
