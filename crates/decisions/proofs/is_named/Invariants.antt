use Rattle.std.proofs.Common.{◌≡◌, drop}
use Rattle.machine.specs.Decisions.{name_taken}
use Rattle.decisions.proofs.is_named.Given as goal

abbrev pub invariant-loop-x : goal.invariant-loop-x
invariant-loop-x g l = name_taken g.T.Named.name l.name (drop l.x-index l.created) ≡ name_taken g.T.Named.name l.name l.created
