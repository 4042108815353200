use mathlib.Core.Path.{◌≡◌}
use lib.ListN.{take}
use Rattle.machine.specs.Ids.{ids_of, kept}
use Rattle.lists.proofs.keep.Given as goal

abbrev pub invariant-loop-id : goal.invariant-loop-id
invariant-loop-id g l = l.found ≡ ids_of (kept (g.T.Test.passes l.fn.test l.fn.known) (take l.id-index l.id-items))
