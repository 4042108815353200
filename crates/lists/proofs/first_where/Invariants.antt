use mathlib.Core.Path.{◌≡◌}
use lib.ListN.{drop, get_or}
use Rattle.machine.specs.Ids.{members, kept}
use Rattle.lists.proofs.first_where.Given as goal

abbrev pub invariant-loop-id : goal.invariant-loop-id
invariant-loop-id g l =
    let f = g.T.Test.passes l.fn.test l.fn.known in
    get_or (kept f (members l.fn.q)) 0 0 ≡ get_or (kept f (drop l.id-index l.id-items)) 0 0
