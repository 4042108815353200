use mathlib.Core.Path.{◌≡◌}
use Rattle.std.proofs.Common.{fold}
use lib.ListN.{drop}
use Rattle.machine.specs.Ids.{members}
use Rattle.machine.specs.Partition.{preferred}
use Rattle.lists.proofs.greatest.Given as goal

abbrev pub invariant-loop-id : goal.invariant-loop-id
invariant-loop-id g l =
    let f = g.P.Priority.priority l.fn.by l.fn.known in
    fold (λ c id. preferred c id (f id)) l.best (drop l.id-index l.id-items) ≡ fold (λ c id. preferred c id (f id)) l.initial.best (members l.fn.q)
