use borrow.Author.Tests.{eq-eqb, le-ltb}
use Rattle.machine.specs.Ids.{members}
use Rattle.resident.proofs.Laws.{chosen_by-fold}
use Rattle.resident.proofs.running.Goals as goal

pub returns : goal.returns
returns c =
    let a = c.args in
    rw (eq-eqb _ _ c.if-mode-ne3.false, le-ltb _ _ c.if-level-gt0.false, chosen_by-fold a.currents.now (record { id = 0; priority = 0 }) (members a.arrival))
    c.greatest.ensures
