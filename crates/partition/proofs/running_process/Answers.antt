use borrow.Author.Tests.{not-true, not-false, lt-ltb, le-ltb}
use Rattle.machine.specs.Ids.{members}
use Rattle.machine.specs.Partition.{running}
use Rattle.partition.proofs.Laws.{chosen-fold}
use Rattle.partition.proofs.running_process.Goals as goal

pub returns-then-not-is_normal : goal.returns-then-not-is_normal
unfolding running
returns-then-not-is_normal c = rw (← c.is_normal.ensures, not-true _ c.if-not-is_normal.true-raw)

pub returns-then-p-gt0 : goal.returns-then-p-gt0
unfolding running
returns-then-p-gt0 c = rw (← c.is_normal.ensures, not-false _ c.if-not-is_normal.false-raw, lt-ltb _ _ c.if-p-gt0.true)

pub returns : goal.returns
unfolding running
returns c =
    let p = c.args.p in
    rw (← c.is_normal.ensures, not-false _ c.if-not-is_normal.false-raw, le-ltb _ _ c.if-p-gt0.false, chosen-fold p (record { id = 0; priority = 0 }) (members p.arrival))
    c.greatest.ensures
