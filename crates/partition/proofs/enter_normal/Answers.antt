use mathlib.Core.Path.{sym, ◌∙◌}
use native.Mathlib.Omega.{arith}
use Rattle.machine.specs.Process.{entered}
use Rattle.machine.specs.Partition.{entered_normal}
use Rattle.machine.proofs.Folds.{each_more, each_done}
use Rattle.partition.proofs.enter_normal.Goals as goal

pub loop-k-preserved : goal.loop-k-preserved
loop-k-preserved c =
    let l = c.loop-k in
    rw (c.enter_process-q.ensures, c.from.ensures) (sym (each_more c.args.p.process_count l.k l.q (entered c.args.c) (omega arith)) ∙ l.invariant)

pub returns : goal.returns
unfolding entered_normal
returns c =
    let l = c.loop-k in
    sym (each_done c.args.p.process_count l.k l.q (entered c.args.c) (omega arith)) ∙ l.invariant
