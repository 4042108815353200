-- `all_flagged` meets its contract. The loops: the partitions from k on are left, and of partition k the windows from w on.
use mathlib.Core.Path.{refl, sym, ap, ◌∙◌}
use native.Mathlib.Omega.{arith}
use Rattle.machine.specs.Windows.{windows}
use Rattle.machine.specs.Table.{has_flagged}
use Rattle.table.proofs.Laws.{window_found, window_passed, window_missing, partition_flagged, partition_unflagged, partitions_end, last_flagged}
use Rattle.table.proofs.all_flagged.Goals as goal

pub partitions-preserved : goal.partitions-preserved
partitions-preserved c =
    let a = c.args in
    let p = c.partitions in
    let ws = c.held-w-items.result.now in
    partition_flagged p.k _ _ (windows a.t) refl _ p.invariant (omega arith)
    (ap (has_flagged p.k) (sym c.held-w-items.ensures) ∙ window_found ws p.k c.loop-w.w-index (omega arith) _ c.is_flagged.ensures c.if-is_flagged.true c.loop-w.invariant)

pub loop-w-preserved : goal.loop-w-preserved
loop-w-preserved c = window_passed c.held-w-items.result.now c.partitions.k c.loop-w.w-index (omega arith) _ c.is_flagged.ensures c.if-is_flagged.false c.loop-w.invariant

pub returns-in-partitions : goal.returns-in-partitions
returns-in-partitions c =
    let a = c.args in
    let p = c.partitions in
    let ws = c.held-w-items.result.now in
    partition_unflagged p.k _ _ (windows a.t) refl _ p.invariant (omega arith)
    (ap (has_flagged p.k) (sym c.held-w-items.ensures) ∙ window_missing ws p.k c.loop-w.w-index (omega arith) c.loop-w.invariant)

pub returns : goal.returns
returns c = partitions_end c.partitions.k _ _ (windows c.args.t) refl _ c.partitions.invariant c.partitions-test.false

pub returns-then-is_flagged : goal.returns-then-is_flagged
returns-then-is_flagged c =
    let a = c.args in
    let p = c.partitions in
    let ws = c.held-w-items.result.now in
    last_flagged p.k _ _ (windows a.t) refl _ p.invariant (omega arith) (omega arith)
    (ap (has_flagged p.k) (sym c.held-w-items.ensures) ∙ window_found ws p.k c.loop-w.w-index (omega arith) _ c.is_flagged.ensures c.if-is_flagged.true c.loop-w.invariant)
