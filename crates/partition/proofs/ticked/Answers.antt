use Prim.Native.Nat.{◌+◌}
use mathlib.Core.Path.{◌≡◌, refl, sym, ◌∙◌}
use native.Mathlib.Omega.{arith}
use borrow.Author.Tests.{ne_eqb, not-true, not-false}
use Rattle.machine.specs.Limits.{process_limit}
use Rattle.machine.specs.Process.{ticked}
use Rattle.machine.specs.Partition.{tick_partition, process, stored}
use Rattle.machine.proofs.Folds.{each_more, each_done}
use Rattle.partition.specs.Places.{slot_of}
use Rattle.partition.proofs.Laws.{untouched, read_in, read_out}
use Rattle.partition.proofs.ticked.Goals as goal
use Rattle.partition.proofs.ticked.Goals.{then-is_touched, else-is_touched, then-i-lt-PROCESSES, else-i-lt-PROCESSES}

pub returns-then-not-is_normal : goal.returns-then-not-is_normal
unfolding tick_partition
returns-then-not-is_normal c = rw (← c.is_normal.ensures, not-true _ c.if-not-is_normal.true-raw)

pub loop-k-preserved : goal.loop-k-preserved
loop-k-preserved c =
    let l = c.loop-k in
    let t = c.args.t in
    let place : c.from-i.result ≡ slot_of process_limit (l.k + 1) = rw (ne_eqb (l.k + 1) 0 (λ z. omega arith)) (omega (arith, c.from-i.ensures)) in
    let x : c.if-i-lt-PROCESSES.x ≡ process (l.k + 1) l.q = elim c.if-i-lt-PROCESSES.branch [
      | then-i-lt-PROCESSES w ↦ w.x-is ∙ read_in (l.k + 1) c.from-i.result l.q _ place w.if-i-lt-PROCESSES.true refl
      | else-i-lt-PROCESSES w ↦ read_out (l.k + 1) c.from-i.result l.q _ place w.if-i-lt-PROCESSES.false (w.x-is ∙ c.blank-x.ensures)
    ] in
    let next : c.if-is_touched.q ≡ stored (l.k + 1) (ticked t (process (l.k + 1) l.q)) l.q = elim c.if-is_touched.branch [
      | then-is_touched w ↦ w.q-is ∙ rw (w.store-q.ensures, w.tick.ensures, w.from.ensures, x)
      | else-is_touched w ↦ w.q-is ∙ sym (untouched t _ _ l.q x (sym c.is_touched.ensures ∙ w.if-is_touched.false))
    ] in
    rw next (sym (each_more c.args.p.process_count l.k l.q (ticked t) (omega arith)) ∙ l.invariant)

pub returns : goal.returns
unfolding tick_partition
returns c =
    let l = c.loop-k in
    rw (← c.is_normal.ensures, not-false _ c.if-not-is_normal.false-raw) (sym (each_done c.args.p.process_count l.k l.q (ticked c.args.t) (omega arith)) ∙ l.invariant)
