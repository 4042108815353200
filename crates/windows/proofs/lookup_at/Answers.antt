use Prim.Native.Nat.{◌%◌}
use mathlib.Core.Path.{◌≡◌, sym, ◌∙◌}
use mathlib.Core.Bool.{true, false}
use native.Mathlib.Omega.{arith}
use lib.ListN.{get_or}
use borrow.Author.Tests.{eq-eqb, ne_eqb}
use Rattle.machine.specs.Windows.{no_window, any_window, covers, next_start, lookup}
use Rattle.windows.proofs.Laws.{covering_here, covering_more, covering_done}
use Rattle.windows.proofs.lookup_at.Goals as goal

pub returns-then-frame-eq0 : goal.returns-then-frame-eq0
unfolding lookup
returns-then-frame-eq0 c = rw (eq-eqb _ _ (sym c.from-frame.ensures ∙ c.if-frame-eq0.true))

pub returns-then-does_cover : goal.returns-then-does_cover
unfolding lookup
returns-then-does_cover c =
    let a = c.args in
    let l = c.loop-w in
    let ws = c.held-w-items.result.now in
    let x = a.t % a.table.frame in
    let gap = next_start a.table a.t any_window in
    let on : covers (get_or ws l.w-index no_window) x ≡ true = rw c.from-frame.ensures at (sym c.does_cover.ensures ∙ c.if-does_cover.true) in
    rw (c.from.ensures, c.from-then-does_cover.ensures, c.from-frame.ensures, ne_eqb _ _ (λ z. c.if-frame-eq0.false (c.from-frame.ensures ∙ z)), ← c.held-w-items.ensures)
    (sym (covering_here ws l.w-index x gap (omega arith) on) ∙ l.invariant)

pub loop-w-preserved : goal.loop-w-preserved
loop-w-preserved c =
    let a = c.args in
    let l = c.loop-w in
    let ws = c.held-w-items.result.now in
    let x = a.t % a.table.frame in
    let off : covers (get_or ws l.w-index no_window) x ≡ false = rw c.from-frame.ensures at (sym c.does_cover.ensures ∙ c.if-does_cover.false) in
    sym (covering_more ws l.w-index x (next_start a.table a.t any_window) (omega arith) off) ∙ l.invariant

pub returns : goal.returns
unfolding lookup
returns c =
    let a = c.args in
    let l = c.loop-w in
    let ws = c.held-w-items.result.now in
    let x = a.t % a.table.frame in
    let gap = next_start a.table a.t any_window in
    rw (c.next_start.ensures, ne_eqb _ _ (λ z. c.if-frame-eq0.false (c.from-frame.ensures ∙ z)), ← c.held-w-items.ensures)
    (sym (covering_done ws l.w-index x gap (omega arith)) ∙ l.invariant)
