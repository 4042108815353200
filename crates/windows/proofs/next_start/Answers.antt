use Prim.Native.Nat.{◌%◌, ◌<◌, ◌≤◌}
use mathlib.Core.Path.{sym, ◌∙◌}
use native.Mathlib.Omega.{arith}
use lib.ListN.{get_or}
use borrow.Author.Tests.{eq-eqb}
use Rattle.machine.specs.Windows.{no_window, next_start}
use Rattle.windows.specs.Sought.{sought}
use Rattle.windows.proofs.Laws.{search_found, search_more, search_passed, search_ends}
use Rattle.windows.proofs.next_start.Goals as goal
use Rattle.windows.proofs.next_start.Goals.{then-is_sought+else-x-start, else-is_sought}

pub returns-then-frame-eq0 : goal.returns-then-frame-eq0
unfolding next_start
returns-then-frame-eq0 c = rw (eq-eqb _ _ (sym c.from-frame.ensures ∙ c.if-frame-eq0.true))

pub returns-then-x-start : goal.returns-then-x-start
returns-then-x-start c =
    let a = c.args in
    let l = c.loop-w in
    let ws = c.held-w-items.result.now in
    let after : a.t % a.table.frame < (get_or ws l.w-index no_window).start = rw (c.from-frame.ensures, c.from-start.ensures) at c.if-x-start.true in
    rw (c.from-start.ensures, c.from-frame.ensures)
    (search_found a.table a.t (sought a.which) ws l.later l.w-index l.invariant c.held-w-items.ensures (λ z. c.if-frame-eq0.false (c.from-frame.ensures ∙ z)) (omega arith) (sym c.is_sought.ensures ∙ c.if-is_sought.true) after)

pub loop-w-preserved : goal.loop-w-preserved
loop-w-preserved c =
    let a = c.args in
    let l = c.loop-w in
    let ws = c.held-w-items.result.now in
    let is = c.is_sought.ensures in
    elim c.if-is_sought.branch [
      | then-is_sought+else-x-start w ↦ (
          let before : (get_or ws l.w-index no_window).start ≤ a.t % a.table.frame = rw (c.from-frame.ensures, w.from-start.ensures) at w.if-x-start.false in
          rw (w.later-is, w.or-later.ensures, w.from-start.ensures, c.from-frame.ensures)
          (search_passed a.table a.t (sought a.which) ws l.later l.w-index l.invariant (omega arith) (sym is ∙ w.if-is_sought.true) before)
          )
      | else-is_sought w ↦ rw w.later-is (search_more a.table a.t (sought a.which) ws l.later l.w-index l.invariant (omega arith) (sym is ∙ w.if-is_sought.false))
    ]

pub returns : goal.returns
returns c =
    let a = c.args in
    let l = c.loop-w in
    rw (c.unwrap_or.ensures, c.from-frame.ensures)
    (search_ends a.table a.t (sought a.which) c.held-w-items.result.now l.later l.w-index l.invariant c.held-w-items.ensures (λ z. c.if-frame-eq0.false (c.from-frame.ensures ∙ z)) (omega arith))
