-- `read` meets its contract. The loop: the numbers so far, ahead of what is left to read, are what the line reads as.
use lib.ListN.{length-set}
use Rattle.line.proofs.Meaning.{means}
use Rattle.line.proofs.Reading.{ahead_nil, number_more, number_none, feed_none, feed_found}
use mathlib.Core.Path.{refl}
use native.Mathlib.Omega.{arith}
use Rattle.machine.proofs.TextLine.{read_other}
use Rattle.line.proofs.read.Goals as goal

pub returns-then-s-ne-LINE : goal.returns-then-s-ne-LINE
returns-then-s-ne-LINE c = means _ _ (read_other c.args.s.now (λ e. omega arith))

pub loop-i-init : goal.loop-i-init
loop-i-init c = (omega arith, refl, ahead_nil _)

pub returns-in_default : goal.returns-in_default
returns-in_default c =
    let start = c in
    let loop = c.loop-i in
    let loop-test = c.loop-i-test in
    means _ _
    (number_none start.args.s.now loop.ns loop.i loop.invariant.1 loop.invariant.2 loop-test.true _
    c.field_at.ensures c.in_default.is)

pub loop-i-preserved : goal.loop-i-preserved
loop-i-preserved c =
    let start = c in
    let loop = c.loop-i in
    let loop-test = c.loop-i-test in
    let field_at = c.field_at in (
      omega arith,
      simp length-set loop.invariant.1,
      number_more start.args.s.now loop.ns loop.i loop.invariant.1 loop.invariant.2 loop-test.true _
          field_at.ensures _ c.in-Some.is,
    )

pub returns-then-s-ne10 : goal.returns-then-s-ne10
returns-then-s-ne10 c =
    let start = c in
    let loop = c.loop-i in
    means _ _
    (feed_none start.args.s.now loop.ns loop.i loop.invariant.1 loop.invariant.2 c.loop-i-test.false
    loop.invariant.0 (omega arith) c.if-s-ne10.true)

pub returns : goal.returns
returns c =
    let start = c in
    let loop = c.loop-i in
    let loop-test = c.loop-i-test in
    let if2 = c.if-s-ne10 in
    means _ _
    (feed_found start.args.s.now loop.ns loop.i loop.invariant.1 loop.invariant.2 loop-test.false loop.invariant.0
    (omega arith) if2.false)
