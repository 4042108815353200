use mathlib.Core.Path.{refl, sym, ◌∙◌}
use Prim.Native.Nat.{◌<◌}
use native.Mathlib.Omega.{arith}
use lib.ListN.{length}
use borrow.Author.Tests.{ltb-true, ltb-false}
use Rattle.machine.proofs.TextInput.{line_at}
use Rattle.whole_input.proofs.Waiting.{line_fits, asked_on, asking_ends, refusal_asked, asked_too_many, asking_begins}
use Rattle.whole_input.proofs.waiting_times.Goals as goal

pub returns-then-o-ne0 : goal.returns-then-o-ne0
returns-then-o-ne0 c =
    let opening = c.open-o in
    let print-refusal = c.print_refusal in
    refusal_asked _ _ _ opening.ensures c.if-o-ne0.true _ _ print-refusal.ensures.0 print-refusal.ensures.1

pub overflow_mul-at : goal.overflow_mul-at
overflow_mul-at c = omega (arith, c.struct_known-2-1.given)

pub returns-then-is_short : goal.returns-then-is_short
returns-then-is_short c =
    let opening = c.open-o in
    let out = c.args.out.now in
    let g = asked_too_many _ out _ opening.ensures c.if-o-ne0.false _ refl (ltb-true _ _ (sym c.is_short.ensures ∙ c.if-is_short.true)) in
    (c.no_room.ensures ∙ g.0, g.1)

pub loop-at-init : goal.loop-at-init
loop-at-init c =
    let opening = c.open-o in
    asking_begins _ _ _ opening.ensures c.if-o-ne0.false _ refl (ltb-false _ _ (sym c.is_short.ensures ∙ c.if-is_short.false))

pub overflow_add-to : goal.overflow_add-to
overflow_add-to c = let short : length c.args.out.now < 18446744073709551616 = omega (arith, c.well_formed) in omega (arith, short, line_fits _ _ _ _ _ _ c.loop-at.invariant c.loop-at-test.true)

pub loop-at-smaller : goal.loop-at-smaller
loop-at-smaller c = omega (arith, c.next_line-at.ensures, (line_at c.args.input.now c.loop-at.at c.loop-at-test.true).after)

pub loop-at-preserved : goal.loop-at-preserved
loop-at-preserved c = asked_on _ _ _ _ _ _ c.loop-at.invariant c.loop-at-test.true _ c.ask_line.ensures _ c.next_line-at.ensures

pub returns : goal.returns
returns c =
    let g = asking_ends _ _ _ _ _ _ c.loop-at.invariant c.loop-at-test.false in
    g
