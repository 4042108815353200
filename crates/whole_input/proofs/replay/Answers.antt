-- `replay` meets its contract. The loop: what is printed and the answers to the lines from `at` on are the whole text; past what is
-- printed the output is as it was.
use Prim.Native.Nat.{◌<◌}
use mathlib.Core.Path.{◌∙◌, refl, sym}
use native.Mathlib.Omega.{arith}
use lib.ListN.{length}
use borrow.Author.Tests.{ltb-true, ltb-false}
use Rattle.machine.proofs.TextInput.{line_at}
use Rattle.whole_input.proofs.Laws.{refusal_gives, too_many, begins, ends, line_fits, goes_on, block_inside, block_room, block_goes_on, block_skipped}
use Rattle.whole_input.proofs.replay.Goals as goal

pub returns-then-o-ne0 : goal.returns-then-o-ne0
returns-then-o-ne0 c =
    let opening = c.open-o in
    let print-refusal = c.print_refusal in
    refusal_gives _ _ _ opening.ensures c.if-o-ne0.true _ _ print-refusal.ensures.0 print-refusal.ensures.1

pub overflow_mul-at : goal.overflow_mul-at
overflow_mul-at c = omega (arith, c.struct_known-2-1.given)

pub returns-then-is_short : goal.returns-then-is_short
returns-then-is_short c =
    let opening = c.open-o in
    let out = c.args.out.now in
    let g = too_many _ out _ opening.ensures c.if-o-ne0.false _ refl (ltb-true _ _ (sym c.is_short.ensures ∙ c.if-is_short.true)) in
    (c.no_room.ensures ∙ g.0, g.1)

pub loop-at-init : goal.loop-at-init
loop-at-init c =
    let opening = c.open-o in
    begins _ _ _ opening.ensures c.if-o-ne0.false _ refl (ltb-false _ _ (sym c.is_short.ensures ∙ c.if-is_short.false))

pub overflow_mul-at-then-r-gt0 : goal.overflow_mul-at-then-r-gt0
overflow_mul-at-then-r-gt0 c =
    let short : length c.args.input.now < 18446744073709551616 = omega (arith, c.well_formed) in
    omega (arith, short, block_inside _ _ _ _ _ _ c.loop-at.invariant _ c.run_lines-r.ensures.0 (omega (arith, c.loop-at-test.true)))

pub overflow_add-at : goal.overflow_add-at
overflow_add-at c =
    let short : length c.args.input.now < 18446744073709551616 = omega (arith, c.well_formed) in
    omega (arith, short, block_inside _ _ _ _ _ _ c.loop-at.invariant _ c.run_lines-r.ensures.0 (omega (arith, c.loop-at-test.true)))

pub overflow_add-to : goal.overflow_add-to
overflow_add-to c =
    let short : length c.args.out.now < 18446744073709551616 = omega (arith, c.well_formed) in
    omega (arith, short, block_room _ _ _ _ _ _ c.loop-at.invariant _ c.run_lines-r.ensures.0, c.loop-at.invariant.prints.size)

pub loop-at-smaller-then-r-gt0 : goal.loop-at-smaller-then-r-gt0
loop-at-smaller-then-r-gt0 c = omega (arith, c.if-r-gt0.true, block_inside _ _ _ _ _ _ c.loop-at.invariant _ c.run_lines-r.ensures.0 (omega (arith, c.loop-at-test.true)))

pub loop-at-preserved-then-r-gt0 : goal.loop-at-preserved-then-r-gt0
loop-at-preserved-then-r-gt0 c = block_goes_on _ _ _ _ _ _ c.loop-at.invariant _ c.run_lines-r.ensures.0 _ c.run_lines-r.ensures.1

pub overflow_add-to-in-loop-at : goal.overflow_add-to-in-loop-at
overflow_add-to-in-loop-at c =
    let short : length c.args.out.now < 18446744073709551616 = omega (arith, c.well_formed) in
    omega (arith, short, line_fits _ _ _ _ _ _ (block_skipped _ _ _ _ _ _ c.loop-at.invariant _ c.run_lines-r.ensures.0 _ c.run_lines-r.ensures.1 (omega (arith, c.if-r-gt0.false))) c.loop-at-test.true)

pub loop-at-smaller : goal.loop-at-smaller
loop-at-smaller c = omega (arith, c.next_line-at.ensures, (line_at c.args.input.now c.loop-at.at c.loop-at-test.true).after)

pub loop-at-preserved : goal.loop-at-preserved
loop-at-preserved c = goes_on _ _ _ _ _ _ (block_skipped _ _ _ _ _ _ c.loop-at.invariant _ c.run_lines-r.ensures.0 _ c.run_lines-r.ensures.1 (omega (arith, c.if-r-gt0.false))) c.loop-at-test.true _ c.answer_line-executive.ensures.0 _ c.answer_line-executive.ensures.1 _ c.next_line-at.ensures

pub returns : goal.returns
returns c =
    let g = ends _ _ _ _ _ _ c.loop-at.invariant c.loop-at-test.false in
    g
