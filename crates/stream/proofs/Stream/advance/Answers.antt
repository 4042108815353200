use Prim.Native.Nat.{ℕ, ◌+◌, ◌-◌, ◌≤◌, ◌<◌, min}
use mathlib.Core.Path.{◌≡◌, refl, sym, ap, ◌∙◌}
use native.Mathlib.Omega.{arith}
use borrow.Author.Rules.{rules}
use lib.ListN.{length, get_or, take, take-append-drop}
use Rattle.machine.specs.Limits.{line_length}
use Rattle.stream.specs.Stream.{held_limit, at, put}
use Rattle.stream.proofs.Chunks.{Advancing, begins, all_taken, no_room_holds, goes_on, feed_held, feed_due, put_held, put_length, held_inside, held_length, printed_fits}
use Rattle.event_lines.proofs.Blocks.{block_empty}
use Rattle.stream.proofs.Blocks.{block_inside, block_room, block_taken}
use Rattle.stream.proofs.Stream.advance.Goals as goal
use Rattle.stream.proofs.Stream.advance.Goals.{After-hold, Joined-is_between, else-is_between, else-loop-at-test, then-is_between+else-r-gt0, then-loop-at-test+then-out-to-lt-LINE}

-- where no line is taken, the output is as it was
same : (c : Joined-is_between) → c.if-is_between.out ≡ c.loop-at.out
same c =
    let now = c.loop-at in
    elim c.if-is_between.branch [ then-is_between+else-r-gt0 w ↦ (w.out-is ∙ w.run_lines-r.ensures.1 ∙ block_empty now.x.executive.inner c.args.chunk.now now.out now.at now.to _ w.run_lines-r.ensures.0 (omega (arith, w.if-r-gt0.false))) | else-is_between w ↦ (w.out-is) ]

here : (c : Joined-is_between) → Advancing c.args.self c.args.chunk.now c.args.out.now (record { place = c.loop-at.x; held = c.loop-at.held }) c.loop-at.at c.loop-at.to c.if-is_between.out
here c = rw (same c) c.loop-at.invariant

fits : (c : Joined-is_between) → line_length ≤ length c.if-is_between.out - c.loop-at.to
fits c = omega (arith, c.if-out-to-lt-LINE.false, ap length (same c))

stored : (c : After-hold) → (record { place = at c.loop-at.x.stage c.loop-at.x.executive c.hold.result; held = c.hold.new.held }) ≡ put (record { place = c.loop-at.x; held = c.loop-at.held }) (get_or c.args.chunk.now c.loop-at.at 0)
stored c = put_held (record { place = c.loop-at.x; held = c.loop-at.held }) (get_or c.args.chunk.now c.loop-at.at 0) c.hold.result c.hold.new.held c.loop-at.invariant.held c.hold.ensures.0 c.hold.ensures.1

-- the array keeps its length
long : (c : After-hold) → length c.hold.new.held ≡ held_limit
long c = put_length (record { place = c.loop-at.x; held = c.loop-at.held }) (get_or c.args.chunk.now c.loop-at.at 0) (record { place = at c.loop-at.x.stage c.loop-at.x.executive c.hold.result; held = c.hold.new.held }) c.loop-at.invariant.held (stored c)

-- the part that is looked at
inside : (c : After-hold) (r : ℕ) → r ≡ min c.hold.result held_limit → r ≤ length c.hold.new.held
inside c r e = held_inside c.hold.new.held c.hold.result r (long c) e

counted : (c : After-hold) (r : ℕ) → r ≡ min c.hold.result held_limit → r ≡ length (take r c.hold.new.held)
counted c r e = held_length c.hold.new.held r (inside c r e)

pub loop-at-init : goal.loop-at-init
loop-at-init c = begins _ _ _ (search rules)

pub overflow_sub-out : goal.overflow_sub-out
overflow_sub-out c = omega (arith, c.loop-at.invariant.room)

pub overflow_mul-at : goal.overflow_mul-at
overflow_mul-at c = let g : length c.args.chunk.now < 18446744073709551616 = omega (arith, c.well_formed) in omega (arith, g, block_inside _ _ _ _ _ _ _ c.loop-at.invariant _ c.run_lines-r.ensures.0)

pub overflow_add-at : goal.overflow_add-at
overflow_add-at c = let g : length c.args.chunk.now < 18446744073709551616 = omega (arith, c.well_formed) in omega (arith, g, block_inside _ _ _ _ _ _ _ c.loop-at.invariant _ c.run_lines-r.ensures.0)

pub overflow_add-to : goal.overflow_add-to
overflow_add-to c = let g : length c.args.out.now < 18446744073709551616 = omega (arith, c.well_formed) in omega (arith, g, block_room _ _ _ _ _ _ _ c.loop-at.invariant _ c.run_lines-r.ensures.0, c.loop-at.invariant.size)

pub hold_line-requires : goal.hold_line-requires
hold_line-requires c = (c.loop-at.invariant.held, omega (arith, c.if-r-gt0.true), block_inside _ _ _ _ _ _ _ c.loop-at.invariant _ c.run_lines-r.ensures.0)

pub loop-at-smaller-then-r-gt0 : goal.loop-at-smaller-then-r-gt0
loop-at-smaller-then-r-gt0 c = omega (arith, c.if-r-gt0.true, block_inside _ _ _ _ _ _ _ c.loop-at.invariant _ c.run_lines-r.ensures.0)

pub loop-at-preserved-then-r-gt0 : goal.loop-at-preserved-then-r-gt0
loop-at-preserved-then-r-gt0 c = block_taken _ _ _ _ _ _ _ c.loop-at.invariant _ c.run_lines-r.ensures.0 c.if-r-gt0.true (sym c.is_between.ensures ∙ c.if-is_between.true) _ c.hold_line.ensures _ c.run_lines-r.ensures.1

pub bounds-chunk-at : goal.bounds-chunk-at
bounds-chunk-at c = omega (arith, c.loop-at-test.true)

pub overflow_add-at-in-loop-at : goal.overflow_add-at-in-loop-at
overflow_add-at-in-loop-at c = omega (arith, c.loop-at-test.true)

pub slice_bounds-held-end : goal.slice_bounds-held-end
slice_bounds-held-end c = inside (goal.at.slice_bounds-held-end c).After-hold c.held_count-n.result c.held_count-n.ensures

pub slice_bounds-turn_of-end : goal.slice_bounds-turn_of-end
slice_bounds-turn_of-end c = counted (goal.at.slice_bounds-turn_of-end c).After-hold c.held_count-n.result c.held_count-n.ensures

pub turn_of-y-requires : goal.turn_of-y-requires
turn_of-y-requires c = omega (arith, inside (goal.at.turn_of-y-requires c).After-hold c.held_count-n.result c.held_count-n.ensures, counted (goal.at.turn_of-y-requires c).After-hold c.held_count-n.result c.held_count-n.ensures, long (goal.at.turn_of-y-requires c).After-hold)

pub print-to-requires : goal.print-to-requires
print-to-requires c _ = omega (arith, (here (goal.at.print-to-requires c).Joined-is_between).room, fits (goal.at.print-to-requires c).Joined-is_between)

pub overflow_add-to-then-is_due : goal.overflow_add-to-then-is_due
overflow_add-to-then-is_due c = let h = printed_fits c.if-is_between.out c.loop-at.to _ c.turn_of-y.result.numbers c.print-to.ensures.0 (fits (goal.at.overflow_add-to-then-is_due c).Joined-is_between) (here (goal.at.overflow_add-to-then-is_due c).Joined-is_between).room in let g : length c.args.out.now < 18446744073709551616 = omega (arith, c.well_formed) in omega (arith, h, g, (here (goal.at.overflow_add-to-then-is_due c).Joined-is_between).size)

pub loop-at-smaller-then-is_due : goal.loop-at-smaller-then-is_due
loop-at-smaller-then-is_due c = omega (arith, c.loop-at-test.true)

pub loop-at-preserved-then-is_due : goal.loop-at-preserved-then-is_due
loop-at-preserved-then-is_due c = goes_on _ _ _ _ _ _ _ (here (goal.at.loop-at-preserved-then-is_due c).Joined-is_between) _ refl c.loop-at-test.true (fits (goal.at.loop-at-preserved-then-is_due c).Joined-is_between) _ _ (feed_due _ _ _ (stored (goal.at.loop-at-preserved-then-is_due c).After-hold) _ _ (sym c.is_due.ensures ∙ c.if-is_due.true) (long (goal.at.loop-at-preserved-then-is_due c).After-hold) c.held_count-n.ensures c.turn_of-y.ensures) _ (ap (λ k. c.loop-at.to + k) c.print-to.ensures.0) _ c.print-to.ensures.1

pub loop-at-smaller : goal.loop-at-smaller
loop-at-smaller c = omega (arith, c.loop-at-test.true)

pub loop-at-preserved : goal.loop-at-preserved
loop-at-preserved c = goes_on _ _ _ _ _ _ _ (here (goal.at.loop-at-preserved c).Joined-is_between) _ refl c.loop-at-test.true (fits (goal.at.loop-at-preserved c).Joined-is_between) _ _ (feed_held _ _ _ (stored (goal.at.loop-at-preserved c).After-hold) (sym c.is_due.ensures ∙ c.if-is_due.false)) _ (omega arith) _ (sym (take-append-drop c.loop-at.to c.if-is_between.out))

pub returns : goal.returns
returns c =
    elim c.loop-at-test.branch [ else-loop-at-test w ↦ (all_taken _ _ _ _ _ _ _ c.loop-at.invariant (omega (arith, w)) _ c.left_result.ensures) | then-loop-at-test+then-out-to-lt-LINE w ↦ (no_room_holds _ _ _ _ _ _ _ c.loop-at.invariant (omega (arith, w)) _ c.left_result.ensures) ]
