use mathlib.Core.Path.{◌≡◌, sym, ◌∙◌}
use native.Mathlib.Omega.{arith}
use lib.ListN.{length}
use Rattle.stream.specs.Stream.{held_limit}
use Rattle.stream.proofs.Chunks.{held_inside, held_length, prints_fit, finish_stuck, finish_done}
use borrow.Author.Rules.{rules}
use Rattle.stream.proofs.Stream.finish.Goals as goal

pub slice_bounds-turn_of-end : goal.slice_bounds-turn_of-end
slice_bounds-turn_of-end c =
    let long : length c.args.self.held ≡ held_limit = search rules in
    held_length _ _ (held_inside c.args.self.held _ _ (long) c.held_count-n.ensures)

pub turn_of-y-requires : goal.turn_of-y-requires
turn_of-y-requires c =
    let long : length c.args.self.held ≡ held_limit = search rules in
    let held = c.args.self.held in let h = held_inside held _ c.held_count-n.result (long) c.held_count-n.ensures in omega (arith, held_length held c.held_count-n.result h, long, h)

pub returns-then-is_stuck : goal.returns-then-is_stuck
returns-then-is_stuck c =
    let long : length c.args.self.held ≡ held_limit = search rules in
    finish_stuck c.args.self c.args.out.now _ _ (long) c.held_count-n.ensures c.turn_of-y.ensures (sym c.is_stuck.ensures ∙ c.if-is_stuck.true)

pub print-printed-requires : goal.print-printed-requires
print-printed-requires c = λ p. prints_fit _ _ (sym c.is_stuck.ensures ∙ c.if-is_stuck.false) p

pub returns : goal.returns
returns c =
    let long : length c.args.self.held ≡ held_limit = search rules in
    finish_done c.args.self c.args.out.now _ _ (long) c.held_count-n.ensures c.turn_of-y.ensures (sym c.is_stuck.ensures ∙ c.if-is_stuck.false) _ _ c.print-printed.ensures
