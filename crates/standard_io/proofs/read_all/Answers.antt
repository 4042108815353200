-- A read more each turn.
use Rattle.std.proofs.Common.{arith, sym, ◌∙◌}
use Rattle.standard_io.proofs.Laws.{reading_begins, reading_goes, reading_stops, reading_ends}
use Rattle.standard_io.proofs.KnownBytes.{carried_none, carried_on}
use Rattle.standard_io.proofs.read_all.Goals as goal

pub loop-turn-init : goal.loop-turn-init
loop-turn-init g c = record { reading = reading_begins _ _ _ _ c.begin.ensures; carried = carried_none _ _ _ _ c.begin.ensures }

pub loop-turn-preserved : goal.loop-turn-preserved
loop-turn-preserved g c = record {
  reading =
      reading_goes _ _ _ _ _ _ _ c.loop-turn.invariant.reading _ c.read_once-t.ensures.once
      (sym c.is_going.ensures ∙ c.if-not-is_going.false) _ _ c.read_once-t.auto.input c.read_once-t.auto.out;
  carried = carried_on _ _ _ _ _ _ _ _ _ _ c.loop-turn.invariant.carried c.loop-turn.invariant.reading.going (c.read_once-t.ensures.carried (omega (arith, c.loop-turn.invariant.reading.size_in, c.buffer-input.ensures.long)));
}

pub returns-then-not-is_going : goal.returns-then-not-is_going
returns-then-not-is_going g c = record {
  ended =
      reading_ends _ _ _ _ _ _ _ c.loop-turn.invariant.reading _ c.read_once-t.ensures.once
      (sym c.is_going.ensures ∙ c.if-not-is_going.true);
  carried = carried_on _ _ _ _ _ _ _ _ _ _ c.loop-turn.invariant.carried c.loop-turn.invariant.reading.going (c.read_once-t.ensures.carried (omega (arith, c.loop-turn.invariant.reading.size_in, c.buffer-input.ensures.long)));
}

pub returns-after-loop-turn : goal.returns-after-loop-turn
returns-after-loop-turn g c = record {
  ended = reading_stops _ _ _ _ _ _ _ c.loop-turn.invariant.reading (omega arith);
  carried = c.loop-turn.invariant.carried;
}
