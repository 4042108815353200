-- The loop: the bytes that are left, after the number so far, spell the whole.
use Rattle.std.proofs.Common.{arith}
use Rattle.damaged_lines.proofs.Laws.{size_more, size_done}
use Rattle.damaged_lines.proofs.size_of.Goals as goal

pub loop-b-preserved : goal.loop-b-preserved
loop-b-preserved c = size_more c.args.s.now c.loop-b.b-index _ _ c.loop-b.invariant (omega arith) _ c.with_digit-v.ensures

pub returns : goal.returns
returns c = size_done c.args.s.now c.loop-b.b-index _ _ c.loop-b.invariant (omega arith)
