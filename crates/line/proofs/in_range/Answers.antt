-- `in_range` meets its contract.
use Rattle.line.proofs.Signed.{minus_one_in, below_out, above_in_holds}
use Rattle.line.proofs.in_range.Goals as goal

pub returns-then-x-eqminus1 : goal.returns-then-x-eqminus1
returns-then-x-eqminus1 c = minus_one_in _ c.ranges.x c.if-x-eqminus1.true

pub returns-then-x-lt0 : goal.returns-then-x-lt0
returns-then-x-lt0 c = below_out _ c.ranges.x c.if-x-eqminus1.false c.if-x-lt0.true

pub returns : goal.returns
returns c = above_in_holds _ c.ranges.x c.if-x-lt0.false
