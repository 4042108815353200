-- The loop: the bytes that are left, after the number so far, spell the whole.
use Rattle.std.proofs.Common.{◌≡◌, drop}
use Rattle.damaged_lines.specs.Container.{size_of}
use Rattle.damaged_lines.proofs.size_of.Given as goal

abbrev pub invariant-loop-b : goal.invariant-loop-b
invariant-loop-b l = size_of (drop l.b-index l.s) l.v ≡ size_of l.s 0
