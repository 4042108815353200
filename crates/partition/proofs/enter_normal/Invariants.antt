use Prim.Native.Nat.{◌+◌, ◌-◌}
use mathlib.Core.Path.{◌≡◌}
use Rattle.machine.specs.Process.{entered}
use Rattle.machine.specs.Partition.{each_from}
use Rattle.partition.proofs.enter_normal.Given as goal

abbrev pub invariant-loop-k : goal.invariant-loop-k
invariant-loop-k l = each_from (entered l.c) (l.fn.p.process_count - l.k) (l.k + 1) l.q ≡ each_from (entered l.c) l.fn.p.process_count 1 l.initial.q
