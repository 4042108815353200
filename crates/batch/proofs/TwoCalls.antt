-- Demand 3 over the contract of `run`: an instance of the machine's. Assumes nothing.
use Prim.Native.Nat.{ℕ}
use mathlib.Core.Path.{◌≡◌}
use mathlib.Core.List.{List}
use Rattle.machine.specs.Module.{fresh_module}
use Rattle.machine.specs.Table.{read_table}
use Rattle.machine.specs.Theorems.Valid.{SoundTable}
use Rattle.machine.proofs.Isolation.{left_right}
use Rattle.machine.proofs.Run.{left_right_of_table}
use Rattle.executive.specs.Executive.{opened}
use Rattle.executive.specs.declared.Executive.{Executive}
use Rattle.executive.specs.declared.Opening.{Opening}
use Rattle.batch.specs.Batch.{events_of}
use Rattle.batch.specs.TwoCalls.{TwoCalls}

pub two_calls : (m : Executive) → TwoCalls m
two_calls m S within closed left right q =
    rw (left.ran, right.ran, left.answered, right.answered)
    (left_right m.inner S within closed (events_of left.lent) (events_of right.lent) q)

-- for the executive that `open` gives for an accepted table: t 0, every partition in mode 1 with nothing created, no message
pub two_calls_of_table : (input : List ℕ) (o : Opening) → o ≡ opened (read_table input) → o.code ≡ 0
    → SoundTable o.executive.inner.table × (o.executive.inner ≡ fresh_module o.executive.inner.table) × TwoCalls o.executive
two_calls_of_table input o e h =
    let r = left_right_of_table input (rw e at h) in
    (rw e r.0, rw e r.1, two_calls o.executive)
