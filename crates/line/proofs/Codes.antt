-- The number of a result tells whether it is a refusal. Assumes nothing.
use mathlib.Core.Path.{◌≡◌}
use native.Mathlib.Omega.{arith}
use Rattle.machine.specs.declared.Refusal.{Refusal}
use Rattle.machine.specs.declared.Refusal.TheVariants.{NoAction, NotAvailable, InvalidParameter, NoRoom, InvalidMode, NotCurrent, NoCaller, TimeEnded, BadLine, BadTable, Malformed}
use Rattle.machine.specs.Refusals.{code}

-- no refusal has the number of success
pub no_success : (r : Refusal) → code r ≡ 0 → ⊥
no_success NoAction e = omega arith
no_success NotAvailable e = omega arith
no_success InvalidParameter e = omega arith
no_success NoRoom e = omega arith
no_success InvalidMode e = omega arith
no_success NotCurrent e = omega arith
no_success NoCaller e = omega arith
no_success TimeEnded e = omega arith
no_success BadLine e = omega arith
no_success BadTable e = omega arith
no_success Malformed e = omega arith
