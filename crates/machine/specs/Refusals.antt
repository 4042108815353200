-- Why an event, a line or a table is refused.
use Rattle.std.specs.Prelude.{ℕ, Result, Ok, Err}
use Rattle.machine.specs.declared.Refusal.{Refusal}
use Rattle.machine.specs.declared.Refusal.TheVariants.{NoAction, NotAvailable, InvalidParameter, NoRoom, InvalidMode, NotCurrent, NoCaller, TimeEnded, BadLine, BadTable, Malformed}

-- the number that document 01 gives each; 0 is success, 6 a wake code, and 7, waiting, no refusal
abbrev pub code : Refusal → ℕ
code NoAction = 1
code NotAvailable = 2
code InvalidParameter = 3
code NoRoom = 4
code InvalidMode = 5
code NotCurrent = 8
code NoCaller = 9
code TimeEnded = 10
code BadLine = 11
code BadTable = 12
code Malformed = 13

-- the number of what is done or refused: 0, or the refusal's
abbrev pub result_code : {A : Type 0} → Result A Refusal → ℕ
result_code (Ok x) = 0
result_code (Err r) = code r
