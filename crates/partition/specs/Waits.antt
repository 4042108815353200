-- Waits that end.
use Rattle.std.specs.Prelude.{ℕ, Bool, cond}
use Rattle.machine.specs.declared.Process.{Process}
use Rattle.machine.specs.declared.Transfer.{Transfer}
use Rattle.machine.specs.declared.Transfer.TheVariants.{Put, HandedTo, Taken, LetIn}
use Rattle.machine.specs.Process.{served, handed}

-- the wait ends with wake code 0: this message is handed over, or none
abbrev pub served_with : Bool → ℕ → Process → Process
served_with hands m x = cond hands (handed m x) (served x)

-- the process whose wait a transfer ends, 0 for none, and its record then
abbrev pub ended_id : Transfer → ℕ
ended_id (Put m) = 0
ended_id (HandedTo id m) = id
ended_id Taken = 0
ended_id (LetIn id m) = id

abbrev pub ended_as : Transfer → Process → Process
ended_as (Put m) x = x
ended_as (HandedTo id m) x = handed m x
ended_as Taken x = x
ended_as (LetIn id m) x = served x
