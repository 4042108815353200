-- The mode of a partition.
use Rattle.std.specs.Prelude.{ℕ, cond, eqb}
use Rattle.machine.specs.declared.Mode.{Mode}
use Rattle.machine.specs.declared.Mode.TheVariants.{Idle, ColdStart, WarmStart, Normal as NormalMode}

-- IDLE 0, COLD_START 1, WARM_START 2, NORMAL 3
abbrev pub mode_number : Mode → ℕ
mode_number Idle = 0
mode_number ColdStart = 1
mode_number WarmStart = 2
mode_number NormalMode = 3

-- the mode of this number; of a number that no mode has it is a start mode, which runs nothing
abbrev pub mode_numbered : ℕ → Mode
mode_numbered n = cond (eqb n 0) Idle (cond (eqb n 1) ColdStart (cond (eqb n 3) NormalMode WarmStart))
