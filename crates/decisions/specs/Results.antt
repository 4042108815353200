-- A call's decision, and its checks, by a Result: its error is the refusal.
use Rattle.std.specs.Prelude.{ℕ, Result, Ok, Err}
use Rattle.machine.specs.Refusals.{code}
use Rattle.machine.specs.declared.Refusal.{Refusal}
use Rattle.machine.specs.declared.Decision.{Decision}
use Rattle.machine.specs.declared.Decision.TheVariants.{Refused}

abbrev pub decided : Result Decision Refusal → Decision
decided (Ok d) = d
decided (Err e) = Refused (code e)

-- the code that checks give, 0 where all are passed
abbrev pub code_given : {A : Type 0} → Result A Refusal → ℕ
code_given (Ok x) = 0
code_given (Err e) = code e

-- a call decides d where its checks are passed
abbrev pub after : {A : Type 0} → Result A Refusal → Decision → Decision
after (Ok x) d = d
after (Err e) d = Refused (code e)
