-- The numbers of an event or a table line, as the rules look at them.
use Rattle.std.specs.Prelude.{ℕ, zero, suc, Bool, true, false, cond, ◌&&◌, ◌||◌, leb, eqb, ℤ, pos, negsuc}
use Rattle.machine.specs.Time.{Time}
use Rattle.std.specs.Prelude.{None, Some}
use Rattle.machine.specs.declared.Field.{Field}
use Rattle.machine.specs.declared.Field.TheVariants.{Number, MinusOne, Other}
use Rattle.machine.specs.declared.Event.{Event}
use Rattle.machine.specs.declared.Numbers.{Numbers}
use Rattle.machine.specs.declared.Row.{Row}
use Rattle.machine.specs.declared.Request.{Request}
use Rattle.machine.specs.Limits.{greatest_time, duration_limit, name_limit}

-- every rule admits only −1 and numbers far below the greatest time
abbrev pub field : ℤ → Field
field (pos n) = cond (leb n greatest_time) (Number n) Other
field (negsuc zero) = MinusOne
field (negsuc (suc n)) = Other

abbrev pub row_of : Numbers → Row
row_of n = record { f1 = field n.n1; f2 = field n.n2; f3 = field n.n3; f4 = field n.n4; f5 = field n.n5; f6 = field n.n6 }

abbrev pub request_of : Event → Request
request_of e = record { partition = field e.partition; call = field e.call; a = field e.a; b = field e.b; c = field e.c; e = field e.e }

abbrev pub is_number : ℕ → Field → Bool
is_number n (Number m) = eqb m n
is_number n MinusOne = false
is_number n Other = false

-- low..high
abbrev pub between : ℕ → ℕ → Field → Bool
between low high (Number n) = leb low n && leb n high
between low high MinusOne = false
between low high Other = false

-- D, document 01's term: 0..9,999,999
abbrev pub is_duration : Field → Bool
is_duration f = between 0 duration_limit f

-- a message of a buffer or a blackboard: 0..9,999,999
abbrev pub is_message : Field → Bool
is_message f = is_duration f

abbrev pub is_minus_one : Field → Bool
is_minus_one (Number n) = false
is_minus_one MinusOne = true
is_minus_one Other = false

-- T, document 01's term: −1 or D
abbrev pub is_timeout : Field → Bool
is_timeout f = is_minus_one f || is_duration f

abbrev pub is_name : Field → Bool
is_name f = between 1 name_limit f

-- the number that a field names; 0, which is no id, no name and no priority, where it names none
abbrev pub number_of : Field → ℕ
number_of (Number n) = n
number_of MinusOne = 0
number_of Other = 0

-- −1 means never
abbrev pub time_of : Field → Time
time_of (Number n) = Some n
time_of MinusOne = None
time_of Other = None
