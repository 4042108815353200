-- What a program over a whole input gives back.
use Rattle.std.specs.Prelude.{ℕ, ◌≤◌, min, ◌≡◌, cond, List, length, take, leb, ltb, Result, Ok, Err}
use Rattle.std.specs.Result.{result_unwrap_or}
use Rattle.machine.specs.Limits.{line_length}
use Rattle.machine.specs.Line.{line_refusal, can_write, written}
use Rattle.machine.specs.Replay.{refusal_numbers, replayed}
use Rattle.whole_input.specs.declared.Refused.{Refused}

-- how many bytes are printed, or a refusal, and nothing is
abbrev pub Printed : Type 0
Printed = Result ℕ Refused

-- too little room: 11, value 0
abbrev pub no_room : Printed
no_room = Err (record { code = line_refusal; value = 0 })

-- A bad table prints one line.
abbrev pub refusal_printed : ℕ → ℕ → ℕ → Printed
refusal_printed room code value = cond (can_write room (refusal_numbers code value)) (Ok line_length) no_room

-- how many bytes a program prints of a result: the text, or the line of its code
abbrev pub shown_length : ℕ → Printed → ℕ
shown_length room (Ok n) = min n room
shown_length room (Err r) = result_unwrap_or (refusal_printed room r.code r.value) 0

-- so many bytes lie at the front of an output; both facts follow from the first, and lending the front asks for both
abbrev pub Counts : ℕ → List ℕ → Type 0
Counts n out = (n ≤ length out) × (n ≡ length (take n out))

abbrev pub shown_into : List ℕ → Printed → List ℕ
shown_into out (Ok n) = out
shown_into out (Err r) = written out (refusal_numbers r.code r.value)

-- of a text: how many bytes are printed, or 11 where there is too little room
abbrev pub printed_text : List ℕ → ℕ → Printed
printed_text text room = cond (leb (length text) room) (Ok (length text)) no_room

-- of a replay
abbrev pub printed : List ℕ → ℕ → Printed
printed input room = printed_text (replayed input) room

-- ---------------------------------------------------------------- programs
-- the bytes that a program holds of its input; an input that fills them is too long: 11, and nothing is written
abbrev pub whole_limit : ℕ
whole_limit = 131072

abbrev pub held_printed : ℕ → Printed → Printed
held_printed n r = cond (ltb n whole_limit) r no_room

-- the output then, from what is written into it where the input is held
abbrev pub held_into : ℕ → List ℕ → List ℕ → List ℕ
held_into n text out = cond (ltb n whole_limit) text out
