-- What a program prints of an input that it holds whole.
use Rattle.std.specs.Prelude.{ℕ, ◌&&◌, cond, List, length, leb, ltb}
use Rattle.machine.specs.Line.{line_refusal, line_text}
use Rattle.machine.specs.Replay.{refusal_numbers}
use Rattle.whole_input.specs.WholeInput.{whole_limit}

-- of an input that is too long, or whose text is, one line: 11 and five 0
abbrev pub too_long_line : List ℕ
too_long_line = line_text (refusal_numbers line_refusal 0)

-- the text for an input, where the program holds both
abbrev pub held_text : List ℕ → List ℕ → List ℕ
held_text input text = cond (ltb (length input) whole_limit && leb (length text) whole_limit) text too_long_line
