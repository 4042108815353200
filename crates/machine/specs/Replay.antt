-- The replay of a whole input, as the program prints it.
use Rattle.std.specs.Prelude.{ℕ, cond, List, [], ◌∷◌, ◌++◌, map, length, drop, eqb, leb, ℤ, pos, negsuc}
use Rattle.machine.specs.declared.Module.{Module}
use Rattle.machine.specs.declared.Event.{Event}
use Rattle.machine.specs.declared.Answer.{Answer}
use Rattle.machine.specs.declared.Numbers.{Numbers}
use Rattle.machine.specs.declared.Reading.{Reading}
use Rattle.machine.specs.declared.Stepped.{Stepped}
use Rattle.machine.specs.declared.Line.{Line}
use Rattle.machine.specs.declared.Line.TheVariants.{Six, Bad}
use Rattle.machine.specs.Time.{Time}
use Rattle.std.specs.Prelude.{None, Some}
use Rattle.machine.specs.Line.{read_line, lines, line_text, line_refusal}
use Rattle.machine.specs.Step.{step}
use Rattle.machine.specs.Module.{current}
use Rattle.machine.specs.Table.{read_table}
use Rattle.machine.specs.Runs.{final, replies}

-- An event is partition, call, a, b, c, e.
abbrev pub event_of : Numbers → Event
event_of n = record { partition = n.n1; call = n.n2; a = n.n3; b = n.n4; c = n.n5; e = n.n6 }

-- −1 meaning never
abbrev pub time_number : Time → ℤ
time_number None = negsuc 0
time_number (Some t) = pos t

-- Fields: code, value, extra, t, current, running.
abbrev pub answer_numbers : Answer → List ℤ
answer_numbers a = pos a.code ∷ pos a.value ∷ time_number a.extra ∷ pos a.t ∷ pos a.current ∷ pos a.running ∷ []

-- 11 for a line that is no event: value, extra and running 0
abbrev pub unread : Module → Answer
unread m = record { code = line_refusal; value = 0; extra = Some 0; t = m.t; current = current m; running = 0 }

-- an event is stepped; a line that is no event steps nothing
abbrev pub line_step : Module → Line → Stepped
line_step m (Six n) = step m (event_of n)
line_step m Bad = record { state = m; answer = unread m }

-- one answer line per event, 11 too
abbrev pub line_answer : Module → Line → List ℤ
line_answer m l = answer_numbers (line_step m l).answer

abbrev pub line_next : Module → Line → Module
line_next m l = (line_step m l).state

unfoldable pub texts : List (List ℤ) → List ℕ
texts [] = []
texts (zs ∷ l) = line_text zs ++ texts l

-- A bad table prints one line: code, line number, four 0, and ends there.
abbrev pub refusal_numbers : ℕ → ℕ → List ℤ
refusal_numbers code value = pos code ∷ pos value ∷ pos 0 ∷ pos 0 ∷ pos 0 ∷ pos 0 ∷ []

abbrev pub bad_table_line : Reading → List ℕ
bad_table_line r = line_text (refusal_numbers r.code r.value)

-- the event lines of an input whose table takes so many lines
abbrev pub event_lines : Reading → List ℕ → List Line
event_lines r input = drop r.lines (map read_line (lines input))

-- The replay program reads table, then event lines; it prints one answer line per event.
unfoldable pub replayed : List ℕ → List ℕ
replayed input =
    let r = read_table input in
    cond (eqb r.code 0) (texts (replies line_next line_answer r.state (event_lines r input))) (bad_table_line r)

-- the record at the end
unfoldable pub replayed_record : List ℕ → Module
replayed_record input =
    let r = read_table input in
    cond (eqb r.code 0) (final line_next line_answer r.state (event_lines r input)) r.state

-- A text into an output: 0, or 11 where there is too little room
abbrev pub text_code : List ℕ → ℕ → ℕ
text_code text room = cond (leb (length text) room) 0 line_refusal

-- the output after: the text and what stood past it, or all as it was
abbrev pub text_into : List ℕ → List ℕ → List ℕ
text_into text out = cond (leb (length text) (length out)) (text ++ drop (length text) out) out

-- the replay of an input into an output
abbrev pub replayed_into : List ℕ → List ℕ → List ℕ
replayed_into input out = text_into (replayed input) out
