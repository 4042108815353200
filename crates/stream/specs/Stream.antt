-- Replay of an input that comes byte by byte. What is held of the input is the table so far, or the line so far.
use Rattle.std.specs.Prelude.{ℕ, suc, ◌+◌, ◌-◌, ◌*◌, Bool, true, false, cond, not, ◌&&◌, ◌||◌, List, [], ◌∷◌, ◌++◌, length, take, set, replicate, eqb, leb, ltb, Option, None, Some, Result, Ok, Err}
use Rattle.machine.specs.declared.Module.{Module}
use Rattle.machine.specs.declared.Numbers.{Numbers}
use Rattle.machine.specs.declared.Refusal.{Refusal}
use Rattle.machine.specs.declared.Refusal.TheVariants.{BadLine}
use Rattle.machine.specs.Limits.{window_limit, channel_limit, line_length}
use Rattle.machine.specs.Line.{line_feed, number_list, numbers_of, read_line, line_refusal}
use Rattle.machine.specs.Module.{empty_module}
use Rattle.machine.specs.Table.{read_table}
use Rattle.machine.specs.Replay.{line_answer, line_next, refusal_numbers}
use Rattle.executive.specs.declared.Executive.{Executive}
use Rattle.event_lines.specs.Blocks.{printed_line}
use Rattle.stream.specs.declared.Stage.{Stage}
use Rattle.stream.specs.declared.Stage.TheVariants.{Table, Events, Ended}
use Rattle.stream.specs.declared.Place.{Place}
use Rattle.stream.specs.declared.Printout.{Printout}
use Rattle.stream.specs.declared.Stream.{Stream}
use Rattle.stream.specs.declared.Advance.{Advance}

-- the bytes of the longest table: line 1, its windows, its channels
abbrev pub held_limit : ℕ
held_limit = (1 + window_limit + channel_limit) * line_length

-- before the first byte: no table yet, so the empty record
abbrev pub begun : Stream
begun = record {
  place = record { stage = Table; executive = record { inner = empty_module }; count = 0 };
  held = replicate held_limit 0;
}

-- ---------------------------------------------------------------- a line is complete
abbrev pub at : Stage → Executive → ℕ → Place
at s e n = record { stage = s; executive = e; count = n }

-- nothing is printed
abbrev pub nothing_printed : Place → Printout
nothing_printed x = record { place = x; numbers = None }

-- A bad table prints one line: code, line number, four 0, and ends there.
abbrev pub refusal : Place → ℕ → ℕ → Printout
refusal x code value = record { place = at Ended x.executive 0; numbers = Some (numbers_of (refusal_numbers code value)) }

-- so many bytes are good lines, and the table's next line is missing
abbrev pub missing : ℕ → ℕ → ℕ → Bool
missing code value n = eqb code line_refusal && eqb (value * line_length) (n + line_length)

abbrev pub accepted : Executive → Printout
accepted e = nothing_printed (at Events e 0)

-- the table so far is accepted, or goes on, or is refused; at the input's end it does not go on
abbrev pub table_turn : Bool → Place → List ℕ → Printout
table_turn ended x text =
    let r = read_table text in
    cond (eqb r.code 0) (accepted (record { inner = r.state }))
    (cond (not ended && missing r.code r.value (length text)) (nothing_printed x) (refusal x r.code r.value))

-- one answer line per event, 11 too
abbrev pub event_turn : Place → List ℕ → Printout
event_turn x text =
    let m = x.executive.inner in
    let l = read_line text in
    record { place = at Events (record { inner = line_next m l }) 0; numbers = Some (numbers_of (line_answer m l)) }

-- bytes after the last LF are a line; nothing after it is none
abbrev pub events_turn : Bool → Place → List ℕ → Printout
events_turn ended x text = cond (ended && eqb (length text) 0) (nothing_printed x) (event_turn x text)

-- a line is complete, or the input has ended
abbrev pub turn_in : Bool → Stage → Place → List ℕ → Printout
turn_in ended Table x text = table_turn ended x text
turn_in ended Events x text = events_turn ended x text
turn_in ended Ended x text = nothing_printed (at Ended x.executive 0)

abbrev pub turn : Bool → Place → List ℕ → Printout
turn ended x text = turn_in ended x.stage x text

-- ---------------------------------------------------------------- one byte
-- a stream, and what it prints
pub record Fed : Type 0 where
  pub stream : Stream
  pub text : List ℕ

-- what is printed
abbrev pub text_of : Option Numbers → List ℕ
text_of None = []
text_of (Some n) = printed_line (number_list n)

-- whether something is
abbrev pub prints : Option Numbers → Bool
prints None = false
prints (Some n) = true

abbrev pub said : Stream → Printout → Fed
said s y = record { stream = record { place = y.place; held = s.held }; text = text_of y.numbers }

-- the byte is held; past the limit none is
abbrev pub one_more : ℕ → ℕ
one_more n = cond (ltb n held_limit) (n + 1) n

abbrev pub put : Stream → ℕ → Stream
put s b = record { place = at s.place.stage s.place.executive (one_more s.place.count); held = set s.held s.place.count b }

abbrev pub is_table : Stage → Bool
is_table Table = true
is_table Events = false
is_table Ended = false

-- at the events, and nothing is held
abbrev pub is_between : Stage → ℕ → Bool
is_between Table n = false
is_between Events n = eqb n 0
is_between Ended n = false

-- A bad table ends the replay.
abbrev pub is_ended : Stage → Bool
is_ended Table = false
is_ended Events = false
is_ended Ended = true

-- a line ends at its LF; no table is longer than the limit
abbrev pub due : Stage → ℕ → ℕ → Bool
due stage n b = eqb b line_feed || (is_table stage && leb held_limit n)

unfoldable pub feed : Stream → ℕ → Fed
feed s b =
    let p = put s b in
    cond (due p.place.stage p.place.count b) (said p (turn false p.place (take p.place.count p.held))) (record { stream = p; text = [] })

-- ---------------------------------------------------------------- a chunk
pub record Run : Type 0 where
  pub stream : Stream
  pub taken : ℕ
  pub text : List ℕ

-- byte by byte, as long as there is room for a line
unfoldable pub run : Stream → ℕ → List ℕ → Run
run s room [] = record { stream = s; taken = 0; text = [] }
run s room (b ∷ bs) =
    let f = feed s b in
    let r = run f.stream (room - length f.text) bs in
    cond (leb line_length room) (record { stream = r.stream; taken = suc r.taken; text = f.text ++ r.text }) (record { stream = s; taken = 0; text = [] })

-- 11 where something is left for which there is no room
abbrev pub left_result : Bool → Result (Unit {0}) Refusal
left_result left = cond left (Err BadLine) (Ok tt)

abbrev pub advance_of : Run → Bool → Advance
advance_of r left = record { stream = r.stream; taken = r.taken; printed = length r.text; outcome = left_result left }

-- what is left of a chunk are its last bytes
abbrev pub advanced : Stream → ℕ → List ℕ → Advance
advanced s room chunk = let r = run s room chunk in advance_of r (ltb r.taken (length chunk))

-- the last line
abbrev pub last : Stream → Printout
last s = turn true s.place (take s.place.count s.held)

unfoldable pub closed : Stream → Fed
closed s = said s (last s)

-- it is to be printed, and there is no room for a line
abbrev pub is_stuck : Option Numbers → ℕ → Bool
is_stuck numbers room = prints numbers && ltb room line_length

-- nothing is done then
unfoldable pub finished : Stream → ℕ → Run
finished s room = cond (is_stuck (last s).numbers room) (record { stream = s; taken = 0; text = [] }) (record { stream = (closed s).stream; taken = 0; text = (closed s).text })

abbrev pub finished_of : Stream → ℕ → Advance
finished_of s room = advance_of (finished s room) (is_stuck (last s).numbers room)

-- ---------------------------------------------------------------- a whole input
-- all its bytes
unfoldable pub fed_all : Stream → List ℕ → Fed
fed_all s [] = record { stream = s; text = [] }
fed_all s (b ∷ bs) =
    let f = feed s b in
    let g = fed_all f.stream bs in
    record { stream = g.stream; text = f.text ++ g.text }

-- what is printed, and the record at the end
abbrev pub streamed : Stream → List ℕ → List ℕ
streamed s input = (fed_all s input).text ++ (closed (fed_all s input).stream).text

abbrev pub stream_end : Stream → List ℕ → Module
stream_end s input = (closed (fed_all s input).stream).stream.place.executive.inner

-- An input in pieces: a chunk each, with room for output. What is taken of all of them, and what is printed for it.
pub record Piece : Type 0 where
  pub chunk : List ℕ
  pub room : ℕ

pub record Taken : Type 0 where
  pub stream : Stream
  pub bytes : List ℕ
  pub text : List ℕ

unfoldable pub pieces : Stream → List Piece → Taken
pieces s [] = record { stream = s; bytes = []; text = [] }
pieces s (p ∷ ps) =
    let r = run s p.room p.chunk in
    let k = pieces r.stream ps in
    record { stream = k.stream; bytes = take r.taken p.chunk ++ k.bytes; text = r.text ++ k.text }
