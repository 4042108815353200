-- A block of event lines, read out of a text and run as one list.
use Rattle.std.specs.Prelude.{ℕ, zero, suc, ◌-◌, ◌/◌, min, cond, List, [], ◌∷◌, ◌++◌, length, take, drop, leb, ℤ}
use Rattle.machine.specs.declared.Event.{Event}
use Rattle.machine.specs.declared.EventRecord.{EventRecord}
use Rattle.machine.specs.declared.Line.{Line}
use Rattle.machine.specs.declared.Line.TheVariants.{Six, Bad}
use Rattle.machine.specs.declared.Module.{Module}
use Rattle.machine.specs.Runs.{after, answers}
use Rattle.machine.specs.Limits.{line_length}
use Rattle.machine.specs.Line.{line_text, number_list, numbers_of, read_line, all_in_range}
use Rattle.machine.specs.Replay.{event_of, answer_numbers}
use Rattle.executive.specs.Lists.{six}
use Rattle.event_lines.specs.declared.Block.{Block}

-- ---------------------------------------------------------------- what is read
-- the lines of a block, at most
abbrev pub block_limit : ℕ
block_limit = 1024

abbrev pub good_then : Line → List Event → List Event
good_then (Six n) es = event_of n ∷ es
good_then Bad es = []

-- the events of the good lines at the front of a text, up to so many: six numbers in 61 bytes each
unfoldable pub good_events : ℕ → List ℕ → List Event
good_events zero text = []
good_events (suc n) text = good_then (read_line (take line_length text)) (good_events n (drop line_length text))

-- as many lines as a block has, and as the room has for answers
abbrev pub line_count : ℕ → ℕ
line_count room = min block_limit (room / line_length)

-- ---------------------------------------------------------------- what is printed
-- the text of a line; of every record that a run reaches the answers' numbers are in range
abbrev pub printed_line : List ℤ → List ℕ
printed_line zs = cond (all_in_range zs) (line_text zs) []

-- where there is room for one
abbrev pub roomed_line : ℕ → List ℤ → List ℕ
roomed_line room zs = cond (leb line_length room) (printed_line zs) []

-- a line for each six numbers of a list, up to so many
unfoldable pub printed_sixes : ℕ → List ℤ → List ℕ
printed_sixes zero l = []
printed_sixes (suc n) l = printed_line (number_list (numbers_of l)) ++ printed_sixes n (drop six l)

-- one answer line per event
unfoldable pub printed_answers : List EventRecord → List ℕ
printed_answers [] = []
printed_answers (x ∷ l) = printed_line (answer_numbers x.answer) ++ printed_answers l

-- the output after: what is printed, and what stood past it
abbrev pub over : List ℕ → List ℕ → List ℕ
over text out = text ++ drop (length text) out

-- the same from a position of the output on
abbrev pub over_at : ℕ → List ℕ → List ℕ → List ℕ
over_at to text out = take to out ++ over text (drop to out)

-- ---------------------------------------------------------------- a block
-- the events of a block of the text at a position, the output having room from a position on
abbrev pub block_events : List ℕ → ℕ → List ℕ → ℕ → List Event
block_events text from out to = good_events (line_count (length out - to)) (drop from text)

abbrev pub block_text : Module → List Event → List ℕ
block_text m es = printed_answers (answers m es)

-- the record after the events, how many they are, and how many bytes are printed
abbrev pub block_of : Module → List Event → Block
block_of m es = record { executive = record { inner = after m es }; lines = length es; printed = length (block_text m es) }
