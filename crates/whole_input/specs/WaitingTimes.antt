-- Waiting times asked by lines: a table, then a line for each question.
use Rattle.std.specs.Prelude.{ℕ, Bool, cond, ◌&&◌, List, map, eqb, ℤ}
use Rattle.machine.specs.declared.Line.{Line}
use Rattle.machine.specs.declared.Line.TheVariants.{Six, Bad}
use Rattle.machine.specs.declared.Row.{Row}
use Rattle.machine.specs.declared.Table.{Table}
use Rattle.machine.specs.Windows.{Waiting}
use Rattle.machine.specs.Fields.{row_of, is_number}
use Rattle.machine.specs.Line.{line_refusal}
use Rattle.machine.specs.Replay.{texts, refusal_numbers, bad_table_line, event_lines}
use Rattle.machine.specs.Table.{read_table}
use Rattle.machine.specs.Windows.{waiting_of}

-- a question is t, a partition and four 0
abbrev pub is_question : Row → Bool
is_question r = is_number 0 r.f3 && (is_number 0 r.f4 && (is_number 0 r.f5 && is_number 0 r.f6))

abbrev pub refused_waiting : ℕ → Waiting
refused_waiting code = record { code = code; n = 0 }

-- what a line gets: 11 where it is no six numbers, 13 where an unused number is not 0, else the waiting time
abbrev pub gets : Table → Line → Waiting
gets T (Six n) = cond (is_question (row_of n)) (waiting_of T n.n1 n.n2) (refused_waiting 13)
gets T Bad = refused_waiting line_refusal

-- code, n, four 0
abbrev pub waiting_numbers : Waiting → List ℤ
waiting_numbers w = refusal_numbers w.code w.n

abbrev pub line_waiting : Table → Line → List ℤ
line_waiting T l = waiting_numbers (gets T l)

-- what is printed for an input: one answer line for each line; a bad table prints what the replay prints
unfoldable pub asked : List ℕ → List ℕ
asked input =
    let r = read_table input in
    cond (eqb r.code 0) (texts (map (line_waiting r.state.table) (event_lines r input))) (bad_table_line r)
