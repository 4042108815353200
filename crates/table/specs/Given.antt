-- What reading a table gives inside this crate: a table or why it is refused; and what that is as a reading.
use Rattle.std.specs.Prelude.{ℕ, Result, Ok, Err}
use Rattle.machine.specs.declared.Line.{Line}
use Rattle.machine.specs.declared.Line.TheVariants.{Six, Bad}
use Rattle.machine.specs.declared.Reading.{Reading}
use Rattle.machine.specs.declared.Refusal.TheVariants.{BadLine}
use Rattle.machine.specs.declared.Row.{Row}
use Rattle.machine.specs.Fields.{row_of}
use Rattle.machine.specs.Refusals.{code}
use Rattle.machine.specs.Table.{accepted_table, refused_table}
use Rattle.table.specs.declared.Accepted.{Accepted}
use Rattle.table.specs.declared.Refused.{Refused}

abbrev pub reading_of : Result Accepted Refused → Reading
reading_of (Ok x) = accepted_table x.table x.lines
reading_of (Err x) = refused_table (code x.why) x.line

-- the row of a line of this number
abbrev pub row_in : ℕ → Line → Result Row Refused
row_in n (Six k) = Ok (row_of k)
row_in n Bad = Err (record { why = BadLine; line = n })
