-- `rest` meets its contract. The loop: the lines from `at` on, with the draft so far, give what the whole gives.
use Rattle.table.proofs.Laws.{lines_from}
use Prim.Native.Nat.{◌+◌, ◌-◌, ◌≤◌}
use mathlib.Core.Path.{◌≡◌}
use lib.ListN.{length}
use Rattle.machine.specs.Limits.{line_length}
use Rattle.machine.specs.Table.{table_from}
use Rattle.machine.proofs.Tables.{SoundDraft}
use Rattle.table.proofs.rest.Given as goal

abbrev pub invariant-loop-line : goal.invariant-loop-line
invariant-loop-line l =
    (l.at ≤ length l.input)
    × SoundDraft (l.total - l.line) l.d
    × (table_from (l.total - l.line) l.line l.d (lines_from l.input l.at) ≡ table_from (l.initial.d.windows + l.initial.d.channels) 1 l.initial.d (lines_from l.input line_length))
