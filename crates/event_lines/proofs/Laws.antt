-- The line of a bad table can be written. Assumes nothing.
use Prim.Native.Nat.{ℕ, zero, suc, ◌+◌, ◌≤◌}
use mathlib.Core.Path.{◌≡◌}
use mathlib.Core.Bool.{true}
use mathlib.Core.List.{List, [], ◌∷◌, map}
use native.Mathlib.Omega.{arith}
use borrow.Author.Tests.{le-leb}
use Rattle.machine.specs.declared.Line.{Line}
use Rattle.machine.specs.declared.Line.TheVariants.{Six, Bad}
use Rattle.machine.specs.declared.Draft.{Draft}
use Rattle.machine.specs.declared.Reading.{Reading}
use Rattle.machine.specs.Limits.{number_limit, window_limit, channel_limit}
use Rattle.machine.specs.Fields.{row_of}
use Rattle.machine.specs.Line.{read_line, lines, in_range, all_in_range}
use Rattle.machine.specs.Windows.{windows}
use Rattle.machine.specs.Table.{head_good, head_draft, row_good, with_row, flagged_from, table_from, table_of, read_table}
use Rattle.machine.specs.Replay.{refusal_numbers}
use Rattle.machine.proofs.Tests.{by_test}
use Rattle.machine.proofs.Tables.{head_draft_holds}

-- the code of a reading, and the number of a table's line
record Small (r : Reading) : Type 0 where
  code : r.code ≤ 12
  value : r.value ≤ 1 + window_limit + channel_limit

from_small : (n line : ℕ) (d : Draft) (ls : List Line) → line + n ≤ 1 + window_limit + channel_limit → Small (table_from n line d ls)
unfolding table_from
from_small zero line d ls h = by_test Small (flagged_from d.table.size 1 (windows d.table)) (λ t. record { code = omega arith; value = omega arith }) (λ t. record { code = omega arith; value = omega arith })
from_small (suc n) line d [] h = record { code = omega arith; value = omega arith }
from_small (suc n) line d (Bad ∷ ls) h = record { code = omega arith; value = omega arith }
from_small (suc n) line d (Six x ∷ ls) h =
    by_test Small (row_good d (row_of x))
    (λ t. from_small n (line + 1) (with_row d (row_of x)) ls (omega arith))
    (λ t. record { code = omega arith; value = omega arith })

small : (ls : List Line) → Small (table_of ls)
unfolding table_of
small [] = record { code = omega arith; value = omega arith }
small (Bad ∷ ls) = record { code = omega arith; value = omega arith }
small (Six x ∷ ls) =
    by_test Small (head_good (row_of x))
    (λ t. let s = head_draft_holds (row_of x) t in from_small _ 1 (head_draft (row_of x)) ls (omega (arith, s.announced.1, s.announced_channels)))
    (λ t. record { code = omega arith; value = omega arith })

-- code, line number, four 0
pub refusal_in_range : (input : List ℕ) → let r = read_table input in all_in_range (refusal_numbers r.code r.value) ≡ true
unfolding all_in_range in_range
refusal_in_range input =
    let r = read_table input in
    let s = small (map read_line (lines input)) in
    rw (le-leb r.code number_limit (omega (arith, s.code)), le-leb r.value number_limit (omega (arith, s.value)))
