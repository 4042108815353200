-- Where an accepted table ends: after its lines, each of 61 bytes; the event lines are those from there on. Assumes nothing.
use Prim.Native.Nat.{ℕ, zero, suc, ◌+◌, ◌*◌, ◌≤◌}
use mathlib.Core.Path.{◌≡◌, refl}
use mathlib.Core.List.{List, [], ◌∷◌}
use native.Mathlib.Omega.{arith}
use lib.ListN.{length, drop}
use lib.Dec.{leb}
use borrow.Author.Tests.{leb-true, leb-false}
use Rattle.machine.specs.declared.Draft.{Draft}
use Rattle.machine.specs.declared.Reading.{Reading}
use Rattle.machine.specs.declared.Numbers.{Numbers}
use Rattle.machine.specs.declared.Line.{Line}
use Rattle.machine.specs.declared.Line.TheVariants.{Six, Bad}
use Rattle.machine.specs.Limits.{line_length}
use Rattle.machine.specs.Fields.{row_of}
use Rattle.machine.specs.Line.{read_at}
use Rattle.machine.specs.Windows.{windows}
use Rattle.machine.specs.Table.{head_good, head_draft, row_good, with_row, flagged_from, table_from, table_of, read_table}
use Rattle.machine.specs.Replay.{event_lines}
use Rattle.machine.proofs.Either.{either}
use Rattle.machine.proofs.Tests.{by_test}
use Rattle.machine.proofs.TextInput.{few_left}
use Rattle.table.proofs.Laws.{lines_from, six_left, no_six}

-- n lines from a position on are 61 bytes each
record Lines (input : List ℕ) (at n : ℕ) : Type 0 where
  inside : at + n * line_length ≤ length input
  after : drop n (lines_from input at) ≡ lines_from input (at + n * line_length)

module _ (input : List ℕ) (at : ℕ) where
  no_lines : at ≤ length input → Lines input at 0
  no_lines h = let e : at + 0 * line_length ≡ at = omega arith in record { inside = omega arith; after = rw e }

  -- a line of six numbers has its 61 bytes
  pub six_inside : (k : Numbers) → read_at input at ≡ Six k → at + line_length ≤ length input
  six_inside k e =
      either (leb (at + line_length) (length input))
      (λ t. leb-true _ _ t)
      (λ t. absurd (let q = few_left input at (leb-false _ _ t) in let z : ◌≡◌ {A = ℕ} 0 1 = cc in omega arith))

  one_more_holds : (n : ℕ) (k : Numbers) → read_at input at ≡ Six k → Lines input (at + line_length) n → Lines input at (suc n)
  one_more_holds n k e s =
      let m : at + line_length + n * line_length ≡ at + suc n * line_length = omega arith in
      record { inside = rw m at s.inside; after = rw (six_left input at (six_inside k e) k e) (rw m at s.after) }

  -- a table line is refused, or it is six numbers
  by_line : (P : List Line → Type 0) → P [] → ((ls : List Line) → P (Bad ∷ ls)) → ((k : Numbers) → read_at input at ≡ Six k → P (Six k ∷ lines_from input (at + line_length))) → P (lines_from input at)
  by_line P f g h = go (read_at input at) refl
    where
      go : (l : Line) → read_at input at ≡ l → P (lines_from input at)
      go Bad e = no_six input at P f (g _) e
      go (Six k) e = rw (six_left input at (six_inside k e) k e) (h k e)

-- what an accepted reading says
abbrev Ends : List ℕ → ℕ → ℕ → ℕ → Reading → Type 0
Ends input at line n r = r.code ≡ 0 → (r.lines ≡ line + n) × Lines input at n

from_ends : (input : List ℕ) (n at line : ℕ) (d : Draft) → at ≤ length input → Ends input at line n (table_from n line d (lines_from input at))
unfolding table_from
from_ends input zero at line d h =
    by_test (Ends input at line 0) (flagged_from d.table.size 1 (windows d.table))
    (λ t q. (omega arith, no_lines input at h))
    (λ t q. absurd (omega arith))
from_ends input (suc n) at line d h =
    by_line input at (λ (ls : List Line). Ends input at line (suc n) (table_from (suc n) line d ls))
    (λ q. absurd (omega arith))
    (λ ls q. absurd (omega arith))
    (λ k e. by_test (Ends input at line (suc n)) (row_good d (row_of k))
    (λ t q. let s = from_ends input n (at + line_length) (line + 1) (with_row d (row_of k)) (six_inside input at k e) q in (omega (arith, s.0), one_more_holds input at n k e s.1))
    (λ t q. absurd (omega arith)))

-- a whole table
pub record TableEnd (input : List ℕ) (r : Reading) : Type 0 where
  pub inside : r.lines * line_length ≤ length input
  pub events : event_lines r input ≡ lines_from input (r.lines * line_length)

pub table_end : (input : List ℕ) → (read_table input).code ≡ 0 → TableEnd input (read_table input)
unfolding table_of
table_end input q =
    let s = whole q in
    let e : 0 + (read_table input).lines * line_length ≡ (read_table input).lines * line_length = omega arith in
    record { inside = rw e at s.inside; events = rw e at s.after }
  where
    All : Reading → Type 0
    All r = r.code ≡ 0 → Lines input 0 r.lines

    whole : All (read_table input)
    whole =
        by_line input 0 (λ (ls : List Line). All (table_of ls))
        (λ q. absurd (omega arith))
        (λ ls q. absurd (omega arith))
        (λ k e. by_test All (head_good (row_of k))
        (λ t q.
        let d = head_draft (row_of k) in
        let s = from_ends input (d.windows + d.channels) line_length 1 d (six_inside input 0 k e) q in
        let m : (table_from (d.windows + d.channels) 1 d (lines_from input line_length)).lines ≡ suc (d.windows + d.channels) = omega (arith, s.0) in
        rw m (one_more_holds input 0 (d.windows + d.channels) k e s.1))
        (λ t q. absurd (omega arith)))
