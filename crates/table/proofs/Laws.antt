-- Tests one after another, the final check's loops, and the lines of a table one by one. Assumes nothing.
use Prim.Native.Nat.{ℕ, suc, ◌+◌, ◌-◌, ◌≤◌, ◌<◌}
use mathlib.Core.Path.{◌≡◌, refl, sym, ap, ◌∙◌}
use mathlib.Core.Bool.{Bool, true, false, cond, not, ◌&&◌}
use mathlib.Core.List.{List, [], ◌∷◌, map}
use native.Mathlib.Omega.{arith}
use lib.ListN.{length, get_or, take, drop, drop_of_length-le}
use lib.Dec.{eqb, ltb}
use borrow.Author.Tests.{eq-eqb, ne_eqb, ltb-true, ltb-false}
use Rattle.machine.specs.declared.Window.{Window}
use Rattle.machine.specs.declared.Draft.{Draft}
use Rattle.machine.specs.declared.Reading.{Reading}
use Rattle.machine.specs.declared.Row.{Row}
use Rattle.machine.specs.declared.Numbers.{Numbers}
use Rattle.machine.specs.declared.Line.{Line}
use Rattle.machine.specs.declared.Line.TheVariants.{Six, Bad}
use Rattle.machine.specs.Limits.{line_length}
use Rattle.machine.specs.Windows.{no_window, flagged_for}
use Rattle.machine.specs.Fields.{row_of}
use Rattle.machine.specs.Line.{read_line, meaning, line_meaning, lines, line_refusal, line_end, read_at}
use Rattle.machine.specs.Table.{head_good, head_draft, row_good, with_row, has_flagged, flagged_from, refused_table, checked_table, table_from, table_head, table_of, read_table}
use Rattle.machine.proofs.Either.{either}
use lib.Seq.{drop-cons}
use native.Mathlib.Numerals.{add-one}
use Rattle.machine.proofs.TextInput.{line_at, lines_end, six_end}
use Rattle.line.proofs.Meaning.{reads}
use Rattle.line.proofs.Parts.{part_is}
use Rattle.std.specs.Prelude.{Ok, Err}
use Rattle.machine.specs.declared.Refusal.TheVariants.{BadLine}
use Rattle.table.specs.declared.Refused.{Refused}
use Rattle.table.specs.Given.{row_in}
use Rattle.table.specs.Room.{Room}
use Rattle.machine.proofs.Tables.{SoundDraft, head_draft_holds, row_draft}

-- ---------------------------------------------------------------- tests one after another
pub and_no : {a x : Bool} (b : Bool) → x ≡ a → x ≡ false → x ≡ (a && b)
and_no b e f = rw (sym e ∙ f) f

pub and_yes : {a x y : Bool} (b : Bool) → y ≡ a → y ≡ true → x ≡ b → x ≡ (a && b)
and_yes b e t f = rw (sym e ∙ t) f

-- two numbers that are not to be equal
pub apart_no : {m n x y : ℕ} (b : Bool) → m ≡ x → n ≡ y → m ≡ n → not (eqb m n) ≡ (not (eqb x y) && b)
apart_no {m} {n} b p q e = rw (← p, ← q, eq-eqb m n e)

pub apart_yes : {m n x y : ℕ} {z : Bool} (b : Bool) → m ≡ x → n ≡ y → (m ≡ n → ⊥) → z ≡ b → z ≡ (not (eqb x y) && b)
apart_yes {m} {n} b p q e f = rw (← p, ← q, ne_eqb m n e) f

-- ---------------------------------------------------------------- the final check
module _ (ws : List Window) (k i : ℕ) where
  window_at : i < length ws → drop i ws ≡ get_or ws i no_window ∷ drop (i + 1) ws
  window_at h = rw add-one (drop-cons ws i no_window h)

  -- a flagged window of partition k is found
  pub window_found : i < length ws → (b : Bool) → b ≡ flagged_for k (get_or ws i no_window) → b ≡ true
      → has_flagged k (drop i ws) ≡ has_flagged k ws → has_flagged k ws ≡ true
  unfolding has_flagged
  window_found h b f t q = sym q ∙ rw (window_at h, sym f ∙ t)

  -- this window is not one
  pub window_passed : i < length ws → (b : Bool) → b ≡ flagged_for k (get_or ws i no_window) → b ≡ false
      → has_flagged k (drop i ws) ≡ has_flagged k ws → has_flagged k (drop (i + 1) ws) ≡ has_flagged k ws
  unfolding has_flagged
  window_passed h b f t q = sym (rw (window_at h, sym f ∙ t)) ∙ q

  -- none is
  pub window_missing : length ws ≤ i → has_flagged k (drop i ws) ≡ has_flagged k ws → has_flagged k ws ≡ false
  unfolding has_flagged
  window_missing h q = sym q ∙ rw (drop_of_length-le ws h)

pub partitions_start : (size : ℕ) (ws : List Window) → flagged_from (size + 1 - 1) 1 ws ≡ flagged_from size 1 ws
partitions_start size ws = let e : size + 1 - 1 ≡ size = omega arith in rw e

-- the partitions from k on are left
module _ (k k₀ size : ℕ) (ws : List Window) (same : k ≡ k₀) (x : Bool) (q : flagged_from (size + 1 - k₀) k₀ ws ≡ x) where
  left : k ≤ size → (has_flagged k ws && flagged_from (size + 1 - (k + 1)) (k + 1) ws) ≡ x
  unfolding flagged_from
  left h = let e : size + 1 - k ≡ suc (size + 1 - (k + 1)) = omega arith in rw (← same, e) at q

  pub partition_flagged : k ≤ size → has_flagged k ws ≡ true → flagged_from (size + 1 - (k + 1)) (k + 1) ws ≡ x
  partition_flagged h f = rw f at (left h)

  pub partition_unflagged : k ≤ size → has_flagged k ws ≡ false → false ≡ x
  partition_unflagged h f = rw f at (left h)

  pub partitions_end : size < k → true ≡ x
  unfolding flagged_from
  partitions_end h = let e : size + 1 - k ≡ 0 = omega arith in rw (← same, e) at q

-- the last partition has one
pub last_flagged : (k k₀ size : ℕ) (ws : List Window) → k ≡ k₀ → (x : Bool) → flagged_from (size + 1 - k₀) k₀ ws ≡ x → k ≤ size → size ≤ k → has_flagged k ws ≡ true → true ≡ x
last_flagged k k₀ size ws same x q h l f = partitions_end (k + 1) (k + 1) size ws refl x (partition_flagged k k₀ size ws same x q h f) (omega arith)

-- ---------------------------------------------------------------- the lines of a table one by one
-- what the lines from a position on read as
abbrev pub lines_from : List ℕ → ℕ → List Line
lines_from input at = map read_line (lines (drop at input))

module _ (input : List ℕ) (at : ℕ) where
  pub none_left : length input ≤ at → lines_from input at ≡ []
  none_left h = rw (lines_end input at h)

  pub one_left : at < length input → lines_from input at ≡ read_at input at ∷ lines_from input (line_end input at)
  one_left h = let l = line_at input at h in rw (l.first, l.reads)

  pub six_left : at + line_length ≤ length input → (k : Numbers) → read_at input at ≡ Six k → lines_from input at ≡ Six k ∷ lines_from input (at + line_length)
  six_left h k e = one_left (omega arith) ∙ rw (e, six_end input at k e)

  -- no line is left, or a line that is refused
  pub no_six : (P : List Line → Type 0) → P [] → P (Bad ∷ lines_from input (line_end input at)) → read_at input at ≡ Bad → P (lines_from input at)
  no_six P f g e =
      either (ltb at (length input))
      (λ t. rw (one_left (ltb-true _ _ t), e) g)
      (λ t. rw (none_left (ltb-false _ _ t)) f)

-- what a part of the input reads as
pub part_read : (input : List ℕ) (at : ℕ) (l : Line) → meaning l ≡ line_meaning (take (at + line_length - at) (drop at input)) → (m : Line) → l ≡ m → read_at input at ≡ m
part_read input at l e m f = sym (reads l _ e ∙ ap read_line (part_is at line_length input)) ∙ f

-- a row that a line gave, and a line that gave none
pub row_six : (n : ℕ) {row : Row} (l : Line) → row_in n l ≡ Ok row → (k : Numbers) × (l ≡ Six k) × (row ≡ row_of k)
row_six n (Six k) e = (k, refl, cc)
row_six n Bad e = cc

pub row_bad : (n : ℕ) {r : Refused} (l : Line) → row_in n l ≡ Err r → (l ≡ Bad) × (r ≡ record { why = BadLine; line = n })
row_bad n (Six k) e = cc
row_bad n Bad e = (refl, cc)

-- line 1
module _ (input : List ℕ) where
  pub first_refused : read_at input 0 ≡ Bad → refused_table line_refusal 1 ≡ read_table input
  unfolding table_of
  first_refused e = no_six input 0 (λ (ls : List Line). refused_table line_refusal 1 ≡ table_of ls) refl refl e

  module _ (h : line_length ≤ length input) (k : Numbers) (e : read_at input 0 ≡ Six k) (row : Row) (f : row ≡ row_of k) where
    pub head_taken : table_head row (lines_from input line_length) ≡ read_table input
    unfolding table_of
    head_taken = rw f (sym (ap table_of (six_left input 0 h k e)))

    pub head_refused : (b : Bool) → b ≡ head_good row → b ≡ false → refused_table 12 1 ≡ read_table input
    head_refused b g t = rw (sym g ∙ t) at head_taken

-- the draft that line 1 gives
module _ (r : Row) (d : Draft) (ls : List Line) (h : head_good r ≡ true) (q : d ≡ head_draft r) where
  pub head_sound : SoundDraft (1 + d.windows + d.channels - 1) d × (table_from (1 + d.windows + d.channels - 1) 1 d ls ≡ table_from (d.windows + d.channels) 1 d ls)
  head_sound = let e : 1 + d.windows + d.channels - 1 ≡ d.windows + d.channels = omega arith in rw e (rw q (head_draft_holds r h), refl)

  pub head_read : (x : Reading) → x ≡ table_from (d.windows + d.channels) 1 d ls → x ≡ table_head r ls
  head_read x e = rw h (rw q at e)

-- another line is due
pub room : (n : ℕ) (d : Draft) → SoundDraft n d → 0 < n → Room d
room n d s h = record { window = s.announced.1; channel = λ w. omega (arith, s.left, s.announced_channels) }

module _ (input : List ℕ) (at total line : ℕ) (d : Draft) (more : line < total) (x : Reading) (q : table_from (total - line) line d (lines_from input at) ≡ x) where
  next : table_from (suc (total - (line + 1))) line d (lines_from input at) ≡ x
  next = let e : total - line ≡ suc (total - (line + 1)) = omega arith in rw e at q

  pub line_refused : read_at input at ≡ Bad → refused_table line_refusal (line + 1) ≡ x
  unfolding table_from
  line_refused e = no_six input at (λ (ls : List Line). refused_table line_refusal (line + 1) ≡ table_from (suc (total - (line + 1))) line d ls) refl refl e ∙ next

  module _ (h : at + line_length ≤ length input) (k : Numbers) (e : read_at input at ≡ Six k) (row : Row) (f : row ≡ row_of k) where
    row_next : cond (row_good d row) (table_from (total - (line + 1)) (line + 1) (with_row d row) (lines_from input (at + line_length))) (refused_table 12 (line + 1)) ≡ x
    unfolding table_from
    row_next = rw f (rw (six_left input at h k e) at next)

    pub row_refused : (b : Bool) → b ≡ row_good d row → b ≡ false → refused_table 12 (line + 1) ≡ x
    row_refused b g t = rw (sym g ∙ t) at row_next

    pub row_taken : (b : Bool) → b ≡ row_good d row → b ≡ true → (d' : Draft) → d' ≡ with_row d row → SoundDraft (total - line) d
        → SoundDraft (total - (line + 1)) d' × (table_from (total - (line + 1)) (line + 1) d' (lines_from input (at + line_length)) ≡ x)
    row_taken b g t d' w s =
        let n : total - line ≡ suc (total - (line + 1)) = omega arith in
        let good : row_good d row ≡ true = sym g ∙ t in
        rw w (row_draft (total - (line + 1)) d row (rw n at s) good, rw good at row_next)

-- no line is left to read
pub lines_done : (total line : ℕ) (d : Draft) (ls : List Line) (x : Reading) → total ≤ line → table_from (total - line) line d ls ≡ x → checked_table d.table line ≡ x
unfolding table_from
lines_done total line d ls x h q = let e : total - line ≡ 0 = omega arith in rw e at q

-- the same by the number of all
pub all_lines_done : (total line : ℕ) (d : Draft) (ls : List Line) (x : Reading) → line ≡ total → table_from (total - line) line d ls ≡ x → checked_table d.table total ≡ x
all_lines_done total line d ls x same q = ap (checked_table d.table) (sym same) ∙ lines_done total line d ls x (omega (arith, same)) q
