-- The parts of a stream's code, put together, are its definitions. Assumes nothing.
use Prim.Native.Nat.{ℕ}
use mathlib.Core.Path.{◌≡◌, sym, ap, ◌∙◌}
use mathlib.Core.Bool.{Bool, true, false, not, ◌&&◌}
use mathlib.Core.List.{List}
use lib.ListN.{length}
use borrow.Author.Tests.{eq-eqb, ne_eqb}
use Rattle.std.specs.Prelude.{Option}
use Rattle.machine.specs.declared.Numbers.{Numbers}
use Rattle.machine.specs.Table.{read_table}
use Rattle.executive.specs.Executive.{opened}
use Rattle.executive.specs.declared.Opening.{Opening}
use Rattle.event_lines.specs.Blocks.{over_at}
use Rattle.stream.specs.declared.Stage.{Stage}
use Rattle.stream.specs.declared.Printout.{Printout}
use Rattle.stream.specs.declared.Place.{Place}
use Rattle.stream.specs.Stream.{nothing_printed, refusal, missing, accepted, table_turn, text_of}

-- by the stage that a place has
pub by_stage : (f : Stage → Printout) (a b : Stage) → a ≡ b → (y : Printout) → y ≡ f b → y ≡ f a
by_stage f a b e y h = h ∙ ap f (sym e)

-- ---------------------------------------------------------------- the table so far
module _ (ended : Bool) (x : Place) (text : List ℕ) (r : Opening) (e : r ≡ opened (read_table text)) where
  same_code : (read_table text).code ≡ r.code
  same_code = sym (ap (λ (o : Opening). o.code) e)

  pub turn_accepted : r.code ≡ 0 → accepted r.executive ≡ table_turn ended x text
  turn_accepted h = rw (e, eq-eqb (read_table text).code 0 (same_code ∙ h))

  module _ (h : r.code ≡ 0 → ⊥) (b : Bool) (m : b ≡ (not ended && missing r.code r.value (length text))) where
    pub turn_missing : b ≡ true → nothing_printed x ≡ table_turn ended x text
    turn_missing t = rw (ne_eqb (read_table text).code 0 (λ z. h (sym same_code ∙ z)), rw e at (sym m ∙ t))

    pub turn_refused : b ≡ false → refusal x r.code r.value ≡ table_turn ended x text
    turn_refused t = rw (ne_eqb (read_table text).code 0 (λ z. h (sym same_code ∙ z)), rw e at (sym m ∙ t), e)

-- ---------------------------------------------------------------- a line of output
-- how many bytes are printed at a position, and the output after
abbrev pub Prints : List ℕ → ℕ → Option Numbers → ℕ → List ℕ → Type 0
Prints out to numbers k after = (k ≡ length (text_of numbers)) × (after ≡ over_at to (text_of numbers) out)
