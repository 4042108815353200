-- What the loop over lines that ask for waiting times keeps. Assumes nothing.
use Prim.Native.Nat.{ℕ, ◌+◌, ◌*◌, ◌/◌, ◌≤◌, ◌<◌}
use mathlib.Core.Path.{◌≡◌, refl, sym, ap, ◌∙◌}
use mathlib.Core.Bool.{Bool, true, false}
use mathlib.Core.List.{List, [], ◌∷◌, ◌++◌, map}
use native.Mathlib.Omega.{arith}
use lib.ListN.{length, drop, length-append, length-map}
use lib.IntN.{ℤ}
use borrow.Author.Tests.{eq-eqb, le-leb}
use Rattle.machine.specs.declared.Line.{Line}
use Rattle.machine.specs.declared.Line.TheVariants.{Six, Bad}
use Rattle.machine.specs.declared.Numbers.{Numbers}
use Rattle.machine.specs.declared.Row.{Row}
use Rattle.machine.specs.declared.Table.{Table}
use Rattle.machine.specs.Windows.{Waiting}
use Rattle.machine.specs.Fields.{field, number_of, row_of}
use Rattle.machine.specs.Limits.{line_length, number_limit}
use Rattle.machine.specs.Line.{line_refusal, line_text, in_range, all_in_range, read_line, lines, line_end, read_at, written, written_at}
use Rattle.machine.specs.Replay.{texts, refusal_numbers}
use Rattle.machine.specs.Table.{read_table}
use Rattle.machine.specs.Theorems.Valid.{SoundTable}
use Rattle.machine.specs.Windows.{owned_by, next_start, waiting_refused, waiting_of}
use Rattle.machine.proofs.Starts.{next_bounds}
use Rattle.machine.proofs.Tables.{table_read}
use Rattle.machine.proofs.Tests.{by_test}
use Rattle.machine.proofs.TextLine.{line_length_holds}
use Rattle.executive.specs.Executive.{opened}
use Rattle.executive.specs.declared.Opening.{Opening}
use Rattle.table.proofs.Laws.{lines_from, none_left, one_left}
use Rattle.std.specs.Prelude.{Ok}
use Rattle.whole_input.specs.WholeInput.{Printed, no_room, refusal_printed}
use Rattle.whole_input.specs.WaitingTimes.{is_question, refused_waiting, gets, waiting_numbers, line_waiting, asked}
use Rattle.whole_input.proofs.Laws.{count_from, Printing, Gives, lines_too_many, prints_first, prints_last, line_room, line_more, not_accepted, line_gives, accepted, lines_after}

-- ---------------------------------------------------------------- one line
-- every answer can be written
waiting_range : (T : Table) → SoundTable T → (t k : ℤ) → all_in_range (waiting_numbers (waiting_of T t k)) ≡ true
unfolding all_in_range in_range waiting_of
waiting_range T s t k =
    let n = next_start T (number_of (field t)) (owned_by (number_of (field k))) in
    by_test (λ (w : Waiting). all_in_range (waiting_numbers w) ≡ true) (waiting_refused T (field t) (field k))
    (λ _. refl)
    (λ _. rw (le-leb n number_limit (omega (arith, (next_bounds T s (number_of (field t)) (owned_by (number_of (field k)))).1, s.frame.1))))

line_range : (T : Table) → SoundTable T → (l : Line) → all_in_range (line_waiting T l) ≡ true
unfolding all_in_range in_range
line_range T s (Six n) = by_test (λ (w : Waiting). all_in_range (waiting_numbers w) ≡ true) (is_question (row_of n)) (λ _. waiting_range T s n.n1 n.n2) (λ _. refl)
line_range T s Bad = refl

-- what a line gets, by its numbers
module _ (T : Table) (l : Line) (n : Numbers) (is : l ≡ Six n) (r : Row) (row : r ≡ row_of n) (b : Bool) (asks : b ≡ is_question r) where
  pub gets_unused : b ≡ false → refused_waiting 13 ≡ gets T l
  gets_unused h = let q : is_question (row_of n) ≡ false = rw row at (sym asks ∙ h) in rw (is, q)

  pub gets_time : b ≡ true → (t k : ℤ) → t ≡ n.n1 → k ≡ n.n2 → (w : Waiting) → w ≡ waiting_of T t k → w ≡ gets T l
  gets_time h t k e f w a = let q : is_question (row_of n) ≡ true = rw row at (sym asks ∙ h) in rw (is, q) (rw (e, f) at a)

pub gets_bad : (T : Table) (l : Line) → l ≡ Bad → refused_waiting line_refusal ≡ gets T l
gets_bad T l is = rw is

-- the numbers of its answer
pub waiting_line : (T : Table) (l m : Line) → l ≡ m → (w : Waiting) → w ≡ gets T l → waiting_numbers w ≡ line_waiting T m
waiting_line T l m e w f = rw (f, e)

-- ---------------------------------------------------------------- what is printed
-- the answer lines from a position of the input on
abbrev asked_from : List ℕ → Table → ℕ → List ℕ
asked_from input T at = texts (map (line_waiting T) (lines_from input at))

asked_texts : (T : Table) (ls : List Line) → length (texts (map (line_waiting T) ls)) ≡ line_length * length ls
unfolding texts
asked_texts T [] = refl
asked_texts T (l ∷ ls) = length-append (line_text (line_waiting T l)) (texts (map (line_waiting T) ls)) ∙ omega (arith, line_length_holds (line_waiting T l), asked_texts T ls)

-- the lines before a position are answered, and so many bytes are printed
pub record Asking (input out₀ : List ℕ) (T : Table) (at to : ℕ) (out : List ℕ) : Type 0 where
  pub sound : SoundTable T
  pub prints : Printing out₀ (asked input) (asked_from input T at) to out

module _ (input out₀ : List ℕ) (T : Table) (at to : ℕ) (out : List ℕ) (k : Asking input out₀ T at to out) where
  pub asking_ends : length input ≤ at → Gives (asked input) out₀ (Ok to) out
  unfolding texts
  asking_ends h = prints_last out₀ (asked input) to out (rw (none_left input at h) at k.prints)

  module _ (more : at < length input) where
    abbrev ns : List ℤ
    ns = line_waiting T (read_at input at)

    abbrev rest : List ℕ
    rest = asked_from input T (line_end input at)

    prints_answer : Printing out₀ (asked input) (line_text ns ++ rest) to out
    unfolding texts
    prints_answer = rw (one_left input at more) at k.prints

    pub line_fits : to + line_length ≤ length out₀
    line_fits = line_room out₀ (asked input) to out ns (line_length_holds ns) rest prints_answer

    pub asked_on : (out' : List ℕ) → out' ≡ written_at to out ns → (at' : ℕ) → at' ≡ line_end input at → Asking input out₀ T at' (to + line_length) out'
    asked_on out' f at' g = rw g (record {
      sound = k.sound;
      prints = line_more out₀ (asked input) to out ns (line_length_holds ns) rest prints_answer (line_range T k.sound (read_at input at)) out' f;
    })

-- ---------------------------------------------------------------- by what table reading gives
module _ (input out : List ℕ) (o : Opening) (e : o ≡ opened (read_table input)) where
  pub refusal_asked : (o.code ≡ 0 → ⊥) → (r : Printed) (after : List ℕ) → r ≡ refusal_printed (length out) o.code o.value → after ≡ written out (refusal_numbers o.code o.value) → Gives (asked input) out r after
  unfolding asked
  refusal_asked bad r after p q = line_gives input out o e bad r after p q (asked input) (rw (not_accepted input out o e bad))

  module _ (good : o.code ≡ 0) where
    asked_text : asked input ≡ asked_from input o.executive.inner.table (o.lines * line_length)
    unfolding asked
    asked_text = rw (eq-eqb (read_table input).code 0 (accepted input out o e good), lines_after input out o e good, e)

    module _ (n : ℕ) (counted : n ≡ count_from input (o.lines * line_length)) where
      asked_length : length (asked input) ≡ line_length * n
      asked_length =
          let at = o.lines * line_length in
          ap length asked_text ∙ asked_texts o.executive.inner.table (lines_from input at) ∙ ap (◌*◌ line_length) (length-map (lines (drop at input)) read_line ∙ sym counted)

      pub asked_too_many : length out / line_length < n → Gives (asked input) out no_room out
      asked_too_many = lines_too_many (asked input) out n asked_length

      pub asking_begins : n ≤ length out / line_length → Asking input out o.executive.inner.table (o.lines * line_length) 0 out
      asking_begins h = record {
        sound = rw e ((table_read input).accepted (accepted input out o e good)).0;
        prints = prints_first (asked input) out n asked_length (asked_from input o.executive.inner.table (o.lines * line_length)) asked_text h;
      }
