-- Every answer line of a replay can be written, and has 61 bytes. Assumes nothing.
use Prim.Native.Nat.{ℕ, ◌*◌, ◌≤◌}
use mathlib.Core.Path.{◌≡◌, refl, ap, ◌∙◌}
use mathlib.Core.Bool.{true}
use mathlib.Core.List.{List, [], ◌∷◌}
use mathlib.Core.Logic.{inl, inr}
use native.Mathlib.Omega.{arith}
use lib.ListN.{length, length-append}
use lib.IntN.{ℤ, pos}
use borrow.Author.Tests.{le-leb}
use Rattle.machine.specs.declared.Module.{Module}
use Rattle.machine.specs.declared.Answer.{Answer}
use Rattle.machine.specs.declared.Line.{Line}
use Rattle.machine.specs.declared.Line.TheVariants.{Six, Bad}
use Rattle.machine.specs.Time.{Time}
use Rattle.std.specs.Prelude.{None, Some}
use Rattle.machine.specs.Limits.{number_limit, line_length, partition_limit}
use Rattle.machine.specs.Line.{in_range, all_in_range, line_text}
use Rattle.machine.specs.Step.{step}
use Rattle.machine.specs.Module.{current, empty_table, empty_module}
use Rattle.machine.specs.Windows.{lookup}
use Rattle.machine.specs.Runs.{replies}
use Rattle.machine.specs.Replay.{event_of, time_number, answer_numbers, line_answer, line_next, texts}
use Rattle.machine.specs.Theorems.Valid.{NotAfter, AnswerInRange, ValidModule}
use Rattle.machine.proofs.TextLine.{line_length_holds}
use Rattle.machine.proofs.WindowLeft.{current_known}
use Rattle.machine.proofs.Reached.{step_valid}
use Rattle.machine.proofs.Answers.{answer_range}

natural : (n : ℕ) → n ≤ number_limit → in_range (pos n) ≡ true
unfolding in_range
natural n h = le-leb n number_limit h

time_in_range : (t : Time) → NotAfter number_limit t → in_range (time_number t) ≡ true
unfolding in_range
time_in_range None h = refl
time_in_range (Some n) h = le-leb n number_limit h

-- six numbers in range
six_in_range : (a b c d e f : ℤ) → in_range a ≡ true → in_range b ≡ true → in_range c ≡ true → in_range d ≡ true → in_range e ≡ true → in_range f ≡ true → all_in_range (a ∷ b ∷ c ∷ d ∷ e ∷ f ∷ []) ≡ true
unfolding all_in_range
six_in_range a b c d e f p q r s t u = rw (p, q, r, s, t, u)

answer_in_range : (size : ℕ) (a : Answer) → size ≤ partition_limit → AnswerInRange size a → all_in_range (answer_numbers a) ≡ true
answer_in_range size a few r =
    six_in_range (pos a.code) (pos a.value) (time_number a.extra) (pos a.t) (pos a.current) (pos a.running)
    (natural a.code (omega (arith, r.code))) (natural a.value r.value) (time_in_range a.extra r.extra)
    (natural a.t (omega (arith, r.t))) (natural a.current (omega (arith, r.current))) (natural a.running (omega (arith, r.running)))

-- every line's text has 61 bytes, whatever the answer
pub answer_length : (m : Module) (l : Line) → length (line_text (line_answer m l)) ≡ line_length
answer_length m (Six n) = line_length_holds (line_answer m (Six n))
answer_length m Bad = line_length_holds (line_answer m Bad)

-- what a replay prints: 61 bytes for each event line
pub texts_length : (m : Module) (ls : List Line) → length (texts (replies line_next line_answer m ls)) ≡ line_length * length ls
unfolding texts
texts_length m [] = refl
texts_length m (l ∷ ls) = length-append (line_text (line_answer m l)) (texts (replies line_next line_answer (line_next m l) ls)) ∙ omega (arith, answer_length m l, texts_length (line_next m l) ls)

pub line_valid : (m : Module) (l : Line) → ValidModule m → ValidModule (line_next m l)
line_valid m (Six n) v = step_valid m (event_of n) v
line_valid m Bad v = v

few_partitions : (m : Module) → ValidModule m → m.table.size ≤ partition_limit
unfolding empty_module empty_table
few_partitions m (inl h) = let z : m.table.size ≡ 0 = ap (λ (x : Module). x.table.size) h in omega arith
few_partitions m (inr s) = s.table.size.1

-- the answer to a bad line
bad_in_range : (m : Module) → ValidModule m → all_in_range (line_answer m Bad) ≡ true
unfolding empty_module empty_table lookup
bad_in_range m (inl h) =
    let t : m.t ≡ 0 = ap (λ (x : Module). x.t) h in
    let k : current m ≡ 0 = ap current h in
    six_in_range _ _ _ _ _ _ (natural 11 (omega arith)) (natural 0 (omega arith)) (natural 0 (omega arith)) (natural m.t (omega arith)) (natural (current m) (omega arith)) (natural 0 (omega arith))
bad_in_range m (inr s) =
    six_in_range _ _ _ _ _ _ (natural 11 (omega arith)) (natural 0 (omega arith)) (natural 0 (omega arith)) (natural m.t (omega (arith, s.time)))
    (natural (current m) (omega (arith, current_known m.table s.table m.t, s.table.size.1))) (natural 0 (omega arith))

-- every answer line can be written
pub line_in_range : (m : Module) (l : Line) → ValidModule m → all_in_range (line_answer m l) ≡ true
line_in_range m (Six n) v = answer_in_range m.table.size (step m (event_of n)).answer (few_partitions m v) (answer_range m (event_of n) v)
line_in_range m Bad v = bad_in_range m v
