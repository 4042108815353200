-- What the loops over the lines of an input keep, and what a replay gives back. Assumes nothing.
use Prim.Native.Nat.{ℕ, zero, suc, ◌+◌, ◌-◌, ◌*◌, ◌/◌, ◌≤◌, ◌<◌, min}
use mathlib.Core.Path.{◌≡◌, refl, sym, ap, ◌∙◌}
use mathlib.Core.Bool.{true, false}
use mathlib.Core.List.{List, [], ◌∷◌, ◌++◌, append_assoc, append-nil}
use native.Mathlib.Omega.{arith}
use native.Mathlib.Nat.{add-zero}
use lib.ListN.{length, take, drop, length-append, length-drop, length-map, take-append-drop}
use lib.Seq.{drop-drop, length-take-le}
use lib.Dec.{leb, eqb}
use lib.IntN.{ℤ}
use borrow.Author.Tests.{eq-eqb, ne_eqb, le-leb, lt-leb, leb-true}
use Rattle.machine.specs.declared.Module.{Module}
use Rattle.machine.specs.declared.Event.{Event}
use Rattle.machine.specs.declared.Line.{Line}
use Rattle.machine.specs.declared.Line.TheVariants.{Six, Bad}
use Rattle.machine.specs.declared.Numbers.{Numbers}
use Rattle.machine.specs.Runs.{after, replies}
use Rattle.machine.specs.Step.{step}
use Rattle.machine.specs.Limits.{line_length}
use Rattle.machine.specs.Line.{line_text, read_line, lines, line_end, read_at, all_in_range, can_write, write_code, written, written_at}
use Rattle.machine.specs.Table.{read_table}
use Rattle.machine.specs.Replay.{event_of, answer_numbers, line_answer, line_next, texts, refusal_numbers, bad_table_line, event_lines, replayed, text_into}
use Rattle.machine.specs.Theorems.Valid.{ValidModule, Reached}
use Rattle.machine.proofs.Bounds.{and_true_parts}
use Rattle.machine.proofs.Either.{either}
use Rattle.machine.proofs.Reached.{reached_valid}
use Rattle.machine.proofs.Replays.{answer_length, texts_length, line_valid, line_in_range}
use Rattle.machine.proofs.TextInput.{line_at, lines_end, six_end}
use Rattle.machine.proofs.TextLine.{line_length_holds, written_length}
use Rattle.executive.specs.Executive.{opened}
use Rattle.executive.specs.declared.Opening.{Opening}
use Rattle.event_lines.specs.declared.Block.{Block}
use Rattle.event_lines.specs.Blocks.{good_then, good_events, line_count, printed_line, printed_answers, over_at, block_events, block_text, block_of}
use Rattle.event_lines.proofs.Laws.{refusal_in_range}
use Rattle.event_lines.proofs.Blocks.{over_length, over_take, over_drop, over_more, six_inside, good_inside, block_fits, block_empty}
use Rattle.table.proofs.Laws.{lines_from, none_left, one_left}
use Rattle.table.proofs.Ends.{table_end}
use Rattle.std.specs.Prelude.{Ok, Err}
use Rattle.std.specs.Result.{result_unwrap_or}
use Rattle.whole_input.specs.declared.Refused.{Refused}
use Rattle.whole_input.specs.WholeInput.{Printed, no_room, refusal_printed, Counts, shown_length, shown_into, printed_text}

-- ---------------------------------------------------------------- the lines from a position on
-- how many they are
abbrev pub count_from : List ℕ → ℕ → ℕ
count_from input at = length (lines (drop at input))

-- so many lines from a position on are counted
pub record Counting (input : List ℕ) (from n at : ℕ) : Type 0 where
  pub few : n ≤ at
  pub count : n + count_from input at ≡ count_from input from

module _ (input : List ℕ) (from n at : ℕ) (k : Counting input from n at) where
  pub counted : length input ≤ at → n ≡ count_from input from
  counted h = omega (arith, k.count, ap length (lines_end input at h))

  pub counts_on : at < length input → Counting input from (n + 1) (line_end input at)
  counts_on h = let l = line_at input at h in record { few = omega (arith, l.after, k.few); count = omega (arith, k.count, ap length l.first) }

-- ---------------------------------------------------------------- what is printed
-- the answer lines from a position of the input on
abbrev answers_from : List ℕ → Module → ℕ → List ℕ
answers_from input m at = texts (replies line_next line_answer m (lines_from input at))

answers_length : (input : List ℕ) (m : Module) (at : ℕ) → length (answers_from input m at) ≡ line_length * count_from input at
answers_length input m at = texts_length m (lines_from input at) ∙ ap (◌*◌ line_length) (length-map (lines (drop at input)) read_line)

module _ (input : List ℕ) (m : Module) (at : ℕ) where
  no_answer_holds : length input ≤ at → answers_from input m at ≡ []
  unfolding texts
  no_answer_holds h = rw (none_left input at h)

  one_answer : at < length input → answers_from input m at ≡ line_text (line_answer m (read_at input at)) ++ answers_from input (line_next m (read_at input at)) (line_end input at)
  unfolding texts
  one_answer h = rw (one_left input at h)

-- a line in range that has room, written into the middle of an output
line_written : (out : List ℕ) (to : ℕ) (ns : List ℤ) → all_in_range ns ≡ true → to + length (line_text ns) ≤ length out → written_at to out ns ≡ over_at to (line_text ns) out
unfolding written
line_written out to ns range fits = rw (le-leb (length (line_text ns)) (length (drop to out)) (omega (arith, length-drop to out)), range)

-- ---------------------------------------------------------------- a text into an output
-- so many bytes of a text are printed, and this is left of it
pub record Printing (out₀ text left : List ℕ) (to : ℕ) (out : List ℕ) : Type 0 where
  pub room : length text ≤ length out₀
  pub size : length out ≡ length out₀
  pub inside : to ≤ length out
  pub front : take to out ++ left ≡ text
  pub back : drop to out ≡ drop to out₀

-- what is given back
abbrev pub Gives : List ℕ → List ℕ → Printed → List ℕ → Type 0
Gives text out r after = (r ≡ printed_text text (length out)) × (after ≡ text_into text out)

module _ (text out : List ℕ) where
  gives_all : length text ≤ length out → Gives text out (Ok (length text)) (text ++ drop (length text) out)
  gives_all h = rw (le-leb (length text) (length out) h) (refl, refl)

  gives_none : length out < length text → Gives text out no_room out
  gives_none h = rw (lt-leb (length text) (length out) h) (refl, refl)

  -- by how many lines it is
  module _ (n : ℕ) (long : length text ≡ line_length * n) where
    pub lines_too_many : length out / line_length < n → Gives text out no_room out
    lines_too_many h = gives_none (omega (arith, long))

    pub prints_first : (left : List ℕ) → text ≡ left → n ≤ length out / line_length → Printing out text left 0 out
    prints_first left e h = record { room = omega (arith, long); size = refl; inside = omega arith; front = sym e; back = refl }

module _ (out₀ text : List ℕ) (to : ℕ) (out : List ℕ) where
  pub prints_last : Printing out₀ text [] to out → Gives text out₀ (Ok to) out
  prints_last k =
      let all : take to out ≡ text = sym (append-nil (take to out)) ∙ k.front in
      let long : to ≡ length text = sym (length-take-le to out k.inside) ∙ ap length all in
      rw (← take-append-drop to out, all, k.back, long) (gives_all text out₀ k.room)

  -- one more line
  module _ (line rest : List ℕ) (k : Printing out₀ text (line ++ rest) to out) where
    text_fits : to + length line ≤ length out
    text_fits = omega (arith, ap length k.front, length-append (take to out) (line ++ rest), length-append line rest, length-take-le to out k.inside, k.room, k.size)

    prints_more : Printing out₀ text rest (to + length line) (over_at to line out)
    prints_more = record {
      room = k.room;
      size = over_length out to line text_fits ∙ k.size;
      inside = omega (arith, over_length out to line text_fits, text_fits);
      front = rw (over_take out to line text_fits) (append_assoc (take to out) line rest ∙ k.front);
      back = over_drop out to line text_fits ∙ ap (drop (length line)) k.back ∙ drop-drop (length line) to out₀;
    }

-- a line of numbers in range, by the line writer
module _ (out₀ text : List ℕ) (to : ℕ) (out : List ℕ) (ns : List ℤ) (six : length (line_text ns) ≡ line_length) (rest : List ℕ) (k : Printing out₀ text (line_text ns ++ rest) to out) where
  pub line_room : to + line_length ≤ length out₀
  line_room = omega (arith, text_fits out₀ text to out (line_text ns) rest k, six, k.size)

  pub line_more : all_in_range ns ≡ true → (out' : List ℕ) → out' ≡ written_at to out ns → Printing out₀ text rest (to + line_length) out'
  line_more range out' e =
      let n : to + line_length ≡ to + length (line_text ns) = omega (arith, six) in
      rw (e, line_written out to ns range (text_fits out₀ text to out (line_text ns) rest k), n) (prints_more out₀ text to out (line_text ns) rest k)

-- the lines before a position are answered, and so many bytes are printed
pub record Replaying (input out₀ : List ℕ) (m : Module) (at to : ℕ) (out : List ℕ) : Type 0 where
  pub valid : ValidModule m
  pub prints : Printing out₀ (replayed input) (answers_from input m at) to out

-- the code of the line writer
module _ (room code value w : ℕ) (e : w ≡ write_code room (refusal_numbers code value)) where
  pub refusal_done : w ≡ 0 → Ok line_length ≡ refusal_printed room code value
  refusal_done z = either (can_write room (refusal_numbers code value)) (λ t. rw t) (λ t. absurd (let q = rw t at (sym e ∙ z) in omega arith))

  pub refusal_no_room : (w ≡ 0 → ⊥) → no_room ≡ refusal_printed room code value
  refusal_no_room n = either (can_write room (refusal_numbers code value)) (λ t. absurd (n (e ∙ rw t))) (λ t. rw t)

-- what a program prints of a result
counts : (n : ℕ) (out : List ℕ) → n ≤ length out → Counts n out
counts n out h = (h, sym (length-take-le n out h))

abbrev Shown : List ℕ → Printed → ℕ → List ℕ → Type 0
Shown out r n after = ((n ≡ shown_length (length out) r) × (after ≡ shown_into out r)) × Counts n after

module _ (out : List ℕ) (r : Printed) where
  refusal_within : (x : Refused) → result_unwrap_or (refusal_printed (length out) x.code x.value) 0 ≤ length out
  refusal_within x =
      let ns = refusal_numbers x.code x.value in
      either (can_write (length out) ns)
      (λ t.
      let long = leb-true (length (line_text ns)) (length out) (and_true_parts (leb (length (line_text ns)) (length out)) (all_in_range ns) t).0 in
      rw t (omega (arith, long, line_length_holds ns)))
      (λ t. rw t (omega arith))

  pub shown_refused : (x : Refused) → r ≡ Err x → (p : Printed) → p ≡ refusal_printed (length out) x.code x.value → (after : List ℕ) → after ≡ written out (refusal_numbers x.code x.value)
      → (n : ℕ) → n ≡ result_unwrap_or p 0 → Shown out r n after
  shown_refused x is p e after f n g =
      let same : length after ≡ length out = ap length f ∙ written_length out (refusal_numbers x.code x.value) in
      let bytes : n ≡ result_unwrap_or (refusal_printed (length out) x.code x.value) 0 = rw e at g in
      rw is ((bytes, f), counts n after (omega (arith, refusal_within x, same)))

  pub shown_text : (k : ℕ) → r ≡ Ok k → (n : ℕ) → n ≡ min k (length out) → Shown out r n out
  shown_text k is n e = rw is ((e, refl), counts n out (omega arith))

-- by what table reading gives
module _ (input out : List ℕ) (o : Opening) (e : o ≡ opened (read_table input)) where
  same_code : (read_table input).code ≡ o.code
  same_code = sym (ap (λ (x : Opening). x.code) e)

  -- a bad table's line
  module _ (bad : o.code ≡ 0 → ⊥) where
    pub not_accepted : eqb (read_table input).code 0 ≡ false
    not_accepted = ne_eqb (read_table input).code 0 (λ z. bad (sym same_code ∙ z))

    module _ (r : Printed) (after : List ℕ) (p : r ≡ refusal_printed (length out) o.code o.value) (q : after ≡ written out (refusal_numbers o.code o.value)) where
      pub line_gives : (text : List ℕ) → text ≡ bad_table_line (read_table input) → Gives text out r after
      unfolding written
      line_gives text is =
          rw (p, q, e, refusal_in_range input, is, line_length_holds (refusal_numbers (read_table input).code (read_table input).value))
          (either (leb line_length (length out)) (λ t. rw t (refl, refl)) (λ t. rw t (refl, refl)))

      pub refusal_gives : Gives (replayed input) out r after
      unfolding replayed
      refusal_gives = line_gives (replayed input) (rw not_accepted)

  module _ (good : o.code ≡ 0) where
    pub accepted : (read_table input).code ≡ 0
    accepted = same_code ∙ good

    -- the lines after the table
    pub lines_after : event_lines (read_table input) input ≡ lines_from input (o.lines * line_length)
    lines_after = (table_end input accepted).events ∙ ap (λ (x : Opening). lines_from input (x.lines * line_length)) (sym e)

    accepted_text : replayed input ≡ answers_from input o.executive.inner (o.lines * line_length)
    unfolding replayed
    accepted_text = rw (eq-eqb (read_table input).code 0 accepted, lines_after, e)

    module _ (n : ℕ) (counted : n ≡ count_from input (o.lines * line_length)) where
      accepted_length : length (replayed input) ≡ line_length * n
      accepted_length = ap length accepted_text ∙ answers_length input o.executive.inner (o.lines * line_length) ∙ ap (◌*◌ line_length) (sym counted)

      pub too_many : length out / line_length < n → Gives (replayed input) out no_room out
      too_many = lines_too_many (replayed input) out n accepted_length

      pub begins : n ≤ length out / line_length → Replaying input out o.executive.inner (o.lines * line_length) 0 out
      begins h = record {
        valid = rw e (reached_valid (read_table input).state (Reached.read input));
        prints = prints_first (replayed input) out n accepted_length (answers_from input o.executive.inner (o.lines * line_length)) accepted_text h;
      }

module _ (input out₀ : List ℕ) (m : Module) (at to : ℕ) (out : List ℕ) (k : Replaying input out₀ m at to out) where
  pub ends : length input ≤ at → Gives (replayed input) out₀ (Ok to) out
  ends h = prints_last out₀ (replayed input) to out (rw (no_answer_holds input m at h) at k.prints)

  -- one more line
  module _ (more : at < length input) where
    abbrev l : Line
    l = read_at input at

    abbrev text : List ℕ
    text = line_text (line_answer m l)

    abbrev rest : List ℕ
    rest = answers_from input (line_next m l) (line_end input at)

    prints_answer : Printing out₀ (replayed input) (text ++ rest) to out
    prints_answer = rw (one_answer input m at more) at k.prints

    pub line_fits : to + line_length ≤ length out₀
    line_fits = line_room out₀ (replayed input) to out (line_answer m l) (answer_length m l) rest prints_answer

    next : Replaying input out₀ (line_next m l) (line_end input at) (to + length text) (over_at to text out)
    next = record { valid = line_valid m l k.valid; prints = prints_more out₀ (replayed input) to out text rest prints_answer }

    pub goes_on : (m' : Module) → m' ≡ line_next m l → (out' : List ℕ) → out' ≡ written_at to out (line_answer m l) → (at' : ℕ) → at' ≡ line_end input at → Replaying input out₀ m' at' (to + line_length) out'
    goes_on m' e out' f at' g = rw (e, g) (record {
      valid = line_valid m l k.valid;
      prints = line_more out₀ (replayed input) to out (line_answer m l) (answer_length m l) rest prints_answer (line_in_range m l k.valid) out' f;
    })

  -- an event line
  event_next : (q : Numbers) → read_at input at ≡ Six q → let x = step m (event_of q) in
      Replaying input out₀ x.state (at + line_length) (to + length (printed_line (answer_numbers x.answer))) (over_at to (printed_line (answer_numbers x.answer)) out)
  event_next q e = rw (line_in_range m (Six q) k.valid) (rw (six_end input at q e) at (rw e at (next (omega (arith, six_inside input at q e)))))

-- ---------------------------------------------------------------- a block of event lines
abbrev BlockDone : List ℕ → List ℕ → Module → ℕ → ℕ → List ℕ → List Event → Type 0
BlockDone input out₀ m at to out es = Replaying input out₀ (after m es) (at + length es * line_length) (to + length (block_text m es)) (over_at to (block_text m es) out)

module _ (input out₀ : List ℕ) where
  block_none : (m : Module) (at to : ℕ) (out : List ℕ) → Replaying input out₀ m at to out → BlockDone input out₀ m at to out []
  unfolding printed_answers
  block_none m at to out k = rw (take-append-drop to out, add-zero, add-zero) k

  block_more : (m : Module) (at to : ℕ) (out : List ℕ) (q : Numbers) (es : List Event) → Replaying input out₀ m at to out
      → (let x = step m (event_of q) in let t = printed_line (answer_numbers x.answer) in (to + length t ≤ length out) × BlockDone input out₀ x.state (at + line_length) (to + length t) (over_at to t out) es)
      → BlockDone input out₀ m at to out (event_of q ∷ es)
  unfolding printed_answers
  block_more m at to out q es k b =
      let x = step m (event_of q) in
      let t = printed_line (answer_numbers x.answer) in
      let u = block_text x.state es in
      let place : at + line_length + length es * line_length ≡ at + suc (length es) * line_length = omega arith in
      let size : to + length t + length u ≡ to + length (t ++ u) = omega (arith, length-append t u) in
      rw (place, size, over_more out to t b.0 u) at b.1

  block_done : (n : ℕ) (m : Module) (at to : ℕ) (out : List ℕ) → Replaying input out₀ m at to out → BlockDone input out₀ m at to out (good_events n (drop at input))
  unfolding good_events
  block_done zero m at to out k = block_none m at to out k
  block_done (suc n) m at to out k = one (read_at input at) refl (λ m to out. block_done n m (at + line_length) to out)
    where
      one : (l : Line) → read_at input at ≡ l
          → ((m : Module) (to : ℕ) (out : List ℕ) → Replaying input out₀ m (at + line_length) to out → BlockDone input out₀ m (at + line_length) to out (good_events n (drop (at + line_length) input)))
          → BlockDone input out₀ m at to out (good_then l (good_events n (drop line_length (drop at input))))
      one Bad e f = block_none m at to out k
      one (Six q) e f =
          let x = step m (event_of q) in
          let t = printed_line (answer_numbers x.answer) in
          let r = event_next input out₀ m at to out k q e in
          rw (drop-drop line_length at input)
          (block_more m at to out q (good_events n (drop (at + line_length) input)) k
          (omega (arith, r.prints.inside, r.prints.size, k.prints.size), f x.state (to + length t) (over_at to t out) r))

module _ (input out₀ : List ℕ) (m : Module) (at to : ℕ) (out : List ℕ) (k : Replaying input out₀ m at to out) (r : Block) (did : r ≡ block_of m (block_events input at out to)) where
  pub block_inside : at ≤ length input → at + r.lines * line_length ≤ length input
  block_inside h = omega (arith, ap (λ (b : Block). b.lines) did, good_inside (line_count (length out - to)) (drop at input), length-drop at input)

  pub block_room : to + r.printed ≤ length out
  block_room = omega (arith, ap (λ (b : Block). b.printed) did, block_fits m input out at to k.prints.inside)

  pub block_goes_on : (out' : List ℕ) → out' ≡ over_at to (block_text m (block_events input at out to)) out → Replaying input out₀ r.executive.inner (at + r.lines * line_length) (to + r.printed) out'
  block_goes_on out' e = rw (e, did) (block_done input out₀ (line_count (length out - to)) m at to out k)

  -- no line is taken
  pub block_skipped : (out' : List ℕ) → out' ≡ over_at to (block_text m (block_events input at out to)) out → r.lines ≤ 0 → Replaying input out₀ m at to out'
  block_skipped out' e h = rw (e, block_empty m input out at to r did h) k
