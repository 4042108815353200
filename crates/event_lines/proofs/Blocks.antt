-- What the loops over the lines of a block keep, and that a block is the run of its events. Assumes nothing.
use Prim.Native.Nat.{ℕ, zero, suc, ◌+◌, ◌-◌, ◌*◌, ◌/◌, ◌≤◌, ◌<◌}
use mathlib.Core.Path.{◌≡◌, refl, sym, ap, ◌∙◌}
use mathlib.Core.Bool.{true, false}
use mathlib.Core.List.{List, [], ◌∷◌, ◌++◌, append_assoc, append-nil}
use native.Mathlib.Omega.{arith}
use lib.ListN.{length, take, drop, length-append, length-take, length-drop, take-append-drop}
use lib.Seq.{take_at, drop_at, drop-drop, length-take-le, sets, sets-eq, length-sets}
use lib.Dec.{leb}
use lib.IntN.{ℤ}
use borrow.Author.Tests.{le-leb, leb-true, leb-false}
use Rattle.machine.specs.declared.Answer.{Answer}
use Rattle.machine.specs.declared.Event.{Event}
use Rattle.machine.specs.declared.EventRecord.{EventRecord}
use Rattle.machine.specs.declared.Line.{Line}
use Rattle.machine.specs.declared.Line.TheVariants.{Six, Bad}
use Rattle.machine.specs.declared.Module.{Module}
use Rattle.machine.specs.declared.Numbers.{Numbers}
use Rattle.machine.specs.Runs.{next, after, answers}
use Rattle.machine.specs.Limits.{line_length}
use Rattle.machine.specs.Line.{line_text, number_list, numbers_of, all_in_range, can_write, write_code, written, written_at, read_line, read_at}
use Rattle.machine.specs.Replay.{event_of, answer_numbers}
use Rattle.machine.proofs.Either.{either}
use Rattle.machine.proofs.Tests.{by_test, and_left, and_right}
use Rattle.machine.proofs.TextInput.{few_left}
use Rattle.machine.specs.Step.{step}
use Rattle.machine.proofs.TextLine.{read_six, six_length}
use Rattle.executive.specs.declared.Executive.{Executive}
use Rattle.executive.specs.Lists.{six, numbers_in, after_list, answered_list, event_numbers}
use Rattle.executive.proofs.Lists.{numbers_length, list_after, list_answered}
use Rattle.event_lines.specs.declared.Block.{Block}
use Rattle.event_lines.specs.Blocks.{block_limit, good_then, good_events, line_count, printed_line, roomed_line, printed_sixes, printed_answers, over, over_at, block_events, block_text, block_of}

-- ---------------------------------------------------------------- one text after another
module _ (out : List ℕ) (to : ℕ) (text : List ℕ) (fits : to + length text ≤ length out) where
  front : length (take to out) ≡ to
  front = length-take-le to out (omega arith)

  long : length (take to out ++ text) ≡ to + length text
  long = length-append (take to out) text ∙ omega (arith, front)

  over_is : over_at to text out ≡ (take to out ++ text) ++ drop (length text) (drop to out)
  over_is = sym (append_assoc (take to out) text (drop (length text) (drop to out)))

  pub over_length : length (over_at to text out) ≡ length out
  over_length = ap length over_is ∙ length-append (take to out ++ text) _ ∙ omega (arith, long, length-drop (length text) (drop to out), length-drop to out)

  pub over_take : take (to + length text) (over_at to text out) ≡ take to out ++ text
  over_take = rw over_is (take_at (take to out ++ text) (drop (length text) (drop to out)) (to + length text) long)

  pub over_drop : drop (to + length text) (over_at to text out) ≡ drop (length text) (drop to out)
  over_drop = rw over_is (drop_at (take to out ++ text) (drop (length text) (drop to out)) (to + length text) long)

  pub over_more : (more : List ℕ) → over_at (to + length text) more (over_at to text out) ≡ over_at to (text ++ more) out
  over_more more =
      rw (over_take, over_drop)
      (append_assoc (take to out) text (over more (drop (length text) (drop to out)))
      ∙ ap (λ (l : List ℕ). take to out ++ l)
      (rw (length-append text more, ← drop-drop (length more) (length text) (drop to out)) (sym (append_assoc text more (drop (length more) (drop (length text) (drop to out)))))))

-- ---------------------------------------------------------------- reading
none_good : (n : ℕ) (text : List ℕ) (at : ℕ) → read_at text at ≡ Bad → good_events n (drop at text) ≡ []
unfolding good_events
none_good zero text at e = refl
none_good (suc n) text at e = rw e

pub one_good : (n : ℕ) (text : List ℕ) (at : ℕ) (q : Numbers) → read_at text at ≡ Six q → good_events (suc n) (drop at text) ≡ event_of q ∷ good_events n (drop (at + line_length) text)
unfolding good_events
one_good n text at q e = rw (e, drop-drop line_length at text)

-- the line lies whole in the text
pub six_inside : (text : List ℕ) (at : ℕ) (q : Numbers) → read_at text at ≡ Six q → at + line_length ≤ length text
six_inside text at q read = either (leb (at + line_length) (length text)) (λ t. leb-true (at + line_length) (length text) t)
    (λ t.
    let far : length text < at + line_length = leb-false (at + line_length) (length text) t in
    let z : ◌≡◌ {A = Line} Bad (Six q) = few_left text at far ∙ read in
    let w : ◌≡◌ {A = ℕ} 0 1 = cc in
    absurd (omega arith))

good_few : (n : ℕ) (text : List ℕ) → length (good_events n text) ≤ n
unfolding good_events
good_few zero text = omega arith
good_few (suc n) text = one (read_line (take line_length text)) (good_events n (drop line_length text)) (good_few n (drop line_length text))
  where
    one : (l : Line) (es : List Event) → length es ≤ n → length (good_then l es) ≤ suc n
    one (Six q) es h = omega arith
    one Bad es h = omega arith

-- so many lines are read, and their numbers stand at the front of the list
pub record Reading (text : List ℕ) (from limit : ℕ) (list₀ list : List ℤ) (at n : ℕ) : Type 0 where
  pub few : n ≤ limit
  pub size : length list ≡ length list₀
  pub room : limit * six ≤ length list
  pub count : n + length (good_events (limit - n) (drop at text)) ≡ length (good_events limit (drop from text))
  pub numbers : take (n * six) list ++ event_numbers (good_events (limit - n) (drop at text)) ≡ event_numbers (good_events limit (drop from text))

pub reading_begins : (text : List ℕ) (from limit : ℕ) (list : List ℤ) → limit * six ≤ length list → Reading text from limit list list from 0
reading_begins text from limit list h = let z : limit - 0 ≡ limit = omega arith in record { few = omega arith; size = refl; room = h; count = rw z (omega arith); numbers = rw z }

module _ (text : List ℕ) (from limit : ℕ) (list₀ list : List ℤ) (at n : ℕ) (k : Reading text from limit list₀ list at n) where
  ended : good_events (limit - n) (drop at text) ≡ [] → (n ≡ length (good_events limit (drop from text))) × (take (n * six) list ≡ event_numbers (good_events limit (drop from text)))
  unfolding event_numbers
  ended e = (omega (arith, k.count, ap length e), sym (append-nil (take (n * six) list)) ∙ (rw e at k.numbers))

  -- a bad line, or as many as are asked for
  pub reading_stops : Bad ≡ read_at text at → (n ≡ length (good_events limit (drop from text))) × (take (n * six) list ≡ event_numbers (good_events limit (drop from text)))
  reading_stops b = ended (none_good (limit - n) text at (sym b))

  pub reading_done : limit ≤ n → (limit ≡ length (good_events limit (drop from text))) × (take (limit * six) list ≡ event_numbers (good_events limit (drop from text)))
  unfolding good_events
  reading_done h =
      let z : limit - n ≡ 0 = omega arith in
      let all : n ≡ limit = omega (arith, k.few) in
      let r = ended (rw z) in
      (sym all ∙ r.0, ap (λ (i : ℕ). take (i * six) list) (sym all) ∙ r.1)

  module _ (q : Numbers) (read : read_at text at ≡ Six q) where
    pub reading_more : n < limit → (list' : List ℤ) → list' ≡ sets list (n * six) (number_list q) → Reading text from limit list₀ list' (at + line_length) (n + 1)
    unfolding event_numbers
    reading_more h list' e =
        let s : limit - n ≡ suc (limit - (n + 1)) = omega arith in
        let g : good_events (limit - n) (drop at text) ≡ event_of q ∷ good_events (limit - (n + 1)) (drop (at + line_length) text) = rw s (one_good (limit - (n + 1)) text at q read) in
        let f : length (take (n * six) list) ≡ n * six = length-take-le (n * six) list (omega (arith, k.room)) in
        let split : list' ≡ (take (n * six) list ++ number_list q) ++ drop (n * six + six) list = e ∙ sets-eq (number_list q) list (n * six) (omega (arith, k.room)) in
        let front : take ((n + 1) * six) list' ≡ take (n * six) list ++ number_list q = rw split (take_at (take (n * six) list ++ number_list q) (drop (n * six + six) list) ((n + 1) * six) (length-append (take (n * six) list) (number_list q) ∙ omega (arith, f))) in
        record {
          few = omega arith;
          size = ap length e ∙ length-sets list (n * six) (number_list q) ∙ k.size;
          room = omega (arith, ap length e, length-sets list (n * six) (number_list q), k.room);
          count = omega (arith, k.count, ap length g);
          numbers = rw front (append_assoc (take (n * six) list) (number_list q) (event_numbers (good_events (limit - (n + 1)) (drop (at + line_length) text))) ∙ (rw g at k.numbers));
        }

-- ---------------------------------------------------------------- printing
pub line_short : (n : Numbers) → length (printed_line (number_list n)) ≤ line_length
line_short n = by_test (λ (l : List ℕ). length l ≤ line_length) (all_in_range (number_list n)) (λ t. omega (arith, six_length n)) (λ t. omega arith)

pub roomed_line_holds : (room : ℕ) (n : Numbers) → line_length ≤ room → roomed_line room (number_list n) ≡ printed_line (number_list n)
roomed_line_holds room n h = rw (le-leb line_length room h)

-- the code of the line writer
module _ (out : List ℕ) (to : ℕ) (n : Numbers) (after : List ℕ) (stored : after ≡ written_at to out (number_list n)) (code : ℕ) (told : code ≡ write_code (length out - to) (number_list n)) where
  room : length (drop to out) ≡ length out - to
  room = length-drop to out

  pub line_printed : code ≡ 0 → (line_length ≡ length (roomed_line (length out - to) (number_list n))) × (after ≡ over_at to (roomed_line (length out - to) (number_list n)) out)
  unfolding written
  line_printed z =
      let can : can_write (length out - to) (number_list n) ≡ true = either (can_write (length out - to) (number_list n)) (λ t. t) (λ f. absurd (let q = rw f at (sym told ∙ z) in omega arith)) in
      let fits : leb line_length (length out - to) ≡ true = rw (six_length n) at (and_left (leb (length (line_text (number_list n))) (length out - to)) (all_in_range (number_list n)) can) in
      rw (fits, and_right (leb (length (line_text (number_list n))) (length out - to)) (all_in_range (number_list n)) can) (sym (six_length n), stored ∙ rw (room, can))

  pub line_unprinted : (code ≡ 0 → ⊥) → (0 ≡ length (roomed_line (length out - to) (number_list n))) × (after ≡ over_at to (roomed_line (length out - to) (number_list n)) out)
  unfolding written
  line_unprinted z =
      let not : can_write (length out - to) (number_list n) ≡ false = either (can_write (length out - to) (number_list n)) (λ t. absurd (z (told ∙ rw t))) (λ f. f) in
      let same : after ≡ out = stored ∙ rw (room, not) (take-append-drop to out) in
      let none : roomed_line (length out - to) (number_list n) ≡ [] = either (leb line_length (length out - to))
      (λ t. rw (t, rw (six_length n, t) at not))
      (λ t. rw t) in
      rw none (refl, same ∙ sym (take-append-drop to out))

-- a line for each of the first i six numbers is printed
pub record Printing (out₀ : List ℕ) (from : ℕ) (list : List ℤ) (n : ℕ) (out : List ℕ) (to i : ℕ) : Type 0 where
  pub few : i ≤ n
  pub start : from ≤ to
  pub size : length out ≡ length out₀
  pub room : to + (n - i) * line_length ≤ length out
  pub count : to + length (printed_sixes (n - i) (drop (i * six) list)) ≡ from + length (printed_sixes n list)
  pub text : over_at to (printed_sixes (n - i) (drop (i * six) list)) out ≡ over_at from (printed_sixes n list) out₀

pub printing_begins : (out : List ℕ) (from : ℕ) (list : List ℤ) (n : ℕ) → from + n * line_length ≤ length out → Printing out from list n out from 0
printing_begins out from list n h = let z : n - 0 ≡ n = omega arith in record { few = omega arith; start = omega arith; size = refl; room = omega arith; count = rw z; text = rw z }

module _ (out₀ : List ℕ) (from : ℕ) (list : List ℤ) (n : ℕ) (out : List ℕ) (to i : ℕ) (k : Printing out₀ from list n out to i) where
  pub printing_done : n ≤ i → (to - from ≡ length (printed_sixes n list)) × (out ≡ over_at from (printed_sixes n list) out₀)
  unfolding printed_sixes
  printing_done h =
      let z : n - i ≡ 0 = omega arith in
      (omega (arith, rw z at k.count, k.start), sym (take-append-drop to out) ∙ (rw z at k.text))

  module _ (more : i < n) (x : Numbers) (here : x ≡ numbers_of (drop (i * six) list)) where
    pub printing_room : line_length ≤ length out - to
    printing_room = omega (arith, k.room)

    abbrev line : List ℕ
    line = roomed_line (length out - to) (number_list x)

    line_is : line ≡ printed_line (number_list x)
    line_is = roomed_line_holds (length out - to) x printing_room

    pub printing_fits : to + length line ≤ length out
    printing_fits = omega (arith, ap length line_is, line_short x, printing_room)

    pub printing_more : (w : ℕ) → w ≡ length line → (out' : List ℕ) → out' ≡ over_at to line out → Printing out₀ from list n out' (to + w) (i + 1)
    unfolding printed_sixes
    printing_more w e out' f =
        let s : n - i ≡ suc (n - (i + 1)) = omega arith in
        let rest = printed_sixes (n - (i + 1)) (drop ((i + 1) * six) list) in
        let j : i * six + six ≡ (i + 1) * six = omega arith in
        let cut : printed_sixes (n - i) (drop (i * six) list) ≡ line ++ rest = rw (s, line_is, here, drop-drop six (i * six) list, j) in
        rw (e, f)
        (record {
          few = omega arith;
          start = omega (arith, k.start);
          size = over_length out to line printing_fits ∙ k.size;
          room = omega (arith, over_length out to line printing_fits, k.room, ap length line_is, line_short x);
          count = omega (arith, k.count, ap length cut, length-append line rest);
          text = over_more out to line printing_fits rest ∙ (rw cut at k.text);
        })

-- ---------------------------------------------------------------- a block
answers_length : (m : Module) (es : List Event) → length (numbers_in (answers m es)) ≡ length es * six
unfolding numbers_in
answers_length m [] = refl
answers_length m (v ∷ es) = omega (arith, answers_length (next m v) es)

sixes_answers : (rs : List EventRecord) → printed_sixes (length rs) (numbers_in rs) ≡ printed_answers rs
unfolding printed_sixes numbers_in printed_answers
sixes_answers [] = refl
sixes_answers (x ∷ rs) = rw (sixes_answers rs)

answers_count : (m : Module) (es : List Event) → length (answers m es) ≡ length es
answers_count m [] = refl
answers_count m (v ∷ es) = ap suc (answers_count (next m v) es)

pub answered_length : (m : Module) (es : List Event) → length (answered_list m (event_numbers es)) ≡ length es * six
answered_length m es = ap length (list_answered m es) ∙ answers_length m es

pub block_printed : (m : Module) (es : List Event) → printed_sixes (length (answered_list m (event_numbers es)) / six) (answered_list m (event_numbers es)) ≡ block_text m es
block_printed m es =
    let q : length (answered_list m (event_numbers es)) / six ≡ length (answers m es) = omega (arith, answered_length m es, answers_count m es) in
    rw (q, list_answered m es) (sixes_answers (answers m es))

no_events : (es : List Event) → length es ≡ 0 → es ≡ []
no_events [] h = refl
no_events (v ∷ es) h = absurd (omega arith)

-- n lines are read into the front of a list, as many as a block has and as there is room for
pub record Listed (text out : List ℕ) (from to n : ℕ) (list : List ℤ) : Type 0 where
  pub count : n ≡ length (block_events text from out to)
  pub numbers : take (n * six) list ≡ event_numbers (block_events text from out to)

pub listed : (text out : List ℕ) (from to limit n : ℕ) (list : List ℤ) → limit ≡ line_count (length out - to)
    → (n ≡ length (good_events limit (drop from text))) × (take (n * six) list ≡ event_numbers (good_events limit (drop from text))) → Listed text out from to n list
listed text out from to limit n list e h = let f = rw e at h in record { count = f.0; numbers = f.1 }

module _ (text out : List ℕ) (from to n : ℕ) (list : List ℤ) (k : Listed text out from to n list) where
  abbrev es : List Event
  es = block_events text from out to

  few : n ≤ line_count (length out - to)
  few = omega (arith, k.count, good_few (line_count (length out - to)) (drop from text))

  pub listed_few : n ≤ block_limit
  listed_few = omega (arith, few)

  numbers_size : length (take (n * six) list) ≡ n * six
  numbers_size = ap length k.numbers ∙ numbers_length es ∙ ap (λ (i : ℕ). i * six) (sym k.count)

  pub listed_long : n * six ≤ length list
  listed_long = omega (arith, numbers_size, length-take (n * six) list)

  pub listed_size : n * six ≡ length (take (n * six) list)
  listed_size = sym numbers_size

  -- nothing is read
  pub listed_none : (e : Executive) → n ≡ 0 → (record { executive = e; lines = n; printed = 0 } ≡ block_of e.inner es) × (out ≡ over_at to (block_text e.inner es) out)
  unfolding printed_answers
  listed_none e z = rw (no_events es (omega (arith, k.count)), z) (refl, sym (take-append-drop to out))

  -- the events are run
  module _ (e r : Executive) (done : List ℤ) (did : (r.inner ≡ after_list e.inner (take (n * six) list)) × (done ≡ answered_list e.inner (take (n * six) list))) where
    answered : done ≡ answered_list e.inner (event_numbers es)
    answered = rw k.numbers at did.1

    done_size : length done ≡ n * six
    done_size = ap length answered ∙ answered_length e.inner es ∙ ap (λ (i : ℕ). i * six) (sym k.count)

    done_first : take (n * six) (done ++ drop (n * six) list) ≡ done
    done_first = take_at done (drop (n * six) list) (n * six) done_size

    pub run_long : n * six ≤ length (done ++ drop (n * six) list)
    run_long = omega (arith, done_size, length-append done (drop (n * six) list))

    pub run_size : n * six ≡ length (take (n * six) (done ++ drop (n * six) list))
    run_size = rw done_first (sym done_size)

    pub run_room : (n ≡ 0 → ⊥) → to + length (take (n * six) (done ++ drop (n * six) list)) / six * line_length ≤ length out
    run_room z = rw done_first (omega (arith, done_size, few, z))

    pub run_done : (w : ℕ) (out' : List ℕ) → let l = take (n * six) (done ++ drop (n * six) list) in
        (w ≡ length (printed_sixes (length l / six) l)) × (out' ≡ over_at to (printed_sixes (length l / six) l) out)
        → (record { executive = r; lines = n; printed = w } ≡ block_of e.inner es) × (out' ≡ over_at to (block_text e.inner es) out)
    run_done w out' p =
        let q = rw (done_first, answered, block_printed e.inner es) at p in
        let i : r.inner ≡ after e.inner es = did.0 ∙ rw k.numbers (list_after e.inner es) in
        (rw (← i, ← k.count, ← q.0), q.1)

-- ---------------------------------------------------------------- what a block takes and prints
pub good_line : (l : List ℕ) (q : Numbers) → read_line l ≡ Six q → length l ≡ line_length
good_line l q e = ap length (read_six l q e).0 ∙ six_length q

-- the lines lie whole in the text
pub good_inside : (n : ℕ) (text : List ℕ) → length (good_events n text) * line_length ≤ length text
unfolding good_events
good_inside zero text = omega arith
good_inside (suc n) text = one (read_line (take line_length text)) refl (good_events n (drop line_length text)) (good_inside n (drop line_length text))
  where
    one : (l : Line) → read_line (take line_length text) ≡ l → (es : List Event) → length es * line_length ≤ length (drop line_length text) → length (good_then l es) * line_length ≤ length text
    one (Six q) e es h = omega (arith, good_line (take line_length text) q e, length-take line_length text, length-drop line_length text)
    one Bad e es h = omega arith

pub answer_short : (a : Answer) → length (printed_line (answer_numbers a)) ≤ line_length
answer_short a = line_short (numbers_of (answer_numbers a))

block_short : (m : Module) (es : List Event) → length (block_text m es) ≤ length es * line_length
unfolding printed_answers
block_short m [] = omega arith
block_short m (v ∷ es) = omega (arith, length-append (printed_line (answer_numbers (step m v).answer)) (block_text (next m v) es), answer_short (step m v).answer, block_short (next m v) es)

-- as many lines as there is room for
pub block_few : (text out : List ℕ) (from to : ℕ) → length (block_events text from out to) * line_length ≤ length out - to
block_few text out from to = omega (arith, good_few (line_count (length out - to)) (drop from text))

pub block_fits : (m : Module) (text out : List ℕ) (from to : ℕ) → to ≤ length out → to + length (block_text m (block_events text from out to)) ≤ length out
block_fits m text out from to h = omega (arith, block_short m (block_events text from out to), block_few text out from to)

-- no line is taken
pub block_empty : (m : Module) (text out : List ℕ) (from to : ℕ) (r : Block) → r ≡ block_of m (block_events text from out to) → r.lines ≤ 0 → over_at to (block_text m (block_events text from out to)) out ≡ out
unfolding printed_answers
block_empty m text out from to r did h =
    let z : length (block_events text from out to) ≡ 0 = omega (arith, ap (λ (b : Block). b.lines) did) in
    rw (no_events (block_events text from out to) z) (take-append-drop to out)
