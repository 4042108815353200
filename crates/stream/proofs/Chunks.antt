-- What a loop over the bytes of a chunk keeps, and the last line. Assumes nothing.
use Prim.Native.Nat.{ℕ, ◌+◌, ◌-◌, ◌≤◌, ◌<◌, min}
use native.Mathlib.Nat.{min-eq_left, min-eq_right}
use mathlib.Core.Path.{◌≡◌, refl, sym, ap, ◌∙◌}
use mathlib.Core.Bool.{true, false, cond, and-false}
use mathlib.Core.List.{List, [], ◌∷◌, ◌++◌}
use native.Mathlib.Omega.{arith}
use native.Mathlib.Numerals.{add-one}
use lib.ListN.{length, get_or, take, drop, set, length-append, length-set, take-append-drop, drop_of_length-le}
use lib.Seq.{take_all, drop-cons, length-take-le, set_out}
use lib.Dec.{leb, ltb}
use borrow.Author.Tests.{le-leb, leb-true, leb-false, ltb-false, le-ltb}
use Rattle.machine.specs.declared.Numbers.{Numbers}
use Rattle.machine.specs.Limits.{line_length}
use Rattle.machine.proofs.Either.{either}
use Rattle.machine.proofs.Tests.{by_test}
use Rattle.event_lines.specs.Blocks.{over, over_at}
use Rattle.event_lines.proofs.Blocks.{over_length, over_more, line_short}
use Rattle.stream.specs.declared.Printout.{Printout}
use Rattle.std.specs.Prelude.{Option, None, Some, Result, Ok, Err}
use Rattle.machine.specs.declared.Refusal.{Refusal}
use Rattle.machine.specs.declared.Refusal.TheVariants.{BadLine}
use Rattle.stream.specs.declared.Stream.{Stream}
use Rattle.stream.specs.Stream.{held_limit, at, turn, text_of, said, one_more, put, due, Fed, feed, Run, run, left_result, advanced, last, closed, prints, is_stuck, finished, finished_of}
use Rattle.stream.proofs.Turns.{Prints}

-- ---------------------------------------------------------------- what is held
take_held : (held : List ℕ) (n r : ℕ) → length held ≡ held_limit → r ≡ min n held_limit → take r held ≡ take n held
take_held held n r h e = either (leb n held_limit)
    (λ t. rw (e, min-eq_left (leb-true n held_limit t)))
    (λ t.
    let far : held_limit < n = leb-false n held_limit t in
    rw (e, min-eq_right (let q : held_limit ≤ n = omega arith in q), take_all held_limit held (omega arith), take_all n held (omega arith)))

pub held_inside : (held : List ℕ) (n r : ℕ) → length held ≡ held_limit → r ≡ min n held_limit → r ≤ length held
held_inside held n r h e = either (leb n held_limit)
    (λ t. omega (arith, min-eq_left (leb-true n held_limit t), leb-true n held_limit t))
    (λ t. let far : held_limit < n = leb-false n held_limit t in omega (arith, min-eq_right (let q : held_limit ≤ n = omega arith in q)))

pub held_length : (held : List ℕ) (r : ℕ) → r ≤ length held → r ≡ length (take r held)
held_length held r h = sym (length-take-le r held h)

pub put_length : (s : Stream) (b : ℕ) (p : Stream) → length s.held ≡ held_limit → p ≡ put s b → length p.held ≡ held_limit
put_length s b p h e = ap (λ (q : Stream). length q.held) e ∙ length-set s.held s.place.count b ∙ h

-- ---------------------------------------------------------------- one byte
-- all places are taken, or the byte is stored
store_held : (held : List ℕ) (n b : ℕ) → length held ≡ held_limit → cond (ltb n held_limit) (set held n b) held ≡ set held n b
store_held held n b e = either (ltb n held_limit) (λ t. rw t) (λ t. let far : held_limit ≤ n = ltb-false n held_limit t in rw t (sym (set_out held n b (omega arith))))

module _ (s : Stream) (b : ℕ) where
  pub put_held : (n : ℕ) (held : List ℕ) → length s.held ≡ held_limit → n ≡ one_more s.place.count → held ≡ cond (ltb s.place.count held_limit) (set s.held s.place.count b) s.held
      → record { place = at s.place.stage s.place.executive n; held = held } ≡ put s b
  put_held n held h e f = rw (e, f, store_held s.held s.place.count b h)

  fed_held : due (put s b).place.stage (put s b).place.count b ≡ false → feed s b ≡ record { stream = put s b; text = [] }
  unfolding feed
  fed_held d = rw d

  fed_due : due (put s b).place.stage (put s b).place.count b ≡ true → feed s b ≡ said (put s b) (turn false (put s b).place (take (put s b).place.count (put s b).held))
  unfolding feed
  fed_due d = rw d

  module _ (p : Stream) (e : p ≡ put s b) where
    pub feed_held : due p.place.stage p.place.count b ≡ false → feed s b ≡ record { stream = p; text = [] }
    feed_held d = fed_held (rw e at d) ∙ ap (λ (q : Stream). record { stream = q; text = [] }) (sym e)

    pub feed_due : (n : ℕ) (y : Printout) → due p.place.stage p.place.count b ≡ true → length p.held ≡ held_limit → n ≡ min p.place.count held_limit → y ≡ turn false p.place (take n p.held) → feed s b ≡ said p y
    feed_due n y d h m t =
        fed_due (rw e at d)
        ∙ ap (λ (q : Stream). said q (turn false q.place (take q.place.count q.held))) (sym e)
        ∙ ap (said p) (ap (turn false p.place) (sym (take_held p.held p.place.count n h m)) ∙ sym t)

text_short : (numbers : Option Numbers) → length (text_of numbers) ≤ line_length
text_short None = omega arith
text_short (Some n) = line_short n

pub feed_short : (s : Stream) (b : ℕ) → length (feed s b).text ≤ line_length
unfolding feed
feed_short s b =
    by_test (λ (f : Fed). length f.text ≤ line_length) (due (put s b).place.stage (put s b).place.count b)
    (λ t. let y = turn false (put s b).place (take (put s b).place.count (put s b).held) in text_short y.numbers)
    (λ t. omega arith)

feed_length : (s : Stream) (b : ℕ) → length s.held ≡ held_limit → length (feed s b).stream.held ≡ held_limit
unfolding feed
feed_length s b h =
    let e : length (set s.held s.place.count b) ≡ held_limit = length-set s.held s.place.count b ∙ h in
    by_test (λ (f : Fed). length f.stream.held ≡ held_limit) (due (put s b).place.stage (put s b).place.count b) (λ t. e) (λ t. e)

-- ---------------------------------------------------------------- the loop
-- a run that has taken so many bytes more, for which a text is printed
abbrev pub further : ℕ → List ℕ → Run → Run
further n t r = record { stream = r.stream; taken = r.taken + n; text = t ++ r.text }

module _ (s₀ : Stream) (chunk out₀ : List ℕ) where
  abbrev whole : Run
  whole = run s₀ (length out₀) chunk

  abbrev left : Stream → ℕ → ℕ → List ℕ → Run
  left s i to out = run s (length out - to) (drop i chunk)

  -- the bytes before i are taken, and so many bytes are printed
  pub record Advancing (s : Stream) (i to : ℕ) (out : List ℕ) : Type 0 where
    pub held : length s.held ≡ held_limit
    pub inside : i ≤ length chunk
    pub room : to ≤ length out
    pub size : length out ≡ length out₀
    pub stream : (left s i to out).stream ≡ whole.stream
    pub taken : i + (left s i to out).taken ≡ whole.taken
    pub count : to + length (left s i to out).text ≡ length whole.text
    pub text : take to out ++ over (left s i to out).text (drop to out) ≡ over whole.text out₀

pub begins : (s : Stream) (chunk out : List ℕ) → length s.held ≡ held_limit → Advancing s chunk out s 0 0 out
begins s chunk out h =
    let e : length out - 0 ≡ length out = omega arith in
    let same : left s chunk out s 0 0 out ≡ whole s chunk out = rw e in
    record { held = h; inside = omega arith; room = omega arith; size = refl; stream = rw e; taken = omega (arith, ap (λ (r : Run). r.taken) same); count = omega (arith, ap (λ (r : Run). length r.text) same); text = rw e }

-- no byte is taken
stops : (s : Stream) (room : ℕ) (bs : List ℕ) → (leb line_length room ≡ true → bs ≡ []) → run s room bs ≡ record { stream = s; taken = 0; text = [] }
unfolding run
stops s room [] h = refl
stops s room (b ∷ bs) h = either (leb line_length room) (λ t. absurd (let e = ap length (h t) in omega arith)) (λ t. rw t)

module _ (s₀ : Stream) (chunk out₀ : List ℕ) (s : Stream) (i to : ℕ) (out : List ℕ) (k : Advancing s₀ chunk out₀ s i to out) where
  abbrev Given : Result (Unit {0}) Refusal → Type 0
  Given outcome = (record { stream = s; taken = i; printed = to; outcome = outcome } ≡ advanced s₀ (length out₀) chunk) × (out ≡ over (run s₀ (length out₀) chunk).text out₀)

  ended : (leb line_length (length out - to) ≡ true → drop i chunk ≡ []) → (outcome : Result (Unit {0}) Refusal) → outcome ≡ left_result (ltb i (length chunk)) → Given outcome
  ended h outcome left =
      let e = stops s (length out - to) (drop i chunk) h in
      let a : s ≡ (run s₀ (length out₀) chunk).stream = rw e at k.stream in
      let b : i ≡ (run s₀ (length out₀) chunk).taken = omega (arith, k.taken, ap (λ (r : Run). r.taken) e) in
      let c : to ≡ length (run s₀ (length out₀) chunk).text = omega (arith, k.count, ap (λ (r : Run). length r.text) e) in
      (rw (left, ← a, ← b, ← c), sym (take-append-drop to out) ∙ (rw e at k.text))

  -- the chunk is taken whole, or there is no room for a line
  pub all_taken : length chunk ≤ i → (outcome : Result (Unit {0}) Refusal) → outcome ≡ left_result (ltb i (length chunk)) → Given outcome
  all_taken h = ended (λ t. drop_of_length-le chunk {i = i} h)

  pub no_room_holds : length out - to < line_length → (outcome : Result (Unit {0}) Refusal) → outcome ≡ left_result (ltb i (length chunk)) → Given outcome
  no_room_holds h = ended (λ t. absurd (let q = leb-true line_length (length out - to) t in omega arith))

  -- so many bytes more, for which a text is printed
  module _ (more : ℕ) (t : List ℕ) (p : Stream) (inside : i + more ≤ length chunk) (fits : to + length t ≤ length out) (long : length p.held ≡ held_limit)
      (does : left s₀ chunk out₀ s i to out ≡ further more t (run p (length out - to - length t) (drop (i + more) chunk))) where
    abbrev rest : Run
    rest = run p (length out - to - length t) (drop (i + more) chunk)

    left_after : length (over_at to t out) - (to + length t) ≡ length out - to - length t
    left_after = omega (arith, over_length out to t fits)

    pub goes_further : Advancing s₀ chunk out₀ p (i + more) (to + length t) (over_at to t out)
    goes_further = record {
      held = long;
      inside = inside;
      room = omega (arith, over_length out to t fits);
      size = over_length out to t fits ∙ k.size;
      stream = rw left_after (rw does at k.stream);
      taken = rw left_after (omega (arith, rw does at k.taken));
      count = rw left_after (omega (arith, rw does at k.count, length-append t rest.text));
      text = rw left_after (over_more out to t fits rest.text ∙ (rw does at k.text));
    }

  -- one more byte
  module _ (b : ℕ) (here : b ≡ get_or chunk i 0) (more : i < length chunk) (fits : line_length ≤ length out - to) where
    unfolded : left s₀ chunk out₀ s i to out ≡ further 1 (feed s b).text (run (feed s b).stream (length out - to - length (feed s b).text) (drop (i + 1) chunk))
    unfolding run
    unfolded = rw (drop-cons chunk i 0 more, ← here, le-leb line_length (length out - to) fits, add-one, add-one)

    pub goes_on : (p : Stream) (t : List ℕ) → feed s b ≡ record { stream = p; text = t } → (to' : ℕ) → to' ≡ to + length t → (out' : List ℕ) → out' ≡ over_at to t out → Advancing s₀ chunk out₀ p (i + 1) to' out'
    goes_on p t e to' c out' o =
        rw (c, o)
        (rw e at
        (goes_further 1 (feed s b).text (feed s b).stream (omega arith) (omega (arith, feed_short s b, k.room)) (feed_length s b k.held) unfolded))

-- ---------------------------------------------------------------- the last line
module _ (s : Stream) (out : List ℕ) (r : ℕ) (y : Printout) (h : length s.held ≡ held_limit) (m : r ≡ min s.place.count held_limit) (c : y ≡ turn true s.place (take r s.held)) where
  is_last : last s ≡ y
  is_last = ap (turn true s.place) (sym (take_held s.held s.place.count r h m)) ∙ sym c

  pub finish_stuck : is_stuck y.numbers (length out) ≡ true
      → (record { stream = s; taken = 0; printed = 0; outcome = Err BadLine } ≡ finished_of s (length out)) × (out ≡ over (finished s (length out)).text out)
  unfolding finished
  finish_stuck t = rw (is_last, t) (refl, refl)

  pub finish_done : is_stuck y.numbers (length out) ≡ false → (after : List ℕ) (k : ℕ) → Prints out 0 y.numbers k after
      → (record { stream = record { place = y.place; held = s.held }; taken = 0; printed = k; outcome = Ok tt } ≡ finished_of s (length out)) × (after ≡ over (finished s (length out)).text out)
  unfolding finished closed
  finish_done t after k q = rw (is_last, t) (rw (← q.0), q.1)

-- what is printed has room
pub prints_fit : (numbers : Option Numbers) (room : ℕ) → is_stuck numbers room ≡ false → prints numbers ≡ true → line_length ≤ room
prints_fit numbers room t e = ltb-false room line_length (rw e at t)

-- where a chunk's byte count fits, so does the next position
pub printed_fits : (out : List ℕ) (to k : ℕ) (numbers : Option Numbers) → k ≡ length (text_of numbers) → line_length ≤ length out - to → to ≤ length out → to + k ≤ length out
printed_fits out to k numbers e h r = omega (arith, text_short numbers)

-- the last line has room
pub finished_room : (s : Stream) (room : ℕ) → length (finished s room).text ≤ room
unfolding finished closed
finished_room s room =
    either (is_stuck (last s).numbers room)
    (λ t. rw t (omega arith))
    (λ t. rw t (fits (last s).numbers t))
  where
    fits : (numbers : Option Numbers) → is_stuck numbers room ≡ false → length (text_of numbers) ≤ room
    fits None t = omega arith
    fits (Some n) t = let h = prints_fit (Some n) room t refl in omega (arith, line_short n)

pub finished_closed : (s : Stream) (room : ℕ) → line_length ≤ room → (finished s room).stream ≡ (closed s).stream
unfolding finished
finished_closed s room h = rw (le-ltb room line_length h, and-false)
