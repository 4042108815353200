-- A block of good event lines: byte by byte they give what their events give. Assumes nothing.
use Prim.Native.Nat.{ℕ, zero, suc, ◌+◌, ◌-◌, ◌*◌, ◌≤◌, ◌<◌}
use mathlib.Core.Path.{◌≡◌, refl, sym, ap, ◌∙◌}
use mathlib.Core.Bool.{true, false, not, ◌||◌, and-eq-true_iff, true≢false}
use mathlib.Core.List.{List, [], ◌∷◌, ◌++◌, append_assoc, append-nil}
use native.Mathlib.Omega.{arith}
use native.Mathlib.Nat.{add-zero, zero-add}
use native.Mathlib.Numerals.{add-one}
use lib.ListN.{length, take, drop, set, length-append, length-take, length-drop, take-append-drop}
use lib.Seq.{take_at, drop_at, drop-drop, length-take-le, sets, sets-eq}
use lib.Dec.{eqb}
use borrow.Author.Tests.{not-true, le-leb, lt-ltb, eqb-true}
use Rattle.machine.specs.declared.Event.{Event}
use Rattle.machine.specs.declared.Line.{Line}
use Rattle.machine.specs.declared.Line.TheVariants.{Six, Bad}
use Rattle.machine.specs.declared.Module.{Module}
use Rattle.machine.specs.declared.Numbers.{Numbers}
use Rattle.machine.specs.Runs.{after}
use Rattle.machine.specs.Limits.{line_length}
use Rattle.machine.specs.Line.{line_feed, line_text, number_list, read_line, lines}
use Rattle.machine.specs.Replay.{event_of, answer_numbers}
use Rattle.machine.specs.Step.{step}
use Rattle.machine.proofs.Either.{either}
use Rattle.machine.proofs.TextInput.{ended, unended, are_lines, lines_are, lines_text, unfed_bad}
use Rattle.machine.proofs.TextLine.{read_six}
use Rattle.executive.specs.declared.Executive.{Executive}
use Rattle.event_lines.specs.declared.Block.{Block}
use Rattle.event_lines.specs.Blocks.{good_then, good_events, line_count, printed_line, printed_answers, over, over_at, block_events, block_text, block_of}
use Rattle.event_lines.proofs.Blocks.{good_line, good_inside, answer_short, block_fits}
use Rattle.stream.specs.declared.Stage.{Stage}
use Rattle.stream.specs.declared.Stage.TheVariants.{Table, Events, Ended}
use Rattle.stream.specs.declared.Place.{Place}
use Rattle.stream.specs.declared.Stream.{Stream}
use Rattle.stream.specs.Stream.{held_limit, at, turn, Fed, said, is_between, feed, Run, run}
use Rattle.stream.proofs.Chunks.{further, Advancing, goes_further}

-- at the events, where so many bytes are held
abbrev held_at : Executive → ℕ → List ℕ → Stream
held_at e n held = record { place = at Events e n; held = held }

-- what the line that is held gives
abbrev line_held : Executive → ℕ → List ℕ → Fed
line_held e n held = said (held_at e n held) (turn false (at Events e n) (take n held))

-- ---------------------------------------------------------------- the bytes of a line
further_both : (a b : ℕ) (s t : List ℕ) (r : Run) → further a s (further b t r) ≡ further (a + b) (s ++ t) r
further_both a b s t r = let n : r.taken + b + a ≡ r.taken + (a + b) = omega arith in rw (n, append_assoc s t r.text)

module _ (e : Executive) (bs : List ℕ) (room : ℕ) (fits : line_length ≤ room) where
  byte_held : (n b : ℕ) (held rest : List ℕ) → n < held_limit → eqb b line_feed ≡ false → run (held_at e n held) room (b ∷ rest) ≡ further 1 [] (run (held_at e (suc n) (set held n b)) room rest)
  unfolding run feed
  byte_held n b held rest h f = let z : room - 0 ≡ room = omega arith in rw (f, le-leb line_length room fits, lt-ltb n held_limit h, z, add-one, add-one)

  byte_fed : (n b : ℕ) (held : List ℕ) → n < held_limit → eqb b line_feed ≡ true
      → let f = line_held e (n + 1) (set held n b) in run (held_at e n held) room (b ∷ bs) ≡ further 1 f.text (run f.stream (room - length f.text) bs)
  unfolding run feed
  byte_fed n b held h f = rw (f, le-leb line_length room fits, lt-ltb n held_limit h, add-one, add-one)

  line_fed : (l held : List ℕ) (n : ℕ) → ended l ≡ true → n + length l ≤ held_limit
      → let f = line_held e (n + length l) (sets held n l) in run (held_at e n held) room (l ++ bs) ≡ further (length l) f.text (run f.stream (room - length f.text) bs)
  unfolding ended
  line_fed [] held n h k = absurd (let z : ◌≡◌ {A = ℕ} 0 1 = cc in omega arith)
  line_fed (b ∷ []) held n h k = byte_fed n b held (omega arith) h
  line_fed (b ∷ c ∷ l) held n h k =
      let t = (and-eq-true_iff (not (eqb b line_feed)) (ended (c ∷ l))).0 h in
      let s : suc n + length (c ∷ l) ≡ n + length (b ∷ c ∷ l) = omega arith in
      let j : 1 + length (c ∷ l) ≡ length (b ∷ c ∷ l) = omega arith in
      let f = line_held e (suc n + length (c ∷ l)) (sets (set held n b) (suc n) (c ∷ l)) in
      let more = line_fed (c ∷ l) (set held n b) (suc n) t.1 (omega arith) in
      byte_held n b held (c ∷ l ++ bs) (omega arith) (not-true (eqb b line_feed) t.0)
      ∙ ap (further 1 []) more
      ∙ further_both 1 (length (c ∷ l)) [] f.text (run f.stream (room - length f.text) bs)
      ∙ rw (s, j)

-- a good line ends at its only LF
good_ended : (l : List ℕ) (q : Numbers) → read_line l ≡ Six q → ended l ≡ true
unfolding are_lines lines
good_ended l q e =
    let t : l ≡ line_text (number_list q) = (read_six l q e).0 in
    let one : lines l ≡ l ∷ [] = ap lines (t ∙ sym (append-nil (line_text (number_list q)))) ∙ lines_text (number_list q) [] ∙ ap (λ (x : List ℕ). x ∷ []) (sym t) in
    let both : (ended l || unended l) ≡ true = rw one at (lines_are l) in
    either (ended l) (λ y. y) (λ z. absurd (fed l (rw z at both) e))
  where
    fed : (l : List ℕ) → unended l ≡ true → read_line l ≡ Six q → ⊥
    fed [] h e = let z : ◌≡◌ {A = ℕ} 0 1 = cc in omega arith
    fed (b ∷ l) h e = let z : ◌≡◌ {A = Line} Bad (Six q) = sym (unfed_bad (b ∷ l) h) ∙ e in let w : ◌≡◌ {A = ℕ} 0 1 = cc in omega arith

-- ---------------------------------------------------------------- a good line
-- at the events, and nothing is held
abbrev pub between : Module → List ℕ → Stream
between m held = held_at (record { inner = m }) 0 held

over_long : (l held : List ℕ) → length l ≤ held_limit → length held ≡ held_limit → length (over l held) ≡ held_limit
over_long l held h e = length-append l (drop (length l) held) ∙ omega (arith, length-drop (length l) held)

module _ (m : Module) (held l bs : List ℕ) (q : Numbers) (room : ℕ) where
  line_run : read_line l ≡ Six q → length held ≡ held_limit → line_length ≤ room
      → let x = step m (event_of q) in let t = printed_line (answer_numbers x.answer) in
      run (between m held) room (l ++ bs) ≡ further line_length t (run (between x.state (over l held)) (room - length t) bs)
  line_run e h fits =
      let n : length l ≡ line_length = good_line l q e in
      let s : sets held 0 l ≡ over l held = sets-eq l held 0 (omega arith) ∙ rw zero-add in
      let b : take (0 + length l) (over l held) ≡ l = rw zero-add (take_at l (drop (length l) held) (length l) refl) in
      line_fed (record { inner = m }) bs room fits l held 0 (good_ended l q e) (omega arith) ∙ rw (s, b, e, n)

-- ---------------------------------------------------------------- a block of them
-- what is held after so many lines
unfoldable held_after : ℕ → List ℕ → List ℕ → List ℕ
held_after zero text held = held
held_after (suc n) text held = held_after n (drop line_length text) (over (take line_length text) held)

nothing_more : (s : Stream) (room : ℕ) (bs : List ℕ) → run s room bs ≡ further 0 [] (run s (room - 0) bs)
nothing_more s room bs = let z : room - 0 ≡ room = omega arith in rw (z, add-zero)

abbrev BlockRun : Module → List ℕ → List ℕ → ℕ → List Event → Type 0
BlockRun m held text room es =
    run (between m held) room text
    ≡ further (length es * line_length) (block_text m es) (run (between (after m es) (held_after (length es) text held)) (room - length (block_text m es)) (drop (length es * line_length) text))

block_none : (m : Module) (held text : List ℕ) (room : ℕ) → BlockRun m held text room []
unfolding held_after printed_answers
block_none m held text room = nothing_more (between m held) room text

block_more : (m : Module) (held text : List ℕ) (room : ℕ) (q : Numbers) (es : List Event) → read_line (take line_length text) ≡ Six q → length held ≡ held_limit → line_length ≤ room
    → (let x = step m (event_of q) in BlockRun x.state (over (take line_length text) held) (drop line_length text) (room - length (printed_line (answer_numbers x.answer))) es)
    → BlockRun m held text room (event_of q ∷ es)
unfolding held_after printed_answers
block_more m held text room q es e h fits more =
    let x = step m (event_of q) in
    let t = printed_line (answer_numbers x.answer) in
    let u = block_text x.state es in
    let k = length es * line_length in
    let split : text ≡ take line_length text ++ drop line_length text = sym (take-append-drop line_length text) in
    let rest : room - length t - length u ≡ room - length (t ++ u) = omega (arith, length-append t u) in
    let size : line_length + k ≡ suc (length es) * line_length = omega arith in
    let ends : drop k (drop line_length text) ≡ drop (suc (length es) * line_length) text = drop-drop k line_length text ∙ ap (λ (n : ℕ). drop n text) size in
    ap (run (between m held) room) split
    ∙ line_run m held (take line_length text) (drop line_length text) q room e h fits
    ∙ ap (further line_length t) more
    ∙ further_both line_length k t u _
    ∙ rw (rest, ends, size)

block_run : (n : ℕ) (m : Module) (held text : List ℕ) (room : ℕ) → length held ≡ held_limit → n * line_length ≤ room → BlockRun m held text room (good_events n text)
unfolding good_events
block_run zero m held text room h k = block_none m held text room
block_run (suc n) m held text room h k =
    one (read_line (take line_length text)) refl (λ m held room h k. block_run n m held (drop line_length text) room h k)
  where
    one : (l : Line) → read_line (take line_length text) ≡ l
        → ((m : Module) (held : List ℕ) (room : ℕ) → length held ≡ held_limit → n * line_length ≤ room → BlockRun m held (drop line_length text) room (good_events n (drop line_length text)))
        → BlockRun m held text room (good_then l (good_events n (drop line_length text)))
    one Bad e f = block_none m held text room
    one (Six q) e f =
        let x = step m (event_of q) in
        block_more m held text room q (good_events n (drop line_length text)) e h (omega arith)
        (f x.state (over (take line_length text) held) (room - length (printed_line (answer_numbers x.answer)))
        (over_long (take line_length text) held (omega (arith, good_line (take line_length text) q e)) h)
        (omega (arith, answer_short x.answer)))

-- the last line is what is held
over_over : (a b held : List ℕ) → length a ≡ length b → over a (over b held) ≡ over a held
over_over a b held e = ap (λ (l : List ℕ). a ++ l) (rw e (drop_at b (drop (length b) held) (length b) refl))

last_held : (k : ℕ) (text held : List ℕ) → suc k * line_length ≤ length text → held_after (suc k) text held ≡ over (take line_length (drop (k * line_length) text)) held
unfolding held_after
last_held zero text held h = refl
last_held (suc k) text held h =
    let d : length (drop line_length text) ≡ length text - line_length = length-drop line_length text in
    let place : line_length + k * line_length ≡ suc k * line_length = omega arith in
    let a : length (take line_length (drop (k * line_length) (drop line_length text))) ≡ line_length = length-take-le line_length (drop (k * line_length) (drop line_length text)) (omega (arith, length-drop (k * line_length) (drop line_length text))) in
    let b : length (take line_length text) ≡ line_length = length-take-le line_length text (omega arith) in
    last_held k (drop line_length text) (over (take line_length text) held) (omega arith)
    ∙ over_over (take line_length (drop (k * line_length) (drop line_length text))) (take line_length text) held (a ∙ sym b)
    ∙ rw (drop-drop (k * line_length) line_length text, place)

-- ---------------------------------------------------------------- out of a chunk
place_between : (x : Place) → is_between x.stage x.count ≡ true → x ≡ at Events x.executive 0
place_between x h = go x.stage refl h
  where
    go : (s : Stage) → x.stage ≡ s → is_between s x.count ≡ true → x ≡ at Events x.executive 0
    go Table e h = absurd (true≢false (sym h))
    go Events e h = let n : x.count ≡ 0 = eqb-true x.count 0 h in rw (← e, ← n)
    go Ended e h = absurd (true≢false (sym h))

module _ (s₀ : Stream) (chunk out₀ : List ℕ) (s : Stream) (i to : ℕ) (out : List ℕ) (k : Advancing s₀ chunk out₀ s i to out) (r : Block)
    (did : r ≡ block_of s.place.executive.inner (block_events chunk i out to)) where
  abbrev es : List Event
  es = block_events chunk i out to

  abbrev m : Module
  m = s.place.executive.inner

  lines_is : r.lines ≡ length es
  lines_is = ap (λ (b : Block). b.lines) did

  printed_is : r.printed ≡ length (block_text m es)
  printed_is = ap (λ (b : Block). b.printed) did

  pub block_inside : i + r.lines * line_length ≤ length chunk
  block_inside = omega (arith, lines_is, good_inside (line_count (length out - to)) (drop i chunk), length-drop i chunk, k.inside)

  pub block_room : to + r.printed ≤ length out
  block_room = omega (arith, printed_is, block_fits m chunk out i to k.room)

  module _ (some : 0 < r.lines) (here : is_between s.place.stage s.place.count ≡ true) where
    last : held_after (length es) (drop i chunk) s.held ≡ over (take line_length (drop (i + r.lines * line_length - line_length) chunk)) s.held
    last = go (length es) lines_is
      where
        go : (n : ℕ) → r.lines ≡ n → held_after n (drop i chunk) s.held ≡ over (take line_length (drop (i + r.lines * line_length - line_length) chunk)) s.held
        go zero e = absurd (omega arith)
        go (suc n) e =
            let place : i + n * line_length ≡ i + r.lines * line_length - line_length = omega arith in
            last_held n (drop i chunk) s.held (omega (arith, block_inside, length-drop i chunk)) ∙ rw (drop-drop (n * line_length) i chunk, place)

    pub block_taken : (held' : List ℕ) → held' ≡ over (take line_length (drop (i + r.lines * line_length - line_length) chunk)) s.held → (out' : List ℕ) → out' ≡ over_at to (block_text m es) out
        → Advancing s₀ chunk out₀ (record { place = at s.place.stage r.executive s.place.count; held = held' }) (i + r.lines * line_length) (to + r.printed) out'
    block_taken held' e out' f =
        let p = place_between s.place here in
        let st : s.place.stage ≡ Events = ap (λ (x : Place). x.stage) p in
        let ct : s.place.count ≡ 0 = ap (λ (x : Place). x.count) p in
        let own : s ≡ between m s.held = ap (λ (x : Place). record { place = x; held = s.held }) p in
        let ex : r.executive ≡ record { inner = after m es } = ap (λ (b : Block). b.executive) did in
        let l : List ℕ = take line_length (drop (i + r.lines * line_length - line_length) chunk) in
        let short : length l ≤ held_limit = omega (arith, length-take line_length (drop (i + r.lines * line_length - line_length) chunk)) in
        rw (f, printed_is, ex, st, ct, e)
        (goes_further s₀ chunk out₀ s i to out k (r.lines * line_length) (block_text m es) _ block_inside (block_fits m chunk out i to k.room) (over_long l s.held short k.held)
        (ap (λ (x : Stream). run x (length out - to) (drop i chunk)) own
        ∙ block_run (line_count (length out - to)) m s.held (drop i chunk) (length out - to) k.held (omega arith)
        ∙ rw (last, ← lines_is, drop-drop (r.lines * line_length) i chunk)))
