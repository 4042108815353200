-- An input that comes byte by byte gives what the whole input gives. Assumes nothing.
use Prim.Native.Nat.{ℕ, ◌+◌, ◌*◌, ◌≤◌, ◌<◌}
use mathlib.Core.Path.{◌≡◌, refl, sym, ap, ◌∙◌}
use mathlib.Core.Bool.{true, false, not, and-eq-true_iff}
use mathlib.Core.List.{List, [], ◌∷◌, ◌++◌, map, append_assoc, append-nil}
use mathlib.Core.Logic.{inl, inr}
use native.Mathlib.Omega.{arith}
use lib.ListN.{length, take, drop, length-append, length-take, length-map, length-replicate, take-append-drop}
use lib.Seq.{append_snoc, take_all, take-append-le, drop-append-add}
use lib.Dec.{eqb, leb}
use lib.IntN.{pos}
use borrow.Author.Tests.{eqb-true, eqb-false, eq-eqb, ne_eqb, leb-true, leb-false}
use Rattle.machine.specs.declared.Module.{Module}
use Rattle.machine.specs.declared.Reading.{Reading}
use Rattle.machine.specs.declared.Line.{Line}
use Rattle.machine.specs.declared.Line.TheVariants.{Six, Bad}
use Rattle.machine.specs.Limits.{line_length, window_limit, channel_limit}
use Rattle.machine.specs.Line.{line_end, line_feed, line_text, read_line, lines, line_refusal, numbers_of}
use Rattle.machine.specs.Module.{empty_module}
use Rattle.machine.specs.Table.{refused_table, table_of, read_table}
use Rattle.machine.specs.Runs.{final, replies}
use Rattle.machine.specs.Replay.{line_answer, line_next, texts, bad_table_line, replayed, replayed_record}
use Rattle.machine.specs.Theorems.Valid.{ValidModule, Reached}
use Rattle.machine.proofs.Either.{either}
use Rattle.machine.proofs.Reached.{reached_valid}
use Rattle.machine.proofs.Replays.{line_valid, line_in_range}
use Rattle.machine.proofs.Tables.{table_read}
use Rattle.machine.proofs.TextLine.{read_six, six_length}
use Rattle.machine.proofs.TextInput.{no_feed, unfed_bad, line_at}
use Rattle.event_lines.proofs.Laws.{refusal_in_range}
use Rattle.stream.specs.declared.Stage.TheVariants.{Table, Events, Ended}
use Rattle.stream.specs.declared.Stream.{Stream}
use Rattle.std.specs.Prelude.{Some}
use Rattle.stream.specs.Stream.{held_limit, begun, at, missing, event_turn, turn, text_of, Fed, said, put, due, feed, fed_all, closed, streamed, stream_end}
use Rattle.stream.proofs.Lines.{line_ends, line_last, unfed_more, read_held, Holds, holds_none, holds_put}
use Rattle.stream.proofs.Tables.{Missing, Next, GoesOn, Settled, Reads, reads}

-- what a stream prints for the rest of its input, and the record at the end
record Gives (s : Stream) (bs text : List ℕ) (m : Module) : Type 0 where
  prints : streamed s bs ≡ text
  leaves : stream_end s bs ≡ m

module _ (s : Stream) (b : ℕ) (bs text : List ℕ) (m : Module) where
  gives_fed : Gives (feed s b).stream bs text m → Gives s (b ∷ bs) ((feed s b).text ++ text) m
  unfolding fed_all
  gives_fed g =
      let k = fed_all (feed s b).stream bs in
      record {
        prints = append_assoc (feed s b).text k.text (closed k.stream).text ∙ ap (λ (l : List ℕ). (feed s b).text ++ l) g.prints;
        leaves = g.leaves;
      }

  gives_more : (f : Fed) → feed s b ≡ f → Gives f.stream bs text m → Gives s (b ∷ bs) (f.text ++ text) m
  gives_more f e g = rw (← e) (gives_fed (rw e g))

-- ---------------------------------------------------------------- after a refused table
abbrev ended_as : Stream → Fed
ended_as s = record { stream = s; text = [] }

ended_gives : (bs : List ℕ) (s : Stream) (m : Module) → s.place.stage ≡ Ended → s.place.executive.inner ≡ m → Gives s bs [] m
unfolding fed_all closed feed
ended_gives [] s m h e = record { prints = rw h; leaves = rw h e }
ended_gives (b ∷ bs) s m h e =
    either (due (put s b).place.stage (put s b).place.count b)
    (λ t. gives_more s b bs [] m (ended_as (record { place = at Ended s.place.executive 0; held = (put s b).held })) (rw (t, h)) (ended_gives bs _ m refl e))
    (λ t. gives_more s b bs [] m (ended_as (put s b)) (rw t) (ended_gives bs (put s b) m h e))

-- ---------------------------------------------------------------- events
heard_text : (m : Module) (l : Line) → ValidModule m → text_of (Some (numbers_of (line_answer m l))) ≡ line_text (line_answer m l)
heard_text m l v = rw (line_in_range m l v)

-- an event line with what is held of it
abbrev line_done : Stream → Module → List ℕ → Fed
line_done s m p = record {
  stream = record { place = at Events (record { inner = line_next m (read_line p) }) 0; held = s.held };
  text = line_text (line_answer m (read_line p));
}

line_done_holds : (s : Stream) (m : Module) (p : List ℕ) → s.place.executive.inner ≡ m → ValidModule m → Holds s p
    → said s (event_turn s.place (take s.place.count s.held)) ≡ line_done s m p
line_done_holds s m p own v h = rw (h.bytes, read_held p, own, heard_text m (read_line p) v)

event_feed : (s : Stream) (m : Module) (p : List ℕ) (b : ℕ) → s.place.stage ≡ Events → s.place.executive.inner ≡ m → ValidModule m → Holds s p
    → eqb b line_feed ≡ true → feed s b ≡ line_done (put s b) m (p ++ b ∷ [])
unfolding feed
event_feed s m p b st own v h e = rw (e, st) (line_done_holds (put s b) m (p ++ b ∷ []) own v (holds_put s p b h))

event_close : (s : Stream) (m : Module) (b : ℕ) (q : List ℕ) → s.place.stage ≡ Events → s.place.executive.inner ≡ m → ValidModule m → Holds s (b ∷ q)
    → closed s ≡ line_done s m (b ∷ q)
unfolding closed
event_close s m b q st own v h =
    let some : length (take s.place.count s.held) ≡ 0 → ⊥ = λ e. omega (arith, ap length h.bytes, length-take held_limit (b ∷ q)) in
    rw (st, ne_eqb _ 0 some) (line_done_holds s m (b ∷ q) own v h)

-- the events after an accepted table; p are bytes of the line so far
abbrev EventsGive : List ℕ → Type 0
EventsGive bs = (s : Stream) (m : Module) (p : List ℕ) → s.place.stage ≡ Events → s.place.executive.inner ≡ m → ValidModule m → Holds s p → no_feed p ≡ true
    → Gives s bs (texts (replies line_next line_answer m (map read_line (lines (p ++ bs))))) (final line_next line_answer m (map read_line (lines (p ++ bs))))

event_fed : (b : ℕ) (bs : List ℕ) → EventsGive bs → eqb b line_feed ≡ true → EventsGive (b ∷ bs)
unfolding texts no_feed
event_fed b bs next e s m p st own v h u =
    let n : b ≡ line_feed = eqb-true b line_feed e in
    let first : lines (p ++ b ∷ bs) ≡ (p ++ b ∷ []) ∷ lines bs = rw n (line_ends p bs u) in
    let f = line_done (put s b) m (p ++ b ∷ []) in
    let l = read_line (p ++ b ∷ []) in
    rw first
    (gives_more s b bs _ _ f (event_feed s m p b st own v h e)
    (next f.stream (line_next m l) [] refl refl (line_valid m l v) (holds_none f.stream (holds_put s p b h).room refl) refl))

event_held : (b : ℕ) (bs : List ℕ) → EventsGive bs → eqb b line_feed ≡ false → EventsGive (b ∷ bs)
unfolding feed
event_held b bs next e s m p st own v h u =
    rw (← append_snoc p b bs)
    (gives_more s b bs _ _ (ended_as (put s b)) (rw (e, st)) (next (put s b) m (p ++ b ∷ []) st own v (holds_put s p b h) (unfed_more p b u e)))

events_none : (s : Stream) (m : Module) → s.place.stage ≡ Events → s.place.executive.inner ≡ m → Holds s [] → Gives s [] [] m
unfolding fed_all closed
events_none s m st own h = record { prints = rw (st, h.bytes); leaves = rw (st, h.bytes) own }

events_last : (s : Stream) (m : Module) (b : ℕ) (q : List ℕ) → s.place.stage ≡ Events → s.place.executive.inner ≡ m → ValidModule m → Holds s (b ∷ q)
    → Gives s [] (line_text (line_answer m (read_line (b ∷ q)))) (line_next m (read_line (b ∷ q)))
unfolding fed_all
events_last s m b q st own v h = let c = event_close s m b q st own v h in record { prints = ap (λ (f : Fed). f.text) c; leaves = ap (λ (f : Fed). f.stream.place.executive.inner) c }

no_lines : lines [] ≡ []
unfolding lines
no_lines = refl

events_gives : (bs : List ℕ) → EventsGive bs
unfolding texts
events_gives [] s m [] st own v h u = rw no_lines (events_none s m st own h)
events_gives [] s m (b ∷ q) st own v h u = rw (append-nil q, line_last b q u, append-nil) (events_last s m b q st own v h)
events_gives (b ∷ bs) s m p st own v h u =
    either (eqb b line_feed) (λ e. event_fed b bs (events_gives bs) e s m p st own v h u) (λ e. event_held b bs (events_gives bs) e s m p st own v h u)

-- ---------------------------------------------------------------- the table
map-append : (xs ys : List (List ℕ)) → map read_line (xs ++ ys) ≡ map read_line xs ++ map read_line ys
map-append [] ys = refl
map-append (x ∷ xs) ys = ap (λ (l : List Line). read_line x ∷ l) (map-append xs ys)

-- the table so far: whole lines, and bytes of the next one
record TableHeld (p : List ℕ) : Type 0 where
  done : List ℕ
  rest : List ℕ
  split : p ≡ done ++ rest
  whole : (r : List ℕ) → lines (done ++ r) ≡ lines done ++ lines r
  awaits : Missing (length (lines done)) (table_of (map read_line (lines done)))
  size : length done ≡ length (lines done) * line_length
  unfed : no_feed rest ≡ true

-- a refused table's line
refused_text : (p : List ℕ) → let r = read_table p in text_of (Some (numbers_of (pos r.code ∷ pos r.value ∷ []))) ≡ bad_table_line r
refused_text p = rw (refusal_in_range p)

refused_state : (p : List ℕ) → ((read_table p).code ≡ 0 → ⊥) → (read_table p).state ≡ empty_module
refused_state p h = (table_read p).refused h

-- ---------------------------------------------------------------- the table so far and what follows
abbrev Replays : Stream → List ℕ → List ℕ → Type 0
Replays s bs input = Gives s bs (replayed input) (replayed_record input)

-- a table that is refused whatever follows
module _ (input : List ℕ) (r : Reading) (same : read_table input ≡ r) (bad : r.code ≡ 0 → ⊥) where
  refused_replay : replayed input ≡ bad_table_line r
  unfolding replayed
  refused_replay = rw (same, ne_eqb r.code 0 bad)

  refused_record : replayed_record input ≡ empty_module
  unfolding replayed_record
  refused_record = rw (same, ne_eqb r.code 0 bad) (sym (ap (λ (x : Reading). x.state) same) ∙ refused_state input (λ e. bad (sym (ap (λ (x : Reading). x.code) same) ∙ e)))

abbrev refused_as : Stream → List ℕ → Fed
refused_as s p = record { stream = record { place = at Ended s.place.executive 0; held = s.held }; text = bad_table_line (read_table p) }

-- the table p is looked at
module _ (s : Stream) (p : List ℕ) (stage : s.place.stage ≡ Table) (own : s.place.executive.inner ≡ empty_module) (h : Holds s p) (short : length p ≤ held_limit) where
  text_held : take s.place.count s.held ≡ p
  text_held = h.bytes ∙ take_all held_limit p short

  turn_refused : ((read_table p).code ≡ 0 → ⊥) → missing (read_table p).code (read_table p).value (length p) ≡ false → said s (turn false s.place (take s.place.count s.held)) ≡ refused_as s p
  turn_refused bad m = rw (stage, text_held, ne_eqb _ 0 bad, m, refused_text p)

  close_refused : ((read_table p).code ≡ 0 → ⊥) → closed s ≡ refused_as s p
  unfolding closed
  close_refused bad = rw (stage, text_held, ne_eqb _ 0 bad, refused_text p)

  turn_missing : ((read_table p).code ≡ 0 → ⊥) → missing (read_table p).code (read_table p).value (length p) ≡ true → said s (turn false s.place (take s.place.count s.held)) ≡ ended_as s
  turn_missing bad m = rw (stage, text_held, ne_eqb _ 0 bad, m)

  turn_accepted : (read_table p).code ≡ 0 → said s (turn false s.place (take s.place.count s.held))
      ≡ ended_as (record { place = at Events (record { inner = (read_table p).state }) 0; held = s.held })
  turn_accepted good = rw (stage, text_held, eq-eqb _ 0 good)

  rest_refused : (bs : List ℕ) → Gives (refused_as s p).stream bs [] empty_module
  rest_refused bs = ended_gives bs (refused_as s p).stream empty_module refl own

-- ---------------------------------------------------------------- one more byte of a table
module _ (s : Stream) (p : List ℕ) (b : ℕ) (bs : List ℕ) (stage : s.place.stage ≡ Table) (own : s.place.executive.inner ≡ empty_module) (h : Holds s p) (short : length p < held_limit) where
  grown : length (p ++ b ∷ []) ≡ length p + 1
  grown = length-append p (b ∷ [])

  on : Holds (put s b) (p ++ b ∷ [])
  on = holds_put s p b h

  counted : (put s b).place.count ≡ length p + 1
  counted = on.count ∙ ap length (take_all held_limit (p ++ b ∷ []) (omega (arith, grown))) ∙ grown

  abbrev seen : Reading
  seen = read_table (p ++ b ∷ [])

  -- the table is looked at, and refused
  byte_refused : due Table (put s b).place.count b ≡ true → (seen.code ≡ 0 → ⊥) → missing seen.code seen.value (length p + 1) ≡ false → read_table (p ++ b ∷ bs) ≡ seen → Replays s (b ∷ bs) (p ++ b ∷ bs)
  unfolding feed
  byte_refused d bad m same =
      rw (refused_replay (p ++ b ∷ bs) seen same bad, refused_record (p ++ b ∷ bs) seen same bad)
      (rw append-nil at
      (gives_more s b bs [] empty_module (refused_as (put s b) (p ++ b ∷ [])) (rw (stage, d) (rw stage at (turn_refused (put s b) (p ++ b ∷ []) stage own on (omega (arith, grown)) bad (rw (← grown) at m))))
      (rest_refused (put s b) (p ++ b ∷ []) stage own on (omega (arith, grown)) bs)))

  -- it goes on
  byte_missing : due Table (put s b).place.count b ≡ true → (seen.code ≡ 0 → ⊥) → missing seen.code seen.value (length p + 1) ≡ true → Replays (put s b) bs (p ++ b ∷ bs) → Replays s (b ∷ bs) (p ++ b ∷ bs)
  unfolding feed
  byte_missing d bad m g =
      gives_more s b bs _ _ (ended_as (put s b)) (rw (stage, d) (rw stage at (turn_missing (put s b) (p ++ b ∷ []) stage own on (omega (arith, grown)) bad (rw (← grown) at m)))) g

  -- it is not looked at
  byte_held : due Table (put s b).place.count b ≡ false → Replays (put s b) bs (p ++ b ∷ bs) → Replays s (b ∷ bs) (p ++ b ∷ bs)
  unfolding feed
  byte_held d g = gives_more s b bs _ _ (ended_as (put s b)) (rw (stage, d)) g

  -- it is accepted, and the events follow
  byte_accepted : due Table (put s b).place.count b ≡ true → seen.code ≡ 0 → read_table (p ++ b ∷ bs) ≡ seen → drop seen.lines (map read_line (lines (p ++ b ∷ bs))) ≡ map read_line (lines bs) → Replays s (b ∷ bs) (p ++ b ∷ bs)
  unfolding feed replayed replayed_record no_feed
  byte_accepted d good same events =
      let x : Stream = record { place = at Events (record { inner = seen.state }) 0; held = (put s b).held } in
      rw (same, eq-eqb _ 0 good, events)
      (gives_more s b bs _ _ (ended_as x) (rw (stage, d) (rw stage at (turn_accepted (put s b) (p ++ b ∷ []) stage own on (omega (arith, grown)) good)))
      (events_gives bs x seen.state [] refl refl (reached_valid _ (Reached.read (p ++ b ∷ []))) (holds_none x on.room refl) refl))

-- ---------------------------------------------------------------- a table, byte by byte
unfed_left : (p q : List ℕ) → no_feed (p ++ q) ≡ true → no_feed p ≡ true
unfolding no_feed
unfed_left [] q h = refl
unfed_left (b ∷ p) q h = let t = (and-eq-true_iff (not (eqb b line_feed)) (no_feed (p ++ q))).0 h in rw t.0 (unfed_left p q t.1)

-- bytes without an LF, as many as a line or more: whatever follows, the line is bad
long_bad : (q bs : List ℕ) → no_feed q ≡ true → line_length ≤ length q → (rest : List Line) × (map read_line (lines (q ++ bs)) ≡ Bad ∷ rest)
long_bad q bs u h =
    let k = line_at (q ++ bs) 0 (omega (arith, length-append q bs)) in
    let cut : take line_length (q ++ bs) ≡ take line_length q = take-append-le line_length q bs h in
    let bad : read_line (take line_length q) ≡ Bad = unfed_bad (take line_length q) (unfed_left (take line_length q) (drop line_length q) (rw (take-append-drop line_length q) u)) in
    (map read_line (lines (drop (line_end (q ++ bs) 0) (q ++ bs))), rw (k.first, k.reads, cut, bad))

module _ (p : List ℕ) (t : TableHeld p) where
  abbrev xs : List Line
  xs = map read_line (lines t.done)

  abbrev j : ℕ
  j = length (lines t.done)

  count_xs : length xs ≡ j
  count_xs = length-map (lines t.done) read_line

  known : Reads xs
  known = reads xs (rw count_xs t.awaits)

  size_p : length p ≡ j * line_length + length t.rest
  size_p = ap length t.split ∙ length-append t.done t.rest ∙ ap (λ (n : ℕ). n + length t.rest) t.size

  lines_of : (r : List ℕ) → map read_line (lines (t.done ++ r)) ≡ xs ++ map read_line (lines r)
  lines_of r = rw (t.whole r) (map-append (lines t.done) (lines r))

  after : (r : List ℕ) → p ++ r ≡ t.done ++ (t.rest ++ r)
  after r = rw t.split (append_assoc t.done t.rest r)

  table_short : length t.done ≤ (window_limit + channel_limit) * line_length
  table_short = omega (arith, t.size, known.short, count_xs)

  -- the table is not complete at the input's end
  incomplete : (read_table p).code ≡ line_refusal
  unfolding lines
  incomplete = go t.rest t.split t.unfed
    where
      go : (q : List ℕ) → p ≡ t.done ++ q → no_feed q ≡ true → (read_table p).code ≡ line_refusal
      go [] e u = rw (e, lines_of [], append-nil) t.awaits.code
      go (b ∷ q) e u = rw (e, lines_of (b ∷ q), line_last b q u, unfed_bad (b ∷ q) u, known.bad [])

  -- an LF ends the line
  abbrev line : Line
  line = read_line (t.rest ++ line_feed ∷ [])

  abbrev read_on : List Line → Reading
  read_on ls = table_of (xs ++ line ∷ ls)

  lines_fed : (bs : List ℕ) → map read_line (lines (p ++ line_feed ∷ bs)) ≡ xs ++ line ∷ map read_line (lines bs)
  lines_fed bs = rw (after (line_feed ∷ bs), lines_of (t.rest ++ line_feed ∷ bs), line_ends t.rest bs t.unfed)

  read_fed : read_table (p ++ line_feed ∷ []) ≡ read_on []
  unfolding lines
  read_fed = ap table_of (lines_fed [])

  -- a good line has 61 bytes
  line_size : (line ≡ Bad → ⊥) → length t.rest + 1 ≡ line_length
  line_size g = go line refl
    where
      go : (l : Line) → line ≡ l → length t.rest + 1 ≡ line_length
      go Bad e = absurd (g e)
      go (Six n) e = sym (length-append t.rest (line_feed ∷ [])) ∙ ap length (read_six (t.rest ++ line_feed ∷ []) n e).0 ∙ six_length n

  -- whole lines, one more
  whole_fed : (r : List ℕ) → lines ((p ++ line_feed ∷ []) ++ r) ≡ lines (p ++ line_feed ∷ []) ++ lines r
  whole_fed r =
      let one : (r : List ℕ) → lines (p ++ line_feed ∷ r) ≡ lines t.done ++ (t.rest ++ line_feed ∷ []) ∷ lines r =
      λ r. rw (after (line_feed ∷ r), t.whole (t.rest ++ line_feed ∷ r), line_ends t.rest r t.unfed)
      in
      rw (append_snoc p line_feed r, one r, one [], no_lines) (sym (append_snoc (lines t.done) (t.rest ++ line_feed ∷ []) (lines r)))

  count_fed : length (lines (p ++ line_feed ∷ [])) ≡ j + 1
  count_fed =
      let e : map read_line (lines (p ++ line_feed ∷ [])) ≡ xs ++ line ∷ [] = rw no_lines at (lines_fed []) in
      sym (length-map (lines (p ++ line_feed ∷ [])) read_line) ∙ ap length e ∙ length-append xs (line ∷ []) ∙ ap (λ (n : ℕ). n + 1) count_xs

  -- the table goes on after a good line
  held_fed : GoesOn read_on (length xs) line → TableHeld (p ++ line_feed ∷ [])
  unfolding no_feed
  held_fed g =
      record {
        done = p ++ line_feed ∷ [];
        rest = [];
        split = sym (append-nil (p ++ line_feed ∷ []));
        whole = whole_fed;
        awaits = record {
          code = ap (λ (r : Reading). r.code) read_fed ∙ g.missing.code;
          value = ap (λ (r : Reading). r.value) read_fed ∙ g.missing.value ∙ ap (λ (n : ℕ). n + 1 + 1) count_xs ∙ ap (λ (n : ℕ). n + 1) (sym count_fed);
        };
        size = length-append p (line_feed ∷ []) ∙ omega (arith, size_p, line_size g.six, count_fed);
        unfed = refl;
      }

  -- a line too long already is bad whatever follows
  long_read : (r : List ℕ) → line_length ≤ length t.rest → read_table (p ++ r) ≡ refused_table line_refusal (length xs + 1)
  long_read r h = rw (after r, lines_of (t.rest ++ r), (long_bad t.rest r t.unfed h).1) (known.bad (long_bad t.rest r t.unfed h).0)

  held_more : (b : ℕ) → eqb b line_feed ≡ false → TableHeld (p ++ b ∷ [])
  held_more b e =
      record {
        done = t.done;
        rest = t.rest ++ b ∷ [];
        split = after (b ∷ []);
        whole = t.whole;
        awaits = t.awaits;
        size = t.size;
        unfed = unfed_more t.rest b t.unfed e;
      }

-- ---------------------------------------------------------------- a table and what follows
-- p are the bytes of the table so far
abbrev TableGives : List ℕ → Type 0
TableGives bs = (s : Stream) (p : List ℕ) → s.place.stage ≡ Table → s.place.executive.inner ≡ empty_module → Holds s p → length p < held_limit → TableHeld p → Replays s bs (p ++ bs)

table_ends : TableGives []
unfolding fed_all
table_ends s p st own h short t =
    let bad : (read_table p).code ≡ 0 → ⊥ = λ e. omega (arith, incomplete p t) in
    let c = close_refused s p st own h (omega arith) bad in
    rw append-nil
    (record {
      prints = ap (λ (f : Fed). f.text) c ∙ sym (refused_replay p (read_table p) refl bad);
      leaves = ap (λ (f : Fed). f.stream.place.executive.inner) c ∙ own ∙ sym (refused_record p (read_table p) refl bad);
    })

not_missing : (code value n : ℕ) → (code ≡ line_refusal → value * line_length ≡ n + line_length → ⊥) → missing code value n ≡ false
not_missing code value n h = either (eqb code line_refusal)
    (λ e. rw (e, ne_eqb _ _ (h (eqb-true code line_refusal e))))
    (λ e. rw e)

is_missing : (code value n : ℕ) → code ≡ line_refusal → value * line_length ≡ n + line_length → missing code value n ≡ true
is_missing code value n c v = rw (eq-eqb code line_refusal c, eq-eqb _ _ v)

table_fed : (bs : List ℕ) → TableGives bs → TableGives (line_feed ∷ bs)
unfolding held_fed
table_fed bs next s p st own h short t = go ((known p t).next (line p t))
  where
    x : Reading
    x = read_table (p ++ line_feed ∷ [])

    same_code : x.code ≡ (read_on p t []).code
    same_code = ap (λ (r : Reading). r.code) (read_fed p t)

    same_value : x.value ≡ (read_on p t []).value
    same_value = ap (λ (r : Reading). r.value) (read_fed p t)

    settled : Settled (read_on p t) (length (xs p t)) → Replays s (line_feed ∷ bs) (p ++ line_feed ∷ bs)
    settled z =
        let same : read_table (p ++ line_feed ∷ bs) ≡ x = ap table_of (lines_fed p t bs) ∙ z.same (map read_line (lines bs)) ∙ sym (read_fed p t) in
        either (eqb x.code 0)
        (λ e.
        let good : x.code ≡ 0 = eqb-true _ 0 e in
        let took : x.lines ≡ length (xs p t) + 1 = ap (λ (r : Reading). r.lines) (read_fed p t) ∙ z.took (sym same_code ∙ good) in
        byte_accepted s p line_feed bs st own h short refl good same (rw (took, lines_fed p t bs) (drop-append-add (xs p t) (line p t ∷ map read_line (lines bs)) 1)))
        (λ e.
        let bad : x.code ≡ 0 → ⊥ = eqb-false _ 0 e in
        byte_refused s p line_feed bs st own h short refl bad
        (not_missing x.code x.value (length p + 1) (λ c v. omega (arith, same_value, z.bad (sym same_code ∙ c), count_xs p t, size_p p t, v)))
        same)

    go : Next (read_on p t) (length (xs p t)) (line p t) → Replays s (line_feed ∷ bs) (p ++ line_feed ∷ bs)
    go (inl g) =
        let c : x.code ≡ line_refusal = same_code ∙ g.missing.code in
        let k = held_fed p t g in
        let few : length (p ++ line_feed ∷ []) ≤ (window_limit + channel_limit) * line_length = table_short (p ++ line_feed ∷ []) k in
        byte_missing s p line_feed bs st own h short refl (λ e. omega (arith, c))
        (is_missing x.code x.value (length p + 1) c (omega (arith, same_value, g.missing.value, count_xs p t, size_p p t, line_size p t g.six)))
        (rw (← append_snoc p line_feed bs)
        (next (put s line_feed) (p ++ line_feed ∷ []) st own (holds_put s p line_feed h)
        (omega (arith, few)) k))
    go (inr z) = settled z

table_held : (b : ℕ) (bs : List ℕ) → TableGives bs → eqb b line_feed ≡ false → TableGives (b ∷ bs)
unfolding held_more
table_held b bs next e s p st own h short t =
    either (leb held_limit (put s b).place.count) full (λ l.
    byte_held s p b bs st own h short (rw (e, l))
    (rw (← append_snoc p b bs) (next (put s b) (p ++ b ∷ []) st own (holds_put s p b h) (omega (arith, leb-false held_limit (put s b).place.count l, counted s p b bs st own h short, grown s p b bs st own h short)) k)))
  where
    k : TableHeld (p ++ b ∷ [])
    k = held_more p t b e

    full : leb held_limit (put s b).place.count ≡ true → Replays s (b ∷ bs) (p ++ b ∷ bs)
    full l =
        let n = counted s p b bs st own h short in
        let long : line_length ≤ length k.rest = omega (arith, leb-true held_limit (put s b).place.count l, n, grown s p b bs st own h short, size_p (p ++ b ∷ []) k, (known (p ++ b ∷ []) k).short, count_xs (p ++ b ∷ []) k) in
        let one : read_table (p ++ b ∷ []) ≡ refused_table line_refusal (length (xs p t) + 1) = rw append-nil at (long_read (p ++ b ∷ []) k [] long) in
        let all : read_table (p ++ b ∷ bs) ≡ refused_table line_refusal (length (xs p t) + 1) = rw (append_snoc p b bs) at (long_read (p ++ b ∷ []) k bs long) in
        byte_refused s p b bs st own h short (rw (e, l)) (λ c. omega (arith, ap (λ (r : Reading). r.code) one))
        (not_missing (read_table (p ++ b ∷ [])).code (read_table (p ++ b ∷ [])).value (length p + 1) (λ c v. omega (arith, ap (λ (r : Reading). r.value) one, v, (known p t).short, leb-true held_limit (put s b).place.count l, n)))
        (all ∙ sym one)

table_gives : (bs : List ℕ) → TableGives bs
table_gives [] s p st own h short t = table_ends s p st own h short t
table_gives (b ∷ bs) s p st own h short t =
    either (eqb b line_feed)
    (λ e. let n : b ≡ line_feed = eqb-true b line_feed e in rw n (table_fed bs (table_gives bs) s p st own h short t))
    (λ e. table_held b bs (table_gives bs) e s p st own h short t)

-- ---------------------------------------------------------------- a whole input
none_held : TableHeld []
unfolding lines table_of no_feed
none_held = record { done = []; rest = []; split = refl; whole = λ r. refl; awaits = record { code = refl; value = refl }; size = refl; unfed = refl }

whole : (input : List ℕ) → Replays begun input input
whole input = table_gives input begun [] refl refl (holds_none begun (length-replicate {A = ℕ} held_limit 0) refl) (omega arith) none_held

pub stream_printed : (input : List ℕ) → streamed begun input ≡ replayed input
stream_printed input = (whole input).prints

pub stream_record : (input : List ℕ) → stream_end begun input ≡ replayed_record input
stream_record input = (whole input).leaves
