-- Any cutting of an input gives the output of the whole. Assumes nothing.
use Prim.Native.Nat.{ℕ, suc, ◌-◌, ◌*◌, ◌≤◌, ◌<◌}
use mathlib.Core.Path.{◌≡◌, refl, sym, ap, ◌∙◌}
use mathlib.Core.Bool.{true}
use mathlib.Core.List.{List, [], ◌∷◌, ◌++◌, append_assoc}
use native.Mathlib.Omega.{arith}
use lib.ListN.{length, take, drop, length-append, take-append-drop}
use lib.Dec.{leb, ltb}
use borrow.Author.Tests.{le-leb, leb-true, leb-false, ltb-true, ltb-false}
use Rattle.machine.specs.Limits.{line_length}
use Rattle.machine.specs.Line.{line_refusal}
use Rattle.machine.specs.Replay.{replayed, replayed_record}
use Rattle.machine.proofs.Bounds.{and_true_parts}
use Rattle.machine.proofs.Either.{either}
use Rattle.stream.specs.declared.Stream.{Stream}
use Rattle.machine.specs.Refusals.{result_code}
use Rattle.stream.specs.Stream.{begun, Fed, feed, run, advanced, last, closed, prints, is_stuck, finished, finished_of, fed_all, Piece, pieces}
use Rattle.stream.proofs.Chunks.{feed_short}
use Rattle.stream.proofs.Whole.{stream_printed, stream_record}

-- one part of an input after another
abbrev then : Fed → (Stream → Fed) → Fed
then f g = record { stream = (g f.stream).stream; text = f.text ++ (g f.stream).text }

fed_both : (s : Stream) (a b : List ℕ) → fed_all s (a ++ b) ≡ then (fed_all s a) (λ x. fed_all x b)
unfolding fed_all
fed_both s [] b = refl
fed_both s (x ∷ a) b =
    let f = feed s x in
    let g = fed_all f.stream a in
    rw (fed_both f.stream a b) (ap (λ (l : List ℕ). record { stream = (fed_all g.stream b).stream; text = l }) (sym (append_assoc f.text g.text (fed_all g.stream b).text)))

-- what is taken of a chunk is what is printed for
run_fed : (s : Stream) (room : ℕ) (bs : List ℕ) → fed_all s (take (run s room bs).taken bs) ≡ record { stream = (run s room bs).stream; text = (run s room bs).text }
unfolding fed_all run
run_fed s room [] = refl
run_fed s room (b ∷ bs) =
    either (leb line_length room)
    (λ t. rw t (rw (run_fed (feed s b).stream (room - length (feed s b).text) bs)))
    (λ t. rw t)

-- no more than the chunk has; at least a byte where there is one, and room for a line; all of it where there is room for a line each
pub run_within : (s : Stream) (room : ℕ) (bs : List ℕ) → (run s room bs).taken ≤ length bs
unfolding run
run_within s room [] = omega arith
run_within s room (b ∷ bs) =
    either (leb line_length room)
    (λ t. rw t (omega (arith, run_within (feed s b).stream (room - length (feed s b).text) bs)))
    (λ t. rw t (omega arith))

pub run_some : (s : Stream) (room : ℕ) (bs : List ℕ) → line_length ≤ room → 0 < length bs → 0 < (run s room bs).taken
unfolding run
run_some s room [] h k = absurd (omega arith)
run_some s room (b ∷ bs) h k = rw (le-leb line_length room h) (omega arith)

pub run_all : (s : Stream) (room : ℕ) (bs : List ℕ) → length bs * line_length ≤ room → (run s room bs).taken ≡ length bs
unfolding run
run_all s room [] h = refl
run_all s room (b ∷ bs) h =
    rw (le-leb line_length room (omega arith))
    (omega (arith, run_all (feed s b).stream (room - length (feed s b).text) bs (omega (arith, feed_short s b))))

-- what is printed has room
pub run_room : (s : Stream) (room : ℕ) (bs : List ℕ) → length (run s room bs).text ≤ room
unfolding run
run_room s room [] = omega arith
run_room s room (b ∷ bs) =
    either (leb line_length room)
    (λ t.
    let fits : line_length ≤ room = leb-true line_length room t in
    rw t (omega (arith, run_room (feed s b).stream (room - length (feed s b).text) bs, feed_short s b, length-append (feed s b).text (run (feed s b).stream (room - length (feed s b).text) bs).text)))
    (λ t. rw t (omega arith))

-- bytes are left only where there is no room for a line
run_stops : (s : Stream) (room : ℕ) (bs : List ℕ) → (run s room bs).taken < length bs → room - length (run s room bs).text < line_length
unfolding run
run_stops s room [] h = absurd (omega arith)
run_stops s room (b ∷ bs) h =
    either (leb line_length room)
    (λ t.
    let f = feed s b in
    let r = run f.stream (room - length f.text) bs in
    let more : suc r.taken < length (b ∷ bs) = rw t at h in
    rw t (omega (arith, run_stops f.stream (room - length f.text) bs (omega arith), length-append f.text r.text)))
    (λ t. rw t (omega (arith, leb-false line_length room t)))

-- ---------------------------------------------------------------- the code
-- 0: the chunk is taken whole
pub advanced_whole : (s : Stream) (room : ℕ) (bs : List ℕ) → result_code (advanced s room bs).outcome ≡ 0 → (advanced s room bs).taken ≡ length bs
advanced_whole s room bs h =
    either (ltb (run s room bs).taken (length bs))
    (λ t. absurd (let q = rw t at h in omega arith))
    (λ t. omega (arith, ltb-false (run s room bs).taken (length bs) t, run_within s room bs))

-- else 11: bytes are left, and there is no room for a line
pub advanced_short : (s : Stream) (room : ℕ) (bs : List ℕ) → (result_code (advanced s room bs).outcome ≡ 0 → ⊥)
    → (result_code (advanced s room bs).outcome ≡ line_refusal) × ((advanced s room bs).taken < length bs) × (room - (advanced s room bs).printed < line_length)
advanced_short s room bs h =
    either (ltb (run s room bs).taken (length bs))
    (λ t. let less = ltb-true (run s room bs).taken (length bs) t in (rw t, less, run_stops s room bs less))
    (λ t. absurd (h (rw t)))

-- 0: the last line is printed, if there is one
pub finished_whole : (s : Stream) (room : ℕ) → result_code (finished_of s room).outcome ≡ 0 → finished s room ≡ record { stream = (closed s).stream; taken = 0; text = (closed s).text }
unfolding finished
finished_whole s room h = either (is_stuck (last s).numbers room) (λ t. absurd (let q = rw t at h in omega arith)) (λ t. rw t)

-- else 11: one is to be printed, there is no room for it, and nothing is done
pub finished_short : (s : Stream) (room : ℕ) → (result_code (finished_of s room).outcome ≡ 0 → ⊥)
    → (result_code (finished_of s room).outcome ≡ line_refusal) × (prints (last s).numbers ≡ true) × (room < line_length) × (finished s room ≡ record { stream = s; taken = 0; text = [] })
unfolding finished
finished_short s room h =
    either (is_stuck (last s).numbers room)
    (λ t. let p = and_true_parts (prints (last s).numbers) (ltb room line_length) t in (rw t, p.0, ltb-true room line_length p.1, rw t))
    (λ t. absurd (h (rw t)))

-- ---------------------------------------------------------------- pieces
-- the rest of a chunk goes on from there
pub fed_rest : (s : Stream) (room : ℕ) (bs : List ℕ) → (fed_all (run s room bs).stream (drop (run s room bs).taken bs)).stream ≡ (fed_all s bs).stream
fed_rest s room bs =
    let n = (run s room bs).taken in
    sym
    (ap (λ (l : List ℕ). (fed_all s l).stream) (sym (take-append-drop n bs))
    ∙ ap (λ (f : Fed). f.stream) (fed_both s (take n bs) (drop n bs))
    ∙ ap (λ (f : Fed). (fed_all f.stream (drop n bs)).stream) (run_fed s room bs))

-- and prints what is left to print
pub rest_text : (s : Stream) (room : ℕ) (bs : List ℕ) → (run s room bs).text ++ (fed_all (run s room bs).stream (drop (run s room bs).taken bs)).text ≡ (fed_all s bs).text
rest_text s room bs =
    let n = (run s room bs).taken in
    sym
    (ap (λ (l : List ℕ). (fed_all s l).text) (sym (take-append-drop n bs))
    ∙ ap (λ (f : Fed). f.text) (fed_both s (take n bs) (drop n bs))
    ∙ ap (λ (f : Fed). f.text ++ (fed_all f.stream (drop n bs)).text) (run_fed s room bs))

-- one input after another
pub fed_text : (s : Stream) (a b : List ℕ) → (fed_all s (a ++ b)).text ≡ (fed_all s a).text ++ (fed_all (fed_all s a).stream b).text
fed_text s a b = ap (λ (f : Fed). f.text) (fed_both s a b)

pub fed_on : (s : Stream) (a b : List ℕ) → (fed_all (fed_all s a).stream b).stream ≡ (fed_all s (a ++ b)).stream
fed_on s a b = sym (ap (λ (f : Fed). f.stream) (fed_both s a b))

pieces_fed : (ps : List Piece) (s : Stream) → fed_all s (pieces s ps).bytes ≡ record { stream = (pieces s ps).stream; text = (pieces s ps).text }
unfolding fed_all pieces
pieces_fed [] s = refl
pieces_fed (p ∷ ps) s =
    let r = run s p.room p.chunk in
    fed_both s (take r.taken p.chunk) (pieces r.stream ps).bytes
    ∙ rw (run_fed s p.room p.chunk, pieces_fed ps r.stream)

-- however the input is cut and whatever room each piece is given, what is printed for the bytes taken, and the last line, are what
-- the whole of these bytes gives
pub any_cutting : (ps : List Piece) → (pieces begun ps).text ++ (closed (pieces begun ps).stream).text ≡ replayed (pieces begun ps).bytes
any_cutting ps = rw (pieces_fed ps begun) at (stream_printed (pieces begun ps).bytes)

pub any_cutting_record : (ps : List Piece) → (closed (pieces begun ps).stream).stream.place.executive.inner ≡ replayed_record (pieces begun ps).bytes
any_cutting_record ps =
    ap (λ (f : Fed). (closed f.stream).stream.place.executive.inner) (sym (pieces_fed ps begun)) ∙ stream_record (pieces begun ps).bytes
