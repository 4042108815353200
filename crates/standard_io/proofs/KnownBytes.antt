-- From a reader to a writer, where their bytes are known. Assumes nothing.
use Rattle.std.proofs.Common.{ℕ, ◌+◌, ◌≤◌, ◌<◌, Bool, true, false, List, [], ◌++◌, length, take, drop, eqb, Option, None, Some, Result, Ok, Err, IfSome, ◌≡◌, refl, sym, ap, ◌∙◌, arith, append_assoc, append-nil}
use Rattle.std.specs.Io.KnownBytes.{Appends, Consumes, IsAtEnd, ReadConsumes}
use Rattle.std.proofs.KnownBytes.{Appends-nil, Appends-trans, Consumes-nil, Consumes-trans, Consumes-kept, Consumes-whole}
use mathlib.Core.Bool.{and-false}
use lib.ListN.{drop_of_length-le}
use Rattle.std.proofs.Math.Seq.{take-add}
use lib.Seq.{drop-drop, take-append_seam}
use borrow.Author.Tests.{eqb-true, le-ltb}
use Rattle.machine.specs.Limits.{line_length}
use Rattle.machine.specs.Replay.{replayed, replayed_record}
use Rattle.machine.proofs.Either.{either}
use Rattle.executive.specs.declared.Executive.{Executive}
use Rattle.stream.specs.declared.Stream.{Stream}
use Rattle.stream.specs.declared.Advance.{Advance}
use Rattle.stream.specs.declared.Stage.{Stage}
use Rattle.stream.specs.declared.Stage.TheVariants.{Table as TableStage, Events, Ended}
use Rattle.stream.specs.declared.Place.{Place}
use Rattle.event_lines.specs.Blocks.{over}
use Rattle.stream.specs.Stream.{begun, turn_in, is_ended, run, advanced, closed, finished, finished_of, fed_all}
use Rattle.stream.proofs.Pieces.{rest_text, fed_on, fed_text}
use Rattle.stream.proofs.Whole.{stream_printed}
use Rattle.standard_io.specs.declared.End.{End}
use Rattle.standard_io.specs.declared.End.TheVariants.{Going, Input, Table, Unread, Unwritten}
use Rattle.standard_io.specs.declared.Shown.{Shown}
use Rattle.standard_io.specs.declared.Turn.{Turn}
use Rattle.standard_io.specs.StandardIo.{got_of, bytes_of, shown_of, end_after, after_shown, after_read, TookRead, Told, Carried, is_going, ReadToEnd, last_end, input_end, after_last, last_text, LastTurn, text_after, ReplayedOver, ReplayedWhole}
use Rattle.standard_io.proofs.Laws.{reads_go, last_record}

absurd_end : {P : Type 0} → (◌≡◌ {A = ℕ} 0 1) → P
absurd_end q = absurd (omega arith)

shown_both : (prints : Bool) (a b : List ℕ) → shown_of prints (a ++ b) ≡ shown_of prints a ++ shown_of prints b
shown_both true a b = refl
shown_both false a b = refl

shown_none : (prints : Bool) → shown_of prints [] ≡ []
shown_none true = refl
shown_none false = refl

nothing_appended : (prints : Bool) (a : Option (List ℕ)) → Appends a a (shown_of prints [])
nothing_appended prints a = rw (shown_none prints) (Appends-nil a)

appended_on : (prints : Bool) (a b c : Option (List ℕ)) (x y : List ℕ) → Appends a b (shown_of prints x) → Appends b c (shown_of prints y) → Appends a c (shown_of prints (x ++ y))
appended_on prints a b c x y p q = rw (shown_both prints x y) (Appends-trans a b c (shown_of prints x) (shown_of prints y) p q)

-- ---------------------------------------------------------------- a chunk
-- what the bytes before i print is written, unless a write failed
pub record Telling (prints : Bool) (held holds : Option (List ℕ)) (s₀ : Stream) (chunk : List ℕ) (s : Stream) (i : ℕ) (written : Bool) : Type 0 where
  pub text : List ℕ
  pub rest : text ++ (fed_all s (drop i chunk)).text ≡ (fed_all s₀ chunk).text
  pub wrote : written ≡ true → Appends held holds (shown_of prints text)

pub telling_begins : (prints : Bool) (held : Option (List ℕ)) (s : Stream) (chunk : List ℕ) → Telling prints held held s chunk s 0 true
telling_begins prints held s chunk = record { text = []; rest = refl; wrote = λ _. nothing_appended prints held }

module _ (prints : Bool) (held holds holds' : Option (List ℕ)) (s₀ : Stream) (chunk : List ℕ) (s : Stream) (i : ℕ) (written : Bool) (k : Telling prints held holds s₀ chunk s i written)
    (out part : List ℕ) (cut : part ≡ drop i chunk) (a : Advance) (went : a ≡ advanced s (length out) part) (out' : List ℕ) (stored : out' ≡ over (run s (length out) part).text out) where
  printed : take a.printed out' ≡ (run s (length out) part).text
  printed =
      let text = (run s (length out) part).text in
      ap (λ (x : Advance). take x.printed out') went ∙ ap (take (length text)) stored ∙ take-append_seam text (drop (length text) out)

  pub telling_goes : (did : Bool) → (did ≡ true → Appends holds holds' (shown_of prints (take a.printed out')))
      → (now : Bool) → (now ≡ true → (written ≡ true) × (did ≡ true)) → Telling prints held holds' s₀ chunk a.stream (i + a.taken) now
  telling_goes did w now both =
      let r = run s (length out) part in record {
        text = k.text ++ r.text;
        rest =
            append_assoc k.text r.text (fed_all a.stream (drop (i + a.taken) chunk)).text
            ∙ ap (λ (l : List ℕ). k.text ++ l)
            (ap (λ (x : Advance). r.text ++ (fed_all x.stream (drop (i + x.taken) chunk)).text) went
            ∙ rw (← drop-drop r.taken i chunk, ← cut) (rest_text s (length out) part)
            ∙ ap (λ (l : List ℕ). (fed_all s l).text) cut)
            ∙ k.rest;
        wrote = λ t.
            let b = both t in
            let q : Appends holds holds' (shown_of prints r.text) = rw printed at (w b.1) in
            appended_on prints held holds holds' k.text r.text (k.wrote b.0) q;
      }

pub telling_ends : (prints : Bool) (held holds : Option (List ℕ)) (s₀ : Stream) (chunk : List ℕ) (s : Stream) (i : ℕ) (written : Bool) → Telling prints held holds s₀ chunk s i written
    → length chunk ≤ i → written ≡ true → Appends held holds (shown_of prints (fed_all s₀ chunk).text)
unfolding fed_all
telling_ends prints held holds s₀ chunk s i written k h t =
    let q : k.text ≡ (fed_all s₀ chunk).text = sym (append-nil k.text) ∙ (rw (drop_of_length-le chunk {i = i} h) at k.rest) in rw (← q) (k.wrote t)

-- ---------------------------------------------------------------- a read
-- what a read gave the reader had, and has no longer
pub read_consumes : {E : Type 0} (had left : Option (List ℕ)) (answer : Result ℕ E) (buf : List ℕ) → ReadConsumes had left answer buf → Consumes had left (bytes_of (got_of answer) buf)
read_consumes had left (Ok n) buf c = c.0
read_consumes had left (Err x) buf c = Consumes-kept had had left [] (Consumes-nil had) c

-- nothing is given only at the end
pub nothing_left : {E : Type 0} (had left : Option (List ℕ)) (answer : Result ℕ E) (buf : List ℕ) → ReadConsumes had left answer buf → 0 < length buf → got_of answer ≡ Some 0 → IsAtEnd left
nothing_left had left (Ok n) buf c some q = c.1 (cc) some
nothing_left had left (Err x) buf c some q = absurd_end (cc)

pub nothing_told : (prints : Bool) (held : Option (List ℕ)) (s : Stream) (got : Option ℕ) (bytes : List ℕ) (end : End) → bytes_of got bytes ≡ [] → Told prints held held s (bytes_of got bytes) (record { stream = s; end = end })
unfolding fed_all
nothing_told prints held s got bytes end e = rw e (record { fed = refl; wrote = λ _. nothing_appended prints held })

shown_written : (written refused : Bool) → (end_after written refused ≡ Unwritten → ⊥) → written ≡ true
shown_written true refused h = refl
shown_written false refused h = absurd (h refl)

pub shown_told : {E : Type 0} (prints : Bool) (held holds : Option (List ℕ)) (s : Stream) (bytes : List ℕ) (answer : Result ℕ E) (n : ℕ) → answer ≡ Ok n → (p : Shown) → p.stream ≡ (fed_all s (take n bytes)).stream
    → (p.written ≡ true → Appends held holds (shown_of prints (fed_all s (take n bytes)).text)) → (r : Turn) → r ≡ after_shown p → Told prints held holds s (bytes_of (got_of answer) bytes) r
shown_told prints held holds s bytes answer n e p f w r g =
    rw (e, g) (record { fed = f; wrote = λ h. w (shown_written p.written (is_ended p.stream.place.stage) h) })

-- reading ends at the input's end only where a read gave nothing
ends_nothing : (s : Stream) (got : Option ℕ) (bytes : List ℕ) (written : Bool) → (after_read s got bytes written).end ≡ Input → got ≡ Some 0
ends_nothing s (Some n) bytes written e = either (eqb n 0)
    (λ t. ap Some (eqb-true n 0 t))
    (λ t. goes_on written (is_ended (fed_all s (take n bytes)).stream.place.stage) (rw t at e))
  where
    goes_on : {P : Type 0} (w r : Bool) → end_after w r ≡ Input → P
    goes_on true true q = absurd_end (cc)
    goes_on true false q = absurd_end (cc)
    goes_on false r q = absurd_end (cc)
ends_nothing s None bytes written e = absurd_end (cc)

pub carried_once : {E : Type 0} (prints : Bool) (had left held holds : Option (List ℕ)) (s : Stream) (answer : Result ℕ E) (buf : List ℕ) → ReadConsumes had left answer buf
    → 0 < length buf → (t : Turn) → TookRead prints s (got_of answer) buf t → Told prints held holds s (bytes_of (got_of answer) buf) t
    → Carried prints had left held holds s t
carried_once prints had left held holds s answer buf c some t k told = record {
  read = bytes_of (got_of answer) buf;
  consumed = read_consumes had left answer buf c;
  all = λ i. nothing_left had left answer buf c some (ends_nothing s (got_of answer) buf k.written (sym (ap (λ (x : Turn). x.end) k.is) ∙ i));
  told = told;
}

-- ---------------------------------------------------------------- the loop
pub carried_none : (prints : Bool) (had held : Option (List ℕ)) (s : Stream) → s ≡ begun → Carried prints had had held held begun (record { stream = s; end = Going })
unfolding fed_all
carried_none prints had held s e = record {
  read = [];
  consumed = Consumes-nil had;
  all = λ i. absurd_end (cc);
  told = record { fed = e; wrote = λ _. nothing_appended prints held };
}

going_not : (x : End) → is_going x ≡ true → x ≡ Unwritten → ⊥
going_not Going g e = absurd_end (cc)
going_not Input g e = absurd_end (cc)
going_not Table g e = absurd_end (cc)
going_not Unread g e = absurd_end (cc)
going_not Unwritten g e = absurd_end (cc)

pub carried_on : (prints : Bool) (had left left' held holds holds' : Option (List ℕ)) (s : Stream) (t u : Turn) → Carried prints had left held holds s t → is_going t.end ≡ true
    → Carried prints left left' holds holds' t.stream u → Carried prints had left' held holds' s u
carried_on prints had left left' held holds holds' s t u a g b = record {
  read = a.read ++ b.read;
  consumed = Consumes-trans had left left' a.read b.read a.consumed b.consumed;
  all = b.all;
  told = record {
    fed = b.told.fed ∙ ap (λ (x : Stream). (fed_all x b.read).stream) a.told.fed ∙ fed_on s a.read b.read;
    wrote = λ n.
        let q : Appends holds holds' (shown_of prints (fed_all (fed_all s a.read).stream b.read).text) = rw a.told.fed at (b.told.wrote n) in
        rw (fed_text s a.read b.read) (appended_on prints held holds holds' (fed_all s a.read).text (fed_all (fed_all s a.read).stream b.read).text (a.told.wrote (going_not t.end g)) q);
  };
}

-- ---------------------------------------------------------------- the end
finished_text : (s : Stream) (room : ℕ) → line_length ≤ room → (finished s room).text ≡ (closed s).text
unfolding finished
finished_text s room h = rw (le-ltb room line_length h, and-false)

-- the last line is written
pub last_told : (prints : Bool) (held holds : Option (List ℕ)) (s : Stream) (out : List ℕ) (a : Advance) → a ≡ finished_of s (length out) → line_length ≤ length out
    → (out' : List ℕ) → out' ≡ over (finished s (length out)).text out → Appends held holds (shown_of prints (take a.printed out')) → Appends held holds (shown_of prints (closed s).text)
last_told prints held holds s out a went enough out' stored w =
    let text = (finished s (length out)).text in
    let e : take a.printed out' ≡ (closed s).text =
    ap (λ (x : Advance). take x.printed out') went ∙ ap (take (length text)) stored ∙ take-append_seam text (drop (length text) out) ∙ finished_text s (length out) enough in
    rw e at w

input_written : (written : Bool) → (input_end written ≡ Unwritten → ⊥) → written ≡ true
input_written true h = refl
input_written false h = absurd (h refl)

pub last_shown_told : (prints : Bool) (held holds : Option (List ℕ)) (t : Turn) → t.end ≡ Input → (p : Shown) → (p.written ≡ true → Appends held holds (shown_of prints (closed t.stream).text))
    → (r : Turn) → r ≡ after_last p → (r.end ≡ Unwritten → ⊥) → Appends held holds (shown_of prints (last_text t.end t.stream))
last_shown_told prints held holds t e p w r g n =
    rw e (w (input_written p.written (λ u. n (ap (λ (x : Turn). x.end) g ∙ u))))

pub last_none_told : (prints : Bool) (held : Option (List ℕ)) (t : Turn) (n : End) → t.end ≡ n → last_text n t.stream ≡ [] → Appends held held (shown_of prints (last_text t.end t.stream))
last_none_told prints held t n e q = rw (e, q) (nothing_appended prints held)

-- a refused table leaves nothing to print
refused_text : (stage : Stage) (x : Place) (text : List ℕ) → is_ended stage ≡ true → (turn_in true stage x text).numbers ≡ None
refused_text TableStage x text e = absurd_end (cc)
refused_text Events x text e = absurd_end (cc)
refused_text Ended x text e = refl

ended_text : (s : Stream) → is_ended s.place.stage ≡ true → (closed s).text ≡ []
unfolding closed
ended_text s e = rw (refused_text s.place.stage s.place (take s.place.count s.held) e)

text_parts : (read : List ℕ) (n : End) → (n ≡ Table → is_ended (fed_all begun read).stream.place.stage ≡ true) → text_after n read ≡ (fed_all begun read).text ++ last_text n (fed_all begun read).stream
text_parts read Going h = sym (append-nil (fed_all begun read).text)
text_parts read Input h = sym (stream_printed read)
text_parts read Table h = sym (stream_printed read) ∙ ap (λ (l : List ℕ). (fed_all begun read).text ++ l) (ended_text (fed_all begun read).stream (h refl))
text_parts read Unread h = sym (append-nil (fed_all begun read).text)
text_parts read Unwritten h = sym (append-nil (fed_all begun read).text)

-- the last line changes the end only where it cannot be written
same_end : (x : End) (w : Bool) → (last_end x w ≡ Unwritten → ⊥) → last_end x w ≡ x
same_end Going w h = refl
same_end Input true h = refl
same_end Input false h = absurd (h refl)
same_end Table w h = refl
same_end Unread w h = refl
same_end Unwritten w h = refl

was_input : (x : End) (w : Bool) → last_end x w ≡ Input → x ≡ Input
was_input Going w e = e
was_input Input w e = refl
was_input Table w e = e
was_input Unread w e = e
was_input Unwritten w e = e

module _ (prints : Bool) (had left held mid holds : Option (List ℕ)) (t : Turn) (h : ReadToEnd prints t) (k : Carried prints had left held mid begun t)
    (last : Turn) (l : LastTurn prints t last) (w : (last.end ≡ Unwritten → ⊥) → Appends mid holds (shown_of prints (last_text t.end t.stream)))
    (e : Executive) (own : e ≡ last.stream.place.executive) where
  ends : last.end ≡ last_end t.end l.written
  ends = ap (λ (x : Turn). x.end) l.is

  stays : (last.end ≡ Unwritten → ⊥) → last.end ≡ t.end
  stays n = ends ∙ same_end t.end l.written (λ u. n (ends ∙ u))

  refused : t.end ≡ Table → is_ended t.stream.place.stage ≡ true
  refused = (reads_go prints h.count t h.reads).table

  pub replayed_over : ReplayedOver prints had left held holds (record { executive = e; end = last.end })
  replayed_over = record {
    read = k.read;
    consumed = k.consumed;
    all = λ i. k.all (was_input t.end l.written (sym ends ∙ i));
    leaves = λ n.
        rw (stays n)
        (ap (λ (x : Executive). x.inner) own
        ∙ ap (λ (x : Turn). x.stream.place.executive.inner) l.is
        ∙ last_record t.stream (record { read = k.read; is = k.told.fed }) t.end refused);
    wrote = λ n.
        let still : t.end ≡ Unwritten → ⊥ = λ u. n (stays n ∙ u) in
        let q : Appends mid holds (shown_of prints (last_text t.end (fed_all begun k.read).stream)) = rw k.told.fed at (w n) in
        rw (stays n, text_parts k.read t.end (λ b. rw (← k.told.fed) (refused b)))
        (appended_on prints held mid holds (fed_all begun k.read).text (last_text t.end (fed_all begun k.read).stream) (k.told.wrote still) q);
  }

pub replayed_whole : (prints : Bool) (had left held holds : Option (List ℕ)) (e : Executive) (end : End) → ReplayedOver prints had left held holds (record { executive = e; end = end }) → end ≡ Input
    → IfSome had (ReplayedWhole prints held holds (record { executive = e; end = end }))
replayed_whole prints had left held holds e end k i =
    let n : end ≡ Unwritten → ⊥ = λ u. absurd_end (cc) in
    let leaves : e.inner ≡ replayed_record k.read = rw i at (k.leaves n) in
    let wrote : Appends held holds (shown_of prints (replayed k.read)) = rw i at (k.wrote n) in
    Consumes-whole had left k.read (ReplayedWhole prints held holds (record { executive = e; end = end })) k.consumed (k.all i) (record { leaves = leaves; wrote = wrote })

-- ---------------------------------------------------------------- a whole input
module _ (had mid left : Option (List ℕ)) (input input' : List ℕ) (at : ℕ) (got : Option ℕ) (before : Consumes had mid (take at input)) (now : Consumes mid left (bytes_of got (drop at input')))
    (kept : take at input' ≡ take at input) where
  -- the buffer's front after a read that gave bytes
  pub read_further : (n : ℕ) → got ≡ Some n → Consumes had left (take (at + n) input')
  read_further n e =
      let q : take (at + n) input' ≡ take at input ++ take n (drop at input') = take-add at n input' ∙ ap (λ (l : List ℕ). l ++ take n (drop at input')) kept in
      let more : Consumes mid left (take n (drop at input')) = rw e at now in
      rw q (Consumes-trans had mid left (take at input) (take n (drop at input')) before more)
