-- What the loops over what is read keep. Assumes nothing.
use Prim.Native.Nat.{ℕ, suc, ◌+◌, ◌-◌, ◌≤◌, ◌<◌}
use mathlib.Core.Bool.{Bool, true, false}
use mathlib.Core.Path.{◌≡◌, refl, sym, ap, ◌∙◌}
use mathlib.Core.List.{List, [], ◌++◌}
use native.Mathlib.Omega.{arith}
use native.Mathlib.Numerals.{add-one}
use lib.ListN.{length, take, drop, length-append, length-drop, drop_of_length-le}
use lib.Seq.{drop-drop}
use lib.Dec.{eqb}
use borrow.Author.Tests.{ne_eqb}
use Rattle.machine.specs.Limits.{line_length}
use Rattle.machine.specs.Replay.{replayed_record}
use Rattle.machine.proofs.Tests.{by_test, not_both}
use Rattle.executive.specs.declared.Executive.{Executive}
use Rattle.stream.specs.declared.Stream.{Stream}
use Rattle.stream.specs.declared.Advance.{Advance}
use Rattle.event_lines.specs.Blocks.{over}
use Rattle.stream.specs.declared.Stage.{Stage}
use Rattle.stream.specs.declared.Stage.TheVariants.{Table as TableStage, Events, Ended}
use Rattle.stream.specs.declared.Place.{Place}
use Rattle.stream.specs.Stream.{begun, turn_in, is_ended, run, advanced, closed, finished, finished_of, fed_all}
use Rattle.stream.proofs.Chunks.{finished_closed, held_length}
use Rattle.stream.proofs.Pieces.{run_within, run_some, run_room, fed_rest, fed_on}
use Rattle.stream.proofs.Whole.{stream_record}
use Rattle.std.specs.Prelude.{Option, None, Some, Result, Ok, Err}
use Rattle.std.specs.Result.{is_ok, is_err}
use Rattle.std.specs.Io.{ReadsAtMost}
use Rattle.standard_io.specs.declared.Cut.{Cut}
use Rattle.standard_io.specs.declared.End.{End}
use Rattle.standard_io.specs.declared.End.TheVariants.{Going, Input, Table, Unread, Unwritten}
use Rattle.standard_io.specs.declared.Shown.{Shown}
use Rattle.standard_io.specs.declared.Turn.{Turn}
use Rattle.standard_io.specs.StandardIo.{got_of, Quiet, end_after, after_shown, after_read, TookRead, ReadOnce, is_going, Reads, ReadToEnd, last_of, last_end, after_last, LastTurn, record_after, AfterInput, GotFrom, Filled, ReadWhole, IsPrefixLen}
use Rattle.standard_io.specs.StandardIo.Reads.{before, next}
use Rattle.standard_io.specs.StandardIo.Filled.{empty, more}
use Rattle.standard_io.specs.StandardIo.Over.{full, ended, cut}

no_end : {P : Type 0} → (◌≡◌ {A = ℕ} 0 1) → P
no_end q = absurd (omega arith)

-- ---------------------------------------------------------------- a chunk
-- the bytes before i are taken
pub record Taking (s₀ : Stream) (chunk out₀ : List ℕ) (s : Stream) (i : ℕ) (out : List ℕ) : Type 0 where
  pub inside : i ≤ length chunk
  pub size : length out ≡ length out₀
  pub rest : (fed_all s (drop i chunk)).stream ≡ (fed_all s₀ chunk).stream

pub begins : (s : Stream) (chunk out : List ℕ) → Taking s chunk out s 0 out
begins s chunk out = record { inside = omega arith; size = refl; rest = refl }

pub ends : (s₀ : Stream) (chunk out₀ : List ℕ) (s : Stream) (i : ℕ) (out : List ℕ) → Taking s₀ chunk out₀ s i out → length chunk ≤ i → s ≡ (fed_all s₀ chunk).stream
unfolding fed_all
ends s₀ chunk out₀ s i out k h = rw (drop_of_length-le chunk {i = i} h) at k.rest

-- what a turn of the loop leaves
pub record Turned (s₀ : Stream) (chunk out₀ : List ℕ) (i : ℕ) (a : Advance) (out : List ℕ) : Type 0 where
  pub some : 0 < a.taken
  pub inside : i + a.taken ≤ length chunk
  pub printed : a.printed ≤ length out
  pub next : Taking s₀ chunk out₀ a.stream (i + a.taken) out

module _ (s₀ : Stream) (chunk out₀ : List ℕ) (s : Stream) (i : ℕ) (out : List ℕ) (k : Taking s₀ chunk out₀ s i out) (more : i < length chunk) (room : line_length ≤ length out₀)
    (part : List ℕ) (cut : part ≡ drop i chunk) (a : Advance) (went : a ≡ advanced s (length out) part) (out' : List ℕ) (stored : out' ≡ over (run s (length out) part).text out) where
  size : length part ≡ length chunk - i
  size = ap length cut ∙ length-drop i chunk

  taken : a.taken ≡ (run s (length out) part).taken
  taken = ap (λ (x : Advance). x.taken) went

  kept : length out' ≡ length out
  kept =
      let text = (run s (length out) part).text in
      ap length stored ∙ length-append text (drop (length text) out) ∙ omega (arith, length-drop (length text) out, run_room s (length out) part)

  within : i + a.taken ≤ length chunk
  within = omega (arith, taken, run_within s (length out) part, size)

  pub turned : Turned s₀ chunk out₀ i a out'
  turned = record {
    some = omega (arith, taken, run_some s (length out) part (omega (arith, k.size)) (omega (arith, size)));
    inside = within;
    printed = omega (arith, ap (λ (x : Advance). x.printed) went, run_room s (length out) part, kept);
    next = record {
      inside = within;
      size = kept ∙ k.size;
      rest =
          ap (λ (x : Advance). (fed_all x.stream (drop (i + x.taken) chunk)).stream) went
          ∙ rw (← drop-drop (run s (length out) part).taken i chunk, ← cut) (fed_rest s (length out) part)
          ∙ ap (λ (l : List ℕ). (fed_all s l).stream) cut
          ∙ k.rest;
    };
  }

-- ---------------------------------------------------------------- a read
-- a failed write is none that succeeded
pub ok_is_true : {T E : Type 0} (r : Result T E) → is_err r ≡ false → is_ok r ≡ true
ok_is_true (Ok x) h = refl
ok_is_true (Err e) h = no_end (cc)

pub not_both_results : {T E : Type 0} {P : Type 0} (r : Result T E) → is_ok r ≡ true → is_err r ≡ true → P
not_both_results (Ok x) g h = no_end (cc)
not_both_results (Err e) g h = no_end (cc)

-- by the read's answer
module _ {E : Type 0} (prints : Bool) (s : Stream) (bytes : List ℕ) (answer : Result ℕ E) where
  pub shown_read : (n : ℕ) → answer ≡ Ok n → (n ≡ 0 → ⊥) → (p : Shown) → (p.stream ≡ (fed_all s (take n bytes)).stream) × Quiet prints p.written → (r : Turn) → r ≡ after_shown p
      → TookRead prints s (got_of answer) bytes r
  shown_read n e some p f r g = let z = ne_eqb n 0 some in record { written = p.written; quiet = f.1; is = g ∙ rw (e, z, f.0) }

  pub nothing_read : answer ≡ Ok 0 → TookRead prints s (got_of answer) bytes (record { stream = s; end = Input })
  nothing_read e = record { written = true; quiet = λ _. refl; is = rw e }

  pub failed_read : (x : E) → answer ≡ Err x → TookRead prints s (got_of answer) bytes (record { stream = s; end = Unread })
  failed_read x e = record { written = true; quiet = λ _. refl; is = rw e }

pub read_once : {E : Type 0} (prints : Bool) (s : Stream) (bytes : List ℕ) (answer : Result ℕ E) → ReadsAtMost answer bytes → (r : Turn) → TookRead prints s (got_of answer) bytes r → ReadOnce prints s r
read_once prints s bytes (Ok n) few r k = record { got = Some n; bytes = bytes; from = few.0; took = k }
read_once prints s bytes (Err e) few r k = record { got = None; bytes = bytes; from = tt; took = k }

-- ---------------------------------------------------------------- the whole input
-- the stream after some input
pub record FedOn (s r : Stream) : Type 0 where
  pub read : List ℕ
  pub is : r ≡ (fed_all s read).stream

none_fed : (s : Stream) → FedOn s s
unfolding fed_all
none_fed s = record { read = []; is = refl }

fed_further : (s r q : Stream) → FedOn s r → FedOn r q → FedOn s q
fed_further s r q a b = record { read = a.read ++ b.read; is = b.is ∙ ap (λ (x : Stream). (fed_all x b.read).stream) a.is ∙ fed_on s a.read b.read }

-- the stream goes on from s; reading ends with a refused table only where it is refused, and with a failed write only where one was made
pub record Goes (prints : Bool) (s : Stream) (r : Turn) : Type 0 where
  pub fed : FedOn s r.stream
  pub table : r.end ≡ Table → is_ended r.stream.place.stage ≡ true
  pub quiet : prints ≡ false → r.end ≡ Unwritten → ⊥

table_refused : (written refused : Bool) → end_after written refused ≡ Table → refused ≡ true
table_refused true true e = refl
table_refused true false e = no_end (cc)
table_refused false refused e = no_end (cc)

-- a write that did not fail ends nothing
write_ends : (written refused : Bool) → written ≡ true → end_after written refused ≡ Unwritten → ⊥
write_ends true true h e = no_end (cc)
write_ends true false h e = no_end (cc)
write_ends false refused h e = no_end (cc)

took_goes : (prints : Bool) (s : Stream) (got : Option ℕ) (bytes : List ℕ) (written : Bool) → Quiet prints written → Goes prints s (after_read s got bytes written)
took_goes prints s (Some n) bytes written q =
    let refused = is_ended (fed_all s (take n bytes)).stream.place.stage in
    by_test (Goes prints s) (eqb n 0)
    (λ t. record { fed = none_fed s; table = λ e. no_end (cc); quiet = λ p e. no_end (cc) })
    (λ t. record {
      fed = record { read = take n bytes; is = refl };
      table = λ e. table_refused written refused e;
      quiet = λ p e. write_ends written refused (q p) e;
    })
took_goes prints s None bytes written q = record { fed = none_fed s; table = λ e. no_end (cc); quiet = λ p e. no_end (cc) }

pub reads_go : (prints : Bool) (n : ℕ) (r : Turn) → Reads prints n r → Goes prints begun r
reads_go prints _ _ before = record { fed = none_fed begun; table = λ e. no_end (cc); quiet = λ p e. no_end (cc) }
reads_go prints _ _ (next n t u h going once) =
    let a = reads_go prints n t h in
    let b : Goes prints t.stream u = rw once.took.is (took_goes prints t.stream once.got once.bytes once.took.written once.took.quiet) in
    record { fed = fed_further begun t.stream u.stream a.fed b.fed; table = b.table; quiet = b.quiet }

-- a refused table leaves nothing to end
refused_last : (stage : Stage) (x : Place) (text : List ℕ) → is_ended stage ≡ true → (turn_in true stage x text).place.executive ≡ x.executive
refused_last TableStage x text e = no_end (cc)
refused_last Events x text e = no_end (cc)
refused_last Ended x text e = refl

ended_closed : (s : Stream) → is_ended s.place.stage ≡ true → (closed s).stream.place.executive ≡ s.place.executive
unfolding closed
ended_closed s e = refused_last s.place.stage s.place (take s.place.count s.held) e

module _ (s : Stream) (k : FedOn begun s) where
  so_far : s.place.executive.inner ≡ (fed_all begun k.read).stream.place.executive.inner
  so_far = ap (λ (x : Stream). x.place.executive.inner) k.is

  whole : (closed s).stream.place.executive.inner ≡ replayed_record k.read
  whole = ap (λ (x : Stream). (closed x).stream.place.executive.inner) k.is ∙ stream_record k.read

  pub last_record : (n : End) → (n ≡ Table → is_ended s.place.stage ≡ true) → (last_of n s).place.executive.inner ≡ record_after n k.read
  last_record Going h = so_far
  last_record Input h = whole
  last_record Table h = sym (ap (λ (x : Executive). x.inner) (ended_closed s (h refl))) ∙ whole
  last_record Unread h = so_far
  last_record Unwritten h = so_far

-- where nothing is printed the last line ends nothing otherwise
last_quiet : (n : End) (written : Bool) → written ≡ true → last_end n written ≡ Unwritten → n ≡ Unwritten
last_quiet Going written h e = no_end (cc)
last_quiet Input true h e = no_end (cc)
last_quiet Input false h e = no_end (cc)
last_quiet Table written h e = no_end (cc)
last_quiet Unread written h e = no_end (cc)
last_quiet Unwritten written h e = refl

pub ends_after : (prints : Bool) (t : Turn) → ReadToEnd prints t → (last : Turn) → LastTurn prints t last → (e : Executive) → e ≡ last.stream.place.executive → AfterInput prints (record { executive = e; end = last.end })
ends_after prints t h last l e own =
    let g = reads_go prints h.count t h.reads in
    let s = ap (λ (x : Turn). x.stream) l.is in
    let n = ap (λ (x : Turn). x.end) l.is in
    record {
      turn = t;
      reads = h;
      read = g.fed.read;
      fed = g.fed.is;
      written = l.written;
      wrote = l.quiet;
      ends = n;
      quiet = λ p u. g.quiet p (last_quiet t.end l.written (l.quiet p) (sym n ∙ u));
      is = ap (λ (x : Executive). x.inner) own ∙ ap (λ (x : Stream). x.place.executive.inner) s ∙ last_record t.stream g.fed t.end g.table;
    }

-- ---------------------------------------------------------------- the last line
module _ (s : Stream) (out : List ℕ) (a : Advance) (went : a ≡ finished_of s (length out)) where
  pub last_within : (out' : List ℕ) → out' ≡ over (finished s (length out)).text out → a.printed ≤ length out'
  last_within out' stored =
      let text = (finished s (length out)).text in
      omega (arith, ap (λ (x : Advance). x.printed) went, ap length stored ∙ length-append text (drop (length text) out))

  pub last_closed : line_length ≤ length out → a.stream ≡ (closed s).stream
  last_closed enough = ap (λ (x : Advance). x.stream) went ∙ finished_closed s (length out) enough

pub last_shown_holds : (prints : Bool) (t : Turn) → t.end ≡ Input → (p : Shown) → (p.stream ≡ (closed t.stream).stream) × Quiet prints p.written → (r : Turn) → r ≡ after_last p → LastTurn prints t r
last_shown_holds prints t e p f r g = record { written = p.written; quiet = f.1; is = g ∙ rw (e, f.0) }

-- where there is no last line the turn stays
pub last_same : (prints : Bool) (t : Turn) (n : End) → t.end ≡ n → last_of n t.stream ≡ t.stream → last_end n true ≡ n → LastTurn prints t t
last_same prints t n e a b =
    let s : t.stream ≡ last_of t.end t.stream = rw e (sym a) in
    let m : t.end ≡ last_end t.end true = rw e (sym b) in
    record { written = true; quiet = λ _. refl; is = λ i. record { stream = s i; end = m i } }

-- ---------------------------------------------------------------- the loop
-- between two reads: so many are made, reading goes on, and the buffers have their size
pub record Reading (prints : Bool) (input₀ out₀ : List ℕ) (t : Turn) (input out : List ℕ) (turn : ℕ) : Type 0 where
  pub reads : Reads prints turn t
  pub going : is_going t.end ≡ true
  pub size_in : length input ≡ length input₀
  pub size_out : length out ≡ length out₀

pub reading_begins : (prints : Bool) (input out : List ℕ) (s : Stream) → s ≡ begun → Reading prints input out (record { stream = s; end = Going }) input out 0
reading_begins prints input out s e = record { reads = rw e before; going = refl; size_in = refl; size_out = refl }

module _ (prints : Bool) (input₀ out₀ : List ℕ) (t : Turn) (input out : List ℕ) (turn : ℕ) (k : Reading prints input₀ out₀ t input out turn) where
  -- the turns are used up
  pub reading_stops : turn ≡ 18446744073709551615 → ReadToEnd prints t
  reading_stops most = record { count = turn; reads = k.reads; all = λ _. most }

  module _ (u : Turn) (once : ReadOnce prints t.stream u) where
    pub reading_goes : is_going u.end ≡ true → (input' out' : List ℕ) → length input' ≡ length input → length out' ≡ length out → Reading prints input₀ out₀ u input' out' (turn + 1)
    reading_goes g input' out' a b = record { reads = rw add-one (next turn t u k.reads k.going once); going = g; size_in = a ∙ k.size_in; size_out = b ∙ k.size_out }

    pub reading_ends : is_going u.end ≡ false → ReadToEnd prints u
    reading_ends g = record { count = suc turn; reads = next turn t u k.reads k.going once; all = λ e. not_both (is_going u.end) e g }

-- ---------------------------------------------------------------- a whole input
-- between two reads: so many bytes are held, and the buffer has its size
pub record Filling (input₀ input : List ℕ) (at : ℕ) : Type 0 where
  pub filled : Filled (length input₀) at
  pub within : at ≤ length input₀
  pub size : length input ≡ length input₀

pub filling_begins : (input : List ℕ) → Filling input input 0
filling_begins input = record { filled = empty; within = omega arith; size = refl }

-- what a read that gave bytes leaves
pub record FilledOn (input₀ input input' : List ℕ) (at n : ℕ) : Type 0 where
  pub some : 0 < n
  pub inside : at + n ≤ length input
  pub next : Filling input₀ input' (at + n)

module _ {E : Type 0} (input₀ input : List ℕ) (at : ℕ) (k : Filling input₀ input at) (less : at < length input) (answer : Result ℕ E) (g : GotFrom (length input - at) (got_of answer)) where
  short : at < length input₀
  short = omega (arith, k.size)

  pub filling_goes : (n : ℕ) → answer ≡ Ok n → (n ≡ 0 → ⊥) → (input' : List ℕ) → length input' ≡ length input → FilledOn input₀ input input' at n
  filling_goes n e z input' s =
      let fits : n ≤ length input - at = rw e at g in
      let left : n ≤ length input₀ - at = rw k.size at fits in
      record {
        some = omega (arith, z);
        inside = omega (arith, fits);
        next = record { filled = more at n k.filled short (omega (arith, z)) left; within = omega (arith, fits, k.size); size = s ∙ k.size };
      }

  pub filling_ends : ReadWhole (length input₀) (Ok at)
  filling_ends = record { filled = k.filled; over = ended at short (omega arith) }

  pub filling_cut : (c : Cut) → c.length ≡ at → ReadWhole (length input₀) (Err c)
  filling_cut c e = record { filled = rw e k.filled; over = cut c (omega (arith, e, short)) tt }

-- the bytes held lie at the front of the buffer
pub filling_counts : (input₀ input : List ℕ) (at : ℕ) → Filling input₀ input at → (input' : List ℕ) → length input' ≡ length input → IsPrefixLen at input'
filling_counts input₀ input at k input' s =
    let within : at ≤ length input' = omega (arith, k.within, k.size, s) in
    (within, held_length _ _ within)

pub filling_full : (input₀ input : List ℕ) (at : ℕ) → Filling input₀ input at → length input ≤ at → ReadWhole (length input₀) (Ok at)
filling_full input₀ input at k h =
    let q : at ≡ length input₀ = omega (arith, k.within, k.size) in
    record { filled = k.filled; over = rw q full }
