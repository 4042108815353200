-- What the system gives is free: what a read answers, the bytes that it leaves in the buffer, whether a write succeeds. The rest is settled by it.
use Rattle.std.specs.Prelude.{ℕ, suc, ◌+◌, ◌-◌, ◌<◌, ◌≤◌, ◌≡◌, Option, None, Some, IfSome, Result, Ok, Err, Bool, true, false, cond, List, [], length, take, eqb}
use Rattle.machine.specs.declared.Module.{Module}
use Rattle.std.specs.Io.KnownBytes.{Appends, Consumes, IsAtEnd}
use Rattle.machine.specs.Replay.{replayed, replayed_record}
use Rattle.stream.specs.declared.Stream.{Stream}
use Rattle.stream.specs.Stream.{begun, is_ended, closed, fed_all}
use Rattle.standard_io.specs.declared.End.{End}
use Rattle.standard_io.specs.declared.End.TheVariants.{Going, Input, Table, Unread, Unwritten}
use Rattle.standard_io.specs.declared.Shown.{Shown}
use Rattle.standard_io.specs.declared.Turn.{Turn}
use Rattle.standard_io.specs.declared.Replayed.{Replayed}
use Rattle.standard_io.specs.declared.Cut.{Cut}

-- what the system's answer to a read means: so many bytes at the front of a buffer, at 0 the input's end; or it failed
abbrev pub got_of : {E : Type 0} → Result ℕ E → Option ℕ
got_of (Ok n) = Some n
got_of (Err e) = None

-- the bytes that a read gave
abbrev pub bytes_of : Option ℕ → List ℕ → List ℕ
bytes_of (Some n) bytes = take n bytes
bytes_of None bytes = []

-- what is written of a text: nothing where nothing is to be printed
abbrev pub shown_of : Bool → List ℕ → List ℕ
shown_of prints text = cond prints text []

-- where nothing is to be printed nothing is written, so no write fails
abbrev pub Quiet : Bool → Bool → Type 0
Quiet prints written = prints ≡ false → written ≡ true

-- after a chunk reading goes on, unless a write failed or the table is refused
abbrev pub end_after : Bool → Bool → End
end_after written refused = cond written (cond refused Table Going) Unwritten

abbrev pub after_shown : Shown → Turn
after_shown p = record { stream = p.stream; end = end_after p.written (is_ended p.stream.place.stage) }

-- the stream and why reading ended, if it did, after a read that left these bytes in the buffer, and writes that succeeded or not
abbrev pub after_read : Stream → Option ℕ → List ℕ → Bool → Turn
after_read s (Some n) bytes written =
    cond (eqb n 0) (record { stream = s; end = Input }) (after_shown (record { stream = (fed_all s (take n bytes)).stream; written = written }))
after_read s None bytes written = record { stream = s; end = Unread }

-- what a read gave was taken; whether the writes succeeded is free, if there were any
pub record TookRead (prints : Bool) (s : Stream) (got : Option ℕ) (bytes : List ℕ) (r : Turn) : Type 0 where
  pub written : Bool
  pub quiet : Quiet prints written
  pub is : r ≡ after_read s got bytes written

-- what a read into so many bytes gave: it is free, but for that they have room
abbrev pub GotFrom : ℕ → Option ℕ → Type 0
GotFrom most got = IfSome got (λ n. n ≤ most)

-- one read; the bytes that it leaves in the buffer are free too
pub record ReadOnce (prints : Bool) (s : Stream) (r : Turn) : Type 0 where
  pub got : Option ℕ
  pub bytes : List ℕ
  pub from : GotFrom (length bytes) got
  pub took : TookRead prints s got bytes r

abbrev pub is_going : End → Bool
is_going Going = true
is_going Input = false
is_going Table = false
is_going Unread = false
is_going Unwritten = false

abbrev pub is_failure : End → Bool
is_failure Going = false
is_failure Input = false
is_failure Table = false
is_failure Unread = true
is_failure Unwritten = true

-- a stream was fed these bytes, and a writer that held some bytes holds what is printed for them too, unless a write failed
pub record Told (prints : Bool) (held holds : Option (List ℕ)) (s : Stream) (read : List ℕ) (t : Turn) : Type 0 where
  pub fed : t.stream ≡ (fed_all s read).stream
  pub wrote : (t.end ≡ Unwritten → ⊥) → Appends held holds (shown_of prints (fed_all s read).text)

-- from a reader to a writer through a stream: what was read was fed and told; at the input's end the reader has nothing left
pub record Carried (prints : Bool) (had left held holds : Option (List ℕ)) (s : Stream) (t : Turn) : Type 0 where
  pub read : List ℕ
  pub consumed : Consumes had left read
  pub all : t.end ≡ Input → IsAtEnd left
  pub told : Told prints held holds s read t

-- so many reads, one after another as long as reading goes on
pub data Reads (prints : Bool) : ℕ → Turn → Type 0 where
  before : Reads prints 0 (record { stream = begun; end = Going })
  next : (n : ℕ) (t u : Turn) → Reads prints n t → is_going t.end ≡ true → ReadOnce prints t.stream u → Reads prints (suc n) u

-- reading goes on until it ends; more than 2^64 − 1 reads are not made
pub record ReadToEnd (prints : Bool) (r : Turn) : Type 0 where
  pub count : ℕ
  pub reads : Reads prints count r
  pub all : is_going r.end ≡ true → count ≡ 18446744073709551615

-- at the input's end the bytes after the last LF are a line; a line that a failure cut is none
abbrev pub last_of : End → Stream → Stream
last_of Going s = s
last_of Input s = (closed s).stream
last_of Table s = s
last_of Unread s = s
last_of Unwritten s = s

-- at the input's end: a last line that cannot be written is a failed write too
abbrev pub input_end : Bool → End
input_end written = cond written Input Unwritten

abbrev pub last_end : End → Bool → End
last_end Going written = Going
last_end Input written = input_end written
last_end Table written = Table
last_end Unread written = Unread
last_end Unwritten written = Unwritten

abbrev pub after_last : Shown → Turn
after_last p = record { stream = p.stream; end = input_end p.written }

-- the last line was taken, where there is one; whether it could be written is free, if it is printed
pub record LastTurn (prints : Bool) (t r : Turn) : Type 0 where
  pub written : Bool
  pub quiet : Quiet prints written
  pub is : r ≡ record { stream = last_of t.end t.stream; end = last_end t.end written }

-- what is printed of the last line
abbrev pub last_text : End → Stream → List ℕ
last_text Going s = []
last_text Input s = (closed s).text
last_text Table s = []
last_text Unread s = []
last_text Unwritten s = []

-- the record after the bytes read: at the input's end and after a refused table that of the whole input; else that of the lines that are
-- complete, since a line that a failure cut is no line of the input
abbrev pub record_after : End → List ℕ → Module
record_after Going read = (fed_all begun read).stream.place.executive.inner
record_after Input read = replayed_record read
record_after Table read = replayed_record read
record_after Unread read = (fed_all begun read).stream.place.executive.inner
record_after Unwritten read = (fed_all begun read).stream.place.executive.inner

-- a replay of the bytes read. Free are the reads up to where reading ended, with what was read, and whether the last line could be written;
-- why the replay ended and the record are settled by them
pub record AfterInput (prints : Bool) (r : Replayed) : Type 0 where
  pub turn : Turn
  pub reads : ReadToEnd prints turn
  pub read : List ℕ
  pub fed : turn.stream ≡ (fed_all begun read).stream
  pub written : Bool
  pub wrote : Quiet prints written
  pub ends : r.end ≡ last_end turn.end written
  pub quiet : prints ≡ false → r.end ≡ Unwritten → ⊥
  pub is : r.executive.inner ≡ record_after turn.end read

-- what is printed for the bytes read: at the input's end and after a refused table what the whole input prints
abbrev pub text_after : End → List ℕ → List ℕ
text_after Going read = (fed_all begun read).text
text_after Input read = replayed read
text_after Table read = replayed read
text_after Unread read = (fed_all begun read).text
text_after Unwritten read = (fed_all begun read).text

-- a replay from a reader to a writer: of the bytes that the reader had and has no longer the record is left and the text is written, unless a
-- write failed; at the input's end the reader has nothing left
pub record ReplayedOver (prints : Bool) (had left held holds : Option (List ℕ)) (r : Replayed) : Type 0 where
  pub read : List ℕ
  pub consumed : Consumes had left read
  pub all : r.end ≡ Input → IsAtEnd left
  pub leaves : (r.end ≡ Unwritten → ⊥) → r.executive.inner ≡ record_after r.end read
  pub wrote : (r.end ≡ Unwritten → ⊥) → Appends held holds (shown_of prints (text_after r.end read))

-- a replay of a whole input: the record that it leaves, and the text that the writer has more
pub record ReplayedWhole (prints : Bool) (held holds : Option (List ℕ)) (r : Replayed) (input : List ℕ) : Type 0 where
  pub leaves : r.executive.inner ≡ replayed_record input
  pub wrote : Appends held holds (shown_of prints (replayed input))

-- ---------------------------------------------------------------- whole inputs
-- reads one after another, each into what is left of a buffer, gave so many bytes
pub data Filled (most : ℕ) : ℕ → Type 0 where
  empty : Filled most 0
  more : (at n : ℕ) → Filled most at → at < most → 0 < n → GotFrom (most - at) (Some n) → Filled most (at + n)

-- why no further read was made: the buffer is full, or the last read gave the input's end, or it failed
pub data Over (most : ℕ) : Result ℕ Cut → Type 0 where
  full : Over most (Ok most)
  ended : (at : ℕ) → at < most → GotFrom (most - at) (Some 0) → Over most (Ok at)
  cut : (c : Cut) → c.length < most → GotFrom (most - c.length) None → Over most (Err c)

-- so many bytes lie at the front of a buffer
abbrev pub IsPrefixLen : ℕ → List ℕ → Type 0
IsPrefixLen n xs = (n ≤ length xs) × (n ≡ length (take n xs))

-- whether so many bytes were written is free, but for none
abbrev pub Wrote : ℕ → Bool → Type 0
Wrote n written = n ≡ 0 → written ≡ true

-- how many bytes of an input lie at the front of a buffer
abbrev pub whole_length : Result ℕ Cut → ℕ
whole_length (Ok n) = n
whole_length (Err c) = c.length

pub record ReadWhole (most : ℕ) (r : Result ℕ Cut) : Type 0 where
  pub filled : Filled most (whole_length r)
  pub over : Over most r
