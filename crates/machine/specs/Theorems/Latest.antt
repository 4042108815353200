-- What the latest accepted call left, over lists of events: the message of a sampling channel (document 01, calls 21 and 22), what a blackboard shows
-- (document 02, a: 27 to 29), and whether an event is UP (document 01, 17 to 20). Each is told from the events and their answers alone, event by event.
use Rattle.std.specs.Prelude.{Option, None, is_some, unwrap_or}
use Rattle.std.specs.Prelude.{ℕ, ◌+◌, ◌-◌, ◌<◌, ◌≡◌, Bool, true, false, cond, ◌&&◌, not, List, [], ◌∷◌, eqb, leb, ℤ, pos}
use Rattle.machine.specs.declared.Event.{Event}
use Rattle.machine.specs.declared.EventRecord.{EventRecord}
use Rattle.machine.specs.declared.Channel.{Channel}
use Rattle.machine.specs.declared.Message.{Message}
use Rattle.machine.specs.declared.Module.{Module}
use Rattle.std.specs.Prelude.{Some}
use Rattle.machine.specs.declared.Wait.TheVariants.{Blackboard, Event as EventOf}
use Rattle.machine.specs.Partition.{event, blackboard}
use Rattle.machine.specs.Module.{channel, message}
use Rattle.machine.specs.Step.{step}
use Rattle.machine.specs.Table.{read_table}
use Rattle.machine.specs.Runs.{next, after, answers}
use Rattle.machine.specs.Theorems.Plain.{plain_number, plain_between}
use Rattle.machine.specs.Theorems.Events.{own, call_by, Gives, Refuses, Calling}
use Rattle.machine.specs.Theorems.Account.{is_call, restarts_by, erased, message_in}
use Rattle.machine.specs.Theorems.EachCall.{MayWait, in_t}

-- ---------------------------------------------------------------- events with their answers
-- from x on, one after the other
unfoldable pub along : {A : Type 0} → (EventRecord → A → A) → A → List EventRecord → A
along f x [] = x
along f x (r ∷ l) = along f (f r x) l

-- call n of partition k with number j in its first field, answered 0
abbrev pub done : ℕ → ℕ → ℕ → EventRecord → Bool
done k n j r = is_call k n r.event && (plain_number j r.event.a && eqb r.answer.code 0)

-- ---------------------------------------------------------------- what each leaves
-- channel number i + 1: a WRITE of its source leaves the message and the time, an accepted mode 0 to 2 of its destination none
abbrev pub written : Channel → ℕ → EventRecord → Option Message → Option Message
written c i r x =
    cond (done c.source 21 (i + 1) r) (Some (record { value = message_in r.event.b; written = r.answer.t }))
    (cond (restarts_by c.destination r.event r.answer.code) None x)

-- blackboard j of partition k: SHOW shows a message, CLEAR none
abbrev pub shows : ℕ → ℕ → EventRecord → Option ℕ → Option ℕ
shows k j r x = cond (done k 27 j r) (Some (message_in r.event.b)) (cond (done k 29 j r) None x)

-- event j of partition k: SET_EVENT UP, RESET_EVENT DOWN
abbrev pub sets : ℕ → ℕ → EventRecord → Bool → Bool
sets k j r x = cond (done k 18 j r) true (cond (done k 19 j r) false x)

-- ---------------------------------------------------------------- since when
-- the message of channel number i + 1 over a list of events, from the fresh module on
abbrev pub last_written : Module → ℕ → List Event → Option Message
last_written m i es = along (written (channel m.table i) i) None (answers m es)

-- what blackboard j shows, whether event j is UP, over a list of events from its creation on
abbrev pub last_shown : Module → ℕ → ℕ → List Event → Option ℕ
last_shown m k j es = along (shows k j) None (answers m es)

abbrev pub last_set : Module → ℕ → ℕ → List Event → Bool
last_set m k j es = along (sets k j) false (answers m es)

-- number j has been created by call n of partition k with this name, and its partition is not erased in the list
pub record Since (m : Module) (k n j : ℕ) (name : ℤ) (es : List Event) : Type 0 where
  pub code : (step m (call_by k n name (pos 0) (pos 0) (pos 0))).answer.code ≡ 0
  pub value : (step m (call_by k n name (pos 0) (pos 0) (pos 0))).answer.value ≡ j
  pub lasts : erased k (next m (call_by k n name (pos 0) (pos 0) (pos 0))) es ≡ false

pub record Latest : Type 0 where
  -- the message of a channel, its value and its time, is that of the last WRITE answered 0 since the last accepted mode 0 to 2 of its destination; none
  -- without one
  pub sampling : (input : List ℕ) (i : ℕ) (es : List Event) → let m = (read_table input).state in
      i < m.table.channel_count → message (after m es) i ≡ last_written m i es
  -- READ then: 1 without one; else its value, with 1 exactly while t − written ≤ refresh
  pub read : (input : List ℕ) (i k : ℕ) (es : List Event) → let m = (read_table input).state in
      let q = after m es in
      let c = channel m.table i in
      let x = last_written m i es in
      let e = call_by k 22 (pos (i + 1)) (pos 0) (pos 0) (pos 0) in
      i < m.table.channel_count → c.size ≡ 0 → c.destination ≡ k → Calling q k
      → (x ≡ None → Refuses q e 1)
      × ((y : Message) → x ≡ Some y → Gives q e 0 y.value (Some (cond (leb (q.t - y.written) c.refresh) 1 0)) q)
  -- a blackboard shows the message of the last SHOW answered 0 since its creation, none where a CLEAR came later or there was no SHOW
  pub board : (input : List ℕ) (before : List Event) (k j : ℕ) (name : ℤ) (es : List Event) → let m = after (read_table input).state before in
      let s = next m (call_by k 26 name (pos 0) (pos 0) (pos 0)) in
      Since m k 26 j name es → (blackboard j (own (after s es) k)).message ≡ last_shown s k j es
  -- an event is UP exactly if the last SET_EVENT or RESET_EVENT answered 0 since its creation was SET_EVENT
  pub set : (input : List ℕ) (before : List Event) (k j : ℕ) (name : ℤ) (es : List Event) → let m = after (read_table input).state before in
      let s = next m (call_by k 17 name (pos 0) (pos 0) (pos 0)) in
      Since m k 17 j name es → (event j (own (after s es) k)).up ≡ last_set s k j es
  -- READ_BLACKBOARD then: the message shown; where none is, the caller waits. WAIT_EVENT then: 0 where it is UP; where it is DOWN, the caller waits
  pub read_board : (input : List ℕ) (before : List Event) (k j : ℕ) (name a : ℤ) (es : List Event) → let m = after (read_table input).state before in
      let s = next m (call_by k 26 name (pos 0) (pos 0) (pos 0)) in
      let q = after s es in
      let e = call_by k 28 (pos j) a (pos 0) (pos 0) in
      Since m k 26 j name es → Calling q k
      → MayWait q k e ((not (plain_between 1 (own q k).blackboard_count (pos j)), 3) ∷ []) (in_t a) a (is_some (last_shown s k j es)) (Gives q e 0 (unwrap_or (last_shown s k j es) 0) (Some 0) q) (Blackboard j)
  pub wait_event : (input : List ℕ) (before : List Event) (k j : ℕ) (name a : ℤ) (es : List Event) → let m = after (read_table input).state before in
      let s = next m (call_by k 17 name (pos 0) (pos 0) (pos 0)) in
      let q = after s es in
      let e = call_by k 20 (pos j) a (pos 0) (pos 0) in
      Since m k 17 j name es → Calling q k
      → MayWait q k e ((not (plain_between 1 (own q k).event_count (pos j)), 3) ∷ []) (in_t a) a (last_set s k j es) (Gives q e 0 0 (Some 0) q) (EventOf j)
