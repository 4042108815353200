-- The account of a buffer and of a queuing channel: over every list of events, what was sent and not lost is what was received, what the queue of
-- messages holds and what waiting senders keep, in order. A send is told by its place in the list and not by its message. Nothing of the machine
-- rests on it.
use Rattle.std.specs.Prelude.{ℕ, ◌+◌, ◌-◌, ◌<◌, ◌≡◌, Bool, true, false, cond, not, ◌&&◌, ◌||◌, List, [], ◌∷◌, ◌++◌, map, length, eqb, ltb, ℤ, pos, negsuc}
use Rattle.machine.specs.declared.Event.{Event}
use Rattle.machine.specs.declared.Module.{Module}
use Rattle.machine.specs.declared.Table.{Table}
use Rattle.machine.specs.declared.Wait.TheVariants.{Sending, Receiving, Source, Destination}
use Rattle.machine.specs.Ids.{kept}
use Rattle.machine.specs.Messages.{held}
use Rattle.machine.specs.Process.{object, carried}
use Rattle.machine.specs.Partition.{process, buffer, running, waits_on, waiters}
use Rattle.machine.specs.Module.{channel, queue}
use Rattle.machine.specs.Step.{step}
use Rattle.machine.specs.Table.{read_table}
use Rattle.machine.specs.Runs.{next, after}
use Rattle.machine.specs.Theorems.LeftRight.{is_tick}
use Rattle.machine.specs.Theorems.Events.{own, call_by}
use Rattle.machine.specs.Theorems.Plain.{plain_number, plain_between}

-- ---------------------------------------------------------------- events
-- call n of partition k
abbrev pub is_call : ℕ → ℕ → Event → Bool
is_call k n e = plain_number k e.partition && plain_number n e.call

-- the code that the event gets
abbrev pub code_at : Module → Event → ℕ
code_at m e = (step m e).answer.code

-- an accepted mode 0, 1 or 2 of partition k: of an event that gets this code, of this event, in a list of events
abbrev pub restarts_by : ℕ → Event → ℕ → Bool
restarts_by k e code = is_call k 1 e && (plain_between 0 2 e.a && eqb code 0)

abbrev pub erases : ℕ → Module → Event → Bool
erases k m e = restarts_by k e (code_at m e)

unfoldable pub erased : ℕ → Module → List Event → Bool
erased k m [] = false
erased k m (e ∷ es) = erases k m e || erased k (next m e) es

-- the message of an event
abbrev pub message_in : ℤ → ℕ
message_in (pos n) = n
message_in (negsuc n) = 0

-- ---------------------------------------------------------------- where messages pass
-- the partitions that send and that receive, with the numbers of their calls; the number of the queue of messages, and what it holds; the objects on
-- which senders and receivers wait
pub record Flow : Type 0 where
  pub from : ℕ
  pub to : ℕ
  pub send : ℕ
  pub receive : ℕ
  pub number : ℕ
  pub holds : Module → List ℕ
  pub senders : ℕ
  pub receivers : ℕ

-- buffer j of partition k
abbrev pub buffer_flow : ℕ → ℕ → Flow
buffer_flow k j = record {
  from = k;
  to = k;
  send = 24;
  receive = 25;
  number = j;
  holds = λ m. held (buffer j (own m k)).queue;
  senders = object (Sending j 0);
  receivers = object (Receiving j);
}

-- channel number i + 1 of a table
abbrev pub channel_flow : Table → ℕ → Flow
channel_flow T i = record {
  from = (channel T i).source;
  to = (channel T i).destination;
  send = 30;
  receive = 31;
  number = i + 1;
  holds = λ m. held (queue m i);
  senders = object (Source (i + 1) 0);
  receivers = object (Destination (i + 1));
}

-- a SEND to it, a RECEIVE from it
abbrev pub is_send : Flow → Event → Bool
is_send f e = is_call f.from f.send e && plain_number f.number e.a

abbrev pub is_receive : Flow → Event → Bool
is_receive f e = is_call f.to f.receive e && plain_number f.number e.a

-- process id waits to send; those who do, and what each keeps; process id waits to receive; those who do
abbrev pub waits_to_send : Flow → Module → ℕ → Bool
waits_to_send f m id = waits_on f.senders (own m f.from) id

abbrev pub sending : Flow → Module → List ℕ
sending f m = waiters f.senders (own m f.from)

abbrev pub keeps : Flow → Module → ℕ → ℕ
keeps f m id = carried (process id (own m f.from))

abbrev pub waits_to_receive : Flow → Module → ℕ → Bool
waits_to_receive f m id = waits_on f.receivers (own m f.to) id

abbrev pub receiving : Flow → Module → List ℕ
receiving f m = waiters f.receivers (own m f.to)

-- ---------------------------------------------------------------- what is lost
-- where in a list an id stands: how many come before it
unfoldable pub place_in : List ℕ → ℕ → ℕ
place_in [] id = 0
place_in (x ∷ l) id = cond (eqb x id) 0 (place_in l id + 1)

-- a held message, n others before it, at the beginning of this list: a restart of the destination drops it before it is received
unfoldable pub dropped : Flow → Module → List Event → ℕ → Bool
dropped f m [] n = false
dropped f m (e ∷ es) n =
    cond (erases f.to m e) true
    (cond (is_receive f e && eqb (code_at m e) 0)
    (cond (eqb n 0) false (dropped f (next m e) es (n - 1)))
    (dropped f (next m e) es n))

-- the wait of a sender ends by time-out or stop, or its partition restarts: its message is not let in
abbrev pub gives_up : Flow → Event → ℕ → Bool
gives_up f e code = is_tick e || (is_call f.from 5 e || restarts_by f.from e code)

-- the place of a message that is let in: where the destination restarts, that of its sender in the queue; else the last
abbrev pub let_in_at : Flow → Module → Event → ℕ → Module → ℕ → ℕ
let_in_at f m e code q id = cond (restarts_by f.to e code) (place_in (sending f m) id) (length (f.holds q) - 1)

-- the message of process id, which waits to send at the beginning of this list: it is not let in, or it is and is dropped
unfoldable pub lost : Flow → Module → List Event → ℕ → Bool
lost f m [] id = false
lost f m (e ∷ es) id =
    cond (waits_to_send f (next m e) id) (lost f (next m e) es id)
    (cond (gives_up f e (code_at m e)) true
    (dropped f (next m e) es (let_in_at f m e (code_at m e) (next m e) id)))

-- ---------------------------------------------------------------- the account
-- a send answered 0 or 7 is lost in the rest of the list: its message joined what is held and is dropped, or it waits; its sender is the process that
-- ran
abbrev pub lost_at : Flow → Module → ℕ → Module → List Event → Bool
lost_at f m code q es =
    cond (eqb code 7) (lost f q es (running (own m f.from)))
    (ltb (length (f.holds m)) (length (f.holds q)) && dropped f q es (length (f.holds m)))

-- the message of a send answered 0 or 7 and not lost
abbrev pub sent_at : Flow → Module → Event → List Event → List ℕ
sent_at f m e es =
    cond (is_send f e && ((eqb (code_at m e) 0 || eqb (code_at m e) 7) && not (lost_at f m (code_at m e) (next m e) es)))
    (message_in e.b ∷ [])
    []

-- in order
unfoldable pub all_sent : Flow → Module → List Event → List ℕ
all_sent f m [] = []
all_sent f m (e ∷ es) = sent_at f m e es ++ all_sent f (next m e) es

-- the messages handed over at a send: those in the records of the receivers whose wait it ended
abbrev pub handed_at : Flow → Module → Event → List ℕ
handed_at f m e =
    cond (is_send f e && eqb (code_at m e) 0)
    (map (λ id. (process id (own (next m e) f.to)).message) (kept (λ id. not (waits_to_receive f (next m e) id)) (receiving f m)))
    []

-- received: the value of a receive answered 0, and what is handed over to waiters
abbrev pub received_at : Flow → Module → Event → List ℕ
received_at f m e = cond (is_receive f e && eqb (code_at m e) 0) ((step m e).answer.value ∷ []) (handed_at f m e)

unfoldable pub all_received : Flow → Module → List Event → List ℕ
all_received f m [] = []
all_received f m (e ∷ es) = received_at f m e ++ all_received f (next m e) es

-- over a list of events from record m on: sent and not lost = received, then held, then kept with waiting senders in queue order
abbrev pub Balances : Flow → Module → List Event → Type 0
Balances f m es = all_sent f m es ≡ all_received f m es ++ (f.holds (after m es) ++ map (keeps f (after m es)) (sending f (after m es)))

pub record Account : Type 0 where
  -- each buffer since its creation, over every list of events from a fresh module; erasure ends the account
  pub buffer : (input : List ℕ) (before : List Event) (k j : ℕ) (name limit : ℤ) (es : List Event)
      → let m = after (read_table input).state before in
      let e = call_by k 23 name limit (pos 0) (pos 0) in
      (step m e).answer.code ≡ 0 → (step m e).answer.value ≡ j → erased k (next m e) es ≡ false → Balances (buffer_flow k j) (next m e) es
  -- each queuing channel, over every list of events from the fresh module on; its ends may restart
  pub channel : (input : List ℕ) (i : ℕ) (es : List Event)
      → let m = (read_table input).state in
      i < m.table.channel_count → ((channel m.table i).size ≡ 0 → ⊥) → Balances (channel_flow m.table i) m es
