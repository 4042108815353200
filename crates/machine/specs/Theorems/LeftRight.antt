-- "Left and Right" of document 01, demand 3: one claim about two whole lists of events.
use Rattle.std.specs.Prelude.{ℕ, ◌+◌, ◌-◌, ◌≤◌, ◌<◌, ◌≡◌, Bool, true, false, cond, not, ◌&&◌, ◌||◌, List, map, eqb, ℤ, pos, negsuc}
use Rattle.machine.specs.declared.Table.{Table}
use Rattle.machine.specs.declared.Module.{Module}
use Rattle.machine.specs.declared.Event.{Event}
use Rattle.machine.specs.declared.EventRecord.{EventRecord}
use Rattle.machine.specs.declared.Wait.TheVariants.{Source, Destination}
use Rattle.machine.specs.Process.{object, carried}
use Rattle.machine.specs.Partition.{process, waiters}
use Rattle.machine.specs.Module.{current, running_in, part, message, queue, channel}
use Rattle.machine.specs.Channels.{queuing}
use Rattle.machine.specs.Runs.{keep, after, answers}

-- no number below 0 is in S
abbrev pub member_of : (ℕ → Bool) → ℤ → Bool
member_of S (pos k) = S k
member_of S (negsuc k) = false

abbrev pub is_zero : ℤ → Bool
is_zero z = member_of (λ k. eqb k 0) z

abbrev pub is_tick : Event → Bool
is_tick e = is_zero e.partition && is_zero e.call

-- Common and free, document 01's terms: an event is common if it is a tick or its partition is in S, refused or not. Every other
-- event is free, also one that gets 13.
abbrev pub common : (ℕ → Bool) → Event → Bool
common S e = is_tick e || member_of S e.partition

-- only where the event's partition is 0 and the current partition after it is outside S is the running process left out
abbrev pub left_out : (ℕ → Bool) → EventRecord → Bool
left_out S r = is_zero r.event.partition && not (S r.answer.current)

abbrev pub shown : (ℕ → Bool) → EventRecord → EventRecord
shown S r = record {
  event = r.event;
  answer = record {
    code = r.answer.code;
    value = r.answer.value;
    extra = r.answer.extra;
    t = r.answer.t;
    current = r.answer.current;
    running = cond (left_out S r) 0 r.answer.running;
  };
}

-- the answers to the common events, in order
abbrev pub common_answers : (ℕ → Bool) → Module → List Event → List EventRecord
common_answers S m es = map (shown S) (keep (λ (r : EventRecord). common S r.event) (answers m es))

-- a set of the numbers 1..P, none or all of them too
abbrev pub Within : Table → (ℕ → Bool) → Type 0
Within T S = (k : ℕ) → S k ≡ true → (1 ≤ k) × (k ≤ T.size)

-- Closed, document 01's term: a queuing channel has both ends in S or neither; each sampling channel with its destination in S has its source in
-- S.
abbrev pub Closed : Table → (ℕ → Bool) → Type 0
Closed T S =
    (i : ℕ) → i < T.channel_count
    → cond (queuing (channel T i))
    (S (channel T i).source ≡ S (channel T i).destination)
    (S (channel T i).destination ≡ true → S (channel T i).source ≡ true)

-- the waiters at both ends of channel number i + 1, with the messages of the senders
abbrev pub senders_at : ℕ → Module → List (ℕ × ℕ)
senders_at i m =
    let p = part m ((channel m.table i).source - 1) in
    map (λ id. (id, carried (process id p))) (waiters (object (Source (i + 1) 0)) p)

abbrev pub receivers_at : ℕ → Module → List ℕ
receivers_at i m = waiters (object (Destination (i + 1))) (part m ((channel m.table i).destination - 1))

-- At the end these are equal: t, the current partition, the whole record of each partition in S, on each channel into S the message and
-- its time, or none, of each queuing channel of S the queue and the waiters at both ends, and the running process where the current partition
-- is in S.
pub record EqualIn (T : Table) (S : ℕ → Bool) (m n : Module) : Type 0 where
  pub time : m.t ≡ n.t
  pub owner : current m ≡ current n
  pub records : (k : ℕ) → S k ≡ true → part m (k - 1) ≡ part n (k - 1)
  pub messages : (i : ℕ) → i < T.channel_count → S (channel T i).destination ≡ true → message m i ≡ message n i
  pub queues : (i : ℕ) → i < T.channel_count → queuing (channel T i) ≡ true → S (channel T i).destination ≡ true → queue m i ≡ queue n i
  pub senders : (i : ℕ) → i < T.channel_count → queuing (channel T i) ≡ true → S (channel T i).destination ≡ true → senders_at i m ≡ senders_at i n
  pub receivers : (i : ℕ) → i < T.channel_count → queuing (channel T i) ≡ true → S (channel T i).destination ≡ true → receivers_at i m ≡ receivers_at i n
  pub process : S (current m) ≡ true → running_in (current m) m ≡ running_in (current n) n

-- the claim for a record that both runs start from: without their free events both lists are equal; then the common answers are the
-- same in order, all six numbers, but for the running process where it is left out, and what is equal at the end
abbrev pub LeftRight : Module → Type 0
LeftRight m =
    (S : ℕ → Bool) → Within m.table S → Closed m.table S
    → (left right : List Event) → keep (common S) left ≡ keep (common S) right
    → (common_answers S m left ≡ common_answers S m right) × EqualIn m.table S (after m left) (after m right)
