-- Every record that a run reaches is valid. Assumes nothing.
use Rattle.std.specs.Prelude.{Some}
use Rattle.std.specs.Prelude.{Option}
use Prim.Native.Nat.{ℕ, zero, suc, ◌+◌, ◌-◌, ◌≤◌, ◌<◌}
use mathlib.Core.Path.{◌≡◌, refl, ap, sym, ◌∙◌}
use mathlib.Core.Bool.{true, false, not, ◌&&◌, and-true, and-false}
use mathlib.Core.List.{List, [], map}
use mathlib.Core.Logic.{⊎_elim, inl, inr}
use native.Mathlib.Omega.{arith}
use lib.ListN.{length, get_or, set, take, length-set, get_or-replicate}
use lib.Seq.{get_or-set_same, get_or-set_other}
use lib.Dec.{eqb, ltb}
use borrow.Author.Tests.{le-leb, lt-ltb, ltb-true, eq-eqb, ne_eqb, eqb-true, eqb-false}
use Rattle.machine.specs.declared.Table.{Table}
use Rattle.machine.specs.declared.Message.{Message}
use Rattle.machine.specs.declared.Queue.{Queue}
use Rattle.machine.specs.declared.Channel.{Channel}
use Rattle.machine.specs.declared.Traffic.{Traffic}
use Rattle.machine.specs.declared.Port.{Port}
use Rattle.machine.specs.declared.Transfer.{Transfer}
use Rattle.machine.specs.declared.Wait.TheVariants.{Source}
use Rattle.machine.specs.declared.Partition.{Partition}
use Rattle.machine.specs.declared.Module.{Module}
use Rattle.machine.specs.declared.Request.{Request}
use Rattle.machine.specs.declared.Decision.{Decision}
use Rattle.machine.specs.declared.Decision.TheVariants.{Refused, Unchanged, Ticked, Blocked, Changed, Restarted, Written, Passed}
use Rattle.machine.specs.declared.Event.{Event as EventT}
use Rattle.machine.specs.Limits.{time_limit, duration_limit, message_limit, partition_limit, channel_limit}
use Rattle.machine.specs.Fields.{request_of, number_of}
use Rattle.machine.specs.Messages.{no_queue, queue_of, sent, received, moved, ends_wait}
use Rattle.machine.specs.Process.{object, carried, served}
use Rattle.machine.specs.Partition.{process, waiters, first_waiter, changed_all, tick_partition, partition_after, fresh_partition}
use Rattle.machine.specs.Decisions.{checked, no_message}
use Rattle.machine.specs.Services.{call_decision}
use Rattle.machine.specs.Module.{no_partition, empty_table, empty_module, fresh_module, channel, part, with_part, message, queue, with_messages, with_message, with_queue, with_time}
use Rattle.machine.specs.Ticks.{tick_at, tick_to, partition_count, tick_module}
use Rattle.machine.specs.Channels.{queuing, queuing_at, seen_at, apart, other_end, other_queue, traffic_of, sees_traffic, traffic_at, port_of, passed, leads_into, kept_to, erased_to, admitted, refilled_at, refilled_to}
use Rattle.machine.specs.Places.{no_caller}
use Rattle.machine.specs.Step.{context_of, decision, module_after, step}
use Rattle.machine.specs.Table.{read_table}
use Rattle.machine.specs.Theorems.Valid.Reached.{stepped}
use Rattle.machine.specs.Theorems.Valid.{Between, Valid, SoundQueue, SoundMove, SoundEnd, AllMessages, SoundContext, SoundDecision, SoundTable, SoundMessage, SoundModule, ValidModule, Reached}
use Rattle.machine.proofs.Tests.{by_test, and_left, and_right}
use Rattle.machine.proofs.Fields.{in_limits}
use Rattle.machine.proofs.Bounds.{same_or_not, within_in, get_d_replicate_any}
use Rattle.machine.proofs.Either.{either}
use Rattle.machine.proofs.Dispatch.{Calls, by_event}
use Rattle.machine.proofs.Bodies.{Sends, Receives, OnQueue, Bodily}
use Rattle.machine.proofs.EveryCall.{call_body}
use Rattle.machine.proofs.Refusals.{call_in_range}
use Rattle.machine.proofs.Kept.{tick_valid, fresh_valid, SoundPort, decision_valid, ended_valid, let_in_valid, let_in_queue, sent_sound, received_sound}
use Rattle.machine.proofs.EveryCall.{call_sound}
use Rattle.machine.proofs.Messages.{queue_sound, moved_sound, first_sound}
use Rattle.machine.proofs.Starts.{release_bounds}
use Rattle.machine.proofs.WindowLeft.{current_known, window_left_holds}
use Rattle.machine.proofs.Tables.{table_read}

-- ---------------------------------------------------------------- a partition stored, a message stored
-- what stands at place i of a list after place j has been set
module _ {A : Type 0} (P : ℕ → A → Type 0) (l : List A) (j : ℕ) (a d : A) where
  pub at_set : j < length l → (i : ℕ) → P j a → ((i ≡ j → ⊥) → P i (get_or l i d)) → P i (get_or (set l j a) i d)
  at_set inside i new old = ⊎_elim
      (λ (e : i ≡ j). rw (e, get_or-set_same l j a d inside) new)
      (λ (ne : i ≡ j → ⊥). rw (get_or-set_other l j i a d ne) (old ne))
      (same_or_not i j)

module _ (m : Module) (s : SoundModule m) where
  pub part_sound : (j : ℕ) → j < m.table.size → (p : Partition) → Valid m.table.frame m.t p → SoundModule (with_part j p m)
  part_sound j h p v =
      let inside : j < length m.partitions = omega (arith, s.partitions_size, s.table.size.1) in
      record {
        table = s.table;
        partitions_size = simp length-set s.partitions_size;
        messages_size = s.messages_size;
        queues_size = s.queues_size;
        time = s.time;
        each_partition = λ i l. at_set (λ _ q. Valid m.table.frame m.t q) m.partitions j p no_partition inside i v (λ _. s.each_partition i l);
        each_message = s.each_message;
        each_queue = s.each_queue;
      }

  pub message_sound : (j : ℕ) → j < channel_limit → (x : Option Message) → SoundMessage m.t x → SoundModule (with_message j x m)
  message_sound j h x v = record {
    table = s.table;
    partitions_size = s.partitions_size;
    messages_size = simp length-set s.messages_size;
    queues_size = s.queues_size;
    time = s.time;
    each_partition = s.each_partition;
    each_queue = s.each_queue;
    each_message = λ i. at_set (λ _ q. SoundMessage m.t q) m.messages j x no_message (omega (arith, s.messages_size)) i v (λ _. s.each_message i);
  }

  pub queue_stored : (j : ℕ) → j < channel_limit → (q : Queue) → SoundQueue (channel m.table j).size q → SoundModule (with_queue j q m)
  queue_stored j h q v = record {
    table = s.table;
    partitions_size = s.partitions_size;
    messages_size = s.messages_size;
    queues_size = simp length-set s.queues_size;
    time = s.time;
    each_partition = s.each_partition;
    each_message = s.each_message;
    each_queue = λ i. at_set (λ i q. SoundQueue (channel m.table i).size q) m.queues j q no_queue (omega (arith, s.queues_size)) i v (λ _. s.each_queue i);
  }

no_message_holds : (t : ℕ) → SoundMessage t no_message
no_message_holds t = record { value = omega arith; written = omega arith }

-- ---------------------------------------------------------------- the tick
-- all but the partitions is as it was
abbrev pub Around : Module → Module → Type 0
Around m q = q ≡ record { table = m.table; t = m.t; messages = m.messages; queues = m.queues; partitions = q.partitions }

pub tick_around : (n : ℕ) (m : Module) → Around m (tick_to n m)
unfolding tick_to tick_at
tick_around zero m = refl
tick_around (suc n) m = ap (with_part n _) (tick_around n m)

pub tick_size : (n : ℕ) (m : Module) → length (tick_to n m).partitions ≡ length m.partitions
unfolding tick_to tick_at
tick_size zero m = refl
tick_size (suc n) m = simp length-set (tick_size n m)

-- a tick of the first n partitions leaves the later ones
pub tick_later : (n i : ℕ) (m : Module) → n ≤ i → part (tick_to n m) i ≡ part m i
unfolding tick_to tick_at
tick_later zero i m h = refl
tick_later (suc n) i m h = get_or-set_other (tick_to n m).partitions n i _ no_partition (λ e. omega arith) ∙ tick_later n i m (omega arith)

-- each of the first n partitions has been ticked
pub tick_first : (n : ℕ) (m : Module) → n ≤ length m.partitions → (i : ℕ) → i < n → part (tick_to n m) i ≡ tick_partition m.t (part m i)
unfolding tick_to tick_at
tick_first zero m long i h = absurd (omega arith)
tick_first (suc n) m long i h =
    let q = tick_to n m in
    at_set (λ i p. p ≡ tick_partition m.t (part m i)) q.partitions n _ no_partition (omega (arith, tick_size n m)) i
    (rw (ap (λ (r : Module). r.t) (tick_around n m), tick_later n n m (omega arith)))
    (λ ne. tick_first n m (omega arith) i (omega arith))

module _ (m : Module) (s : SoundModule m) where
  pub count_plain : partition_count m.table ≡ m.table.size
  count_plain = rw (le-leb m.table.size partition_limit s.table.size.1)

  pub tick_each : (i : ℕ) → i < m.table.size → part (tick_module m) i ≡ tick_partition (m.t + 1) (part m i)
  tick_each i h = rw count_plain (tick_first m.table.size (with_time (m.t + 1) m) (omega (arith, s.partitions_size, s.table.size.1)) i h)

  tick_sound : m.t < time_limit → SoundModule (tick_module m)
  tick_sound room =
      let n = partition_count m.table in
      let q = with_time (m.t + 1) m in
      rw (tick_around n q) (record {
        table = s.table;
        partitions_size = tick_size n q ∙ s.partitions_size;
        messages_size = s.messages_size;
        queues_size = s.queues_size;
        time = omega arith;
        each_partition = λ i h. rw (tick_each i h) (tick_valid m.table.frame m.t (part m i) (s.each_partition i h));
        each_message = λ i. let x = s.each_message i in record { value = x.value; written = omega (arith, x.written) };
        each_queue = s.each_queue;
      })

-- ---------------------------------------------------------------- calls
pub erased_sound : (k n : ℕ) (m : Module) → n ≤ channel_limit → SoundModule m → SoundModule (erased_to k n m)
unfolding kept_to
erased_sound k zero m h s = s
erased_sound k (suc n) m h s =
    let e = erased_sound k n m (omega arith) s in
    by_test (λ (l : List (Option Message)). SoundModule (with_messages l m)) (leads_into k (channel m.table n))
    (λ _. message_sound (erased_to k n m) e n (omega arith) no_message (no_message_holds (erased_to k n m).t))
    (λ _. e)

-- a channel of a sound table is queuing by its size alone
pub queuing_plain : (T : Table) → SoundTable T → (i : ℕ) → i < T.channel_count → queuing (channel T i) ≡ ltb 0 (channel T i).size
queuing_plain T s i l =
    let c = s.each_channel i l in
    rw (within_in partition_limit (channel T i).source c.source.0 (omega (arith, c.source.1, s.size.1)), within_in partition_limit (channel T i).destination c.destination.0 (omega (arith, c.destination.1, s.size.1)), and-true (ltb 0 (channel T i).size))

-- queues filled anew
pub refilled_table : (k n : ℕ) (m : Module) → (refilled_to k n m).table ≡ m.table
unfolding refilled_to
refilled_table k zero m = refl
refilled_table k (suc n) m = by_test (λ (x : Module). x.table ≡ m.table) (queuing_at (refilled_to k n m).table n && leads_into k (channel (refilled_to k n m).table n)) (λ _. refilled_table k n m) (λ _. refilled_table k n m)

pub refilled_at_sound : (i : ℕ) (m : Module) → SoundModule m → i < m.table.channel_count → SoundModule (refilled_at i m)
refilled_at_sound i m s l =
    let c = channel m.table i in
    let j = c.source - 1 in
    let p = part m j in
    let b = (s.table.each_channel i l).source in
    let here : j < m.table.size = omega (arith, b.0, b.1) in
    let o = object (Source (i + 1) 0) in
    let v = s.each_partition j here in
    part_sound (with_queue i (queue_of (map (λ id. carried (process id p)) (admitted i c p))) m)
    (queue_stored m s i (omega (arith, l, s.table.channel_count)) _ (let_in_queue m.table.frame m.t p v o c.size))
    j here _ (let_in_valid m.table.frame m.t p v o c.size)

pub refilled_sound : (k n : ℕ) (m : Module) → SoundModule m → SoundModule (refilled_to k n m)
unfolding refilled_to
refilled_sound k zero m s = s
refilled_sound k (suc n) m s =
    let u = refilled_to k n m in
    let e = refilled_sound k n m s in
    by_test SoundModule (queuing_at u.table n && leads_into k (channel u.table n))
    (λ t. refilled_at_sound n u e (ltb-true n u.table.channel_count (and_left (ltb n u.table.channel_count) _ (and_left (queuing_at u.table n) _ t))))
    (λ _. e)

-- a queue that a restart of partition k fills anew
pub record Fills (m : Module) (k i : ℕ) : Type 0 where
  pub there : i < m.table.channel_count
  pub few : i < channel_limit
  pub kind : queuing (channel m.table i) ≡ true
  pub into : (channel m.table i).destination ≡ k

pub fills : (m : Module) → SoundModule m → (k i : ℕ) (T : Table) → T ≡ m.table → (queuing_at T i && leads_into k (channel T i)) ≡ true → Fills m k i
fills m s k i T e t =
    let w : (queuing_at m.table i && leads_into k (channel m.table i)) ≡ true = ap (λ (U : Table). queuing_at U i && leads_into k (channel U i)) (sym e) ∙ t in
    let g = and_left (queuing_at m.table i) _ w in
    let l = ltb-true i m.table.channel_count (and_left (ltb i m.table.channel_count) _ g) in
    record { there = l; few = omega (arith, s.table.channel_count); kind = and_right (ltb i m.table.channel_count) _ g; into = eqb-true _ k (and_right (queuing_at m.table i) _ w) }

-- what letting in the first who wait at the source of such a channel keeps of each partition, filling queues anew keeps
pub refilled_keeps : (P : ℕ → Partition → Type 0) (k : ℕ) (m : Module) → SoundModule m → (n : ℕ)
    → ((i : ℕ) → i < n → Fills m k i → (size frame t : ℕ) (p : Partition) → Valid frame t p → let j = (channel m.table i).source - 1 in P j p → P j (changed_all served (take size (waiters (object (Source (i + 1) 0)) p)) p))
    → ((i : ℕ) → i < m.table.size → P i (part m i)) → (i : ℕ) → i < m.table.size → P i (part (refilled_to k n m) i)
unfolding refilled_to
refilled_keeps P k m s zero lets h i l = h i l
refilled_keeps P k m s (suc n) lets h i l =
    let u = refilled_to k n m in
    let e = refilled_sound k n m s in
    let T = refilled_table k n m in
    let c = channel m.table n in
    let j = c.source - 1 in
    let ih : (i : ℕ) → i < m.table.size → P i (part u i) = refilled_keeps P k m s n (λ i b. lets i (omega arith)) h in
    by_test (λ (x : Module). P i (part x i)) (queuing_at u.table n && leads_into k (channel u.table n))
    (λ t.
    let f = fills m s k n u.table T t in
    let b = (s.table.each_channel n f.there).source in
    let here : j < m.table.size = omega (arith, b.0, b.1) in
    let is : channel u.table n ≡ c = ap (λ (U : Table). channel U n) T in
    let size : u.table.size ≡ m.table.size = ap (λ (U : Table). U.size) T in
    rw is (at_set P u.partitions j (changed_all served (admitted n c (part u j)) (part u j)) no_partition (omega (arith, here, e.partitions_size, s.table.size.1)) i
    (lets n (omega arith) f c.size u.table.frame u.t (part u j) (e.each_partition j (omega arith)) (ih j here))
    (λ _. ih i l)))
    (λ _. ih i l)

-- a transfer, where it may be made
pub passed_sound : (m : Module) → SoundModule m → (k i : ℕ) (a : Transfer) → i < m.table.channel_count
    → SoundMove (channel m.table i).size (queue m i) a → SoundEnd (part m (other_end k (channel m.table i) - 1)) a → SoundModule (passed k i a m)
passed_sound m s k i a l h e =
    let c = channel m.table i in
    let j = other_end k c - 1 in
    let g = s.table.each_channel i l in
    let few : c.size ≤ message_limit = omega (arith, g.room) in
    let u = with_queue i (moved a (queue m i)) m in
    let w = queue_stored m s i (omega (arith, l, s.table.channel_count)) (moved a (queue m i)) (moved_sound c.size (queue m i) (s.each_queue i) few a h) in
    let end : Between 1 m.table.size (other_end k c) = by_test (Between 1 m.table.size) (eqb c.source k) (λ _. g.destination) (λ _. g.source) in
    let here : j < m.table.size = omega (arith, end.0, end.1) in
    by_test SoundModule (ends_wait a)
    (λ _. part_sound u w j here _ (ended_valid m.table.frame m.t (part m j) (s.each_partition j here) c.size (queue m i) a h e))
    (λ _. w)

-- what is seen of traffic is sound
traffic_sound : (m : Module) → SoundModule m → (k i : ℕ) → (traffic_at m k i).first ≤ duration_limit
traffic_sound m s k i = by_test (λ (x : Traffic). x.first ≤ duration_limit) (sees_traffic m.table k i) (λ _. first_sound (channel m.table i).size (queue m i) (s.each_queue i)) (λ _. omega arith)

-- what is seen of a message is sound
seen_sound : (m : Module) → SoundModule m → (k i : ℕ) → SoundMessage m.t (seen_at k (channel m.table i) (message m i))
seen_sound m s k i = by_test (SoundMessage m.t) (eqb (channel m.table i).destination k) (λ _. s.each_message i) (λ _. no_message_holds m.t)

-- channel number i + 1, on which partition k makes a transfer: it is a queuing one of the table, k is at one of its ends, and its traffic is seen
pub record Channelled (m : Module) (k i : ℕ) (x : Port) : Type 0 where
  pub there : i < m.table.channel_count
  pub is : x.channel ≡ channel m.table i
  pub kind : queuing (channel m.table i) ≡ true
  pub sees : x.traffic ≡ traffic_of (queue m i) (other_queue k i (channel m.table i)) (part m (other_end k (channel m.table i) - 1))
  pub inside : other_end k (channel m.table i) - 1 < m.table.size

-- what a call of a partition that has a caller sees
pub context_of_holds : (m : Module) → SoundModule m → (k : ℕ) → no_caller (part m (k - 1)) ≡ false → SoundContext (context_of m k) (part m (k - 1))
context_of_holds m s k calls =
    let b = release_bounds m.table s.table m.t s.time k in
    let l = window_left_holds m.table s.table m.t in
    record { time = s.time; frame = s.table.frame; left = (l.some, l.few); ahead = b.0; near = b.1; caller = refl; calls = calls }

module _ (m : Module) (s : SoundModule m) (r : Request) (q : Calls m r) where
  abbrev caller : ℕ
  caller = number_of r.partition

  pub place : caller - 1 < m.table.size
  place = let some = q.some in omega (arith, current_known m.table s.table m.t, q.now)

  pub context_sound : SoundContext (context_of m caller) (part m (caller - 1))
  context_sound = context_of_holds m s caller q.caller

  pub port_sound : SoundPort m.t (port_of m caller r)
  port_sound = record {
    message = seen_sound m s caller (number_of r.a - 1);
    first = traffic_sound m s caller (number_of r.a - 1);
  }

  abbrev pub made : Decision
  made = call_decision (context_of m caller) (port_of m caller r) (number_of r.call) r (part m (caller - 1))

  -- what a call decides is sound
  pub made_sound : SoundDecision (context_of m caller) (part m (caller - 1)) made
  made_sound = (call_sound (context_of m caller) (port_of m caller r) (number_of r.call) r (part m (caller - 1)) (s.each_partition (caller - 1) place) context_sound port_sound).is

  pub made_body : Bodily (port_of m caller r) (number_of r.call) made
  made_body = let u = call_in_range m.table r q.formed (ne_eqb caller 0 q.some) in (call_body (port_of m caller r) (number_of r.call) (context_of m caller) r (part m (caller - 1)) u.0 u.1).is

  valid : (d : Decision) → SoundDecision (context_of m caller) (part m (caller - 1)) d → Valid m.table.frame m.t (partition_after d (part m (caller - 1)))
  valid d h = decision_valid (context_of m caller) (part m (caller - 1)) context_sound (s.each_partition (caller - 1) place) d h

  stores : (d : Decision) → SoundDecision (context_of m caller) (part m (caller - 1)) d → SoundModule (with_part (caller - 1) (partition_after d (part m (caller - 1))) m)
  stores d h = part_sound m s (caller - 1) place _ (valid d h)

  pub on_queue_holds : (i : ℕ) (a : Transfer) (n : ℕ) → OnQueue (port_of m caller r) (number_of r.call) i a n → Channelled m caller i (port_of m caller r)
  on_queue_holds i a n b =
      let e = in_limits 1 m.table.channel_count r.a b.there in
      let l : number_of r.a - 1 < m.table.channel_count = omega (arith, e.0, e.1) in
      let c = channel m.table (number_of r.a - 1) in
      let g = s.table.each_channel (number_of r.a - 1) l in
      let at : apart caller c ≡ false = ⊎_elim
      (λ (h : Sends (port_of m caller r) (number_of r.call) a n). rw (eq-eqb c.source caller h.source))
      (λ (h : Receives (port_of m caller r) (number_of r.call) a n). rw (eq-eqb c.destination caller h.destination, and-false (not (eqb c.source caller))))
      b.end in
      let end : Between 1 m.table.size (other_end caller c) = by_test (Between 1 m.table.size) (eqb c.source caller) (λ _. g.destination) (λ _. g.source) in
      let sees : sees_traffic m.table caller (number_of r.a - 1) ≡ true = rw (lt-ltb _ _ l, b.kind, at) in
      rw b.place (record { there = l; is = refl; kind = b.kind; sees = rw sees; inside = omega (arith, end.0, end.1) })

  -- the channel of a transfer: what is seen of it is its traffic
  pub transfer_sound : (i : ℕ) (a : Transfer) (n : ℕ) → OnQueue (port_of m caller r) (number_of r.call) i a n
      → (i < m.table.channel_count) × SoundMove (channel m.table i).size (queue m i) a × SoundEnd (part m (other_end caller (channel m.table i) - 1)) a
  transfer_sound i a n b =
      let g = on_queue_holds i a n b in
      let c = channel m.table i in
      let j = other_end caller c - 1 in
      let o = other_queue caller i c in
      let v = s.each_partition j g.inside in
      let t : SoundMove c.size (queue m i) a × SoundEnd (part m j) a = ⊎_elim
      (λ (h : Sends (port_of m caller r) (number_of r.call) a n).
      let is : a ≡ sent (first_waiter o (part m j)) h.message = h.transfer ∙ ap (λ (x : Traffic). sent x.waiter h.message) g.sees in
      rw is (sent_sound (part m j) v.lists o c.size (queue m i) h.message (let l = h.room in let z = ap (λ (x : Traffic). x.len) g.sees in let w = ap (λ (x : Channel). x.size) g.is in omega arith) h.few))
      (λ (h : Receives (port_of m caller r) (number_of r.call) a n).
      let is : a ≡ received (first_waiter o (part m j)) (carried (process (first_waiter o (part m j)) (part m j))) = h.transfer ∙ ap (λ (x : Traffic). received x.waiter x.carried) g.sees in
      rw is (received_sound m.table.frame m.t (part m j) v o c.size (queue m i) (let l = h.some in let z = ap (λ (x : Traffic). x.len) g.sees in omega arith)))
      b.end in
      (g.there, t.0, t.1)

  -- a sound decision of the caller's partition, applied
  applied_sound : (d : Decision) → SoundDecision (context_of m caller) (part m (caller - 1)) d → Bodily (port_of m caller r) (number_of r.call) d → SoundModule (module_after m caller d)
  applied_sound (Refused n) h b = s
  applied_sound (Unchanged n e) h b = s
  applied_sound Ticked h b = absurd b
  applied_sound (Blocked id x) h b = stores (Blocked id x) h
  applied_sound (Changed x y n) h b = stores (Changed x y n) h
  applied_sound (Restarted mode) h b =
      refilled_sound caller channel_limit _ (part_sound (erased_to caller channel_limit m) (erased_sound caller channel_limit m (omega arith) s) (caller - 1) place _ (valid (Restarted mode) h))
  applied_sound (Written i x) h b =
      let c = in_limits 1 m.table.channel_count r.a b.there in
      message_sound m s i (omega (arith, b.place, c.0, c.1, s.table.channel_count)) (Some x) h
  applied_sound (Passed i a n) h b = let t = transfer_sound i a n b in passed_sound m s caller i a t.0 t.1 t.2

pub decided_sound : (m : Module) → SoundModule m → (r : Request) → SoundModule (module_after m (number_of r.partition) (decision m r))
decided_sound m s r =
    by_event m r (λ (d : Decision). SoundModule (module_after m (number_of r.partition) d))
    (λ n _. s)
    (λ _ _ room. tick_sound m s room)
    (λ q. applied_sound m s r q (made m s r q) (made_sound m s r q) (made_body m s r q))

-- ---------------------------------------------------------------- every reached record
pub empty_step : (e : EventT) → (step empty_module e).state ≡ empty_module
unfolding step decision checked empty_module empty_table
empty_step e = refl

pub step_valid : (m : Module) (e : EventT) → ValidModule m → ValidModule (step m e).state
unfolding step
step_valid m e (inl h) = inl (rw h (empty_step e))
step_valid m e (inr s) = inr (decided_sound m s (request_of e))

empty_queue : (n : ℕ) → SoundQueue n no_queue
unfolding AllMessages
empty_queue n = queue_sound n [] (omega arith) tt

pub fresh_sound : (T : Table) → SoundTable T → SoundModule (fresh_module T)
unfolding fresh_module
fresh_sound T s = record {
  table = s;
  partitions_size = refl;
  messages_size = refl;
  queues_size = refl;
  time = omega arith;
  each_partition = λ i h. rw (get_or-replicate partition_limit i fresh_partition no_partition (omega (arith, s.size.1))) (fresh_valid T.frame 0);
  each_message = λ i. rw (get_d_replicate_any channel_limit i no_message) (no_message_holds 0);
  each_queue = λ i. rw (get_d_replicate_any channel_limit i no_queue) (empty_queue (channel T i).size);
}

pub reached_valid : (m : Module) → Reached m → ValidModule m
reached_valid m (Reached.read input) =
    let t = table_read input in
    either (eqb (read_table input).code 0)
    (λ e. let a = t.accepted (eqb-true _ 0 e) in inr (rw a.1 (fresh_sound (read_table input).state.table a.0)))
    (λ e. inl (t.refused (eqb-false _ 0 e)))
reached_valid _ (stepped m e h) = step_valid m e (reached_valid m h)

-- ---------------------------------------------------------------- what holds of both kinds of valid record
pub record Sized (m : Module) : Type 0 where
  pub partitions : length m.partitions ≡ partition_limit
  pub messages : length m.messages ≡ channel_limit
  pub queues : length m.queues ≡ channel_limit
  pub time : m.t ≤ time_limit
  pub size : m.table.size ≤ partition_limit

empty_sized : Sized empty_module
unfolding empty_module empty_table
empty_sized = record { partitions = refl; messages = refl; queues = refl; time = omega arith; size = omega arith }

pub valid_sized : (m : Module) → ValidModule m → Sized m
valid_sized m (inl h) = rw h empty_sized
valid_sized m (inr s) = record { partitions = s.partitions_size; messages = s.messages_size; queues = s.queues_size; time = s.time; size = s.table.size.1 }

-- a record that has a partition has a sound table
pub valid_sound : (m : Module) → ValidModule m → (i : ℕ) → i < m.table.size → SoundModule m
unfolding empty_module empty_table
valid_sound m (inl h) i l = absurd (omega (arith, ap (λ (q : Module). q.table.size) h))
valid_sound m (inr s) i l = s
