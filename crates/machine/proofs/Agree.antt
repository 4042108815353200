-- Two modules that agree on a set of partitions, and what each way of changing a module keeps of that. Assumes nothing.
use Rattle.std.specs.Prelude.{Option}
use Prim.Native.Nat.{ℕ, zero, suc, ◌-◌, ◌<◌}
use mathlib.Core.Path.{◌≡◌, refl, sym, ap, ap₂, ◌∙◌, subst}
use mathlib.Core.List.{List, map}
use mathlib.Core.Bool.{Bool, true, false, ◌&&◌}
use native.Mathlib.Omega.{arith}
use lib.ListN.{length, length-set}
use lib.Seq.{get_or-set_other}
use lib.Dec.{ltb}
use borrow.Author.Tests.{eqb-true, ltb-true}
use Rattle.machine.specs.declared.Partition.{Partition}
use Rattle.machine.specs.declared.Table.{Table}
use Rattle.machine.specs.declared.Message.{Message}
use Rattle.machine.specs.declared.Queue.{Queue}
use Rattle.machine.specs.declared.Channel.{Channel}
use Rattle.machine.specs.declared.Transfer.{Transfer}
use Rattle.machine.specs.declared.Module.{Module}
use Rattle.machine.specs.Limits.{partition_limit}
use Rattle.machine.specs.Messages.{queue_of, moved, ends_wait}
use Rattle.machine.specs.Process.{carried, served}
use Rattle.machine.specs.Partition.{within, process, changed_all, ended_by, tick_partition}
use Rattle.machine.specs.Module.{part, message, queue, channel, with_part, with_messages, with_message, with_queue, with_time}
use Rattle.machine.specs.Decisions.{no_message}
use Rattle.machine.specs.Ticks.{tick_at, tick_to}
use Rattle.machine.specs.Channels.{queuing, queuing_at, other_end, ended_at, passed, leads_into, kept_to, erased_to, admitted, refilled_at, refilled_to}
use Rattle.machine.specs.Theorems.LeftRight.{Closed}
use Rattle.machine.proofs.Tests.{by_test, by_tests, set_both, not_both, and_left, and_right}
use Rattle.machine.proofs.Bounds.{within_out}
use Rattle.machine.proofs.Either.{either}

pub record Agree (T : Table) (S : ℕ → Bool) (m n : Module) : Type 0 where
  pub left : m.table ≡ T
  pub right : n.table ≡ T
  pub time : m.t ≡ n.t
  pub slots : length m.partitions ≡ length n.partitions
  pub places : length m.messages ≡ length n.messages
  pub rows : length m.queues ≡ length n.queues
  pub parts : (i : ℕ) → S (suc i) ≡ true → part m i ≡ part n i
  pub inbound : (i : ℕ) → S (channel T i).destination ≡ true → message m i ≡ message n i
  pub queues : (i : ℕ) → S (channel T i).destination ≡ true → queue m i ≡ queue n i

module _ (T : Table) (S : ℕ → Bool) where
  pub agree_same : (m : Module) → m.table ≡ T → Agree T S m m
  agree_same m q = record { left = q; right = q; time = refl; slots = refl; places = refl; rows = refl; parts = λ i s. refl; inbound = λ i s. refl; queues = λ i s. refl }

  pub agree_back : (m n : Module) → Agree T S m n → Agree T S n m
  agree_back m n a = record { left = a.right; right = a.left; time = sym a.time; slots = sym a.slots; places = sym a.places; rows = sym a.rows; parts = λ i s. sym (a.parts i s); inbound = λ i s. sym (a.inbound i s); queues = λ i s. sym (a.queues i s) }

  pub agree_along : (m n o : Module) → Agree T S m n → Agree T S n o → Agree T S m o
  agree_along m n o a b = record { left = a.left; right = b.right; time = a.time ∙ b.time; slots = a.slots ∙ b.slots; places = a.places ∙ b.places; rows = a.rows ∙ b.rows; parts = λ i s. a.parts i s ∙ b.parts i s; inbound = λ i s. a.inbound i s ∙ b.inbound i s; queues = λ i s. a.queues i s ∙ b.queues i s }

  -- changes on both sides: equal where they can be seen
  pub part_both : (m n : Module) (i : ℕ) (p q : Partition) → Agree T S m n → (S (suc i) ≡ true → p ≡ q) → Agree T S (with_part i p m) (with_part i q n)
  part_both m n i p q a h = record {
    left = a.left;
    right = a.right;
    time = a.time;
    places = a.places;
    rows = a.rows;
    inbound = a.inbound;
    queues = a.queues;
    slots = length-set m.partitions i p ∙ a.slots ∙ sym (length-set n.partitions i q);
    parts = λ j s. set_both (λ (x y : Partition). x ≡ y) m.partitions n.partitions i j p q _ a.slots (λ e. h (ap (λ (x : ℕ). S (suc x)) (sym e) ∙ s)) (a.parts j s);
  }

  pub message_both : (m n : Module) (i : ℕ) (x y : Option Message) → Agree T S m n → (S (channel T i).destination ≡ true → x ≡ y) → Agree T S (with_message i x m) (with_message i y n)
  message_both m n i x y a h = record {
    left = a.left;
    right = a.right;
    time = a.time;
    slots = a.slots;
    parts = a.parts;
    rows = a.rows;
    queues = a.queues;
    places = length-set m.messages i x ∙ a.places ∙ sym (length-set n.messages i y);
    inbound = λ j s. set_both (λ (x y : Option Message). x ≡ y) m.messages n.messages i j x y _ a.places (λ e. h (ap (λ (k : ℕ). S (channel T k).destination) (sym e) ∙ s)) (a.inbound j s);
  }

  pub time_both : (m n : Module) (t u : ℕ) → Agree T S m n → t ≡ u → Agree T S (with_time t m) (with_time u n)
  time_both m n t u a q = record { left = a.left; right = a.right; time = q; slots = a.slots; places = a.places; rows = a.rows; parts = a.parts; inbound = a.inbound; queues = a.queues }

  -- a change on one side that cannot be seen
  pub part_free : (m n : Module) (i : ℕ) (p : Partition) → Agree T S m n → S (suc i) ≡ false → Agree T S (with_part i p m) n
  part_free m n i p a f = record {
    left = a.left;
    right = a.right;
    time = a.time;
    places = a.places;
    rows = a.rows;
    inbound = a.inbound;
    queues = a.queues;
    slots = length-set m.partitions i p ∙ a.slots;
    parts = λ j s. get_or-set_other m.partitions i j p _ (λ e. not_both (S (suc j)) s (ap (λ (x : ℕ). S (suc x)) e ∙ f)) ∙ a.parts j s;
  }

  pub message_free : (m n : Module) (i : ℕ) (x : Option Message) → Agree T S m n → S (channel T i).destination ≡ false → Agree T S (with_message i x m) n
  message_free m n i x a f = record {
    left = a.left;
    right = a.right;
    time = a.time;
    slots = a.slots;
    parts = a.parts;
    rows = a.rows;
    queues = a.queues;
    places = length-set m.messages i x ∙ a.places;
    inbound = λ j s. get_or-set_other m.messages i j x _ (λ e. not_both (S (channel T j).destination) s (ap (λ (k : ℕ). S (channel T k).destination) e ∙ f)) ∙ a.inbound j s;
  }

  pub queue_both : (m n : Module) (i : ℕ) (x y : Queue) → Agree T S m n → (S (channel T i).destination ≡ true → x ≡ y) → Agree T S (with_queue i x m) (with_queue i y n)
  queue_both m n i x y a h = record {
    left = a.left;
    right = a.right;
    time = a.time;
    slots = a.slots;
    parts = a.parts;
    places = a.places;
    inbound = a.inbound;
    rows = length-set m.queues i x ∙ a.rows ∙ sym (length-set n.queues i y);
    queues = λ j s. set_both (λ (x y : Queue). x ≡ y) m.queues n.queues i j x y _ a.rows (λ e. h (ap (λ (k : ℕ). S (channel T k).destination) (sym e) ∙ s)) (a.queues j s);
  }

  pub queue_free : (m n : Module) (i : ℕ) (x : Queue) → Agree T S m n → S (channel T i).destination ≡ false → Agree T S (with_queue i x m) n
  queue_free m n i x a f = record {
    left = a.left;
    right = a.right;
    time = a.time;
    slots = a.slots;
    parts = a.parts;
    places = a.places;
    inbound = a.inbound;
    rows = length-set m.queues i x ∙ a.rows;
    queues = λ j s. get_or-set_other m.queues i j x _ (λ e. not_both (S (channel T j).destination) s (ap (λ (k : ℕ). S (channel T k).destination) e ∙ f)) ∙ a.queues j s;
  }

  -- a transfer: the same on both sides, or one that cannot be seen
  pub passed_both : (m n : Module) (k i : ℕ) (a : Transfer) → Agree T S m n → Agree T S (passed k i a m) (passed k i a n)
  passed_both m n k i a g =
      let j = other_end k (channel m.table i) - 1 in
      let u = with_queue i (moved a (queue m i)) m in
      let v = with_queue i (moved a (queue n i)) n in
      let h : Agree T S u v = queue_both m n i _ _ g (λ s. ap (moved a) (g.queues i s)) in
      subst (λ (x : Table). Agree T S (passed k i a m) (ended_at (other_end k (channel x i) - 1) a v)) (g.left ∙ sym g.right)
      (by_tests (Agree T S) (ends_wait a) _ refl (λ _. part_both u v j _ _ h (λ s. ap (ended_by a) (h.parts j s))) (λ _. h))

  pub passed_free : (m n : Module) (k i : ℕ) (a : Transfer) → Agree T S m n → S (channel T i).destination ≡ false → S (suc (other_end k (channel m.table i) - 1)) ≡ false → Agree T S (passed k i a m) n
  passed_free m n k i a g f e =
      let u = with_queue i (moved a (queue m i)) m in
      let h : Agree T S u n = queue_free m n i _ g f in
      by_test (λ (x : Module). Agree T S x n) (ends_wait a) (λ _. part_free u n _ _ h e) (λ _. h)

  tick_at_free : (i : ℕ) (m : Module) → m.table ≡ T → S (suc i) ≡ false → Agree T S (tick_at i m) m
  unfolding tick_at
  tick_at_free i m e f = part_free m m i _ (agree_same m e) f

  -- one partition at a tick: in S it is equal on both sides, outside S nothing of it is seen
  tick_at_both : (i : ℕ) (m n : Module) → Agree T S m n → Agree T S (tick_at i m) (tick_at i n)
  unfolding tick_at
  tick_at_both i m n a = go (S (suc i)) refl
    where
      go : (b : Bool) → S (suc i) ≡ b → Agree T S (tick_at i m) (tick_at i n)
      go true s = part_both m n i _ _ a (λ _. ap₂ tick_partition a.time (a.parts i s))
      go false f = agree_along _ m _ (tick_at_free i m a.left f) (agree_along m n _ a (agree_back _ n (tick_at_free i n a.right f)))

  -- two folds: a tick of all partitions, and the messages into one partition erased
  pub tick_both : (k : ℕ) (m n : Module) → Agree T S m n → Agree T S (tick_to k m) (tick_to k n)
  unfolding tick_to
  tick_both zero m n a = a
  tick_both (suc k) m n a = tick_at_both k (tick_to k m) (tick_to k n) (tick_both k m n a)

  pub erase_both : (k c : ℕ) (m n : Module) → Agree T S m n → Agree T S (erased_to k c m) (erased_to k c n)
  unfolding kept_to
  erase_both k zero m n a = a
  erase_both k (suc c) m n a =
      let h = erase_both k c m n a in
      let q : m.table ≡ n.table = a.left ∙ sym a.right in
      by_tests (λ (x y : List (Option Message)). Agree T S (with_messages x m) (with_messages y n)) (leads_into k (channel m.table c)) (leads_into k (channel n.table c)) (cc)
      (λ q. message_both (erased_to k c m) (erased_to k c n) c no_message no_message h (λ s. refl))
      (λ q. h)

  pub erase_free : (k c : ℕ) (m n : Module) → Agree T S m n → S k ≡ false → Agree T S (erased_to k c m) n
  unfolding kept_to
  erase_free k zero m n a f = a
  erase_free k (suc c) m n a f =
      let h = erase_free k c m n a f in
      by_test (λ (x : List (Option Message)). Agree T S (with_messages x m) n) (leads_into k (channel m.table c))
      (λ q. message_free (erased_to k c m) n c no_message h (ap (λ (x : Table). S (channel x c).destination) (sym a.left) ∙ ap S (eqb-true _ _ q) ∙ f))
      (λ q. h)

-- a number of a partition
pub in_place : (limit k : ℕ) → within limit k ≡ true → suc (k - 1) ≡ k
in_place limit k e = let h = within_out limit k e in omega arith

pub source_some : (x : Channel) → queuing x ≡ true → suc (x.source - 1) ≡ x.source
source_some x q = in_place partition_limit x.source (and_left (within partition_limit x.source) _ (and_right (ltb 0 x.size) _ q))

pub destination_some : (x : Channel) → queuing x ≡ true → suc (x.destination - 1) ≡ x.destination
destination_some x q = in_place partition_limit x.destination (and_right (within partition_limit x.source) _ (and_right (ltb 0 x.size) _ q))

module _ (T : Table) (S : ℕ → Bool) (closed : Closed T S) where
  -- a queuing channel has both ends in S or neither, and a channel into S has its source in S
  pub ends : (i : ℕ) → i < T.channel_count → queuing (channel T i) ≡ true → S (channel T i).source ≡ S (channel T i).destination
  ends i l q = rw q at (closed i l)

  pub source_in : (i : ℕ) → i < T.channel_count → S (channel T i).destination ≡ true → S (channel T i).source ≡ true
  source_in i l s = either (queuing (channel T i)) (λ q. ends i l q ∙ s) (λ q. (rw q at (closed i l)) s)

  -- a channel of the table that is queuing and leads into partition k
  abbrev fills : ℕ → ℕ → Table → Bool
  fills k i U = queuing_at U i && leads_into k (channel U i)

  -- one queue filled anew: in S with the senders' partition, or all of it unseen
  refill_at_both : (i : ℕ) (m n : Module) → Agree T S m n → i < T.channel_count → queuing (channel T i) ≡ true → Agree T S (refilled_at i m) (refilled_at i n)
  refill_at_both i m n a l q =
      let x = channel m.table i in
      let j = x.source - 1 in
      let c = channel T i in
      let is : x ≡ c = ap (λ (U : Table). channel U i) a.left in
      let to : channel n.table i ≡ x = ap (λ (U : Table). channel U i) (a.right ∙ sym a.left) in
      let let_in_holds : Channel → Partition → Module → Module = λ y p u. with_part (y.source - 1) (changed_all served (admitted i y p) p) (with_queue i (queue_of (map (λ id. carried (process id p)) (admitted i y p))) u) in
      let h : Agree T S (let_in_holds x (part m j) m) (let_in_holds x (part n j) n) =
      part_both T S _ _ j _ _
      (queue_both T S m n i _ _ a (λ s. ap (λ (p : Partition). queue_of (map (λ id. carried (process id p)) (admitted i x p))) (a.parts j (ap (λ (y : Channel). S (suc (y.source - 1))) is ∙ ap S (source_some c q) ∙ source_in i l s))))
      (λ s. ap (λ (p : Partition). changed_all served (admitted i x p) p) (a.parts j s)) in
      subst (λ (y : Channel). Agree T S (let_in_holds x (part m j) m) (let_in_holds y (part n (y.source - 1)) n)) (sym to) h

  pub refill_both : (k c : ℕ) (m n : Module) → Agree T S m n → Agree T S (refilled_to k c m) (refilled_to k c n)
  unfolding refilled_to
  refill_both k zero m n a = a
  refill_both k (suc c) m n a =
      let h = refill_both k c m n a in
      let u = refilled_to k c m in
      let v = refilled_to k c n in
      by_tests (Agree T S) (fills k c u.table) (fills k c v.table) (ap (fills k c) (h.left ∙ sym h.right))
      (λ t.
      let w : fills k c T ≡ true = ap (fills k c) (sym h.left) ∙ t in
      let g = and_left (queuing_at T c) _ w in
      refill_at_both c u v h (ltb-true c T.channel_count (and_left (ltb c T.channel_count) _ g)) (and_right (ltb c T.channel_count) _ g))
      (λ _. h)

  pub refill_free : (k c : ℕ) (m n : Module) → Agree T S m n → S k ≡ false → Agree T S (refilled_to k c m) n
  unfolding refilled_to
  refill_free k zero m n a f = a
  refill_free k (suc c) m n a f =
      let h = refill_free k c m n a f in
      let u = refilled_to k c m in
      let x = channel T c in
      by_test (λ (y : Module). Agree T S y n) (fills k c u.table)
      (λ t.
      let w : fills k c T ≡ true = ap (fills k c) (sym h.left) ∙ t in
      let g = and_left (queuing_at T c) _ w in
      let q = and_right (ltb c T.channel_count) _ g in
      let d : S x.destination ≡ false = ap S (eqb-true _ _ (and_right (queuing_at T c) _ w)) ∙ f in
      let e : S (suc (x.source - 1)) ≡ false = ap S (source_some x q) ∙ ends c (ltb-true c T.channel_count (and_left (ltb c T.channel_count) _ g)) q ∙ d in
      part_free T S _ n _ _ (queue_free T S u n c _ h d) (ap (λ (U : Table). S (suc ((channel U c).source - 1))) h.left ∙ e))
      (λ _. h)
