-- Demand 3, proved: one event of each kind (`step_free`, `step_both`), and by `two_runs` whole lists. Assumes nothing.
use Rattle.std.specs.Prelude.{Option, Some}
use Prim.Native.Nat.{ℕ, zero, suc, ◌+◌, ◌-◌, ◌<◌, ◌≤◌}
use mathlib.Core.Path.{◌≡◌, refl, sym, ap, ap₂, ◌∙◌, subst}
use mathlib.Core.Bool.{Bool, true, false, cond, not, ◌&&◌, ◌||◌, true≢false}
use mathlib.Core.List.{[], ◌∷◌, map}
use mathlib.Core.Logic.{⊎_elim}
use native.Mathlib.Omega.{arith}
use lib.Dec.{eqb, ltb, leb}
use lib.IntN.{ℤ, pos, negsuc}
use borrow.Author.Tests.{eqb-true, eqb-false, ltb-true, ne_eqb, not-true, not-false}
use Rattle.machine.specs.declared.Partition.{Partition}
use Rattle.machine.specs.declared.Table.{Table}
use Rattle.machine.specs.declared.Module.{Module}
use Rattle.machine.specs.declared.Message.{Message}
use Rattle.machine.specs.declared.Queue.{Queue}
use Rattle.machine.specs.declared.Channel.{Channel}
use Rattle.machine.specs.declared.Traffic.{Traffic}
use Rattle.machine.specs.declared.Transfer.{Transfer}
use Rattle.machine.specs.declared.Wait.TheVariants.{Source, Destination}
use Rattle.machine.specs.declared.Field.TheVariants.{Number, Other}
use Rattle.machine.specs.declared.Event.{Event}
use Rattle.machine.specs.declared.Request.{Request}
use Rattle.machine.specs.declared.EventRecord.{EventRecord}
use Rattle.machine.specs.declared.Decision.{Decision}
use Rattle.machine.specs.declared.Decision.TheVariants.{Refused, Unchanged, Ticked, Blocked, Changed, Restarted, Written, Passed}
use Rattle.machine.specs.Limits.{greatest_time, channel_limit, call_limit}
use Rattle.machine.specs.Fields.{field, request_of, is_number, between, number_of}
use Rattle.machine.specs.Process.{object, carried}
use Rattle.machine.specs.Partition.{process, waiters, running, partition_after}
use Rattle.machine.specs.Decisions.{checked, reply_of}
use Rattle.machine.specs.Services.{call_decision}
use Rattle.machine.specs.Windows as Wi
use Rattle.machine.specs.Module as M
use Rattle.machine.specs.Ticks as Ti
use Rattle.machine.specs.Channels as Ch
use Rattle.machine.specs.Places as Pl
use Rattle.machine.specs.Step as St
use Rattle.machine.specs.Runs.{next, answered_event}
use Rattle.machine.specs.Theorems.LeftRight.{is_zero, member_of, common, shown, Within, Closed, EqualIn, LeftRight}
use Rattle.machine.proofs.TwoRuns.{Unwinding, two_runs}
use Rattle.machine.proofs.Tests.{by_tests, by_checks₂, and_left, and_right, or_left, or_right, not_both}
use Rattle.machine.proofs.Fields.{in_limits, between_zero}
use Rattle.machine.proofs.Dispatch.{by_event}
use Rattle.machine.proofs.Bodies.{FromSource, Sends, Receives, OnQueue, Bodily}
use Rattle.machine.proofs.EveryCall.{call_body}
use Rattle.machine.proofs.Either.{either}
use Rattle.machine.proofs.Refusals.{call_in_range}
use Rattle.machine.proofs.Agree.{Agree, agree_same, agree_back, agree_along, part_both, part_free, message_both, message_free, passed_both, passed_free, time_both, tick_both, erase_both, erase_free, source_some, destination_some, ends, source_in, refill_both, refill_free}

pub one_less : (k : ℕ) → eqb k 0 ≡ false → suc (k - 1) ≡ k
one_less k q = let h : k ≡ 0 → ⊥ = eqb-false k 0 q in omega arith

-- a number other than 0 that a field names is the event's own
pub member_number : (S : ℕ → Bool) (z : ℤ) → eqb (number_of (field z)) 0 ≡ false → (is_zero z ≡ false) × (member_of S z ≡ S (number_of (field z)))
member_number S (pos n) q = go (leb n greatest_time) refl
  where
    go : (b : Bool) → leb n greatest_time ≡ b → (eqb n 0 ≡ false) × (S n ≡ S (number_of (cond (leb n greatest_time) (Number n) Other)))
    go true e = (rw e at q, rw e)
    go false e = absurd (true≢false (let r : eqb (number_of (cond (leb n greatest_time) (Number n) Other)) 0 ≡ false = q in rw e at r))
member_number S (negsuc zero) q = absurd (true≢false q)
member_number S (negsuc (suc n)) q = absurd (true≢false q)

-- an event whose partition is not 0 is common where its partition is in S
pub own : (S : ℕ → Bool) (e : Event) → eqb (number_of (field e.partition)) 0 ≡ false → S (number_of (field e.partition)) ≡ common S e
own S e q = let h = member_number S e.partition q in rw h.0 (sym h.1)

-- a field that is the number k names partition k
number_member : (S : ℕ → Bool) (k : ℕ) (z : ℤ) → is_number k (field z) ≡ true → member_of S z ≡ S k
number_member S k (pos n) q = go (leb n greatest_time) refl
  where
    go : (b : Bool) → leb n greatest_time ≡ b → S n ≡ S k
    go true e = ap S (eqb-true n k (rw e at q))
    go false e = absurd (true≢false (sym (let r : is_number k (cond (leb n greatest_time) (Number n) Other) ≡ true = q in rw e at r)))
number_member S k (negsuc zero) q = absurd (true≢false (sym q))
number_member S k (negsuc (suc n)) q = absurd (true≢false (sym q))

zero_number : (z : ℤ) → is_number 0 (field z) ≡ true → is_zero z ≡ true
zero_number z q = number_member (λ k. eqb k 0) 0 z q

weaker : (a b d : Bool) → ((a && b) || d) ≡ true → (a || d) ≡ true
weaker true b d h = refl
weaker false b d h = h

-- 13 leaves no event with just one 0
pub tick_common : (S : ℕ → Bool) (T : Table) (e : Event) → Pl.malformed T (request_of e) ≡ false → eqb (number_of (field e.partition)) 0 ≡ true → common S e ≡ true
tick_common S T e q z =
    let r = request_of e in
    let q₂ = or_right (eqb T.size 0) _ q in
    let p : is_number 0 (field e.partition) ≡ true = between_zero T.size (field e.partition) (not-false _ (or_left (not (between 0 T.size r.partition)) _ q₂)) z in
    let q₃ = or_right (not (between 0 T.size r.partition)) _ q₂ in
    let q₄ = or_right (not (between 0 call_limit r.call)) _ q₃ in
    let o : not (is_number 0 r.call) ≡ false = rw p at (or_left (Pl.one_zero r) _ q₄) in
    rw (zero_number e.partition p, zero_number e.call (not-false _ o))

module _ (T : Table) (S : ℕ → Bool) (closed : Closed T S) where
  tables : (m n : Module) → Agree T S m n → m.table ≡ n.table
  tables m n a = a.left ∙ sym a.right

  pub current_both : (m n : Module) → Agree T S m n → M.current m ≡ M.current n
  current_both m n a = ap₂ (λ (x : Table) (t : ℕ). (Wi.lookup x t).partition) (tables m n a) a.time

  -- ------------------------------------------------------------ an event of a partition in S, or a tick, on two sides
  -- a partition at an end of a queuing channel, in S: so is the other end
  end_in : (k i : ℕ) → Ch.sees_traffic T k i ≡ true → S k ≡ true → (S (M.channel T i).destination ≡ true) × (S (suc (Ch.other_end k (M.channel T i) - 1)) ≡ true)
  end_in k i t s =
      let c = M.channel T i in
      let g = and_left (Ch.queuing_at T i) _ t in
      let l = ltb-true i T.channel_count (and_left (ltb i T.channel_count) _ g) in
      let q = and_right (ltb i T.channel_count) _ g in
      let two = ends T S closed i l q in
      either (eqb c.source k)
      (λ e.
      let d : S c.destination ≡ true = sym two ∙ ap S (eqb-true _ k e) ∙ s in
      (d, rw e (ap S (destination_some c q) ∙ d)))
      (λ e.
      let at : (not (eqb c.source k) && not (eqb c.destination k)) ≡ false = not-true _ (and_right (Ch.queuing_at T i) _ t) in
      let d : S c.destination ≡ true = ap S (eqb-true _ k (not-false _ (rw e at at))) ∙ s in
      (d, rw e (ap S (source_some c q) ∙ two ∙ d)))

  -- it sees the same traffic there
  traffic_both : (m n : Module) (k i : ℕ) → Agree T S m n → S k ≡ true → Ch.traffic_at m k i ≡ Ch.traffic_at n k i
  traffic_both m n k i a s =
      by_tests (λ (x y : Traffic). x ≡ y) _ _ (ap (λ (x : Table). Ch.sees_traffic x k i) (tables m n a))
      (λ t.
      let h = end_in k i (ap (λ (x : Table). Ch.sees_traffic x k i) (sym a.left) ∙ t) s in
      let p : M.part m (Ch.other_end k (M.channel m.table i) - 1) ≡ M.part n (Ch.other_end k (M.channel m.table i) - 1) = a.parts _ (ap (λ (x : Table). S (suc (Ch.other_end k (M.channel x i) - 1))) a.left ∙ h.1) in
      ap₂ (λ (q : Queue) (p : Partition). Ch.traffic_of q (Ch.other_queue k i (M.channel m.table i)) p) (a.queues i h.0) p
      ∙ ap (λ (x : Table). Ch.traffic_of (M.queue n i) (Ch.other_queue k i (M.channel x i)) (M.part n (Ch.other_end k (M.channel x i) - 1))) (tables m n a))
      (λ _. refl)

  -- a partition in S sees the same of a channel: of a message only what lies on a channel into S, of traffic only that between partitions of S
  port_both : (m n : Module) (k : ℕ) (r : Request) → Agree T S m n → S k ≡ true → Ch.port_of m k r ≡ Ch.port_of n k r
  port_both m n k r a s = λ t. record { own = k; place = i; exists = between 1 (tables m n a t).channel_count r.a; channel = M.channel (tables m n a t) i; message = same t; traffic = traffic_both m n k i a s t }
    where
      i : ℕ
      i = number_of r.a - 1

      same : Ch.seen_at k (M.channel m.table i) (M.message m i) ≡ Ch.seen_at k (M.channel n.table i) (M.message n i)
      same = by_tests (λ (x y : Option Message). x ≡ y) _ _ (ap (λ (x : Table). eqb (M.channel x i).destination k) (tables m n a))
          (λ q. a.inbound i (ap (λ (x : Table). S (M.channel x i).destination) (sym a.left) ∙ ap S (eqb-true _ k q) ∙ s))
          (λ q. refl)

  -- it sees the same, so it decides the same
  decision_both : (m n : Module) (e : Event) → Agree T S m n → common S e ≡ true → St.decision m (request_of e) ≡ St.decision n (request_of e)
  unfolding St.decision
  decision_both m n e a c =
      let r = request_of e in
      let k = number_of r.partition in
      by_checks₂ (λ (x y : Decision). x ≡ y) _ _ _ _ _ _ (λ i. Pl.first_checks (tables m n a i) (a.time i) (current_both m n a i) r) (λ c. refl) λ q₁.
      by_tests (λ (x y : Decision). x ≡ y) (eqb k 0) _ refl (λ z. refl) λ z.
      let s : S k ≡ true = own S e z ∙ c in
      let p : M.part m (k - 1) ≡ M.part n (k - 1) = a.parts (k - 1) (ap S (one_less k z) ∙ s) in
      let x = port_both m n k r a s in
      λ i. checked Refused ((Pl.no_caller (p i), 9) ∷ []) (call_decision (record { time = a.time i; frame = (tables m n a i).frame; left = (Wi.lookup (tables m n a i) (a.time i)).left; release = Wi.release_point (tables m n a i) (a.time i) k; caller = running (p i) }) (x i) (number_of r.call) r (p i))

  tick_done_both : (m n : Module) → Agree T S m n → Agree T S (Ti.tick_module m) (Ti.tick_module n)
  tick_done_both m n a =
      subst (λ (x : Table). Agree T S (Ti.tick_module m) (Ti.tick_to (Ti.partition_count x) (M.with_time (n.t + 1) n))) (tables m n a)
      (tick_both T S (Ti.partition_count m.table) _ _ (time_both T S m n _ _ a (ap (λ (x : ℕ). x + 1) a.time)))

  -- one decision applied on both sides
  after_both : (m n : Module) (k : ℕ) (d : Decision) → Agree T S m n → (S (suc (k - 1)) ≡ true → M.part m (k - 1) ≡ M.part n (k - 1)) → Agree T S (St.module_after m k d) (St.module_after n k d)
  after_both m n k (Refused c) a p = a
  after_both m n k (Unchanged v e) a p = a
  after_both m n k Ticked a p = tick_done_both m n a
  after_both m n k (Blocked id x) a p = part_both T S m n (k - 1) _ _ a (λ s. ap (partition_after (Blocked id x)) (p s))
  after_both m n k (Changed x y v) a p = part_both T S m n (k - 1) _ _ a (λ s. ap (partition_after (Changed x y v)) (p s))
  after_both m n k (Restarted mode) a p = refill_both T S closed k channel_limit _ _ (part_both T S _ _ (k - 1) _ _ (erase_both T S k channel_limit m n a) (λ s. refl))
  after_both m n k (Written i x) a p = message_both T S m n i (Some x) (Some x) a (λ s. refl)
  after_both m n k (Passed i x v) a p = passed_both T S m n k i x a

  -- ------------------------------------------------------------ a free event on one side
  -- the source of a channel into S is in S: a partition outside S leaves no message there
  unseen : (m : Module) (k : ℕ) (r : Request) (i : ℕ) → m.table ≡ T → S k ≡ false → FromSource (Ch.port_of m k r) (number_of r.call) i → S (M.channel T i).destination ≡ false
  unseen m k r i e f w = go (S (M.channel T i).destination) refl
    where
      b : (1 ≤ number_of r.a) × (number_of r.a ≤ m.table.channel_count)
      b = in_limits 1 m.table.channel_count r.a w.there

      count : m.table.channel_count ≡ T.channel_count
      count = ap (λ (x : Table). x.channel_count) e

      there : i < T.channel_count
      there = omega (arith, w.place, b.0, b.1, count)

      source : (M.channel T i).source ≡ k
      source = ap₂ (λ (x : Table) (j : ℕ). (M.channel x j).source) (sym e) w.place ∙ w.source

      go : (v : Bool) → S (M.channel T i).destination ≡ v → v ≡ false
      go true q = not_both (S k) (ap S (sym source) ∙ source_in T S closed i there q) f
      go false q = refl

  -- a partition outside S makes its transfers with partitions outside S
  apart_from : (m : Module) (k : ℕ) (r : Request) (i : ℕ) (x : Transfer) (v : ℕ) → m.table ≡ T → S k ≡ false → OnQueue (Ch.port_of m k r) (number_of r.call) i x v
      → (S (M.channel T i).destination ≡ false) × (S (suc (Ch.other_end k (M.channel m.table i) - 1)) ≡ false)
  apart_from m k r i x v e f w =
      let c = M.channel T i in
      let b = in_limits 1 m.table.channel_count r.a w.there in
      let count : m.table.channel_count ≡ T.channel_count = ap (λ (x : Table). x.channel_count) e in
      let there : i < T.channel_count = omega (arith, w.place, b.0, b.1, count) in
      let is : M.channel m.table (number_of r.a - 1) ≡ c = ap₂ (λ (x : Table) (j : ℕ). M.channel x j) e (sym w.place) in
      let q : Ch.queuing c ≡ true = ap Ch.queuing (sym is) ∙ w.kind in
      let two = ends T S closed i there q in
      let d : S c.destination ≡ false = ⊎_elim (λ (h : Sends (Ch.port_of m k r) (number_of r.call) x v). sym two ∙ ap S (ap (λ (y : Channel). y.source) (sym is) ∙ h.source) ∙ f) (λ (h : Receives (Ch.port_of m k r) (number_of r.call) x v). ap S (ap (λ (y : Channel). y.destination) (sym is) ∙ h.destination) ∙ f) w.end in
      let o : S (suc (Ch.other_end k c - 1)) ≡ false = either (eqb c.source k) (λ t. rw t (ap S (destination_some c q) ∙ d)) (λ t. rw t (ap S (source_some c q) ∙ two ∙ d)) in
      (d, ap (λ (x : Table). S (suc (Ch.other_end k (M.channel x i) - 1))) e ∙ o)

  after_free : (m : Module) (e : Event) → Agree T S m m → common S e ≡ false → Agree T S (St.module_after m (number_of (request_of e).partition) (St.decision m (request_of e))) m
  after_free m e a c =
      let r = request_of e in
      let k = number_of r.partition in
      by_event m r (λ (d : Decision). Agree T S (St.module_after m k d) m)
      (λ n _. a)
      (λ q z _. not_both (common S e) (tick_common S m.table e q z) c)
      λ q.
      let z : eqb k 0 ≡ false = ne_eqb k 0 q.some in
      let f : S k ≡ false = own S e z ∙ c in
      let g : S (suc (k - 1)) ≡ false = ap S (one_less k z) ∙ f in
      let x = Ch.port_of m k r in
      let u = call_in_range m.table r q.formed z in
      let d = call_decision (St.context_of m k) x (number_of r.call) r (M.part m (k - 1)) in
      let body = (call_body x (number_of r.call) (St.context_of m k) r (M.part m (k - 1)) u.0 u.1).is in
      body_free m k r d a f g body
    where
      body_free : (m : Module) (k : ℕ) (r : Request) (d : Decision) → Agree T S m m → S k ≡ false → S (suc (k - 1)) ≡ false → Bodily (Ch.port_of m k r) (number_of r.call) d → Agree T S (St.module_after m k d) m
      body_free m k r (Refused n) a f g w = a
      body_free m k r (Unchanged v y) a f g w = a
      body_free m k r Ticked a f g w = absurd w
      body_free m k r (Blocked id y) a f g w = part_free T S m m (k - 1) _ a g
      body_free m k r (Changed b y v) a f g w = part_free T S m m (k - 1) _ a g
      body_free m k r (Restarted mode) a f g w = refill_free T S closed k channel_limit _ m (part_free T S _ m (k - 1) _ (erase_free T S k channel_limit m m a f) g) f
      body_free m k r (Written i y) a f g w = message_free T S m m i (Some y) a (unseen m k r i a.left f w)
      body_free m k r (Passed i y v) a f g w = let h = apart_from m k r i y v a.left f w in passed_free T S m m k i y a h.0 h.1

  -- ------------------------------------------------------------ the answer's last three numbers
  pub running_both : (m n : Module) → Agree T S m n → S (M.current m) ≡ true → M.running_in (M.current m) m ≡ M.running_in (M.current n) n
  running_both m n a s =
      by_tests (λ (x y : ℕ). x ≡ y) _ _ (ap (λ (k : ℕ). eqb k 0) (current_both m n a)) (λ q. refl)
      λ q. ap running (a.parts (M.current m - 1) (ap S (one_less (M.current m) q) ∙ s) ∙ ap (λ (k : ℕ). M.part n (k - 1)) (current_both m n a))

  -- where the running process is shown and not left out, the current partition is in S
  shown_in : (z : ℤ) (k : ℕ) → (is_zero z || member_of S z) ≡ true → (is_zero z && not (S k)) ≡ false → (is_number 0 (field z) || is_number k (field z)) ≡ true → S k ≡ true
  shown_in z k c l h = go (is_zero z) refl (is_number 0 (field z)) refl c l h
    where
      go : (a : Bool) → is_zero z ≡ a → (b : Bool) → is_number 0 (field z) ≡ b → (a || member_of S z) ≡ true → (a && not (S k)) ≡ false → (b || is_number k (field z)) ≡ true → S k ≡ true
      go true e b f c l h = not-false (S k) l
      go false e true f c l h = not_both (is_zero z) (zero_number z f) e
      go false e false f c l h = sym (number_member S k z h) ∙ c

  pub step_both : (m n : Module) (e : Event) → Agree T S m n → common S e ≡ true → Agree T S (next m e) (next n e) × (shown S (answered_event m e) ≡ shown S (answered_event n e))
  unfolding St.step
  step_both m n e a c =
      let r = request_of e in
      let o = number_of r.partition in
      let d = decision_both m n e a c in
      let x = St.module_after m o (St.decision m r) in
      let y = St.module_after n o (St.decision n r) in
      let b : Agree T S x y = subst (λ (v : Decision). Agree T S x (St.module_after n o v)) d (after_both m n o (St.decision m r) a (λ s. a.parts (o - 1) s)) in
      let k = current_both x y b in
      let run : cond (is_zero e.partition && not (S (M.current x))) 0 (cond (St.sees r (M.current x)) (M.running_in (M.current x) x) 0) ≡ cond (is_zero e.partition && not (S (M.current y))) 0 (cond (St.sees r (M.current y)) (M.running_in (M.current y) y) 0) =
      by_tests (λ (x y : ℕ). x ≡ y) _ _ (ap (λ (k : ℕ). is_zero e.partition && not (S k)) k) (λ q. refl) λ l.
      by_tests (λ (x y : ℕ). x ≡ y) _ _ (ap (λ (k : ℕ). St.sees r k) k)
      (λ h. running_both x y b (shown_in e.partition (M.current x) (weaker (is_zero e.partition) (is_zero e.call) (member_of S e.partition) c) l h))
      (λ h. refl) in (
        b,
        λ i. record {
          event = e;
          answer = record { code = (reply_of (d i)).code; value = (reply_of (d i)).value; extra = (reply_of (d i)).extra; t = b.time i; current = k i; running = run i };
        },
      )

  pub step_free : (m : Module) (e : Event) → Agree T S m m → common S e ≡ false → Agree T S (next m e) m
  unfolding St.step
  step_free m e a c = after_free m e a c

  pub unwinding : Unwinding next answered_event (common S) (λ (r : EventRecord). common S r.event) (shown S) (Agree T S)
  unwinding = record { back = agree_back T S; along = agree_along T S; tagged = λ m e. refl; free = step_free; both = step_both }

  pub agree_equal : (m n : Module) → Within T S → Agree T S m n → EqualIn T S m n
  agree_equal m n w a = record {
    time = a.time;
    owner = current_both m n a;
    records = λ k s. let l = (w k s).0 in a.parts (k - 1) (ap S (let h : suc (k - 1) ≡ k = omega arith in h) ∙ s);
    messages = λ i l s. a.inbound i s;
    queues = λ i l q s. a.queues i s;
    senders = λ i l q s. waits_both i (λ (p : Partition). map (λ id. (id, carried (process id p))) (waiters (object (Source (i + 1) 0)) p)) (λ (c : Channel). c.source) (ap S (source_some (M.channel T i) q) ∙ source_in T S closed i l s);
    receivers = λ i l q s. waits_both i (λ (p : Partition). waiters (object (Destination (i + 1))) p) (λ (c : Channel). c.destination) (ap S (destination_some (M.channel T i) q) ∙ s);
    process = running_both m n a;
  }
    where
      -- what is read off the partition at one end of a channel
      waits_both : {A : Type 0} (i : ℕ) (f : Partition → A) (end : Channel → ℕ) → S (suc (end (M.channel T i) - 1)) ≡ true
          → f (M.part m (end (M.channel m.table i) - 1)) ≡ f (M.part n (end (M.channel n.table i) - 1))
      waits_both i f end s =
          ap f (a.parts (end (M.channel m.table i) - 1) (ap (λ (x : Table). S (suc (end (M.channel x i) - 1))) a.left ∙ s))
          ∙ ap (λ (x : Table). f (M.part n (end (M.channel x i) - 1))) (tables m n a)

-- Demand 3, for every record that both runs start from
pub left_right : (m : Module) → LeftRight m
left_right m S within closed left right q =
    let r = two_runs next answered_event (common S) (λ (r : EventRecord). common S r.event) (shown S) (Agree m.table S) (unwinding m.table S closed) m (agree_same m.table S m refl) left right q in
    (r.1, agree_equal m.table S closed _ _ within r.0)
