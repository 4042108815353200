-- What a restart makes of the module: the messages on channels into the partition go, and each queue into it holds the messages of the first who
-- waited to send, who wait no longer. Assumes nothing.
use Prim.Native.Nat.{ℕ, zero, suc, ◌+◌, ◌-◌, ◌≤◌, ◌<◌}
use mathlib.Core.Path.{◌≡◌, refl, ap, ap₂, sym, ◌∙◌}
use mathlib.Core.Bool.{Bool, true, false, ◌&&◌, or-true}
use mathlib.Core.List.{List, [], ◌∷◌, map}
use mathlib.Core.Logic.{inl, ⊎_elim}
use native.Mathlib.Omega.{arith}
use lib.ListN.{length, take, drop, length-set}
use lib.Seq.{get_or-set_same, get_or-set_other}
use lib.Dec.{eqb}
use borrow.Author.Tests.{eq-eqb, ne_eqb, lt-ltb}
use Rattle.machine.specs.declared.Process.{Process}
use Rattle.machine.specs.declared.Partition.{Partition}
use Rattle.machine.specs.declared.Channel.{Channel}
use Rattle.machine.specs.declared.Table.{Table}
use Rattle.machine.specs.declared.Module.{Module}
use Rattle.machine.specs.declared.Wait.TheVariants.{Source}
use Rattle.machine.specs.Ids.{kept}
use Rattle.machine.specs.Messages.{no_queue, queue_of}
use Rattle.machine.specs.Process.{object, carried, served}
use Rattle.machine.specs.Partition.{process, waits_on, waiters, changed_all}
use Rattle.machine.specs.Module.{no_partition, channel, part, queue}
use Rattle.machine.specs.Channels.{queuing_at, leads_into, admitted, refilled_to}
use Rattle.machine.specs.Theorems.Valid.{contains, Distinct, Valid, SoundModule}
use Rattle.machine.proofs.Tests.{by_test, not_both}
use Rattle.machine.proofs.Bounds.{same_or_not}
use Rattle.machine.proofs.Either.{either}
use Rattle.machine.proofs.Tracking.{kept_all}
use Rattle.machine.proofs.Keeping.{changed_process}
use Rattle.machine.proofs.Kept.{waiters_distinct, take_in, firsts_created, firsts_distinct, let_in_valid}
use Rattle.machine.proofs.Reached.{at_set, Fills, fills, refilled_table, refilled_sound, refilled_keeps}
use Rattle.machine.proofs.Orders.{part_waits, queue_of_holds, all_part}
use Rattle.machine.proofs.Calmness.{on_queue_holds}

-- ---------------------------------------------------------------- the first n of a list
-- what fails on the first n and holds of the others keeps the others
kept_drop : (f : ℕ → Bool) (n : ℕ) (l : List ℕ) → ((x : ℕ) → contains x (take n l) ≡ true → f x ≡ false) → ((x : ℕ) → contains x (drop n l) ≡ true → f x ≡ true) → kept f l ≡ drop n l
unfolding contains kept
kept_drop f zero l off on = kept_all f l on
kept_drop f (suc n) [] off on = refl
kept_drop f (suc n) (x ∷ l) off on = rw (off x (rw (eq-eqb x x refl))) (kept_drop f n l (λ y c. off y (rw c (or-true (eqb x y)))) on)

drop_in : (n : ℕ) (l : List ℕ) (id : ℕ) → contains id (drop n l) ≡ true → contains id l ≡ true
unfolding contains
drop_in zero l id h = h
drop_in (suc n) [] id h = h
drop_in (suc n) (x ∷ l) id h = rw (drop_in n l id h) (or-true (eqb x id))

-- in a list of which each occurs once, one past the first n is none of these
pub apart_in : (n : ℕ) (l : List ℕ) → Distinct l → (id : ℕ) → contains id (drop n l) ≡ true → contains id (take n l) ≡ false
unfolding contains Distinct
apart_in zero l d id h = refl
apart_in (suc n) [] d id h = refl
apart_in (suc n) (x ∷ l) d id h = rw (ne_eqb x id (λ e. not_both _ (rw (← e) at (drop_in n l id h)) d.0)) (apart_in n l d.1 id h)

map_in : (f g : ℕ → ℕ) (l : List ℕ) → ((x : ℕ) → contains x l ≡ true → f x ≡ g x) → map f l ≡ map g l
unfolding contains
map_in f g [] h = refl
map_in f g (x ∷ l) h = ap₂ (λ (a : ℕ) (k : List ℕ). a ∷ k) (h x (rw (eq-eqb x x refl))) (map_in f g l (λ y c. h y (rw c (or-true (eqb x y)))))

-- ---------------------------------------------------------------- the first n who wait on an object let in
module _ (frame t : ℕ) (p : Partition) (v : Valid frame t p) (u n : ℕ) where
  abbrev ids : List ℕ
  ids = take n (waiters u p)

  abbrev after : Partition
  after = changed_all served ids p

  -- who is none of them is as it was
  pub let_in_process : (y : ℕ) → contains y ids ≡ false → process y after ≡ process y p
  let_in_process y c = changed_process served ids p v.lists (firsts_created frame t p v u n) (firsts_distinct frame t p v u n) y ∙ rw c

  waits_after : (o : ℕ) → (o ≡ 0 → ⊥) → waiters o after ≡ kept (waits_on o after) (waiters o p)
  waits_after o some = part_waits o after (queue_of_holds after (let_in_valid frame t p v u n).lists o some) (waiters o p) (all_part o some served (λ x. inl refl) ids p v.lists (firsts_created frame t p v u n))

  -- the others go on waiting
  pub let_in_queue_own : (u ≡ 0 → ⊥) → waiters u after ≡ drop n (waiters u p)
  let_in_queue_own some = waits_after u some ∙ kept_drop (waits_on u after) n (waiters u p)
      (λ y c. rw (changed_process served ids p v.lists (firsts_created frame t p v u n) (firsts_distinct frame t p v u n) y, c) (ne_eqb 0 u (λ e. some (sym e))))
      (λ y c. rw (let_in_process y (apart_in n (waiters u p) (waiters_distinct p v.lists u) y c)) (eq-eqb _ u (on_queue_holds p u y (drop_in n (waiters u p) y c))))

  -- and so do those on another object
  off_ids : (o : ℕ) → (u ≡ o → ⊥) → (y : ℕ) → contains y (waiters o p) ≡ true → contains y ids ≡ false
  off_ids o ne y c = either (contains y ids)
      (λ e. absurd (ne (sym (on_queue_holds p u y (take_in n (waiters u p) y e)) ∙ on_queue_holds p o y c)))
      (λ e. e)

  pub let_in_queue_other : (o : ℕ) → (o ≡ 0 → ⊥) → (u ≡ o → ⊥) → waiters o after ≡ waiters o p
  let_in_queue_other o some ne = waits_after o some ∙ kept_all (waits_on o after) (waiters o p) (λ y c. rw (let_in_process y (off_ids o ne y c)) (eq-eqb _ o (on_queue_holds p o y c)))

  pub let_in_process_other : (o : ℕ) → (u ≡ o → ⊥) → (y : ℕ) → contains y (waiters o p) ≡ true → process y after ≡ process y p
  let_in_process_other o ne y c = let_in_process y (off_ids o ne y c)

-- ---------------------------------------------------------------- queues filled anew
-- whether channel number i + 1 is one of those
abbrev filled : ℕ → Table → ℕ → Bool
filled k T i = queuing_at T i && leads_into k (channel T i)

pub refilled_messages : (k n : ℕ) (m : Module) → (refilled_to k n m).messages ≡ m.messages
unfolding refilled_to
refilled_messages k zero m = refl
refilled_messages k (suc n) m = by_test (λ (x : Module). x.messages ≡ m.messages) (filled k (refilled_to k n m).table n) (λ _. refilled_messages k n m) (λ _. refilled_messages k n m)

pub refilled_time : (k n : ℕ) (m : Module) → (refilled_to k n m).t ≡ m.t
unfolding refilled_to
refilled_time k zero m = refl
refilled_time k (suc n) m = by_test (λ (x : Module). x.t ≡ m.t) (filled k (refilled_to k n m).table n) (λ _. refilled_time k n m) (λ _. refilled_time k n m)

-- nothing is lost of the places
pub record Sizes (m q : Module) : Type 0 where
  pub partitions : length q.partitions ≡ length m.partitions
  pub messages : length q.messages ≡ length m.messages
  pub queues : length q.queues ≡ length m.queues

pub refilled_sizes : (k n : ℕ) (m : Module) → Sizes m (refilled_to k n m)
unfolding refilled_to
refilled_sizes k zero m = record { partitions = refl; messages = refl; queues = refl }
refilled_sizes k (suc n) m =
    let u = refilled_to k n m in
    let h = refilled_sizes k n m in
    by_test (Sizes m) (filled k u.table n)
    (λ _. record { partitions = length-set u.partitions ((channel u.table n).source - 1) _ ∙ h.partitions; messages = h.messages; queues = length-set u.queues n _ ∙ h.queues })
    (λ _. h)

-- another queue stays
pub refilled_queue_other : (k n : ℕ) (m : Module) (i : ℕ) → filled k m.table i ≡ false → queue (refilled_to k n m) i ≡ queue m i
unfolding refilled_to
refilled_queue_other k zero m i f = refl
refilled_queue_other k (suc n) m i f =
    let u = refilled_to k n m in
    let T = refilled_table k n m in
    let ih = refilled_queue_other k n m i f in
    by_test (λ (x : Module). queue x i ≡ queue m i) (filled k u.table n)
    (λ t. get_or-set_other u.queues n i _ no_queue (λ e. not_both _ (ap (λ (U : Table). filled k U n) (sym T) ∙ t) (rw (← e) f)) ∙ ih)
    (λ _. ih)

-- a queue that has not come yet stays
refilled_queue_later : (k n : ℕ) (m : Module) (i : ℕ) → n ≤ i → queue (refilled_to k n m) i ≡ queue m i
unfolding refilled_to
refilled_queue_later k zero m i h = refl
refilled_queue_later k (suc n) m i h =
    let u = refilled_to k n m in
    let ih = refilled_queue_later k n m i (omega arith) in
    by_test (λ (x : Module). queue x i ≡ queue m i) (filled k u.table n)
    (λ _. get_or-set_other u.queues n i _ no_queue (λ e. omega arith) ∙ ih)
    (λ _. ih)

module _ (k : ℕ) (m : Module) (s : SoundModule m) where
  -- a partition from which no such channel comes stays
  pub refilled_part_other : (n j : ℕ) → j < m.table.size → ((i : ℕ) → Fills m k i → (channel m.table i).source - 1 ≡ j → ⊥) → part (refilled_to k n m) j ≡ part m j
  refilled_part_other n j l off = refilled_keeps (λ i p. i ≡ j → p ≡ part m j) k m s n (λ i _ f _ _ _ p v h is. absurd (off i f is)) (λ i _ is. ap (part m) is) j l refl

  module _ (i : ℕ) (f : Fills m k i) where
    abbrev c : Channel
    c = channel m.table i

    abbrev from : ℕ
    from = c.source - 1

    abbrev senders : ℕ
    senders = object (Source (i + 1) 0)

    inside : from < m.table.size
    inside = let b = (s.table.each_channel i f.there).source in omega (arith, b.0, b.1)

    -- until its turn comes, its senders go on waiting
    record Unserved (p : Partition) : Type 0 where
      waits : waiters senders p ≡ waiters senders (part m from)
      each : (y : ℕ) → contains y (waiters senders (part m from)) ≡ true → process y p ≡ process y (part m from)

    unserved : (n : ℕ) → n ≤ i → Unserved (part (refilled_to k n m) from)
    unserved n h = refilled_keeps (λ j p. j ≡ from → Unserved p) k m s n
        (λ o l g size frame t p v u is.
        let w = u is in
        let ne : object (Source (o + 1) 0) ≡ senders → ⊥ = λ e. omega arith in
        let q = changed_all served (take size (waiters (object (Source (o + 1) 0)) p)) p in
        record {
          waits = let_in_queue_other frame t p v (object (Source (o + 1) 0)) size senders (λ e. omega arith) ne ∙ w.waits;
          each = λ y e. let_in_process_other frame t p v (object (Source (o + 1) 0)) size senders ne y (rw w.waits e) ∙ w.each y e;
        })
        (λ j l is. rw is (record { waits = refl; each = λ _ _. refl }))
        from inside refl

    -- the messages of the first who wait to send
    abbrev pub let_in : List ℕ
    let_in = map (λ id. carried (process id (part m from))) (admitted i c (part m from))

    let_in_same : (p : Partition) → Unserved p → map (λ id. carried (process id p)) (admitted i c p) ≡ let_in
    let_in_same p w =
        ap (λ (l : List ℕ). map (λ id. carried (process id p)) (take c.size l)) w.waits
        ∙ map_in (λ id. carried (process id p)) (λ id. carried (process id (part m from))) (admitted i c (part m from)) (λ y e. ap carried (w.each y (take_in c.size (waiters senders (part m from)) y e)))

    -- the queue at its turn, and from then on
    turn : queue (refilled_to k (suc i) m) i ≡ queue_of let_in
    unfolding refilled_to
    turn =
        let u = refilled_to k i m in
        let e = refilled_sound k i m s in
        let T = refilled_table k i m in
        let on : filled k u.table i ≡ true = ap (λ (U : Table). filled k U i) T ∙ rw (lt-ltb i m.table.channel_count f.there, f.kind, eq-eqb c.destination k f.into) in
        let to : channel u.table i ≡ c = ap (λ (U : Table). channel U i) T in
        by_test (λ (x : Module). queue x i ≡ queue_of let_in) (filled k u.table i)
        (λ _. get_or-set_same u.queues i _ no_queue (omega (arith, f.few, e.queues_size)) ∙ ap (λ (x : Channel). queue_of (map (λ id. carried (process id (part u (x.source - 1)))) (admitted i x (part u (x.source - 1))))) to ∙ ap queue_of (let_in_same (part u from) (unserved i (omega arith))))
        (λ o. not_both _ on o)

    pub refilled_queue : (n : ℕ) → i < n → queue (refilled_to k n m) i ≡ queue_of let_in
    unfolding refilled_to
    refilled_queue zero h = absurd (omega arith)
    refilled_queue (suc n) h = ⊎_elim
        (λ (is : i ≡ n). ap (λ j. queue (refilled_to k (suc j) m) i) (sym is) ∙ turn)
        (λ (ne : i ≡ n → ⊥). by_test (λ (x : Module). queue x i ≡ queue_of let_in) (filled k (refilled_to k n m).table n)
        (λ _. get_or-set_other (refilled_to k n m).queues n i _ no_queue ne ∙ refilled_queue n (omega arith))
        (λ _. refilled_queue n (omega arith)))
        (same_or_not i n)

    -- its senders then: those past the first go on waiting
    turn_senders : waiters senders (part (refilled_to k (suc i) m) from) ≡ drop c.size (waiters senders (part m from))
    unfolding refilled_to
    turn_senders =
        let u = refilled_to k i m in
        let e = refilled_sound k i m s in
        let T = refilled_table k i m in
        let on : filled k u.table i ≡ true = ap (λ (U : Table). filled k U i) T ∙ rw (lt-ltb i m.table.channel_count f.there, f.kind, eq-eqb c.destination k f.into) in
        let to : channel u.table i ≡ c = ap (λ (U : Table). channel U i) T in
        let size : u.table.size ≡ m.table.size = ap (λ (U : Table). U.size) T in
        let p = part u from in
        let q = changed_all served (admitted i c p) p in
        by_test (λ (x : Module). waiters senders (part x from) ≡ drop c.size (waiters senders (part m from))) (filled k u.table i)
        (λ _. rw to (ap (waiters senders) (get_or-set_same u.partitions from q no_partition (omega (arith, inside, e.partitions_size, s.table.size.1)))
        ∙ let_in_queue_own u.table.frame u.t p (e.each_partition from (omega (arith, inside))) senders c.size (λ z. omega arith)
        ∙ ap (drop c.size) (unserved i (omega arith)).waits))
        (λ o. not_both _ on o)

    pub refilled_senders : (n : ℕ) → i < n → waiters senders (part (refilled_to k n m) from) ≡ drop c.size (waiters senders (part m from))
    unfolding refilled_to
    refilled_senders zero h = absurd (omega arith)
    refilled_senders (suc n) h = ⊎_elim
        (λ (is : i ≡ n). ap (λ j. waiters senders (part (refilled_to k (suc j) m) from)) (sym is) ∙ turn_senders)
        (λ (ne : i ≡ n → ⊥).
        let u = refilled_to k n m in
        let e = refilled_sound k n m s in
        let T = refilled_table k n m in
        let size : u.table.size ≡ m.table.size = ap (λ (U : Table). U.size) T in
        let ih = refilled_senders n (omega (arith, ne)) in
        let x = channel u.table n in
        let j = x.source - 1 in
        let p = part u j in
        let o = object (Source (n + 1) 0) in
        let q = changed_all served (admitted n x p) p in
        by_test (λ (y : Module). waiters senders (part y from) ≡ drop c.size (waiters senders (part m from))) (filled k u.table n)
        (λ t.
        let b = (e.table.each_channel n (fills u e k n u.table refl t).there).source in
        let here : j < u.table.size = omega (arith, b.0, b.1) in
        at_set (λ y z. y ≡ from → waiters senders z ≡ drop c.size (waiters senders (part m from))) u.partitions j q no_partition (omega (arith, here, e.partitions_size, e.table.size.1)) from
        (λ is. let_in_queue_other u.table.frame u.t p (e.each_partition j here) o x.size senders (λ z. omega arith) (λ z. ne (omega arith)) ∙ ap (λ y. waiters senders (part u y)) is ∙ ih)
        (λ _ _. ih) refl)
        (λ _. ih))
        (same_or_not i n)

    -- each of the first is served, and no later channel reaches it
    abbrev let_in_holds : ℕ → Type 0
    let_in_holds y = contains y (take c.size (waiters senders (part m from))) ≡ true

    turn_served : (y : ℕ) → let_in_holds y → process y (part (refilled_to k (suc i) m) from) ≡ served (process y (part m from))
    unfolding refilled_to
    turn_served y is =
        let u = refilled_to k i m in
        let e = refilled_sound k i m s in
        let T = refilled_table k i m in
        let on : filled k u.table i ≡ true = ap (λ (U : Table). filled k U i) T ∙ rw (lt-ltb i m.table.channel_count f.there, f.kind, eq-eqb c.destination k f.into) in
        let to : channel u.table i ≡ c = ap (λ (U : Table). channel U i) T in
        let size : u.table.size ≡ m.table.size = ap (λ (U : Table). U.size) T in
        let p = part u from in
        let v = e.each_partition from (omega (arith, inside)) in
        let w = unserved i (omega arith) in
        let q = changed_all served (admitted i c p) p in
        by_test (λ (x : Module). process y (part x from) ≡ served (process y (part m from))) (filled k u.table i)
        (λ _. rw to (ap (process y) (get_or-set_same u.partitions from q no_partition (omega (arith, inside, e.partitions_size, s.table.size.1)))
        ∙ changed_process served (admitted i c p) p v.lists (firsts_created u.table.frame u.t p v senders c.size) (firsts_distinct u.table.frame u.t p v senders c.size) y
        ∙ rw (w.waits, is, w.each y (take_in c.size (waiters senders (part m from)) y is))))
        (λ o. not_both _ on o)

    pub refilled_served : (n : ℕ) → i < n → (y : ℕ) → let_in_holds y → process y (part (refilled_to k n m) from) ≡ served (process y (part m from))
    unfolding refilled_to
    refilled_served zero h y in-first = absurd (omega arith)
    refilled_served (suc n) h y in-first = ⊎_elim
        (λ (is : i ≡ n). ap (λ j. process y (part (refilled_to k (suc j) m) from)) (sym is) ∙ turn_served y in-first)
        (λ (ne : i ≡ n → ⊥).
        let u = refilled_to k n m in
        let e = refilled_sound k n m s in
        let T = refilled_table k n m in
        let size : u.table.size ≡ m.table.size = ap (λ (U : Table). U.size) T in
        let ih = refilled_served n (omega (arith, ne)) y in-first in
        let x = channel u.table n in
        let j = x.source - 1 in
        let p = part u j in
        let o = object (Source (n + 1) 0) in
        let q = changed_all served (admitted n x p) p in
        by_test (λ (z : Module). process y (part z from) ≡ served (process y (part m from))) (filled k u.table n)
        (λ t.
        let b = (e.table.each_channel n (fills u e k n u.table refl t).there).source in
        let here : j < u.table.size = omega (arith, b.0, b.1) in
        at_set (λ z r. z ≡ from → process y r ≡ served (process y (part m from))) u.partitions j q no_partition (omega (arith, here, e.partitions_size, e.table.size.1)) from
        (λ is.
        let was : process y p ≡ served (process y (part m from)) = ap (λ z. process y (part u z)) is ∙ ih in
        let off : contains y (take x.size (waiters o p)) ≡ false = either (contains y (take x.size (waiters o p)))
        (λ d. absurd (let z = on_queue_holds p o y (take_in x.size (waiters o p) y d) in let none : object (process y p).wait ≡ 0 = ap (λ (a : Process). object a.wait) was in omega arith))
        (λ d. d) in
        let_in_process u.table.frame u.t p (e.each_partition j here) o x.size y off ∙ was)
        (λ _ _. ih) refl)
        (λ _. ih))
        (same_or_not i n)

    -- who waits to send then keeps its wait
    pub refilled_waits : (n y : ℕ) → object (process y (part (refilled_to k n m) from)).wait ≡ senders → (process y (part (refilled_to k n m) from)).wait ≡ (process y (part m from)).wait
    refilled_waits n y = refilled_keeps (λ j p. j ≡ from → object (process y p).wait ≡ senders → (process y p).wait ≡ (process y (part m from)).wait) k m s n
        (λ o _ _ size frame t p v h is on.
        let u = object (Source (o + 1) 0) in
        let l = take size (waiters u p) in
        let eq = changed_process served l p v.lists (firsts_created frame t p v u size) (firsts_distinct frame t p v u size) y in
        either (contains y l)
        (λ c. absurd (let w : process y (changed_all served l p) ≡ served (process y p) = eq ∙ rw c in let z : object (process y (changed_all served l p)).wait ≡ 0 = ap (λ (x : Process). object x.wait) w in omega arith))
        (λ c. let z : process y (changed_all served l p) ≡ process y p = eq ∙ rw c in ap (λ (x : Process). x.wait) z ∙ h is (rw z at on)))
        (λ j l is on. ap (λ d. (process y (part m d)).wait) is)
        from inside refl
