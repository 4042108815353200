-- Nobody waits for what is there: on every reached record, for every kind of object at once. Assumes nothing.
use Rattle.machine.specs.Mode.{mode_number}
use Prim.Native.Nat.{ℕ, ◌+◌, ◌-◌, ◌<◌}
use mathlib.Core.Path.{◌≡◌, refl, ap, sym, ◌∙◌}
use mathlib.Core.Bool.{true}
use mathlib.Core.Logic.{inl, ⊎_elim}
use native.Mathlib.Omega.{arith}
use lib.ListN.{get_or, set, take, get_or-replicate}
use lib.Dec.{eqb}
use borrow.Author.Tests.{eqb-true, eqb-false}
use Rattle.machine.specs.declared.Process.{Process}
use Rattle.machine.specs.declared.Partition.{Partition}
use Rattle.machine.specs.declared.Context.{Context}
use Rattle.machine.specs.declared.Port.{Port}
use Rattle.machine.specs.declared.Change.{Change}
use Rattle.machine.specs.declared.Decision.{Decision}
use Rattle.machine.specs.declared.Decision.TheVariants.{Refused, Unchanged, Ticked, Blocked, Changed, Restarted, Written, Passed as PassedOn}
use Rattle.machine.specs.declared.Wait.TheVariants.{Source}
use Rattle.machine.specs.declared.Request.{Request}
use Rattle.machine.specs.declared.Module.{Module}
use Rattle.machine.specs.Limits.{partition_limit, channel_limit}
use Rattle.machine.specs.Messages.{ends_wait}
use Rattle.machine.specs.Process.{object, served, ticked}
use Rattle.machine.specs.Partition.{normal_mode, ended_by, stored, waiters, changed_all, tick_partition, applied, nothing_created, fresh_partition}
use Rattle.machine.specs.Fields.{number_of, request_of}
use Rattle.machine.specs.Channels.{other_end, port_of, erased_to}
use Rattle.machine.specs.Ids.{kept}
use Rattle.machine.specs.declared.Table.{Table}
use Rattle.machine.specs.Table.{read_table}
use Rattle.machine.specs.Module.{no_partition, empty_table, empty_module, fresh_module, channel, part, with_part}
use Rattle.machine.specs.Step.{context_of, decision, module_after, step}
use Rattle.machine.specs.Theorems.Valid.{ListedIn, Valid, SoundContext, SoundDecision, SoundModule, Reached}
use Rattle.machine.specs.Theorems.Queues.{available, queue_number, NoneWaits, SameObjects}
use Rattle.machine.proofs.Tests.{by_test}
use Rattle.machine.proofs.Either.{either}
use Rattle.machine.proofs.Keeping.{stored_rest, changed_rest, each_rest}
use Rattle.machine.proofs.Dispatch.{Calls, by_event}
use Rattle.machine.proofs.Bodies.{Bodily}
use Rattle.machine.proofs.Kept.{Caller, firsts_created, nothing_valid, change_valid, normal_caller}
use Rattle.machine.proofs.Reached.{at_set, tick_each, place, context_sound, made, made_sound, made_body, valid_sound, reached_valid, part_sound, erased_sound, refilled_keeps, on_queue_holds, transfer_sound}
use Rattle.machine.proofs.Answers.{decided_table}
use Rattle.machine.proofs.Tables.{table_read}
use Rattle.machine.proofs.Orders.{rest_objects, same_objects, Part, part_trans, all_part, tick_part, ended_part, change_part, joins_last, Orderly}
use Rattle.machine.proofs.EveryCall.{call_order, call_fair}
use Rattle.machine.proofs.Fairness.{available_same, ended_objects, available_low, part_none, Fair}

-- ---------------------------------------------------------------- a partition after a decision

number_some : (kind k : ℕ) (p : Partition) → available kind k p ≡ true → queue_number kind k ≡ 0 → ⊥
number_some kind k p t z = omega (arith, (available_low kind k p t).0)

pub tick_objects : (t : ℕ) (p : Partition) → ListedIn p → SameObjects p (tick_partition t p)
unfolding tick_partition
tick_objects t p v = by_test (SameObjects p) (normal_mode p) (λ _. rest_objects p _ (each_rest (ticked t) p v)) (λ _. same_objects p)

tick_none : (frame t : ℕ) (p : Partition) → Valid frame t p → NoneWaits p → NoneWaits (tick_partition (t + 1) p)
tick_none frame t p v h kind k e =
    part_none _ _ (h kind k (sym (available_same p _ (tick_objects (t + 1) p v.lists) kind k) ∙ e))
    (tick_part (queue_number kind k) (number_some kind k (tick_partition (t + 1) p) e) (t + 1) p v.lists)

-- no object changes, and each queue is a part of what it was
kept_none : (p q : Partition) → SameObjects p q → ((o : ℕ) → (o ≡ 0 → ⊥) → Part (waiters o p) (waiters o q)) → NoneWaits p → NoneWaits q
kept_none p q same parts h kind k t = part_none _ _ (h kind k (sym (available_same p q same kind k) ∙ t)) (parts (queue_number kind k) (number_some kind k q t))

let_in_none : (i n frame t : ℕ) (p : Partition) → Valid frame t p → NoneWaits p → NoneWaits (changed_all served (take n (waiters (object (Source (i + 1) 0)) p)) p)
let_in_none i n frame t p v h =
    let u = object (Source (i + 1) 0) in
    let l = take n (waiters u p) in
    kept_none p _ (rest_objects p _ (changed_rest served l p)) (λ o some. all_part o some served (λ x. inl refl) l p v.lists (firsts_created frame t p v u n)) h

module _ (c : Context) (p : Partition) (v : Valid c.frame c.time p) (s : SoundContext c p) (none : NoneWaits p) (x : Port) (n : ℕ) where
  changed_none : (a b : Change) (value : ℕ) → SoundDecision c p (Changed a b value) → Orderly c p (Changed a b value) → Fair x n p (Changed a b value) → NoneWaits (applied b (applied a p))
  changed_none a b value h g f kind k t =
      let o = queue_number kind k in
      let some = number_some kind k (applied b (applied a p)) t in
      let w = change_valid c s p v a h.0 in
      ⊎_elim
      (λ e. part_none _ _ (none kind k e) (part_trans (change_part o some c p v a h.0 g.0) (change_part o some c (applied a p) w b h.1 g.1)))
      (λ e. e)
      (f kind k t)

  blocked_none : (id : ℕ) (y : Process) → SoundDecision c p (Blocked id y) → Orderly c p (Blocked id y) → Fair x n p (Blocked id y) → NoneWaits (stored id y p)
  blocked_none id y h g f kind k t =
      let o = queue_number kind k in
      let e = sym (available_same p _ (rest_objects p _ (stored_rest p id y)) kind k) ∙ t in
      let q : Caller id p = rw g.0 (normal_caller c p v s g.1) in
      joins_last o (number_some kind k (stored id y p) t) p v.lists id h.0 y q.is_ready ∙ rw (none kind k e, f.0 kind k e)

nothing_none : (mode : ℕ) → NoneWaits (nothing_created mode)
unfolding waiters kept
nothing_none mode kind k t = refl

-- ---------------------------------------------------------------- every reached record
module _ (m : Module) (s : SoundModule m) (none : (i : ℕ) → i < m.table.size → NoneWaits (part m i)) where
  module _ (r : Request) (q : Calls m r) where
    abbrev k : ℕ
    k = number_of r.partition

    abbrev now : Partition
    now = part m (k - 1)

    here : k - 1 < m.table.size
    here = place m s r q

    puts : (j : ℕ) → j < m.table.size → (p : Partition) → NoneWaits p → (i : ℕ) → i < m.table.size → NoneWaits (get_or (set m.partitions j p) i no_partition)
    puts j in_place p h i l = at_set (λ _ p. NoneWaits p) m.partitions j p no_partition (omega (arith, in_place, s.partitions_size, s.table.size.1)) i h (λ _. none i l)

    decided_none : (d : Decision) → SoundDecision (context_of m k) now d → Bodily (port_of m k r) (number_of r.call) d → Orderly (context_of m k) now d → Fair (port_of m k r) (number_of r.call) now d → (i : ℕ) → i < m.table.size → NoneWaits (part (module_after m k d) i)
    decided_none (Refused n) h b g f = none
    decided_none (Unchanged n e) h b g f = none
    decided_none Ticked h b g f = absurd b
    decided_none (Blocked id x) h b g f = puts (k - 1) here (stored id x now) (blocked_none (context_of m k) now (s.each_partition (k - 1) here) (context_sound m s r q) (none (k - 1) here) (port_of m k r) (number_of r.call) id x h g f)
    decided_none (Changed x y n) h b g f = puts (k - 1) here (applied y (applied x now)) (changed_none (context_of m k) now (s.each_partition (k - 1) here) (context_sound m s r q) (none (k - 1) here) (port_of m k r) (number_of r.call) x y n h g f)
    decided_none (Restarted mode) h b g f =
        let u = erased_to k channel_limit m in
        let p = nothing_created (mode_number mode) in
        refilled_keeps (λ _ x. NoneWaits x) k (with_part (k - 1) p u) (part_sound u (erased_sound k channel_limit m (omega arith) s) (k - 1) here p (nothing_valid m.table.frame m.t (mode_number mode) h)) channel_limit (λ i _ _. let_in_none i) (puts (k - 1) here p (nothing_none (mode_number mode)))
    decided_none (Written j x) h b g f = none
    decided_none (PassedOn j a n) h b g f =
        let t = transfer_sound m s r q j a n b in
        let w = on_queue_holds m s r q j a n b in
        let e = other_end k (channel m.table j) - 1 in
        let v = s.each_partition e w.inside in
        by_test (λ (x : Module). (i : ℕ) → i < m.table.size → NoneWaits (part x i)) (ends_wait a)
        (λ _. puts e w.inside (ended_by a (part m e)) (kept_none (part m e) _ (ended_objects a (part m e)) (λ o some. ended_part o some (part m e) v.lists a t.2) (none e w.inside)))
        (λ _. none)

  pub event_none : (r : Request) (i : ℕ) → i < m.table.size → NoneWaits (part (module_after m (number_of r.partition) (decision m r)) i)
  event_none r =
      by_event m r (λ (d : Decision). (i : ℕ) → i < m.table.size → NoneWaits (part (module_after m (number_of r.partition) d) i))
      (λ _ _. none)
      (λ _ _ _ i l. rw (tick_each m s i l) (tick_none m.table.frame m.t (part m i) (s.each_partition i l) (none i l)))
      (λ q.
      let n = number_of r.partition in
      let here = place m s r q in
      decided_none r q (made m s r q) (made_sound m s r q) (made_body m s r q)
      (call_order (context_of m n) (part m (n - 1)) (port_of m n r) (number_of r.call) r).is
      (call_fair (context_of m n) (part m (n - 1)) (s.each_partition (n - 1) here) (context_sound m s r q) (port_of m n r) (number_of r.call) r).is)

fresh_none : NoneWaits fresh_partition
unfolding fresh_partition waiters kept
fresh_none kind k t = refl

fresh_part_none : (T : Table) (i : ℕ) → i < partition_limit → NoneWaits (part (fresh_module T) i)
unfolding fresh_module
fresh_part_none T i h = rw (get_or-replicate partition_limit i fresh_partition no_partition h) fresh_none

-- Law. Nobody waits for what is there.
pub none_waits : (m : Module) → Reached m → (i : ℕ) → i < m.table.size → NoneWaits (part m i)
unfolding step empty_module empty_table
none_waits m (Reached.read input) i l =
    let t = table_read input in
    either (eqb (read_table input).code 0)
    (λ e. let a = t.accepted (eqb-true _ 0 e) in rw a.1 (fresh_part_none (read_table input).state.table i (omega (arith, a.0.size.1))))
    (λ e. absurd (omega (arith, ap (λ (q : Module). q.table.size) (t.refused (eqb-false _ 0 e)))))
none_waits _ (Reached.stepped m e h) i l =
    let r = request_of e in
    let inside : i < m.table.size = rw (decided_table m (number_of r.partition) (decision m r)) at l in
    event_none m (valid_sound m (reached_valid m h) i inside) (λ j l. none_waits m h j l) r i inside
