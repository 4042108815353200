-- A law of the record of each partition after an event, from that law of each way in which an event reaches it; and an event that comes to the body of
-- its call, told from its answer. Assumes nothing.
use Rattle.machine.specs.Mode.{mode_number}
use Prim.Native.Nat.{ℕ, ◌+◌, ◌-◌, ◌≤◌, ◌<◌}
use mathlib.Core.Path.{◌≡◌, refl}
use mathlib.Core.Bool.{true}
use native.Mathlib.Omega.{arith}
use lib.ListN.{take}
use lib.Dec.{eqb}
use borrow.Author.Tests.{ne_eqb}
use Rattle.machine.specs.declared.Event.{Event as EventT}
use Rattle.machine.specs.declared.Partition.{Partition}
use Rattle.machine.specs.declared.Module.{Module}
use Rattle.machine.specs.declared.Transfer.{Transfer}
use Rattle.machine.specs.declared.Decision.{Decision}
use Rattle.machine.specs.declared.Decision.TheVariants.{Refused, Unchanged, Ticked, Blocked, Changed, Restarted, Written, Passed as PassedOn}
use Rattle.machine.specs.declared.Request.{Request}
use Rattle.machine.specs.Limits.{channel_limit}
use Rattle.machine.specs.Fields.{request_of, number_of, between}
use Rattle.machine.specs.Messages.{ends_wait, moved}
use Rattle.machine.specs.Process.{served}
use Rattle.machine.specs.Partition.{waiters, changed_all, ended_by, tick_partition, nothing_created, partition_after}
use Rattle.machine.specs.Module.{no_partition, part, queue, channel, with_part, with_queue}
use Rattle.machine.specs.Channels.{port_of, other_end, erased_to}
use Rattle.machine.specs.Decisions.{reply_of}
use Rattle.machine.specs.Step.{context_of, decision, module_after, step}
use Rattle.machine.specs.Theorems.Valid.{Valid, SoundEnd, SoundDecision, SoundModule}
use Rattle.machine.specs.Theorems.Account.{is_call, code_at, restarts_by}
use Rattle.machine.proofs.Tests.{by_test}
use Rattle.machine.proofs.Refusals.{call_in_range}
use Rattle.machine.proofs.Calling.{number_of_holds}
use Rattle.machine.proofs.Plain.{lossless}
use Rattle.machine.proofs.Account.{call_of}
use Rattle.machine.proofs.Stores.{Marks}
use Rattle.machine.proofs.Dispatch.{Calls, by_event}
use Rattle.machine.proofs.Bodies.{Bodily}
use Rattle.machine.proofs.Kept.{nothing_valid}
use Rattle.machine.proofs.Reached.{at_set, tick_each, place, made, made_sound, made_body, part_sound, erased_sound, refilled_keeps, on_queue_holds, transfer_sound}
use Rattle.machine.proofs.EveryCall.{call_stores}

-- ---------------------------------------------------------------- the ways in which an event reaches a partition
-- P is shown of the number of a partition, counted from 0, and of its record: as it was, as a tick leaves it, as its own call leaves it, with the first
-- waits of a queue ended by a restart at the other end of a channel, with a wait ended by a transfer there
module _ (m : Module) (s : SoundModule m) (e : EventT) (P : ℕ → Partition → Type 0)
    (same : (i : ℕ) → i < m.table.size → P i (part m i))
    (tick : (i : ℕ) → i < m.table.size → P i (tick_partition (m.t + 1) (part m i)))
    (own : let r = request_of e in
    let k = number_of r.partition in
    (c : Calls m r) → (step m e).answer.code ≡ (reply_of (made m s r c)).code → P (k - 1) (partition_after (made m s r c) (part m (k - 1))))
    (lets : (i : ℕ) → i < m.table.size → (o size frame t : ℕ) (p : Partition) → Valid frame t p → P i p → P i (changed_all served (take size (waiters o p)) p))
    (ends : (i : ℕ) → i < m.table.size → (a : Transfer) → SoundEnd (part m i) a → P i (ended_by a (part m i))) where
  abbrev r : Request
  r = request_of e

  abbrev k : ℕ
  k = number_of r.partition

  -- a partition stored
  puts : (x : Module) → x.partitions ≡ m.partitions → (j : ℕ) → j < m.table.size → (p : Partition) → P j p → (i : ℕ) → i < m.table.size → P i (part (with_part j p x) i)
  puts x is j inside p h i l = rw is (at_set P m.partitions j p no_partition (omega (arith, inside, s.partitions_size, s.table.size.1)) i h (λ _. same i l))

  module _ (c : Calls m r) where
    abbrev now : Partition
    now = part m (k - 1)

    here : k - 1 < m.table.size
    here = place m s r c

    decided : (d : Decision) → SoundDecision (context_of m k) now d → Bodily (port_of m k r) (number_of r.call) d → P (k - 1) (partition_after d now) → (i : ℕ) → i < m.table.size → P i (part (module_after m k d) i)
    decided (Refused n) h b g = same
    decided (Unchanged v x) h b g = same
    decided Ticked h b g = absurd b
    decided (Blocked id x) h b g = puts m refl (k - 1) here _ g
    decided (Changed x y v) h b g = puts m refl (k - 1) here _ g
    decided (Restarted mode) h b g =
        let u = erased_to k channel_limit m in
        let p = nothing_created (mode_number mode) in
        refilled_keeps P k (with_part (k - 1) p u) (part_sound u (erased_sound k channel_limit m (omega arith) s) (k - 1) here p (nothing_valid m.table.frame m.t (mode_number mode) h)) channel_limit
        (λ i _ f size frame t p v h.
        let b = (s.table.each_channel i f.there).source in
        let l : (channel m.table i).source - 1 < m.table.size = omega (arith, b.0, b.1) in
        lets _ l _ size frame t p v h)
        (puts u refl (k - 1) here p g)
    decided (Written j x) h b g = same
    decided (PassedOn j a v) h b g =
        let o = other_end k (channel m.table j) - 1 in
        let l = (on_queue_holds m s r c j a v b).inside in
        by_test (λ (x : Module). (i : ℕ) → i < m.table.size → P i (part x i)) (ends_wait a)
        (λ _. puts (with_queue j (moved a (queue m j)) m) refl o l (ended_by a (part m o)) (ends o l a (transfer_sound m s r c j a v b).2))
        (λ _. same)

  pub by_partition : (i : ℕ) → i < m.table.size → P i (part (step m e).state i)
  unfolding step
  by_partition = by_event m r (λ (d : Decision). (reply_of (decision m r)).code ≡ (reply_of d).code → (i : ℕ) → i < m.table.size → P i (part (module_after m k d) i))
      (λ _ _ _. same)
      (λ _ _ _ _ i l. rw (tick_each m s i l) (tick i l))
      (λ c is. decided c (made m s r c) (made_sound m s r c) (made_body m s r c) (own c is))
      refl

-- ---------------------------------------------------------------- the numbers of a call
-- what its number and its partition tell of a call that comes to its body
module _ (m : Module) (e : EventT) (c : Calls m (request_of e)) where
  pub own_number : let k = number_of (request_of e).partition in k - 1 + 1 ≡ k
  own_number = let some = c.some in omega arith

  pub own_some : 1 ≤ number_of (request_of e).call
  own_some = (call_in_range m.table (request_of e) c.formed (ne_eqb _ 0 c.some)).0

  pub is_call_holds : (x : ℕ) → is_call (number_of (request_of e).partition) x e ≡ eqb (number_of (request_of e).call) x
  is_call_holds x = call_of e.partition e.call _ _ x (number_of_holds e.partition c.some) (number_of_holds e.call (λ z. let some = own_some in omega arith))

  pub own_call : (x : ℕ) → is_call (number_of (request_of e).partition - 1 + 1) x e ≡ eqb (number_of (request_of e).call) x
  own_call x = rw own_number (is_call_holds x)

  -- an accepted mode 0, 1 or 2
  pub restart_told : number_of (request_of e).call ≡ 1 → between 0 2 (request_of e).a ≡ true → code_at m e ≡ 0 → restarts_by (number_of (request_of e).partition) e (code_at m e) ≡ true
  restart_told one low zero = rw (is_call_holds 1, one, ← (lossless e.a).between 0 2 (omega arith), low, zero)

-- what the call stores
pub made_stores : (m : Module) (s : SoundModule m) (e : EventT) (c : Calls m (request_of e)) → Marks (number_of (request_of e).call) (request_of e) (part m (number_of (request_of e).partition - 1)) (made m s (request_of e) c)
made_stores m s e c =
    let r = request_of e in
    let k = number_of r.partition in
    (call_stores (context_of m k) (port_of m k r) (number_of r.call) r (part m (k - 1)) (s.each_partition (k - 1) (place m s r c))).is
