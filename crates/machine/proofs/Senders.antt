-- What the events that are no SEND to a buffer or queuing channel and no RECEIVE from it leave of the buffer and of the waiting senders: the messages
-- stay, and a sender keeps its wait, but for one that STOP stops or a tick wakes. Assumes nothing.
use Prim.Native.Nat.{ℕ, ◌+◌, ◌-◌, ◌≤◌, ◌<◌}
use mathlib.Core.Path.{◌≡◌, refl, ap, ◌∙◌}
use mathlib.Core.Logic.{⊎_elim}
use native.Mathlib.Omega.{arith}
use lib.ListN.{take}
use Rattle.machine.specs.declared.Transfer.{Transfer}
use Rattle.machine.specs.declared.Request.{Request}
use Rattle.machine.specs.declared.Module.{Module}
use Rattle.machine.specs.declared.Traffic.{Traffic}
use Rattle.machine.specs.declared.Wait.TheVariants.{Source}
use Rattle.machine.specs.Module.{no_partition, channel, part, queue, with_part}
use Rattle.machine.specs.Step.{restarted}
use lib.Seq.{get_or-set_other}
use Rattle.machine.specs.Limits.{mode_limit, channel_limit}
use Rattle.machine.specs.Fields.{number_of}
use Rattle.machine.specs.Messages.{sent, received, ends_wait}
use Rattle.machine.specs.Process.{object, carried, served}
use Rattle.machine.specs.Partition.{process, ended_by, first_waiter, waiters, changed_all, nothing_created}
use Rattle.machine.specs.Channels.{other_end, other_queue, port_of, passed, erased_to}
use Rattle.machine.specs.Theorems.Valid.{SoundModule}
use Rattle.machine.specs.Theorems.Queues.{queue_number}
use Rattle.machine.proofs.Tests.{by_test}
use Rattle.machine.proofs.Dispatch.{Calls}
use Rattle.machine.proofs.Bodies.{Sends, Receives, OnQueue}
use Rattle.machine.proofs.Reached.{at_set, place, part_sound, erased_sound, Fills, refilled_keeps, transfer_sound, on_queue_holds as on-queue-of}
use Rattle.machine.proofs.Kept.{nothing_valid}
use Rattle.machine.proofs.Calmness.{OfSenders, senders, CalmEnd, sent_calm, received_calm, Leaves, leaves_same, leaves_along, end_leaves, let_in_leaves}

module _ (kind j : ℕ) (of : OfSenders kind) (low : j ≤ 16) where
  -- ---------------------------------------------------------------- transfers and restarts
  module _ (m : Module) (s : SoundModule m) (r : Request) (q : Calls m r) (k : ℕ) (inside : k - 1 < m.table.size) where
    abbrev caller : ℕ
    caller = number_of r.partition

    -- a transfer whose other end is another queue
    pub passed_leaves : (i : ℕ) (a : Transfer) (v : ℕ) → OnQueue (port_of m caller r) (number_of r.call) i a v → (other_queue caller i (channel m.table i) ≡ senders kind j of low → ⊥) → Leaves kind j of low (part m (k - 1)) (part (passed caller i a m) (k - 1))
    passed_leaves i a v b ne =
        let t = transfer_sound m s r q i a v b in
        let w = on-queue-of m s r q i a v b in
        let c = channel m.table i in
        let e = other_end caller c - 1 in
        let o = other_queue caller i c in
        let p = part m e in
        let valid = s.each_partition e w.inside in
        let calm : CalmEnd kind j of low 0 p a = ⊎_elim
        (λ (h : Sends (port_of m caller r) (number_of r.call) a v). let is : a ≡ sent (first_waiter o p) h.message = h.transfer ∙ ap (λ (x : Traffic). sent x.waiter h.message) w.sees in rw is (sent_calm kind j of low 0 o p ne h.message))
        (λ (h : Receives (port_of m caller r) (number_of r.call) a v). let is : a ≡ received (first_waiter o p) (carried (process (first_waiter o p) p)) = h.transfer ∙ ap (λ (x : Traffic). received x.waiter x.carried) w.sees in rw is (received_calm kind j of low 0 o p ne (carried (process (first_waiter o p) p))))
        b.end in
        by_test (λ (x : Module). Leaves kind j of low (part m (k - 1)) (part x (k - 1))) (ends_wait a)
        (λ _. at_set (λ i x. Leaves kind j of low (part m i) x) m.partitions e (ended_by a p) no_partition (omega (arith, w.inside, s.partitions_size, s.table.size.1)) (k - 1)
        (end_leaves kind j of low m.table.frame m.t p valid c.size (queue m i) a t.1 t.2 calm)
        (λ _. leaves_same kind j of low (part m (k - 1)) (s.each_partition (k - 1) inside).lists))
        (λ _. leaves_same kind j of low (part m (k - 1)) (s.each_partition (k - 1) inside).lists)

    -- a restart of another partition that fills other queues anew
    pub restart_leaves : (mode : ℕ) → mode ≤ mode_limit → (caller ≡ k → ⊥) → 1 ≤ k → ((i : ℕ) → Fills m caller i → queue_number 6 (i + 1) ≡ senders kind j of low → ⊥) → Leaves kind j of low (part m (k - 1)) (part (restarted caller (nothing_created mode) m) (k - 1))
    restart_leaves mode few ne some other =
        let u = erased_to caller channel_limit m in
        let p = nothing_created mode in
        let x = with_part (caller - 1) p u in
        let here = place m s r q in
        let sound = part_sound u (erased_sound caller channel_limit m (omega arith) s) (caller - 1) here p (nothing_valid m.table.frame m.t mode few) in
        let caller-some = q.some in
        refilled_keeps (λ i y. i ≡ k - 1 → Leaves kind j of low (part m (k - 1)) y) caller x sound channel_limit
        (λ i _ f n frame t y v h is. leaves_along kind j of low (part m (k - 1)) y (changed_all served (take n (waiters (object (Source (i + 1) 0)) y)) y) (h is) (let_in_leaves kind j of low frame t y v (object (Source (i + 1) 0)) n (other i (record { there = f.there; few = f.few; kind = f.kind; into = f.into }))))
        (λ i l is. rw is (rw (get_or-set_other m.partitions (caller - 1) (k - 1) p no_partition (λ z. ne (omega arith))) (leaves_same kind j of low (part m (k - 1)) (s.each_partition (k - 1) inside).lists)))
        (k - 1) inside refl
