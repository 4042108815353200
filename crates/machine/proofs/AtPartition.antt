-- A law of the record of a partition after every event, from that law of each kind of event. Assumes nothing.
use Rattle.machine.specs.Mode.{mode_number}
use Prim.Native.Nat.{ℕ, ◌+◌, ◌-◌, ◌≤◌, ◌<◌}
use mathlib.Core.Path.{◌≡◌, refl, sym, ap, subst, ◌∙◌}
use mathlib.Core.Bool.{true, false, ◌||◌}
use mathlib.Core.Logic.{⊎_elim}
use native.Mathlib.Omega.{arith}
use lib.ListN.{take}
use lib.Dec.{eqb}
use lib.IntN.{pos}
use borrow.Author.Tests.{eq-eqb, not-false, ne_eqb}
use Rattle.machine.specs.declared.Process.{Process}
use Rattle.machine.specs.declared.Partition.{Partition}
use Rattle.machine.specs.declared.Request.{Request}
use Rattle.machine.specs.declared.Transfer.{Transfer}
use Rattle.machine.specs.declared.Change.{Change}
use Rattle.machine.specs.declared.Decision.{Decision}
use Rattle.machine.specs.declared.Decision.TheVariants.{Refused, Unchanged, Ticked, Blocked, Changed, Restarted, Written, Passed as PassedOn}
use Rattle.machine.specs.declared.Wait.TheVariants.{Source}
use Rattle.machine.specs.declared.Field.TheVariants.{Number}
use Rattle.machine.specs.declared.Event.{Event as EventT}
use Rattle.machine.specs.declared.Module.{Module}
use Rattle.machine.specs.Limits.{mode_limit, channel_limit}
use Rattle.machine.specs.Fields.{request_of, number_of}
use Rattle.machine.specs.Messages.{moved, ends_wait}
use Rattle.machine.specs.Process.{object, served}
use Rattle.machine.specs.Partition.{nothing_created, stored, ended_by, waiters, changed_all, applied, tick_partition}
use Rattle.machine.specs.Decisions.{reply_of}
use Rattle.machine.specs.Module.{no_partition, part, channel, queue, with_part, with_queue}
use Rattle.machine.specs.Places.{malformed, ticks}
use Rattle.machine.specs.Ticks.{tick_module}
use Rattle.machine.specs.Channels.{other_end, port_of, passed, erased_to}
use Rattle.machine.specs.Step.{context_of, decision, restarted, module_after, step}
use Rattle.machine.specs.Theorems.Valid.{Between, Valid, SoundModule, SoundContext, SoundDecision, SoundEnd}
use Rattle.machine.specs.Theorems.Events.{own}
use Rattle.machine.proofs.Tests.{by_test, or_left, or_right}
use Rattle.machine.proofs.Bounds.{same_or_not}
use Rattle.machine.proofs.Kept.{nothing_valid}
use Rattle.machine.proofs.Calling.{number_of_holds, number_is}
use Rattle.machine.proofs.Fields.{in_limits, between_zero}
use Rattle.machine.proofs.Dispatch.{Calls, by_event}
use Rattle.machine.proofs.Bodies.{Sends, Receives, OnQueue, Bodily}
use Rattle.machine.proofs.Reached.{made, made_sound, made_body, Channelled, on_queue_holds, transfer_sound, Fills, refilled_keeps, part_sound, erased_sound, place, context_sound, at_set, tick_each}
use Rattle.machine.proofs.Acts.{acts_on_named, Acts}
use Rattle.machine.proofs.EveryCall.{call_acts}
use Rattle.machine.proofs.Refusals.{call_in_range}

-- ---------------------------------------------------------------- a call that comes to its body
module _ (m : Module) (s : SoundModule m) (e : EventT) (q : Calls m (request_of e)) where
  -- its partition and its number are those of the event
  event_partition : e.partition ≡ pos (number_of (request_of e).partition)
  event_partition = number_of_holds e.partition q.some

  event_call : e.call ≡ pos (number_of (request_of e).call)
  event_call =
      let u = call_in_range m.table (request_of e) q.formed (ne_eqb (number_of (request_of e).partition) 0 q.some) in
      number_of_holds e.call (λ z. omega (arith, u.0))

  made_acts : let h = number_of (request_of e).partition in Acts (context_of m h) (request_of e) (part m (h - 1)) (number_of (request_of e).call) (made m s (request_of e) q)
  made_acts =
      let h = number_of (request_of e).partition in
      (call_acts (context_of m h) (port_of m h (request_of e)) (number_of (request_of e).call) (request_of e) (part m (h - 1))
      (λ there. let w = in_limits 1 m.table.channel_count (request_of e).a there in omega (arith, w.0))).is

pub ticked_part : (m : Module) → SoundModule m → (k : ℕ) → Between 1 m.table.size k → own (tick_module m) k ≡ tick_partition (m.t + 1) (own m k)
ticked_part m s k b = tick_each m s (k - 1) (omega (arith, b.0, b.1))

-- Is: what is shown of the record of partition k after an event that answers code. Left: of its record while a restart of another partition lets senders in
module _ (m : Module) (s : SoundModule m) (e : EventT) (k : ℕ) (b : Between 1 m.table.size k) (Is : ℕ → Partition → Type 0) (Left : Partition → Type 0) where
  abbrev asks : Request
  asks = request_of e

  -- the partition and the number of the call
  abbrev from : ℕ
  from = number_of asks.partition

  abbrev number : ℕ
  number = number_of asks.call

  abbrev p : Partition
  p = own m k

  pub record Kinds : Type 0 where
    -- a refusal
    pub refused : (n : ℕ) → (n ≡ 0 → ⊥) → (n ≡ 7 → ⊥) → Is n p
    -- a tick
    pub ticked : e.partition ≡ pos 0 → Is 0 (tick_partition (m.t + 1) p)
    -- a call of another partition, which leaves this one
    pub another : (code h : ℕ) → e.partition ≡ pos h → (h ≡ k → ⊥) → (h ≡ 0 → ⊥) → Is code p
    -- a call that acts on no process that it names, and leaves this partition
    pub quiet : (h n : ℕ) → e.partition ≡ pos h → (h ≡ 0 → ⊥) → e.call ≡ pos n → (eqb n 9 || acts_on_named n) ≡ false → Is 0 p
    -- a call of this partition whose caller waits, and one that makes changes
    pub blocked : e.partition ≡ pos k → e.call ≡ pos number → (w : ℕ) (y : Process) → SoundDecision (context_of m k) p (Blocked w y) → Acts (context_of m k) asks p number (Blocked w y) → Is 7 (stored w y p)
    pub changed : e.partition ≡ pos k → e.call ≡ pos number → SoundContext (context_of m k) p → (x y : Change) (v : ℕ) → SoundDecision (context_of m k) p (Changed x y v) → Acts (context_of m k) asks p number (Changed x y v) → Is 0 (applied y (applied x p))
    -- modes 0, 1 and 2 of this partition, and of another, whose channels let in the first who wait at their sources
    pub erased : e.partition ≡ pos k → e.call ≡ pos 1 → (mode : ℕ) → mode ≤ 2 → e.a ≡ pos mode → Is 0 (nothing_created mode)
    pub left_first : Left p
    pub left_next : e.call ≡ pos 1 → (mode : ℕ) → mode ≤ 2 → e.a ≡ pos mode → (i : ℕ) → i < m.table.channel_count → e.partition ≡ pos (channel m.table i).destination → k ≡ (channel m.table i).source
        → (size frame t : ℕ) (o : Partition) → Valid frame t o → Left o → Left (changed_all served (take size (waiters (object (Source (i + 1) 0)) o)) o)
    pub left_last : (h : ℕ) → e.partition ≡ pos h → (h ≡ k → ⊥) → (h ≡ 0 → ⊥) → e.call ≡ pos 1 → (o : Partition) → Left o → Is 0 o
    -- a transfer on a channel, at whose other end this partition is
    pub passed : (i : ℕ) (a : Transfer) (v : ℕ) → OnQueue (port_of m from asks) number i a v → Channelled m from i (port_of m from asks) → e.partition ≡ pos from → (from ≡ 0 → ⊥) → e.call ≡ pos number → e.a ≡ pos (i + 1)
        → other_end from (channel m.table i) ≡ k → SoundEnd p a → Is 0 (ended_by a p)

  module _ (f : Kinds) where
    tick_is : malformed m.table asks ≡ false → ticks asks ≡ true → Is 0 (part (tick_module m) (k - 1))
    tick_is formed none =
        let by = number_is e.partition 0 (between_zero m.table.size asks.partition (not-false _ (or_left _ _ (or_right (eqb m.table.size 0) _ formed))) none) in
        subst (Is 0) (sym (ticked_part m s k b)) (f.ticked by)

    module _ (q : Calls m asks) where
      by : e.partition ≡ pos from
      by = event_partition m s e q

      call : e.call ≡ pos number
      call = event_call m s e q

      -- a partition stored at place j
      puts : (code : ℕ) (u : Module) → u.partitions ≡ m.partitions → (j : ℕ) → j < m.table.size → ((k - 1 ≡ j → ⊥) → Is code p) → (o : Partition) → (j ≡ k - 1 → Is code o) → Is code (part (with_part j o u) (k - 1))
      puts code u z j l none o h = rw z (at_set (λ i o. i ≡ k - 1 → Is code o) m.partitions j o no_partition (omega (arith, l, s.partitions_size, s.table.size.1)) (k - 1) h (λ ne _. none ne) refl)

      -- the caller's partition stored
      puts_own : (code : ℕ) (o : Partition → Partition) → (from ≡ k → Is code (o p)) → Is code (part (with_part (from - 1) (o (part m (from - 1))) m) (k - 1))
      puts_own code o h = puts code m refl (from - 1) (place m s asks q) (λ ne. f.another code from by (λ z. ne (omega (arith, z))) q.some) (o (part m (from - 1)))
          (λ z. subst (λ i. Is code (o (part m i))) (sym z) (h (omega (arith, z, q.some, b.0))))

      -- a restart
      record Restarts (mode : ℕ) (o : Partition) : Type 0 where
        gone : from ≡ k → o ≡ nothing_created mode
        left : (from ≡ k → ⊥) → Left o

      module _ (mode : ℕ) (low : mode ≤ 2) (one : number ≡ 1) (is : asks.a ≡ Number mode) where
        abbrev There : ℕ → Partition → Type 0
        There i o = i ≡ k - 1 → Restarts mode o

        a_is : e.a ≡ pos mode
        a_is = number_is e.a mode (rw is (eq-eqb mode mode refl))

        let_in_holds : (i : ℕ) → Fills (with_part (from - 1) (nothing_created mode) (erased_to from channel_limit m)) from i → (size frame t : ℕ) (o : Partition) → Valid frame t o → let j = (channel m.table i).source - 1 in
            There j o → There j (changed_all served (take size (waiters (object (Source (i + 1) 0)) o)) o)
        let_in_holds i w size frame t o v h z =
            let g = s.table.each_channel i w.there in
            let source : (channel m.table i).source ≡ k = omega (arith, z, g.source.0, b.0) in
            record {
              gone = λ own. absurd (g.apart (source ∙ sym own ∙ sym w.into));
              left = λ other. f.left_next (call ∙ ap pos one) mode low a_is i w.there (by ∙ ap pos (sym w.into)) (sym source) size frame t o v ((h z).left other);
            }

        restart_is : mode ≤ mode_limit → Is 0 (part (restarted from (nothing_created mode) m) (k - 1))
        restart_is few =
            let u = erased_to from channel_limit m in
            let o = nothing_created mode in
            let here = place m s asks q in
            let start : (i : ℕ) → i < m.table.size → There i (part (with_part (from - 1) o u) i) = λ i l. at_set There m.partitions (from - 1) o no_partition (omega (arith, here, s.partitions_size, s.table.size.1)) i
            (λ z. record { gone = λ _. refl; left = λ other. absurd (other (omega (arith, z, b.0, q.some))) })
            (λ ne z. record { gone = λ own. absurd (ne (rw own z)); left = λ _. subst (λ j. Left (part m j)) (sym z) f.left_first }) in
            let g = refilled_keeps There from (with_part (from - 1) o u) (part_sound u (erased_sound from channel_limit m (omega arith) s) (from - 1) here o (nothing_valid m.table.frame m.t mode few)) channel_limit (λ i _. let_in_holds i) start (k - 1) (omega (arith, b.0, b.1)) refl in
            ⊎_elim
            (λ (own : from ≡ k). subst (Is 0) (sym (g.gone own)) (f.erased (by ∙ ap pos own) (call ∙ ap pos one) mode low a_is))
            (λ (other : from ≡ k → ⊥). f.left_last from by other q.some (call ∙ ap pos one) _ (g.left other))
            (same_or_not from k)

      -- a transfer
      passed_is : (i : ℕ) (a : Transfer) (v : ℕ) → OnQueue (port_of m from asks) number i a v → Is 0 (part (passed from i a m) (k - 1))
      passed_is i a v g =
          let c = channel m.table i in
          let j = other_end from c - 1 in
          let w = on_queue_holds m s asks q i a v g in
          let h = s.table.each_channel i w.there in
          let end : Between 1 m.table.size (other_end from c) = by_test (Between 1 m.table.size) (eqb c.source from) (λ _. h.destination) (λ _. h.source) in
          let known = in_limits 1 m.table.channel_count asks.a g.there in
          let none : Is 0 p = f.quiet from number by q.some call (⊎_elim (λ (d : Sends (port_of m from asks) number a v). rw d.call) (λ (d : Receives (port_of m from asks) number a v). rw d.call) g.end) in
          by_test (λ (u : Module). Is 0 (part u (k - 1))) (ends_wait a)
          (λ _. puts 0 (with_queue i (moved a (queue m i)) m) refl j w.inside (λ _. none) (ended_by a (part m j)) (λ z.
          subst (λ i. Is 0 (ended_by a (part m i))) (sym z)
          (f.passed i a v g w by q.some call (number_of_holds e.a (λ y. omega (arith, known.0)) ∙ ap pos (omega (arith, g.place, known.0))) (omega (arith, z, end.0, b.0)) (subst (λ i. SoundEnd (part m i) a) z (transfer_sound m s asks q i a v g).2))))
          (λ _. none)

      decided_is : (d : Decision) → SoundDecision (context_of m from) (part m (from - 1)) d → Bodily (port_of m from asks) number d → Acts (context_of m from) asks (part m (from - 1)) number d
          → Is (reply_of d).code (part (module_after m from d) (k - 1))
      decided_is (Refused n) h g a = let w = in_limits 1 5 (Number n) g in f.refused n (λ z. omega arith) (λ z. omega arith)
      decided_is (Unchanged n x) h g a = f.quiet from number by q.some call a
      decided_is Ticked h g a = absurd a
      decided_is (Blocked w y) h g a = puts_own 7 (stored w y) (λ is. f.blocked (by ∙ ap pos is) call w y (subst (λ j. SoundDecision (context_of m j) (part m (j - 1)) (Blocked w y)) is h) (subst (λ j. Acts (context_of m j) asks (part m (j - 1)) number (Blocked w y)) is a))
      decided_is (Changed x y n) h g a = puts_own 0 (λ o. applied y (applied x o)) (λ is. f.changed (by ∙ ap pos is) call (subst (λ j. SoundContext (context_of m j) (part m (j - 1))) is (context_sound m s asks q)) x y n
          (subst (λ j. SoundDecision (context_of m j) (part m (j - 1)) (Changed x y n)) is h) (subst (λ j. Acts (context_of m j) asks (part m (j - 1)) number (Changed x y n)) is a))
      decided_is (Restarted mode) h g a = restart_is (mode_number mode) a.2 a.0 a.1 h
      decided_is (Written i x) h g a = f.quiet from number by q.some call (rw a)
      decided_is (PassedOn i t n) h g a = passed_is i t n g

    event_is : Is (reply_of (decision m asks)).code (part (module_after m from (decision m asks)) (k - 1))
    event_is = by_event m asks (λ (d : Decision). Is (reply_of d).code (part (module_after m from d) (k - 1)))
        (λ n t. let w = in_limits 8 13 (Number n) t in f.refused n (λ z. omega arith) (λ z. omega arith))
        (λ formed none _. tick_is formed none)
        (λ q. decided_is q (made m s asks q) (made_sound m s asks q) (made_body m s asks q) (made_acts m s e q))

    pub at_partition : Is (step m e).answer.code (own (step m e).state k)
    unfolding step
    at_partition = event_is
