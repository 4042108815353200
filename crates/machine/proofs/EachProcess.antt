-- What an event makes of the record of each process. Assumes nothing.
use Rattle.machine.specs.Mode.{mode_number}
use Prim.Native.Nat.{ℕ, ◌+◌, ◌-◌, ◌≤◌, ◌<◌, ◌*◌}
use mathlib.Core.Path.{◌≡◌, refl, sym, ap, subst, ◌∙◌}
use mathlib.Core.Bool.{false, cond}
use mathlib.Core.Logic.{◌⊎◌, inl, inr, ⊎_elim}
use native.Mathlib.Omega.{arith}
use lib.ListN.{take}
use lib.Dec.{eqb}
use lib.IntN.{pos}
use borrow.Author.Tests.{eq-eqb, ne_eqb, eqb-true}
use Rattle.machine.specs.declared.Process.{Process}
use Rattle.machine.specs.declared.Partition.{Partition}
use Rattle.machine.specs.declared.Request.{Request}
use Rattle.machine.specs.declared.Transfer.{Transfer}
use Rattle.machine.specs.declared.Change.{Change}
use Rattle.machine.specs.declared.Decision.TheVariants.{Blocked, Changed}
use Rattle.machine.specs.declared.Wait.TheVariants.{Source, Destination}
use Rattle.machine.specs.declared.Channel.{Channel}
use Rattle.machine.specs.declared.Traffic.{Traffic}
use Rattle.machine.specs.declared.Event.{Event as EventT}
use Rattle.machine.specs.declared.Module.{Module}
use Rattle.machine.specs.Limits.{process_limit}
use Rattle.machine.specs.Fields.{request_of, number_of}
use Rattle.machine.specs.Messages.{sent, received}
use Rattle.machine.specs.Process.{blank_process, object, served, ready, ticked, carried}
use Rattle.machine.specs.Partition.{normal_mode, process, stored, ended_by, waiters, first_waiter, changed_all, applied, tick_partition}
use Rattle.machine.specs.Module.{part, channel}
use Rattle.machine.specs.Ticks.{tick_module}
use Rattle.machine.specs.Step.{context_of}
use Rattle.machine.specs.Channels.{other_end, other_queue, port_of}
use Rattle.machine.specs.Theorems.Valid.{Between, contains, Valid, SoundModule, SoundContext, SoundDecision, SoundEnd}
use Rattle.machine.specs.Theorems.Plain.{ids_from, at_tick}
use Rattle.machine.specs.Theorems.Events.{own}
use Rattle.machine.specs.Theorems.EachProcess.{Service, Becomes, EachProcess}
use Rattle.machine.proofs.Tests.{by_test, not_both, or_right}
use Rattle.machine.proofs.Bounds.{named_replicate, not_so, same_or_not}
use Rattle.machine.proofs.Either.{either}
use Rattle.machine.proofs.Keeping.{process_other, process_stored, changed_process, each_changed, AllCreated, from_range, distinct_from}
use Rattle.machine.proofs.Kept.{take_in, firsts_created, firsts_distinct, running_caller, change_valid, waiters_exact}
use Rattle.machine.proofs.Plain.{tick_one}
use Rattle.machine.proofs.Bodies.{Sends, Receives, OnQueue}
use Rattle.machine.proofs.Reached.{valid_sound, reached_valid, Channelled}
use Rattle.machine.proofs.Alike.{not_created, alike_same, untouched, alike_process}
use Rattle.machine.proofs.Turns.{same_number, elsewhere_none, elsewhere_code, elsewhere_from, elsewhere_seven, elsewhere_number, sent_is, received_is, begin, turned}
use Rattle.machine.proofs.Acts.{BlockedBy, touches, acts_on_named, Acts}
use Rattle.machine.proofs.WaitsOn.{wait_at, wait_is}
use Rattle.machine.proofs.AtPartition.{ticked_part, Kinds, at_partition}

-- ---------------------------------------------------------------- a tick
ticked_process : (t frame now : ℕ) (p : Partition) → Valid frame now p → (id : ℕ) → process id (tick_partition t p) ≡ cond (normal_mode p) (at_tick t (process id p)) (process id p)
unfolding tick_partition
ticked_process t frame now p v id =
    let l = ids_from p.process_count 1 in
    let f = ticked t in
    let all : AllCreated l p.process_count = λ y c. let w = from_range p.process_count 1 y c in (w.0, omega arith) in
    either (normal_mode p)
    (λ n. rw n (ap (process id) (each_changed f p.process_count 1 p) ∙ changed_process f l p v.lists all (distinct_from p.process_count 1) id ∙ either (contains id l)
    (λ c. rw c (tick_one t (process id p)))
    (λ c. rw c (let z = not_created p v.lists id c in z ∙ ap (at_tick t) (sym z)))))
    (λ n. rw n)

module _ (m : Module) (s : SoundModule m) (k : ℕ) (b : Between 1 m.table.size k) where
  valid : Valid m.table.frame m.t (own m k)
  valid = s.each_partition (k - 1) (omega (arith, b.0, b.1))

  pub tick_process : (id : ℕ) → process id (own (tick_module m) k) ≡ cond (normal_mode (own m k)) (at_tick (m.t + 1) (process id (own m k))) (process id (own m k))
  tick_process id = ap (process id) (ticked_part m s k b) ∙ ticked_process (m.t + 1) m.table.frame m.t (own m k) valid id

-- ---------------------------------------------------------------- an event
module _ (m : Module) (s : SoundModule m) (e : EventT) (k : ℕ) (b : Between 1 m.table.size k) (id : ℕ) where
  abbrev asks : Request
  asks = request_of e

  -- the partition and the number of the call
  abbrev from : ℕ
  from = number_of asks.partition

  abbrev number : ℕ
  number = number_of asks.call

  abbrev p : Partition
  p = own m k

  abbrev x : Process
  x = process id p

  -- the record of partition k after an event that answers code
  abbrev Is : ℕ → Partition → Type 0
  Is code q = Becomes m e code k id (process id q)

  here : Valid m.table.frame m.t p
  here = valid m s k b

  -- its wait on a channel's end, by the number of the object
  waits_at : (kind i : ℕ) → 1 ≤ kind → i < m.table.channel_count → object x.wait ≡ 256 * kind + (i + 1) → x.wait ≡ wait_at kind (i + 1) (carried x)
  waits_at kind i some l = wait_is m.table.frame m.t p here id kind (i + 1) some (omega (arith, s.table.channel_count))

  tick_is : e.partition ≡ pos 0 → Is 0 (tick_partition (m.t + 1) p)
  tick_is by =
      subst (Becomes m e 0 k id) (sym (ticked_process (m.t + 1) m.table.frame m.t p here id)) (by_test (Becomes m e 0 k id) (normal_mode p)
      (λ t. Becomes.ticked (by, refl, eqb-true _ 3 t) refl)
      (λ t. Becomes.same (elsewhere_none m e k id 0 (λ c. not_both _ (eq-eqb (mode_number p.mode) 3 c.2) t) (λ n c. let z = same_number (sym by ∙ c.0) in omega (arith, b.0)) (λ n c. let z = same_number (sym by ∙ c.0.0) in omega (arith, b.0))) refl))

  module _ (by : e.partition ≡ pos k) (call : e.call ≡ pos number) where
    blocked_is : (w : ℕ) (y : Process) → SoundDecision (context_of m k) p (Blocked w y) → Acts (context_of m k) asks p number (Blocked w y) → Is 7 (stored w y p)
    blocked_is w y h a =
        let c = running_caller p here.lists here.lock (λ z. omega (arith, h.0.0, a.0)) in
        ⊎_elim
        (λ (z : id ≡ w).
        subst (Becomes m e 7 k id) (sym (ap (λ i. process i (stored w y p)) z ∙ process_stored p w y here.lists h.0))
        (begin m s e k id number by call b y here (rw z h.0) a.1 (z ∙ a.0) (ap (λ i. ready (process i p)) (z ∙ a.0) ∙ c.is_ready) (subst (λ i. BlockedBy asks number (process i p) y) (sym z) a.2)))
        (λ (ne : id ≡ w → ⊥). Becomes.same (elsewhere_seven m e k id (λ z. ne (z ∙ sym a.0))) (process_other p w y id ne))
        (same_or_not id w)

    changed_is : SoundContext (context_of m k) p → (y z : Change) (v : ℕ) → SoundDecision (context_of m k) p (Changed y z v) → Acts (context_of m k) asks p number (Changed y z v) → Is 0 (applied z (applied y p))
    changed_is sound y z v h a =
        let f = turned m s e k id number by call b here.lists in
        either (touches y)
        (λ t.
        let off : touches z ≡ false = not_so (touches z) (λ g. not_both _ (rw (g, t)) a.2) in
        subst (Becomes m e 0 k id) (sym (alike_process (applied y p) _ (untouched z (applied y p) off) id)) (f y p (alike_same p) here h.0 a.0 (λ g. not_both _ t g)))
        (λ t. f z (applied y p) (untouched y p t) (change_valid (context_of m k) sound p here y h.0) h.1 a.1
        (λ g. elsewhere_number m e k id number k by (λ z. omega (arith, b.0)) call (not_so (acts_on_named number) (λ on. not_both _ (rw (on, t, g)) a.3))))

  -- while a restart of another partition lets senders in: it stays, or its wait is served
  abbrev Left : Partition → Type 0
  Left o = (process id o ≡ x) ⊎ (Service m e 0 k id × (process id o ≡ served x))

  let_in_holds : e.call ≡ pos 1 → (mode : ℕ) → mode ≤ 2 → e.a ≡ pos mode → (i : ℕ) → i < m.table.channel_count → e.partition ≡ pos (channel m.table i).destination → k ≡ (channel m.table i).source
      → (size frame t : ℕ) (o : Partition) → Valid frame t o → Left o → Left (changed_all served (take size (waiters (object (Source (i + 1) 0)) o)) o)
  let_in_holds call mode low a i l by source size frame t o v h =
      let w = object (Source (i + 1) 0) in
      let c = take size (waiters w o) in
      subst (λ (y : Process). (y ≡ x) ⊎ (Service m e 0 k id × (y ≡ served x))) (sym (changed_process served c o v.lists (firsts_created frame t o v w size) (firsts_distinct frame t o v w size) id))
      (by_test (λ (y : Process). (y ≡ x) ⊎ (Service m e 0 k id × (y ≡ served x))) (contains id c)
      (λ t.
      let on : object (process id o).wait ≡ w = eqb-true _ w (sym (waiters_exact o v.lists w (λ z. omega arith) id) ∙ take_in size (waiters w o) id t) in
      ⊎_elim
      (λ (same : process id o ≡ x). inr (Service.restart i (carried x) mode l by call a low refl source (waits_at 6 i (omega arith) l (ap (λ (y : Process). object y.wait) (sym same) ∙ on)), ap served same))
      (λ (done : Service m e 0 k id × (process id o ≡ served x)). absurd (omega (arith, on, ap (λ (y : Process). object y.wait) done.1)))
      h)
      (λ _. h))

  left_is : (h : ℕ) → e.partition ≡ pos h → (h ≡ k → ⊥) → (h ≡ 0 → ⊥) → (o : Partition) → Left o → Is 0 o
  left_is h by other some o (inl same) = Becomes.same (elsewhere_from m e k id 0 h by other some) same
  left_is h by other some o (inr done) = subst (Becomes m e 0 k id) (sym done.1) (Becomes.served done.0 refl)

  -- a transfer on a channel, at whose other end the partition is
  passed_is : (i : ℕ) (a : Transfer) (v : ℕ) → OnQueue (port_of m from asks) number i a v → Channelled m from i (port_of m from asks) → e.partition ≡ pos from → (from ≡ 0 → ⊥) → e.call ≡ pos number → e.a ≡ pos (i + 1)
      → other_end from (channel m.table i) ≡ k → SoundEnd p a → Is 0 (ended_by a p)
  passed_is i a v g w by some call a_is end sound =
      let c = channel m.table i in
      let h = s.table.each_channel i w.there in
      let j : other_end from c - 1 ≡ k - 1 = ap (λ n. n - 1) end in
      ⊎_elim
      (λ (f : Sends (port_of m from asks) number a v).
      let source : c.source ≡ from = ap (λ (x : Channel). x.source) (sym w.is) ∙ f.source in
      let o = object (Destination (i + 1)) in
      let first : first_waiter (other_queue from i c) (part m (other_end from c - 1)) ≡ first_waiter o p = ap (λ y. first_waiter y (part m (other_end from c - 1))) (rw (eq-eqb c.source from source)) ∙ ap (λ y. first_waiter o (part m y)) j in
      sent_is m e k id here.lists o (λ z. omega arith) (λ on. Service.sent i w.there (by ∙ ap pos (sym source)) (call ∙ ap pos f.call) a_is refl (sym (rw (eq-eqb c.source from source) at end)) (waits_at 7 i (omega arith) w.there on))
      (elsewhere_number m e k id number from by some call (rw f.call)) p (alike_same p) here.lists a f.message
      (f.transfer ∙ ap (λ (x : Traffic). sent x.waiter f.message) w.sees ∙ ap (λ y. sent y f.message) first) sound)
      (λ (f : Receives (port_of m from asks) number a v).
      let destination : c.destination ≡ from = ap (λ (x : Channel). x.destination) (sym w.is) ∙ f.destination in
      let off : eqb c.source from ≡ false = ne_eqb _ _ (λ y. h.apart (y ∙ sym destination)) in
      let o = object (Source (i + 1) 0) in
      let first : first_waiter (other_queue from i c) (part m (other_end from c - 1)) ≡ first_waiter o p = ap (λ y. first_waiter y (part m (other_end from c - 1))) (rw off) ∙ ap (λ y. first_waiter o (part m y)) j in
      received_is m e k id here.lists o (λ z. omega arith) (λ on. Service.taken i (carried x) w.there (by ∙ ap pos (sym destination)) (call ∙ ap pos f.call) a_is refl (sym (rw off at end)) (waits_at 6 i (omega arith) w.there on))
      (elsewhere_number m e k id number from by some call (rw f.call)) p (alike_same p) here.lists a (port_of m from asks).traffic.carried
      (f.transfer ∙ ap (λ y. received y (port_of m from asks).traffic.carried) (ap (λ (x : Traffic). x.waiter) w.sees ∙ first)) sound)
      g.end

  kinds : Kinds m s e k b Is Left
  kinds = record {
    refused = λ n f g. Becomes.same (elsewhere_code m e k id n f g) refl;
    ticked = tick_is;
    another = λ code h by other some. Becomes.same (elsewhere_from m e k id code h by other some) refl;
    quiet = λ h n by some call t. Becomes.same (elsewhere_number m e k id n h by some call (or_right (eqb n 9) _ t)) refl;
    blocked = blocked_is;
    changed = changed_is;
    erased = λ by call mode low a. Becomes.erased (record { call = (by, call, refl); mode = mode; is = a; low = low }) (named_replicate process_limit process_limit id blank_process);
    left_first = inl refl;
    left_next = let_in_holds;
    left_last = λ h by other some call. left_is h by other some;
    passed = passed_is;
  }

-- Law. What every event of every reached record makes of each process.
pub each_process_holds : EachProcess
each_process_holds m h e k id b = let s = valid_sound m (reached_valid m h) (k - 1) (omega (arith, b.0, b.1)) in at_partition m s e k b _ _ (kinds m s e k b id)
