-- What leaves the mode of a partition, and that a partition in IDLE stays as it is, over one event. Assumes nothing.
use Rattle.machine.specs.Mode.{mode_number}
use Prim.Native.Nat.{ℕ, zero, suc, ◌+◌, ◌<◌}
use mathlib.Core.Path.{◌≡◌, refl, ap, ◌∙◌}
use mathlib.Core.Bool.{false}
use mathlib.Core.List.{List, []}
use lib.ListN.{take}
use Rattle.machine.specs.declared.Event.{Event as EventT}
use Rattle.machine.specs.declared.Process.{Process}
use Rattle.machine.specs.declared.Partition.{Partition}
use Rattle.machine.specs.declared.Module.{Module}
use Rattle.machine.specs.declared.Request.{Request}
use Rattle.machine.specs.declared.Transfer.{Transfer}
use Rattle.machine.specs.declared.Transfer.TheVariants.{Put, HandedTo, Taken, LetIn}
use Rattle.machine.specs.declared.Change.{Change}
use Rattle.machine.specs.declared.Change.TheVariants.{Nothing, Stored, Created, Last, StoredSemaphore, StoredEvent, CreatedBuffer, Moved, StoredBlackboard, Ended, Handed, LevelSet, Entered}
use Rattle.machine.specs.declared.Decision.{Decision}
use Rattle.machine.specs.declared.Decision.TheVariants.{Refused, Unchanged, Ticked, Blocked, Changed, Restarted, Written, Passed as PassedOn}
use Rattle.machine.specs.Limits.{process_limit, semaphore_limit, event_limit, buffer_limit, blackboard_limit}
use Rattle.machine.specs.Fields.{request_of}
use Rattle.machine.specs.Ids.{members, kept}
use Rattle.machine.specs.Process.{object, served, handed, ticked, on_object}
use Rattle.machine.specs.Partition.{within, normal_mode, process, buffer, moved_in, ended_by, created, arrived_last, stored_semaphore, stored_event, stored_buffer, stored_blackboard, waits_on, waiters, changed_all, each, tick_partition, applied, partition_after}
use Rattle.machine.specs.Decisions.{reply_of}
use Rattle.machine.specs.Module.{part}
use Rattle.machine.specs.Step.{step}
use Rattle.machine.specs.Theorems.Valid.{Valid, SoundEnd, SoundModule}
use Rattle.machine.specs.Theorems.Modes.{sets_mode}
use Rattle.machine.proofs.Tests.{by_test, not_both}
use Rattle.machine.proofs.Bounds.{not_so}
use Rattle.machine.proofs.Either.{either}
use Rattle.machine.proofs.Keeping.{Rest, stored_rest, changed_rest, each_changed, process_created}
use Rattle.machine.proofs.Reached.{made}
use Rattle.machine.proofs.PerPartition.{by_partition, own_call, made_stores}
use Rattle.machine.proofs.Stores.{Marked, Marks}
use Rattle.machine.proofs.Fairness.{none_in}

-- ---------------------------------------------------------------- what leaves the mode
abbrev SameMode : Partition → Partition → Type 0
SameMode p q = q.mode ≡ p.mode

rest_mode : (p q : Partition) → Rest p q → SameMode p q
rest_mode p q e = ap (λ (x : Partition). x.mode) e

pub each_mode : (f : Process → Process) (p : Partition) → SameMode p (each f p)
each_mode f p = rw (each_changed f p.process_count 1 p) (rest_mode p _ (changed_rest f _ p))

tick_mode : (t : ℕ) (p : Partition) → SameMode p (tick_partition t p)
unfolding tick_partition
tick_mode t p = by_test (SameMode p) (normal_mode p) (λ _. each_mode (ticked t) p) (λ _. refl)

ended_mode : (a : Transfer) (p : Partition) → SameMode p (ended_by a p)
ended_mode (Put m) p = refl
ended_mode (HandedTo id m) p = rest_mode p _ (stored_rest p id _)
ended_mode Taken p = refl
ended_mode (LetIn id m) p = rest_mode p _ (stored_rest p id _)

-- a change of a call other than 1
change_mode : (n : ℕ) (r : Request) (p : Partition) (a : Change) → Marked n r p a → (n ≡ 1 → ⊥) → SameMode p (applied a p)
unfolding created arrived_last stored_semaphore stored_event stored_buffer stored_blackboard
change_mode n r p Nothing h ne = refl
change_mode n r p (Stored id x) h ne = rest_mode p _ (stored_rest p id x)
change_mode n r p (Created id x) h ne = by_test (SameMode p) (within process_limit id) (λ _. refl) (λ _. refl)
change_mode n r p (Last id) h ne = refl
change_mode n r p (StoredSemaphore k s) h ne = by_test (SameMode p) (within semaphore_limit k) (λ _. refl) (λ _. refl)
change_mode n r p (StoredEvent k s) h ne = by_test (SameMode p) (within event_limit k) (λ _. refl) (λ _. refl)
change_mode n r p (CreatedBuffer k name limit) h ne = by_test (SameMode p) (within buffer_limit k) (λ _. refl) (λ _. refl)
change_mode n r p (Moved k a) h ne = ended_mode a (stored_buffer k (moved_in a (buffer k p)) p) ∙ by_test (SameMode p) (within buffer_limit k) (λ _. refl) (λ _. refl)
change_mode n r p (StoredBlackboard k b) h ne = by_test (SameMode p) (within blackboard_limit k) (λ _. refl) (λ _. refl)
change_mode n r p (Ended o) h ne = rest_mode p _ (changed_rest served (waiters o p) p)
change_mode n r p (Handed o m) h ne = rest_mode p _ (changed_rest (handed m) (waiters o p) p)
change_mode n r p (LevelSet level holder) h ne = refl
change_mode n r p (Entered c) h ne = absurd (ne h)

decided_mode : (n : ℕ) (r : Request) (p : Partition) (d : Decision) → Marks n r p d → (n ≡ 1 → (reply_of d).code ≡ 0 → ⊥) → SameMode p (partition_after d p)
decided_mode n r p (Refused code) h ne = refl
decided_mode n r p (Unchanged v x) h ne = refl
decided_mode n r p Ticked h ne = refl
decided_mode n r p (Blocked id x) h ne = rest_mode p _ (stored_rest p id x)
decided_mode n r p (Changed a b v) h ne = change_mode n r (applied a p) b h.1 (λ z. ne z refl) ∙ change_mode n r p a h.0 (λ z. ne z refl)
decided_mode n r p (Restarted mode) h ne = absurd (ne h.0 refl)
decided_mode n r p (Written i x) h ne = refl
decided_mode n r p (PassedOn i a v) h ne = refl

-- ---------------------------------------------------------------- a partition in IDLE
-- outside NORMAL nobody waits on an object
idle_off : (frame t : ℕ) (p : Partition) → Valid frame t p → mode_number p.mode ≡ 0 → (id : ℕ) → on_object (process id p) ≡ false
idle_off frame t p v z id = not_so (on_object (process id p)) (λ on.
    let b = process_created on_object refl p v.lists id on in
    let x = process id p in
    let h = v.each_process id b in
    let off : normal_mode p ≡ false = rw z in
    let w : object x.wait ≡ 0 = either x.started (λ s. ap object (h.early s off).wait) (λ s. ap object (h.dormant s).wait) in
    not_both _ on (rw w))

idle_unwaited : (frame t : ℕ) (p : Partition) → Valid frame t p → mode_number p.mode ≡ 0 → (o size : ℕ) → take size (waiters o p) ≡ []
unfolding waiters kept
idle_unwaited frame t p v z o size =
    let e : members p.waiting ≡ [] = none_in _ (λ id c. not_both _ c (v.lists.waitings.exact id ∙ idle_off frame t p v z id)) in
    ap (λ (l : List ℕ). take size (kept (waits_on o p) l)) e ∙ none size
  where
    none : (size : ℕ) → ◌≡◌ {A = List ℕ} (take size []) []
    none zero = refl
    none (suc n) = refl

-- a wait that a transfer ends is none of its own
idle_end : (frame t : ℕ) (p : Partition) → Valid frame t p → mode_number p.mode ≡ 0 → (a : Transfer) → SoundEnd p a → ended_by a p ≡ p
idle_end frame t p v z (Put m) h = refl
idle_end frame t p v z (HandedTo id m) h = not_both _ h.1 (idle_off frame t p v z id)
idle_end frame t p v z Taken h = refl
idle_end frame t p v z (LetIn id m) h = not_both _ h.1 (idle_off frame t p v z id)

idle_tick : (t : ℕ) (p : Partition) → mode_number p.mode ≡ 0 → tick_partition t p ≡ p
unfolding tick_partition
idle_tick t p z = rw z

module _ (m : Module) (s : SoundModule m) (e : EventT) where
  abbrev Left : ℕ → Partition → Type 0
  Left i q = (sets_mode (i + 1) m e ≡ false → SameMode (part m i) q) × (mode_number (part m i).mode ≡ 0 → q ≡ part m i)

  pub event_mode : (i : ℕ) → i < m.table.size → Left i (part (step m e).state i)
  unfolding changed_all
  event_mode = by_partition m s e Left
      (λ i l. (λ _. refl, λ _. refl))
      (λ i l. (λ _. tick_mode (m.t + 1) (part m i), λ z. idle_tick (m.t + 1) (part m i) z))
      (λ c is. (
        λ ne. decided_mode _ (request_of e) _ (made m s (request_of e) c) (made_stores m s e c) (λ one zero. not_both _ (rw (own_call m e c 1, one, is, zero)) ne),
        λ z. not_both _ (rw z) c.caller,
      ))
      (λ i l o size frame t p v h. (
        λ ne. rest_mode p _ (changed_rest served (take size (waiters o p)) p) ∙ h.0 ne,
        λ z. rw (idle_unwaited frame t p v (ap (λ (x : Partition). mode_number x.mode) (h.1 z) ∙ z) o size) (h.1 z),
      ))
      (λ i l a h. (λ _. ended_mode a (part m i), λ z. idle_end m.table.frame m.t (part m i) (s.each_partition i l) z a h))
