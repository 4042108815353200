-- An event and a blackboard stay as they are until a call sets them or their partition is erased. Assumes nothing.
use Rattle.machine.specs.declared.Mode.TheVariants.{Normal as NormalMode}
use Prim.Native.Nat.{ℕ, ◌+◌, ◌-◌, ◌≤◌, ◌<◌}
use mathlib.Core.Path.{◌≡◌, refl, ap, sym, ◌∙◌}
use mathlib.Core.Bool.{true, false}
use mathlib.Core.Logic.{◌⊎◌, ⊎_elim}
use native.Mathlib.Omega.{arith}
use lib.ListN.{take}
use lib.IntN.{pos}
use borrow.Author.Tests.{eq-eqb}
use Rattle.machine.specs.declared.Event.{Event as EventT}
use Rattle.machine.specs.declared.EventRecord.{EventRecord}
use Rattle.machine.specs.declared.Process.{Process}
use Rattle.machine.specs.declared.Partition.{Partition}
use Rattle.machine.specs.declared.Module.{Module}
use Rattle.machine.specs.declared.Request.{Request}
use Rattle.machine.specs.declared.Transfer.{Transfer}
use Rattle.machine.specs.declared.Transfer.TheVariants.{Put, HandedTo, Taken, LetIn}
use Rattle.machine.specs.declared.Change.{Change}
use Rattle.machine.specs.declared.Change.TheVariants.{Nothing, Stored, Created, Last, StoredSemaphore, StoredEvent, CreatedBuffer, Moved, StoredBlackboard, Ended, Handed, LevelSet, Entered}
use Rattle.machine.specs.declared.Decision.{Decision}
use Rattle.machine.specs.declared.Decision.TheVariants.{Refused, Unchanged, Ticked, Blocked, Changed, Restarted, Written, Passed as PassedOn}
use Rattle.machine.specs.Limits.{process_limit, semaphore_limit, event_limit, buffer_limit, blackboard_limit}
use Rattle.machine.specs.Fields.{request_of, number_of}
use Rattle.machine.specs.Process.{served, handed, ticked, entered}
use Rattle.machine.specs.Partition.{within, normal_mode, no_event, no_blackboard, buffer, event, blackboard, moved_in, ended_by, created, arrived_last, stored_semaphore, stored_buffer, waiters, each, tick_partition, entered_normal, with_mode, applied, partition_after}
use Rattle.machine.specs.Decisions.{reply_of}
use Rattle.machine.specs.Module.{part}
use Rattle.machine.specs.Step.{step}
use Rattle.machine.specs.Runs.{answered_event}
use Rattle.machine.specs.Theorems.Valid.{Between, SoundModule}
use Rattle.machine.specs.Theorems.Account.{code_at, restarts_by}
use Rattle.machine.specs.Theorems.Latest.{done}
use Rattle.machine.proofs.Tests.{by_test, not_both}
use Rattle.machine.proofs.Bounds.{within_out, named_other, event_in, event_out, blackboard_in, blackboard_out}
use Rattle.machine.proofs.Either.{either}
use Rattle.machine.proofs.Keeping.{Rest, stored_rest, changed_rest, each_changed}
use Rattle.machine.proofs.Dispatch.{Calls}
use Rattle.machine.proofs.Calling.{number_of_holds}
use Rattle.machine.proofs.Reached.{made}
use Rattle.machine.proofs.Stores.{Marked, Marks}
use Rattle.machine.proofs.PerPartition.{by_partition, own_number, own_call, restart_told, made_stores}
use Rattle.machine.proofs.Sampling.{done_so}

-- ---------------------------------------------------------------- what leaves events and blackboards
-- those that exist stay, but for the one that a call 18 or 19, 27 or 29 names
record Left (n : ℕ) (r : Request) (p q : Partition) : Type 0 where
  event_count : p.event_count ≤ q.event_count
  board_count : p.blackboard_count ≤ q.blackboard_count
  events : (j : ℕ) → j ≤ p.event_count → ((n ≡ 18) ⊎ (n ≡ 19) → j ≡ number_of r.a → ⊥) → event j q ≡ event j p
  boards : (j : ℕ) → j ≤ p.blackboard_count → ((n ≡ 27) ⊎ (n ≡ 29) → j ≡ number_of r.a → ⊥) → blackboard j q ≡ blackboard j p

module _ (n : ℕ) (r : Request) where
  -- where both lists and their counts are as they were
  same_left : (p q : Partition) → q.events ≡ p.events → q.event_count ≡ p.event_count → q.blackboards ≡ p.blackboards → q.blackboard_count ≡ p.blackboard_count → Left n r p q
  same_left p q a b c d = record { event_count = omega arith; board_count = omega arith; events = λ j _ _. rw a; boards = λ j _ _. rw c }

  rest_left : (p q : Partition) → Rest p q → Left n r p q
  rest_left p q e = same_left p q (ap (λ (x : Partition). x.events) e) (ap (λ (x : Partition). x.event_count) e) (ap (λ (x : Partition). x.blackboards) e) (ap (λ (x : Partition). x.blackboard_count) e)

  left_along : (p q s : Partition) → Left n r p q → Left n r q s → Left n r p s
  left_along p q s f g = record {
    event_count = omega (arith, f.event_count, g.event_count);
    board_count = omega (arith, f.board_count, g.board_count);
    events = λ j l h. g.events j (omega (arith, f.event_count)) h ∙ f.events j l h;
    boards = λ j l h. g.boards j (omega (arith, f.board_count)) h ∙ f.boards j l h;
  }

  each_left : (f : Process → Process) (p : Partition) → Left n r p (each f p)
  each_left f p = rw (each_changed f p.process_count 1 p) (rest_left p _ (changed_rest f _ p))

  ended_left : (a : Transfer) (p : Partition) → Left n r p (ended_by a p)
  ended_left (Put m) p = same_left p p refl refl refl refl
  ended_left (HandedTo id m) p = rest_left p _ (stored_rest p id _)
  ended_left Taken p = same_left p p refl refl refl refl
  ended_left (LetIn id m) p = rest_left p _ (stored_rest p id _)

  tick_left : (t : ℕ) (p : Partition) → Left n r p (tick_partition t p)
  unfolding tick_partition
  tick_left t p = by_test (Left n r p) (normal_mode p) (λ _. each_left (ticked t) p) (λ _. same_left p p refl refl refl refl)

  change_left : (p : Partition) (a : Change) → Marked n r p a → Left n r p (applied a p)
  unfolding created arrived_last stored_semaphore stored_buffer entered_normal
  change_left p Nothing h = same_left p p refl refl refl refl
  change_left p (Stored id x) h = rest_left p _ (stored_rest p id x)
  change_left p (Created id x) h = by_test (Left n r p) (within process_limit id) (λ _. same_left p _ refl refl refl refl) (λ _. same_left p p refl refl refl refl)
  change_left p (Last id) h = same_left p _ refl refl refl refl
  change_left p (StoredSemaphore k s) h = by_test (Left n r p) (within semaphore_limit k) (λ _. same_left p _ refl refl refl refl) (λ _. same_left p p refl refl refl refl)
  change_left p (StoredEvent k s) h = either (within event_limit k)
      (λ e. rw (event_in k s p e) (record {
        event_count = omega arith;
        board_count = omega arith;
        events = λ j l none. named_other event_limit no_event k s p.events (within_out event_limit k e).0 j (λ z. let g = h.1 (rw z at l) in none g.0 (z ∙ g.1));
        boards = λ j _ _. refl;
      }))
      (λ e. rw (event_out k s p e) (same_left p p refl refl refl refl))
  change_left p (CreatedBuffer k name limit) h = by_test (Left n r p) (within buffer_limit k) (λ _. same_left p _ refl refl refl refl) (λ _. same_left p p refl refl refl refl)
  change_left p (Moved k a) h =
      let q = stored_buffer k (moved_in a (buffer k p)) p in
      left_along p q _ (by_test (Left n r p) (within buffer_limit k) (λ _. same_left p _ refl refl refl refl) (λ _. same_left p p refl refl refl refl)) (ended_left a q)
  change_left p (StoredBlackboard k s) h = either (within blackboard_limit k)
      (λ e. rw (blackboard_in k s p e) (record {
        event_count = omega arith;
        board_count = omega arith;
        events = λ j _ _. refl;
        boards = λ j l none. named_other blackboard_limit no_blackboard k s p.blackboards (within_out blackboard_limit k e).0 j (λ z. let g = h.1 (rw z at l) in none g.0 (z ∙ g.1));
      }))
      (λ e. rw (blackboard_out k s p e) (same_left p p refl refl refl refl))
  change_left p (Ended o) h = rest_left p _ (changed_rest served (waiters o p) p)
  change_left p (Handed o m) h = rest_left p _ (changed_rest (handed m) (waiters o p) p)
  change_left p (LevelSet level holder) h = same_left p _ refl refl refl refl
  change_left p (Entered c) h = left_along p (with_mode NormalMode p) _ (same_left p _ refl refl refl refl) (each_left (entered c) (with_mode NormalMode p))

-- ---------------------------------------------------------------- one event
module _ (m : Module) (e : EventT) where
  abbrev here : EventRecord
  here = answered_event m e

  -- those of partition k that exist stay, but for the one of which the event is an accepted 18 or 19, 27 or 29
  pub record LeftBy (k : ℕ) (p q : Partition) : Type 0 where
    pub event_count : p.event_count ≤ q.event_count
    pub board_count : p.blackboard_count ≤ q.blackboard_count
    pub events : (j : ℕ) → Between 1 p.event_count j → done k 18 j here ≡ false → done k 19 j here ≡ false → event j q ≡ event j p
    pub boards : (j : ℕ) → Between 1 p.blackboard_count j → done k 27 j here ≡ false → done k 29 j here ≡ false → blackboard j q ≡ blackboard j p

  -- no call of the partition's own
  none : (a b : ℕ) → 1 ≤ a → 1 ≤ b → {X : Type 0} → (0 ≡ a) ⊎ (0 ≡ b) → X
  none a b x y = ⊎_elim (λ (z : 0 ≡ a). absurd (omega arith)) (λ (z : 0 ≡ b). absurd (omega arith))

  by_along : (k : ℕ) (p q s : Partition) → LeftBy k p q → Left 0 (request_of e) q s → LeftBy k p s
  by_along k p q s f g = record {
    event_count = omega (arith, f.event_count, g.event_count);
    board_count = omega (arith, f.board_count, g.board_count);
    events = λ j b x y. g.events j (omega (arith, b.1, f.event_count)) (none 18 19 (omega arith) (omega arith)) ∙ f.events j b x y;
    boards = λ j b x y. g.boards j (omega (arith, b.1, f.board_count)) (none 27 29 (omega arith) (omega arith)) ∙ f.boards j b x y;
  }

  by_same : (k : ℕ) (p : Partition) → LeftBy k p p
  by_same k p = record { event_count = omega arith; board_count = omega arith; events = λ _ _ _ _. refl; boards = λ _ _ _ _. refl }

  by_left : (k : ℕ) (p q : Partition) → Left 0 (request_of e) p q → LeftBy k p q
  by_left k p q g = by_along k p p q (by_same k p) g

  module _ (s : SoundModule m) (c : Calls m (request_of e)) where
    abbrev r : Request
    r = request_of e

    abbrev k : ℕ
    k = number_of r.partition

    abbrev p : Partition
    p = part m (k - 1)

    -- a call of its own that is answered 0
    told : code_at m e ≡ 0 → (x j : ℕ) → 1 ≤ j → number_of r.call ≡ x → j ≡ number_of r.a → done (k - 1 + 1) x j here ≡ true
    told z x j some is at = done_so m e (k - 1 + 1) x j (own_call m e c x ∙ eq-eqb _ x is) (rw (number_of_holds e.a (λ y. omega arith) ∙ ap pos (sym at)) (eq-eqb j j refl)) z

    own_left : (q : Partition) → code_at m e ≡ 0 → Left (number_of r.call) r p q → LeftBy (k - 1 + 1) p q
    own_left q z g = record {
      event_count = g.event_count;
      board_count = g.board_count;
      events = λ j b x y. g.events j b.1 (λ w at. ⊎_elim (λ (i : number_of r.call ≡ 18). not_both _ (told z 18 j b.0 i at) x) (λ (i : number_of r.call ≡ 19). not_both _ (told z 19 j b.0 i at) y) w);
      boards = λ j b x y. g.boards j b.1 (λ w at. ⊎_elim (λ (i : number_of r.call ≡ 27). not_both _ (told z 27 j b.0 i at) x) (λ (i : number_of r.call ≡ 29). not_both _ (told z 29 j b.0 i at) y) w);
    }

    decided_left : restarts_by (k - 1 + 1) e (code_at m e) ≡ false → (d : Decision) → Marks (number_of r.call) r p d → code_at m e ≡ (reply_of d).code → LeftBy (k - 1 + 1) p (partition_after d p)
    decided_left lasts (Refused n) h is = by_same _ p
    decided_left lasts (Unchanged v x) h is = by_same _ p
    decided_left lasts Ticked h is = by_same _ p
    decided_left lasts (Blocked id x) h is = by_left _ p _ (rest_left 0 r p _ (stored_rest p id x))
    decided_left lasts (Changed a b v) h is = own_left _ is (left_along _ r p (applied a p) _ (change_left _ r p a h.0) (change_left _ r (applied a p) b h.1))
    decided_left lasts (Restarted mode) h is = not_both _ (rw (own_number m e c) (restart_told m e c h.0 h.1 is)) lasts
    decided_left lasts (Written i x) h is = by_same _ p
    decided_left lasts (PassedOn i a v) h is = by_same _ p

  pub event_left : SoundModule m → (i : ℕ) → i < m.table.size → restarts_by (i + 1) e (code_at m e) ≡ false → LeftBy (i + 1) (part m i) (part (step m e).state i)
  event_left s = by_partition m s e (λ i q. restarts_by (i + 1) e (code_at m e) ≡ false → LeftBy (i + 1) (part m i) q)
      (λ i _ _. by_same (i + 1) (part m i))
      (λ i _ _. by_left (i + 1) (part m i) _ (tick_left 0 (request_of e) (m.t + 1) (part m i)))
      (λ c is lasts. decided_left s c lasts (made m s (request_of e) c) (made_stores m s e c) is)
      (λ i _ o size _ _ p _ h lasts. by_along (i + 1) (part m i) p _ (h lasts) (rest_left 0 (request_of e) p _ (changed_rest served (take size (waiters o p)) p)))
      (λ i _ a _ _. by_left (i + 1) (part m i) _ (ended_left 0 (request_of e) a (part m i)))
