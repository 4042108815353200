-- Where a current priority comes from: one event, every list. Assumes nothing.
use Prim.Native.Nat.{ℕ, ◌-◌, ◌≤◌}
use mathlib.Core.Path.{◌≡◌, refl, sym, ap, ◌∙◌}
use mathlib.Core.Bool.{true, ◌&&◌, ◌||◌, and-false}
use mathlib.Core.List.{List, [], ◌∷◌}
use mathlib.Core.Logic.{inl, inr, ⊎_elim}
use native.Mathlib.Omega.{arith}
use lib.IntN.{ℤ, pos, negsuc}
use lib.ListN.{get_or-replicate}
use lib.Dec.{eqb, leb}
use borrow.Author.Tests.{eq-eqb, eqb-true, eqb-false, leb-true, le-leb}
use Rattle.machine.specs.declared.Process.{Process}
use Rattle.machine.specs.declared.Event.{Event as EventT}
use Rattle.machine.specs.declared.Module.{Module}
use Rattle.machine.specs.Limits.{partition_limit, process_limit}
use Rattle.machine.specs.Process.{blank_process}
use Rattle.machine.specs.Partition.{process, fresh_partition}
use Rattle.machine.specs.Module.{channel, no_partition, empty_table, empty_module, fresh_module}
use Rattle.machine.specs.Step.{step}
use Rattle.machine.specs.Table.{read_table}
use Rattle.machine.specs.Runs.{after}
use Rattle.machine.specs.Theorems.Valid.{Between, SoundModule, Reached}
use Rattle.machine.specs.Theorems.Plain.{plain_between, plain_number}
use Rattle.machine.specs.Theorems.Events.{own}
use Rattle.machine.specs.Theorems.EachCall.{id_of}
use Rattle.machine.specs.Theorems.EachProcess.{Call, CallOf, StartOf, Erasure, Service, Becomes}
use Rattle.machine.specs.Theorems.Priorities.{priority_after, priority_after_all, NoneGives, Priorities}
use Rattle.machine.proofs.Tests.{and_left, and_right, not_both}
use Rattle.machine.proofs.Either.{either}
use Rattle.machine.proofs.Answers.{step_table}
use Rattle.machine.proofs.Reached.{valid_sound, reached_valid}
use Rattle.machine.proofs.Tables.{table_read}
use Rattle.machine.proofs.Bounds.{named_replicate}
use Rattle.machine.proofs.Alike.{same_current}
use Rattle.machine.proofs.Turns.{same_number}
use Rattle.machine.proofs.EachProcess.{each_process_holds}

-- ---------------------------------------------------------------- numbers
pub number_at : (n : ℕ) (z : ℤ) → plain_number n z ≡ true → z ≡ pos n
number_at n (pos i) h = ap pos (eqb-true i n h)
number_at n (negsuc i) h = not_both _ h refl

low_mode : (z : ℤ) → plain_between 0 2 z ≡ true → (z ≡ pos (id_of z)) × (id_of z ≤ 2)
low_mode (pos n) h = (refl, leb-true n 2 (and_right (leb 0 n) (leb n 2) h))
low_mode (negsuc n) h = not_both _ h refl

-- ---------------------------------------------------------------- one event
module _ (m : Module) (e : EventT) (k id : ℕ) where
  abbrev code : ℕ
  code = (step m e).answer.code

  -- none of the events that give a priority
  record Quiet : Type 0 where
    start : StartOf m e code k id → ⊥
    priority : CallOf m e code k id 12 → ⊥
    erase : Erasure m e code k id → ⊥

  quiet_stays : Quiet → (n : ℕ) → priority_after m e k id n ≡ n
  quiet_stays q n = either (eqb code 0 && plain_number k e.partition)
      (λ t.
      let zero = eqb-true code 0 (and_left (eqb code 0) _ t) in
      let by = number_at k e.partition (and_right (eqb code 0) _ t) in
      either (plain_number id e.a && (plain_number 3 e.call || plain_number 4 e.call))
      (λ u.
      let a = number_at id e.a (and_left (plain_number id e.a) _ u) in
      absurd (either (plain_number 3 e.call)
      (λ w. q.start (inl ((by, number_at 3 e.call w, zero), a)))
      (λ w. q.start (inr ((by, number_at 4 e.call (rw w at (and_right (plain_number id e.a) _ u)), zero), a)))))
      (λ u. either (plain_number id e.a && plain_number 12 e.call)
      (λ w. absurd (q.priority ((by, number_at 12 e.call (and_right (plain_number id e.a) _ w), zero), number_at id e.a (and_left (plain_number id e.a) _ w))))
      (λ w. either (plain_number 1 e.call && plain_between 0 2 e.a)
      (λ v. let l = low_mode e.a (and_right (plain_number 1 e.call) _ v) in absurd (q.erase (record { call = (by, number_at 1 e.call (and_left (plain_number 1 e.call) _ v), zero); mode = id_of e.a; is = l.0; low = l.1 })))
      (λ v. rw (t, u, w, v)))))
      (λ t. rw t)

  started_gives : StartOf m e code k id → (n : ℕ) → priority_after m e k id n ≡ (process id (own m k)).given.base
  started_gives (inl c) n = rw (c.0.2, c.0.0, c.0.1, c.1, eq-eqb k k refl, eq-eqb id id refl)
  started_gives (inr c) n = rw (c.0.2, c.0.0, c.0.1, c.1, eq-eqb k k refl, eq-eqb id id refl)

  priority_gives : CallOf m e code k id 12 → (n : ℕ) → priority_after m e k id n ≡ id_of e.b
  priority_gives c n = rw (c.0.2, c.0.0, c.0.1, c.1, eq-eqb k k refl, eq-eqb id id refl)

  erased_gives : Erasure m e code k id → (n : ℕ) → priority_after m e k id n ≡ 0
  erased_gives c n = rw (c.call.2, c.call.0, c.call.1, c.is, eq-eqb k k refl, and-false (eqb c.mode id), le-leb 0 c.mode (omega arith), le-leb c.mode 2 c.low)

  -- a call of another number
  quiet_call : (n : ℕ) → e.call ≡ pos n → (n ≡ 1 → ⊥) → (n ≡ 3 → ⊥) → (n ≡ 4 → ⊥) → (n ≡ 12 → ⊥) → Quiet
  quiet_call n call a b c d =
      let is : (j : ℕ) → e.call ≡ pos j → n ≡ j = λ j z. same_number (sym call ∙ z) in
      record {
        start = ⊎_elim (λ (g : CallOf m e code k id 3). b (is 3 g.0.1)) (λ (g : CallOf m e code k id 4). c (is 4 g.0.1));
        priority = λ g. d (is 12 g.0.1);
        erase = λ g. a (is 1 g.call.1);
      }

  -- no call of the partition answered 0
  quiet_none : ((n : ℕ) → Call m e code k id n 0 → ⊥) → Quiet
  quiet_none z = record {
    start = ⊎_elim (λ (g : CallOf m e code k id 3). z 3 g.0) (λ (g : CallOf m e code k id 4). z 4 g.0);
    priority = λ g. z 12 g.0;
    erase = λ g. z 1 g.call;
  }

  quiet_from : (h : ℕ) → e.partition ≡ pos h → (h ≡ k → ⊥) → Quiet
  quiet_from h by other = quiet_none (λ n c. other (same_number (sym by ∙ c.0)))

  quiet_seven : code ≡ 7 → Quiet
  quiet_seven z = quiet_none (λ n c. omega (arith, z, c.2))

  quiet_service : SoundModule m → Service m e code k id → Quiet
  quiet_service s (Service.here n message c is some) = quiet_call n c.1 (λ z. some (is ∙ rw z)) (λ z. some (is ∙ rw z)) (λ z. some (is ∙ rw z)) (λ z. some (is ∙ rw z))
  quiet_service s (Service.sent i l by call a zero end on) = quiet_call 30 call (λ z. omega arith) (λ z. omega arith) (λ z. omega arith) (λ z. omega arith)
  quiet_service s (Service.taken i message l by call a zero end on) = quiet_call 31 call (λ z. omega arith) (λ z. omega arith) (λ z. omega arith) (λ z. omega arith)
  quiet_service s (Service.restart i message mode l by call a low zero end on) = quiet_from (channel m.table i).destination by (λ z. (s.table.each_channel i l).apart (sym end ∙ sym z))

  abbrev Given : Process → Type 0
  Given y = y.current ≡ priority_after m e k id (process id (own m k)).current

  kept : (y : Process) → y.current ≡ (process id (own m k)).current → Quiet → Given y
  kept y is q = is ∙ sym (quiet_stays q _)

  current_by : SoundModule m → 1 ≤ k → (y : Process) → Becomes m e code k id y → Given y
  current_by s low y (Becomes.same u is) = kept y (same_current is) (record { start = u.start; priority = u.priority; erase = u.erase })
  current_by s low y (Becomes.ticked t is) = kept y (same_current is) (quiet_from 0 t.0 (λ z. omega arith))
  current_by s low y (Becomes.created c none is) = kept y (same_current is ∙ sym (same_current none)) (quiet_call 2 c.1 (λ z. omega arith) (λ z. omega arith) (λ z. omega arith) (λ z. omega arith))
  current_by s low y (Becomes.started c off is in_normal early) = same_current is ∙ sym (started_gives c _)
  current_by s low y (Becomes.stopped (inl c) is) = kept y (same_current is) (quiet_call 5 c.0.1 (λ z. omega arith) (λ z. omega arith) (λ z. omega arith) (λ z. omega arith))
  current_by s low y (Becomes.stopped (inr c) is) = kept y (same_current is) (quiet_call 6 c.0.1 (λ z. omega arith) (λ z. omega arith) (λ z. omega arith) (λ z. omega arith))
  current_by s low y (Becomes.suspended c on off is) = kept y (same_current is) (quiet_call 7 c.0.1 (λ z. omega arith) (λ z. omega arith) (λ z. omega arith) (λ z. omega arith))
  current_by s low y (Becomes.suspended_self c none is) = kept y (same_current is) (quiet_seven c.0.2)
  current_by s low y (Becomes.waiting n message c ten none some is) = kept y (same_current is) (quiet_seven c.0.2)
  current_by s low y (Becomes.released c none is) = kept y (same_current is) (quiet_seven c.0.2)
  current_by s low y (Becomes.resumed c on marked is) = kept y (same_current is) (quiet_call 11 c.0.1 (λ z. omega arith) (λ z. omega arith) (λ z. omega arith) (λ z. omega arith))
  current_by s low y (Becomes.prioritised c on is) = same_current is ∙ sym (priority_gives c _)
  current_by s low y (Becomes.served c is) = kept y (same_current is) (quiet_service s c)
  current_by s low y (Becomes.entered c is wait) = kept y (same_current is) (record {
    start = ⊎_elim (λ (g : CallOf m e code k id 3). omega (arith, same_number (sym c.call.1 ∙ g.0.1))) (λ (g : CallOf m e code k id 4). omega (arith, same_number (sym c.call.1 ∙ g.0.1)));
    priority = λ g. omega (arith, same_number (sym c.call.1 ∙ g.0.1));
    erase = λ g. omega (arith, same_number (sym c.is ∙ g.is), g.low);
  })
  current_by s low y (Becomes.erased c is) = same_current is ∙ sym (erased_gives c _)

module _ (m : Module) (h : Reached m) (k id : ℕ) (b : Between 1 m.table.size k) where
  event_current : (e : EventT) → (process id (own (step m e).state k)).current ≡ priority_after m e k id (process id (own m k)).current
  event_current e = current_by m e k id (valid_sound m (reached_valid m h) (k - 1) (omega (arith, b.0, b.1))) b.0 _ (each_process_holds m h e k id b)

  pub between_after : (e : EventT) → Between 1 (step m e).state.table.size k
  between_after e = rw (step_table m e) b

-- ---------------------------------------------------------------- every list
list_current : (k id : ℕ) (es : List EventT) (m : Module) → Reached m → Between 1 m.table.size k → (process id (own (after m es) k)).current ≡ priority_after_all k id m (process id (own m k)).current es
unfolding priority_after_all
list_current k id [] m h b = refl
list_current k id (e ∷ es) m h b =
    list_current k id es (step m e).state (Reached.stepped m e h) (between_after m h k id b e)
    ∙ ap (λ n. priority_after_all k id (step m e).state n es) (event_current m h k id b e)

list_stays : (k id : ℕ) (es : List EventT) (m : Module) → Reached m → Between 1 m.table.size k → NoneGives k id m es → (process id (own (after m es) k)).current ≡ (process id (own m k)).current
unfolding NoneGives
list_stays k id [] m h b q = refl
list_stays k id (e ∷ es) m h b q =
    list_stays k id es (step m e).state (Reached.stepped m e h) (between_after m h k id b e) q.3
    ∙ event_current m h k id b e ∙ quiet_stays m e k id (record { start = q.0; priority = q.1; erase = q.2 }) _

-- the record that reading a table gives has no process
none_created : (input : List ℕ) (k id : ℕ) → Between 1 (read_table input).state.table.size k → process id (own (read_table input).state k) ≡ blank_process
unfolding fresh_module fresh_partition empty_module empty_table
none_created input k id b = either (eqb (read_table input).code 0)
    (λ t.
    let a = (table_read input).accepted (eqb-true _ 0 t) in
    ap (λ (q : Module). process id (own q k)) a.1 ∙ ap (process id) (get_or-replicate partition_limit (k - 1) fresh_partition no_partition (omega (arith, b.0, b.1, a.0.size.1))) ∙ named_replicate process_limit process_limit id blank_process)
    (λ t. absurd (omega (arith, b.0, b.1, ap (λ (q : Module). q.table.size) ((table_read input).refused (eqb-false _ 0 t)))))

-- Law. Where a current priority comes from.
pub priorities : Priorities
priorities = record {
  event = λ m h e k id b. event_current m h k id b e;
  events = λ m h es k id b. list_current k id es m h b;
  whole = λ input es k id b. list_current k id es (read_table input).state (Reached.read input) b ∙ ap (λ n. priority_after_all k id (read_table input).state n es) (same_current (none_created input k id b));
  stays = λ m h es k id b q. list_stays k id es m h b q;
}
