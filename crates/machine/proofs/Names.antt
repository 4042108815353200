-- Names differ, in every reached record. Assumes nothing.
use Rattle.machine.specs.Mode.{mode_number}
use Rattle.machine.specs.declared.Mode.TheVariants.{Normal as NormalMode}
use Prim.Native.Nat.{ℕ, ◌+◌, ◌-◌, ◌≤◌, ◌<◌, max}
use mathlib.Core.Path.{◌≡◌, refl, ap, sym, ◌∙◌}
use mathlib.Core.Bool.{true}
use mathlib.Core.List.{List}
use mathlib.Core.Logic.{inl, inr, ⊎_elim}
use native.Mathlib.Omega.{arith}
use lib.ListN.{set, take, get_or-replicate}
use lib.Dec.{eqb}
use borrow.Author.Tests.{eqb-true, eqb-false}
use Rattle.machine.specs.declared.Event.{Event as EventT}
use Rattle.machine.specs.declared.Given.{Given}
use Rattle.machine.specs.declared.Process.{Process}
use Rattle.machine.specs.declared.Table.{Table}
use Rattle.machine.specs.declared.Semaphore.{Semaphore as SemaphoreT}
use Rattle.machine.specs.declared.EventState.{EventState}
use Rattle.machine.specs.declared.Buffer.{Buffer}
use Rattle.machine.specs.declared.Blackboard.{Blackboard as BlackboardT}
use Rattle.machine.specs.declared.Partition.{Partition}
use Rattle.machine.specs.declared.Module.{Module}
use Rattle.machine.specs.declared.Request.{Request}
use Rattle.machine.specs.declared.Context.{Context}
use Rattle.machine.specs.declared.Transfer.{Transfer}
use Rattle.machine.specs.declared.Transfer.TheVariants.{Put, HandedTo, Taken, LetIn}
use Rattle.machine.specs.declared.Change.{Change}
use Rattle.machine.specs.declared.Change.TheVariants.{Nothing, Stored, Created, Last, StoredSemaphore, StoredEvent, CreatedBuffer, Moved, StoredBlackboard, Ended, Handed, LevelSet, Entered}
use Rattle.machine.specs.declared.Decision.{Decision}
use Rattle.machine.specs.declared.Decision.TheVariants.{Refused, Unchanged, Ticked, Blocked, Changed, Restarted, Written, Passed as PassedOn}
use Rattle.machine.specs.Limits.{process_limit, semaphore_limit, event_limit, buffer_limit, blackboard_limit, partition_limit}
use Rattle.machine.specs.Fields.{request_of, number_of}
use Rattle.machine.specs.Process.{blank_process, served, handed, ticked, entered}
use Rattle.machine.specs.Partition.{by_id, within, normal_mode, no_semaphore, no_event, no_buffer, no_blackboard, process, buffer, empty_buffer, moved_in, ended_by, stored, arrived_last, stored_buffer, waiters, changed_all, each, tick_partition, entered_normal, with_mode, applied, partition_after, nothing_created, fresh_partition}
use Rattle.machine.specs.Table.{read_table}
use Rattle.machine.specs.Module.{no_partition, empty_table, empty_module, fresh_module, part}
use Rattle.machine.specs.Step.{context_of, step}
use Rattle.machine.specs.Theorems.Valid.{Between, contains, Distinct, Valid, ListedIn, Numbered, SoundContext, SoundDecision, SoundModule, Reached}
use Rattle.machine.specs.Theorems.Names.{Differ, NamesDiffer, Names}
use Rattle.machine.proofs.Tests.{by_test}
use Rattle.machine.proofs.Bounds.{same_or_not, within_out, named_same, named_other, created_in, created_out, semaphore_in, semaphore_out, event_in, event_out, buffer_in, buffer_out, blackboard_in, blackboard_out}
use Rattle.machine.proofs.Either.{either}
use Rattle.machine.proofs.Keeping.{AllCreated, Rest, stored_rest, changed_rest, each_rest, each_process_holds, changed_process, process_stored, process_other}
use Rattle.machine.proofs.Kept.{change_valid, waiters_created, waiters_distinct, firsts_created, firsts_distinct}
use Rattle.machine.proofs.Reached.{place, context_sound, made, made_sound, valid_sound, reached_valid}
use Rattle.machine.proofs.Tables.{table_read}
use Rattle.machine.proofs.Account.{step_size}
use Rattle.machine.proofs.PerPartition.{by_partition, made_stores}
use Rattle.machine.proofs.Stores.{Free, TakesName, Marked, Marks, ticked_given, entered_given}

-- ---------------------------------------------------------------- names
-- the same names
differ_same : (f g : ℕ → ℕ) (n : ℕ) → ((y : ℕ) → Between 1 n y → g y ≡ f y) → Differ f n → Differ g n
differ_same f g n e d i j a b h = d i j a b (sym (e i a) ∙ h ∙ e j b)

-- one more, whose name none has
differ_next : (f g : ℕ → ℕ) (n name : ℕ) → ((y : ℕ) → Between 1 n y → g y ≡ f y) → g (n + 1) ≡ name → Free f n name → Differ f n → Differ g (n + 1)
differ_next f g n name e new free d i j a b h = ⊎_elim
    (λ (x : i ≡ n + 1). ⊎_elim
    (λ (y : j ≡ n + 1). x ∙ sym y)
    (λ (y : j ≡ n + 1 → ⊥). let low : Between 1 n j = (b.0, omega (arith, b.1)) in absurd (free j low (sym (e j low) ∙ sym h ∙ ap g x ∙ new)))
    (same_or_not j (n + 1)))
    (λ (x : i ≡ n + 1 → ⊥).
    let left : Between 1 n i = (a.0, omega (arith, a.1)) in
    ⊎_elim
    (λ (y : j ≡ n + 1). absurd (free i left (sym (e i left) ∙ h ∙ ap g y ∙ new)))
    (λ (y : j ≡ n + 1 → ⊥). let low : Between 1 n j = (b.0, omega (arith, b.1)) in d i j left low (sym (e i left) ∙ h ∙ e j low))
    (same_or_not j (n + 1)))
    (same_or_not i (n + 1))

-- one stored, of any kind
module _ {A : Type 0} (name_of : A → ℕ) (limit : ℕ) (d : A) (l : List A) (n : ℕ) (s : Numbered limit d l n) (k : ℕ) (in-limit : within limit k ≡ true) (a : A) where
  abbrev called : List A → ℕ → ℕ
  called l y = name_of (by_id limit d y l)

  abbrev lo : 1 ≤ k
  lo = (within_out limit k in-limit).0

  called_same : called (set l (k - 1) a) k ≡ name_of a
  called_same = let hi = (within_out limit k in-limit).1 in ap name_of (named_same limit d k a l lo hi (omega (arith, s.size)))

  called_other : (y : ℕ) → (y ≡ k → ⊥) → called (set l (k - 1) a) y ≡ called l y
  called_other y ne = ap name_of (named_other limit d k a l lo y ne)

  differ_set : TakesName (called l) n k (name_of a) → Differ (called l) n → Differ (called (set l (k - 1) a)) (max n k)
  differ_set (inl h) f =
      let m : max n k ≡ n = omega (arith, h.0.1) in
      rw m (differ_same (called l) (called (set l (k - 1) a)) n (λ y _. ⊎_elim
      (λ (e : y ≡ k). rw e (called_same ∙ h.1))
      (λ (ne : y ≡ k → ⊥). called_other y ne)
      (same_or_not y k)) f)
  differ_set (inr h) f =
      let m : max n k ≡ n + 1 = omega (arith, h.0) in
      rw m (differ_next (called l) (called (set l (k - 1) a)) n (name_of a) (λ y b. called_other y (λ e. omega (arith, b.1, h.0))) (ap (called (set l (k - 1) a)) (sym h.0) ∙ called_same) h.1 f)

-- ---------------------------------------------------------------- changes of processes
rest_names : (p q : Partition) → Rest p q → ((y : ℕ) → Between 1 p.process_count y → (process y q).given ≡ (process y p).given) → NamesDiffer p → NamesDiffer q
rest_names p q e g h = rw e (record {
  processes = differ_same (λ y. (process y p).given.name) (λ y. (process y q).given.name) p.process_count (λ y b. ap (λ (x : Given). x.name) (g y b)) h.processes;
  semaphores = h.semaphores;
  events = h.events;
  buffers = h.buffers;
  blackboards = h.blackboards;
})

stored_names : (p : Partition) → ListedIn p → (id : ℕ) (x : Process) → x.given ≡ (process id p).given → NamesDiffer p → NamesDiffer (stored id x p)
stored_names p v id x g = rest_names p _ (stored_rest p id x) (λ y b. ⊎_elim
    (λ (e : y ≡ id). rw e (ap (λ (z : Process). z.given) (process_stored p id x v (rw e at b)) ∙ g))
    (λ (ne : y ≡ id → ⊥). ap (λ (z : Process). z.given) (process_other p id x y ne))
    (same_or_not y id))

all_names : (f : Process → Process) → ((x : Process) → (f x).given ≡ x.given) → (l : List ℕ) (p : Partition) → ListedIn p → AllCreated l p.process_count → Distinct l → NamesDiffer p → NamesDiffer (changed_all f l p)
all_names f g l p v all once = rest_names p _ (changed_rest f l p) (λ y b. ap (λ (z : Process). z.given) (changed_process f l p v all once y) ∙ by_test (λ (z : Process). z.given ≡ (process y p).given) (contains y l) (λ _. g (process y p)) (λ _. refl))

each_names : (f : Process → Process) → ((x : Process) → (f x).given ≡ x.given) → (p : Partition) → ListedIn p → NamesDiffer p → NamesDiffer (each f p)
each_names f g p v = rest_names p _ (each_rest f p v) (λ y b. ap (λ (z : Process). z.given) (each_process_holds f p v y b) ∙ g (process y p))

ended_names : (a : Transfer) (p : Partition) → ListedIn p → NamesDiffer p → NamesDiffer (ended_by a p)
ended_names (Put m) p v h = h
ended_names (HandedTo id m) p v h = stored_names p v id (handed m (process id p)) refl h
ended_names Taken p v h = h
ended_names (LetIn id m) p v h = stored_names p v id (served (process id p)) refl h

tick_names : (t : ℕ) (p : Partition) → ListedIn p → NamesDiffer p → NamesDiffer (tick_partition t p)
unfolding tick_partition
tick_names t p v h = by_test NamesDiffer (normal_mode p) (λ _. each_names (ticked t) (ticked_given t) p v h) (λ _. h)

buffer_names : (frame t : ℕ) (p : Partition) → Valid frame t p → (k : ℕ) (b : Buffer) → TakesName (λ y. (buffer y p).name) p.buffer_count k b.name → NamesDiffer p → NamesDiffer (stored_buffer k b p)
buffer_names frame t p v k b g h = either (within buffer_limit k)
    (λ e. rw (buffer_in k b p e) (record {
      processes = h.processes;
      semaphores = h.semaphores;
      events = h.events;
      buffers = differ_set (λ (x : Buffer). x.name) buffer_limit no_buffer p.buffers p.buffer_count v.objects.buffers.numbered k e b g h.buffers;
      blackboards = h.blackboards;
    }))
    (λ e. rw (buffer_out k b p e) h)

-- ---------------------------------------------------------------- a change of a call
change_names : (n : ℕ) (r : Request) (frame t : ℕ) (p : Partition) → Valid frame t p → (a : Change) → Marked n r p a → NamesDiffer p → NamesDiffer (applied a p)
unfolding arrived_last entered_normal
change_names n r frame t p v Nothing g h = h
change_names n r frame t p v (Stored id x) g h = stored_names p v.lists id x g h
change_names n r frame t p v (Created id x) g h = either (within process_limit id)
    (λ e. rw (created_in id x p e) (record {
      processes = differ_set (λ (y : Process). y.given.name) process_limit blank_process p.processes p.process_count v.lists.numbered id e x (inr g) h.processes;
      semaphores = h.semaphores;
      events = h.events;
      buffers = h.buffers;
      blackboards = h.blackboards;
    }))
    (λ e. rw (created_out id x p e) h)
change_names n r frame t p v (Last id) g h = record { processes = h.processes; semaphores = h.semaphores; events = h.events; buffers = h.buffers; blackboards = h.blackboards }
change_names n r frame t p v (StoredSemaphore k s) g h = either (within semaphore_limit k)
    (λ e. rw (semaphore_in k s p e) (record {
      processes = h.processes;
      semaphores = differ_set (λ (x : SemaphoreT). x.name) semaphore_limit no_semaphore p.semaphores p.semaphore_count v.objects.semaphores.numbered k e s g h.semaphores;
      events = h.events;
      buffers = h.buffers;
      blackboards = h.blackboards;
    }))
    (λ e. rw (semaphore_out k s p e) h)
change_names n r frame t p v (StoredEvent k s) g h = either (within event_limit k)
    (λ e. rw (event_in k s p e) (record {
      processes = h.processes;
      semaphores = h.semaphores;
      events = differ_set (λ (x : EventState). x.name) event_limit no_event p.events p.event_count v.objects.events.numbered k e s g.0 h.events;
      buffers = h.buffers;
      blackboards = h.blackboards;
    }))
    (λ e. rw (event_out k s p e) h)
change_names n r frame t p v (CreatedBuffer k name limit) g h = buffer_names frame t p v k (empty_buffer name limit) (inr g) h
change_names n r frame t p v (Moved k a) g h =
    let b = moved_in a (buffer k p) in
    let q = stored_buffer k b p in
    let lists : ListedIn q = either (within buffer_limit k) (λ e. rw (buffer_in k b p e) v.lists) (λ e. rw (buffer_out k b p e) v.lists) in
    ended_names a q lists (buffer_names frame t p v k b (inl (g, refl)) h)
change_names n r frame t p v (StoredBlackboard k s) g h = either (within blackboard_limit k)
    (λ e. rw (blackboard_in k s p e) (record {
      processes = h.processes;
      semaphores = h.semaphores;
      events = h.events;
      buffers = h.buffers;
      blackboards = differ_set (λ (x : BlackboardT). x.name) blackboard_limit no_blackboard p.blackboards p.blackboard_count v.objects.blackboards.numbered k e s g.0 h.blackboards;
    }))
    (λ e. rw (blackboard_out k s p e) h)
change_names n r frame t p v (Ended o) g h = all_names served (λ _. refl) (waiters o p) p v.lists (waiters_created p v.lists o) (waiters_distinct p v.lists o) h
change_names n r frame t p v (Handed o m) g h = all_names (handed m) (λ _. refl) (waiters o p) p v.lists (waiters_created p v.lists o) (waiters_distinct p v.lists o) h
change_names n r frame t p v (LevelSet level holder) g h = record { processes = h.processes; semaphores = h.semaphores; events = h.events; buffers = h.buffers; blackboards = h.blackboards }
change_names n r frame t p v (Entered c) g h = each_names (entered c) (entered_given c) (with_mode NormalMode p) v.lists (record { processes = h.processes; semaphores = h.semaphores; events = h.events; buffers = h.buffers; blackboards = h.blackboards })

nothing_names : (mode : ℕ) → NamesDiffer (nothing_created mode)
nothing_names mode = record { processes = λ i j a b e. absurd (omega (arith, a.0, a.1)); semaphores = λ i j a b e. absurd (omega (arith, a.0, a.1)); events = λ i j a b e. absurd (omega (arith, a.0, a.1)); buffers = λ i j a b e. absurd (omega (arith, a.0, a.1)); blackboards = λ i j a b e. absurd (omega (arith, a.0, a.1)) }

decided_names : (n : ℕ) (r : Request) (c : Context) (p : Partition) → SoundContext c p → Valid c.frame c.time p → (d : Decision) → SoundDecision c p d → Marks n r p d → NamesDiffer p → NamesDiffer (partition_after d p)
decided_names n r c p s v (Refused code) f g h = h
decided_names n r c p s v (Unchanged value x) f g h = h
decided_names n r c p s v Ticked f g h = h
decided_names n r c p s v (Blocked id x) f g h = stored_names p v.lists id x g h
decided_names n r c p s v (Changed a b value) f g h = change_names n r c.frame c.time (applied a p) (change_valid c s p v a f.0) b g.1 (change_names n r c.frame c.time p v a g.0 h)
decided_names n r c p s v (Restarted mode) f g h = nothing_names (mode_number mode)
decided_names n r c p s v (Written i x) f g h = h
decided_names n r c p s v (PassedOn i a value) f g h = h

-- ---------------------------------------------------------------- every event, every reached record
event_names : (m : Module) (s : SoundModule m) → ((i : ℕ) → i < m.table.size → NamesDiffer (part m i)) → (e : EventT) (i : ℕ) → i < m.table.size → NamesDiffer (part (step m e).state i)
event_names m s h e = by_partition m s e (λ _ q. NamesDiffer q)
    h
    (λ i l. tick_names (m.t + 1) (part m i) (s.each_partition i l).lists (h i l))
    (λ c _.
    let r = request_of e in
    let k = number_of r.partition in
    let l = place m s r c in
    decided_names (number_of r.call) r (context_of m k) (part m (k - 1)) (context_sound m s r c) (s.each_partition (k - 1) l) (made m s r c) (made_sound m s r c) (made_stores m s e c) (h (k - 1) l))
    (λ i l o size frame t p v g. all_names served (λ _. refl) (take size (waiters o p)) p v.lists (firsts_created frame t p v o size) (firsts_distinct frame t p v o size) g)
    (λ i l a _. ended_names a (part m i) (s.each_partition i l).lists (h i l))

fresh_names : (T : Table) (i : ℕ) → i < partition_limit → NamesDiffer (part (fresh_module T) i)
unfolding fresh_module fresh_partition
fresh_names T i l = rw (get_or-replicate partition_limit i fresh_partition no_partition l) (nothing_names 1)

part_names : (m : Module) → Reached m → (i : ℕ) → i < m.table.size → NamesDiffer (part m i)
unfolding empty_module empty_table
part_names m (Reached.read input) i l =
    let t = table_read input in
    either (eqb (read_table input).code 0)
    (λ e. let a = t.accepted (eqb-true _ 0 e) in rw a.1 (fresh_names (read_table input).state.table i (omega (arith, a.0.size.1))))
    (λ e. absurd (omega (arith, ap (λ (q : Module). q.table.size) (t.refused (eqb-false _ 0 e)))))
part_names _ (Reached.stepped m e h) i l =
    let inside : i < m.table.size = rw (step_size m e) at l in
    event_names m (valid_sound m (reached_valid m h) i inside) (λ j l. part_names m h j l) e i inside

-- Law. Names differ.
pub names : Names
names m h k b = part_names m h (k - 1) (omega (arith, b.0, b.1))
