-- Entering NORMAL, proved from the whole record that call 1 gives. Assumes nothing.
use Rattle.machine.specs.Mode.{mode_number}
use Rattle.machine.specs.declared.Mode.TheVariants.{Normal as NormalMode}
use Prim.Native.Nat.{ℕ}
use mathlib.Core.Path.{◌≡◌, refl, sym, ap, ◌∙◌}
use mathlib.Core.Bool.{false, not, ◌&&◌}
use mathlib.Core.List.{List, [], ◌++◌}
use native.Mathlib.Omega.{arith}
use lib.Dec.{eqb}
use lib.IntN.{pos}
use Rattle.machine.specs.Theorems.Valid.{Between, SoundModule, Valid}
use Rattle.machine.specs.Theorems.Events.{Calling, Puts, own}
use Rattle.machine.specs.Theorems.EachCall.{Checks, entering}
use Rattle.machine.specs.Theorems.Entering.{Enters, enter}
use Rattle.machine.specs.declared.Module.{Module}
use Rattle.std.specs.Prelude.{None}
use Rattle.machine.specs.declared.Wait.TheVariants.{Normal}
use Rattle.machine.specs.declared.Partition.{Partition}
use Rattle.machine.specs.declared.Process.{Process}
use Rattle.machine.proofs.Calling.{calling_low, calling_sound, calling_valid, own_after}
use Rattle.machine.proofs.Keeping.{distinct_from, each_changed, each_process_holds, each_rest, from_range, process_created}
use Rattle.machine.specs.Partition.{each, process, with_mode_and_lock}
use Rattle.machine.proofs.EachCall.{each_call}
use Rattle.machine.proofs.Plain.{each_plain}
use Rattle.machine.proofs.Either.{either}
use Rattle.machine.specs.Ids.{kept, members}
use Rattle.machine.proofs.Tracking.{kept_same}
use borrow.Author.Tests.{ne_eqb}
use Rattle.machine.proofs.Tests.{not_both}
use Rattle.machine.proofs.Bounds.{not_so}
use Rattle.machine.specs.Theorems.Plain.{ids_from, plain_each}
use Rattle.machine.specs.Process.{ready, waits_for_normal}
use Rattle.machine.proofs.Starts.{release_earliest}
use Rattle.machine.specs.Windows.{release_point}
use Rattle.machine.specs.Step.{step}
use Rattle.machine.proofs.Queues.{all_arrive}
use Rattle.machine.proofs.Reasons.{not_normal}
use Rattle.machine.proofs.Terms.{terms}
use Rattle.machine.proofs.Fairness.{none_in}

module _ (m : Module) (k : ℕ) (u : SoundModule m) (h : Calling m k) (early : mode_number (own m k).mode ≡ 3 → ⊥) (some : (own m k).process_count ≡ 0 → ⊥) where
  abbrev p : Partition
  p = own m k

  v : Valid m.table.frame m.t p
  v = calling_valid m k u h

  -- the next release point
  abbrev r : ℕ
  r = release_point m.table m.t k

  abbrev f : Process → Process
  f x = entering m.t r x

  abbrev q : Partition
  q = with_mode_and_lock NormalMode 0 0 p

  gives_all : Puts m (enter k) 0 0 k (plain_each f q)
  unfolding Checks
  gives_all = ((((((each_call m k h).set_mode (pos 3)).1 refl).1 (rw (ne_eqb (mode_number p.mode) 3 early))).1 refl).1 (rw (ne_eqb p.process_count 0 some))).0 refl r
      (release_earliest m.table u.table m.t k (h.some, calling_low m k u h) u.time)

  after_is : own (step m (enter k)).state k ≡ each f q
  after_is = own_after m k u h _ gives_all ∙ sym (each_plain f q v.lists)

  process_is : (id : ℕ) → Between 1 p.process_count id → process id (own (step m (enter k)).state k) ≡ f (process id p)
  process_is id b = ap (process id) after_is ∙ each_process_holds f q v.lists id b

  -- nobody is READY in a start mode
  none_ready : (id : ℕ) → ready (process id p) ≡ false
  none_ready id = not_so _ (λ t.
      let b = process_created ready refl p v.lists id t in
      let w = terms.ready_is (process id p) t in
      not_both _ (ap waits_for_normal ((v.each_process id b).early w.0 (ne_eqb (mode_number p.mode) 3 early)).wait) (ap waits_for_normal w.2))

  none_arrived : members p.arrival ≡ []
  none_arrived = none_in (members p.arrival) (λ id c. not_both _ (sym (v.lists.arrivals.exact id) ∙ c) (none_ready id))

  arrived : members (each f q).arrival ≡ kept (λ id. ready (f (process id p))) (ids_from p.process_count 1)
  arrived =
      ap (λ (x : Partition). members x.arrival) (each_changed f p.process_count 1 q)
      ∙ all_arrive f (ids_from p.process_count 1) q v.lists (λ y c. let b = from_range p.process_count 1 y c in (b.0, omega arith)) (distinct_from p.process_count 1) (λ y _. none_ready y)
      ∙ ap (λ (l : List ℕ). l ++ kept (λ id. ready (f (process id p))) (ids_from p.process_count 1)) none_arrived

  started_ready : (x : Process) → x.wait ≡ Normal → x.given.period ≡ None → ready (f x) ≡ (not x.suspended && eqb x.times.delay 0)
  started_ready x w never = rw (w, never) (either (eqb x.times.delay 0) (λ e. rw e) (λ e. rw e))

  enters_is : Enters m k
  enters_is = record {
    code = gives_all.code_is;
    mode = ap (λ (x : Partition). mode_number x.mode) after_is ∙ ap (λ (x : Partition). mode_number x.mode) (each_rest f q v.lists);
    aperiodic = λ id b w never. process_is id b ∙ rw (w, never);
    ready_at = λ id b w never. ap ready (process_is id b) ∙ started_ready (process id p) w never;
    others = λ id b w. process_is id b ∙ rw (not_normal (process id p).wait w);
    arrival = ap (λ (x : Partition). members x.arrival) after_is ∙ arrived ∙ kept_same _ _ (ids_from p.process_count 1) (λ y c. let b = from_range p.process_count 1 y c in sym (ap ready (process_is y (b.0, omega arith))));
  }

-- Law. Entering NORMAL.
pub enters : (m : Module) (k : ℕ) → Calling m k → (mode_number (own m k).mode ≡ 3 → ⊥) → ((own m k).process_count ≡ 0 → ⊥) → Enters m k
enters m k h = enters_is m k (calling_sound m k h) h
