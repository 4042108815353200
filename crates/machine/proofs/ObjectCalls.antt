-- Calls 14 to 20, of semaphores and events: what is shown of each. Assumes nothing.
use Prim.Native.Nat.{◌+◌, ◌-◌}
use mathlib.Core.Path.{refl, ◌∙◌}
use mathlib.Core.Bool.{true, false}
use native.Mathlib.Omega.{arith}
use borrow.Author.Tests.{eqb-false, leb-false, not-false}
use Rattle.machine.specs.declared.Wait.TheVariants.{Semaphore, Event}
use Rattle.machine.specs.Limits.{semaphore_limit, event_limit, name_limit, value_limit}
use Rattle.machine.specs.Fields.{between, is_name, number_of}
use Rattle.machine.specs.Process.{object, served}
use Rattle.machine.specs.Partition.{semaphore, waiters, applied, event, no_event, no_semaphore}
use Rattle.machine.specs.Objects.{create_semaphore, create_event, with_up, wait_semaphore, wait_event, signal, set_event, reset_event}
use Rattle.machine.specs.Theorems.Valid.{ListedIn}
use mathlib.Core.Logic.{inl, inr, ⊎_elim}
use Rattle.machine.specs.Services.{services}
use Rattle.machine.specs.Theorems.Queues.{queue_number}
use Rattle.machine.proofs.Tests.{not_both, Passed, and_left}
use Rattle.machine.proofs.Bounds.{and_true_parts, known_id, within_in, event_in}
use Rattle.machine.proofs.Fields.{in_limits}
use Rattle.machine.proofs.Bodies.{signalled_by}
use Rattle.machine.proofs.Kept.{waiters_on, waiters_created, value_sound, up_sound, signalled_sound}
use Rattle.machine.proofs.Orders.{semaphore_queue, signalled_order}
use Rattle.machine.proofs.Fairness.{semaphore_available, event_available, on_object_holds, created_free, all_end, signalled_fair}
use Rattle.machine.proofs.Calmness.{signalled_calm}
use Rattle.machine.proofs.CallLaws.{laws, Laws, waits_unseen, checks, answers, waits}
use Rattle.machine.specs.declared.EventState.{EventState}
use Rattle.machine.specs.declared.Semaphore.{Semaphore as SemaphoreT}
use Rattle.machine.proofs.Stores.{free_name, signalled_marks}
use Rattle.machine.proofs.Acts.{signals}

pub create_semaphore_holds : Laws 14
unfolding services create_semaphore Passed
create_semaphore_holds = laws (λ _ _ _ _ _ _. refl) λ c x r p. checks _ _ refl (λ h.
    let room = leb-false semaphore_limit p.semaphore_count h.0 in
    record {
      codes = (refl, refl);
      sound = λ _ _ _.
          let f = and_true_parts (is_name r.a) _ (not-false _ h.1.1.0) in
          let g = and_true_parts (between 1 value_limit r.c) _ f.1 in (
            (((omega arith, omega arith), omega arith), record { name = in_limits 1 name_limit r.a f.0; value = (in_limits 0 (number_of r.c) r.b g.1).1; max = in_limits 1 value_limit r.c g.0 }),
            tt,
            omega arith,
          );
      order = (tt, tt);
      fair = λ v k kind i t. ⊎_elim inl
          (λ y. inr (rw (y.0, y.1) (semaphore_queue p v.lists (queue_number 1 (p.semaphore_count + 1)) (λ z. omega arith) (p.semaphore_count + 1) _ ∙ created_free c p v k x 14 1 p.semaphore_count _ (omega arith) (omega arith) refl refl)))
          (semaphore_available c.frame c.time p v kind i _ _ t);
      calm = λ _ _ _ _ _. (tt, tt);
      stores = λ v. (inr (refl, free_name (λ (x : SemaphoreT). x.name) no_semaphore semaphore_limit p.semaphore_count p.semaphores v.objects.semaphores.numbered r.a h.1.0 (and_left (is_name r.a) _ (not-false _ h.1.1.0))), tt);
      acts = λ _. (tt, tt, refl, refl, (refl, refl));
    })

pub wait_semaphore_holds : Laws 15
unfolding services wait_semaphore Passed
wait_semaphore_holds = laws (λ _ c u x r p. waits_unseen c u _ _ _ _ _ _ _ p) λ c x r p.
    let i = number_of r.a in
    waits _ _ _ _ _ _ (Semaphore i) 1 i 0 refl
    (λ h _ e.
    let b = known_id i p.semaphore_count h.0 in
    record {
      codes = (refl, refl);
      sound = λ v k _. (value_sound c p v k i b ((semaphore i p).value - 1) (omega (arith, (v.objects.semaphores.each i b).value)), tt, omega arith);
      order = (tt, tt);
      fair = λ v k kind j t. inl (⊎_elim (λ y. y) (λ y. rw (y.0, y.1) e) (semaphore_available c.frame c.time p v kind j i _ t));
      calm = λ _ _ _ _ _. (tt, tt);
      stores = λ _. (inl (b, refl), tt);
      acts = λ _. (tt, tt, refl, refl, (refl, refl));
    })
    (λ h _ e.
    let b = known_id i p.semaphore_count h.0 in
    record {
      class = refl;
      known = (b, omega arith);
      fair = λ v k. on_object_holds c p v k x 15 _ 1 i refl (omega (arith, b.1, v.objects.semaphores.numbered.few)) (omega arith) e;
      calm = λ kind j of low a z. omega (arith, of.low, b.1, a.valid.objects.semaphores.numbered.few);
      listed = (refl, refl);
      named = λ _. (refl, λ z. omega (arith, b.0));
    })

pub signal_call : Laws 16
unfolding services signal Passed
signal_call = laws (λ _ _ _ _ _ _. refl) λ c x r p. checks _ _ refl (λ h.
    let i = number_of r.a in
    let o = object (Semaphore i) in
    let b = known_id i p.semaphore_count h.0 in
    record {
      codes = (rw (signalled_by (waiters o p) i p), refl);
      sound = λ v k _. (signalled_sound c p v k (waiters o p) i b (eqb-false _ _ h.1.0) (waiters_on p v.lists o) (waiters_created p v.lists o), tt, omega arith);
      order = (signalled_order (waiters o p) i p, tt);
      fair = λ v k. signalled_fair c p v k x 16 (waiters o p) i refl;
      calm = λ kind j of low a. (signalled_calm kind j of low 16 r.a c p a.valid a.context a.there (waiters o p) i (omega (arith, b.1, a.valid.objects.semaphores.numbered.few)) refl, tt);
      stores = λ _. (signalled_marks 16 r p (waiters o p) i b, tt);
      acts = λ _. let s = signals c r p b _ refl in (s.0, tt, refl, refl, (s.1, refl));
    })

pub create_event_holds : Laws 17
unfolding services create_event Passed
create_event_holds = laws (λ _ _ _ _ _ _. refl) λ c x r p. checks _ _ refl (λ h. record {
  codes = (refl, refl);
  sound = λ _ _ _.
      let room = leb-false event_limit p.event_count h.0 in
      ((((omega arith, omega arith), omega arith), record { name = in_limits 1 name_limit r.a (not-false _ h.1.1.0) }), tt, omega arith);
  order = (tt, tt);
  fair = λ v k kind i t. ⊎_elim inl (λ y. not_both _ y.2 refl) (event_available c.frame c.time p v kind i _ _ t);
  calm = λ _ _ _ _ _. (tt, tt);
  stores = λ v. ((inr (refl, free_name (λ (x : EventState). x.name) no_event event_limit p.event_count p.events v.objects.events.numbered r.a h.1.0 (not-false _ h.1.1.0)), λ low. absurd (omega arith)), tt);
  acts = λ _. (tt, tt, refl, refl, (refl, refl));
})

pub set_event_call : Laws 18
unfolding services set_event Passed
set_event_call = laws (λ _ _ _ _ _ _. refl) λ c x r p. checks _ _ refl (λ h.
    let i = number_of r.a in
    let b = known_id i p.event_count h.0 in
    record {
      codes = (refl, refl);
      sound = λ v k _. (up_sound c p v k i b true, tt, omega arith);
      order = (tt, tt);
      fair = λ v k.
          let q = applied (with_up i true p) p in
          let w : ListedIn q = rw (event_in i (record { name = (event i p).name; up = true }) p (within_in event_limit i b.0 (omega (arith, b.1, v.objects.events.numbered.few)))) v.lists in
          all_end c p v k x 18 q w served (λ _. refl) 2 i (omega arith) (λ kind j t. ⊎_elim inl (λ y. inr (y.0, y.1)) (event_available c.frame c.time p v kind j i _ t));
      calm = λ kind j of low a. (tt, λ e. omega (arith, of.low, b.1, a.valid.objects.events.numbered.few));
      stores = λ _. ((inl (b, refl), λ _. (inl refl, refl)), tt);
      acts = λ _. (tt, (refl, refl, b), refl, refl, (refl, refl));
    })

pub reset_event_call : Laws 19
unfolding services reset_event Passed
reset_event_call = laws (λ _ _ _ _ _ _. refl) λ c x r p. checks _ _ refl (λ h. let i = number_of r.a in record {
  codes = (refl, refl);
  sound = λ v k _. (up_sound c p v k i (known_id i p.event_count h.0) false, tt, omega arith);
  order = (tt, tt);
  fair = λ v k kind j t. ⊎_elim inl (λ y. not_both _ y.2 refl) (event_available c.frame c.time p v kind j i _ t);
  calm = λ _ _ _ _ _. (tt, tt);
  stores = λ _. ((inl (known_id i p.event_count h.0, refl), λ _. (inr refl, refl)), tt);
  acts = λ _. (tt, tt, refl, refl, (refl, refl));
})

pub wait_event_holds : Laws 20
unfolding services wait_event Passed
wait_event_holds = laws (λ _ c u x r p. waits_unseen c u _ _ _ _ _ _ _ p) λ c x r p.
    let i = number_of r.a in
    waits _ _ _ _ _ _ (Event i) 2 i 0 refl
    (λ _ _ _. answers refl (λ _ _ _. (omega arith, omega arith)))
    (λ h _ e.
    let b = known_id i p.event_count h.0 in
    record {
      class = refl;
      known = (b, omega arith);
      fair = λ v k. on_object_holds c p v k x 20 _ 2 i refl (omega (arith, b.1, v.objects.events.numbered.few)) (omega arith) e;
      calm = λ kind j of low a z. omega (arith, of.low, b.1, a.valid.objects.events.numbered.few);
      listed = (refl, refl);
      named = λ _. (refl, λ z. omega (arith, b.0));
    })
