-- Calls 1 to 13: what is shown of each. Assumes nothing.
use Rattle.machine.proofs.ModeNumbers.{numbered_back}
use Prim.Native.Nat.{ℕ}
use mathlib.Core.Path.{◌≡◌, refl, ap, sym, ◌∙◌}
use mathlib.Core.Bool.{true, false, cond, and-false}
use native.Mathlib.Omega.{arith}
use borrow.Author.Tests.{leb-false, not-true, not-false}
use Rattle.machine.specs.declared.Process.{Process}
use Rattle.machine.specs.declared.Partition.{Partition}
use Rattle.machine.specs.declared.Context.{Context}
use Rattle.machine.specs.declared.Change.{Change}
use Rattle.machine.specs.declared.Change.TheVariants.{Nothing, Stored, Created, Last, LevelSet, Entered}
use Rattle.machine.specs.declared.Port.{Port}
use Rattle.machine.specs.declared.Request.{Request}
use Rattle.machine.specs.declared.Field.{Field}
use Rattle.machine.specs.declared.Field.TheVariants.{Number}
use Rattle.machine.specs.declared.Wait.TheVariants.{Timed, None, Normal}
use Rattle.machine.specs.Limits.{process_limit, priority_limit, mode_limit, duration_limit, number_limit}
use Rattle.machine.specs.Fields.{is_number, number_of, is_name}
use Rattle.machine.specs.Process.{class_of, object, ready, with_current, object_in, waits_for_nothing, start_rule, blank_process}
use Rattle.machine.specs.Partition.{normal_mode, process, stored}
use Rattle.machine.specs.Calls.{set_mode, create_process, reaches, start, stop, stop_self, suspend, suspend_self, timed_wait, periodic_wait, resume, set_priority, get_status}
use Rattle.machine.specs.Theorems.Valid.{SoundProcess, setting_of, SoundChange, latest_deadline}
use Rattle.machine.specs.Decisions.{blocked, start_mode}
use mathlib.Core.Logic.{inl, inr, ◌⊎◌}
use Rattle.machine.specs.Services.{services}
use Rattle.machine.specs.Theorems.Queues.{KeepsOrEnds}
use Rattle.machine.proofs.Tests.{by_test, Passed, and_left}
use Rattle.machine.proofs.Bounds.{or_false_parts, known_id}
use Rattle.machine.proofs.Fields.{in_limits}
use Rattle.machine.proofs.Keeping.{process_stored, stored_listed}
use Rattle.machine.proofs.Sound.{for_nothing_holds, start_sound, early_sound, stopped_sound, suspended_sound, priority_sound, resumed_sound, ready_off, ready_released, waiting_sound, suspends_sound, next_sound, times_bounded}
use Rattle.machine.proofs.Bodies.{leaves_level}
use Rattle.machine.proofs.Kept.{no_lock, not_holder, duration_ahead, timeout_ahead, reaches_below, more_room, status_small, admitted, normal_caller, not_caller, unlocked, fit}
use Rattle.machine.proofs.Orders.{start_object, OrderlyChange}
use Rattle.machine.proofs.Fairness.{OnProcesses, by_processes, one_process, no_object}
use Rattle.machine.proofs.Calmness.{below_three, senders_some, KeepsSending, keeps_same, CalmChange, idle, caller_off}
use Rattle.machine.proofs.CallLaws.{laws, Lawful, Laws, checks, answers}
use Rattle.machine.proofs.Acts.{BlockedBy, Makes, StoredBy, acts_on_named, last_off, live, mode_low}
use Rattle.machine.proofs.Stores.{Marked, free_name, resumed_given, start_given}
use lib.Dec.{eqb}

pub set_mode_holds : Laws 1
unfolding services set_mode Passed
set_mode_holds = laws (λ s _ _ _ _ _. absurd (s.0 refl)) λ c x r p. checks _ _ refl (λ h. by_test (Lawful 1 c x r p) (is_number 3 r.a)
    (λ e. record {
      codes = (refl, refl);
      sound = λ _ _ _. ((refl, rw e at h.1.0), tt, omega arith);
      order = (tt, tt);
      fair = λ v k. one_process c p v k x 1 (Entered c) tt;
      calm = λ _ _ _ _ _. (tt, tt);
      stores = λ _. (refl, tt);
      acts = λ _. ((refl, e), tt, refl, refl, (refl, refl));
    })
    (λ e. record {
      codes = refl;
      sound = λ _ _ _. let b = (in_limits 0 mode_limit r.a (not-false _ h.0)).1 in rw (numbered_back _ b) b;
      order = tt;
      fair = λ _ _. tt;
      calm = λ _ _ _ _ _. (refl, below_three r.a (not-false _ h.0) e);
      stores = λ _. (refl, below_three r.a (not-false _ h.0) e);
      acts = λ _. let m = mode_low r.a (not-false _ h.0) e in rw (numbered_back (number_of r.a) (in_limits 0 mode_limit r.a (not-false _ h.0)).1) (refl, m.0, m.1);
    }))

pub create_process_holds : Laws 2
unfolding services create_process Passed
create_process_holds = laws (λ _ _ _ _ _ _. refl) λ c x r p. checks _ _ refl (λ h. record {
  codes = (refl, refl);
  sound = λ _ _ _.
      let room = leb-false process_limit p.process_count h.0 in
      (record { room = room; next = refl; given = admitted c r (not-false _ h.1.1.0); dormant = refl }, tt, omega arith);
  order = (tt, tt);
  fair = λ v k. one_process c p v k x 2 (Created _ _) tt;
  calm = λ _ _ _ _ _. (tt, tt);
  stores = λ v. ((refl, free_name (λ (x : Process). x.given.name) blank_process process_limit p.process_count p.processes v.lists.numbered r.a h.1.0 (and_left (is_name r.a) _ (not-false _ h.1.1.0))), tt);
  acts = λ _. (refl, tt, refl, refl, (refl, refl));
})

-- 3 and 4 are one
started : (n : ℕ) → (n ≡ 3) ⊎ (n ≡ 4) → eqb n 9 ≡ false → eqb n 12 ≡ false → (c : Context) (x : Port) (r : Request) (p : Partition) (delay : Field) → Lawful n c x r p (start c (number_of r.a) delay p)
unfolding start Passed
started n is nine twelve c x r p delay = checks _ _ refl (λ h.
    let id = number_of r.a in
    let b = known_id id p.process_count h.0 in
    let y = process id p in
    let off : y.started ≡ false = not-true _ (not-false _ h.1.1.0) in
    record {
      codes = (refl, refl);
      sound = λ v k _.
          let l = (v.each_process id b).lasting in
          let d = (v.each_process id b).dormant off in
          let f = or_false_parts _ (reaches y.given.period (number_of delay)) h.1.0 in
          let short = (in_limits 0 duration_limit delay (not-false _ f.0)).1 in
          let below = reaches_below y.given.period (number_of delay) f.1 in (
            (
              b,
              by_test (SoundProcess (setting_of c.frame c.time p)) (normal_mode p)
                  (λ e. start_sound c k.time k.frame.1 k.near (normal_mode p) e _ (number_of delay) y l d.times.release short below)
                  (λ e. early_sound _ y l d.times e (number_of delay) short below),
              not_holder p v.lock id _ (rw off),
            ),
            tt,
            omega arith,
          );
      order = (by_test (KeepsOrEnds y) (normal_mode p) (λ _. inl (start_object c (number_of delay) y)) (λ _. inl refl), tt);
      fair = λ v k. one_process c p v k x n (Stored id _) tt;
      calm = λ kind j of low a.
          let idles = idle kind j of low n r.a c p a.valid a.context a.there id in
          let z = ap object ((a.valid.each_process id b).dormant off).wait in (
            by_test (λ (q : Process). KeepsSending kind j of low n y.wait q.wait) (normal_mode p)
                (λ _. idles (start_rule c (number_of delay) y).wait z (start_object c (number_of delay) y))
                (λ _. idles Normal z refl),
            tt,
          );
      stores = λ _. (by_test (λ (q : Process). q.given ≡ y.given) (normal_mode p) (λ _. start_given c (number_of delay) y) (λ _. refl), tt);
      acts = λ _. (StoredBy.starts is refl off (number_of delay) refl, tt, refl, and-false (acts_on_named n), rw (nine, twelve) (refl, refl));
    })

pub start_call : Laws 3
unfolding services
start_call = laws (λ s _ _ _ _ _. absurd (s.1 refl)) λ c x r p. started 3 (inl refl) refl refl c x r p (Number 0)

pub delayed_start : Laws 4
unfolding services
delayed_start = laws (λ s _ _ _ _ _. absurd (s.2 refl)) λ c x r p. started 4 (inr refl) refl refl c x r p r.b

pub stop_call : Laws 5
unfolding services stop Passed
stop_call = laws (λ _ _ _ _ _ _. refl) λ c x r p. checks _ _ refl (λ h.
    let id = number_of r.a in
    let b = known_id id p.process_count h.0 in
    record {
      codes = (refl, refl);
      sound = λ v k _. ((b, stopped_sound _ (process id p) (v.each_process id b), not_caller c p v k id _ h.1.0), tt, omega arith);
      order = (inl refl, tt);
      fair = λ v k. one_process c p v k x 5 (Stored id _) tt;
      calm = λ kind j of low _. ((λ e. absurd (senders_some kind j of low (sym e)), λ _. inr refl), tt);
      stores = λ _. (refl, tt);
      acts = λ _. (StoredBy.stops refl refl (not-false _ h.1.1.0) refl, tt, refl, refl, (refl, refl));
    })

pub stop_self_holds : Laws 6
unfolding services stop_self Passed
stop_self_holds = laws (λ _ _ _ _ _ _. refl) λ c x r p. checks _ _ refl (λ h.
    let on = not-false (normal_mode p) h.0 in
    record {
      codes = (refl, refl);
      sound = λ v k _.
          let b = (normal_caller c p v k on).created in
          ((no_lock _ _, λ _ more. absurd (omega arith)), (b, stopped_sound _ (process c.caller p) (v.each_process c.caller b), λ some. absurd (omega arith)), omega arith);
      order = (tt, inl refl);
      fair = λ v k. by_processes c p v k x 6 (LevelSet 0 0) (Stored c.caller _) 0 tt tt v.lists;
      calm = λ kind j of low a. (tt, idle kind j of low 6 r.a c p a.valid a.context a.there c.caller None (caller_off kind j of low 6 r.a c p a.valid a.context a.there on) refl);
      stores = λ _. (tt, refl);
      acts = λ _. (tt, StoredBy.stops_self refl refl on refl, refl, refl, (refl, refl));
    })

pub suspend_call : Laws 7
unfolding services suspend Passed
suspend_call = laws (λ _ _ _ _ _ _. refl) λ c x r p. checks _ _ refl (λ h.
    let id = number_of r.a in
    record {
      codes = (refl, refl);
      sound = λ v k _.
          let b = known_id id p.process_count h.0 in
          let f = fit c p v k id h.1.1.0 in
          ((b, suspended_sound _ (process id p) (v.each_process id b) f.0 f.1, not_caller c p v k id _ h.1.0), tt, omega arith);
      order = (inr refl, tt);
      fair = λ v k. one_process c p v k x 7 (Stored id _) tt;
      calm = λ kind j of low _. (keeps_same kind j of low 7 (process id p).wait, tt);
      stores = λ _. (refl, tt);
      acts = λ _. (StoredBy.marks refl refl (live (process id p) h.1.1.0) h.1.1.1.0 refl, tt, refl, refl, (refl, refl));
    })

pub suspend_self_holds : Laws 8
unfolding services suspend_self blocked Passed
suspend_self_holds = laws (λ _ _ _ _ _ _. refl) λ c x r p. checks _ _ refl (λ h.
    let f = or_false_parts (start_mode p) _ h.0 in
    let on = not-false (normal_mode p) f.0 in
    let y = process c.caller p in
    by_test (Lawful 8 c x r p) (is_number 0 r.a) (λ _. answers refl (λ _ _ _. (omega arith, omega arith))) (λ e. checks _ _ refl (λ free. record {
      codes = tt;
      sound = λ v k _.
          let q = normal_caller c p v k on in
          (q.created, suspends_sound _ y (v.each_process c.caller q.created) on q.is_ready f.1 _ (timeout_ahead c.time r.a k.time (not-false _ h.1.0) e), unlocked c p v k free.0 c.caller _);
      order = (refl, on);
      fair = λ v k. no_object c p v k x 8 _ (ready_off y (normal_caller c p v k on).is_ready);
      calm = λ kind j of low a e. senders_some kind j of low (sym e ∙ caller_off kind j of low 8 r.a c p a.valid a.context a.there on);
      stores = λ _. refl;
      acts = λ _. (refl, on, BlockedBy.suspends refl _ refl);
    })))

pub timed_wait_holds : Laws 9
unfolding services timed_wait blocked Passed
timed_wait_holds = laws (λ _ _ _ _ _ _. refl) λ c x r p. checks _ _ refl (λ h.
    let on = not-false (normal_mode p) h.0 in
    by_test (Lawful 9 c x r p) (is_number 0 r.a)
    (λ _. record {
      codes = (refl, refl);
      sound = λ v k _. ((normal_caller c p v k on).is_ready, tt, omega arith);
      order = (tt, tt);
      fair = λ v k. one_process c p v k x 9 (Last c.caller) tt;
      calm = λ _ _ _ _ _. (tt, tt);
      stores = λ _. (tt, tt);
      acts = λ _. (tt, tt, refl, refl, (refl, refl));
    })
    (λ e. checks _ _ refl (λ free. record {
      codes = tt;
      sound = λ v k _.
          let q = normal_caller c p v k on in
          let y = process c.caller p in
          let g = v.each_process c.caller q.created in
          (q.created, waiting_sound _ y g on q.is_ready Timed tt _ (duration_ahead c.time r.a k.time (not-false _ h.1.0) e) (ready_released _ y g on q.is_ready), unlocked c p v k free.0 c.caller _);
      order = (refl, on);
      fair = λ v k. no_object c p v k x 9 _ refl;
      calm = λ kind j of low _ e. senders_some kind j of low (sym e);
      stores = λ _. refl;
      acts = λ _. (refl, on, BlockedBy.waits refl (inl refl) _ refl refl);
    })))

pub periodic_wait_holds : Laws 10
unfolding services periodic_wait blocked Passed
periodic_wait_holds = laws (λ _ _ _ _ _ _. refl) λ c x r p. checks _ _ refl (λ h.
    let f = or_false_parts (start_mode p) _ h.0 in
    let on = not-false (normal_mode p) f.0 in
    checks _ _ refl (λ free. record {
      codes = tt;
      sound = λ v k _.
          let q = normal_caller c p v k on in
          (q.created, next_sound _ (process c.caller p) (v.each_process c.caller q.created) on q.is_ready k.time (not-false _ f.1), unlocked c p v k free.0 c.caller _);
      order = (refl, on);
      fair = λ v k. no_object c p v k x 10 _ refl;
      calm = λ kind j of low _ e. senders_some kind j of low (sym e);
      stores = λ _. refl;
      acts = λ _. (refl, on, BlockedBy.releases refl (not-false _ f.1) refl);
    }))

pub resume_call : Laws 11
unfolding services resume Passed
resume_call = laws (λ _ _ _ _ _ _. refl) λ c x r p. checks _ _ refl (λ h.
    let id = number_of r.a in
    let y = process id p in
    record {
      codes = (refl, refl);
      sound = λ v k _.
          let b = known_id id p.process_count h.0 in
          ((b, resumed_sound _ y (v.each_process id b) (fit c p v k id h.1.1.0).0, not_caller c p v k id _ h.1.0), tt, omega arith);
      order = (by_test (KeepsOrEnds y) (waits_for_nothing y.wait) (λ _. inl refl) (λ _. inr refl), tt);
      fair = λ v k. one_process c p v k x 11 (Stored id _) tt;
      calm = λ kind j of low a. (
        by_test (λ (q : Process). KeepsSending kind j of low 11 y.wait q.wait) (waits_for_nothing y.wait)
            (λ e. idle kind j of low 11 r.a c p a.valid a.context a.there id None (ap object_in (for_nothing_holds (class_of y.wait) e)) refl)
            (λ _. keeps_same kind j of low 11 y.wait),
        tt,
      );
      stores = λ _. (resumed_given y, tt);
      acts = λ _. (StoredBy.resumes refl refl (live y h.1.1.0) (not-false _ h.1.1.1.0) refl, tt, refl, refl, (refl, refl));
    })

pub set_priority_holds : Laws 12
unfolding services set_priority Passed
set_priority_holds = laws (λ _ _ _ _ _ _. refl) λ c x r p. checks _ _ refl (λ h.
    let id = number_of r.a in
    let b = known_id id p.process_count h.0 in
    let y = process id p in
    let q = with_current (number_of r.b) y in
    record {
      codes = (refl, by_test (λ (a : Change). leaves_level a ≡ true) (ready y) (λ _. refl) (λ _. refl));
      sound = λ v k _. (
        (b, priority_sound _ y (v.each_process id b) (not-false y.started h.1.1.0) (number_of r.b) (in_limits 1 priority_limit r.b (not-false _ h.1.0)), λ some e. ap (λ y. ready (process y p)) e ∙ v.lock.held some),
        by_test (SoundChange c (stored id q p)) (ready y) (λ e. rw (process_stored p id q v.lists b) e) (λ _. tt),
        omega arith,
      );
      order = (inr refl, by_test (OrderlyChange (stored id q p)) (ready y) (λ _. tt) (λ _. tt));
      fair = λ v k. by_processes c p v k x 12 (Stored id q) (cond (ready y) (Last id) Nothing) 0 tt (by_test OnProcesses (ready y) (λ _. tt) (λ _. tt)) (stored_listed p id q v.lists b);
      calm = λ kind j of low _. (keeps_same kind j of low 12 y.wait, by_test (CalmChange kind j of low 12 (stored id q p)) (ready y) (λ _. tt) (λ _. tt));
      stores = λ _. (refl, by_test (Marked 12 r (stored id q p)) (ready y) (λ _. tt) (λ _. tt));
      acts = λ _. (StoredBy.prioritises refl refl (not-false _ h.1.1.0) (in_limits 1 priority_limit r.b (not-false _ h.1.0)).0 refl, by_test (Makes c r p 12) (ready y) (λ _. tt) (λ _. tt), rw (last_off (ready y) id), refl, (refl, refl));
    })

pub get_status_holds : Laws 13
unfolding services get_status Passed
get_status_holds = laws (λ _ _ _ _ _ _. refl) λ c x r p. checks _ _ refl (λ h. let id = number_of r.a in answers refl (λ v k _. (
  omega (arith, status_small c id (process id p)),
  more_room latest_deadline number_limit (process id p).times.deadline (omega arith) (times_bounded _ (process id p) (v.each_process id (known_id id p.process_count h.0)) k.time).deadline,
)))
