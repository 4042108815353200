-- Calls 32 to 34, of the preemption lock and of the ticks left: what is shown of each. Assumes nothing.
use Prim.Native.Nat.{ℕ, ◌-◌}
use mathlib.Core.Path.{◌≡◌, refl}
use mathlib.Core.Bool.{true}
use native.Mathlib.Omega.{arith}
use borrow.Author.Tests.{lt-ltb, ltb-true, leb-false, not-false}
use Rattle.machine.specs.declared.Change.TheVariants.{LevelSet}
use Rattle.machine.specs.Limits.{level_limit}
use Rattle.machine.specs.Process.{ready}
use Rattle.machine.specs.Partition.{normal_mode, locked, process}
use Rattle.machine.specs.Calls.{lock_preemption, unlock_preemption, get_ticks_left}
use Rattle.machine.specs.Services.{services}
use Rattle.machine.proofs.Tests.{by_test, Passed}
use Rattle.machine.proofs.Kept.{normal_caller}
use Rattle.machine.proofs.Fairness.{one_process}
use Rattle.machine.proofs.CallLaws.{laws, Laws, checks, answers}

pub lock_call : Laws 32
unfolding services lock_preemption Passed
lock_call = laws (λ _ _ _ _ _ _. refl) λ c x r p. checks _ _ refl (λ h. record {
  codes = (refl, refl);
  sound = λ v k _.
      let on = not-false (normal_mode p) h.0 in
      let room = leb-false level_limit p.level h.1.0 in (
        (
          record {
            few = omega arith;
            free = λ z. absurd (omega arith);
            normal = λ _. on;
            held = λ _. by_test (λ (id : ℕ). ready (process id p) ≡ true) (locked p.level) (λ e. v.lock.held (ltb-true 0 p.level e)) (λ _. (normal_caller c p v k on).is_ready);
          },
          λ some _. rw (lt-ltb 0 p.level some),
        ),
        tt,
        omega arith,
      );
  order = (tt, tt);
  fair = λ v k. one_process c p v k x 32 (LevelSet _ _) tt;
  calm = λ _ _ _ _ _. (tt, tt);
  stores = λ _. (tt, tt);
  acts = λ _. (tt, tt, refl, refl, (refl, refl));
})

pub unlock_call : Laws 33
unfolding services unlock_preemption Passed
unlock_call = laws (λ _ _ _ _ _ _. refl) λ c x r p. checks _ _ refl (λ h. record {
  codes = (refl, refl);
  sound = λ v k _.
      let some = ltb-true 0 p.level (not-false _ h.1.0) in (
        (
          record {
            few = omega (arith, v.lock.few);
            free = λ z. rw z;
            normal = λ _. not-false (normal_mode p) h.0;
            held = λ more. rw (lt-ltb 0 (p.level - 1) more) (v.lock.held some);
          },
          λ _ more. rw (lt-ltb 0 (p.level - 1) more),
        ),
        tt,
        omega arith,
      );
  order = (tt, tt);
  fair = λ v k. one_process c p v k x 33 (LevelSet _ _) tt;
  calm = λ _ _ _ _ _. (tt, tt);
  stores = λ _. (tt, tt);
  acts = λ _. (tt, tt, refl, refl, (refl, refl));
})

pub ticks_left_call : Laws 34
unfolding services get_ticks_left
ticks_left_call = laws (λ _ _ _ _ _ _. refl) λ c x r p. answers refl (λ _ k _. (omega (arith, k.left.1, k.frame.1), omega arith))
