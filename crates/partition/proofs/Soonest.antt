-- Before the soonest wake time or deadline of a partition a tick leaves it as it is; the loop that finds that time goes from the last process
-- down. Assumes nothing.
use Prim.Native.Nat.{ℕ, zero, suc, ◌+◌, ◌-◌, ◌≤◌, ◌<◌}
use mathlib.Core.List.{List, [], ◌∷◌}
use mathlib.Core.Path.{◌≡◌, refl, sym, ap, ◌∙◌, subst}
use mathlib.Core.Bool.{false}
use native.Mathlib.Omega.{arith}
use lib.Dec.{eqb}
use lib.ListN.{get_or, set}
use borrow.Author.Tests.{lt-leb, eqb-true, eqb-false}
use Rattle.machine.specs.Time.{Time}
use Rattle.std.specs.Prelude.{None, Some}
use Rattle.machine.specs.declared.Partition.{Partition}
use Rattle.machine.specs.declared.Process.{Process}
use Rattle.machine.specs.Limits.{process_limit, greatest_time}
use Rattle.machine.specs.Process.{blank_process, due, ticked}
use Rattle.machine.specs.Partition.{within, normal_mode, process, stored, each_from, tick_partition}
use Rattle.machine.proofs.Bounds.{named_in, stored_in, stored_out}
use Rattle.machine.proofs.Either.{either}
use Rattle.machine.proofs.Keeping.{stored_rest, process_other}
use Rattle.machine.proofs.Tests.{by_test}
use Rattle.machine.proofs.Quiet.{stored_same, ticked_same}
use Rattle.partition.specs.Soonest.{sooner, soonest_from, soonest_of}

-- ---------------------------------------------------------------- the tick
-- before the sooner of a time and a number that time has not come, nor that number
not_due : (t : ℕ) (w : Time) (n : ℕ) → t < sooner w n → (due t w ≡ false) × (t < n)
not_due t None n h = (refl, h)
not_due t (Some w) n h = (lt-leb w t (omega arith), omega arith)

tick_from_same : (t n id : ℕ) (p : Partition) → t < soonest_from n id p → each_from (ticked t) n id p ≡ p
unfolding each_from soonest_from
tick_from_same t zero id p h = refl
tick_from_same t (suc n) id p h =
    let x = process id p in
    let w = not_due t x.times.wake _ h in
    let d = not_due t x.times.deadline _ w.1 in
    rw (ticked_same t x w.0 d.0, stored_same id p) (tick_from_same t n (id + 1) p d.1)

pub tick_same : (t n : ℕ) (p : Partition) → t < n → n ≤ soonest_of p → tick_partition t p ≡ p
unfolding tick_partition
tick_same t n p l h = by_test (λ (q : Partition). q ≡ p) (normal_mode p) (λ _. tick_from_same t p.process_count 1 p (omega arith)) (λ _. refl)

-- ---------------------------------------------------------------- the loop
pub soonest_done : (n id : ℕ) (p : Partition) → n ≤ id → soonest_from (n - id) (id + 1) p ≡ greatest_time
unfolding soonest_from
soonest_done n id p h = let e : n - id ≡ 0 = omega arith in rw e

pub soonest_down : (n k s : ℕ) (p : Partition) (x : Process) → 0 < k → k ≤ n → x ≡ process (k - 1 + 1) p → s ≡ soonest_from (n - k) (k + 1) p
    → sooner x.times.wake (sooner x.times.deadline s) ≡ soonest_from (n - (k - 1)) (k - 1 + 1) p
unfolding soonest_from
soonest_down n k s p x lo hi e d =
    let a : n - (k - 1) ≡ suc (n - k) = omega arith in
    let b : k - 1 + 1 ≡ k = omega arith in
    rw (e, a, b, d)

-- ---------------------------------------------------------------- a process stored
-- a number that no time of a partition comes before is one still where a process is stored, with the times of its new record
own_times : (w d : Time) (n r : ℕ) → sooner w (sooner d n) ≤ r → sooner w (sooner d n) ≤ sooner w (sooner d r)
own_times None None n r h = h
own_times None (Some b) n r h = omega arith
own_times (Some a) None n r h = omega arith
own_times (Some a) (Some b) n r h = omega arith

other_times : (w d : Time) (s n r r' : ℕ) → s ≤ n → n ≤ sooner w (sooner d r) → s ≤ r' → s ≤ sooner w (sooner d r')
other_times None None s n r r' l h k = k
other_times None (Some b) s n r r' l h k = omega arith
other_times (Some a) None s n r r' l h k = omega arith
other_times (Some a) (Some b) s n r r' l h k = omega arith

rest_times : (w d : Time) (n r : ℕ) → n ≤ sooner w (sooner d r) → n ≤ r
rest_times None None n r h = h
rest_times None (Some b) n r h = omega arith
rest_times (Some a) None n r h = omega arith
rest_times (Some a) (Some b) n r h = omega arith

no_later : (w d : Time) (n : ℕ) → sooner w (sooner d n) ≤ n
no_later None None n = omega arith
no_later None (Some b) n = omega arith
no_later (Some a) None n = omega arith
no_later (Some a) (Some b) n = omega arith

set_either : {A : Type 0} (P : A → Type 0) (l : List A) (i : ℕ) (x d : A) → P x → P (get_or l i d) → P (get_or (set l i x) i d)
set_either P [] i x d a b = b
set_either P (y ∷ l) zero x d a b = a
set_either P (y ∷ l) (suc i) x d a b = set_either P l i x d a b

module _ (id : ℕ) (x : Process) (p : Partition) where
  abbrev least : ℕ → ℕ
  least n = sooner x.times.wake (sooner x.times.deadline n)

  -- what is stored is the new record, or nothing was stored
  either_stored : (P : Process → Type 0) → P x → P (process id p) → P (process id (stored id x p))
  either_stored P a b = either (within process_limit id)
      (λ t. subst P (sym (ap (process id) (stored_in id x p t) ∙ named_in process_limit id blank_process (set p.processes (id - 1) x) t)) (set_either P p.processes (id - 1) x blank_process a (subst P (named_in process_limit id blank_process p.processes t) b)))
      (λ f. subst P (sym (ap (process id) (stored_out id x p f))) b)

  soonest_from_holds : (k j n : ℕ) → n ≤ soonest_from k j p → least n ≤ soonest_from k j (stored id x p)
  unfolding soonest_from
  soonest_from_holds zero j n h = let l = no_later x.times.wake x.times.deadline n in omega (arith, l, h)
  soonest_from_holds (suc k) j n h =
      let y = process j p in
      let r = soonest_from k (j + 1) (stored id x p) in
      let more = soonest_from_holds k (j + 1) n (rest_times y.times.wake y.times.deadline n _ h) in
      let other = other_times y.times.wake y.times.deadline (least n) n _ r (no_later x.times.wake x.times.deadline n) h more in
      let P : Process → Type 0 = λ z. least n ≤ sooner z.times.wake (sooner z.times.deadline r) in
      either (eqb j id)
      (λ t. let e = eqb-true j id t in subst (λ (i : ℕ). P (process i (stored id x p))) (sym e) (either_stored P (own_times x.times.wake x.times.deadline n r more) (subst (λ (i : ℕ). P (process i p)) e other)))
      (λ f. subst P (sym (process_other p id x j (eqb-false j id f))) other)

  pub soonest_stored : (n : ℕ) → n ≤ soonest_of p → least n ≤ soonest_of (stored id x p)
  soonest_stored n h = subst (λ (k : ℕ). least n ≤ soonest_from k 1 (stored id x p)) (sym (ap (λ (q : Partition). q.process_count) (stored_rest p id x))) (soonest_from_holds p.process_count 1 n h)
