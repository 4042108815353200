-- What a call's decision leaves of the module, by the questions that are put to it: whether it changes the caller's partition, whether it
-- restarts it, where it leaves a message, and where it makes a transfer. Assumes nothing.
use Rattle.std.specs.Prelude.{Some}
use Prim.Native.Nat.{ℕ, zero, suc, ◌-◌, ◌≤◌, ◌<◌}
use mathlib.Core.Path.{◌≡◌, refl, sym, ap, subst}
use mathlib.Core.Bool.{true, false, ◌&&◌, true≢false}
use mathlib.Core.List.{List, [], ◌∷◌}
use native.Mathlib.Omega.{arith}
use lib.Dec.{eqb, leb}
use lib.ListN.{length, set, get_or-eq_default}
use borrow.Author.Tests.{eqb-false, leb-true, leb-false, le-leb}
use Rattle.machine.specs.declared.Context.{Context}
use Rattle.machine.specs.declared.Decision.{Decision}
use Rattle.machine.specs.declared.Decision.TheVariants.{Refused, Unchanged, Ticked, Blocked, Changed, Restarted, Written, Passed}
use Rattle.machine.specs.declared.Module.{Module}
use Rattle.machine.specs.declared.Partition.{Partition}
use Rattle.machine.specs.declared.Port.{Port}
use Rattle.machine.specs.declared.Request.{Request}
use Rattle.machine.specs.Limits.{channel_limit, call_limit}
use Rattle.machine.specs.Partition.{partition_after}
use Rattle.machine.specs.Questions.{changes, restarts, message_at, message_of, transfer_at, transfer_of}
use Rattle.machine.specs.Module.{part, with_part, with_message}
use Rattle.machine.specs.Channels.{passed}
use Rattle.machine.specs.Services.{Service, services, no_service, service_of, call_decision, called}
use Rattle.machine.specs.Step.{restarted, module_after}
use Rattle.machine.proofs.Tests.{by_test, by_checks, and_left, and_right, not_both}
use Rattle.machine.proofs.Either.{either}
use Rattle.machine.proofs.Bodies.{Bodily}
use Rattle.machine.proofs.EveryCall.{call_body}

-- a call decides no tick, and a transfer on a channel that has a place
abbrev pub NoTick : Decision → Type 0
NoTick (Refused code) = Unit {0}
NoTick (Unchanged value extra) = Unit {0}
NoTick Ticked = ⊥
NoTick (Blocked id x) = Unit {0}
NoTick (Changed a b value) = Unit {0}
NoTick (Restarted mode) = Unit {0}
NoTick (Written i x) = Unit {0}
NoTick (Passed i a value) = i < channel_limit

pub record Call (d : Decision) : Type 0 where
  pub is : NoTick d

body_no_tick : (x : Port) (n : ℕ) (d : Decision) → Bodily x n d → NoTick d
body_no_tick x n (Refused m) h = tt
body_no_tick x n (Unchanged v e) h = tt
body_no_tick x n Ticked h = h
body_no_tick x n (Blocked id y) h = tt
body_no_tick x n (Changed a b v) h = tt
body_no_tick x n (Restarted mode) h = tt
body_no_tick x n (Written i y) h = tt
body_no_tick x n (Passed i a v) h = omega (arith, h.place, h.placed)

-- another number is no call
pub no_service_holds : (n : ℕ) → (1 ≤ n → n ≤ call_limit → ⊥) → service_of n ≡ no_service
unfolding services
no_service_holds n out = by_test (λ (s : Service). s ≡ no_service) (eqb n 0) (λ _. refl)
    (λ z. get_or-eq_default services no_service (past n (eqb-false n 0 z) out))
  where
    past : (n : ℕ) → (n ≡ 0 → ⊥) → (1 ≤ n → n ≤ call_limit → ⊥) → call_limit ≤ n - 1
    past n some out = either (leb n call_limit) (λ e. absurd (out (omega (arith, some)) (leb-true n call_limit e))) (λ e. let h = leb-false n call_limit e in omega arith)

pub called_no_tick : (c : Context) (x : Port) (n : ℕ) (r : Request) (p : Partition) → Call (called c x n r p)
unfolding call_decision
called_no_tick c x n r p = by_checks Call Refused _ _ (λ m. record { is = tt }) (λ _. either (leb 1 n && leb n call_limit)
    (λ e. record { is = body_no_tick x n (call_decision c x n r p) (call_body x n c r p (leb-true 1 n (and_left (leb 1 n) _ e)) (leb-true n call_limit (and_right (leb 1 n) _ e))).is })
    (λ e. subst (λ (s : Service). Call (s.decides c x r p)) (sym (no_service_holds n (λ lo hi. not_both _ (rw (le-leb 1 n lo, le-leb n call_limit hi)) e))) (record { is = tt })))

set_past : {A : Type 0} (l : List A) (i : ℕ) (a : A) → length l ≤ i → set l i a ≡ l
set_past [] i a h = refl
set_past (x ∷ l) zero a h = absurd (omega arith)
set_past (x ∷ l) (suc i) a h = ap (λ (k : List _). x ∷ k) (set_past l i a (omega arith))

module _ (m : Module) (k : ℕ) where
  pub after_changed : (d : Decision) → changes d ≡ true → restarts d ≡ false → module_after m k d ≡ with_part (k - 1) (partition_after d (part m (k - 1))) m
  after_changed (Refused n) c r = absurd (true≢false (sym c))
  after_changed (Unchanged v e) c r = absurd (true≢false (sym c))
  after_changed Ticked c r = absurd (true≢false (sym c))
  after_changed (Blocked id x) c r = refl
  after_changed (Changed a b v) c r = refl
  after_changed (Restarted mode) c r = absurd (true≢false r)
  after_changed (Written i x) c r = absurd (true≢false (sym c))
  after_changed (Passed i a v) c r = absurd (true≢false (sym c))

  pub after_restarted : (d : Decision) → restarts d ≡ true → module_after m k d ≡ restarted k (partition_after d (part m (k - 1))) m
  after_restarted (Refused n) r = absurd (true≢false (sym r))
  after_restarted (Unchanged v e) r = absurd (true≢false (sym r))
  after_restarted Ticked r = absurd (true≢false (sym r))
  after_restarted (Blocked id x) r = absurd (true≢false (sym r))
  after_restarted (Changed a b v) r = absurd (true≢false (sym r))
  after_restarted (Restarted mode) r = refl
  after_restarted (Written i x) r = absurd (true≢false (sym r))
  after_restarted (Passed i a v) r = absurd (true≢false (sym r))

  pub after_written : (d : Decision) → message_at d < channel_limit → module_after m k d ≡ with_message (message_at d) (message_of d) m
  after_written (Refused n) h = absurd (omega arith)
  after_written (Unchanged v e) h = absurd (omega arith)
  after_written Ticked h = absurd (omega arith)
  after_written (Blocked id x) h = absurd (omega arith)
  after_written (Changed a b v) h = absurd (omega arith)
  after_written (Restarted mode) h = absurd (omega arith)
  after_written (Written i x) h = refl
  after_written (Passed i a v) h = absurd (omega arith)

  pub after_passed : (d : Decision) → transfer_at d < channel_limit → module_after m k d ≡ passed k (transfer_at d) (transfer_of d) m
  after_passed (Refused n) h = absurd (omega arith)
  after_passed (Unchanged v e) h = absurd (omega arith)
  after_passed Ticked h = absurd (omega arith)
  after_passed (Blocked id x) h = absurd (omega arith)
  after_passed (Changed a b v) h = absurd (omega arith)
  after_passed (Restarted mode) h = absurd (omega arith)
  after_passed (Written i x) h = absurd (omega arith)
  after_passed (Passed i a v) h = refl

  -- a place past the channels holds nothing
  pub after_same : length m.messages ≡ channel_limit → (d : Decision) → NoTick d → changes d ≡ false → channel_limit ≤ message_at d → channel_limit ≤ transfer_at d → module_after m k d ≡ m
  after_same long (Refused n) t c h g = refl
  after_same long (Unchanged v e) t c h g = refl
  after_same long Ticked t c h g = absurd t
  after_same long (Blocked id x) t c h g = absurd (true≢false c)
  after_same long (Changed a b v) t c h g = absurd (true≢false c)
  after_same long (Restarted mode) t c h g = absurd (true≢false c)
  after_same long (Written i x) t c h g = rw (set_past m.messages i (Some x) (omega arith))
  after_same long (Passed i a v) t c h g = absurd (omega arith)
