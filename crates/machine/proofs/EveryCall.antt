-- Every call by its number, and of every call the laws of each. Assumes nothing.
use Prim.Native.Nat.{ℕ, zero, suc, ◌+◌, ◌-◌, ◌≤◌}
use mathlib.Core.Path.{◌≡◌, refl}
use mathlib.Core.List.{List, [], ◌∷◌}
use native.Mathlib.Omega.{arith}
use lib.ListN.{length, get_or}
use lib.Dec.{eqb}
use borrow.Author.Tests.{eqb-true, eqb-false}
use Rattle.machine.specs.declared.Partition.{Partition}
use Rattle.machine.specs.declared.Context.{Context}
use Rattle.machine.specs.declared.Port.{Port}
use Rattle.machine.specs.declared.Request.{Request}
use Rattle.machine.specs.Services.{call_decision, services, service_of, Service, no_service}
use Rattle.machine.specs.Theorems.Valid.{Valid, SoundContext}
use Rattle.machine.specs.Limits.{call_limit}
use Rattle.machine.specs.Ids.{other}
use Rattle.machine.proofs.Tests.{by_test}
use Rattle.machine.proofs.Bodies.{Body}
use Rattle.machine.proofs.Kept.{Sound, SoundPort}
use Rattle.machine.proofs.Orders.{InOrder}
use Rattle.machine.proofs.Fairness.{IsFair}
use Rattle.machine.proofs.Calmness.{OfSenders, IsCalm}
use Rattle.machine.proofs.CallLaws.{Other, NoStart, with_release, CallLaws, Named}
use Rattle.machine.proofs.ProcessCalls.{set_mode_holds, create_process_holds, start_call, delayed_start, stop_call, stop_self_holds, suspend_call, suspend_self_holds, timed_wait_holds, periodic_wait_holds, resume_call, set_priority_holds, get_status_holds}
use Rattle.machine.proofs.ObjectCalls.{create_semaphore_holds, wait_semaphore_holds, signal_call, create_event_holds, set_event_call, reset_event_call, wait_event_holds}
use Rattle.machine.proofs.BufferCalls.{create_buffer_holds, send_buffer_holds, receive_buffer_holds}
use Rattle.machine.proofs.BlackboardCalls.{create_blackboard_holds, show_call, read_blackboard_holds, clear_call}
use Rattle.machine.proofs.ChannelCalls.{write_call, read_call, send_channel, receive_channel}
use Rattle.machine.proofs.LockCalls.{lock_call, unlock_call, ticks_left_call}
use Rattle.machine.proofs.Acts.{Act}
use Rattle.machine.proofs.Stores.{Stores}

-- what is shown of each call of a list, by its number, counted from k on
infixr 20 ◌⊕◌
data Each : ℕ → List Service → Type 0 where
  end : {k : ℕ} → Each k []
  ◌⊕◌ : {k : ℕ} {s : Service} {l : List Service} → CallLaws k s → Each (suc k) l → Each k (s ∷ l)

-- what follows of a call from what is shown of it follows of the one at a place, and past the end of what stands there
by_place : (Q : Service → Type 0) (l : List Service) (d : Service) (k : ℕ) → Each k l → (i n : ℕ) → n ≡ k + i → ((s : Service) → CallLaws n s → Q s) → (length l ≤ i → Q d) → Q (get_or l i d)
by_place Q [] d k f i n e g h = h (omega arith)
by_place Q (s ∷ l) d k (f ⊕ t) zero n e g h = let z : n ≡ k = omega arith in g s (rw z f)
by_place Q (s ∷ l) d k (f ⊕ t) (suc i) n e g h = by_place Q l d (suc k) t i n (omega arith) g (λ z. h (omega arith))

-- in the order of their numbers, from 1 on
every_call : Each 1 services
unfolding services
every_call =
    set_mode_holds
    ⊕ create_process_holds
    ⊕ start_call
    ⊕ delayed_start
    ⊕ stop_call
    ⊕ stop_self_holds
    ⊕ suspend_call
    ⊕ suspend_self_holds
    ⊕ timed_wait_holds
    ⊕ periodic_wait_holds
    ⊕ resume_call
    ⊕ set_priority_holds
    ⊕ get_status_holds
    ⊕ create_semaphore_holds
    ⊕ wait_semaphore_holds
    ⊕ signal_call
    ⊕ create_event_holds
    ⊕ set_event_call
    ⊕ reset_event_call
    ⊕ wait_event_holds
    ⊕ write_call
    ⊕ read_call
    ⊕ create_buffer_holds
    ⊕ send_buffer_holds
    ⊕ receive_buffer_holds
    ⊕ create_blackboard_holds
    ⊕ show_call
    ⊕ read_blackboard_holds
    ⊕ clear_call
    ⊕ send_channel
    ⊕ receive_channel
    ⊕ lock_call
    ⊕ unlock_call
    ⊕ ticks_left_call
    ⊕ end

all : length services ≡ call_limit
unfolding services
all = refl

-- what follows of a call from what is shown of it, and holds of another number too, holds of every number
by_call : (n : ℕ) (P : Service → Type 0) → ((s : Service) → CallLaws n s → P s) → ((1 ≤ n → n ≤ call_limit → ⊥) → P no_service) → P (service_of n)
by_call n P shown other =
    by_test P (eqb n 0) (λ z. other (λ lo hi. let e = eqb-true n 0 z in omega arith)) λ z.
    let some = eqb-false n 0 z in
    by_place P services no_service 1 every_call (n - 1) n (omega arith) shown (λ h. other (λ lo hi. let e = all in omega arith))

pub call_body : (x : Port) (n : ℕ) (c : Context) (r : Request) (p : Partition) → 1 ≤ n → n ≤ call_limit → Body x n (call_decision c x n r p)
unfolding call_decision
call_body x n c r p lo hi = by_call n (λ s. Body x n (s.decides c x r p)) (λ s l. record { is = (l.lawful c x r p).codes }) (λ out. absurd (out lo hi))

pub call_sound : (c : Context) (x : Port) (n : ℕ) (r : Request) (p : Partition) → Valid c.frame c.time p → SoundContext c p → SoundPort c.time x → Sound c p (call_decision c x n r p)
unfolding call_decision
call_sound c x n r p v k s = by_call n (λ s. Sound c p (s.decides c x r p)) (λ _ l. record { is = (l.lawful c x r p).sound v k s }) (λ _. record { is = tt })

pub call_order : (c : Context) (p : Partition) (x : Port) (n : ℕ) (r : Request) → InOrder c p (call_decision c x n r p)
unfolding call_decision
call_order c p x n r = by_call n (λ s. InOrder c p (s.decides c x r p)) (λ s l. record { is = (l.lawful c x r p).order }) (λ _. record { is = tt })

pub call_fair : (c : Context) (p : Partition) → Valid c.frame c.time p → SoundContext c p → (x : Port) (n : ℕ) (r : Request) → IsFair x n p (call_decision c x n r p)
unfolding call_decision
call_fair c p v k x n r = by_call n (λ s. IsFair x n p (s.decides c x r p)) (λ s l. record { is = (l.lawful c x r p).fair v k }) (λ _. record { is = tt })

pub call_calm : (kind j : ℕ) (of : OfSenders kind) (low : j ≤ 16) (n : ℕ) (c : Context) (x : Port) (r : Request) (p : Partition) → Other kind j n c x r p → IsCalm kind j of low n r.a p (call_decision c x n r p)
unfolding call_decision
call_calm kind j of low n c x r p a = by_call n (λ s. IsCalm kind j of low n r.a p (s.decides c x r p)) (λ s l. record { is = (l.lawful c x r p).calm kind j of low a }) (λ _. record { is = tt })

pub call_stores : (c : Context) (x : Port) (n : ℕ) (r : Request) (p : Partition) → Valid c.frame c.time p → Stores n r p (call_decision c x n r p)
unfolding call_decision
call_stores c x n r p v = by_call n (λ s. Stores n r p (s.decides c x r p)) (λ s l. record { is = (l.lawful c x r p).stores v }) (λ _. record { is = tt })

pub call_acts : (c : Context) (x : Port) (n : ℕ) (r : Request) (p : Partition) → Named x r → Act c r p n (call_decision c x n r p)
unfolding call_decision
call_acts c x n r p at = by_call n (λ s. Act c r p n (s.decides c x r p)) (λ s l. record { is = (l.lawful c x r p).acts at }) (λ _. record { is = tt })

-- a call that takes no start rule does not look at the release point
pub release_unseen : (n : ℕ) → NoStart n → (c : Context) (u : ℕ) (x : Port) (r : Request) (p : Partition) → call_decision (with_release u c) x n r p ≡ call_decision c x n r p
unfolding call_decision
release_unseen n h c u x r p = by_call n (λ s. s.decides (with_release u c) x r p ≡ s.decides c x r p) (λ s l. l.unseen h c u x r p) (λ _. refl)
