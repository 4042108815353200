-- What is shown of one call, whatever its number and whatever it decides; the ways through its checks, to an answer and to a wait. Assumes nothing.
use Prim.Native.Nat.{ℕ, ◌+◌, ◌≤◌, ◌<◌}
use mathlib.Core.Path.{◌≡◌, refl, ap}
use mathlib.Core.Bool.{Bool, true, false, ◌&&◌, ◌||◌}
use mathlib.Core.List.{List}
use borrow.Author.Tests.{not-false}
use Rattle.machine.specs.declared.Partition.{Partition}
use Rattle.machine.specs.declared.Context.{Context}
use Rattle.machine.specs.declared.Port.{Port}
use Rattle.machine.specs.declared.Decision.{Decision}
use Rattle.machine.specs.declared.Decision.TheVariants.{Refused, Unchanged}
use Rattle.machine.specs.declared.Request.{Request}
use Rattle.machine.specs.declared.Field.{Field}
use Rattle.machine.specs.declared.Wait.{Wait}
use Rattle.machine.specs.Time.{Time}
use Rattle.machine.specs.Limits.{duration_limit}
use Rattle.machine.specs.Fields.{is_timeout, number_of, time_of}
use Rattle.machine.specs.Process.{Class, class_of, object, later, waiting_for, waits_for_nothing}
use Rattle.machine.specs.Partition.{normal_mode, process}
use Rattle.machine.specs.Theorems.Valid.{Between, setting_of, Valid, SoundContext, SoundValue, SoundDecision}
use Rattle.machine.specs.Decisions.{checked, blocked, start_mode, queued, awaiting, wait_checks}
use Rattle.machine.specs.Services.{service_of, Service}
use Rattle.machine.proofs.Tests.{by_test, Passed, passed_parts, codes_in, by_codes}
use Rattle.machine.proofs.Bounds.{and_true_parts}
use Rattle.machine.proofs.Sound.{ready_released, waiting_sound}
use Rattle.machine.proofs.Bodies.{body_refusal, Bodily}
use Rattle.machine.proofs.Kept.{timeout_ahead, normal_caller, unlocked, SoundPort}
use Rattle.machine.proofs.Orders.{Orderly}
use Rattle.machine.proofs.Fairness.{NotThere, Fair}
use Rattle.machine.proofs.Calmness.{OfSenders, senders, Calm}
use Rattle.machine.proofs.Acts.{Acts, BlockedBy, acts_on_named}
use Rattle.std.specs.Prelude.{Some}
use Rattle.machine.proofs.Stores.{Marks}
use lib.Dec.{eqb}
use mathlib.Core.Logic.{inr}
use Rattle.machine.specs.Theorems.EachProcess.{wait_of}

-- an event that is no SEND to the buffer or queuing channel with the senders and no RECEIVE from it, in a valid partition that may call
pub record Other (kind j n : ℕ) (c : Context) (x : Port) (r : Request) (p : Partition) : Type 0 where
  pub valid : Valid c.frame c.time p
  pub context : SoundContext c p
  pub there : kind ≡ 3 → p.buffer_count < j → ⊥
  pub no_send : kind ≡ 3 → n ≡ 24 → number_of r.a ≡ j → ⊥
  pub no_receive : kind ≡ 3 → n ≡ 25 → number_of r.a ≡ j → ⊥
  pub no_send_channel : kind ≡ 6 → n ≡ 30 → x.exists ≡ true → x.place + 1 ≡ j → ⊥

-- the channel, where there is one, is the one that the call names
abbrev pub Named : Port → Request → Type 0
Named x r = x.exists ≡ true → x.place + 1 ≡ number_of r.a

-- what is shown of what call n decides: which codes it gives and who reaches the lock and the channels; that it is sound; that only the caller
-- begins to wait; that what it makes available was so before, or nobody waits for it; that it leaves the buffers and who waits to send; what it
-- stores and under which name; what it does to processes and the arrival list, where a channel is the one that the call names
pub record Lawful (n : ℕ) (c : Context) (x : Port) (r : Request) (p : Partition) (d : Decision) : Type 0 where
  pub codes : Bodily x n d
  pub sound : Valid c.frame c.time p → SoundContext c p → SoundPort c.time x → SoundDecision c p d
  pub order : Orderly c p d
  pub fair : Valid c.frame c.time p → SoundContext c p → Fair x n p d
  pub calm : (kind j : ℕ) (of : OfSenders kind) (low : j ≤ 16) → Other kind j n c x r p → Calm kind j of low n r.a p d
  pub stores : Valid c.frame c.time p → Marks n r p d
  pub acts : Named x r → Acts c r p n d

-- the calls that take the start rule
abbrev pub NoStart : ℕ → Type 0
NoStart n = (n ≡ 1 → ⊥) × (n ≡ 3 → ⊥) × (n ≡ 4 → ⊥)

abbrev pub with_release : ℕ → Context → Context
with_release u c = record { time = c.time; frame = c.frame; left = c.left; release = u; caller = c.caller }

-- what is shown of call n; the others do not look at the release point
pub record CallLaws (n : ℕ) (s : Service) : Type 0 where
  pub lawful : (c : Context) (x : Port) (r : Request) (p : Partition) → Lawful n c x r p (s.decides c x r p)
  pub unseen : NoStart n → (c : Context) (u : ℕ) (x : Port) (r : Request) (p : Partition) → s.decides (with_release u c) x r p ≡ s.decides c x r p

abbrev pub Laws : ℕ → Type 0
Laws n = CallLaws n (service_of n)

pub laws : {n : ℕ} {s : Service} → (NoStart n → (c : Context) (u : ℕ) (x : Port) (r : Request) (p : Partition) → s.decides (with_release u c) x r p ≡ s.decides c x r p)
    → ((c : Context) (x : Port) (r : Request) (p : Partition) → Lawful n c x r p (s.decides c x r p)) → CallLaws n s
laws unseen lawful = record { lawful = lawful; unseen = unseen }

-- what is shown of a wait that call n begins
pub record BeginsWait (n : ℕ) (c : Context) (x : Port) (r : Request) (p : Partition) (w : Wait) (kind j m : ℕ) : Type 0 where
  pub class : class_of w ≡ Class.onto kind j m
  pub known : Between 1 ((setting_of c.frame c.time p).counts kind) j × (m ≤ duration_limit)
  pub fair : Valid c.frame c.time p → SoundContext c p → NotThere x n p (object w)
  pub calm : (kind j : ℕ) (of : OfSenders kind) (low : j ≤ 16) → Other kind j n c x r p → object w ≡ senders kind j of low → ⊥
  pub listed : ((eqb n 8 || eqb n 10) ≡ false) × (waits_for_nothing (wait_of n (number_of r.a) (number_of r.b)) ≡ false)
  pub named : Named x r → (w ≡ wait_of n (number_of r.a) (number_of r.b)) × (number_of r.a ≡ 0 → ⊥)

-- a wait does not look at the release point
pub waits_unseen : (c : Context) (u : ℕ) (before : List (Bool × ℕ)) (beside : Bool) (after : List (Bool × ℕ)) (a : Field) (b : Bool) (success : Decision) (w : Wait) (p : Partition)
    → awaiting (with_release u c) before beside after a b success w p ≡ awaiting c before beside after a b success w p
unfolding awaiting queued
waits_unseen c u before beside after a b success w p = refl

module _ {n : ℕ} {c : Context} {x : Port} {r : Request} {p : Partition} where
  pub refused : (m : ℕ) → body_refusal m ≡ true → Lawful n c x r p (Refused m)
  refused m e = record { codes = e; sound = λ _ _ _. tt; order = tt; fair = λ _ _. tt; calm = λ _ _ _ _ _. tt; stores = λ _. tt; acts = λ _. tt }

  -- refused, or what the checks leave
  pub checks : (l : List (Bool × ℕ)) (d : Decision) → codes_in body_refusal l ≡ true → (Passed l → Lawful n c x r p d) → Lawful n c x r p (checked Refused l d)
  checks l d h f = by_codes (Lawful n c x r p) body_refusal Refused l d h refused f

  -- an answer without a change
  pub answers : {value : ℕ} {extra : Time} → (eqb n 9 || acts_on_named n) ≡ false → (Valid c.frame c.time p → SoundContext c p → SoundPort c.time x → SoundValue value extra) → Lawful n c x r p (Unchanged value extra)
  answers e f = record { codes = tt; sound = f; order = tt; fair = λ _ _. tt; calm = λ _ _ _ _ _. tt; stores = λ _. tt; acts = λ _. e }

  -- a call that waits: its checks, then success or the queue
  pub waits : (before : List (Bool × ℕ)) (beside : Bool) (after : List (Bool × ℕ)) (a : Field) (b : Bool) (success : Decision) (w : Wait) (kind j m : ℕ)
      → codes_in body_refusal (wait_checks before (start_mode p) (beside && is_timeout a) after) ≡ true
      → (Passed before → beside ≡ true → b ≡ true → Lawful n c x r p success)
      → (Passed before → beside ≡ true → b ≡ false → BeginsWait n c x r p w kind j m)
      → Lawful n c x r p (awaiting c before beside after a b success w p)
  unfolding awaiting queued blocked Passed
  waits before beside after a b success w kind j m codes done wait = checks _ _ codes (λ h.
      let f = passed_parts before _ h in
      let t = and_true_parts beside _ (not-false _ f.1.1.0) in
      by_test (Lawful n c x r p) b (λ e. done f.0 t.0 e) (λ e. checks _ _ refl (λ z. checks _ _ refl (λ free.
      let g = wait f.0 t.0 e in
      let on = not-false (normal_mode p) f.1.0 in
      record {
        codes = tt;
        sound = λ v k _.
            let q = normal_caller c p v k on in
            let y = process c.caller p in
            let s = v.each_process c.caller q.created in
            (q.created, waiting_sound _ y s on q.is_ready w (rw g.class g.known) _ (rw g.class (timeout_ahead c.time a k.time t.1 z.0)) (rw g.class (ready_released _ y s on q.is_ready)), unlocked c p v k free.0 c.caller _);
        order = (refl, on);
        fair = g.fair;
        calm = g.calm;
        stores = λ _. refl;
        acts = λ at.
            let is = g.named at in
            let until = later (Some c.time) (time_of a) in
            (refl, on, BlockedBy.waits g.listed.0 (inr is.1) until g.listed.1 (ap (λ (v : Wait). waiting_for v until (process c.caller p)) is.0));
      }))))
