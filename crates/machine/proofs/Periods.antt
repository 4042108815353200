-- Strict periods: what an event makes of a release, and every list. Assumes nothing.
use Rattle.machine.specs.Mode.{mode_number}
use Prim.Native.Nat.{ℕ, ◌+◌, ◌-◌, ◌*◌}
use mathlib.Core.Path.{◌≡◌, refl, sym, ap, ◌∙◌}
use mathlib.Core.Bool.{true, false, cond}
use mathlib.Core.List.{List, [], ◌∷◌}
use native.Mathlib.Nat.{mul-zero, mul-one, mul-add}
use native.Mathlib.Omega.{arith}
use lib.Dec.{eqb}
use borrow.Author.Tests.{eq-eqb, eqb-true}
use Rattle.machine.specs.declared.Given.{Given}
use Rattle.machine.specs.declared.Process.{Process}
use Rattle.machine.specs.declared.Partition.{Partition}
use Rattle.machine.specs.declared.Event.{Event as EventT}
use Rattle.machine.specs.declared.Module.{Module}
use Rattle.machine.specs.declared.Wait.TheVariants.{Normal}
use Rattle.machine.specs.Time.{Time}
use Rattle.std.specs.Prelude.{None, Some}
use Rattle.machine.specs.Process.{Class, class_of, is_never}
use Rattle.machine.specs.Partition.{normal_mode, process}
use Rattle.machine.specs.Step.{step}
use Rattle.machine.specs.Runs.{after}
use Rattle.machine.specs.Theorems.Valid.{Between, AtMost, SoundRelease, plain_later, SoundProcess, setting_of, Valid, Reached}
use Rattle.machine.specs.Theorems.Plain.{plain_number}
use Rattle.machine.specs.Theorems.Events.{own}
use Rattle.machine.specs.Theorems.EachProcess.{CallBy, StopOf, Erasure, Service, Becomes}
use Rattle.machine.specs.Theorems.Periods.{waits_period, period_waits, NeverStopped, Periods}
use Rattle.machine.proofs.Tests.{and_left, and_right, not_both}
use Rattle.machine.proofs.Either.{either}
use Rattle.machine.proofs.Bounds.{not_so}
use Rattle.machine.proofs.Keeping.{process_created}
use Rattle.machine.proofs.Reached.{valid_sound, reached_valid}
use Rattle.machine.proofs.Alike.{same_started, same_given, same_release}
use Rattle.machine.proofs.Turns.{same_number}
use Rattle.machine.proofs.EachProcess.{each_process_holds}
use Rattle.machine.proofs.Priorities.{number_at, between_after}

-- ---------------------------------------------------------------- one event
module _ (m : Module) (e : EventT) (k id : ℕ) (normal : mode_number (own m k).mode ≡ 3) where
  abbrev code : ℕ
  code = (step m e).answer.code

  abbrev x : Process
  x = process id (own m k)

  -- its PERIODIC_WAIT
  abbrev Its : Type 0
  Its = CallBy m e code k id 10 7

  waits_so : Its → waits_period m e k id ≡ true
  waits_so c = rw (c.0.2, c.0.0, c.0.1, eq-eqb k k refl, eq-eqb id _ c.2)

  waits_not : (Its → ⊥) → waits_period m e k id ≡ false
  waits_not none = not_so _ (λ t.
      let u = and_right (eqb code 7) _ t in
      let w = and_right (plain_number k e.partition) _ u in
      none ((number_at k e.partition (and_left (plain_number k e.partition) _ u), number_at 10 e.call (and_left (plain_number 10 e.call) _ w), eqb-true code 7 (and_left (eqb code 7) _ t)), normal, eqb-true id _ (and_right (plain_number 10 e.call) _ w)))

  -- it goes on, and its release rises by the period where the event is its PERIODIC_WAIT
  record Lasts (y : Process) : Type 0 where
    started : y.started ≡ true
    given : y.given ≡ x.given
    release : y.times.release ≡ cond (waits_period m e k id) (plain_later x.times.release x.given.period) x.times.release

  zero : code ≡ 0 → Its → ⊥
  zero z c = omega (arith, z, c.0.2)

  service_zero : Service m e code k id → code ≡ 0
  service_zero (Service.here n message c is some) = c.2
  service_zero (Service.sent i l by call a z end on) = z
  service_zero (Service.taken i message l by call a z end on) = z
  service_zero (Service.restart i message mode l by call a low z end on) = z

  module _ (on : x.started ≡ true) (early : x.wait ≡ Normal → ⊥) (stop : StopOf m e code k id → ⊥) (erase : Erasure m e code k id → ⊥) where
    stays : (y : Process) → y.started ≡ x.started → y.given ≡ x.given → y.times.release ≡ x.times.release → (Its → ⊥) → Lasts y
    stays y s g r none = record { started = s ∙ on; given = g; release = r ∙ sym (rw (waits_not none)) }

    lasts_by : (y : Process) → Becomes m e code k id y → Lasts y
    lasts_by y (Becomes.same u is) = stays y (same_started is) (same_given is) (same_release is) (u.wait 10)
    lasts_by y (Becomes.ticked t is) = stays y (same_started is) (same_given is) (same_release is) (zero t.1)
    lasts_by y (Becomes.created c none is) = not_both _ on (same_started none)
    lasts_by y (Becomes.started c off is in_normal early) = not_both _ on off
    lasts_by y (Becomes.stopped c is) = absurd (stop c)
    lasts_by y (Becomes.suspended c on off is) = stays y (same_started is) (same_given is) (same_release is) (zero c.0.2)
    lasts_by y (Becomes.suspended_self c none is) = stays y (same_started is) (same_given is) (same_release is) (λ g. omega (arith, same_number (sym c.0.1 ∙ g.0.1)))
    lasts_by y (Becomes.waiting n message c ten none some is) = stays y (same_started is) (same_given is) (same_release is) (λ g. ten (same_number (sym c.0.1 ∙ g.0.1)))
    lasts_by y (Becomes.released c none is) = record { started = same_started is ∙ on; given = same_given is; release = same_release is ∙ sym (rw (waits_so c)) }
    lasts_by y (Becomes.resumed c on marked is) = stays y (same_started is) (same_given is) (same_release is) (zero c.0.2)
    lasts_by y (Becomes.prioritised c on is) = stays y (same_started is) (same_given is) (same_release is) (zero c.0.2)
    lasts_by y (Becomes.served c is) = stays y (same_started is) (same_given is) (same_release is) (zero (service_zero c))
    lasts_by y (Becomes.entered c is wait) = absurd (early c.waits)
    lasts_by y (Becomes.erased c is) = absurd (erase c)

-- ---------------------------------------------------------------- a partition
at_most_some : (n : ℕ) (r : Time) → AtMost n r → r ≡ None → ⊥
at_most_some n None h z = h
at_most_some n (Some i) h z = not_both _ (ap is_never z) refl

release_some : (t n : ℕ) (v : Class) (r : Time) → SoundRelease t (Some n) v r → r ≡ None → ⊥
release_some t n Class.nothing r h z = at_most_some t r h z
release_some t n Class.normal r h z = h
release_some t n Class.timer r h z = at_most_some t r h z
release_some t n Class.release r h z = at_most_some _ r h.1 z
release_some t n (Class.onto kind j msg) r h z = at_most_some t r h z

module _ (frame t : ℕ) (p : Partition) (v : Valid frame t p) (id : ℕ) (on : (process id p).started ≡ true) where
  sound : SoundProcess (setting_of frame t p) (process id p)
  sound = v.each_process id (process_created (λ (y : Process). y.started) refl p v.lists id on)

  -- in NORMAL it does not wait for NORMAL, and has a release where it is periodic
  not_early : normal_mode p ≡ true → (process id p).wait ≡ Normal → ⊥
  not_early n z = rw z at (sound.going on n).wait

  has_release : (n : ℕ) → normal_mode p ≡ true → (process id p).given.period ≡ Some n → (process id p).times.release ≡ None → ⊥
  has_release n normal per = release_some t n (class_of (process id p).wait) _ (rw per at (sound.going on normal).release)

  -- where it has one, the mode is NORMAL
  in_normal : (r : ℕ) → (process id p).times.release ≡ Some r → mode_number p.mode ≡ 3
  in_normal r is = either (normal_mode p) (λ t. eqb-true _ 3 t) (λ f. not_both _ (ap is_never (sym is ∙ (sound.early on f).times.release)) refl)

-- ---------------------------------------------------------------- every list
module _ (m : Module) (h : Reached m) (k id : ℕ) (b : Between 1 m.table.size k) where
  valid : Valid m.table.frame m.t (own m k)
  valid = (valid_sound m (reached_valid m h) (k - 1) (omega (arith, b.0, b.1))).each_partition (k - 1) (omega (arith, b.0, b.1))

  lasts : (e : EventT) → (process id (own m k)).started ≡ true → let code = (step m e).answer.code in
      (StopOf m e code k id → ⊥) → (Erasure m e code k id → ⊥) → (normal : mode_number (own m k).mode ≡ 3) → Lasts m e k id normal (process id (own (step m e).state k))
  lasts e on stop erase normal = lasts_by m e k id normal on (not_early m.table.frame m.t (own m k) valid id on (eq-eqb _ 3 normal)) stop erase _ (each_process_holds m h e k id b)

times : (n c : ℕ) → n * (1 + c) ≡ n + n * c
times n c = mul-add n 1 c ∙ ap (λ j. j + n * c) (mul-one n)

list_strict : (k id n : ℕ) (es : List EventT) (m : Module) → Reached m → Between 1 m.table.size k → (r : ℕ) → mode_number (own m k).mode ≡ 3 → (process id (own m k)).started ≡ true → (process id (own m k)).given.period ≡ Some n
    → (process id (own m k)).times.release ≡ Some r → NeverStopped k id m es → (process id (own (after m es) k)).times.release ≡ Some (r + n * period_waits k id m es)
unfolding NeverStopped period_waits
list_strict k id n [] m h b r normal on per is never = is ∙ ap Some (omega (arith, mul-zero n))
list_strict k id n (e ∷ es) m h b r normal on per is never =
    let q = (step m e).state in
    let l = lasts m h k id b e on never.0 never.1 normal in
    let u = Reached.stepped m e h in
    let w = between_after m h k id b e in
    let c = period_waits k id q es in
    let go : (r' : ℕ) → (process id (own q k)).times.release ≡ Some r' → (process id (own (after q es) k)).times.release ≡ Some (r' + n * c) = λ r' z.
    list_strict k id n es q u w r' (in_normal q.table.frame q.t (own q k) (valid q u k id w) id l.started r' z) l.started (ap (λ (g : Given). g.period) l.given ∙ per) z never.2 in
    either (waits_period m e k id)
    (λ t. go (r + n) (l.release ∙ rw (t, is, per)) ∙ rw t (ap Some (omega (arith, times n c))))
    (λ t. go r (l.release ∙ rw (t, is)) ∙ rw t (ap (λ j. Some (r + n * j)) (omega arith)))

-- Law. Strict periods.
pub periods : Periods
periods = record {
  known = λ m h k id n b normal on per. has_release m.table.frame m.t (own m k) (valid m h k id b) id on n (eq-eqb _ 3 normal) per;
  strict = λ m h es k id n r b normal on per is never. list_strict k id n es m h b r normal on per is never;
}
