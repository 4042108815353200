-- What a wait is for, by its reason. Assumes nothing.
use mathlib.Core.Path.{◌≡◌, refl}
use mathlib.Core.Bool.{true, false}
use Rattle.machine.specs.declared.Wait.{Wait}
use Rattle.machine.specs.declared.Wait.TheVariants.{None, Normal, Delay, Timed, Period, Semaphore, Event, Sending, Receiving, Blackboard, Source, Destination}
use Rattle.machine.specs.Process.{waits_for_nothing, waits_for_normal}
use Rattle.machine.proofs.Tests.{not_both}
use Rattle.machine.proofs.Bounds.{not_so}

-- who waits for nothing, and who for NORMAL
pub for_none : (w : Wait) → waits_for_nothing w ≡ true → w ≡ None
for_none None t = refl
for_none Normal t = not_both _ t refl
for_none Delay t = not_both _ t refl
for_none Timed t = not_both _ t refl
for_none Period t = not_both _ t refl
for_none (Semaphore j) t = not_both _ t refl
for_none (Event j) t = not_both _ t refl
for_none (Sending j m) t = not_both _ t refl
for_none (Receiving j) t = not_both _ t refl
for_none (Blackboard j) t = not_both _ t refl
for_none (Source j m) t = not_both _ t refl
for_none (Destination j) t = not_both _ t refl

pub for_normal_holds : (w : Wait) → waits_for_normal w ≡ true → w ≡ Normal
for_normal_holds None t = not_both _ t refl
for_normal_holds Normal t = refl
for_normal_holds Delay t = not_both _ t refl
for_normal_holds Timed t = not_both _ t refl
for_normal_holds Period t = not_both _ t refl
for_normal_holds (Semaphore j) t = not_both _ t refl
for_normal_holds (Event j) t = not_both _ t refl
for_normal_holds (Sending j m) t = not_both _ t refl
for_normal_holds (Receiving j) t = not_both _ t refl
for_normal_holds (Blackboard j) t = not_both _ t refl
for_normal_holds (Source j m) t = not_both _ t refl
for_normal_holds (Destination j) t = not_both _ t refl

pub waits : (w : Wait) → (w ≡ None → ⊥) → waits_for_nothing w ≡ false
waits w h = not_so (waits_for_nothing w) (λ t. h (for_none w t))

pub not_normal : (w : Wait) → (w ≡ Normal → ⊥) → waits_for_normal w ≡ false
not_normal w h = not_so (waits_for_normal w) (λ t. h (for_normal_holds w t))
