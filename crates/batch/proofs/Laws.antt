-- What the contract of `run` gives a caller. Assumes nothing.
use mathlib.Core.Path.{◌≡◌, refl, ap}
use mathlib.Core.List.{List, [], ◌∷◌, ◌++◌}
use Rattle.machine.specs.declared.Event.{Event}
use Rattle.machine.specs.declared.EventRecord.{EventRecord}
use Rattle.machine.proofs.Run.{after_more, answers_more}
use Rattle.executive.specs.declared.Executive.{Executive}
use Rattle.batch.specs.Batch.{events_of, answered, after_list, answered_list}

-- every record keeps its event, in its place
pub events_kept : (m : Executive) (l : List EventRecord) → events_of (answered_list m l) ≡ events_of l
events_kept m [] = refl
events_kept m (x ∷ l) = ap (λ (es : List Event). x.event ∷ es) (events_kept (answered m x).executive l)

events_of_both : (left right : List EventRecord) → events_of (left ++ right) ≡ events_of left ++ events_of right
events_of_both [] right = refl
events_of_both (x ∷ left) right = ap (λ (es : List Event). x.event ∷ es) (events_of_both left right)

-- a list run in two parts, one call after the other, is run as in one call
pub in_parts : (m : Executive) (left right : List EventRecord)
    → (after_list m (left ++ right) ≡ after_list (after_list m left) right) × (answered_list m (left ++ right) ≡ answered_list m left ++ answered_list (after_list m left) right)
in_parts m left right = (
  rw (events_of_both left right, after_more m.inner (events_of left) (events_of right)),
  rw (events_of_both left right) (answers_more m.inner (events_of left) (events_of right)),
)
