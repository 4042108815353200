-- The lent list of event records and the loop in place: the same executive, and the same answers. Assumes nothing.
use mathlib.Core.List.{List}
use mathlib.Core.Path.{◌≡◌}
use Rattle.machine.specs.declared.EventRecord.{EventRecord}
use Rattle.executive.specs.Lists as L
use Rattle.executive.specs.declared.Executive.{Executive}
use Rattle.executive.proofs.Lists.{list_after, list_answered}
use Rattle.batch.specs.Batch.{events_of, after_list, answered_list}

-- `Executive::run` over the numbers of a list's events leaves what `run` leaves, and the numbers of the answers that `run` keeps
pub list_in_place : (m : Executive) (l : List EventRecord)
    → (L.after_list m.inner (L.event_numbers (events_of l)) ≡ (after_list m l).inner) × (L.answered_list m.inner (L.event_numbers (events_of l)) ≡ L.numbers_in (answered_list m l))
list_in_place m l = (list_after m.inner (events_of l), list_answered m.inner (events_of l))
