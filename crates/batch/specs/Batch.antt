-- "A lent list of event records, run in one call, each answer kept in its record."
use Rattle.std.specs.Prelude.{List, map}
use Rattle.machine.specs.Runs.{answered_event, next, after, answers}
use Rattle.machine.specs.declared.Event.{Event}
use Rattle.machine.specs.declared.EventRecord.{EventRecord}
use Rattle.executive.specs.declared.Executive.{Executive}

-- the events of a list of records
abbrev pub events_of : List EventRecord → List Event
events_of = map (λ (x : EventRecord). x.event)

pub record Answered : Type 0 where
  pub executive : Executive
  pub event : EventRecord

-- one event of a list: the executive after it, and its record with its answer
abbrev pub answered : Executive → EventRecord → Answered
answered m x = record { executive = record { inner = next m.inner x.event }; event = answered_event m.inner x.event }

-- the executive after the events of a list
abbrev pub after_list : Executive → List EventRecord → Executive
after_list m l = record { inner = after m.inner (events_of l) }

-- the list after the call: every event as it was, with its answer
abbrev pub answered_list : Executive → List EventRecord → List EventRecord
answered_list m l = answers m.inner (events_of l)
