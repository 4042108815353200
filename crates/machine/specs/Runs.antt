-- A list of events: each gets the record that the one before it left. The first half is of any machine.
use Rattle.std.specs.Prelude.{Bool, cond, List, [], ◌∷◌}
use Rattle.machine.specs.declared.Module.{Module}
use Rattle.machine.specs.declared.Event.{Event}
use Rattle.machine.specs.declared.EventRecord.{EventRecord}
use Rattle.machine.specs.Step.{step}

-- the elements that pass a test, in order
module _ {A : Type 0} where
  abbrev pub keep : (A → Bool) → List A → List A
  keep p [] = []
  keep p (x ∷ xs) = cond (p x) (x ∷ keep p xs) (keep p xs)

module _ {M E R : Type 0} (next : M → E → M) (reply : M → E → R) where
  -- Each event gets the record that the one before it left.
  abbrev pub final : M → List E → M
  final m [] = m
  final m (e ∷ es) = final (next m e) es

  -- the replies to a list of events, in order
  abbrev pub replies : M → List E → List R
  replies m [] = []
  replies m (e ∷ es) = reply m e ∷ replies (next m e) es

abbrev pub next : Module → Event → Module
next m e = (step m e).state

abbrev pub answered_event : Module → Event → EventRecord
answered_event m e = record { event = e; answer = (step m e).answer }

-- the record after a list of events; the events with their answers
abbrev pub after : Module → List Event → Module
after = final next answered_event

abbrev pub answers : Module → List Event → List EventRecord
answers = replies next answered_event
