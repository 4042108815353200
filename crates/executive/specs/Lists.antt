-- When something of a partition is due, and the lent list of numbers: six of an event, which the six of its answer replace.
use Rattle.std.specs.Prelude.{ℕ, zero, suc, ◌+◌, ◌*◌, ◌/◌, ◌≤◌, ◌<◌, List, [], ◌∷◌, ◌++◌, ◌≡◌, ℤ, pos, get_or, drop, length}
use Rattle.machine.specs.Runs.{next, after, answers}
use Rattle.machine.specs.Limits.{partition_limit}
use Rattle.machine.specs.Module.{part}
use Rattle.machine.specs.Replay.{answer_numbers}
use Rattle.machine.specs.Step.{step}
use Rattle.machine.specs.declared.Answer.{Answer}
use Rattle.machine.specs.declared.Event.{Event}
use Rattle.machine.specs.declared.EventRecord.{EventRecord}
use Rattle.machine.specs.declared.Module.{Module}
use Rattle.partition.specs.Soonest.{soonest_of}

-- ---------------------------------------------------------------- when something of a partition is due
-- l has for each partition a number that no wake time or deadline of it comes before
pub record Early (m : Module) (l : List ℕ) : Type 0 where
  pub long : length l ≡ partition_limit
  pub each : (i : ℕ) → i < partition_limit → get_or l i 0 ≤ soonest_of (part m i)

-- ---------------------------------------------------------------- the lent list
-- the numbers of an event, and of an answer
abbrev pub six : ℕ
six = 6

-- An event is partition, call, a, b, c, e.
abbrev pub event_at : List ℤ → ℕ → Event
event_at l i = record {
  partition = get_or l i (pos 0);
  call = get_or l (i + 1) (pos 0);
  a = get_or l (i + 2) (pos 0);
  b = get_or l (i + 3) (pos 0);
  c = get_or l (i + 4) (pos 0);
  e = get_or l (i + 5) (pos 0);
}

-- the numbers of events, one after another
unfoldable pub event_numbers : List Event → List ℤ
event_numbers [] = []
event_numbers (v ∷ es) = v.partition ∷ v.call ∷ v.a ∷ v.b ∷ v.c ∷ v.e ∷ event_numbers es

-- the first n events of a list
unfoldable pub first_events : ℕ → List ℤ → List Event
first_events zero l = []
first_events (suc n) l = event_at l 0 ∷ first_events n (drop six l)

-- its events; fewer than six numbers at the end are none
abbrev pub events_in : List ℤ → List Event
events_in l = first_events (length l / six) l

-- the numbers of the answers, one after another
unfoldable pub numbers_in : List EventRecord → List ℤ
numbers_in [] = []
numbers_in (x ∷ l) = answer_numbers x.answer ++ numbers_in l

-- the record after the events of a list
abbrev pub after_list : Module → List ℤ → Module
after_list m l = after m (events_in l)

-- the list then: the answers, and what is no event as it was
abbrev pub answered_list : Module → List ℤ → List ℤ
answered_list m l = numbers_in (answers m (events_in l)) ++ drop (length l / six * six) l

-- the answer to the last of these events; a where there is none
unfoldable pub last_answer : Module → Answer → List Event → Answer
last_answer m a [] = a
last_answer m a (e ∷ es) = last_answer (next m e) (step m e).answer es
