-- What an event does before its partition is looked at, and its answer.
use Rattle.std.specs.Prelude.{ℕ, ◌-◌, Bool, cond, not, ◌&&◌, ◌||◌, List, [], ◌∷◌, eqb, ltb}
use Rattle.machine.specs.Decisions.{code_of}
use Rattle.machine.specs.Fields.{request_of, number_of}
use Rattle.machine.specs.Limits.{partition_limit}
use Rattle.machine.specs.Step.{sees}
use Rattle.machine.specs.Ticks.{partition_count}
use Rattle.machine.specs.Windows.{lookup, release_point}
use Rattle.machine.specs.declared.Answer.{Answer}
use Rattle.machine.specs.declared.Event.{Event}
use Rattle.machine.specs.declared.Lookup.{Lookup}
use Rattle.machine.specs.declared.Reply.{Reply}
use Rattle.machine.specs.declared.Request.{Request}
use Rattle.machine.specs.declared.Table.{Table}
use Rattle.std.specs.Prelude.{Some}
use Rattle.places.specs.Placed.{placed_at}
use Rattle.places.specs.declared.Placed.{Placed}
use Rattle.events.specs.declared.Plan.{Plan}

-- ---------------------------------------------------------------- what an event does
-- 8, where k is the event's partition and now the current one. Bound: 9 where the record has no place for the partition.
abbrev pub call_checks : ℕ → ℕ → List (Bool × ℕ)
call_checks k now =
    (not (eqb k 0) && not (eqb now k), 8)
    ∷ (not (eqb k 0) && ltb partition_limit k, 9)
    ∷ []

-- after the code n of 13 and 10
abbrev pub place_code : ℕ → ℕ → ℕ → ℕ
place_code n k now = code_of ((not (eqb n 0), n) ∷ call_checks k now)

-- how many partitions are ticked
abbrev pub tick_count : Table → ℕ → ℕ → ℕ
tick_count T code k = cond (eqb code 0) (cond (eqb k 0) (partition_count T) 0) 0

-- where partition k lies; past the last for none
abbrev pub slot_of : ℕ → ℕ
slot_of k = cond (eqb k 0) partition_limit (k - 1)

-- where the one lies that makes a call
abbrev pub call_slot : ℕ → ℕ → ℕ
call_slot code k = cond (eqb code 0) (slot_of k) partition_limit

-- the calls that take the start rule: SET_PARTITION_MODE, START, DELAYED_START
abbrev pub takes_start_rule : ℕ → Bool
takes_start_rule n = eqb n 1 || (eqb n 3 || eqb n 4)

-- the release point that call n of partition k is shown: those that take no start rule do not look at it
abbrev pub release_for : Table → ℕ → ℕ → ℕ → ℕ
release_for T t k n = cond (takes_start_rule n) (release_point T t k) 0

-- where the one lies whose running process is shown
abbrev pub shown_slot : Request → ℕ → ℕ
shown_slot r k = cond (sees r k) (slot_of k) partition_limit

abbrev pub planned : Table → Request → ℕ → Placed → Lookup → Plan
planned T r k x v =
    let now = v.partition in
    let code = place_code x.code k now in
    record { request = r; own = k; call = number_of r.call; place = number_of r.a - 1; code = code; time = x.time; current = now; left = v.left; ticks = tick_count T code k; spot = slot_of now; slot = call_slot code k; shown = shown_slot r now }

abbrev pub request_plan : Table → ℕ → Request → Plan
request_plan T t r = planned T r (number_of r.partition) (placed_at T t r) (lookup T (placed_at T t r).time)

unfoldable pub plan_of : Table → ℕ → Event → Plan
plan_of T t e = request_plan T t (request_of e)

-- ---------------------------------------------------------------- its answer
-- The answer is code, value, extra, then t, current partition, running process.
abbrev pub answer_of : Reply → ℕ → ℕ → ℕ → Answer
answer_of a t k n = record { code = a.code; value = a.value; extra = a.extra; t = t; current = k; running = n }

-- before the first event
abbrev pub no_answer : Answer
no_answer = record { code = 0; value = 0; extra = Some 0; t = 0; current = 0; running = 0 }
