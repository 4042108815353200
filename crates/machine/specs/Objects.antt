-- Calls 14 to 20, on semaphores and events: functions of what the call sees (Context), of the request's fields and of the partition's own
-- record.
use Rattle.std.specs.Prelude.{ℕ, ◌+◌, ◌-◌, Bool, true, false, cond, ◌&&◌, List, [], ◌∷◌, take, leb, ltb, eqb}
use Rattle.machine.specs.declared.Partition.{Partition}
use Rattle.machine.specs.declared.Context.{Context}
use Rattle.machine.specs.declared.Change.{Change}
use Rattle.machine.specs.declared.Change.TheVariants.{Nothing, Stored, StoredSemaphore, StoredEvent, Ended}
use Rattle.machine.specs.declared.Decision.{Decision}
use Rattle.machine.specs.declared.Decision.TheVariants.{Refused, Changed}
use Rattle.machine.specs.declared.Request.{Request}
use Rattle.machine.specs.declared.Semaphore.{Semaphore as SemaphoreT}
use Rattle.machine.specs.declared.EventState.{EventState}
use Rattle.machine.specs.declared.Wait.TheVariants.{Semaphore, Event}
use Rattle.machine.specs.declared.Field.{Field}
use Rattle.machine.specs.Limits.{semaphore_limit, event_limit, value_limit, greatest_value}
use Rattle.machine.specs.Fields.{between, is_name, number_of}
use Rattle.machine.specs.Process.{object, served}
use Rattle.machine.specs.Partition.{normal_mode, process, semaphore, event, waiters}
use Rattle.machine.specs.Decisions.{checked, changed, unchanged, unknown, name_taken, creation_checks, awaiting}

abbrev pub semaphore_named : Field → List SemaphoreT → Bool
semaphore_named name l = name_taken (λ (x : SemaphoreT). x.name) name l

abbrev pub event_named : Field → List EventState → Bool
event_named name l = name_taken (λ (x : EventState). x.name) name l

-- 14 CREATE_SEMAPHORE name, start, max. 4: 8 exist. 1: name exists among its kind. 3: name not 1..255, max not 1..32,767, start not
-- 0..max. 5: NORMAL. Value: id.
unfoldable pub create_semaphore : Request → Partition → Decision
create_semaphore r p =
    checked Refused
    (creation_checks (leb semaphore_limit p.semaphore_count) (semaphore_named r.a (take p.semaphore_count p.semaphores))
    (is_name r.a && (between 1 value_limit r.c && between 0 (number_of r.c) r.b)) (normal_mode p))
    (Changed (StoredSemaphore (p.semaphore_count + 1) (record { name = number_of r.a; value = number_of r.b; max = number_of r.c })) Nothing (p.semaphore_count + 1))

-- 17 CREATE_EVENT name (DOWN): as 14.
unfoldable pub create_event : Field → Partition → Decision
create_event name p =
    checked Refused
    (creation_checks (leb event_limit p.event_count) (event_named name (take p.event_count p.events)) (is_name name) (normal_mode p))
    (Changed (StoredEvent (p.event_count + 1) (record { name = number_of name; up = false })) Nothing (p.event_count + 1))

-- semaphore k with this value, event k UP or DOWN
abbrev pub with_value : ℕ → ℕ → Partition → Change
with_value k n p = StoredSemaphore k (record { name = (semaphore k p).name; value = n; max = (semaphore k p).max })

abbrev pub with_up : ℕ → Bool → Partition → Change
with_up k up p = StoredEvent k (record { name = (event k p).name; up = up })

-- 15 WAIT_SEMAPHORE id, a. 5: start mode. 3: a not in T. Value > 0: one less, code 0.
unfoldable pub wait_semaphore : Context → ℕ → Field → Partition → Decision
wait_semaphore c k a p =
    awaiting c ((unknown k p.semaphore_count, 3) ∷ []) true [] a
    (ltb 0 (semaphore k p).value) (changed (with_value k ((semaphore k p).value - 1) p)) (Semaphore k) p

-- 20 WAIT_EVENT id, a: as 15; event UP: code 0.
unfoldable pub wait_event : Context → ℕ → Field → Partition → Decision
wait_event c k a p =
    awaiting c ((unknown k p.event_count, 3) ∷ []) true [] a
    (event k p).up unchanged (Event k) p

-- bound: a value past the greatest one is the greatest
abbrev pub one_more : ℕ → ℕ
one_more n = cond (ltb n greatest_value) (n + 1) n

-- First waiter's wait ends (w −1, wake code 0); none: value + 1.
unfoldable pub signalled : List ℕ → ℕ → Partition → Change
signalled [] k p = with_value k (one_more (semaphore k p).value) p
signalled (id ∷ l) k p = Stored id (served (process id p))

-- 16 SIGNAL id. 1: value = max.
unfoldable pub signal : ℕ → Partition → Decision
signal k p =
    checked Refused
    ((unknown k p.semaphore_count, 3)
    ∷ (eqb (semaphore k p).value (semaphore k p).max, 1)
    ∷ [])
    (changed (signalled (waiters (object (Semaphore k)) p) k p))

-- 18 SET_EVENT id: UP, all waiters' waits end in queue order the same way.
unfoldable pub set_event : ℕ → Partition → Decision
set_event k p =
    checked Refused
    ((unknown k p.event_count, 3) ∷ [])
    (Changed (with_up k true p) (Ended (object (Event k))) 0)

-- 19 RESET_EVENT id: DOWN.
unfoldable pub reset_event : ℕ → Partition → Decision
reset_event k p =
    checked Refused
    ((unknown k p.event_count, 3) ∷ [])
    (changed (with_up k false p))
