-- Calls 26 to 29, on blackboards: functions of what the call sees (Context), of the request's fields and of the partition's own record.
use Rattle.std.specs.Prelude.{is_some, unwrap_or}
use Rattle.std.specs.Prelude.{ℕ, ◌+◌, Bool, true, not, List, [], ◌∷◌, take, leb}
use Rattle.machine.specs.declared.Blackboard.{Blackboard as BlackboardT}
use Rattle.machine.specs.declared.Partition.{Partition}
use Rattle.machine.specs.declared.Context.{Context}
use Rattle.machine.specs.declared.Change.{Change}
use Rattle.machine.specs.declared.Change.TheVariants.{Nothing, StoredBlackboard, Handed}
use Rattle.machine.specs.declared.Decision.{Decision}
use Rattle.machine.specs.declared.Decision.TheVariants.{Refused, Unchanged, Changed}
use Rattle.machine.specs.declared.Wait.TheVariants.{Blackboard}
use Rattle.std.specs.Prelude.{Some}
use Rattle.machine.specs.declared.Field.{Field}
use Rattle.machine.specs.Limits.{blackboard_limit}
use Rattle.machine.specs.Fields.{is_name, is_message, number_of}
use Rattle.machine.specs.Process.{object}
use Rattle.machine.specs.Partition.{normal_mode, empty_blackboard, blackboard}
use Rattle.machine.specs.Decisions.{checked, changed, unknown, name_taken, creation_checks, awaiting}

abbrev pub blackboard_named : Field → List BlackboardT → Bool
blackboard_named name l = name_taken (λ (x : BlackboardT). x.name) name l

-- 26 CREATE_BLACKBOARD name: creation checks as for semaphores; it shows nothing. Value: id.
unfoldable pub create_blackboard : Field → Partition → Decision
create_blackboard name p =
    checked Refused
    (creation_checks (leb blackboard_limit p.blackboard_count) (blackboard_named name (take p.blackboard_count p.blackboards)) (is_name name) (normal_mode p))
    (Changed (StoredBlackboard (p.blackboard_count + 1) (empty_blackboard (number_of name))) Nothing (p.blackboard_count + 1))

-- blackboard k shows this message, or none
abbrev pub showing : ℕ → ℕ → Partition → Change
showing k m p = StoredBlackboard k (record { name = (blackboard k p).name; message = Some m })

abbrev pub cleared : ℕ → Partition → Change
cleared k p = StoredBlackboard k (empty_blackboard (blackboard k p).name)

-- 27 SHOW id, message. It shows the message until cleared; showing one ends all its waits in queue order, the message kept in each waiter's
-- record.
unfoldable pub show : ℕ → Field → Partition → Decision
show k m p =
    checked Refused
    ((unknown k p.blackboard_count, 3)
    ∷ (not (is_message m), 3)
    ∷ [])
    (Changed (showing k (number_of m) p) (Handed (object (Blackboard k)) (number_of m)) 0)

-- 28 READ_BLACKBOARD id, time-out. Readers of an empty blackboard wait. A message read is the value.
unfoldable pub read_blackboard : Context → ℕ → Field → Partition → Decision
read_blackboard c k a p =
    awaiting c ((unknown k p.blackboard_count, 3) ∷ []) true [] a
    (is_some (blackboard k p).message) (Unchanged (unwrap_or (blackboard k p).message 0) (Some 0)) (Blackboard k) p

-- 29 CLEAR id.
unfoldable pub clear : ℕ → Partition → Decision
clear k p =
    checked Refused
    ((unknown k p.blackboard_count, 3) ∷ [])
    (changed (cleared k p))
