-- What an event decides: replies, checks in the order written, and the checks that several calls share.
use Rattle.std.specs.Prelude.{Option, None}
use Rattle.std.specs.Prelude.{ℕ, Bool, false, cond, not, ◌&&◌, ◌||◌, List, [], ◌∷◌, ◌++◌, eqb, ltb}
use Rattle.machine.specs.declared.Process.{Process}
use Rattle.machine.specs.declared.Partition.{Partition}
use Rattle.machine.specs.declared.Message.{Message}
use Rattle.machine.specs.declared.Context.{Context}
use Rattle.machine.specs.declared.Reply.{Reply}
use Rattle.machine.specs.declared.Change.{Change}
use Rattle.machine.specs.declared.Change.TheVariants.{Nothing}
use Rattle.machine.specs.declared.Decision.{Decision}
use Rattle.machine.specs.declared.Decision.TheVariants.{Refused, Unchanged, Ticked, Blocked, Changed, Restarted, Written, Passed}
use Rattle.machine.specs.declared.Wait.{Wait}
use Rattle.machine.specs.Time.{Time}
use Rattle.std.specs.Prelude.{Some}
use Rattle.machine.specs.declared.Field.{Field}
use Rattle.machine.specs.Fields.{is_number, is_timeout, time_of}
use Rattle.machine.specs.Process.{later, waiting_for}
use Rattle.machine.specs.Partition.{idle_mode, normal_mode, locked, process}

-- Code, value and extra are 0 unless named.
abbrev pub coded : ℕ → Reply
coded code = record { code = code; value = 0; extra = Some 0 }

abbrev pub valued : ℕ → Time → Reply
valued value extra = record { code = 0; value = value; extra = extra }

-- Checks run in the order written; "n:" means answer code n if.
unfoldable pub checked : {A : Type 0} → (ℕ → A) → List (Bool × ℕ) → A → A
checked refuse [] accepted = accepted
checked refuse ((test, code) ∷ l) accepted = cond test (refuse code) (checked refuse l accepted)

-- the code of a list of checks, 0 where all are passed
abbrev pub code_of : List (Bool × ℕ) → ℕ
code_of l = checked (λ n. n) l 0

-- ---------------------------------------------------------------- decisions
abbrev pub no_message : Option Message
no_message = None

-- what stands for the message where there is none
abbrev pub blank_message : Message
blank_message = record { value = 0; written = 0 }

-- the numbers of each decision
abbrev pub reply_of : Decision → Reply
reply_of (Refused code) = coded code
reply_of (Unchanged value extra) = valued value extra
reply_of Ticked = coded 0
reply_of (Blocked id x) = coded 7
reply_of (Changed a b value) = valued value (Some 0)
reply_of (Restarted mode) = coded 0
reply_of (Written i x) = coded 0
reply_of (Passed i a value) = valued value (Some 0)

-- code 0 and one change
abbrev pub changed : Change → Decision
changed a = Changed a Nothing 0

-- code 0, nothing changes
abbrev pub unchanged : Decision
unchanged = Unchanged 0 (Some 0)

-- the only place that gives code 7: the process has the record x, in which it waits. While preemption is locked, a call that would give 7 gives 5.
unfoldable pub blocked : ℕ → ℕ → Process → Decision
blocked level id x = checked Refused ((locked level, 5) ∷ []) (Blocked id x)

-- ---------------------------------------------------------------- checks that several calls share
-- an id unknown: none of that kind has been created with it
abbrev pub unknown : ℕ → ℕ → Bool
unknown id count = eqb id 0 || ltb count id

-- start modes; IDLE gets 9 before
abbrev pub start_mode : Partition → Bool
start_mode p = not (normal_mode p)

abbrev pub dormant : Process → Bool
dormant x = not x.started

-- name exists: the name is that of one of these
unfoldable pub name_taken : {A : Type 0} → (A → ℕ) → Field → List A → Bool
name_taken name_of name [] = false
name_taken name_of name (x ∷ l) = is_number (name_of x) name || name_taken name_of name l

-- 9: IDLE, or NORMAL and nothing runs; the caller is the running process
abbrev pub no_caller_as : ℕ → Partition → Bool
no_caller_as caller p = idle_mode p || (normal_mode p && eqb caller 0)

-- creating: 4: all of them exist. 1: name exists among its kind. 3: not admitted. 5: NORMAL.
abbrev pub creation_checks : Bool → Bool → Bool → Bool → List (Bool × ℕ)
creation_checks full taken admitted normal = (full, 4) ∷ (taken, 1) ∷ (not admitted, 3) ∷ (normal, 5) ∷ []

-- waiting: checks of its own (id unknown 3). 5: start mode. 3: not admitted (the time-out, and what stands beside it). Checks of its own.
abbrev pub wait_checks : List (Bool × ℕ) → Bool → Bool → List (Bool × ℕ) → List (Bool × ℕ)
wait_checks before start admitted after = before ++ ((start, 5) ∷ (not admitted, 3) ∷ after)

-- 2: a = 0. Else queued last at the object that the wait names, w = t + a or −1, code 7, or 5 while preemption is locked
unfoldable pub queued : Context → Field → Wait → Partition → Decision
queued c a w p =
    checked Refused
    ((is_number 0 a, 2) ∷ [])
    (blocked p.level c.caller (waiting_for w (later (Some c.time) (time_of a)) (process c.caller p)))

-- a call that waits for the object that w names, with time-out a: its checks; where it need not wait, success; else it is queued
unfoldable pub awaiting : Context → List (Bool × ℕ) → Bool → List (Bool × ℕ) → Field → Bool → Decision → Wait → Partition → Decision
awaiting c before beside after a at_once success w p =
    checked Refused (wait_checks before (start_mode p) (beside && is_timeout a) after)
    (cond at_once success (queued c a w p))
