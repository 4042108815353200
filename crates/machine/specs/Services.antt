-- Every call by its number: for each how many of the fields a, b, c, e it uses, and what it decides.
use Rattle.std.specs.Prelude.{ℕ, ◌-◌, cond, List, [], ◌∷◌, get_or, eqb}
use Rattle.machine.specs.declared.Partition.{Partition}
use Rattle.machine.specs.declared.Context.{Context}
use Rattle.machine.specs.declared.Port.{Port}
use Rattle.machine.specs.declared.Decision.{Decision}
use Rattle.machine.specs.declared.Decision.TheVariants.{Refused}
use Rattle.machine.specs.declared.Request.{Request}
use Rattle.machine.specs.declared.Field.TheVariants.{Number}
use Rattle.machine.specs.Fields.{number_of}
use Rattle.machine.specs.Decisions.{checked, no_caller_as}
use Rattle.machine.specs.Calls.{set_mode, create_process, start, stop, stop_self, suspend, suspend_self, timed_wait, periodic_wait, resume, set_priority, get_status, lock_preemption, unlock_preemption, get_ticks_left}
use Rattle.machine.specs.Objects.{create_semaphore, create_event, wait_semaphore, wait_event, signal, set_event, reset_event}
use Rattle.machine.specs.Channels.{write, read, send, receive}
use Rattle.machine.specs.Buffers.{create_buffer, send_buffer, receive_buffer}
use Rattle.machine.specs.Blackboards.{create_blackboard, show, read_blackboard, clear}

-- a call: the fields that it uses, counted from a on, and what it decides from what it sees, its request and its partition's record
pub record Service : Type 0 where
  pub fields : ℕ
  pub decides : Context → Port → Request → Partition → Decision

abbrev pub service : ℕ → (Context → Port → Request → Partition → Decision) → Service
service n f = record { fields = n; decides = f }

-- in the order of their numbers, from 1 on
unfoldable pub services : List Service
services =
    service 1 (λ c x r p. set_mode c r.a p)
    ∷ service 4 (λ c x r p. create_process c r p)
    ∷ service 1 (λ c x r p. start c (number_of r.a) (Number 0) p)
    ∷ service 2 (λ c x r p. start c (number_of r.a) r.b p)
    ∷ service 1 (λ c x r p. stop c (number_of r.a) p)
    ∷ service 0 (λ c x r p. stop_self c p)
    ∷ service 1 (λ c x r p. suspend c (number_of r.a) p)
    ∷ service 1 (λ c x r p. suspend_self c r.a p)
    ∷ service 1 (λ c x r p. timed_wait c r.a p)
    ∷ service 0 (λ c x r p. periodic_wait c p)
    ∷ service 1 (λ c x r p. resume c (number_of r.a) p)
    ∷ service 2 (λ c x r p. set_priority (number_of r.a) r.b p)
    ∷ service 1 (λ c x r p. get_status c (number_of r.a) p)
    ∷ service 3 (λ c x r p. create_semaphore r p)
    ∷ service 2 (λ c x r p. wait_semaphore c (number_of r.a) r.b p)
    ∷ service 1 (λ c x r p. signal (number_of r.a) p)
    ∷ service 1 (λ c x r p. create_event r.a p)
    ∷ service 1 (λ c x r p. set_event (number_of r.a) p)
    ∷ service 1 (λ c x r p. reset_event (number_of r.a) p)
    ∷ service 2 (λ c x r p. wait_event c (number_of r.a) r.b p)
    ∷ service 2 (λ c x r p. write c x r.b)
    ∷ service 1 (λ c x r p. read c x)
    ∷ service 2 (λ c x r p. create_buffer r.a r.b p)
    ∷ service 3 (λ c x r p. send_buffer c (number_of r.a) r.b r.c p)
    ∷ service 2 (λ c x r p. receive_buffer c (number_of r.a) r.b p)
    ∷ service 1 (λ c x r p. create_blackboard r.a p)
    ∷ service 2 (λ c x r p. show (number_of r.a) r.b p)
    ∷ service 2 (λ c x r p. read_blackboard c (number_of r.a) r.b p)
    ∷ service 1 (λ c x r p. clear (number_of r.a) p)
    ∷ service 3 (λ c x r p. send c x r.b r.c p)
    ∷ service 2 (λ c x r p. receive c x r.b p)
    ∷ service 0 (λ c x r p. lock_preemption c p)
    ∷ service 0 (λ c x r p. unlock_preemption p)
    ∷ service 0 (λ c x r p. get_ticks_left c)
    ∷ []

-- another number, which 13 refuses before, decides nothing
abbrev pub no_service : Service
no_service = service 0 (λ c x r p. Refused 13)

-- call n; number 0 is the tick, which uses no field
abbrev pub service_of : ℕ → Service
service_of n = cond (eqb n 0) no_service (get_or services (n - 1) no_service)

unfoldable pub call_decision : Context → Port → ℕ → Request → Partition → Decision
call_decision c x n r p = (service_of n).decides c x r p

-- 9, then its body
abbrev pub called : Context → Port → ℕ → Request → Partition → Decision
called c x n r p = checked Refused ((no_caller_as c.caller p, 9) ∷ []) (call_decision c x n r p)
