-- What a call looks at by its number: whether a name is taken, and who waits first.
use Rattle.std.specs.Prelude.{ℕ, Bool, false, cond, ◌||◌, eqb, take}
use Rattle.machine.specs.Partition.{first_waiter}
use Rattle.machine.specs.Process.{object}
use Rattle.machine.specs.Calls.{process_named}
use Rattle.machine.specs.Objects.{semaphore_named, event_named}
use Rattle.machine.specs.Buffers.{buffer_named}
use Rattle.machine.specs.Blackboards.{blackboard_named}
use Rattle.machine.specs.declared.Field.{Field}
use Rattle.machine.specs.declared.Partition.{Partition}
use Rattle.machine.specs.declared.Wait.TheVariants.{Semaphore, Sending, Receiving}

-- whether one of the kind that call n creates has this name
abbrev pub taken_for : ℕ → Field → Partition → Bool
taken_for n name p =
    cond (eqb n 2) (process_named name (take p.process_count p.processes))
    (cond (eqb n 14) (semaphore_named name (take p.semaphore_count p.semaphores))
    (cond (eqb n 17) (event_named name (take p.event_count p.events))
    (cond (eqb n 23) (buffer_named name (take p.buffer_count p.buffers))
    (cond (eqb n 26) (blackboard_named name (take p.blackboard_count p.blackboards))
    false))))

-- the calls that create: only they look at a name
abbrev pub creates : ℕ → Bool
creates n = eqb n 2 || (eqb n 14 || (eqb n 17 || (eqb n 23 || eqb n 26)))

-- the object whose first waiter call n looks at, as a number; 0 for none
abbrev pub object_for : ℕ → ℕ → ℕ
object_for n id =
    cond (eqb n 16) (object (Semaphore id))
    (cond (eqb n 24) (object (Receiving id))
    (cond (eqb n 25) (object (Sending id 0))
    0))

-- the first who waits for it, 0 for none
abbrev pub waiter_for : ℕ → ℕ → Partition → ℕ
waiter_for n id p = cond (eqb (object_for n id) 0) 0 (first_waiter (object_for n id) p)
