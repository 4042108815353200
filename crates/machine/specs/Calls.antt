-- Calls 1 to 13 and 32 to 34: functions of what the call sees (Context), of the request's fields and of the partition's own record. The checks
-- stand in the order of documents 01 and 02, then what an accepted call does. Defined for every record.
use Rattle.machine.specs.Mode.{mode_number, mode_numbered}
use Rattle.std.specs.Prelude.{ℕ, ◌+◌, ◌-◌, ◌%◌, Bool, true, false, cond, not, ◌&&◌, ◌||◌, List, [], ◌∷◌, take, leb, ltb, eqb}
use Rattle.machine.specs.declared.Process.{Process}
use Rattle.machine.specs.declared.Partition.{Partition}
use Rattle.machine.specs.declared.Context.{Context}
use Rattle.machine.specs.declared.Change.TheVariants.{Nothing, Stored, Created, Last, LevelSet, Entered}
use Rattle.machine.specs.declared.Decision.{Decision}
use Rattle.machine.specs.declared.Decision.TheVariants.{Refused, Unchanged, Changed, Restarted}
use Rattle.machine.specs.declared.Request.{Request}
use Rattle.machine.specs.declared.Wait.TheVariants.{Timed}
use Rattle.machine.specs.Time.{Time}
use Rattle.std.specs.Prelude.{None, Some}
use Rattle.machine.specs.declared.Field.{Field}
use Rattle.machine.specs.Limits.{process_limit, priority_limit, mode_limit, level_limit, duration_limit}
use Rattle.machine.specs.Fields.{is_number, between, is_duration, is_minus_one, is_timeout, is_name, number_of, time_of}
use Rattle.machine.specs.Process.{created_process, later, periodic, ready, with_suspended, with_current, waiting_for, suspended_until, start_rule, started_early, stopped, resumed, next_release}
use Rattle.machine.specs.Partition.{normal_mode, locked, process}
use Rattle.machine.specs.Decisions.{checked, changed, unchanged, blocked, unknown, start_mode, dormant, name_taken, creation_checks}

-- 1 SET_PARTITION_MODE a. 3: not 0..3. 1: 3 in NORMAL. 5: 2 in COLD_START. 5: 3 with no process. Modes 0, 1, 2: mode set; processes,
-- semaphores, events, buffers, blackboards erased (the messages on channels by `module_after`, in Step).
unfoldable pub set_mode : Context → Field → Partition → Decision
set_mode c a p =
    checked Refused
    ((not (between 0 mode_limit a), 3)
    ∷ (is_number 3 a && normal_mode p, 1)
    ∷ (is_number 2 a && eqb (mode_number p.mode) 1, 5)
    ∷ (is_number 3 a && eqb p.process_count 0, 5)
    ∷ [])
    (cond (is_number 3 a) (changed (Entered c)) (Restarted (mode_numbered (number_of a))))

abbrev pub process_named : Field → List Process → Bool
process_named name l = name_taken (λ (x : Process). x.given.name) name l

-- a multiple of M in 1..9,999,999
abbrev pub is_multiple : ℕ → Field → Bool
is_multiple frame f = between 1 duration_limit f && (not (eqb frame 0) && eqb (number_of f % frame) 0)

-- capacity above a period that isn't −1
abbrev pub above : Field → Field → Bool
above capacity period = not (is_minus_one capacity) && (not (is_minus_one period) && ltb (number_of period) (number_of capacity))

abbrev pub is_priority : Field → Bool
is_priority f = between 1 priority_limit f

-- what CREATE_PROCESS admits
abbrev pub admissible : Context → Request → Bool
admissible c r =
    is_name r.a && (is_priority r.b
    && ((is_minus_one r.c || is_multiple c.frame r.c)
    && ((is_minus_one r.e || between 1 duration_limit r.e)
    && not (above r.e r.c))))

-- 2 CREATE_PROCESS name, priority, period, capacity. 4: 16 exist. 1: name exists. 3: name not 1..255, priority not 1..239, period neither
-- −1 nor a multiple of M in 1..9,999,999, capacity neither −1 nor 1..9,999,999, or capacity above a period that isn't −1. 5: NORMAL.
-- Value: id.
unfoldable pub create_process : Context → Request → Partition → Decision
create_process c r p =
    checked Refused
    (creation_checks (leb process_limit p.process_count) (process_named r.a (take p.process_count p.processes)) (admissible c r) (normal_mode p))
    (Changed (Created (p.process_count + 1) (created_process (record { name = number_of r.a; base = number_of r.b; period = time_of r.c; capacity = time_of r.e }))) Nothing (p.process_count + 1))

-- periodic and delay ≥ period
abbrev pub reaches : Time → ℕ → Bool
reaches None delay = false
reaches (Some period) delay = leb period delay

-- 3 START id; 4 DELAYED_START id, delay. 3: delay not in D, or periodic and delay ≥ period. 1: not DORMANT. In NORMAL: start rule. Else
-- priority, marks, wake code as there; waits for NORMAL; only here the delay field is set, by START to 0.
unfoldable pub start : Context → ℕ → Field → Partition → Decision
start c id delay p =
    let x = process id p in
    checked Refused
    ((unknown id p.process_count, 3)
    ∷ (not (is_duration delay) || reaches x.given.period (number_of delay), 3)
    ∷ (not (dormant x), 1)
    ∷ [])
    (changed (Stored id (cond (normal_mode p) (start_rule c (number_of delay) x) (started_early (number_of delay) x))))

-- 5 STOP id. 3: the caller. 1: DORMANT. DORMANT; it leaves its queue.
unfoldable pub stop : Context → ℕ → Partition → Decision
stop c id p =
    checked Refused
    ((unknown id p.process_count, 3)
    ∷ (eqb id c.caller, 3)
    ∷ (dormant (process id p), 1)
    ∷ [])
    (changed (Stored id (stopped (process id p))))

-- 6 STOP_SELF: same for the caller. 5: start mode. It brings the level of the preemption lock to 0.
unfoldable pub stop_self : Context → Partition → Decision
stop_self c p =
    checked Refused
    ((start_mode p, 5) ∷ [])
    (Changed (LevelSet 0 0) (Stored c.caller (stopped (process c.caller p))) 0)

-- 7 SUSPEND id. 3: the caller. 5: DORMANT or periodic. 1: suspended. Sets the mark.
unfoldable pub suspend : Context → ℕ → Partition → Decision
suspend c id p =
    checked Refused
    ((unknown id p.process_count, 3)
    ∷ (eqb id c.caller, 3)
    ∷ (dormant (process id p) || periodic (process id p), 5)
    ∷ ((process id p).suspended, 1)
    ∷ [])
    (changed (Stored id (with_suspended true (process id p))))

-- 8 SUSPEND_SELF a. 5: start mode or periodic. 3: not in T. 5: preemption is locked, time 0 included. a = 0 changes nothing; else mark set,
-- w = t + a or −1, code 7.
unfoldable pub suspend_self : Context → Field → Partition → Decision
suspend_self c a p =
    checked Refused
    ((start_mode p || periodic (process c.caller p), 5)
    ∷ (not (is_timeout a), 3)
    ∷ (locked p.level, 5)
    ∷ [])
    (cond (is_number 0 a)
    unchanged
    (blocked p.level c.caller (suspended_until (later (Some c.time) (time_of a)) (process c.caller p))))

-- 9 TIMED_WAIT a. 5: start mode. 3: not in D. 5: preemption is locked, time 0 included. a = 0: caller goes to the end of the arrival list; else
-- waits timed, w = t + a, code 7.
unfoldable pub timed_wait : Context → Field → Partition → Decision
timed_wait c a p =
    checked Refused
    ((start_mode p, 5) ∷ (not (is_duration a), 3) ∷ (locked p.level, 5) ∷ [])
    (cond (is_number 0 a)
    (changed (Last c.caller))
    (blocked p.level c.caller (waiting_for Timed (later (Some c.time) (time_of a)) (process c.caller p))))

-- 10 PERIODIC_WAIT. 5: start mode or aperiodic. r rises by period; w = r, d = r + capacity or −1; waits, code 7, even if r ≤ t; 5 while
-- preemption is locked.
unfoldable pub periodic_wait : Context → Partition → Decision
periodic_wait c p =
    checked Refused
    ((start_mode p || not (periodic (process c.caller p)), 5) ∷ [])
    (blocked p.level c.caller (next_release (process c.caller p)))

-- 11 RESUME id. 3: the caller. 5: DORMANT or periodic. 1: not suspended. Clears the mark; if no wait, w = −1, wake code 0.
unfoldable pub resume : Context → ℕ → Partition → Decision
resume c id p =
    checked Refused
    ((unknown id p.process_count, 3)
    ∷ (eqb id c.caller, 3)
    ∷ (dormant (process id p) || periodic (process id p), 5)
    ∷ (not (process id p).suspended, 1)
    ∷ [])
    (changed (Stored id (resumed (process id p))))

-- 12 SET_PRIORITY id, a. 3: not 1..239. 5: DORMANT. Current priority = a; a READY one goes to the arrival list's end.
unfoldable pub set_priority : ℕ → Field → Partition → Decision
set_priority id a p =
    checked Refused
    ((unknown id p.process_count, 3)
    ∷ (not (is_priority a), 3)
    ∷ (dormant (process id p), 5)
    ∷ [])
    (Changed (Stored id (with_current (number_of a) (process id p))) (cond (ready (process id p)) (Last id) Nothing) 0)

-- Value 0 DORMANT, 1 READY, 2 running, 3 else
abbrev pub status : Context → ℕ → Process → ℕ
status c id x = cond (dormant x) 0 (cond (eqb id c.caller) 2 (cond (ready x) 1 3))

-- 13 GET_PROCESS_STATUS id. Value 0 DORMANT, 1 READY, 2 running, 3 else; extra d.
unfoldable pub get_status : Context → ℕ → Partition → Decision
get_status c id p =
    checked Refused
    ((unknown id p.process_count, 3) ∷ [])
    (Unchanged (status c id (process id p)) (process id p).times.deadline)

-- 32 LOCK_PREEMPTION. 1: outside NORMAL. 4: at 16 (bound: or above). The level rises by one; the process that raised it from 0 is the holder.
unfoldable pub lock_preemption : Context → Partition → Decision
lock_preemption c p =
    checked Refused
    ((start_mode p, 1)
    ∷ (leb level_limit p.level, 4)
    ∷ [])
    (changed (LevelSet (p.level + 1) (cond (locked p.level) p.holder c.caller)))

-- 33 UNLOCK_PREEMPTION. 1: outside NORMAL. 1: at level 0. The level falls by one; at 0 there is no holder.
unfoldable pub unlock_preemption : Partition → Decision
unlock_preemption p =
    checked Refused
    ((start_mode p, 1)
    ∷ (not (locked p.level), 1)
    ∷ [])
    (changed (LevelSet (p.level - 1) (cond (locked (p.level - 1)) p.holder 0)))

-- 34 GET_TICKS_LEFT. Value the ticks left in the window; in every mode.
unfoldable pub get_ticks_left : Context → Decision
get_ticks_left c = Unchanged c.left (Some 0)
