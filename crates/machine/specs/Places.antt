-- What an event is refused for before the body of its call: 13, 10, 8 and 9.
use Rattle.std.specs.Prelude.{ℕ, Bool, cond, not, ◌&&◌, ◌||◌, List, [], ◌∷◌, ◌++◌, leb, ltb, eqb}
use Rattle.machine.specs.declared.Partition.{Partition}
use Rattle.machine.specs.declared.Request.{Request}
use Rattle.machine.specs.declared.Table.{Table}
use Rattle.machine.specs.Limits.{time_limit, call_limit}
use Rattle.machine.specs.Fields.{is_number, between, number_of}
use Rattle.machine.specs.Partition.{running}
use Rattle.machine.specs.Decisions.{no_caller_as}
use Rattle.machine.specs.Services.{service_of}

-- an unused field not 0
unfoldable pub stray_field : ℕ → Request → Bool
stray_field used r =
    (ltb used 1 && not (is_number 0 r.a))
    || ((ltb used 2 && not (is_number 0 r.b))
    || ((ltb used 3 && not (is_number 0 r.c))
    || (ltb used 4 && not (is_number 0 r.e))))

-- just one of these two 0
abbrev pub one_zero : Request → Bool
one_zero r = cond (is_number 0 r.partition) (not (is_number 0 r.call)) (is_number 0 r.call)

-- 13: record empty (even a tick), partition not 0..P, call not 0..34, just one of these two 0, an unused field not 0
abbrev pub malformed : Table → Request → Bool
malformed T r =
    eqb T.size 0
    || (not (between 0 T.size r.partition)
    || (not (between 0 call_limit r.call)
    || (one_zero r
    || stray_field (service_of (number_of r.call)).fields r)))

-- 9
abbrev pub no_caller : Partition → Bool
no_caller p = no_caller_as (running p) p

-- Partition 0, call 0 is a tick: 13 leaves none with just one 0.
abbrev pub ticks : Request → Bool
ticks r = eqb (number_of r.partition) 0

-- the rows "event, first" 13 and "tick" 10
abbrev pub event_checks : Table → ℕ → Request → List (Bool × ℕ)
event_checks T t r =
    (malformed T r, 13)
    ∷ (ticks r && leb time_limit t, 10)
    ∷ []

-- and the row "call, then" 8: now is the current partition
abbrev pub first_checks : Table → ℕ → ℕ → Request → List (Bool × ℕ)
first_checks T t now r = event_checks T t r ++ ((not (ticks r) && not (eqb now (number_of r.partition)), 8) ∷ [])
