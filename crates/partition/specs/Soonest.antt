-- A number that no wake time or deadline of a partition comes before: what the loop over events asks at a tick.
use Rattle.std.specs.Prelude.{ℕ, zero, suc, ◌+◌, min}
use Rattle.machine.specs.Limits.{greatest_time}
use Rattle.machine.specs.Partition.{process}
use Rattle.machine.specs.declared.Partition.{Partition}
use Rattle.machine.specs.Time.{Time}
use Rattle.std.specs.Prelude.{None, Some}

-- the least of a time and a number; −1 is no bound
abbrev pub sooner : Time → ℕ → ℕ
sooner None n = n
sooner (Some t) n = min t n

-- of n processes from id on
unfoldable pub soonest_from : ℕ → ℕ → Partition → ℕ
soonest_from zero id p = greatest_time
soonest_from (suc n) id p = sooner (process id p).times.wake (sooner (process id p).times.deadline (soonest_from n (id + 1) p))

abbrev pub soonest_of : Partition → ℕ
soonest_of p = soonest_from p.process_count 1 p
