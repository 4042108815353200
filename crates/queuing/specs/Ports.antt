-- Ends of queuing channels.
use Rattle.std.specs.Prelude.{ℕ, ◌+◌, cond, ltb}
use Rattle.machine.specs.Limits.{channel_limit}

-- the number of a channel, by its place; 0, which is no number, past the last
abbrev pub number_at : ℕ → ℕ
number_at i = cond (ltb i channel_limit) (i + 1) 0
