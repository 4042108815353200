-- Times in ticks.
use Rattle.std.specs.Prelude.{ℕ, Option}

-- −1 of document 01, which is never, is None
abbrev pub Time : Type 0
Time = Option ℕ
