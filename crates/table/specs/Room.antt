-- What holds of a table while it is read and another line is due: its window or channel has a place.
use Rattle.std.specs.Prelude.{◌≤◌, ◌<◌}
use Rattle.machine.specs.declared.Draft.{Draft}
use Rattle.machine.specs.Limits.{window_limit, channel_limit}

pub record Room (d : Draft) : Type 0 where
  pub window : d.windows ≤ window_limit
  pub channel : d.windows ≤ d.table.window_count → d.table.channel_count < channel_limit
