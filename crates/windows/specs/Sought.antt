-- Which windows a search for a start goes by.
use Rattle.std.specs.Prelude.{Bool}
use Rattle.machine.specs.declared.Window.{Window}
use Rattle.machine.specs.Windows.{any_window, owned_by, flagged_for}
use Rattle.windows.specs.declared.Sought.{Sought}
use Rattle.windows.specs.declared.Sought.TheVariants.{AnyWindow, OwnedBy, FlaggedFor}

abbrev pub sought : Sought → Window → Bool
sought AnyWindow = any_window
sought (OwnedBy k) = owned_by k
sought (FlaggedFor k) = flagged_for k
