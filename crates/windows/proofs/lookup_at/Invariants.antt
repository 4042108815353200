use Prim.Native.Nat.{◌%◌}
use mathlib.Core.Path.{◌≡◌}
use lib.ListN.{drop}
use Rattle.machine.specs.Windows.{any_window, next_start, covering}
use Rattle.windows.proofs.lookup_at.Given as goal

abbrev pub invariant-loop-w : goal.invariant-loop-w
invariant-loop-w l =
    let T = l.fn.table in
    let gap = next_start T l.t any_window in
    covering (drop l.w-index l.w-items) (l.t % T.frame) gap ≡ covering l.w-items (l.t % T.frame) gap
