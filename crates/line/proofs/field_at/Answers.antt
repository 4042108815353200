-- `field_at` meets its contract.
use native.Mathlib.Omega.{arith}
use lib.ListN.{take, drop}
use Prim.Native.Nat.{ℕ, ◌+◌, ◌-◌}
use mathlib.Core.Path.{◌≡◌, ap, ◌∙◌}
use Rattle.machine.specs.Line.{field_width, read_field}
use Rattle.line.proofs.field_at.Goals as goal

pub returns : goal.returns
returns c =
    let start = c in
    let e : start.args.at + field_width - start.args.at ≡ field_width = omega arith in c.field.ensures ∙ ap
    (λ (k : ℕ). read_field (take k (drop start.args.at start.args.s.now))) e
