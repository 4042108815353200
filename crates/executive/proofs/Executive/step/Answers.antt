use mathlib.Core.List.{[], ◌∷◌}
use lib.IntN.{ℤ}
use mir.Syntax.{w64}
use mir.Val.{to_z, of_z}
use mir.ValLaws.{to_z-of_z}
use native.Mathlib.Omega.{arith}
use Rattle.executive.proofs.Lists.{one_event}
use Rattle.executive.proofs.Executive.step.Goals as goal

-- a signed number is passed on by its bits
abbrev bits : ℤ → ℤ
bits x = to_z w64 (of_z w64 x)

pub returns : goal.returns
returns c =
    let g = c.struct_told-1.given in
    one_event c.args.self.inner c.args.event (bits c.args.event.partition ∷ bits c.args.event.call ∷ bits c.args.event.a ∷ bits c.args.event.b ∷ bits c.args.event.c ∷ bits c.args.event.e ∷ []) (rw (to_z-of_z w64 c.args.event.partition (omega (arith, g)), to_z-of_z w64 c.args.event.call (omega (arith, g)), to_z-of_z w64 c.args.event.a (omega (arith, g)), to_z-of_z w64 c.args.event.b (omega (arith, g)), to_z-of_z w64 c.args.event.c (omega (arith, g)), to_z-of_z w64 c.args.event.e (omega (arith, g)))) c.run_list.result c.run_list.ensures.0 c.run_list.ensures.1
