use Prim.Native.Nat.{◌≤◌, ◌<◌}
use mathlib.Core.Path.{refl}
use native.Mathlib.Omega.{arith}
use lib.ListN.{length}
use borrow.Author.Rules.{rules}
use Rattle.machine.proofs.Taken.{length_mapped}
use Rattle.resident.specs.Mirrors.{current_of, object_of}
use Rattle.resident.proofs.Laws.{fill_none, fill_more, fill_done}
use Rattle.resident.proofs.fill.Goals as goal

pub loop-i-init : goal.loop-i-init
loop-i-init c = (search (rules, length_mapped), fill_none current_of _, fill_none object_of _)

pub loop-i-preserved : goal.loop-i-preserved
loop-i-preserved c =
    let l = c.loop-i in
    let a = c.args in
    let h : l.i < length a.p.processes = omega (arith, l.invariant.0) in
    (l.invariant.0, fill_more current_of a.currents.now l.currents a.p.processes l.i refl h l.invariant.1, fill_more object_of a.objects.now l.objects a.p.processes l.i c.object_of.ensures h l.invariant.2)

pub returns : goal.returns
returns c =
    let l = c.loop-i in
    let a = c.args in
    let h : length a.p.processes ≤ l.i = omega (arith, l.invariant.0) in
    (l.invariant.0, fill_done current_of a.currents.now l.currents a.p.processes l.i h l.invariant.1, fill_done object_of a.objects.now l.objects a.p.processes l.i h l.invariant.2)
