-- By what a read gives.
use Rattle.std.proofs.Common.{arith, ap, refl}
use Rattle.std.proofs.KnownBytes.{Consumes-nil}
use Rattle.standard_io.specs.StandardIo.{got_of}
use Rattle.standard_io.proofs.KnownBytes.{read_further}
use Rattle.standard_io.proofs.Laws.{filling_begins, filling_goes, filling_ends, filling_cut, filling_full}
use Rattle.standard_io.proofs.read_whole_from.Goals as goal

pub loop-at-init : goal.loop-at-init
loop-at-init g c = record { filling = filling_begins _; consumed = Consumes-nil _ }

pub loop-at-preserved : goal.loop-at-preserved
loop-at-preserved g c =
    let t = filling_goes _ _ _ c.loop-at.invariant.filling c.loop-at-test.true _ c.read_from.ensures.got _ c.in-Ok.is (λ z. omega arith) _ c.read_from.auto.input in
    record { filling = t.next; consumed = read_further _ _ _ _ _ _ _ c.loop-at.invariant.consumed c.read_from.ensures.consumed c.read_from.ensures.kept _ (ap got_of c.in-Ok.is) }

pub returns-in-Ok-eq0-clause-read_whole : goal.returns-in-Ok-eq0-clause-read_whole
returns-in-Ok-eq0-clause-read_whole g c = filling_ends _ _ _ c.loop-at.invariant.filling c.loop-at-test.true _ c.read_from.ensures.got

pub returns-in-Err-clause-read_whole : goal.returns-in-Err-clause-read_whole
returns-in-Err-clause-read_whole g c = filling_cut _ _ _ c.loop-at.invariant.filling c.loop-at-test.true _ c.read_from.ensures.got _ refl

pub returns-clause-read_whole : goal.returns-clause-read_whole
returns-clause-read_whole g c = filling_full _ _ _ c.loop-at.invariant.filling c.loop-at-test.false
