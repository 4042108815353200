use Prim.Native.Nat.{◌<◌}
use mathlib.Core.Path.{◌≡◌, ap}
use native.Mathlib.Omega.{arith}
use borrow.Author.Rules.{rules}
use lib.ListN.{length}
use Rattle.machine.specs.Limits.{message_limit, process_limit}
use Rattle.machine.specs.Process.{carried}
use Rattle.machine.specs.Partition.{process}
use Rattle.machine.proofs.Lists.{length_members}
use Rattle.partition.proofs.Laws.{gathered_more}
use Rattle.partition.proofs.waiting_messages.Goals as goal

pub loop-id-preserved : goal.loop-id-preserved
loop-id-preserved c =
    let a = c.args in
    let l = c.loop-id in
    let items = c.held-id-items.result.now in
    let ids = c.first_waiters-ids.result in
    let full : length ids.items ≡ process_limit = search rules in
    let low : l.id-index < message_limit = omega (arith, ap length c.held-id-items.ensures, length_members ids full) in
    rw (c.put-q.ensures, c.carried_by.ensures, c.record_in.ensures, l.invariant)
    (gathered_more (λ id. carried (process id a.p)) items l.id-index (omega arith) low)
