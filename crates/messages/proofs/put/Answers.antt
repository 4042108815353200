use mathlib.Core.Path.{◌≡◌}
use native.Mathlib.Omega.{arith}
use lib.ListN.{length}
use borrow.Author.Rules.{rules}
use Rattle.machine.specs.declared.Queue.{Queue}
use Rattle.machine.specs.Limits.{message_limit}
use Rattle.machine.specs.Messages.{put}
use Rattle.arrays.proofs.Laws.{joined}
use Rattle.messages.proofs.put.Goals as goal

pub returns : goal.returns
unfolding put
returns c =
    let q = c.args.q in
    let long : length q.items ≡ message_limit = search rules in
    joined {A = Queue} (λ l n. record { items = l; len = n }) q.items c.join_last.new.items c.args.m q.len c.join_last.result message_limit (omega arith) long c.join_last.ensures.items c.join_last.ensures.len
