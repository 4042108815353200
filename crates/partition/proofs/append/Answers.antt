use Prim.Native.Nat.{ℕ}
use mathlib.Core.Path.{◌≡◌}
use mathlib.Core.List.{List}
use native.Mathlib.Omega.{arith}
use lib.ListN.{length}
use borrow.Author.Rules.{rules}
use Rattle.machine.specs.declared.Ids.{Ids}
use Rattle.machine.specs.Limits.{process_limit}
use Rattle.machine.specs.Ids.{appended}
use Rattle.arrays.proofs.Laws.{joined}
use Rattle.partition.proofs.append.Goals as goal

pub returns : goal.returns
unfolding appended
returns c =
    let q = c.args.q in
    let long : length q.items ≡ process_limit = search rules in
    joined {A = Ids} (λ (l : List ℕ) (n : ℕ). record { items = l; len = n }) q.items c.join_last.new.items c.args.id q.len c.join_last.result process_limit (omega arith) long c.join_last.ensures.items c.join_last.ensures.len
