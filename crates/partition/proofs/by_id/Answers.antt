use Rattle.std.proofs.Common.{◌∙◌, refl, length}
use Rattle.partition.proofs.Laws.{named_long, named_past}
use Rattle.partition.proofs.by_id.Goals as goal

pub returns-then-k-items : goal.returns-then-k-items
returns-then-k-items g c = let a = c.args in c.index-items-k.is ∙ named_long (length a.items.now) a.id c.slot-k.result c.slot-k.ensures a.none a.items.now c.index-items-k.result refl c.if-k-items.true

pub returns-else-k-items : goal.returns-else-k-items
returns-else-k-items g c = let a = c.args in named_past (length a.items.now) a.id c.slot-k.result c.slot-k.ensures a.none a.items.now c.if-k-items.false
