use borrow.Author.Rules.{rules}
use Rattle.machine.specs.Services.{services}
use Rattle.places.proofs.Laws.{fields_used, fields_past}
use Rattle.places.proofs.fields_of.Goals as goal

pub bounds-n : goal.bounds-n
bounds-n c = search rules

pub returns-then-n-le-CALL : goal.returns-then-n-le-CALL
unfolding services
returns-then-n-le-CALL c = fields_used c.args.n

pub returns-else-n-le-CALL : goal.returns-else-n-le-CALL
returns-else-n-le-CALL c = fields_past c.args.n (search rules)
