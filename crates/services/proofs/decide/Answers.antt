use Rattle.machine.specs.Services.{services, call_decision}
use Rattle.services.proofs.Laws.{NoneTo, none_left}
use Rattle.services.proofs.decide.Goals as goal

pub returns-in-3 : goal.returns-in-3
unfolding call_decision services
returns-in-3 c p s t w = rw c.in-3.is ((rw c.number_of-id.ensures at c.start_process.ensures) p s)

pub returns-in_default : goal.returns-in_default
unfolding NoneTo call_decision
returns-in_default c p s t w = rw (call_decision, none_left c.args.n c.in_default.in_default-own.rest)
