use Rattle.stream.specs.declared.Stage.{Stage}
use Rattle.stream.specs.Stream.{turn_in}
use Rattle.stream.proofs.Turns.{by_stage}
use Rattle.stream.proofs.turn_of.Goals as goal

pub returns-in-Table : goal.returns-in-Table
returns-in-Table c = by_stage (λ (k : Stage). turn_in c.args.ended k c.args.x c.args.text.now) _ _ c.in-Table.is _ c.table_turn.ensures

pub returns-in-Events : goal.returns-in-Events
returns-in-Events c = by_stage (λ (k : Stage). turn_in c.args.ended k c.args.x c.args.text.now) _ _ c.in-Events.is _ c.events_turn.ensures

pub returns-in-Ended : goal.returns-in-Ended
returns-in-Ended c = by_stage (λ (k : Stage). turn_in c.args.ended k c.args.x c.args.text.now) _ _ c.in-Ended.is _ (rw c.in-Ended.is at c.print_nothing.ensures)
