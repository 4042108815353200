use mathlib.Core.Path.{ap, sym, ◌∙◌}
use Rattle.machine.specs.Refusals.{result_code}
use Rattle.line.proofs.Codes.{no_success}
use Rattle.event_lines.proofs.Blocks.{line_printed, line_unprinted}
use Rattle.event_lines.proofs.print_line.Goals as goal

pub returns-in-Ok : goal.returns-in-Ok
returns-in-Ok c = line_printed c.args.out.now c.args.to _ _ c.write_at.ensures.1 _ c.write_at.ensures.0 (ap result_code c.in-Ok.is)

pub returns-in-Err : goal.returns-in-Err
returns-in-Err c = line_unprinted c.args.out.now c.args.to _ _ c.write_at.ensures.1 _ c.write_at.ensures.0 (λ z. no_success _ (sym (ap result_code c.in-Err.is) ∙ z))
