use Rattle.whole_input.proofs.Laws.{shown_refused, shown_text}
use Rattle.whole_input.proofs.shown.Goals as goal

pub returns-in-Ok : goal.returns-in-Ok
returns-in-Ok c = let h = shown_text c.args.out.now c.args.r _ c.in-Ok.is _ c.min.ensures in record { value = h.0; counts = h.1 }

pub returns-in-Err : goal.returns-in-Err
returns-in-Err c = let h = shown_refused c.args.out.now c.args.r _ c.in-Err.is _ c.print_refusal.ensures.0 _ c.print_refusal.ensures.1 _ c.unwrap_or.ensures in record { value = h.0; counts = h.1 }
