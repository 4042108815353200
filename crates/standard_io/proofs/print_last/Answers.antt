use Rattle.std.proofs.Common.{arith, sym, ◌∙◌}
use Rattle.standard_io.proofs.Laws.{last_closed}
use Rattle.standard_io.proofs.KnownBytes.{last_told}
use Rattle.standard_io.proofs.print_last.Goals as goal

pub returns : goal.returns
returns g c = record {
  shown = (last_closed c.args.s c.buffer-out.result _ c.finish-a.ensures.0 (omega arith), λ q. c.is_ok.ensures.value ∙ c.print.ensures.quiet q);
  wrote = λ t. last_told _ _ _ c.args.s c.buffer-out.result _ c.finish-a.ensures.0 (omega arith) _ c.finish-a.ensures.1 (c.print.ensures.wrote (sym c.is_ok.ensures.value ∙ t));
}
