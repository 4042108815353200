-- Each turn takes a byte at least, and no more than are left.
use Rattle.std.proofs.Common.{arith, refl, sym, ◌∙◌}
use Rattle.std.specs.Result.{is_ok}
use Rattle.machine.proofs.Tests.{not_both}
use Rattle.line.proofs.Parts.{tail_is}
use Rattle.standard_io.proofs.Laws.{begins, ends, turned, ok_is_true, not_both_results}
use Rattle.standard_io.proofs.KnownBytes.{telling_begins, telling_goes, telling_ends}
use Rattle.standard_io.proofs.print_chunk.Goals as goal
use Rattle.standard_io.proofs.print_chunk.Goals.{then-is_err, else-is_err}

pub loop-at-init : goal.loop-at-init
loop-at-init g c = record { taking = begins _ _ _; quiet = λ _. refl; telling = telling_begins _ _ _ _ }

pub print-requires : goal.print-requires
print-requires g c =
    let t =
    turned _ _ _ _ _ _ c.loop-at.invariant.taking c.loop-at-test.true c.requires
    _ (tail_is c.loop-at.at c.args.chunk.now) _ c.advance-a.ensures.0 _ c.advance-a.ensures.1
    in t.printed

pub overflow_add-at : goal.overflow_add-at
overflow_add-at g c =
    let t =
    turned _ _ _ _ _ _ c.loop-at.invariant.taking c.loop-at-test.true c.requires
    _ (tail_is c.loop-at.at c.args.chunk.now) _ c.advance-a.ensures.0 _ c.advance-a.ensures.1
    in omega (arith, t.inside)

pub loop-at-smaller : goal.loop-at-smaller
loop-at-smaller g c =
    let t =
    turned _ _ _ _ _ _ c.loop-at.invariant.taking c.loop-at-test.true c.requires
    _ (tail_is c.loop-at.at c.args.chunk.now) _ c.advance-a.ensures.0 _ c.advance-a.ensures.1
    in omega (arith, t.some, t.inside)

pub loop-at-preserved : goal.loop-at-preserved
loop-at-preserved g c =
    let t =
    turned _ _ _ _ _ _ c.loop-at.invariant.taking c.loop-at-test.true c.requires
    _ (tail_is c.loop-at.at c.args.chunk.now) _ c.advance-a.ensures.0 _ c.advance-a.ensures.1
    in record {
      taking = t.next;
      quiet = λ p. elim c.if-is_err.branch [
        | then-is_err w ↦ not_both_results c.print.result (c.print.ensures.quiet p) (sym c.is_err.ensures.value ∙ w.if-is_err.true)
        | else-is_err w ↦ w.written-is ∙ c.loop-at.invariant.quiet p
      ];
      telling =
          telling_goes _ _ _ _ _ _ _ _ _ c.loop-at.invariant.telling _ _ (tail_is c.loop-at.at c.args.chunk.now) _ c.advance-a.ensures.0 _ c.advance-a.ensures.1
          (is_ok c.print.result) c.print.ensures.wrote _
          (λ t. elim c.if-is_err.branch [
            | then-is_err w ↦ not_both _ t w.written-is
            | else-is_err w ↦ (sym w.written-is ∙ t, ok_is_true c.print.result (sym c.is_err.ensures.value ∙ w.if-is_err.false))
          ]);
    }

pub returns : goal.returns
returns g c = record {
  shown = (ends _ _ _ _ _ _ c.loop-at.invariant.taking c.loop-at-test.false, c.loop-at.invariant.quiet);
  wrote = telling_ends _ _ _ _ _ _ _ _ c.loop-at.invariant.telling c.loop-at-test.false;
}
