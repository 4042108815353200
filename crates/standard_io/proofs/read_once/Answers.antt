-- By what the read gave.
use Rattle.std.proofs.Common.{arith, Ok, ◌≡◌}
use Rattle.standard_io.proofs.Laws.{shown_read, nothing_read, failed_read, read_once}
use Rattle.standard_io.proofs.KnownBytes.{carried_once, nothing_told, shown_told}
use Rattle.standard_io.proofs.read_once.Goals as goal

pub returns-in-Ok-eq0 : goal.returns-in-Ok-eq0
returns-in-Ok-eq0 g c =
    let none : c.read.result ≡ Ok 0 = cc in
    let took = nothing_read c.args.prints c.args.s c.read.new.buf c.read.result none in record {
      once = read_once _ _ _ _ c.read.ensures.bound _ took;
      carried = λ some. carried_once _ _ _ _ _ _ _ _ c.read.ensures.bytes (omega (arith, some, c.read.auto.buf)) _ took (nothing_told _ _ _ _ _ _ (rw none));
    }

pub returns-in-Ok : goal.returns-in-Ok
returns-in-Ok g c =
    let took = shown_read c.args.prints c.args.s c.read.new.buf c.read.result _ c.in-Ok.is (λ z. omega arith) _ c.print_chunk.ensures.shown _ c.after_shown.ensures in record {
      once = read_once _ _ _ _ c.read.ensures.bound _ took;
      carried = λ some. carried_once _ _ _ _ _ _ _ _ c.read.ensures.bytes (omega (arith, some, c.read.auto.buf)) _ took (shown_told _ _ _ _ _ _ _ c.in-Ok.is _ c.print_chunk.ensures.shown.0 c.print_chunk.ensures.wrote _ c.after_shown.ensures);
    }

pub returns-in-Err : goal.returns-in-Err
returns-in-Err g c =
    let took = failed_read c.args.prints c.args.s c.read.new.buf c.read.result _ c.in-Err.is in record {
      once = read_once _ _ _ _ c.read.ensures.bound _ took;
      carried = λ some. carried_once _ _ _ _ _ _ _ _ c.read.ensures.bytes (omega (arith, some, c.read.auto.buf)) _ took (nothing_told _ _ _ _ _ _ (rw c.in-Err.is));
    }
