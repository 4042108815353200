-- What is printed for the bytes that were read is what is printed for the input.
use Rattle.std.proofs.Common.{◌≡◌, take, ap, arith}
use Rattle.std.specs.Result.{is_ok}
use Rattle.standard_io.specs.StandardIo.{whole_length}
use Rattle.whole_input.proofs.HeldText.{shown_appended, held_whole}
use Rattle.whole_input.proofs.programs.run.Goals as goal

pub returns-in-Ok-write_whole_to-clause-printed : goal.returns-in-Ok-write_whole_to-clause-printed
returns-in-Ok-write_whole_to-clause-printed g c = λ _.
    let n : whole_length c.read_whole_from.result ≡ c.in-Ok.n = ap whole_length c.in-Ok.is in
    let input = take c.in-Ok.n c.read_whole_from.new.input in
    held_whole _ _ g.P.Printing.text _ _ input (rw n at c.read_whole_from.ensures.consumed)
    (λ less. c.read_whole_from.ensures.end (ap is_ok c.in-Ok.is)
    (omega (arith, less, n, rw n at c.read_whole_from.ensures.prefix_len.1, c.read_whole_from.auto.input, c.buffer-input.ensures.long)))
    (shown_appended input (g.P.Printing.text input) c.buffer-out.result c.result-r.new.out c.shown-k.new.out c.result-r.result c.shown-k.result c.buffer-out.ensures.long c.result-r.ensures c.shown-k.ensures.value
    _ _ (c.write_whole_to.ensures.appended (ap is_ok c.in-Ok-write_whole_to.is)))
