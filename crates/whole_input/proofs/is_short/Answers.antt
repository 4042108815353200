use Rattle.whole_input.proofs.is_short.Goals as goal

pub returns : goal.returns
returns c = rw c.count_lines.ensures
