use native.Mathlib.Nat.{add-zero}
use lib.Seq.{get_or-drop}
use borrow.Author.Rules.{rules}
use Rattle.event_lines.proofs.six_at.Goals as goal

pub returns : goal.returns
returns c = simp (get_or-drop, add-zero) (search rules)
