-- `put_spaces` meets its contract. The loop: spaces up to k.
use mathlib.Core.Path.{refl, ◌∙◌}
use native.Mathlib.Omega.{arith}
use lib.ListN.{length-set}
use Rattle.line.proofs.Writing.{alike_more, blank_more}
use Rattle.line.proofs.put_spaces.Goals as goal

pub loop-k-init : goal.loop-k-init
loop-k-init c = (refl, (λ k lo hi. absurd (omega arith)), (λ m w. refl))

pub loop-k-preserved : goal.loop-k-preserved
loop-k-preserved c = let loop = c.loop-k in (length-set loop.out _ _ ∙ loop.invariant.0, blank_more loop.out loop.k (omega arith) loop.invariant.1, alike_more _ loop.k _ loop.out _ (omega arith) loop.invariant.2)

pub returns : goal.returns
returns c = let loop = c.loop-k in (loop.invariant.0, (λ k lo hi. loop.invariant.1 k lo (omega arith)), loop.invariant.2)
