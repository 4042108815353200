use Prim.Native.Nat.{ℕ}
use mathlib.Core.Path.{refl, ap, ◌∙◌}
use Rattle.machine.specs.Fields.{between}
use Rattle.fields.proofs.Laws.{told}
use Rattle.windows.proofs.Laws.{waiting_late, waiting_stranger, waiting_given}
use Rattle.windows.proofs.waiting_time.Goals as goal

pub returns-then-not-is_between : goal.returns-then-not-is_between
returns-then-not-is_between c = waiting_late c.args.table _ _ _ _ _ _ (told _ c.ranges.t _ c.from-at.ensures) (told _ c.ranges.k _ c.from-own.ensures) c.is_between.ensures refl c.if-not-is_between.true-raw

pub returns-then-not-is_between-2 : goal.returns-then-not-is_between-2
returns-then-not-is_between-2 c = waiting_stranger c.args.table _ _ _ _ _ _ (told _ c.ranges.t _ c.from-at.ensures) (told _ c.ranges.k _ c.from-own.ensures) c.is_between.ensures (c.is_between-2.ensures ∙ ap (λ (n : ℕ). between 1 n c.from-own.result) c.from.ensures) c.if-not-is_between.false-raw c.if-not-is_between-2.true-raw

pub returns : goal.returns
returns c = waiting_given c.args.table _ _ _ _ _ _ (told _ c.ranges.t _ c.from-at.ensures) (told _ c.ranges.k _ c.from-own.ensures) c.is_between.ensures (c.is_between-2.ensures ∙ ap (λ (n : ℕ). between 1 n c.from-own.result) c.from.ensures) _ _ _ c.number_of-2.ensures c.number_of.ensures c.next_start.ensures c.if-not-is_between.false-raw c.if-not-is_between-2.false-raw
