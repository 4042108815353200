-- A loop over the partitions at a tick. Assumes nothing.
use Prim.Native.Nat.{ℕ, ◌+◌}
use mathlib.Core.Path.{◌≡◌, sym, ap, ◌∙◌}
use lib.ListN.{set}
use lib.Seq.{set-get_or}
use Rattle.machine.specs.Module.{no_partition, part, with_part}
use Rattle.machine.specs.Ticks.{tick_at, tick_to}
use Rattle.machine.specs.Partition.{tick_partition}
use Rattle.machine.specs.declared.Module.{Module}
use Rattle.machine.specs.declared.Partition.{Partition}
use Rattle.machine.proofs.Folds.{tick_to_more}

-- partition number i + 1 is ticked, or passed over, where the tick leaves it as it is
module _ (i t : ℕ) (m q r : Module) (so_far : q ≡ tick_to i m) (now : q.t ≡ t) where
  pub tick_due : (x : Partition) → x ≡ tick_partition t (part q i)
      → r ≡ record { table = q.table; t = q.t; messages = q.messages; queues = q.queues; partitions = set q.partitions i x } → r ≡ tick_to (i + 1) m
  unfolding tick_at
  tick_due x e s = s ∙ rw (e, ← now) (ap (tick_at i) so_far ∙ sym (tick_to_more i m))

  pub tick_later : tick_partition t (part q i) ≡ part q i → r ≡ q → r ≡ tick_to (i + 1) m
  unfolding tick_at
  tick_later e s = s ∙ same ∙ ap (tick_at i) so_far ∙ sym (tick_to_more i m)
    where
      same : q ≡ with_part i (tick_partition q.t (part q i)) q
      same = rw (now, e, set-get_or q.partitions i no_partition)
