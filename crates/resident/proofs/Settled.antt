-- A module one of whose partitions lies elsewhere. Assumes nothing.
use Prim.Native.Nat.{ℕ, ◌≤◌, ◌<◌}
use mathlib.Core.List.{List}
use mathlib.Core.Logic.{◌≢◌}
use mathlib.Core.Path.{◌≡◌, ap, ◌∙◌}
use lib.ListN.{length, get_or, length-set}
use lib.Seq.{set-get_or, set-set, set_comm, set_out, get_or-set_same, get_or-set_other}
use Rattle.machine.specs.Module.{part, no_partition}
use Rattle.machine.specs.declared.Module.{Module}
use Rattle.machine.specs.declared.Partition.{Partition}
use Rattle.resident.specs.Settled.{settled}

-- a module with other partitions
abbrev with : Module → List Partition → Module
with m l = record { table = m.table; t = m.t; messages = m.messages; queues = m.queues; partitions = l }

module _ (i : ℕ) (p : Partition) (m : Module) where
  -- it is read at its place
  pub settled_here : i < length m.partitions → part (settled i p m) i ≡ p
  settled_here h = get_or-set_same m.partitions i p no_partition h

  -- and the others at theirs
  pub settled_there : (j : ℕ) → j ≢ i → part (settled i p m) j ≡ part m j
  settled_there j n = get_or-set_other m.partitions i j p no_partition n

  pub settled_length : length (settled i p m).partitions ≡ length m.partitions
  settled_length = length-set m.partitions i p

  -- the last one counts
  pub settled_twice : (q : Partition) → settled i q (settled i p m) ≡ settled i q m
  settled_twice q = ap (with m) (set-set m.partitions i p q)

  -- two places
  pub settled_both : (j : ℕ) (q : Partition) → i ≢ j → settled j q (settled i p m) ≡ settled i p (settled j q m)
  settled_both j q n = ap (with m) (set_comm m.partitions i j p q n)

  -- past the last partition there is no place
  pub settled_past : length m.partitions ≤ i → settled i p m ≡ m
  settled_past h = ap (with m) (set_out m.partitions i p h)

-- a partition that has not changed since it was read, with whatever default
pub settled_same : (i : ℕ) (m : Module) (d : Partition) {p : Partition} → p ≡ get_or m.partitions i d → settled i p m ≡ m
settled_same i m d e = ap (λ (x : Partition). settled i x m) e ∙ ap (with m) (set-get_or m.partitions i d)
