-- Folds over a list of ids, over the ids of a partition and over the partitions of a module, as a loop goes through them: what is left from
-- a place on, or what is done up to it. Assumes nothing.
use Rattle.std.specs.Prelude.{Option}
use Prim.Native.Nat.{ℕ, suc, ◌+◌, ◌-◌, ◌≤◌, ◌<◌}
use mathlib.Core.Path.{◌≡◌, refl}
use mathlib.Core.List.{List}
use native.Mathlib.Omega.{arith}
use native.Mathlib.Numerals.{add-one}
use lib.ListN.{length, get_or, set, drop}
use borrow.Author.Tests.{eq-eqb, ne_eqb}
use Rattle.machine.specs.declared.Ids.{Ids}
use Rattle.machine.specs.declared.Choice.{Choice}
use Rattle.machine.specs.declared.Process.{Process}
use Rattle.machine.specs.declared.Partition.{Partition}
use Rattle.machine.specs.declared.Module.{Module}
use Rattle.machine.specs.declared.Message.{Message}
use Rattle.machine.specs.declared.Table.{Table}
use Rattle.machine.specs.Ids.{members}
use Rattle.machine.specs.Partition.{process, stored, preferred, chosen, changed_all, each_from}
use Rattle.machine.specs.Module.{channel}
use Rattle.machine.specs.Decisions.{no_message}
use Rattle.machine.specs.Ticks.{tick_at, tick_to}
use Rattle.machine.specs.Channels.{kept_to}
use Rattle.machine.proofs.Lists.{next_member, no_member}

-- a list of ids, from place i on
module _ (q : Ids) (i : ℕ) (p : Partition) where
  pub changed_more : (f : Process → Process) → i < length (members q) → changed_all f (drop i (members q)) p ≡ changed_all f (drop (i + 1) (members q)) (stored (get_or q.items i 0) (f (process (get_or q.items i 0) p)) p)
  unfolding changed_all
  changed_more f h = rw (next_member q i h)

  pub changed_done : (f : Process → Process) → length (members q) ≤ i → changed_all f (drop i (members q)) p ≡ p
  unfolding changed_all
  changed_done f h = rw (no_member q i h)

  pub chosen_more : (c : Choice) → i < length (members q) → chosen p c (drop i (members q)) ≡ chosen p (preferred c (get_or q.items i 0) (process (get_or q.items i 0) p).current) (drop (i + 1) (members q))
  unfolding chosen
  chosen_more c h = rw (next_member q i h)

  pub chosen_done : (c : Choice) → length (members q) ≤ i → chosen p c (drop i (members q)) ≡ c
  unfolding chosen
  chosen_done c h = rw (no_member q i h)

-- the ids 1 to n, after id
less_one : (n id : ℕ) → id < n → n - id ≡ suc (n - (id + 1))
less_one n id h = omega arith

module _ (n id : ℕ) (p : Partition) where
  pub each_more : (f : Process → Process) → id < n → each_from f (n - id) (id + 1) p ≡ each_from f (n - (id + 1)) (id + 1 + 1) (stored (id + 1) (f (process (id + 1) p)) p)
  unfolding each_from
  each_more f h = rw (less_one n id h)

  pub each_done : (f : Process → Process) → n ≤ id → each_from f (n - id) (id + 1) p ≡ p
  unfolding each_from
  each_done f h = let e : n - id ≡ 0 = omega arith in rw e

-- the first partitions, the first channels
module _ (n : ℕ) (m : Module) where
  pub tick_to_more : tick_to (n + 1) m ≡ tick_at n (tick_to n m)
  unfolding tick_to
  tick_to_more = rw (add-one n)

module _ (m : Module) where
  pub tick_to_none : tick_to 0 m ≡ m
  unfolding tick_to
  tick_to_none = refl

-- the messages on the first channels
module _ (T : Table) (k n : ℕ) (l : List (Option Message)) where
  pub kept_erased : (channel T n).destination ≡ k → set (kept_to T k n l) n no_message ≡ kept_to T k (n + 1) l
  unfolding kept_to
  kept_erased e = rw (add-one n, kept_to, eq-eqb _ _ e)

  pub kept_same : ((channel T n).destination ≡ k → ⊥) → kept_to T k n l ≡ kept_to T k (n + 1) l
  unfolding kept_to
  kept_same e = rw (add-one n, kept_to, ne_eqb _ _ e)

pub kept_none : (T : Table) (k : ℕ) (l : List (Option Message)) → l ≡ kept_to T k 0 l
unfolding kept_to
kept_none T k l = refl
