-- The ends of queuing channels, and the queues that a restart fills, channel by channel. Assumes nothing.
use Prim.Native.Nat.{ℕ, suc, ◌+◌, ◌-◌, ◌<◌}
use mathlib.Core.Path.{◌≡◌, refl, ap, sym, ◌∙◌}
use mathlib.Core.Bool.{Bool, true, false, cond, ◌&&◌}
use native.Mathlib.Omega.{arith}
use native.Mathlib.Numerals.{add-one}
use lib.Dec.{ltb, eqb}
use Rattle.machine.specs.declared.Module.{Module}
use Rattle.machine.specs.declared.Table.{Table}
use Rattle.machine.specs.Limits.{partition_limit}
use Rattle.machine.specs.Module.{channel}
use Rattle.machine.specs.Channels.{queuing, other_end, queuing_at, leads_into, refilled_at, refilled_to}
use Rattle.machine.proofs.Tests.{by_test, and_left, and_right}
use Rattle.machine.specs.declared.Channel.{Channel}
use Rattle.machine.specs.Partition.{within}
use Rattle.machine.proofs.Bounds.{within_out}
use Rattle.machine.proofs.Reached.{refilled_table}

-- both ends of a queuing channel are partitions that the record has places for
pub end_within : (c : Channel) (k : ℕ) → queuing c ≡ true → other_end k c - 1 < partition_limit
end_within c k h =
    let z = and_right (ltb 0 c.size) _ h in
    let a = within_out partition_limit c.source (and_left (within partition_limit c.source) _ z) in
    let b = within_out partition_limit c.destination (and_right (within partition_limit c.source) _ z) in
    by_test (λ (j : ℕ). j - 1 < partition_limit) (eqb c.source k) (λ _. omega (arith, b.0, b.1)) (λ _. omega (arith, a.0, a.1))

-- ---------------------------------------------------------------- restarts
pub refilled_none : (k : ℕ) (m : Module) → m ≡ refilled_to k 0 m
unfolding refilled_to
refilled_none k m = refl

module _ (k i : ℕ) (m r : Module) (e : r ≡ refilled_to k i m) where
  abbrev leads : Table → Bool
  leads T = queuing_at T i && leads_into k (channel T i)

  next : (b : Bool) → leads m.table ≡ b → refilled_to k (i + 1) m ≡ cond b (refilled_at i (refilled_to k i m)) (refilled_to k i m)
  unfolding refilled_to
  next b t =
      let h = refilled_to k i m in
      let u : leads h.table ≡ b = rw (refilled_table k i m) t in
      let step : refilled_to k (suc i) m ≡ cond b (refilled_at i h) h = ap (λ (t : Bool). cond t (refilled_at i h) h) u in
      ap (λ (n : ℕ). refilled_to k n m) (add-one i) ∙ step

  pub refilled_here : leads m.table ≡ true → cond (queuing_at r.table i) (refilled_at i r) r ≡ refilled_to k (i + 1) m
  refilled_here t =
      let q : queuing_at r.table i ≡ true = rw (e, refilled_table k i m) (and_left (queuing_at m.table i) _ t) in
      rw q (ap (refilled_at i) e ∙ sym (next true t))

  pub refilled_past : leads m.table ≡ false → r ≡ refilled_to k (i + 1) m
  refilled_past t = e ∙ sym (next false t)
