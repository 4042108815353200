-- A number past those of the calls. Assumes nothing.
use Prim.Native.Nat.{ℕ, zero, suc, ◌≤◌, ◌<◌}
use mathlib.Core.Bool.{false}
use mathlib.Core.Path.{◌≡◌}
use lib.Dec.{eqb}
use native.Mathlib.Omega.{arith}
use Rattle.machine.specs.Services.{no_service, service_of}
use Rattle.machine.specs.Limits.{call_limit}
use Rattle.machine.specs.declared.Field.{Field}
use Rattle.machine.specs.declared.Partition.{Partition}
use Rattle.machine.proofs.Applied.{no_service_holds}
use Rattle.machine.proofs.Tests.{or_left, or_right}
use Rattle.services.specs.Looked.{taken_for, creates}

-- n is none of the numbers up to k
unfoldable pub NoneTo : ℕ → ℕ → Type 0
NoneTo zero n = Unit {0}
NoneTo (suc k) n = NoneTo k n × (n ≡ suc k → ⊥)

past : (k n : ℕ) → NoneTo k n → 1 ≤ n → k < n
unfolding NoneTo
past zero n h lo = lo
past (suc k) n h lo = let l = past k n h.0 lo in let d = h.1 in omega (arith, l, d)

pub none_left : (n : ℕ) → NoneTo call_limit n → service_of n ≡ no_service
none_left n h = no_service_holds n (λ lo hi. let l = past call_limit n h lo in omega (arith, l))

-- a call that creates nothing looks at no name
pub none_created : (n : ℕ) → creates n ≡ false → (name : Field) (p : Partition) → taken_for n name p ≡ false
none_created n h name p =
    let a = or_right (eqb n 2) _ h in
    let b = or_right (eqb n 14) _ a in
    let c = or_right (eqb n 17) _ b in
    rw (or_left (eqb n 2) _ h, or_left (eqb n 14) _ a, or_left (eqb n 17) _ b, or_left (eqb n 23) _ c, or_right (eqb n 23) _ c)
