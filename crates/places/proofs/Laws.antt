-- The fields that a call uses, by one law over the list of calls. Assumes nothing.
use Prim.Native.Nat.{ℕ, zero, suc, ◌-◌, ◌<◌}
use mathlib.Core.Bool.{false}
use mathlib.Core.Path.{◌≡◌, refl, sym, ◌∙◌}
use mathlib.Core.List.{List, ◌∷◌, map}
use native.Mathlib.Omega.{arith}
use lib.Dec.{eqb}
use lib.ListN.{get_or, get_or-map, get_or-eq_default}
use borrow.Author.Tests.{ne_eqb}
use Rattle.machine.specs.Limits.{call_limit}
use Rattle.machine.specs.Services.{Service, services, no_service, service_of}

-- the fields that each number uses, from 0 on
abbrev used : List ℕ
used = 0 ∷ map (λ (s : Service). s.fields) services

pub fields_used : (n : ℕ) → get_or used n 0 ≡ (service_of n).fields
fields_used zero = refl
fields_used (suc n) =
    let a : eqb (suc n) 0 ≡ false = ne_eqb (suc n) 0 (λ h. omega arith) in
    let b : suc n - 1 ≡ n = omega arith in
    rw (a, b) (get_or-map (λ (s : Service). s.fields) services n no_service)

-- past the last call there is none
pub fields_past : (n : ℕ) → call_limit < n → 0 ≡ (service_of n).fields
unfolding services
fields_past n h = sym (get_or-eq_default used 0 {n = n} h) ∙ fields_used n
