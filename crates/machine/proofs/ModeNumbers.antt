-- A mode and its number. Assumes nothing.
use Rattle.std.specs.Prelude.{ℕ, zero, suc, ◌≤◌, ◌≡◌}
use Rattle.std.proofs.Common.{arith, refl}
use Rattle.machine.specs.declared.Mode.{Mode}
use Rattle.machine.specs.declared.Mode.TheVariants.{Idle, ColdStart, WarmStart, Normal as NormalMode}
use Rattle.machine.specs.Mode.{mode_number, mode_numbered}

pub numbered_back : (n : ℕ) → n ≤ 3 → mode_number (mode_numbered n) ≡ n
numbered_back zero h = refl
numbered_back (suc zero) h = refl
numbered_back (suc (suc zero)) h = refl
numbered_back (suc (suc (suc zero))) h = refl
numbered_back (suc (suc (suc (suc n)))) h = absurd (omega (arith, h))

pub number_back : (m : Mode) → mode_numbered (mode_number m) ≡ m
number_back Idle = refl
number_back ColdStart = refl
number_back WarmStart = refl
number_back NormalMode = refl

pub number_few : (m : Mode) → mode_number m ≤ 3
number_few Idle = omega arith
number_few ColdStart = omega arith
number_few WarmStart = omega arith
number_few NormalMode = omega arith

-- of NORMAL alone it is 3
pub number_normal : (m : Mode) → mode_number m ≡ 3 → m ≡ NormalMode
number_normal Idle e = absurd (omega (arith, e))
number_normal ColdStart e = absurd (omega (arith, e))
number_normal WarmStart e = absurd (omega (arith, e))
number_normal NormalMode e = refl
