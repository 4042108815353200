-- Which start releases a periodic process, proved. Assumes nothing.
use Prim.Native.Nat.{ℕ}
use mathlib.Core.Path.{◌≡◌, ap, sym, ◌∙◌}
use native.Mathlib.Omega.{arith}
use Rattle.machine.specs.declared.Module.{Module}
use Rattle.machine.specs.declared.Process.{Process}
use Rattle.std.specs.Prelude.{Some}
use Rattle.machine.specs.Theorems.Valid.{SoundModule}
use Rattle.machine.specs.Windows.{release_point}
use Rattle.machine.specs.Theorems.Starts.{Release}
use Rattle.machine.specs.Theorems.Events.{Calling}
use Rattle.machine.specs.Theorems.Releases.{Releases}
use Rattle.machine.proofs.Calling.{calling_sound, calling_low}
use Rattle.machine.proofs.Corners.{releases_at, started_process}
use Rattle.machine.proofs.Starts.{release_bounds, release_earliest, release_one, release_here, release_next, release_window}

module _ (m : Module) (k : ℕ) (u : SoundModule m) (h : Calling m k) where
  point : Release m.table k m.t (release_point m.table m.t k)
  point = release_earliest m.table u.table m.t k (h.some, calling_low m k u h) u.time

  at_is : (a b : ℕ) → Some a ≡ Some b → a ≡ b
  at_is a b e = cc

  laws : Releases m k
  laws =
      let T = m.table in
      let t = m.t in
      record {
        some = point;
        one = release_one T u.table t k;
        near = λ r f. omega (arith, f.earliest _ point.starts point.after, (release_bounds T u.table t u.time k).1);
        at_start = λ s next f e g. releases_at m k u h _ (release_here T u.table t k next g);
        at_last = λ s first l past f. releases_at m k u h _ (release_next T u.table t k first f.0 f.1 (λ y g. omega (arith, l.1 y g)));
        single = λ s f one past. releases_at m k u h _ (release_next T u.table t k s f (λ y g. omega (arith, one y g)) (λ y g. omega (arith, one y g)));
        passed_over = λ w s off early before f. releases_at m k u h _ (release_here T u.table t k s f);
        window = λ id n r i normal b off e is inside starts.
            let r-is : release_point T t k ≡ r = at_is _ r (sym (ap (λ (x : Process). x.times.release) (started_process m k u h _ point id n normal b off e)) ∙ is) in
            release_window T u.table t k r (rw r-is at point) i inside starts;
      }

-- in every reached record, of every partition whose call comes to its body
pub releases : (m : Module) (k : ℕ) → Calling m k → Releases m k
releases m k h = laws m k (calling_sound m k h) h
