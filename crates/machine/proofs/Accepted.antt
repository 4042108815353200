-- A call that is answered 0 has come to its body with all its checks passed, and the fields that it does not use are 0. Assumes nothing.
use Rattle.machine.specs.Mode.{mode_number}
use Prim.Native.Nat.{ℕ, ◌≤◌}
use mathlib.Core.Path.{◌≡◌, refl, ap, sym, ◌∙◌}
use mathlib.Core.Bool.{Bool, true, false, cond, not, ◌&&◌, ◌||◌}
use mathlib.Core.List.{List, [], ◌∷◌}
use native.Mathlib.Omega.{arith}
use lib.Dec.{eqb, ltb, leb}
use lib.IntN.{ℤ, pos, negsuc}
use borrow.Author.Tests.{ne_eqb, eqb-true, eqb-false, leb-true, not-false}
use Rattle.machine.specs.declared.Event.{Event as EventT}
use Rattle.machine.specs.declared.Module.{Module}
use Rattle.machine.specs.Partition.{running}
use Rattle.machine.specs.Module.{current}
use Rattle.machine.specs.Theorems.Plain.{plain_number, plain_between}
use Rattle.machine.specs.Theorems.Valid.{Between, Reached}
use Rattle.machine.specs.Theorems.Events.{own, call_by, Calling}
use Rattle.machine.specs.Theorems.Account.{is_call, code_at, restarts_by}
use Rattle.machine.specs.Theorems.EachCall.{id_of, used, stray, malformed_at, Checks}
use Rattle.machine.proofs.Tests.{Passed, codes_in, not_both, and_left, and_right, or_left, or_right}
use Rattle.machine.proofs.Either.{either}
use Rattle.machine.proofs.Account.{plain_is}
use Rattle.machine.proofs.EachCall.{each_event, each_call}
use Rattle.machine.specs.Limits.{call_limit}

-- every check is passed, and what then holds
pub checks_passed : (m : Module) (e : EventT) (l : List (Bool × ℕ)) {A : Type 0} → codes_in (leb 1) l ≡ true → Checks m e l A → code_at m e ≡ 0 → Passed l × A
unfolding Checks Passed
checks_passed m e [] h c z = (tt, c)
checks_passed m e ((test, code) ∷ l) h c z = either test
    (λ t. let some = leb-true 1 code (and_left (leb 1 code) _ h) in absurd (let is = (c.0 t).code_is in omega arith))
    (λ t. let r = checks_passed m e l (and_right (leb 1 code) _ h) (c.1 t) z in ((t, r.0), r.1))

-- a field that is not used is 0
unused : (b : Bool) (z : ℤ) → (b && not (plain_number 0 z)) ≡ false → z ≡ cond b (pos 0) z
unused true z h = plain_is z 0 (not-false _ h)
unused false z h = refl

-- a number in limits is that number
pub plain_in : (low high : ℕ) (z : ℤ) → plain_between low high z ≡ true → (z ≡ pos (id_of z)) × Between low high (id_of z)
plain_in low high (pos n) h = (refl, (leb-true low n (and_left (leb low n) _ h), leb-true n high (and_right (leb low n) _ h)))
plain_in low high (negsuc n) h = not_both _ h refl

-- the event is call n of partition k, which comes to its body
pub record Accepted (m : Module) (e : EventT) (k n : ℕ) : Type 0 where
  pub calling : Calling m k
  pub is : e ≡ call_by k n (cond (ltb (used n) 1) (pos 0) e.a) (cond (ltb (used n) 2) (pos 0) e.b) (cond (ltb (used n) 3) (pos 0) e.c) (cond (ltb (used n) 4) (pos 0) e.e)

pub accepted : (m : Module) → Reached m → (e : EventT) (k n : ℕ) → 1 ≤ k → is_call k n e ≡ true → code_at m e ≡ 0 → Accepted m e k n
accepted m h e k n some by z =
    let g = each_event m h e in
    let P = m.table.size in
    let from = plain_is e.partition k (and_left (plain_number k e.partition) _ by) in
    let call = plain_is e.call n (and_right (plain_number k e.partition) _ by) in
    let no : eqb k 0 ≡ false = ne_eqb k 0 (λ y. omega arith) in
    let formed : malformed_at P e ≡ false = rw z at (sym g.thirteen) in
    let eight : not (eqb k (current m)) ≡ false = rw (z, formed, from, no) at (sym g.eight) in
    let now = not-false (eqb k (current m)) eight in
    let nine : (eqb (mode_number (own m k).mode) 0 || (eqb (mode_number (own m k).mode) 3 && eqb (running (own m k)) 0)) ≡ false = rw (z, formed, from, no, now) at (sym g.nine) in
    let fields = or_right (cond (plain_number 0 e.partition) (not (plain_number 0 e.call)) (plain_number 0 e.call)) _ (or_right (not (plain_between 0 call_limit e.call)) _ (or_right (not (plain_between 0 P e.partition)) _ (or_right (eqb P 0) _ formed))) in
    let alike : stray (used n) e.a e.b e.c e.e ≡ false = rw call at fields in
    let a1 = ltb (used n) 1 && not (plain_number 0 e.a) in
    let b1 = ltb (used n) 2 && not (plain_number 0 e.b) in
    let c1 = ltb (used n) 3 && not (plain_number 0 e.c) in
    let rest = or_right a1 _ alike in
    let last = or_right b1 _ rest in
    record {
      calling = record {
        reached = h;
        some = some;
        now = sym (eqb-true k (current m) now);
        active = λ y. eqb-false _ 0 (or_left (eqb (mode_number (own m k).mode) 0) _ nine) y;
        runs = λ y w. not_both _ (rw (y, w)) (or_right (eqb (mode_number (own m k).mode) 0) _ nine);
      };
      is = λ i. record {
        partition = from i;
        call = call i;
        a = unused (ltb (used n) 1) e.a (or_left a1 _ alike) i;
        b = unused (ltb (used n) 2) e.b (or_left b1 _ rest) i;
        c = unused (ltb (used n) 3) e.c (or_left c1 _ last) i;
        e = unused (ltb (used n) 4) e.e (or_right c1 _ last) i;
      };
    }

-- the partition of a call that is answered 0 is one of the table
pub by_partition_of : (m : Module) → Reached m → (e : EventT) (k n : ℕ) → 1 ≤ n → is_call k n e ≡ true → code_at m e ≡ 0 → Between 1 m.table.size k
by_partition_of m h e k n some by z =
    let P = m.table.size in
    let from = plain_is e.partition k (and_left (plain_number k e.partition) _ by) in
    let call = plain_is e.call n (and_right (plain_number k e.partition) _ by) in
    let formed : malformed_at P e ≡ false = rw z at (sym (each_event m h e).thirteen) in
    let rest = or_right (eqb P 0) _ formed in
    let high : not (plain_between 0 P (pos k)) ≡ false = rw from at (or_left (not (plain_between 0 P e.partition)) _ rest) in
    let one = or_left (cond (plain_number 0 e.partition) (not (plain_number 0 e.call)) (plain_number 0 e.call)) _ (or_right (not (plain_between 0 call_limit e.call)) _ (or_right (not (plain_between 0 P e.partition)) _ rest)) in
    let same : cond (eqb k 0) (not (eqb n 0)) (eqb n 0) ≡ false = rw (from, call) at one in (
      either (eqb k 0)
          (λ t. let y = eqb-true n 0 (not-false _ (rw t at same)) in absurd (omega arith))
          (λ t. let y = eqb-false k 0 t in omega arith),
      leb-true k P (and_right (leb 0 k) _ (not-false _ high)),
    )

-- an accepted mode 0, 1 or 2 of partition k
pub record Restarting (m : Module) (e : EventT) (k mode : ℕ) : Type 0 where
  pub calling : Calling m k
  pub few : mode ≤ 2
  pub warm : mode ≡ 2 → mode_number (own m k).mode ≡ 1 → ⊥
  pub is : e ≡ call_by k 1 (pos mode) (pos 0) (pos 0) (pos 0)

pub restarting : (m : Module) → Reached m → (e : EventT) (k : ℕ) → 1 ≤ k → restarts_by k e (code_at m e) ≡ true → Restarting m e k (id_of e.a)
unfolding Passed
restarting m h e k some t =
    let by = and_left (is_call k 1 e) _ t in
    let at = and_right (is_call k 1 e) _ t in
    let mode = plain_in 0 2 e.a (and_left (plain_between 0 2 e.a) _ at) in
    let z = eqb-true _ 0 (and_right (plain_between 0 2 e.a) _ at) in
    let u = accepted m h e k 1 some by z in
    let f = (checks_passed m e _ refl (rw (← u.is) at ((each_call m k u.calling).set_mode e.a)) z).0 in
    record {
      calling = u.calling;
      few = mode.1.1;
      warm = λ two one. not_both _ (rw (mode.0 ∙ ap pos two, one)) f.1.1.0;
      is = u.is ∙ ap (λ (a : ℤ). call_by k 1 a (pos 0) (pos 0) (pos 0)) mode.0;
    }
