-- The modes of a partition, proved. Assumes nothing.
use Rattle.machine.proofs.ModeNumbers.{numbered_back}
use Rattle.machine.specs.Mode.{mode_number}
use Rattle.machine.specs.declared.Mode.TheVariants.{Normal as NormalMode}
use Prim.Native.Nat.{ℕ, zero, suc, ◌+◌, ◌-◌, ◌≤◌}
use mathlib.Core.Path.{◌≡◌, refl, ap, sym, ◌∙◌}
use mathlib.Core.Bool.{Bool, true, false, ◌&&◌}
use mathlib.Core.List.{List, [], ◌∷◌}
use native.Mathlib.Omega.{arith}
use lib.IntN.{ℤ, pos}
use lib.Dec.{eqb}
use borrow.Author.Tests.{eq-eqb, eqb-true, eqb-false, le-leb, not-false}
use Rattle.machine.specs.declared.Event.{Event as EventT}
use Rattle.machine.specs.declared.Partition.{Partition}
use Rattle.machine.specs.declared.Module.{Module}
use Rattle.machine.specs.declared.Field.{Field}
use Rattle.machine.specs.declared.Field.TheVariants.{Number, MinusOne, Other}
use Rattle.machine.specs.declared.Decision.{Decision}
use Rattle.machine.specs.declared.Decision.TheVariants.{Refused}
use Rattle.machine.specs.Limits.{mode_limit}
use Rattle.machine.specs.Fields.{field, number_of, is_number, between}
use Rattle.machine.specs.Process.{entered}
use Rattle.machine.specs.Partition.{normal_mode, entered_normal, with_mode}
use Rattle.machine.specs.Decisions.{reply_of}
use Rattle.machine.specs.Calls.{set_mode}
use Rattle.machine.specs.Services.{call_decision, services}
use Rattle.machine.specs.Places.{stray_field}
use Rattle.machine.specs.Step.{context_of, module_after, step}
use Rattle.machine.specs.Runs.{next, after}
use Rattle.machine.specs.Theorems.Valid.{Between, SoundModule, Reached, contains}
use Rattle.machine.specs.Theorems.Events.{own, call_by, Gives, Calling}
use Rattle.machine.specs.Theorems.Account.{is_call}
use Rattle.machine.specs.Theorems.EachCall.{Checks}
use Rattle.machine.specs.Theorems.Modes.{leads_to, ModeAfter, Modes}
use Rattle.machine.proofs.Tests.{by_test, by_codes, Passed, not_both, and_left, and_right}
use Rattle.machine.proofs.Bounds.{not_so}
use Rattle.machine.proofs.Either.{either}
use Rattle.machine.proofs.Fields.{in_limits}
use Rattle.machine.proofs.Bodies.{body_refusal}
use Rattle.machine.proofs.Calling.{from_zero, number_is, calling_sound, calling_valid, gives, own_after}
use Rattle.machine.proofs.Starred.{own_restarted}
use Rattle.machine.proofs.Reached.{valid_sound, reached_valid}
use Rattle.machine.proofs.Account.{step_size}
use Rattle.machine.proofs.EachCall.{each_call}
use Rattle.machine.proofs.Accepted.{accepted}
use Rattle.machine.proofs.ModeKept.{each_mode, event_mode}
use Rattle.machine.proofs.Releases.{releases}

-- ---------------------------------------------------------------- call 1
-- a mode other than these two is one to which the call leads
leads_to_holds : (mode n : ℕ) → Between 1 3 mode → n ≤ 3 → (n ≡ 3 → mode ≡ 3 → ⊥) → (n ≡ 2 → mode ≡ 1 → ⊥) → contains n (leads_to mode) ≡ true
unfolding contains
leads_to_holds zero n b few a c = absurd (omega (arith, b.0))
leads_to_holds (suc zero) zero b few a c = refl
leads_to_holds (suc zero) (suc zero) b few a c = refl
leads_to_holds (suc zero) (suc (suc zero)) b few a c = absurd (c refl refl)
leads_to_holds (suc zero) (suc (suc (suc zero))) b few a c = refl
leads_to_holds (suc zero) (suc (suc (suc (suc n)))) b few a c = absurd (omega arith)
leads_to_holds (suc (suc zero)) zero b few a c = refl
leads_to_holds (suc (suc zero)) (suc zero) b few a c = refl
leads_to_holds (suc (suc zero)) (suc (suc zero)) b few a c = refl
leads_to_holds (suc (suc zero)) (suc (suc (suc zero))) b few a c = refl
leads_to_holds (suc (suc zero)) (suc (suc (suc (suc n)))) b few a c = absurd (omega arith)
leads_to_holds (suc (suc (suc zero))) zero b few a c = refl
leads_to_holds (suc (suc (suc zero))) (suc zero) b few a c = refl
leads_to_holds (suc (suc (suc zero))) (suc (suc zero)) b few a c = refl
leads_to_holds (suc (suc (suc zero))) (suc (suc (suc zero))) b few a c = absurd (a refl refl)
leads_to_holds (suc (suc (suc zero))) (suc (suc (suc (suc n)))) b few a c = absurd (omega arith)
leads_to_holds (suc (suc (suc (suc mode)))) n b few a c = absurd (omega (arith, b.1))

-- and of such a mode that holds
unfoldable All : (ℕ → Type 0) → List ℕ → Type 0
All P [] = Unit {0}
All P (x ∷ l) = P x × All P l

one_of : (P : ℕ → Type 0) (l : List ℕ) → All P l → (n : ℕ) → contains n l ≡ true → P n
unfolding All contains
one_of P [] a n h = not_both _ h refl
one_of P (x ∷ l) a n h = either (eqb x n) (λ e. rw (← eqb-true x n e) a.0) (λ e. one_of P l a.1 n (rw e at h))

abbrev Open : ℕ → ℕ → Type 0
Open mode n = (n ≤ 3) × (n ≡ 3 → mode ≡ 3 → ⊥) × (n ≡ 2 → mode ≡ 1 → ⊥)

leads_back : (mode n : ℕ) → contains n (leads_to mode) ≡ true → Open mode n
unfolding All
leads_back zero n h = one_of (Open 0) [] tt n h
leads_back (suc zero) n h = one_of (Open 1) (leads_to 1) (omega arith) n h
leads_back (suc (suc zero)) n h = one_of (Open 2) (leads_to 2) (omega arith) n h
leads_back (suc (suc (suc zero))) n h = one_of (Open 3) (leads_to 3) (omega arith) n h
leads_back (suc (suc (suc (suc mode)))) n h = one_of (Open (suc (suc (suc (suc mode))))) [] tt n h

field_is : (high : ℕ) (f : Field) → between 0 high f ≡ true → is_number (number_of f) f ≡ true
field_is high (Number n) h = eq-eqb n n refl
field_is high MinusOne h = not_both _ h refl
field_is high Other h = not_both _ h refl

module _ (m : Module) (k : ℕ) (u : SoundModule m) (h : Calling m k) (a : ℤ) where
  abbrev p : Partition
  p = own m k

  abbrev asks : EventT
  asks = call_by k 1 a (pos 0) (pos 0) (pos 0)

  abbrev later : Partition
  later = own (step m asks).state k

  abbrev Set : Type 0
  Set = (a ≡ pos (mode_number later.mode)) × (contains (mode_number later.mode) (leads_to (mode_number p.mode)) ≡ true) × (mode_number later.mode ≡ 3 → 1 ≤ p.process_count)

  record ModeSet (d : Decision) : Type 0 where
    is : Gives m asks (reply_of d).code (reply_of d).value (reply_of d).extra (module_after m k d) → (reply_of d).code ≡ 0 → Set

  mode_in : Between 1 3 (mode_number p.mode)
  mode_in = let some = h.active in (omega arith, (calling_valid m k u h).mode)

  entered_set : mode_number later.mode ≡ 3 → is_number 3 (field a) ≡ true → normal_mode p ≡ false → eqb p.process_count 0 ≡ false → Set
  entered_set e three off some = rw e (number_is a 3 three, leads_to_holds (mode_number p.mode) 3 mode_in (omega arith) (λ _. eqb-false _ 3 off) (λ z. absurd (omega arith)), λ _. let ne = eqb-false p.process_count 0 some in omega arith)

  restarted_set : mode_number later.mode ≡ number_of (field a) → between 0 mode_limit (field a) ≡ true → is_number 3 (field a) ≡ false → (is_number 2 (field a) && eqb (mode_number p.mode) 1) ≡ false → Set
  restarted_set e some other cold =
      let n = number_of (field a) in
      let is = field_is mode_limit (field a) some in
      let no3 : n ≡ 3 → ⊥ = λ z. not_both _ (rw z at is) other in
      rw e (number_is a n is, leads_to_holds (mode_number p.mode) n mode_in (in_limits 0 mode_limit (field a) some).1 (λ z. absurd (no3 z)) (λ z w. not_both _ (rw (rw z at is, w)) cold), λ z. absurd (no3 z))

  mode_set : ModeSet (set_mode (context_of m k) (field a) p)
  unfolding set_mode Passed entered_normal
  mode_set = by_codes ModeSet body_refusal Refused _ _ refl
      (λ c e. record { is = λ g z. not_both _ e (rw z) })
      (λ f. by_test ModeSet (is_number 3 (field a))
      (λ three. record {
        is = λ g _. entered_set (ap (λ (y : Partition). mode_number y.mode) (own_after m k u h (entered_normal (context_of m k) p) g) ∙ ap mode_number (each_mode (entered (context_of m k)) (with_mode NormalMode p))) three (rw three at f.1.0) (rw three at f.1.1.1.0);
      })
      (λ other. record {
        is = λ g _.
            let b = not-false _ f.0 in
            let n = number_of (field a) in
            let few = (in_limits 0 mode_limit (field a) b).1 in
            let back = numbered_back n few in
            restarted_set (ap (λ (y : Partition). mode_number y.mode) (ap (λ (x : Module). own x k) (rw back at g.state) ∙ own_restarted m k u h n few) ∙ back) b other f.1.1.0;
      }))

  mode_gives : (step m asks).answer.code ≡ 0 → Set
  unfolding call_decision services stray_field
  mode_gives z =
      let d = set_mode (context_of m k) (field a) p in
      let g = gives m k u h 1 a (pos 0) (pos 0) (pos 0) (omega arith) (omega arith) refl d refl in
      mode_set.is g (sym g.code_is ∙ z)

-- ---------------------------------------------------------------- every event
mode_after : (m : Module) → Reached m → (e : EventT) (k : ℕ) → Between 1 m.table.size k → ModeAfter m e k
mode_after m h e k b =
    let s = valid_sound m (reached_valid m h) (k - 1) (omega (arith, b.0, b.1)) in
    let same : k - 1 + 1 ≡ k = omega (arith, b.0) in
    record {
      set = λ t.
          let z = eqb-true _ 0 (and_right (is_call k 1 e) _ t) in
          let u = accepted m h e k 1 b.0 (and_left (is_call k 1 e) _ t) z in
          let g = mode_gives m k (calling_sound m k u.calling) u.calling e.a in
          rw (← u.is) at (g (rw (← u.is) z));
      kept = rw same at (event_mode m s e (k - 1) (omega (arith, b.0, b.1))).0;
    }

-- ---------------------------------------------------------------- the modes that are set
not_and : (a b : Bool) → (a ≡ true → b ≡ true → ⊥) → (a && b) ≡ false
not_and a b h = not_so (a && b) (λ t. h (and_left a b t) (and_right a b t))

mode_accepted : (m : Module) (k : ℕ) → Calling m k → (mode : ℕ) → contains mode (leads_to (mode_number (own m k).mode)) ≡ true → (mode ≡ 3 → 1 ≤ (own m k).process_count)
    → (step m (call_by k 1 (pos mode) (pos 0) (pos 0) (pos 0))).answer.code ≡ 0
unfolding Checks
mode_accepted m k h mode c some =
    let p = own m k in
    let o = leads_back (mode_number p.mode) mode c in
    let g = (((((each_call m k h).set_mode (pos mode)
    ).1 (rw (from_zero mode, le-leb mode 3 o.0))
    ).1 (not_and (eqb mode 3) (eqb (mode_number p.mode) 3) (λ x y. o.1 (eqb-true mode 3 x) (eqb-true _ 3 y)))
    ).1 (not_and (eqb mode 2) (eqb (mode_number p.mode) 1) (λ x y. o.2 (eqb-true mode 2 x) (eqb-true _ 1 y)))
    ).1 (not_and (eqb mode 3) (eqb p.process_count 0) (λ x y. let z = eqb-true p.process_count 0 y in let l = some (eqb-true mode 3 x) in omega arith)) in
    either (eqb mode 3) (λ t. (g.0 t _ (releases m k h).some).code_is) (λ t. (g.1 t).code_is)

-- ---------------------------------------------------------------- IDLE
idle_stays : (k : ℕ) (es : List EventT) (m : Module) → Reached m → Between 1 m.table.size k → mode_number (own m k).mode ≡ 0 → own (after m es) k ≡ own m k
idle_stays k [] m h b z = refl
idle_stays k (e ∷ es) m h b z =
    let s = valid_sound m (reached_valid m h) (k - 1) (omega (arith, b.0, b.1)) in
    let same = (event_mode m s e (k - 1) (omega (arith, b.0, b.1))).1 z in
    idle_stays k es (next m e) (Reached.stepped m e h) (rw (step_size m e) b) (ap (λ (x : Partition). mode_number x.mode) same ∙ z) ∙ same

-- Law. The modes of a partition.
pub modes : Modes
modes = record {
  event = mode_after;
  accepted = mode_accepted;
  final = λ m h k b z es. idle_stays k es m h b z;
}
