-- A call that comes to its body, given by its six numbers: what it decides is what it gives. Assumes nothing.
use Rattle.machine.specs.Mode.{mode_number}
use Prim.Native.Nat.{ℕ, zero, suc, ◌-◌, ◌≤◌, ◌<◌}
use mathlib.Core.Path.{◌≡◌, refl, sym, ap, ◌∙◌}
use mathlib.Core.Bool.{Bool, true, false, cond, true≢false}
use mathlib.Core.Logic.{inl, inr}
use native.Mathlib.Omega.{arith}
use lib.IntN.{ℤ, pos, negsuc}
use lib.Seq.{get_or-set_same}
use lib.Dec.{leb}
use borrow.Author.Tests.{eq-eqb, ne_eqb, eqb-true, le-leb, le-ltb}
use Rattle.machine.specs.declared.Partition.{Partition}
use Rattle.machine.specs.Time.{Time}
use Rattle.machine.specs.declared.Event.{Event as EventT}
use Rattle.machine.specs.declared.Request.{Request}
use Rattle.machine.specs.declared.Module.{Module}
use Rattle.machine.specs.declared.Stepped.{Stepped}
use Rattle.machine.specs.declared.Decision.{Decision}
use Rattle.machine.specs.declared.Field.{Field}
use Rattle.machine.specs.declared.Field.TheVariants.{Number, MinusOne, Other}
use Rattle.machine.specs.Limits.{call_limit, greatest_time, process_limit}
use Rattle.machine.specs.Fields.{field, request_of, is_number, number_of}
use Rattle.machine.specs.Partition.{normal_mode, running, process, stored, with_processes}
use Rattle.machine.specs.Decisions.{checked, reply_of, unknown}
use Rattle.machine.specs.Windows.{lookup}
use Rattle.machine.specs.Module.{current, empty_module, empty_table, no_partition, with_part}
use Rattle.machine.specs.Channels.{port_of}
use Rattle.machine.specs.Services.{service_of, call_decision}
use Rattle.machine.specs.Places.{malformed, stray_field, no_caller}
use Rattle.machine.specs.Step.{context_of, decision, module_after, stepped, step}
use Rattle.machine.specs.Theorems.Valid.{Valid, ValidModule, SoundModule, SoundContext, Between, ListedIn}
use Rattle.machine.specs.Theorems.Events.{own, call_by, Gives, Calling, Puts, with_process, without}
use Rattle.machine.proofs.Either.{either}
use Rattle.machine.proofs.WindowLeft.{current_known}
use Rattle.machine.proofs.Reached.{reached_valid, context_of_holds}
use Rattle.machine.specs.declared.Process.{Process}
use Rattle.machine.specs.Process.{blank_process, on_object, ready}
use Rattle.machine.specs.Ids.{follow, removed}
use Rattle.machine.proofs.Quiet.{follow_same}
use Rattle.machine.proofs.Bounds.{named_in, stored_in, within_in}
use lib.ListN.{set}

-- ---------------------------------------------------------------- an integer as a field
pub field_number : (n : ℕ) → n ≤ greatest_time → field (pos n) ≡ Number n
field_number n h = rw (le-leb n greatest_time h)

-- 0..high
pub from_zero : (n : ℕ) → leb 0 n ≡ true
from_zero n = le-leb 0 n (omega arith)

-- a field that is a number is that integer
module _ (z : ℤ) where
  pub number_is : (n : ℕ) → is_number n (field z) ≡ true → z ≡ pos n
  number_is = go z
    where
      large : (i n : ℕ) (b : Bool) → is_number n (cond b (Number i) Other) ≡ true → pos i ≡ pos n
      large i n true h = ap pos (eqb-true i n h)
      large i n false h = absurd (true≢false (sym h))

      go : (z : ℤ) (n : ℕ) → is_number n (field z) ≡ true → z ≡ pos n
      go (pos i) n h = large i n (leb i greatest_time) h
      go (negsuc zero) n h = absurd (true≢false (sym h))
      go (negsuc (suc i)) n h = absurd (true≢false (sym h))

  -- a field that names a number above 0 is that integer
  pub number_of_holds : (number_of (field z) ≡ 0 → ⊥) → z ≡ pos (number_of (field z))
  number_of_holds some = go (field z) refl some
    where
      go : (f : Field) → field z ≡ f → (number_of f ≡ 0 → ⊥) → z ≡ pos (number_of f)
      go (Number n) e some = number_is n (rw e (eq-eqb n n refl))
      go MinusOne e some = absurd (some refl)
      go Other e some = absurd (some refl)

-- ---------------------------------------------------------------- a call that comes to its body
pub empty_current : current empty_module ≡ 0
unfolding lookup empty_module empty_table
empty_current = refl

-- the record of a call that comes to its body is no empty one
pub calling_sound : (m : Module) (k : ℕ) → Calling m k → SoundModule m
calling_sound m k h = go (reached_valid m h.reached)
  where
    go : ValidModule m → SoundModule m
    go (inl e) = absurd (omega (arith, h.some, sym h.now ∙ ap current e ∙ empty_current))
    go (inr s) = s

module _ (m : Module) (k : ℕ) (u : SoundModule m) (h : Calling m k) where
  pub calling_low : k ≤ m.table.size
  calling_low = let c = current_known m.table u.table m.t in omega (arith, h.now)

  pub calling_place : k - 1 < m.table.size
  calling_place = omega (arith, calling_low, h.some)

  pub calling_valid : Valid m.table.frame m.t (own m k)
  calling_valid = u.each_partition (k - 1) calling_place

  calling_caller : no_caller (own m k) ≡ false
  calling_caller = rw (ne_eqb (mode_number (own m k).mode) 0 h.active) (either (normal_mode (own m k))
      (λ e. rw (e, ne_eqb (running (own m k)) 0 (h.runs (eqb-true _ 3 e))))
      (λ e. rw e))

  pub calling_context : SoundContext (context_of m k) (own m k)
  calling_context = context_of_holds m u k calling_caller

  -- the numbers of the call as the rules look at them
  abbrev pub asked : ℕ → Field → Field → Field → Field → Request
  asked n a b c e = record { partition = Number k; call = Number n; a = a; b = b; c = c; e = e }

  module _ (n : ℕ) (a b c e : ℤ) (lo : 1 ≤ n) (hi : n ≤ call_limit) where
    request_is : request_of (call_by k n a b c e) ≡ asked n (field a) (field b) (field c) (field e)
    request_is = rw (field_number k (omega (arith, calling_low, u.table.size.1)), field_number n (omega arith))

    formed : stray_field (service_of n).fields (asked n (field a) (field b) (field c) (field e)) ≡ false → malformed m.table (asked n (field a) (field b) (field c) (field e)) ≡ false
    formed stray = rw (stray, ne_eqb m.table.size 0 (λ z. omega (arith, calling_low, h.some)), from_zero k, le-leb k m.table.size calling_low, from_zero n, le-leb n call_limit hi, ne_eqb k 0 (λ z. omega (arith, h.some)), ne_eqb n 0 (λ z. omega arith))

    -- what the call decides
    abbrev pub decides : Decision
    decides = call_decision (context_of m k) (port_of m k (asked n (field a) (field b) (field c) (field e))) n (asked n (field a) (field b) (field c) (field e)) (own m k)

    decided : stray_field (service_of n).fields (asked n (field a) (field b) (field c) (field e)) ≡ false → decision m (asked n (field a) (field b) (field c) (field e)) ≡ decides
    unfolding decision checked
    decided stray = rw (formed stray, ne_eqb k 0 (λ z. omega (arith, h.some)), eq-eqb (current m) k h.now, calling_caller)

    pub gives : stray_field (service_of n).fields (asked n (field a) (field b) (field c) (field e)) ≡ false → (d : Decision) → decides ≡ d
        → Gives m (call_by k n a b c e) (reply_of d).code (reply_of d).value (reply_of d).extra (module_after m k d)
    unfolding step
    gives stray d q =
        let is : step m (call_by k n a b c e) ≡ stepped m (asked n (field a) (field b) (field c) (field e)) d = ap (λ (r : Request). stepped m r (decision m r)) request_is ∙ ap (stepped m (asked n (field a) (field b) (field c) (field e))) (decided stray ∙ q) in
        record { code_is = ap (λ (s : Stepped). s.answer.code) is; value_is = ap (λ (s : Stepped). s.answer.value) is; extra_is = ap (λ (s : Stepped). s.answer.extra) is; state = ap (λ (s : Stepped). s.state) is }

  pub normal_not : (mode_number (own m k).mode ≡ 3 → ⊥) → normal_mode (own m k) ≡ false
  normal_not n = ne_eqb (mode_number (own m k).mode) 3 n

  pub normal_is : mode_number (own m k).mode ≡ 3 → normal_mode (own m k) ≡ true
  normal_is n = eq-eqb (mode_number (own m k).mode) 3 n

  pub known : (id count : ℕ) → Between 1 count id → unknown id count ≡ false
  known id count b = rw (ne_eqb id 0 (λ z. omega (arith, b.0)), le-ltb count id b.1)

  -- the caller's partition after a call that stored it
  pub own_after : {e : EventT} {code value : ℕ} {extra : Time} (p : Partition) → Gives m e code value extra (with_part (k - 1) p m) → own (step m e).state k ≡ p
  own_after p g = ap (λ (n : Module). own n k) g.state ∙ get_or-set_same m.partitions (k - 1) p no_partition (omega (arith, calling_place, u.partitions_size, u.table.size.1))

-- ---------------------------------------------------------------- what is given, brought to another form
pub puts_is : (m : Module) (k : ℕ) {e : EventT} {code value : ℕ} (p q : Partition) → Puts m e code value k p → p ≡ q → Puts m e code value k q
puts_is m k p q g e = record { code_is = g.code_is; value_is = g.value_is; extra_is = g.extra_is; state = g.state ∙ ap (λ (x : Partition). with_part (k - 1) x m) e }

-- ---------------------------------------------------------------- a process stored
module _ (p : Partition) (v : ListedIn p) (id : ℕ) (b : Between 1 p.process_count id) (x : Process) where
  inside : stored id x p ≡ with_processes (set p.processes (id - 1) x) p.process_count (follow (ready (process id p)) (ready x) id p.arrival) (follow (on_object (process id p)) (on_object x) id p.waiting) p
  inside = let w = within_in process_limit id b.0 (omega (arith, b.1, v.numbered.few)) in stored_in id x p w ∙ rw (← named_in process_limit id blank_process p.processes w)

  -- READY or not, waiting on an object or not, as before
  pub stored_steady : ready (process id p) ≡ ready x → on_object (process id p) ≡ on_object x → stored id x p ≡ with_process id x p.arrival p
  stored_steady r o = inside ∙ rw (r, o, follow_same (ready x) id p.arrival, follow_same (on_object x) id p.waiting)

  -- it ceases to be READY, and waits on no object
  pub stored_leaves : ready (process id p) ≡ true → ready x ≡ false → on_object (process id p) ≡ on_object x → stored id x p ≡ with_process id x (without id p.arrival) p
  unfolding removed
  stored_leaves r n o = inside ∙ rw (r, n, o, follow_same (on_object x) id p.waiting)
