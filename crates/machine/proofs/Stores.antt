-- What each call stores: a process keeps what it was given, an object its name, and one that is created has a name that no other of its kind has; the
-- mode is set by call 1 alone, an event by 18 and 19 alone, a blackboard by 27 and 29 alone, and each the one that it names. Assumes nothing.
use Prim.Native.Nat.{ℕ, zero, suc, ◌+◌, ◌-◌, ◌≤◌, ◌<◌}
use mathlib.Core.Path.{◌≡◌, refl, ap, sym, ◌∙◌}
use mathlib.Core.Bool.{true, false}
use mathlib.Core.List.{List, [], ◌∷◌}
use mathlib.Core.Logic.{◌⊎◌, inl}
use native.Mathlib.Omega.{arith}
use lib.ListN.{length, get_or, take, length-take}
use lib.Dec.{eqb}
use lib.Seq.{get_or-take}
use borrow.Author.Tests.{eq-eqb}
use Rattle.machine.specs.declared.Process.{Process}
use Rattle.machine.specs.declared.Partition.{Partition}
use Rattle.machine.specs.declared.Context.{Context}
use Rattle.machine.specs.declared.Request.{Request}
use Rattle.machine.specs.declared.Field.{Field}
use Rattle.machine.specs.declared.Field.TheVariants.{Number, MinusOne, Other}
use Rattle.machine.specs.declared.Change.{Change}
use Rattle.machine.specs.declared.Change.TheVariants.{Nothing, Stored, Created, Last, StoredSemaphore, StoredEvent, CreatedBuffer, Moved, StoredBlackboard, Ended, Handed, LevelSet, Entered}
use Rattle.machine.specs.declared.Decision.{Decision}
use Rattle.machine.specs.declared.Decision.TheVariants.{Refused, Unchanged, Ticked, Blocked, Changed, Restarted, Written, Passed as PassedOn}
use Rattle.machine.specs.Fields.{is_number, is_name, between, number_of}
use Rattle.machine.specs.Process.{waits_for_nothing, waits_for_normal, periodic, start_rule, entered, due, only_marked, woken, expired, ticked, resumed}
use Rattle.machine.specs.Partition.{by_id, process, semaphore, event, buffer, blackboard, applied}
use Rattle.machine.specs.Decisions.{name_taken}
use Rattle.machine.specs.Objects.{signalled}
use Rattle.machine.specs.Theorems.Valid.{Between, Numbered}
use Rattle.machine.proofs.Tests.{by_test, not_both, or_left, or_right}
use Rattle.machine.proofs.Bounds.{within_in, named_in}

-- ---------------------------------------------------------------- what a process was given
pub start_given : (c : Context) (delay : ℕ) (x : Process) → (start_rule c delay x).given ≡ x.given
unfolding start_rule
start_given c delay x = by_test (λ (y : Process). y.given ≡ x.given) (periodic x) (λ _. refl) (λ _. by_test (λ (y : Process). y.given ≡ x.given) (eqb delay 0) (λ _. refl) (λ _. refl))

pub entered_given : (c : Context) (x : Process) → (entered c x).given ≡ x.given
unfolding entered
entered_given c x = by_test (λ (y : Process). y.given ≡ x.given) (waits_for_normal x.wait) (λ _. start_given c x.times.delay x) (λ _. refl)

pub resumed_given : (x : Process) → (resumed x).given ≡ x.given
resumed_given x = by_test (λ (y : Process). y.given ≡ x.given) (waits_for_nothing x.wait) (λ _. refl) (λ _. refl)

woken_given : (t : ℕ) (x : Process) → (woken t x).given ≡ x.given
unfolding woken
woken_given t x = by_test (λ (y : Process). y.given ≡ x.given) (due t x.times.wake) (λ _. by_test (λ (y : Process). y.given ≡ x.given) (only_marked x) (λ _. refl) (λ _. refl)) (λ _. refl)

pub ticked_given : (t : ℕ) (x : Process) → (ticked t x).given ≡ x.given
unfolding expired
ticked_given t x = by_test (λ (y : Process). y.given ≡ x.given) (due t (woken t x).times.deadline) (λ _. woken_given t x) (λ _. woken_given t x)

-- ---------------------------------------------------------------- names
-- none of these has this name
abbrev pub Free : (ℕ → ℕ) → ℕ → ℕ → Type 0
Free name_of count name = (y : ℕ) → Between 1 count y → name_of y ≡ name → ⊥

-- number k has this name from now on: it had it, or it is the next one, and none of the others has it
abbrev pub TakesName : (ℕ → ℕ) → ℕ → ℕ → ℕ → Type 0
TakesName name_of count k name = (Between 1 count k × (name ≡ name_of k)) ⊎ ((k ≡ count + 1) × Free name_of count name)

module _ {A : Type 0} (name_of : A → ℕ) (d : A) (limit : ℕ) where
  not_taken : (f : Field) (l : List A) → name_taken name_of f l ≡ false → (i : ℕ) → i < length l → is_number (name_of (get_or l i d)) f ≡ false
  unfolding name_taken
  not_taken f [] h i b = absurd (omega arith)
  not_taken f (x ∷ l) h zero b = or_left (is_number (name_of x) f) _ h
  not_taken f (x ∷ l) h (suc i) b = not_taken f l (or_right (is_number (name_of x) f) _ h) i (omega arith)

  is_named : (f : Field) → is_name f ≡ true → (n : ℕ) → n ≡ number_of f → is_number n f ≡ true
  is_named (Number i) h n e = eq-eqb i n (sym e)
  is_named MinusOne h n e = not_both _ h refl
  is_named Other h n e = not_both _ h refl

  pub free_name : (n : ℕ) (l : List A) → Numbered limit d l n → (f : Field) → name_taken name_of f (take n l) ≡ false → is_name f ≡ true → Free (λ y. name_of (by_id limit d y l)) n (number_of f)
  free_name n l s f none ok y b e =
      let lt : y - 1 < length (take n l) = omega (arith, length-take n l, s.size, s.few, b.0, b.1) in
      let is : by_id limit d y l ≡ get_or (take n l) (y - 1) d = named_in limit y d l (within_in limit y b.0 (omega (arith, b.1, s.few))) ∙ sym (get_or-take n l (y - 1) d (omega (arith, b.0, b.1))) in
      not_both _ (is_named f ok (name_of (get_or (take n l) (y - 1) d)) (ap name_of (sym is) ∙ e)) (not_taken f (take n l) none (y - 1) lt)

-- ---------------------------------------------------------------- changes
module _ (n : ℕ) (r : Request) where
  -- an object that exists is reached by call a or b alone, and it is the one that the call names
  abbrev pub ByCalls : ℕ → ℕ → ℕ → ℕ → Type 0
  ByCalls a b count k = k ≤ count → ((n ≡ a) ⊎ (n ≡ b)) × (k ≡ number_of r.a)

  abbrev pub Marked : Partition → Change → Type 0
  Marked p Nothing = Unit {0}
  Marked p (Stored id x) = x.given ≡ (process id p).given
  Marked p (Created id x) = (id ≡ p.process_count + 1) × Free (λ y. (process y p).given.name) p.process_count x.given.name
  Marked p (Last id) = Unit {0}
  Marked p (StoredSemaphore k s) = TakesName (λ y. (semaphore y p).name) p.semaphore_count k s.name
  Marked p (StoredEvent k s) = TakesName (λ y. (event y p).name) p.event_count k s.name × ByCalls 18 19 p.event_count k
  Marked p (CreatedBuffer k name limit) = (k ≡ p.buffer_count + 1) × Free (λ y. (buffer y p).name) p.buffer_count name
  Marked p (Moved k a) = Between 1 p.buffer_count k
  Marked p (StoredBlackboard k s) = TakesName (λ y. (blackboard y p).name) p.blackboard_count k s.name × ByCalls 27 29 p.blackboard_count k
  Marked p (Ended o) = Unit {0}
  Marked p (Handed o m) = Unit {0}
  Marked p (LevelSet level holder) = Unit {0}
  Marked p (Entered c) = n ≡ 1

  abbrev pub Marks : Partition → Decision → Type 0
  Marks p (Refused code) = Unit {0}
  Marks p (Unchanged value extra) = Unit {0}
  Marks p Ticked = Unit {0}
  Marks p (Blocked id x) = x.given ≡ (process id p).given
  Marks p (Changed a b value) = Marked p a × Marked (applied a p) b
  Marks p (Restarted mode) = (n ≡ 1) × (between 0 2 r.a ≡ true)
  Marks p (Written i x) = Unit {0}
  Marks p (PassedOn i a value) = Unit {0}

  pub record Stores (p : Partition) (d : Decision) : Type 0 where
    pub is : Marks p d

  pub signalled_marks : (p : Partition) (l : List ℕ) (k : ℕ) → Between 1 p.semaphore_count k → Marked p (signalled l k p)
  unfolding signalled
  signalled_marks p [] k b = inl (b, refl)
  signalled_marks p (id ∷ l) k b = refl
