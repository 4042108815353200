-- The first who waits for an object. Assumes nothing.
use Prim.Native.Nat.{ℕ}
use mathlib.Core.Path.{◌≡◌, refl, sym, ap, ◌∙◌}
use mathlib.Core.Bool.{Bool, false, true≢false}
use mathlib.Core.List.{List, [], ◌∷◌}
use lib.ListN.{get_or}
use borrow.Author.Tests.{ne_eqb}
use Rattle.machine.specs.declared.Partition.{Partition}
use Rattle.machine.specs.declared.Change.TheVariants.{Stored}
use Rattle.machine.specs.Limits.{process_limit}
use Rattle.machine.specs.Ids.{members, kept}
use Rattle.machine.specs.Process.{blank_process, served}
use Rattle.machine.specs.Partition.{process, semaphore, waits_on, waiters, first_waiter}
use Rattle.machine.specs.Objects.{with_value, one_more, signalled}
use Rattle.machine.proofs.Bounds.{named_out}
use Rattle.machine.proofs.Either.{either}

-- none of a list of which f says true, where the first would be 0, of which it says false
kept_first : (f : ℕ → Bool) (l : List ℕ) → get_or (kept f l) 0 0 ≡ 0 → f 0 ≡ false → kept f l ≡ []
unfolding kept
kept_first f [] h z = refl
kept_first f (x ∷ l) h z = either (f x)
    (λ e. let g : x ≡ 0 = rw e at h in absurd (true≢false (sym e ∙ ap f g ∙ z)))
    (λ e. rw e (kept_first f l (rw e at h) z))

-- process 0 waits for nothing
zero_waits : (o : ℕ) (p : Partition) → (o ≡ 0 → ⊥) → waits_on o p 0 ≡ false
zero_waits o p h = rw (named_out process_limit 0 blank_process p.processes refl) (ne_eqb 0 o (λ e. h (sym e)))

pub none_signalled : (o k : ℕ) (p : Partition) → first_waiter o p ≡ 0 → (o ≡ 0 → ⊥) → with_value k (one_more (semaphore k p).value) p ≡ signalled (waiters o p) k p
unfolding signalled waiters
none_signalled o k p e h = rw (kept_first (waits_on o p) (members p.waiting) e (zero_waits o p h))

first_of_list : (l : List ℕ) (n k : ℕ) (p : Partition) → n ≡ get_or l 0 0 → (n ≡ 0 → ⊥) → Stored n (served (process n p)) ≡ signalled l k p
unfolding signalled
first_of_list [] n k p e h = absurd (h e)
first_of_list (id ∷ l) n k p e h = rw e

pub first_signalled : (o k n : ℕ) (p : Partition) → n ≡ first_waiter o p → (n ≡ 0 → ⊥) → Stored n (served (process n p)) ≡ signalled (waiters o p) k p
first_signalled o k n p e h = first_of_list (waiters o p) n k p e h
