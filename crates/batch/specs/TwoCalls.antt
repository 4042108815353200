-- Demand 3 over the contract of `run`: two calls from one executive, on lists that are equal without their free events.
use Rattle.std.specs.Prelude.{ℕ, ◌≡◌, Bool, List, map}
use Rattle.machine.specs.Runs.{keep}
use Rattle.machine.specs.Theorems.LeftRight.{common, shown, Within, Closed, EqualIn}
use Rattle.machine.specs.declared.EventRecord.{EventRecord}
use Rattle.executive.specs.declared.Executive.{Executive}
use Rattle.batch.specs.Batch.{events_of, after_list, answered_list}

-- a call from m: the list lent, the list after the call, the executive given back, and what the contract of `run` says of them
pub record Call (m : Executive) : Type 0 where
  pub lent : List EventRecord
  pub after : List EventRecord
  pub executive : Executive
  pub ran : executive ≡ after_list m lent
  pub answered : after ≡ answered_list m lent

-- the records of the common events, in order, with the running process left out where document 01 leaves it out
abbrev pub common_records : (ℕ → Bool) → List EventRecord → List EventRecord
common_records S l = map (shown S) (keep (λ (x : EventRecord). common S x.event) l)

-- without their free events both lists are equal; then the common events got the same answers in order, and what is equal at the end
-- is equal in the executives given back
abbrev pub TwoCalls : Executive → Type 0
TwoCalls m =
    (S : ℕ → Bool) → Within m.inner.table S → Closed m.inner.table S
    → (left right : Call m) → keep (common S) (events_of left.lent) ≡ keep (common S) (events_of right.lent)
    → (common_records S left.after ≡ common_records S right.after) × EqualIn m.inner.table S left.executive.inner right.executive.inner
