-- A law of every event from that law of each place and each call, and a law of the module from that law of each decision. Assumes nothing.
use Rattle.std.specs.Prelude.{Some}
use Prim.Native.Nat.{ℕ, ◌-◌, ◌<◌}
use mathlib.Core.Path.{◌≡◌, refl}
use mathlib.Core.Bool.{Bool, true, false, ◌&&◌}
use lib.Dec.{leb}
use borrow.Author.Tests.{eqb-true, eqb-false, leb-false, lt-leb, not-false}
use Rattle.machine.specs.declared.Message.{Message}
use Rattle.machine.specs.declared.Request.{Request}
use Rattle.machine.specs.declared.Decision.{Decision}
use Rattle.machine.specs.declared.Decision.TheVariants.{Refused, Unchanged, Ticked, Blocked, Changed, Restarted, Written, Passed as PassedOn}
use Rattle.machine.specs.declared.Transfer.{Transfer}
use Rattle.machine.specs.declared.Module.{Module}
use Rattle.machine.specs.Fields.{number_of}
use Rattle.machine.specs.Limits.{time_limit}
use Rattle.machine.specs.Partition.{partition_after}
use Rattle.machine.specs.Module.{part, current, with_part, with_message}
use Rattle.machine.specs.Ticks.{tick_module}
use Rattle.machine.specs.Channels.{port_of, passed}
use Rattle.machine.specs.Decisions.{checked}
use Rattle.machine.specs.Services.{call_decision}
use Rattle.machine.specs.Places.{malformed, no_caller, ticks}
use Rattle.machine.specs.Step.{context_of, decision, restarted, module_after}
use Rattle.machine.proofs.Tests.{by_test, by_codes, Passed}

-- ---------------------------------------------------------------- events
-- a number that an event gets before the body of its call
abbrev pub place_code : ℕ → Bool
place_code n = leb 8 n && leb n 13

-- what the places tell of a call: it is well formed, its partition is current, and it has a caller
pub record Calls (m : Module) (r : Request) : Type 0 where
  pub formed : malformed m.table r ≡ false
  pub some : number_of r.partition ≡ 0 → ⊥
  pub now : current m ≡ number_of r.partition
  pub caller : no_caller (part m (number_of r.partition - 1)) ≡ false

pub by_event : (m : Module) (r : Request) (P : Decision → Type 0)
    → ((n : ℕ) → place_code n ≡ true → P (Refused n))
    → (malformed m.table r ≡ false → ticks r ≡ true → m.t < time_limit → P Ticked)
    → (let k = number_of r.partition in Calls m r → P (call_decision (context_of m k) (port_of m k r) (number_of r.call) r (part m (k - 1))))
    → P (decision m r)
unfolding decision Passed
by_event m r P refused ticked called =
    by_codes P place_code Refused _ _ refl refused λ h.
    by_test P (ticks r)
    (λ e. ticked h.0 e (leb-false time_limit m.t (rw e at h.1.0)))
    λ e. by_codes P place_code Refused _ _ refl refused λ g.
    called (record { formed = h.0; some = eqb-false _ 0 e; now = eqb-true (current m) _ (not-false _ (rw e at h.1.1.0)); caller = g.0 })

-- a tick below 99,999,999 is taken
pub ticks_decided : (m : Module) (r : Request) → malformed m.table r ≡ false → ticks r ≡ true → m.t < time_limit → decision m r ≡ Ticked
unfolding decision checked
ticks_decided m r f z l = rw (f, z, lt-leb time_limit m.t l)

-- ---------------------------------------------------------------- decisions
-- a decision leaves the module, ticks it, stores the caller's partition, restarts it, stores a message, or makes a transfer
pub by_decision : (m : Module) (k : ℕ) (d : Decision) (P : Module → Type 0)
    → P m
    → P (tick_module m)
    → P (with_part (k - 1) (partition_after d (part m (k - 1))) m)
    → P (restarted k (partition_after d (part m (k - 1))) m)
    → ((i : ℕ) (x : Message) → d ≡ Written i x → P (with_message i (Some x) m))
    → ((i : ℕ) (a : Transfer) (v : ℕ) → d ≡ PassedOn i a v → P (passed k i a m))
    → P (module_after m k d)
by_decision m k (Refused n) P same tick one all put pass = same
by_decision m k (Unchanged v e) P same tick one all put pass = same
by_decision m k Ticked P same tick one all put pass = tick
by_decision m k (Blocked id x) P same tick one all put pass = one
by_decision m k (Changed a b v) P same tick one all put pass = one
by_decision m k (Restarted mode) P same tick one all put pass = all
by_decision m k (Written i x) P same tick one all put pass = put i x refl
by_decision m k (PassedOn i a v) P same tick one all put pass = pass i a v refl
