-- Every answer of a reached record is in the line writer's range, and no event changes the table. Assumes nothing.
use Prim.Native.Nat.{ℕ, zero, suc, ◌+◌, ◌-◌, ◌≤◌}
use mathlib.Core.Path.{◌≡◌, refl, ap}
use mathlib.Core.Bool.{Bool, cond}
use mathlib.Core.Logic.{inl, inr}
use native.Mathlib.Omega.{arith}
use lib.Dec.{eqb, leb}
use borrow.Author.Tests.{eqb-false, leb-true, eqb-true}
use Rattle.machine.specs.declared.Partition.{Partition}
use Rattle.machine.specs.declared.Context.{Context}
use Rattle.machine.specs.declared.Port.{Port}
use Rattle.machine.specs.declared.Request.{Request}
use Rattle.machine.specs.declared.Reply.{Reply}
use Rattle.machine.specs.declared.Decision.{Decision}
use Rattle.machine.specs.declared.Decision.TheVariants.{Refused, Unchanged, Ticked, Blocked, Changed, Restarted, Written, Passed}
use Rattle.machine.specs.declared.Table.{Table}
use Rattle.machine.specs.declared.Module.{Module}
use Rattle.machine.specs.declared.Event.{Event as EventT}
use Rattle.machine.specs.Limits.{process_limit, channel_limit}
use Rattle.machine.specs.Messages.{ends_wait}
use Rattle.machine.specs.Fields.{request_of, number_of}
use Rattle.machine.specs.Partition.{running}
use Rattle.machine.specs.Decisions.{coded, checked, reply_of}
use Rattle.machine.specs.Module.{empty_table, empty_module, part, current, running_in, with_time}
use Rattle.machine.specs.Windows.{lookup}
use Rattle.machine.specs.Ticks.{tick_at, tick_to, partition_count}
use Rattle.machine.specs.Channels.{port_of}
use Rattle.machine.specs.Step.{context_of, sees, decision, module_after, answer_to, step}
use Rattle.machine.specs.Theorems.Valid.{Valid, SoundDecision, SoundModule, ValidModule, Reached, ReplyInRange, AnswerInRange}
use Rattle.machine.proofs.Tests.{by_test, and_right}
use Rattle.machine.proofs.Dispatch.{by_event, by_decision}
use Rattle.machine.proofs.Bodies.{Bodily}
use Rattle.machine.proofs.Either.{either}
use Rattle.machine.proofs.Kept.{running_caller}
use Rattle.machine.proofs.WindowLeft.{current_known}
use Rattle.machine.proofs.Reached.{refilled_table, made, made_sound, made_body, decided_sound, reached_valid}

-- ---------------------------------------------------------------- the table stays
tick_table : (n : ℕ) (m : Module) → (tick_to n m).table ≡ m.table
unfolding tick_to tick_at
tick_table zero m = refl
tick_table (suc n) m = tick_table n m

pub decided_table : (m : Module) (k : ℕ) (d : Decision) → (module_after m k d).table ≡ m.table
decided_table m k d = by_decision m k d (λ (q : Module). q.table ≡ m.table) refl
    (tick_table (partition_count m.table) (with_time (m.t + 1) m)) refl
    (refilled_table k channel_limit _) (λ i x e. refl)
    (λ i a v e. by_test (λ (q : Module). q.table ≡ m.table) (ends_wait a) (λ _. refl) (λ _. refl))

pub step_table : (m : Module) (e : EventT) → (step m e).state.table ≡ m.table
unfolding step
step_table m e = decided_table m (number_of (request_of e).partition) (decision m (request_of e))

-- ---------------------------------------------------------------- code, value, extra
coded_range : (n : ℕ) → n ≤ 13 → ReplyInRange (coded n)
coded_range n h = record { code = h; value = omega arith; extra = omega arith }

-- the numbers of a sound decision, of a body or of the places
reply_range : (c : Context) (x : Port) (n : ℕ) (p : Partition) (d : Decision) → SoundDecision c p d → Bodily x n d → ReplyInRange (reply_of d)
reply_range c x n p (Refused m) h b = coded_range m (let l = leb-true m 5 (and_right (leb 1 m) (leb m 5) b) in omega arith)
reply_range c x n p (Unchanged v e) h b = record { code = omega arith; value = h.0; extra = h.1 }
reply_range c x n p Ticked h b = absurd b
reply_range c x n p (Blocked id y) h b = coded_range 7 (omega arith)
reply_range c x n p (Changed a y v) h b = record { code = omega arith; value = h.2; extra = omega arith }
reply_range c x n p (Restarted mode) h b = coded_range 0 (omega arith)
reply_range c x n p (Written i y) h b = coded_range 0 (omega arith)
reply_range c x n p (Passed i a v) h b = record { code = omega arith; value = h; extra = omega arith }

decided_range : (m : Module) → SoundModule m → (r : Request) → ReplyInRange (reply_of (decision m r))
decided_range m s r =
    let k = number_of r.partition in
    by_event m r (λ (d : Decision). ReplyInRange (reply_of d))
    (λ n h. coded_range n (leb-true n 13 (and_right (leb 8 n) (leb n 13) h)))
    (λ _ _ _. coded_range 0 (omega arith))
    (λ q. reply_range (context_of m k) (port_of m k r) (number_of r.call) (part m (k - 1)) (made m s r q) (made_sound m s r q) (made_body m s r q))

-- ---------------------------------------------------------------- the whole answer
pub running_bound : (frame t : ℕ) (p : Partition) → Valid frame t p → running p ≤ process_limit
running_bound frame t p v = either (eqb (running p) 0)
    (λ e. omega (arith, eqb-true (running p) 0 e))
    (λ e. let b = (running_caller p v.lists v.lock (eqb-false (running p) 0 e)).created in omega (arith, b.1, v.lists.numbered.few))

shown_bound : (m : Module) → SoundModule m → (b : Bool) → cond b (running_in (current m) m) 0 ≤ process_limit
shown_bound m s b = by_test (λ (n : ℕ). n ≤ process_limit) b
    (λ _. by_test (λ (n : ℕ). n ≤ process_limit) (eqb (current m) 0)
    (λ _. omega arith)
    (λ e. let ne = eqb-false (current m) 0 e in running_bound m.table.frame m.t (part m (current m - 1)) (s.each_partition (current m - 1) (omega (arith, current_known m.table s.table m.t)))))
    (λ _. omega arith)

empty_range : (e : EventT) → AnswerInRange 0 (step empty_module e).answer
unfolding step decision checked empty_module empty_table lookup
empty_range e = record {
  code = omega arith;
  value = omega arith;
  extra = omega arith;
  t = omega arith;
  current = omega arith;
  running = by_test (λ (n : ℕ). n ≤ process_limit) (sees (request_of e) 0) (λ _. omega arith) (λ _. omega arith);
}

answered_range : (size : ℕ) (r : Request) (a : Reply) (q : Module) → SoundModule q → q.table.size ≡ size → ReplyInRange a → AnswerInRange size (answer_to r a q)
answered_range size r a q s e h = record {
  code = h.code;
  value = h.value;
  extra = h.extra;
  t = s.time;
  current = omega (arith, current_known q.table s.table q.t);
  running = shown_bound q s (sees r (current q));
}

pub answer_range : (m : Module) (e : EventT) → ValidModule m → AnswerInRange m.table.size (step m e).answer
unfolding step empty_module empty_table
answer_range m e (inl h) = rw h (empty_range e)
answer_range m e (inr s) =
    let r = request_of e in
    answered_range m.table.size r _ _ (decided_sound m s r) (ap (λ (T : Table). T.size) (decided_table m (number_of r.partition) (decision m r))) (decided_range m s r)

pub reached_range : (m : Module) (e : EventT) → Reached m → AnswerInRange m.table.size (step m e).answer
reached_range m e h = answer_range m e (reached_valid m h)
