-- The states of a process, as claims about `step`: which changes of state there are, and by what alone; what a tick leaves; and that SUSPEND and RESUME leave
-- the wait. The premises speak of an event's numbers, the answer's code, the table and the record.
use Rattle.machine.specs.Mode.{mode_number}
use Rattle.std.specs.Prelude.{ℕ, ◌+◌, ◌≡◌, true, false, ◌⊎◌, pos}
use Rattle.machine.specs.declared.Process.{Process}
use Rattle.machine.specs.declared.Partition.{Partition}
use Rattle.machine.specs.declared.Event.{Event as EventT}
use Rattle.machine.specs.declared.Module.{Module}
use Rattle.machine.specs.declared.Wait.{Wait}
use Rattle.machine.specs.declared.Wait.TheVariants.{None as NoWait, Delay, Period}
use Rattle.std.specs.Prelude.{None}
use Rattle.machine.specs.Process.{ready}
use Rattle.machine.specs.Partition.{process, waiters}
use Rattle.machine.specs.Step.{step}
use Rattle.machine.specs.Theorems.Valid.{Between, Reached, contains}
use Rattle.machine.specs.Theorems.Plain.{come}
use Rattle.machine.specs.Theorems.Events.{own, call_by}
use Rattle.machine.specs.Theorems.EachCall.{id_of}
use Rattle.machine.specs.Theorems.EachProcess.{wait_of, CallOf, CallBy, Tick, StartOf, StopOf, Erasure, Entry, Service}

-- ---------------------------------------------------------------- which changes there are
-- the wait that a call by process id begins, which answers 7
pub record OwnWait (m : Module) (e : EventT) (code k id : ℕ) (w : Wait) : Type 0 where
  pub number : ℕ
  pub message : ℕ
  pub call : CallBy m e code k id number 7
  pub is : w ≡ wait_of number (id_of e.a) message

-- an event that answers code, and process id of partition k, whose record is x before it and y after it: what alone changes its state
pub record StateChanges (m : Module) (e : EventT) (code k id : ℕ) (x y : Process) : Type 0 where
  -- to DORMANT: a stop of it, or an erasure
  pub stops : x.started ≡ true → y.started ≡ false → StopOf m e code k id ⊎ Erasure m e code k id
  -- from DORMANT: a start of it
  pub starts : x.started ≡ false → y.started ≡ true → StartOf m e code k id
  -- into a wait: its start, or its own call
  pub waits : x.wait ≡ NoWait → (y.wait ≡ NoWait → ⊥) → StartOf m e code k id ⊎ OwnWait m e code k id y.wait
  -- out of a wait: a tick at which w has come, a stop of it, an erasure, a service, or entry into NORMAL
  pub ends : (x.wait ≡ NoWait → ⊥) → y.wait ≡ NoWait
      → (Tick m e code k id × (come (m.t + 1) x.times.wake ≡ true)) ⊎ (StopOf m e code k id ⊎ (Erasure m e code k id ⊎ (Service m e code k id ⊎ Entry m e code k id)))
  -- from one wait to another: entry into NORMAL alone, to a delay or to the release
  pub turns : (x.wait ≡ NoWait → ⊥) → (y.wait ≡ NoWait → ⊥) → (y.wait ≡ x.wait → ⊥) → Entry m e code k id × ((y.wait ≡ Delay) ⊎ (y.wait ≡ Period))
  -- the suspended mark is set: SUSPEND of it, or its SUSPEND_SELF
  pub marks : x.suspended ≡ false → y.suspended ≡ true → CallOf m e code k id 7 ⊎ CallBy m e code k id 8 7
  -- and cleared: RESUME of it, a tick at which w has come where it has no wait, a stop of it, or an erasure
  pub unmarks : x.suspended ≡ true → y.suspended ≡ false
      → CallOf m e code k id 11 ⊎ ((Tick m e code k id × (come (m.t + 1) x.times.wake ≡ true) × (x.wait ≡ NoWait)) ⊎ (StopOf m e code k id ⊎ Erasure m e code k id))
  -- the missed mark is set: a tick at which d has come
  pub misses : x.missed ≡ false → y.missed ≡ true → Tick m e code k id × (come (m.t + 1) x.times.deadline ≡ true)

-- a tick: a partition that is not NORMAL is left whole, and so is the record of a process of which neither w nor d has come
pub record TickLeaves (m : Module) (e : EventT) (k : ℕ) : Type 0 where
  pub partition : (mode_number (own m k).mode ≡ 3 → ⊥) → own (step m e).state k ≡ own m k
  pub process : (id : ℕ) → let x = process id (own m k) in
      come (m.t + 1) x.times.wake ≡ false → come (m.t + 1) x.times.deadline ≡ false → process id (own (step m e).state k) ≡ x

-- ---------------------------------------------------------------- SUSPEND and RESUME
-- process x of partition p is y, and the partition is q: the wait, w where there is a wait, r and d stay, and so does every queue, with its place in it
pub record WaitStays (p q : Partition) (x y : Process) : Type 0 where
  pub wait : y.wait ≡ x.wait
  pub wake : (x.wait ≡ NoWait → ⊥) → y.times.wake ≡ x.times.wake
  pub release : y.times.release ≡ x.times.release
  pub deadline : y.times.deadline ≡ x.times.deadline
  pub queues : (o : ℕ) → (o ≡ 0 → ⊥) → waiters o q ≡ waiters o p

-- 7 SUSPEND and 11 RESUME of process id, answered 0
pub record Suspensions (m : Module) (k id : ℕ) : Type 0 where
  pub suspend : let e = call_by k 7 (pos id) (pos 0) (pos 0) (pos 0) in
      let q = own (step m e).state k in
      let y = process id q in
      (step m e).answer.code ≡ 0 → WaitStays (own m k) q (process id (own m k)) y × (y.suspended ≡ true) × (ready y ≡ false)
  -- RESUME makes READY exactly who waits for nothing
  pub resume : let e = call_by k 11 (pos id) (pos 0) (pos 0) (pos 0) in
      let q = own (step m e).state k in
      let x = process id (own m k) in
      let y = process id q in
      (step m e).answer.code ≡ 0 → WaitStays (own m k) q x y × (y.suspended ≡ false)
      × (x.wait ≡ NoWait → (ready y ≡ true) × (y.times.wake ≡ None)) × ((x.wait ≡ NoWait → ⊥) → ready y ≡ false)

-- ---------------------------------------------------------------- the whole
pub record ProcessStates : Type 0 where
  pub changes : (m : Module) → Reached m → (e : EventT) (k id : ℕ) → Between 1 m.table.size k
      → StateChanges m e (step m e).answer.code k id (process id (own m k)) (process id (own (step m e).state k))
  -- who leaves a queue: at a tick at which w has come, by a stop of it, by an erasure, or served; nobody else does (who is served, the first or all:
  -- `FirstServed` and `AllServed` of Queues)
  pub leaves : (m : Module) → Reached m → (e : EventT) (k id o : ℕ) → let code = (step m e).answer.code in
      Between 1 m.table.size k → (o ≡ 0 → ⊥) → contains id (waiters o (own m k)) ≡ true → contains id (waiters o (own (step m e).state k)) ≡ false
      → (Tick m e code k id × (come (m.t + 1) (process id (own m k)).times.wake ≡ true)) ⊎ (StopOf m e code k id ⊎ (Erasure m e code k id ⊎ Service m e code k id))
  pub ticks : (m : Module) → Reached m → (e : EventT) → e.partition ≡ pos 0 → (step m e).answer.code ≡ 0 → (k : ℕ) → Between 1 m.table.size k → TickLeaves m e k
  pub suspensions : (m : Module) → Reached m → (k id : ℕ) → Suspensions m k id
