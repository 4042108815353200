-- The current partition lies in a local of the loop: what the loop makes of it and of the module is what the machine makes of the module
-- with that partition in its place. Assumes nothing.
use Rattle.std.specs.Prelude.{Option}
use mathlib.Core.Logic.{◌⊎◌, inl, inr}
use Rattle.machine.specs.Time.{Time}
use Rattle.machine.specs.declared.Mode.{Mode}
use Rattle.machine.specs.Mode.{mode_number}
use Prim.Native.Nat.{ℕ, zero, suc, ◌+◌, ◌-◌, ◌≤◌, ◌<◌}
use mathlib.Core.Bool.{Bool, true, false, cond, true≢false}
use mathlib.Core.List.{List, [], ◌∷◌}
use mathlib.Core.Path.{◌≡◌, refl, sym, ap, ◌∙◌, subst}
use native.Mathlib.Omega.{arith}
use lib.Dec.{eqb, ltb}
use lib.ListN.{length, get_or, set, replicate, length-set}
use lib.Seq.{set-set}
use borrow.Author.Tests.{eq-eqb, ne_eqb, ltb-true, ltb-false}
use Rattle.machine.specs.Channels.{other_end, kept_to, refilled_to}
use Rattle.machine.specs.Decisions.{reply_of}
use Rattle.machine.specs.Limits.{partition_limit, process_limit, channel_limit, buffer_limit}
use Rattle.machine.specs.Messages.{moved, ends_wait}
use Rattle.machine.specs.Module.{no_partition, channel, part, with_message, with_time}
use Rattle.machine.specs.Partition.{empty_partition, within, by_id, first_waiter, stored_buffer, running, tick_partition, nothing_created, ended_by, applied, partition_after}
use Rattle.machine.specs.Questions.{changes, restarts, mode_of, first_change, second_change, message_at, message_of, transfer_at, transfer_of}
use Rattle.machine.specs.Step.{restarted}
use Rattle.machine.specs.Ticks.{tick_to}
use Rattle.machine.specs.declared.Buffer.{Buffer}
use Rattle.machine.specs.declared.Decision.{Decision}
use Rattle.machine.specs.declared.Decision.TheVariants.{Refused, Unchanged, Ticked, Blocked, Changed, Restarted, Written, Passed}
use Rattle.machine.specs.declared.Event.{Event}
use Rattle.machine.specs.declared.Message.{Message}
use Rattle.machine.specs.declared.Module.{Module}
use Rattle.machine.specs.declared.Partition.{Partition}
use Rattle.machine.specs.declared.Queue.{Queue}
use Rattle.machine.specs.declared.Reply.{Reply}
use Rattle.machine.specs.declared.Table.{Table}
use Rattle.machine.specs.declared.Transfer.{Transfer}
use Rattle.machine.proofs.Either.{either}
use Rattle.machine.proofs.Tests.{by_test}
use Rattle.partition.specs.Places.{slot_of}
use Rattle.partition.specs.Soonest.{soonest_of}
use Rattle.partition.proofs.Laws.{named_at, named_past}
use Rattle.ticks.proofs.Laws.{tick_due, tick_later}
use Rattle.resident.specs.Mirrors.{first_on, running_by, Mirrors}
use Rattle.resident.specs.Settled.{settled}
use Rattle.resident.proofs.Laws.{mirrors_first, mirrors_running}
use Rattle.resident.proofs.Settled.{settled_here, settled_there, settled_twice, settled_both, settled_past, settled_same}
use Rattle.services.specs.Looked.{object_for, waiter_for}
use Rattle.executive.specs.Lists.{Early}
use Rattle.events.specs.declared.Plan.{Plan}
use Rattle.executive.proofs.Lists.{begins_early, early_same, early_set, early_tick}
use Rattle.executive.proofs.Laws.{Held, After, Planned, Decides, past_queue, slot_spot, slot_own, tick_table, not_called, call_same, call_written, call_passed, call_moved, call_changed, call_restarted}

-- ---------------------------------------------------------------- what stands beside the partition
-- the numbers of its processes, and its running process
pub record Beside (p : Partition) (currents objects : List ℕ) (run : ℕ) : Type 0 where
  pub mirrors : Mirrors p currents objects
  pub runs : run ≡ running p

pub beside_looked : {p : Partition} {cs os : List ℕ} → Mirrors p cs os → {n : ℕ} → n ≡ running_by (mode_number p.mode) p.level p.holder p.arrival cs → Beside p cs os n
beside_looked m e = record { mirrors = m; runs = e ∙ mirrors_running m }

-- where they may be those of a record that was replaced, stale
abbrev pub Kept : Bool → Partition → List ℕ → List ℕ → ℕ → Type 0
Kept stale p currents objects run = stale ≡ false → Beside p currents objects run

-- ---------------------------------------------------------------- the tick
-- j partitions of the module M are ticked: the next one is the one that lies here, or another, or one that the tick leaves as it is
module _ (m : Module) (spot : ℕ) (p : Partition) (M : Module) (j : ℕ) (so_far : settled spot p m ≡ tick_to j M) where
  pub tick_here : j < length m.partitions → j ≡ spot → (x : Partition) → x ≡ tick_partition m.t p → settled spot x m ≡ tick_to (j + 1) M
  tick_here h e x is = tick_due j m.t M (settled spot p m) (settled spot x m) so_far refl x
      (is ∙ ap (tick_partition m.t) (sym (ap (part (settled spot p m)) e ∙ settled_here spot p m (rw e at h))))
      (rw e (sym (settled_twice spot p m x)))

  pub tick_there : (j ≡ spot → ⊥) → (x : Partition) → x ≡ tick_partition m.t (part m j)
      → (y : Module) → y ≡ record { table = m.table; t = m.t; messages = m.messages; queues = m.queues; partitions = set m.partitions j x } → settled spot p y ≡ tick_to (j + 1) M
  tick_there n x is y g = tick_due j m.t M (settled spot p m) (settled spot p y) so_far refl x
      (is ∙ ap (tick_partition m.t) (sym (settled_there spot p m j n)))
      (ap (settled spot p) g ∙ settled_both j x m spot p n)

  pub tick_none : tick_partition m.t (part (settled spot p m) j) ≡ part (settled spot p m) j → settled spot p m ≡ tick_to (j + 1) M
  tick_none e = tick_later j m.t M (settled spot p m) (settled spot p m) so_far refl e refl

-- ---------------------------------------------------------------- another partition becomes current
-- the one that lies here is stored back, where it has a place; y is the module then
pub not_stored : (m : Module) (spot : ℕ) (p : Partition) {y : Module} → length m.partitions ≡ partition_limit → partition_limit ≤ spot → y ≡ m → y ≡ settled spot p m
not_stored m spot p long h e = e ∙ sym (settled_past spot p m (omega arith))

-- ---------------------------------------------------------------- decisions
pub restart_left : (d : Decision) (p : Partition) → restarts d ≡ true → nothing_created (mode_number (mode_of d)) ≡ partition_after d p
restart_left (Refused n) p r = absurd (true≢false (sym r))
restart_left (Unchanged v e) p r = absurd (true≢false (sym r))
restart_left Ticked p r = absurd (true≢false (sym r))
restart_left (Blocked id x) p r = absurd (true≢false (sym r))
restart_left (Changed a b v) p r = absurd (true≢false (sym r))
restart_left (Restarted mode) p r = refl
restart_left (Written i x) p r = absurd (true≢false (sym r))
restart_left (Passed i a v) p r = absurd (true≢false (sym r))

pub changes_left : (d : Decision) (p : Partition) → changes d ≡ true → restarts d ≡ false → applied (second_change d) (applied (first_change d) p) ≡ partition_after d p
changes_left (Refused n) p c r = absurd (true≢false (sym c))
changes_left (Unchanged v e) p c r = absurd (true≢false (sym c))
changes_left Ticked p c r = absurd (true≢false (sym c))
changes_left (Blocked id x) p c r = refl
changes_left (Changed a b v) p c r = refl
changes_left (Restarted mode) p c r = absurd (true≢false r)
changes_left (Written i x) p c r = absurd (true≢false (sym c))
changes_left (Passed i a v) p c r = absurd (true≢false (sym c))

-- a restart is a change
pub restart_changes : (d : Decision) → restarts d ≡ true → changes d ≡ true
restart_changes (Refused n) r = r
restart_changes (Unchanged v e) r = r
restart_changes Ticked r = r
restart_changes (Blocked id x) r = refl
restart_changes (Changed a b v) r = refl
restart_changes (Restarted mode) r = refl
restart_changes (Written i x) r = r
restart_changes (Passed i a v) r = r

-- ---------------------------------------------------------------- what is done of an event
-- p lies here, the partition at the place spot of the module, which is the current one; M is the module before the event
module _ {M : Module} {e : Event} {T : Table} {x : Plan} (f : Planned M e T x) (spot : ℕ) (p : Partition) (m : Module)
    (ticked : settled spot p m ≡ tick_to x.ticks (with_time x.time M)) (long : length m.partitions ≡ partition_limit) (here : x.spot ≡ spot) where
  pub at_spot : x.slot < partition_limit → x.slot ≡ spot
  at_spot h = slot_spot f h ∙ here

  -- no event changes the table
  pub table_here : m.table ≡ T
  table_here = ap (λ (v : Module). v.table) ticked ∙ tick_table x.ticks (with_time x.time M) ∙ f.same

  part_here : (h : x.slot < partition_limit) → part (settled spot p m) x.slot ≡ p
  part_here h = ap (part (settled spot p m)) (at_spot h) ∙ settled_here spot p m (let e = at_spot h in omega arith)

  module _ (d : Decision) (decides : Decides f d) where
    -- only a call does something
    called_by : (P : Decision → Type 0) → P d → (P (Refused x.code) → ⊥) → x.slot < partition_limit
    called_by P h none = either (ltb x.slot partition_limit)
        (λ z. ltb-true x.slot partition_limit z)
        (λ z. absurd (none (subst P (decides.none (ltb-false x.slot partition_limit z)) h)))

    pub changes_in : changes d ≡ true → x.slot < partition_limit
    changes_in c = called_by (λ (z : Decision). changes z ≡ true) c (λ n. true≢false (sym n))

    pub restarts_in : restarts d ≡ true → x.slot < partition_limit
    restarts_in r = changes_in (restart_changes d r)

    writes_in : message_at d < channel_limit → x.slot < partition_limit
    writes_in h = called_by (λ (z : Decision). message_at z < channel_limit) h (λ n. omega arith)

    passes_in : transfer_at d < channel_limit → x.slot < partition_limit
    passes_in h = called_by (λ (z : Decision). transfer_at z < channel_limit) h (λ n. omega arith)

    module _ {b : Reply} (says : b ≡ reply_of d) where
      pub did_same : changes d ≡ false → channel_limit ≤ message_at d → channel_limit ≤ transfer_at d → After M x.request x.current x.time (settled spot p m) b
      did_same c h h' = either (ltb x.slot partition_limit)
          (λ z. let i = ltb-true x.slot partition_limit z in call_same f ticked i (decides.call i) says c h h' refl)
          (λ z. let o = ltb-false x.slot partition_limit z in not_called f ticked o refl (says ∙ ap reply_of (decides.none o)))

      pub did_written : message_at d < channel_limit → {a : Option Message} → a ≡ message_of d → (y : Module) → y ≡ with_message (message_at d) a m → After M x.request x.current x.time (settled spot p y) b
      did_written h {a} is y g = let i = writes_in h in call_written f ticked i (decides.call i) says h is (ap (settled spot p) g)

      pub did_changed : changes d ≡ true → restarts d ≡ false → (z : Partition) → z ≡ applied (second_change d) (applied (first_change d) p) → After M x.request x.current x.time (settled spot z m) b
      did_changed c r z g =
          let i = changes_in c in
          call_changed f ticked i (decides.call i) says (g ∙ changes_left d p c r ∙ ap (partition_after d) (sym (part_here i))) c r (sym (ap (λ (s : ℕ). settled s z (settled spot p m)) (at_spot i) ∙ settled_twice spot p m z))

      pub did_restarted : restarts d ≡ true → {mode : Mode} → mode ≡ mode_of d → (y : Module) → y ≡ restarted x.own (nothing_created (mode_number mode)) m
          → (o : Partition) → o ≡ get_or y.partitions x.slot no_partition → After M x.request x.current x.time (settled spot o y) b
      did_restarted r {mode} is y g o read =
          let i = restarts_in r in
          let own-slot : x.own - 1 ≡ x.slot = slot_own f i in
          let z = nothing_created (mode_number mode) in
          let l = kept_to T x.own channel_limit m.messages in
          let same : set (settled spot p m).partitions x.slot z ≡ set m.partitions (x.own - 1) z = rw (own-slot, at_spot i) (set-set m.partitions spot p z) in
          let made : y ≡ refilled_to x.own channel_limit (record { table = m.table; t = m.t; messages = l; queues = m.queues; partitions = set (settled spot p m).partitions x.slot z }) = g ∙ rw (same, table_here) in
          subst (λ (v : Module). After M x.request x.current x.time v b)
          (sym (ap (λ (s : ℕ). settled s o y) (sym (at_spot i)) ∙ settled_same x.slot y no_partition read))
          (call_restarted f ticked i (decides.call i) says (ap (λ (x : Mode). nothing_created (mode_number x)) is ∙ restart_left d (part (settled spot p m) x.slot) r) r refl made)

      module _ (h : transfer_at d < channel_limit) {a : Transfer} (is : a ≡ transfer_of d) (l : Queue) (moved-is : l ≡ moved a (get_or m.queues (transfer_at d) past_queue)) (end : ℕ) (ends : end ≡ cond (ends_wait a) (other_end x.own (channel T (transfer_at d)) - 1) partition_limit) where
        abbrev queued : Module
        queued = record { table = m.table; t = m.t; messages = m.messages; queues = set m.queues (transfer_at d) l; partitions = m.partitions }

        pub did_moved : partition_limit ≤ end → After M x.request x.current x.time (settled spot p queued) b
        did_moved far = let i = passes_in h in call_moved f ticked i (decides.call i) says h is moved-is ends far refl

        -- the wait that ends is one of this partition
        pub did_here : end < partition_limit → end ≡ spot → (z : Partition) → z ≡ ended_by a p → After M x.request x.current x.time (settled spot z queued) b
        did_here near at z g =
            let i = passes_in h in
            call_passed f ticked i (decides.call i) says h is moved-is ends near (g ∙ ap (ended_by a) (sym (ap (part (settled spot p m)) at ∙ settled_here spot p m (omega arith)))) (sym (ap (λ (s : ℕ). settled s z (settled spot p queued)) at ∙ settled_twice spot p queued z))

        -- or of another
        pub did_there : end < partition_limit → (end ≡ spot → ⊥) → (z : Partition) → z ≡ ended_by a (part m end) → (y : Module)
            → y ≡ record { table = m.table; t = m.t; messages = m.messages; queues = set m.queues (transfer_at d) l; partitions = set m.partitions end z } → After M x.request x.current x.time (settled spot p y) b
        did_there near other z g y made =
            let i = passes_in h in
            call_passed f ticked i (decides.call i) says h is moved-is ends near (g ∙ ap (ended_by a) (sym (settled_there spot p m end other))) (ap (settled spot p) made ∙ settled_both end z queued spot p other)

-- ---------------------------------------------------------------- the partitions ticked so far
-- j partitions of the module M are ticked; p lies here, the partition at the place spot
pub record Ticking (M : Module) (spot j : ℕ) (m : Module) (p : Partition) (currents objects : List ℕ) (run : ℕ) (soon : List ℕ) (stale : Bool) : Type 0 where
  pub state : settled spot p m ≡ tick_to j M
  pub long : length m.partitions ≡ partition_limit
  pub held : Held m
  pub kept : Kept stale p currents objects run
  pub early : Early (settled spot p m) soon

module _ {M : Module} {spot j : ℕ} {m : Module} {p : Partition} {cs os : List ℕ} {run : ℕ} {soon : List ℕ} {stale : Bool} (h : Ticking M spot j m p cs os run soon stale) where
  all_long : length (settled spot p m).partitions ≡ partition_limit
  all_long = length-set m.partitions spot p ∙ h.long

  pub ticks_here : j < partition_limit → j ≡ spot → (x : Partition) → x ≡ tick_partition m.t p → (n : ℕ) → n ≡ soonest_of x → Ticking M spot (j + 1) m x cs os run (set soon j n) true
  ticks_here low e x is n soonest = record {
    state = tick_here m spot p M j h.state (rw h.long low) e x is;
    long = h.long;
    held = h.held;
    kept = λ z. absurd (true≢false z);
    early = early_set h.early all_long low x (omega (arith, soonest)) (rw e (sym (set-set m.partitions spot p x))) refl;
  }

  pub ticks_there : j < partition_limit → (j ≡ spot → ⊥) → (x : Partition) → x ≡ tick_partition m.t (part m j) → (n : ℕ) → n ≡ soonest_of x
      → (y : Module) → y ≡ settled j x m → Ticking M spot (j + 1) y p cs os run (set soon j n) stale
  ticks_there low other x is n soonest y g = record {
    state = tick_there m spot p M j h.state other x is y g;
    long = ap (λ (z : Module). length z.partitions) g ∙ length-set m.partitions j x ∙ h.long;
    held = rw g h.held;
    kept = h.kept;
    early = early_set h.early all_long low x (omega (arith, soonest)) (ap (λ (z : Module). set z.partitions spot p) g ∙ ap (λ (z : Module). z.partitions) (settled_both j x m spot p other)) refl;
  }

  pub ticks_none : j < partition_limit → m.t < get_or soon j 0 → Ticking M spot (j + 1) m p cs os run soon stale
  ticks_none low later = record {
    state = tick_none m spot p M j h.state (early_tick h.early low later);
    long = h.long;
    held = h.held;
    kept = h.kept;
    early = h.early;
  }

-- ---------------------------------------------------------------- what is left of an event
-- the answer, and what lies here after it
pub record Done (M : Module) (x : Plan) (b : Reply) (spot : ℕ) (m : Module) (p : Partition) (currents objects : List ℕ) (run : ℕ) (soon : List ℕ) (stale changed : Bool) : Type 0 where
  pub after : After M x.request x.current x.time (settled spot p m) b
  pub mirrors : stale ≡ false → Mirrors p currents objects
  pub runs : changed ≡ false → run ≡ running p
  pub early : Early (settled spot p m) soon

-- what is known where an event has been decided, and nothing done
pub record Ready {M : Module} {e : Event} {T : Table} {x : Plan} (f : Planned M e T x) (spot : ℕ) (p : Partition) (m : Module) (currents objects : List ℕ) (run : ℕ) (soon : List ℕ) (d : Decision) (b : Reply) : Type 0 where
  pub ticked : settled spot p m ≡ tick_to x.ticks (with_time x.time M)
  pub long : length m.partitions ≡ partition_limit
  pub here : x.spot ≡ spot
  pub beside : Beside p currents objects run
  pub early : Early (settled spot p m) soon
  pub decides : Decides f d
  pub says : b ≡ reply_of d

module _ {M : Module} {e : Event} {T : Table} {x : Plan} {f : Planned M e T x} {spot : ℕ} {p : Partition} {m : Module} {cs os soon : List ℕ} {run : ℕ} {d : Decision} {b : Reply} (known : Ready f spot p m cs os run soon d b) where
  abbrev ticked : settled spot p m ≡ tick_to x.ticks (with_time x.time M)
  ticked = known.ticked

  abbrev long : length m.partitions ≡ partition_limit
  long = known.long

  abbrev here : x.spot ≡ spot
  here = known.here

  abbrev beside : Beside p cs os run
  beside = known.beside

  abbrev early : Early (settled spot p m) soon
  early = known.early

  abbrev decides : Decides f d
  decides = known.decides

  abbrev says : b ≡ reply_of d
  says = known.says

  lengths : length (settled spot p m).partitions ≡ partition_limit
  lengths = length-set m.partitions spot p ∙ long

  pub done_same : changes d ≡ false → (i k : ℕ) → i ≡ message_at d → channel_limit ≤ i → k ≡ transfer_at d → channel_limit ≤ k → Done M x b spot m p cs os run soon false false
  done_same c i k ei h ek h' = record { after = did_same f spot p m ticked long here d decides says c (rw ei at h) (rw ek at h'); mirrors = λ _. beside.mirrors; runs = λ _. beside.runs; early = early }

  pub done_written : (k : ℕ) → k ≡ message_at d → k < channel_limit → {a : Option Message} → a ≡ message_of d → (y : Module) → y ≡ with_message k a m → Done M x b spot y p cs os run soon false false
  done_written k ek h is y g = record { after = did_written f spot p m ticked long here d decides says (rw ek at h) is y (rw ek at g); mirrors = λ _. beside.mirrors; runs = λ _. beside.runs; early = early_same early (ap (λ (z : Module). set z.partitions spot p) g) refl }

  pub done_changed : changes d ≡ true → restarts d ≡ false → (z : Partition) → z ≡ applied (second_change d) (applied (first_change d) p) → {cs' os' : List ℕ} {stale : Bool} → (stale ≡ false → Mirrors z cs' os') → Done M x b spot m z cs' os' run (set soon x.slot 0) stale true
  done_changed c r z g mir =
      let i = changes_in f spot p m ticked long here d decides c in
      record {
        after = did_changed f spot p m ticked long here d decides says c r z g;
        mirrors = mir;
        runs = λ n. absurd (true≢false n);
        early = early_set early lengths i z (omega arith) (rw (at_spot f spot p m ticked long here i) (sym (set-set m.partitions spot p z))) refl;
      }

  pub done_restarted : restarts d ≡ true → {mode : Mode} → mode ≡ mode_of d → (y : Module) → y ≡ restarted x.own (nothing_created (mode_number mode)) m
      → (o : Partition) → o ≡ get_or y.partitions x.slot no_partition → Done M x b spot y o cs os run (replicate partition_limit 0) true true
  done_restarted r is y g o read = record { after = did_restarted f spot p m ticked long here d decides says r is y g o read; mirrors = λ n. absurd (true≢false n); runs = λ n. absurd (true≢false n); early = begins_early _ }

  module _ (k : ℕ) (ek : k ≡ transfer_at d) (h : k < channel_limit) {a : Transfer} (is : a ≡ transfer_of d) (l : Queue) (moved-is : l ≡ moved a (get_or m.queues k past_queue)) (end : ℕ) (ends : end ≡ cond (ends_wait a) (other_end x.own (channel T k) - 1) partition_limit) where
    abbrev h' : transfer_at d < channel_limit
    h' = rw ek at h

    abbrev moved' : l ≡ moved a (get_or m.queues (transfer_at d) past_queue)
    moved' = rw ek at moved-is

    abbrev ends' : end ≡ cond (ends_wait a) (other_end x.own (channel T (transfer_at d)) - 1) partition_limit
    ends' = rw ek at ends

    pub done_moved : partition_limit ≤ end → (y : Module) → y ≡ record { table = m.table; t = m.t; messages = m.messages; queues = set m.queues k l; partitions = m.partitions } → Done M x b spot y p cs os run soon false false
    done_moved far y g = rw (rw ek at g) (record { after = did_moved f spot p m ticked long here d decides says h' is l moved' end ends' far; mirrors = λ _. beside.mirrors; runs = λ _. beside.runs; early = early_same early refl refl })

    pub done_here : end < partition_limit → end ≡ spot → (z : Partition) → z ≡ ended_by a p → (y : Module) → y ≡ record { table = m.table; t = m.t; messages = m.messages; queues = set m.queues k l; partitions = m.partitions }
        → Done M x b spot y z cs os run (set soon end 0) true true
    done_here near at z g y made = rw (rw ek at made) (record {
      after = did_here f spot p m ticked long here d decides says h' is l moved' end ends' near at z g;
      mirrors = λ n. absurd (true≢false n);
      runs = λ n. absurd (true≢false n);
      early = early_set early lengths near z (omega arith) (rw at (sym (set-set m.partitions spot p z))) refl;
    })

    pub done_there : end < partition_limit → (end ≡ spot → ⊥) → (z : Partition) → z ≡ ended_by a (part m end)
        → (y : Module) → y ≡ record { table = m.table; t = m.t; messages = m.messages; queues = set m.queues k l; partitions = set m.partitions end z } → Done M x b spot y p cs os run (set soon end 0) false false
    done_there near other z g y made = record {
      after = did_there f spot p m ticked long here d decides says h' is l moved' end ends' near other z g y (rw ek at made);
      mirrors = λ _. beside.mirrors;
      runs = λ _. beside.runs;
      early = early_set early lengths near z (omega arith) (ap (λ (v : Module). set v.partitions spot p) made ∙ ap (λ (v : Module). v.partitions) (settled_both end z m spot p other)) refl;
    }

-- ---------------------------------------------------------------- the current partition after the ticks
-- p lies here, the partition of the module M at the place spot
pub record Current (M : Module) (spot : ℕ) (m : Module) (p : Partition) (currents objects : List ℕ) (run : ℕ) (soon : List ℕ) (stale : Bool) : Type 0 where
  pub state : settled spot p m ≡ M
  pub long : length m.partitions ≡ partition_limit
  pub held : Held m
  pub kept : Kept stale p currents objects run
  pub early : Early (settled spot p m) soon

module _ {M : Module} {spot j : ℕ} {m : Module} {p : Partition} {cs os : List ℕ} {run : ℕ} {soon : List ℕ} {stale : Bool} (h : Ticking M spot j m p cs os run soon stale) where
  pub current_same : Current (settled spot p m) spot m p cs os run soon stale
  current_same = record { state = refl; long = h.long; held = h.held; kept = h.kept; early = h.early }

  -- it was stored back, and o, which stands at the place next, is taken
  pub current_moved : (y : Module) (next : ℕ) (o : Partition) → y ≡ settled spot p m → settled next o y ≡ y → Current (settled spot p m) next y o cs os run soon true
  current_moved y next o back same = record {
    state = same ∙ back;
    long = ap (λ (z : Module). length z.partitions) back ∙ length-set m.partitions spot p ∙ h.long;
    held = rw back h.held;
    kept = λ z. absurd (true≢false z);
    early = early_same h.early (ap (λ (z : Module). z.partitions) (same ∙ back)) refl;
  }

-- ---------------------------------------------------------------- what a call sees
-- a buffer stored, or what stands in its place, leaves the processes
pub buffer_keeps : (k : ℕ) (b : Buffer) (p : Partition) → (stored_buffer k b p).processes ≡ p.processes
unfolding stored_buffer
buffer_keeps k b p = by_test (λ (q : Partition). q.processes ≡ p.processes) (within buffer_limit k) (λ _. refl) (λ _. refl)

-- a number of the record that an id names, whatever would be read past the end, if that has the same number
module _ {A : Type 0} (f : A → ℕ) (limit id k : ℕ) (e : k ≡ slot_of limit id) (d : A) (l : List A) where
  pub number_at : (o : A) → f o ≡ f d → k < limit → f (get_or l k o) ≡ f (by_id limit d id l)
  number_at o s h = any_number l k o s ∙ ap f (named_at limit id k e d l h)
    where
      any_number : (l : List A) (k : ℕ) (o : A) → f o ≡ f d → f (get_or l k o) ≡ f (get_or l k d)
      any_number [] k o s = s
      any_number (a ∷ l) zero o s = refl
      any_number (a ∷ l) (suc k) o s = any_number l k o s

  pub number_past : limit ≤ k → f d ≡ f (by_id limit d id l)
  number_past h = ap f (named_past limit id k e d l h)

-- who waits first for what a call looks at
pub waiter_read : {p : Partition} {cs os : List ℕ} → Mirrors p cs os → (n id o : ℕ) → o ≡ object_for n id → (o ≡ 0 → ⊥) → {w : ℕ} → w ≡ first_on o p.waiting os → w ≡ waiter_for n id p
waiter_read {p} m n id o is some g =
    let z : eqb (object_for n id) 0 ≡ false = ne_eqb (object_for n id) 0 (λ y. some (is ∙ y)) in
    g ∙ mirrors_first m o ∙ ap (λ (k : ℕ). first_waiter k p) is ∙ rw z

pub waiter_none : (n id o : ℕ) (p : Partition) → o ≡ object_for n id → o ≡ 0 → {w : ℕ} → w ≡ 0 → w ≡ waiter_for n id p
waiter_none n id o p is none g =
    let z : eqb (object_for n id) 0 ≡ true = eq-eqb (object_for n id) 0 (sym is ∙ none) in
    g ∙ rw z

-- the running process of the current partition
pub running_at : (m : Module) (spot : ℕ) (p : Partition) (i : ℕ) → i ≡ spot → i < partition_limit → length m.partitions ≡ partition_limit → {n : ℕ} → n ≡ running p → n ≡ running (part (settled spot p m) i)
running_at m spot p i e low long r = r ∙ ap running (sym (ap (part (settled spot p m)) e ∙ settled_here spot p m (let z = e in omega arith)))

-- with no partition here the numbers are those of an empty one
pub none_beside : (p : Partition) → p ≡ empty_partition → Beside p (replicate process_limit 0) (replicate process_limit 0) 0
unfolding empty_partition running
none_beside p e = rw e (record { mirrors = record { long = refl; priorities = refl; waits = refl }; runs = refl })

-- a loop of two turns
pub two_less : (n : ℕ) → n < 2 → 2 - (n + 1) < 2 - n
two_less n h = omega arith

pub two_more : (n : ℕ) → n < 2 → n + 1 ≤ 2
two_more n h = omega arith

pub set_size : (l : List ℕ) (i n : ℕ) {m : ℕ} → length l ≡ m → length (set l i n) ≡ m
set_size l i n h = length-set l i n ∙ h

-- what is left, by other names
pub done_as_holds : {M : Module} {x : Plan} {b : Reply} {spot run : ℕ} {m m' : Module} {p p' : Partition} {cs cs' os os' soon soon' : List ℕ} {stale stale' changed changed' : Bool}
    → m' ≡ m → p' ≡ p → cs' ≡ cs → os' ≡ os → soon' ≡ soon → stale' ≡ stale → changed' ≡ changed
    → Done M x b spot m p cs os run soon stale changed → Done M x b spot m' p' cs' os' run soon' stale' changed'
done_as_holds em ep ec eo es et eh h = rw (em, ep, ec, eo, es, et, eh) h

-- a decision leaves a message or makes a transfer, or neither
pub one_of : (d : Decision) {k : ℕ} → k ≡ message_at d → k < channel_limit → transfer_at d < channel_limit → ⊥
one_of (Refused n) e h t = omega arith
one_of (Unchanged v x) e h t = omega arith
one_of Ticked e h t = omega arith
one_of (Blocked id x) e h t = omega arith
one_of (Changed a b v) e h t = omega arith
one_of (Restarted mode) e h t = omega arith
one_of (Written i x) e h t = omega arith
one_of (Passed i a v) e h t = omega arith

pub not_far : {k n : ℕ} → k ≡ n → channel_limit ≤ k → n < channel_limit → ⊥
not_far e h t = omega arith

pub not_near : {k n : ℕ} → k ≡ n → k < channel_limit → channel_limit ≤ n → ⊥
not_near e h t = omega arith

pub two_fits : (n : ℕ) → n < 2 → n + 1 < 256
two_fits n h = omega arith

-- a decision that leaves everything as it is, but for the tick
pub nothing_done : (d : Decision) → ((n : ℕ) × (d ≡ Refused n)) ⊎ (((n : ℕ) × (v : Time) × (d ≡ Unchanged n v)) ⊎ (d ≡ Ticked)) → (changes d ≡ false) × (channel_limit ≡ message_at d) × (channel_limit ≡ transfer_at d)
nothing_done d (inl (n, e)) = (ap changes e, sym (ap message_at e), sym (ap transfer_at e))
nothing_done d (inr (inl (n, v, e))) = (ap changes e, sym (ap message_at e), sym (ap transfer_at e))
nothing_done d (inr (inr e)) = (ap changes e, sym (ap message_at e), sym (ap transfer_at e))
