-- What each call does: its checks in the order written, and the whole record after it. Assumes nothing.
use Rattle.machine.specs.Mode.{mode_numbered}
use Rattle.machine.proofs.ModeNumbers.{numbered_back}
use Rattle.machine.specs.Mode.{mode_number}
use Rattle.machine.specs.declared.Mode.TheVariants.{Normal as NormalMode}
use Rattle.std.specs.Prelude.{Option, is_some, unwrap_or}
use Prim.Native.Nat.{ℕ, zero, suc, ◌+◌, ◌-◌, ◌%◌, ◌≤◌, ◌<◌, max}
use mathlib.Core.Path.{◌≡◌, refl, sym, ap, ◌∙◌, ap₂}
use mathlib.Core.Bool.{Bool, true, false, cond, not, ◌&&◌, ◌||◌, and-true, and-false}
use mathlib.Core.List.{List, [], ◌∷◌, ◌++◌, map}
use mathlib.Core.Logic.{inl, inr, ⊎_elim}
use native.Mathlib.Omega.{arith}
use lib.ListN.{length, get_or, take, drop, length-take, get_or-map, length-set, get_or-eq_default}
use lib.Seq.{get_or-take, ext_get_or, get_or-set_other, get_or-set_same, set-get_or}
use lib.IntN.{ℤ, pos, negsuc}
use lib.Dec.{leb, ltb, eqb}
use borrow.Author.Tests.{eq-eqb, ne_eqb, eqb-true, le-leb, lt-leb, eqb-false, leb-true, leb-false, ltb-true, ltb-false, lt-ltb, not-false, le-ltb}
use Rattle.machine.specs.declared.Process.{Process}
use Rattle.machine.specs.declared.Partition.{Partition}
use Rattle.machine.specs.declared.Transfer.{Transfer}
use Rattle.machine.specs.declared.Transfer.TheVariants.{Put, Taken, LetIn}
use Rattle.machine.specs.declared.Event.{Event as EventT}
use Rattle.machine.specs.declared.Module.{Module}
use Rattle.machine.specs.declared.Decision.{Decision}
use Rattle.machine.specs.declared.Decision.TheVariants.{Refused, Unchanged, Blocked, Changed, Restarted, Written, Passed as PassedOn, Ticked}
use Rattle.machine.specs.declared.Change.TheVariants.{Nothing, Stored, Created, CreatedBuffer, Entered, Last, StoredSemaphore, StoredEvent, StoredBlackboard, Moved, Ended, Handed, LevelSet}
use Rattle.machine.specs.declared.Semaphore.{Semaphore as SemaphoreT}
use Rattle.machine.specs.declared.EventState.{EventState}
use Rattle.machine.specs.declared.Blackboard.{Blackboard as BlackboardT}
use Rattle.machine.specs.declared.Buffer.{Buffer}
use Rattle.machine.specs.declared.Wait.{Wait}
use Rattle.machine.specs.declared.Wait.TheVariants.{Timed, Semaphore, Event, Sending, Receiving, Blackboard, Source, Destination}
use Rattle.machine.specs.Time.{Time}
use Rattle.std.specs.Prelude.{None, Some}
use Rattle.machine.specs.declared.Field.TheVariants.{Number}
use Rattle.machine.specs.Limits.{call_limit, duration_limit, time_limit, greatest_time, greatest_value, process_limit, semaphore_limit, event_limit, buffer_limit, blackboard_limit, channel_limit, name_limit, message_limit, value_limit, priority_limit, level_limit, mode_limit}
use Rattle.machine.specs.Fields.{field, request_of, is_number, is_timeout, time_of, number_of}
use Rattle.machine.specs.Process.{later, is_never, carried, next_release, entered, start_rule, started_early, ready, periodic, waits_for_normal, created_process, blank_process, object, served, handed, resumed, suspended_until, waiting_for, on_object, with_current, with_suspended}
use Rattle.machine.specs.Partition.{normal_mode, entered_normal, with_mode, by_id, no_semaphore, no_event, no_buffer, no_blackboard, process, semaphore, event, buffer, blackboard, first_waiter, stored, stored_semaphore, stored_event, stored_buffer, moved_in, stored_blackboard, waiters, applied, running, with_lock, each_from, nothing_created, with_mode_and_lock}
use Rattle.machine.specs.Objects as Ob
use Rattle.machine.specs.Blackboards as Bb
use Rattle.machine.specs.Buffers as Bu
use Rattle.machine.specs.Channels as Ch
use Rattle.machine.specs.Decisions as D
use Rattle.machine.specs.Decisions.{reply_of}
use Rattle.machine.specs.Calls as C
use Rattle.machine.specs.Services.{Service, no_service, services, service_of, call_decision}
use Rattle.machine.specs.Messages.{held, sent, received, first, no_queue, queue_of}
use Rattle.machine.specs.Places.{malformed, stray_field}
use Rattle.machine.specs.Module.{empty_module, empty_table, channel, message, queue, current, running_in, ticks_left, with_messages, with_part, with_queue}
use Rattle.machine.specs.Step.{context_of, module_after, step, restarted, decision}
use Rattle.machine.specs.Theorems.Valid.{Between, Numbered, Valid, SoundModule, SoundMove, ValidModule, Reached, plain_later, setting_of}
use Rattle.machine.specs.Theorems.Plain.{plain_between, plain_number, plain_minus_one, plain_unknown, plain_stored, plain_moved, let_go, plain_each, plain_refilled_to, wait_over, plain_ticked}
use Rattle.machine.specs.Theorems.Events.{own, call_by, Calling, Gives, Puts, at_end, with_semaphore_at, with_process}
use Rattle.machine.specs.Theorems.Starred.{given, awaits_next, awaits_release}
use Rattle.machine.specs.Theorems.EachCall.{id_of, time_in, in_d, in_t, periodic_at, too_long, named, used, stray, malformed_at, EachEvent, Checks, now_dormant, with, started_at, with_priority, with_event_at, with_buffer_at, with_board_at, above_in, process_admitted, Starts, MayWait, Stop, StopSelf, Suspend, Resume, GetStatus, SuspendSelf, TimedWait, ResetEvent, SetEvent, Clear, Signal, Show, WaitSemaphore, WaitEvent, ReceiveBuffer, ReadBlackboard, SendBuffer, Write, Read, Send, Receive, Start, DelayedStart, SetPriority, PeriodicWait, CreateEvent, CreateBlackboard, CreateBuffer, CreateSemaphore, CreateProcess, SetMode, EachCall, GetTicksLeft, LockPreemption, UnlockPreemption, entering, restarted_as, without_into}
use Rattle.machine.proofs.Reasons.{waits}
use Rattle.machine.proofs.Tests.{by_test, Passed, and_left, and_right, or_left, or_right, not_both, passed_parts}
use Rattle.machine.proofs.Either.{either}
use Rattle.machine.proofs.Calling.{field_number, empty_current, calling_sound, calling_valid, asked, decides, gives, puts_is, stored_steady, known, normal_is, normal_not, calling_context, calling_low, calling_place, stored_leaves}
use Rattle.machine.proofs.Keeping.{process_stored, stored_listed, process_other}
use Rattle.machine.proofs.Kept.{running_caller, waiters_created, nothing_valid}
use Rattle.machine.proofs.Bounds.{within_in, named_in, created_in, buffer_in, semaphore_in, event_in, blackboard_in, same_or_not}
use Rattle.machine.proofs.Queues.{first_created}
use Rattle.machine.proofs.Reached.{queuing_plain, reached_valid, erased_sound, part_sound}
use Rattle.machine.proofs.Messages.{queue_first, moved_in_plain, moved_plain}
use Rattle.machine.proofs.Moves as Mo
use Rattle.machine.proofs.Sound.{capacity_bound, carried_sound, ready_off}
use Rattle.machine.proofs.Refusals.{places, refused_same}
use Rattle.machine.proofs.WindowLeft.{Covered, current_known, covered_or_none, window_left_holds}
use Rattle.machine.proofs.Plain.{lossless, all_plain, arrived_plain, later_uncapped, each_plain, next_deadline_plain, next_plain, refilled_all, release_deadline_plain, release_point_plain, tick_plain}
use Rattle.machine.specs.declared.Message.{Message}
use Rattle.machine.specs.declared.Queue.{Queue}
use Rattle.machine.specs.Windows.{windows}
use Rattle.machine.specs.Theorems.Starts.{Uncovered, Release}
use Rattle.machine.specs.declared.Table.{Table}
use Rattle.machine.proofs.Starts.{release_earliest, release_one}
use Rattle.machine.proofs.Dispatch.{ticks_decided}
use Rattle.machine.proofs.Orders.{blackboard_queue, event_queue}
use Rattle.machine.proofs.Stored.{stored_plain}

-- ---------------------------------------------------------------- numbers
-- low..high
in_range_holds : (low high n : ℕ) → plain_between low high (pos n) ≡ true → Between low high n
in_range_holds low high n h = (leb-true low n (and_left (leb low n) (leb n high) h), leb-true n high (and_right (leb low n) (leb n high) h))

pub number_in : (low high : ℕ) (z : ℤ) → high ≤ greatest_time → plain_between low high z ≡ true → number_of (field z) ≡ id_of z
number_in low high (pos n) top h = let r = in_range_holds low high n h in rw (field_number n (omega (arith, r.1)))
number_in low high (negsuc n) top h = not_both _ h refl

passed_is : (l : List (Bool × ℕ)) (d : Decision) → Passed l → D.checked Refused l d ≡ d
unfolding Passed D.checked
passed_is [] d q = refl
passed_is ((test, code) ∷ l) d q = rw q.0 (passed_is l d q.1)

unknown_is : (z : ℤ) (count : ℕ) → count ≤ greatest_time → D.unknown (number_of (field z)) count ≡ not (plain_between 1 count z)
unknown_is z count top = (lossless z).unknown count top ∙ go z
  where
    go : (z : ℤ) → plain_unknown z count ≡ not (plain_between 1 count z)
    go (pos zero) = refl
    go (pos (suc n)) = either (ltb count (suc n))
        (λ e. rw (e, lt-leb (suc n) count (ltb-true count (suc n) e), ne_eqb (suc n) 0 (λ z. omega arith), le-leb 1 (suc n) (omega arith)))
        (λ e. rw (e, le-leb (suc n) count (ltb-false count (suc n) e), ne_eqb (suc n) 0 (λ z. omega arith), le-leb 1 (suc n) (omega arith)))
    go (negsuc n) = refl

periodic_is : (x : Process) → periodic x ≡ periodic_at x.given.period
periodic_is x = go x.given.period
  where
    go : (a : Time) → not (is_never a) ≡ periodic_at a
    go None = refl
    go (Some n) = refl

flip : {A : Type 0} (b : Bool) (x y : A) → cond (not b) x y ≡ cond b y x
flip true x y = refl
flip false x y = refl

or_of_right : (a b : Bool) → b ≡ true → (a || b) ≡ true
or_of_right true b h = refl
or_of_right false b h = h

-- a time of D
timed : (a : ℤ) → in_d a ≡ true → (t : ℕ) → Some (t + id_of a) ≡ plain_later (Some t) (time_in a)
timed (pos n) h t = refl
timed (negsuc n) h t = not_both _ h refl

twice : (b : Bool) → not (not b) ≡ b
twice true = refl
twice false = refl

in_d_holds : (a : ℤ) → in_d a ≡ true → id_of a ≤ duration_limit
in_d_holds (pos n) h = (in_range_holds 0 9999999 n h).1
in_d_holds (negsuc n) h = not_both _ h refl

low_max : (a : ℤ) → plain_between 1 32767 a ≡ true → id_of a ≤ greatest_time
low_max (pos n) h = let r = in_range_holds 1 32767 n h in omega (arith, r.1)
low_max (negsuc n) h = not_both _ h refl

none_of : (n : ℕ) → number_of (field (negsuc n)) ≡ 0
none_of zero = refl
none_of (suc n) = refl

weaker : (a b c : Bool) → (a || (b && c)) ≡ true → (a || b) ≡ true
weaker true b c h = refl
weaker false true c h = refl
weaker false false c h = h

-- −1 or 1..9,999,999
time_is : (z : ℤ) → (plain_minus_one z || plain_between 1 9999999 z) ≡ true → time_of (field z) ≡ time_in z
time_is (pos n) h = let r = in_range_holds 1 9999999 n h in rw (field_number n (omega (arith, r.1)))
time_is (negsuc zero) h = refl
time_is (negsuc (suc n)) h = refl

above_is : (c e : ℤ) → (plain_minus_one c || plain_between 1 9999999 c) ≡ true → (plain_minus_one e || plain_between 1 9999999 e) ≡ true
    → (not (plain_minus_one e) && (not (plain_minus_one c) && ltb (number_of (field c)) (number_of (field e)))) ≡ above_in e c
above_is (pos n) (pos l) a b =
    let r = in_range_holds 1 9999999 n a in
    let s = in_range_holds 1 9999999 l b in
    rw (field_number n (omega (arith, r.1)), field_number l (omega (arith, s.1)))
above_is (pos n) (negsuc l) a b = rw (field_number n (let r = in_range_holds 1 9999999 n a in omega (arith, r.1))) (ap (λ y. not (eqb l 0) && (true && ltb n y)) (none_of l))
above_is (negsuc n) (pos l) a b = rw (field_number l (let s = in_range_holds 1 9999999 l b in omega (arith, s.1))) (ap (λ y. true && (not (eqb n 0) && ltb y l)) (none_of n))
above_is (negsuc n) (negsuc l) a b = rw (none_of n, none_of l)

at_most : (n : ℕ) → n ≤ 255 → n ≤ greatest_time
at_most n h = omega arith

first_passed : (test : Bool) (code : ℕ) (l : List (Bool × ℕ)) → Passed ((test, code) ∷ l) → test ≡ false
unfolding Passed
first_passed test code l q = q.0

in_modes : (a : ℤ) → plain_between 0 3 a ≡ true → id_of a ≤ mode_limit
in_modes (pos n) h = (in_range_holds 0 3 n h).1
in_modes (negsuc n) h = not_both _ h refl

-- a change of each process of a partition goes by what it makes of those there
each_alike : (f g : Process → Process) (n id : ℕ) (p : Partition) → ((y : ℕ) → id ≤ y → y < id + n → f (process y p) ≡ g (process y p)) → each_from f n id p ≡ each_from g n id p
unfolding each_from
each_alike f g zero id p same = refl
each_alike f g (suc n) id p same =
    ap (λ (x : Process). each_from f n (id + 1) (stored id x p)) (same id (omega arith) (omega arith))
    ∙ each_alike f g n (id + 1) (stored id (g (process id p)) p) (λ y lo hi.
    let other = process_other p id (g (process id p)) y (λ e. omega arith) in
    rw other (same y (omega arith) (omega arith)))

kept_length : (T : Table) (k n : ℕ) (l : List (Option Message)) → length (Ch.kept_to T k n l) ≡ length l
unfolding Ch.kept_to
kept_length T k zero l = refl
kept_length T k (suc n) l = by_test (λ (r : List (Option Message)). length r ≡ length l) (eqb (channel T n).destination k) (λ _. simp length-set (kept_length T k n l)) (λ _. kept_length T k n l)

-- the messages without those on channels into a partition, at each place
kept_in : (T : Table) (k n : ℕ) (l : List (Option Message)) (j : ℕ) → j < length l → get_or (Ch.kept_to T k n l) j D.no_message ≡ cond (ltb j n && eqb (channel T j).destination k) D.no_message (get_or l j D.no_message)
unfolding Ch.kept_to
kept_in T k zero l j h = rw (le-ltb j 0 (omega arith))
kept_in T k (suc n) l j h =
    by_test (λ (r : List (Option Message)). get_or r j D.no_message ≡ cond (ltb j (suc n) && eqb (channel T j).destination k) D.no_message (get_or l j D.no_message)) (eqb (channel T n).destination k)
    (λ q. ⊎_elim
    (λ (e : j ≡ n). rw (e, lt-ltb n (suc n) (omega arith), q) (get_or-set_same (Ch.kept_to T k n l) n D.no_message D.no_message (rw (kept_length T k n l) (omega arith))))
    (λ (ne : j ≡ n → ⊥). get_or-set_other (Ch.kept_to T k n l) n j D.no_message D.no_message ne ∙ kept_in T k n l j h ∙ ap (λ b. cond (b && eqb (channel T j).destination k) D.no_message (get_or l j D.no_message)) (below ne))
    (same_or_not j n))
    (λ q. kept_in T k n l j h ∙ ⊎_elim
    (λ (e : j ≡ n). rw (e, q, and-false (ltb n n), and-false (ltb n (suc n))))
    (λ (ne : j ≡ n → ⊥). ap (λ b. cond (b && eqb (channel T j).destination k) D.no_message (get_or l j D.no_message)) (below ne))
    (same_or_not j n))
  where
    below : (j ≡ n → ⊥) → ltb j n ≡ ltb j (suc n)
    below ne = either (ltb j n)
        (λ e. rw (e, lt-ltb j (suc n) (omega (arith, ltb-true j n e))))
        (λ e. rw (e, le-ltb j (suc n) (omega (arith, ltb-false j n e, ne))))

pub kept_at : (T : Table) (k n : ℕ) (l : List (Option Message)) (j : ℕ) → get_or (Ch.kept_to T k n l) j D.no_message ≡ cond (ltb j n && eqb (channel T j).destination k) D.no_message (get_or l j D.no_message)
kept_at T k n l j = either (ltb j (length l))
    (λ e. kept_in T k n l j (ltb-true j (length l) e))
    (λ e.
    let past = ltb-false j (length l) e in
    get_or-eq_default (Ch.kept_to T k n l) D.no_message (rw (kept_length T k n l) past)
    ∙ sym (rw (get_or-eq_default l D.no_message past) (by_test (λ (x : Option Message). x ≡ D.no_message) (ltb j n && eqb (channel T j).destination k) (λ _. refl) (λ _. refl))))

without_size : (T : Table) (k i : ℕ) (l : List (Option Message)) → length (without_into T k i l) ≡ length l
unfolding without_into
without_size T k i [] = refl
without_size T k i (x ∷ l) = ap suc (without_size T k (i + 1) l)

without_at : (T : Table) (k i : ℕ) (l : List (Option Message)) (j : ℕ) → j < length l → get_or (without_into T k i l) j D.no_message ≡ cond (eqb (channel T (i + j)).destination k) D.no_message (get_or l j D.no_message)
unfolding without_into
without_at T k i [] j h = absurd (omega arith)
without_at T k i (x ∷ l) zero h = let e : i ≡ i + 0 = omega arith in ap (λ n. cond (eqb (channel T n).destination k) D.no_message x) e
without_at T k i (x ∷ l) (suc j) h = let e : i + 1 + j ≡ i + suc j = omega arith in without_at T k (i + 1) l j (omega arith) ∙ ap (λ n. cond (eqb (channel T n).destination k) D.no_message (get_or l j D.no_message)) e

erased_is : (T : Table) (k : ℕ) (l : List (Option Message)) → length l ≡ channel_limit → Ch.kept_to T k channel_limit l ≡ without_into T k 0 l
erased_is T k l size = ext_get_or D.no_message (Ch.kept_to T k channel_limit l) (without_into T k 0 l) (kept_length T k channel_limit l ∙ sym (without_size T k 0 l)) (λ j h.
    let lt : j < length l = rw (kept_length T k channel_limit l) at h in
    let z : 0 + j ≡ j = omega arith in
    kept_at T k channel_limit l j ∙ rw (lt-ltb j channel_limit (omega (arith, lt, size))) (sym (without_at T k 0 l j lt ∙ rw z)))

module _ (m : Module) (k : ℕ) (u : SoundModule m) (h : Calling m k) where
  abbrev p : Partition
  p = own m k

  v : Valid m.table.frame m.t p
  v = calling_valid m k u h

  -- a call that decides by a list of checks
  module _ (n : ℕ) (a b c e : ℤ) (lo : 1 ≤ n) (hi : n ≤ call_limit) (stray : stray_field (service_of n).fields (asked m k u h n (field a) (field b) (field c) (field e)) ≡ false) where
    by_list : (l : List (Bool × ℕ)) (d : Decision) (A : Type 0) → decides m k u h n a b c e lo hi ≡ D.checked Refused l d
        → (Passed l → Gives m (call_by k n a b c e) (reply_of d).code (reply_of d).value (reply_of d).extra (module_after m k d) → A) → Checks m (call_by k n a b c e) l A
    unfolding Checks Passed D.checked
    by_list [] d A is f = f tt (gives m k u h n a b c e lo hi stray d is)
    by_list ((test, code) ∷ l) d A is f = (
      λ t. gives m k u h n a b c e lo hi stray (Refused code) (is ∙ rw t),
      λ t. by_list l d A (is ∙ rw t) (λ q g. f (t, q) g),
    )

  -- the first check is that of an id: 3 where it is none of 1..count
  module _ (n j : ℕ) (b c e : ℤ) (lo : 1 ≤ n) (hi : n ≤ call_limit) (count : ℕ) (few : count ≤ greatest_time) (l : List (Bool × ℕ)) (A : Type 0) where
    by_then : stray_field (service_of n).fields (asked m k u h n (field (pos j)) (field b) (field c) (field e)) ≡ false
        → (not (plain_between 1 count (pos j)) ≡ true → decides m k u h n (pos j) b c e lo hi ≡ Refused 3)
        → (field (pos j) ≡ Number j → Between 1 count j → Checks m (call_by k n (pos j) b c e) l A)
        → Checks m (call_by k n (pos j) b c e) ((not (plain_between 1 count (pos j)), 3) ∷ l) A
    unfolding Checks
    by_then stray none f = (
      λ t. gives m k u h n (pos j) b c e lo hi stray (Refused 3) (none t),
      λ t. let r = in_range_holds 1 count j (not-false _ t) in f (field_number j (omega (arith, r.1))) r,
    )

    by_id_holds : stray_field (service_of n).fields (asked m k u h n (field (pos j)) (field b) (field c) (field e)) ≡ false → (d : Decision)
        → (not (plain_between 1 count (pos j)) ≡ true → decides m k u h n (pos j) b c e lo hi ≡ Refused 3)
        → (field (pos j) ≡ Number j → Between 1 count j → decides m k u h n (pos j) b c e lo hi ≡ D.checked Refused l d)
        → (Between 1 count j → Passed l → Gives m (call_by k n (pos j) b c e) (reply_of d).code (reply_of d).value (reply_of d).extra (module_after m k d) → A)
        → Checks m (call_by k n (pos j) b c e) ((not (plain_between 1 count (pos j)), 3) ∷ l) A
    by_id_holds stray d none is f = by_then stray none (λ x r. by_list n (pos j) b c e lo hi stray l d A (is x r) (f r))

    by_none : stray_field (service_of n).fields (asked m k u h n (field (negsuc j)) (field b) (field c) (field e)) ≡ false
        → decides m k u h n (negsuc j) b c e lo hi ≡ Refused 3 → Checks m (call_by k n (negsuc j) b c e) ((not (plain_between 1 count (negsuc j)), 3) ∷ l) A
    unfolding Checks
    by_none stray is = (λ _. gives m k u h n (negsuc j) b c e lo hi stray (Refused 3) is, λ t. not_both _ refl t)

  few : p.process_count ≤ greatest_time
  few = omega (arith, v.lists.numbered.few)

  -- a process stored
  puts_stored : (e : EventT) (code : ℕ) (id : ℕ) (x : Process) → Between 1 p.process_count id → Puts m e code 0 k (stored id x p) → Puts m e code 0 k (plain_stored id x p)
  puts_stored e code id x b g = puts_is m k _ _ g (stored_plain p v.lists id b x)

  stop_law : Stop m k
  unfolding call_decision services stray_field D.checked C.stop
  stop_law (pos j) = by_id_holds 5 j (pos 0) (pos 0) (pos 0) (omega arith) (omega arith) p.process_count few _ _ refl (D.changed (Stored j (now_dormant (process j p))))
      (λ t. rw (unknown_is (pos j) p.process_count few, t)) (λ f b. rw (f, known m k u h j p.process_count b)) (λ b _ g. puts_stored _ 0 j _ b g)
  stop_law (negsuc j) = by_none 5 j (pos 0) (pos 0) (pos 0) (omega arith) (omega arith) p.process_count few _ _ refl (rw (unknown_is (negsuc j) p.process_count few))

  stop_self_law : StopSelf m k
  unfolding call_decision services stray_field D.checked C.stop_self
  stop_self_law = by_list 6 (pos 0) (pos 0) (pos 0) (pos 0) (omega arith) (omega arith) refl _ (Changed (LevelSet 0 0) (Stored (running p) (now_dormant (process (running p) p))) 0) _ refl
      (λ q g. puts_is m k _ _ g (stored_plain (with_lock 0 0 p) v.lists (running p) (running_caller p v.lists v.lock (h.runs (eqb-true _ 3 (not-false _ (first_passed _ _ _ q))))).created (now_dormant (process (running p) p))))

  suspend_law : Suspend m k
  unfolding call_decision services stray_field D.checked C.suspend
  suspend_law (pos j) = by_id_holds 7 j (pos 0) (pos 0) (pos 0) (omega arith) (omega arith) p.process_count few _ _ refl (let x = process j p in D.changed (Stored j (with true x.times.wake x.code x.wait x)))
      (λ t. rw (unknown_is (pos j) p.process_count few, t)) (λ f b. rw (f, known m k u h j p.process_count b, periodic_is (process j p))) (λ b _ g. puts_stored _ 0 j _ b g)
  suspend_law (negsuc j) = by_none 7 j (pos 0) (pos 0) (pos 0) (omega arith) (omega arith) p.process_count few _ _ refl (rw (unknown_is (negsuc j) p.process_count few))

  resume_law : Resume m k
  unfolding call_decision services stray_field D.checked C.resume
  resume_law (pos j) = by_id_holds 11 j (pos 0) (pos 0) (pos 0) (omega arith) (omega arith) p.process_count few _ _ refl (D.changed (Stored j (resumed (process j p))))
      (λ t. rw (unknown_is (pos j) p.process_count few, t)) (λ f b. rw (f, known m k u h j p.process_count b, periodic_is (process j p))) (λ b _ g. (
        λ w. puts_stored _ 0 j _ b (puts_is m k _ _ g (ap (λ (y : Process). stored j y p) (rw w))),
        λ w. puts_stored _ 0 j _ b (puts_is m k _ _ g (ap (λ (y : Process). stored j y p) (rw (waits (process j p).wait w)))),
      ))
  resume_law (negsuc j) = by_none 11 j (pos 0) (pos 0) (pos 0) (omega arith) (omega arith) p.process_count few _ _ refl (rw (unknown_is (negsuc j) p.process_count few))

  status_law : GetStatus m k
  unfolding call_decision services stray_field D.checked C.get_status
  status_law (pos j) = by_id_holds 13 j (pos 0) (pos 0) (pos 0) (omega arith) (omega arith) p.process_count few _ _ refl (let x = process j p in Unchanged (cond x.started (cond (eqb j (running p)) 2 (cond (ready x) 1 3)) 0) x.times.deadline)
      (λ t. rw (unknown_is (pos j) p.process_count few, t)) (λ f b. rw (f, known m k u h j p.process_count b) (ap (λ s. Unchanged s (process j p).times.deadline) (flip (process j p).started 0 _))) (λ _ _ g. g)
  status_law (negsuc j) = by_none 13 j (pos 0) (pos 0) (pos 0) (omega arith) (omega arith) p.process_count few _ _ refl (rw (unknown_is (negsuc j) p.process_count few))

  -- t + a, or −1
  until_plain : (a : ℤ) → in_t a ≡ true → later (Some m.t) (time_of (field a)) ≡ plain_later (Some m.t) (time_in a)
  until_plain (pos n) t =
      let hi = (in_range_holds 0 9999999 n t).1 in
      rw (field_number n (omega arith)) (later_uncapped time_limit duration_limit (Some m.t) (Some n) u.time hi (omega arith))
  until_plain (negsuc zero) t = refl
  until_plain (negsuc (suc n)) t = refl

  timeout_is : (a : ℤ) → is_timeout (field a) ≡ in_t a
  timeout_is a = let l = lossless a in rw (l.is_minus_one, l.between 0 duration_limit (omega arith))

  -- the caller of a NORMAL partition
  caller : mode_number p.mode ≡ 3 → (Between 1 p.process_count (running p)) × (ready (process (running p) p) ≡ true)
  caller n = let c = running_caller p v.lists v.lock (h.runs n) in (c.created, c.is_ready)

  suspend_self_law : SuspendSelf m k
  unfolding call_decision services stray_field D.checked Passed D.blocked C.suspend_self
  suspend_self_law a = by_list 8 a (pos 0) (pos 0) (pos 0) (omega arith) (omega arith) refl _
      (cond (is_number 0 (field a)) D.unchanged (D.blocked p.level (running p) (suspended_until (later (Some m.t) (time_of (field a))) (process (running p) p)))) _
      (rw (periodic_is (process (running p) p), timeout_is a)) (λ q g.
      let normal = eqb-true _ 3 (not-false _ (or_left _ _ q.0)) in
      let t = until_plain a (not-false _ q.1.0) in (
        λ z. rw ((lossless a).is_number 0 (omega arith), z) at g,
        λ z. puts_stored _ 7 (running p) _ (caller normal).0 (rw ((lossless a).is_number 0 (omega arith), z, q.1.1.0, t) at g),
      ))

  timed_wait_law : TimedWait m k
  unfolding call_decision services stray_field D.checked Passed D.blocked C.timed_wait
  timed_wait_law a = by_list 9 a (pos 0) (pos 0) (pos 0) (omega arith) (omega arith) refl _
      (cond (is_number 0 (field a)) (D.changed (Last (running p))) (D.blocked p.level (running p) (waiting_for Timed (later (Some m.t) (time_of (field a))) (process (running p) p)))) _
      (rw ((lossless a).between 0 duration_limit (omega arith))) (λ q g.
      let normal = eqb-true _ 3 (not-false _ q.0) in
      let t = until_plain a (or_of_right (plain_minus_one a) _ (not-false _ q.1.0)) in (
        λ z. puts_is m k _ _ (rw ((lossless a).is_number 0 (omega arith), z) at g) (arrived_plain p v.lists (running p) (caller normal).1),
        λ z. puts_stored _ 7 (running p) _ (caller normal).0 (rw (timed a (not-false _ q.1.0) m.t) (rw ((lossless a).is_number 0 (omega arith), z, q.1.1.0, t) at g)),
      ))

  -- an event and a blackboard stored
  event_at_holds : (j : ℕ) → Between 1 p.event_count j → (up : Bool) → stored_event j (record { name = (event j p).name; up = up }) p ≡ with_event_at j up p
  event_at_holds j b up = let s : max p.event_count j ≡ p.event_count = omega (arith, b.1) in event_in j _ p (within_in event_limit j b.0 (omega (arith, b.1, v.objects.events.numbered.few))) ∙ rw s

  board_at_holds : (j : ℕ) → Between 1 p.blackboard_count j → (x : Option ℕ) → stored_blackboard j (record { name = (blackboard j p).name; message = x }) p ≡ with_board_at j x p
  board_at_holds j b x = let s : max p.blackboard_count j ≡ p.blackboard_count = omega (arith, b.1) in blackboard_in j _ p (within_in blackboard_limit j b.0 (omega (arith, b.1, v.objects.blackboards.numbered.few))) ∙ rw s

  semaphore_at : (j : ℕ) → Between 1 p.semaphore_count j → (n : ℕ) → stored_semaphore j (record { name = (semaphore j p).name; value = n; max = (semaphore j p).max }) p ≡ with_semaphore_at j n p
  semaphore_at j b n = let s : max p.semaphore_count j ≡ p.semaphore_count = omega (arith, b.1) in semaphore_in j _ p (within_in semaphore_limit j b.0 (omega (arith, b.1, v.objects.semaphores.numbered.few))) ∙ rw s

  few_semaphores : p.semaphore_count ≤ greatest_time
  few_semaphores = omega (arith, v.objects.semaphores.numbered.few)

  few_events : p.event_count ≤ greatest_time
  few_events = omega (arith, v.objects.events.numbered.few)

  few_blackboards : p.blackboard_count ≤ greatest_time
  few_blackboards = omega (arith, v.objects.blackboards.numbered.few)

  reset_event_law : ResetEvent m k
  unfolding call_decision services stray_field D.checked Ob.reset_event
  reset_event_law (pos j) = by_id_holds 19 j (pos 0) (pos 0) (pos 0) (omega arith) (omega arith) p.event_count few_events _ _ refl (D.changed (StoredEvent j (record { name = (event j p).name; up = false })))
      (λ t. rw (unknown_is (pos j) p.event_count few_events, t)) (λ f b. rw (f, known m k u h j p.event_count b)) (λ b _ g. puts_is m k _ _ g (event_at_holds j b false))
  reset_event_law (negsuc j) = by_none 19 j (pos 0) (pos 0) (pos 0) (omega arith) (omega arith) p.event_count few_events _ _ refl (rw (unknown_is (negsuc j) p.event_count few_events))

  set_event_law : SetEvent m k
  unfolding call_decision services stray_field D.checked Ob.set_event
  set_event_law (pos j) = by_id_holds 18 j (pos 0) (pos 0) (pos 0) (omega arith) (omega arith) p.event_count few_events _ _ refl (Changed (StoredEvent j (record { name = (event j p).name; up = true })) (Ended (object (Event j))) 0)
      (λ t. rw (unknown_is (pos j) p.event_count few_events, t)) (λ f b. rw (f, known m k u h j p.event_count b)) (λ b _ g.
      let o = object (Event j) in
      let q = with_event_at j true p in
      let same = event_queue p v.lists o (λ z. omega arith) j (record { name = (event j p).name; up = true }) in
      puts_is m k _ _ g (rw (same, event_at_holds j b true) (all_plain served (waiters o p) q v.lists (waiters_created p v.lists o))))
  set_event_law (negsuc j) = by_none 18 j (pos 0) (pos 0) (pos 0) (omega arith) (omega arith) p.event_count few_events _ _ refl (rw (unknown_is (negsuc j) p.event_count few_events))

  clear_law : Clear m k
  unfolding call_decision services stray_field D.checked Bb.clear
  clear_law (pos j) = by_id_holds 29 j (pos 0) (pos 0) (pos 0) (omega arith) (omega arith) p.blackboard_count few_blackboards _ _ refl (D.changed (StoredBlackboard j (record { name = (blackboard j p).name; message = None })))
      (λ t. rw (unknown_is (pos j) p.blackboard_count few_blackboards, t)) (λ f b. rw (f, known m k u h j p.blackboard_count b)) (λ b _ g. puts_is m k _ _ g (board_at_holds j b None))
  clear_law (negsuc j) = by_none 29 j (pos 0) (pos 0) (pos 0) (omega arith) (omega arith) p.blackboard_count few_blackboards _ _ refl (rw (unknown_is (negsuc j) p.blackboard_count few_blackboards))

  signal_law : Signal m k
  unfolding call_decision services stray_field D.checked Ob.signal Ob.signalled
  signal_law (pos j) = by_id_holds 16 j (pos 0) (pos 0) (pos 0) (omega arith) (omega arith) p.semaphore_count few_semaphores _ _ refl (D.changed (Ob.signalled (waiters (object (Semaphore j)) p) j p))
      (λ t. rw (unknown_is (pos j) p.semaphore_count few_semaphores, t)) (λ f b. rw (f, known m k u h j p.semaphore_count b)) (λ b _ g. (
        λ w.
            let t = v.objects.semaphores.each j b in
            let more = lt-ltb (semaphore j p).value greatest_value (omega (arith, t.value, t.max.1)) in
            puts_is m k _ _ (rw (w, more) at g) (semaphore_at j b ((semaphore j p).value + 1)),
        λ id rest w. puts_stored _ 0 id _ (first_created (object (Semaphore j)) (λ z. omega arith) p v.lists id rest w) (rw w at g),
      ))
  signal_law (negsuc j) = by_none 16 j (pos 0) (pos 0) (pos 0) (omega arith) (omega arith) p.semaphore_count few_semaphores _ _ refl (rw (unknown_is (negsuc j) p.semaphore_count few_semaphores))

  show_law : Show m k
  unfolding call_decision services stray_field D.checked Passed Bb.show
  show_law (pos j) b = by_id_holds 27 j b (pos 0) (pos 0) (omega arith) (omega arith) p.blackboard_count few_blackboards _ _ refl
      (Changed (StoredBlackboard j (record { name = (blackboard j p).name; message = Some (number_of (field b)) })) (Handed (object (Blackboard j)) (number_of (field b))) 0)
      (λ t. rw (unknown_is (pos j) p.blackboard_count few_blackboards, t)) (λ f r. rw (f, known m k u h j p.blackboard_count r, (lossless b).between 0 duration_limit (omega arith))) (λ r q g.
      let o = object (Blackboard j) in
      let is = number_in 0 duration_limit b (omega arith) (not-false _ q.0) in
      let same = blackboard_queue p v.lists o (λ z. omega arith) j (record { name = (blackboard j p).name; message = Some (id_of b) }) in
      puts_is m k _ _ (rw is at g) (rw (same, board_at_holds j r (Some (id_of b))) (all_plain (handed (id_of b)) (waiters o p) (with_board_at j (Some (id_of b)) p) v.lists (waiters_created p v.lists o))))
  show_law (negsuc j) b = by_none 27 j b (pos 0) (pos 0) (omega arith) (omega arith) p.blackboard_count few_blackboards _ _ refl (rw (unknown_is (negsuc j) p.blackboard_count few_blackboards))

  -- a call that waits
  module _ (n : ℕ) (x y z e : ℤ) (lo : 1 ≤ n) (hi : n ≤ call_limit) (stray : stray_field (service_of n).fields (asked m k u h n (field x) (field y) (field z) (field e)) ≡ false) where
    waiting : (a : ℤ) (before : List (Bool × ℕ)) (ok available : Bool) (success : Decision) (w : Wait) (S : Type 0)
        → decides m k u h n x y z e lo hi ≡ D.checked Refused (before ++ ((not (eqb (mode_number p.mode) 3), 5) ∷ (not ok, 3) ∷ [])) (cond available success (D.queued (context_of m k) (field a) w p))
        → (ok ≡ true → in_t a ≡ true)
        → (Passed before → ok ≡ true → available ≡ true → Gives m (call_by k n x y z e) (reply_of success).code (reply_of success).value (reply_of success).extra (module_after m k success) → S)
        → MayWait m k (call_by k n x y z e) before ok a available S w
    unfolding Passed D.queued D.blocked D.checked
    waiting a before ok available success w S is t f =
        by_list n x y z e lo hi stray _ (cond available success (D.queued (context_of m k) (field a) w p)) _ is (λ q g.
        let passed = passed_parts before ((not (eqb (mode_number p.mode) 3), 5) ∷ (not ok, 3) ∷ []) q in
        let r = passed.1 in
        let until = until_plain a (t (not-false _ r.1.0)) in (
          λ av. f passed.0 (not-false _ r.1.0) av (rw av at g),
          λ av. by_list n x y z e lo hi stray _ (Blocked (running p) (waiting_for w (plain_later (Some m.t) (time_in a)) (process (running p) p))) _
              (is ∙ passed_is (before ++ ((not (eqb (mode_number p.mode) 3), 5) ∷ (not ok, 3) ∷ [])) (cond available success (D.queued (context_of m k) (field a) w p)) q ∙ rw (av, until, (lossless a).is_number 0 (omega arith)))
              (λ _ g. puts_stored _ 7 (running p) _ (caller (eqb-true _ 3 (not-false _ r.0))).0 g),
        ))

  buffer_at : (j : ℕ) → (r : Between 1 p.buffer_count j) → (a : Transfer) → SoundMove (buffer j p).limit (buffer j p).queue a → stored_buffer j (moved_in a (buffer j p)) p ≡ with_buffer_at j (plain_moved a (held (buffer j p).queue)) p
  buffer_at j r a s =
      let count : max p.buffer_count j ≡ p.buffer_count = omega (arith, r.1) in
      buffer_in j _ p (within_in buffer_limit j r.0 (omega (arith, r.1, v.objects.buffers.numbered.few))) ∙ rw (count, moved_in_plain (buffer j p) (v.objects.buffers.each j r) a s)

  -- another form of the record
  gives_is : {e : EventT} {code value : ℕ} {extra : Time} {q r : Module} → Gives m e code value extra q → q ≡ r → Gives m e code value extra r
  gives_is g is = record { code_is = g.code_is; value_is = g.value_is; extra_is = g.extra_is; state = g.state ∙ is }

  -- another value
  gives_value : {e : EventT} {x y : ℕ} {q : Module} → x ≡ y → Gives m e 0 x (Some 0) q → Gives m e 0 y (Some 0) q
  gives_value is g = record { code_is = g.code_is; value_is = g.value_is ∙ is; extra_is = g.extra_is; state = g.state }

  few_buffers : p.buffer_count ≤ greatest_time
  few_buffers = omega (arith, v.objects.buffers.numbered.few)

  wait_semaphore_law : WaitSemaphore m k
  unfolding call_decision services stray_field D.checked D.awaiting Ob.wait_semaphore
  wait_semaphore_law (pos j) a = by_then 15 j a (pos 0) (pos 0) (omega arith) (omega arith) p.semaphore_count few_semaphores _ _ refl (λ t. rw (unknown_is (pos j) p.semaphore_count few_semaphores, t)) (λ f r.
      waiting 15 (pos j) a (pos 0) (pos 0) (omega arith) (omega arith) refl a [] (in_t a) (ltb 0 (semaphore j p).value) (D.changed (Ob.with_value j ((semaphore j p).value - 1) p)) (Semaphore j) _
      (rw (f, known m k u h j p.semaphore_count r, timeout_is a)) (λ o. o) (λ _ _ _ g. puts_is m k _ _ g (semaphore_at j r ((semaphore j p).value - 1))))
  wait_semaphore_law (negsuc j) a = by_none 15 j a (pos 0) (pos 0) (omega arith) (omega arith) p.semaphore_count few_semaphores _ _ refl (rw (unknown_is (negsuc j) p.semaphore_count few_semaphores))

  wait_event_law : WaitEvent m k
  unfolding call_decision services stray_field D.checked D.awaiting Ob.wait_event
  wait_event_law (pos j) a = by_then 20 j a (pos 0) (pos 0) (omega arith) (omega arith) p.event_count few_events _ _ refl (λ t. rw (unknown_is (pos j) p.event_count few_events, t)) (λ f r.
      waiting 20 (pos j) a (pos 0) (pos 0) (omega arith) (omega arith) refl a [] (in_t a) (event j p).up D.unchanged (Event j) _
      (rw (f, known m k u h j p.event_count r, timeout_is a)) (λ o. o) (λ _ _ _ g. g))
  wait_event_law (negsuc j) a = by_none 20 j a (pos 0) (pos 0) (omega arith) (omega arith) p.event_count few_events _ _ refl (rw (unknown_is (negsuc j) p.event_count few_events))

  receive_buffer_law : ReceiveBuffer m k
  unfolding call_decision services stray_field D.checked D.awaiting Bu.receive_buffer received
  receive_buffer_law (pos j) a = by_then 25 j a (pos 0) (pos 0) (omega arith) (omega arith) p.buffer_count few_buffers _ _ refl (λ t. rw (unknown_is (pos j) p.buffer_count few_buffers, t)) (λ f r.
      waiting 25 (pos j) a (pos 0) (pos 0) (omega arith) (omega arith) refl a [] (in_t a) (ltb 0 (buffer j p).queue.len) (Bu.receives (first_waiter (object (Sending j 0)) p) j p) (Receiving j) _
      (rw (f, known m k u h j p.buffer_count r, timeout_is a)) (λ o. o) (λ _ _ av g b l is.
      let s = v.objects.buffers.each j r in
      let some : 1 ≤ (buffer j p).queue.len = ltb-true 0 (buffer j p).queue.len av in
      let value = queue_first (buffer j p).limit (buffer j p).queue s.queue ∙ ap (λ (t : List ℕ). get_or t 0 0) is in (
        λ w. gives_value value (puts_is m k (stored_buffer j (moved_in Taken (buffer j p)) p) (with_buffer_at j l p) (rw w at g) (buffer_at j r Taken some ∙ ap (λ (t : List ℕ). with_buffer_at j (drop 1 t) p) is)),
        λ id rest w.
            let o = object (Sending j 0) in
            let c = first_created o (λ z. omega arith) p v.lists id rest w in
            let a = LetIn id (carried (process id p)) in
            let small = carried_sound _ (process id p) (v.each_process id c) in
            let at : stored_buffer j (moved_in a (buffer j p)) p ≡ with_buffer_at j (l ++ (carried (process id p) ∷ [])) p = buffer_at j r a (some, small) ∙ ap (λ (t : List ℕ). with_buffer_at j (drop 1 t ++ (carried (process id p) ∷ [])) p) is in
            let full = with_buffer_at j (l ++ (carried (process id p) ∷ [])) p in
            let x = let_go (process id p) in
            gives_value value (puts_is m k (stored id x full) (plain_stored id x full) (rw (w, ne_eqb id 0 (λ z. omega (arith, c.0)), at) at g) (stored_plain full v.lists id c x)),
      )))
  receive_buffer_law (negsuc j) a = by_none 25 j a (pos 0) (pos 0) (omega arith) (omega arith) p.buffer_count few_buffers _ _ refl (rw (unknown_is (negsuc j) p.buffer_count few_buffers))

  read_blackboard_law : ReadBlackboard m k
  unfolding call_decision services stray_field D.checked D.awaiting Bb.read_blackboard
  read_blackboard_law (pos j) a = by_then 28 j a (pos 0) (pos 0) (omega arith) (omega arith) p.blackboard_count few_blackboards _ _ refl (λ t. rw (unknown_is (pos j) p.blackboard_count few_blackboards, t)) (λ f r.
      waiting 28 (pos j) a (pos 0) (pos 0) (omega arith) (omega arith) refl a [] (in_t a) (is_some (blackboard j p).message) (Unchanged (unwrap_or (blackboard j p).message 0) (Some 0)) (Blackboard j) _
      (rw (f, known m k u h j p.blackboard_count r, timeout_is a)) (λ o. o) (λ _ _ _ g. g))
  read_blackboard_law (negsuc j) a = by_none 28 j a (pos 0) (pos 0) (omega arith) (omega arith) p.blackboard_count few_blackboards _ _ refl (rw (unknown_is (negsuc j) p.blackboard_count few_blackboards))

  send_buffer_law : SendBuffer m k
  unfolding call_decision services stray_field D.checked D.awaiting Bu.send_buffer sent
  send_buffer_law (pos j) b a = by_then 24 j b a (pos 0) (omega arith) (omega arith) p.buffer_count few_buffers _ _ refl (λ t. rw (unknown_is (pos j) p.buffer_count few_buffers, t)) (λ f r.
      waiting 24 (pos j) b a (pos 0) (omega arith) (omega arith) refl a [] (in_d b && in_t a) (ltb (buffer j p).queue.len (buffer j p).limit) (D.changed (Moved j (sent (first_waiter (object (Receiving j)) p) (id_of b)))) (Sending j (id_of b)) _
      (either (in_d b) (λ o. rw (f, known m k u h j p.buffer_count r, number_in 0 duration_limit b (omega arith) o, (lossless b).between 0 duration_limit (omega arith), o, timeout_is a)) (λ o. rw (f, known m k u h j p.buffer_count r, (lossless b).between 0 duration_limit (omega arith), o))) (λ o. and_right (in_d b) _ o) (λ _ o av g. (
        λ w. puts_is m k _ _ (rw w at g) (buffer_at j r (Put (id_of b)) (ltb-true _ _ av, in_d_holds b (and_left (in_d b) _ o))),
        λ id rest w.
            let c = first_created (object (Receiving j)) (λ z. omega arith) p v.lists id rest w in
            puts_stored _ 0 id _ c (rw (w, ne_eqb id 0 (λ z. omega (arith, c.0)), Mo.handed_same m.table.frame m.t p v j r id (id_of b)) at g),
      )))
  send_buffer_law (negsuc j) b a = by_none 24 j b a (pos 0) (omega arith) (omega arith) p.buffer_count few_buffers _ _ refl (rw (unknown_is (negsuc j) p.buffer_count few_buffers))

  -- ---------------------------------------------------------------- channels
  abbrev count : ℕ
  count = m.table.channel_count

  few_channels : count ≤ greatest_time
  few_channels = omega (arith, u.table.channel_count)

  -- a channel by its number
  module _ (j : ℕ) (r : Between 1 count j) where
    there_is : j - 1 < count
    there_is = omega (arith, r.0, r.1)

    kind : Ch.queuing (channel m.table (j - 1)) ≡ ltb 0 (channel m.table (j - 1)).size
    kind = queuing_plain m.table u.table (j - 1) there_is

    exists : (leb 1 j && leb j count) ≡ true
    exists = rw (le-leb 1 j r.0, le-leb j count r.1)

    low : ltb (j - 1) channel_limit ≡ true
    low = lt-ltb (j - 1) channel_limit (omega (arith, there_is, u.table.channel_count))

    place : j - 1 + 1 ≡ j
    place = omega (arith, r.0)

    few_messages : (channel m.table (j - 1)).size ≤ message_limit
    few_messages = let g = (u.table.each_channel (j - 1) there_is).room in omega arith

    -- at the destination it is not the source
    apart_ends : (k : ℕ) → eqb (channel m.table (j - 1)).destination k ≡ true → eqb (channel m.table (j - 1)).source k ≡ false
    apart_ends k t = ne_eqb _ k (λ z. (u.table.each_channel (j - 1) there_is).apart (z ∙ sym (eqb-true _ k t)))

  -- the partition at the other end
  other_valid : (n : ℕ) → Between 1 m.table.size n → Valid m.table.frame m.t (own m n)
  other_valid n b = u.each_partition (n - 1) (omega (arith, b.0, b.1))

  write_law : Write m k
  unfolding call_decision services stray_field D.checked Passed D.awaiting Ch.channel_checks Ch.write
  write_law (pos j) a = by_then 21 j a (pos 0) (pos 0) (omega arith) (omega arith) count few_channels _ _ refl (λ t. rw ((lossless (pos j)).between 1 count few_channels, t)) (λ f r.
      by_list 21 (pos j) a (pos 0) (pos 0) (omega arith) (omega arith) refl _ (Written (j - 1) (record { value = number_of (field a); written = m.t })) _
      (rw (f, exists j r, kind j r, (lossless a).between 0 duration_limit (omega arith)))
      (λ q g. rw (number_in 0 duration_limit a (omega arith) (not-false _ q.1.1.1.0)) at g))
  write_law (negsuc j) a = by_none 21 j a (pos 0) (pos 0) (omega arith) (omega arith) count few_channels _ _ refl (rw ((lossless (negsuc j)).between 1 count few_channels))

  read_law : Read m k
  unfolding call_decision services stray_field D.checked Passed D.awaiting Ch.channel_checks Ch.read
  read_law (pos j) = by_then 22 j (pos 0) (pos 0) (pos 0) (omega arith) (omega arith) count few_channels _ _ refl (λ t. rw ((lossless (pos j)).between 1 count few_channels, t)) (λ f r.
      let c = channel m.table (j - 1) in
      let x = message m (j - 1) in
      let y = unwrap_or x (record { value = 0; written = 0 }) in
      by_list 22 (pos j) (pos 0) (pos 0) (pos 0) (omega arith) (omega arith) refl _ (Unchanged y.value (Some (cond (leb (m.t - y.written) c.refresh) 1 0))) _
      (either (eqb c.destination k) (λ d. rw (f, exists j r, kind j r, d)) (λ d. rw (f, exists j r, kind j r, d))) (λ _ g. g))
  read_law (negsuc j) = by_none 22 j (pos 0) (pos 0) (pos 0) (omega arith) (omega arith) count few_channels _ _ refl (rw ((lossless (negsuc j)).between 1 count few_channels))

  send_law : Send m k
  unfolding call_decision services stray_field D.checked Passed D.awaiting Ch.channel_checks Ch.send sent
  send_law (pos j) b a = by_then 30 j b a (pos 0) (omega arith) (omega arith) count few_channels _ _ refl (λ t. rw ((lossless (pos j)).between 1 count few_channels, t)) (λ f r.
      let c = channel m.table (j - 1) in
      waiting 30 (pos j) b a (pos 0) (omega arith) (omega arith) refl a ((not (ltb 0 c.size), 3) ∷ (not (eqb c.source k) && not (eqb c.destination k), 3) ∷ (not (eqb c.source k), 5) ∷ []) (in_d b && in_t a)
      (ltb (queue m (j - 1)).len c.size) (PassedOn (j - 1) (sent (first_waiter (object (Destination (j - 1 + 1))) (own m c.destination)) (id_of b)) 0) (Source j (id_of b)) _
      (either (in_d b)
      (λ o. either (ltb 0 c.size) (λ s. either (eqb c.source k)
      (λ t. rw (f, exists j r, lt-ltb (j - 1) count (there_is j r), kind j r, low j r, s, t, number_in 0 duration_limit b (omega arith) o, (lossless b).between 0 duration_limit (omega arith), o, timeout_is a) (rw (place j r)))
      (λ t. rw (f, exists j r, kind j r, low j r, s, t)))
      (λ s. rw (f, exists j r, kind j r, s)))
      (λ o. rw (f, exists j r, kind j r, low j r, (lossless b).between 0 duration_limit (omega arith), o) (rw (and-true (ltb 0 c.size)))))
      (λ o. and_right (in_d b) _ o) (λ before o av g.
      let from = not-false (eqb c.source k) before.1.1.0 in
      let q = queue m (j - 1) in
      let sound = u.each_queue (j - 1) in
      let fits = few_messages j r in
      let there = own m c.destination in (
        λ w. gives_is (rw (place j r, w) at g) (ap (λ (y : Queue). with_queue (j - 1) y m) (moved_plain c.size q sound fits (Put (id_of b)) (ltb-true q.len c.size av, in_d_holds b (and_left (in_d b) (in_t a) o)))),
        λ id rest w.
            let v = other_valid c.destination (u.table.each_channel (j - 1) (there_is j r)).destination in
            let created = first_created (object (Destination j)) (λ z. omega arith) there v.lists id rest w in
            let x = wait_over 0 (id_of b) (process id there) in
            gives_is (rw (place j r, w, ne_eqb id 0 (λ z. omega (arith, created.0)), from) at g)
            (ap (λ (l : List Queue). with_part (c.destination - 1) (stored id x there) (record { table = m.table; t = m.t; messages = m.messages; queues = l; partitions = m.partitions })) (set-get_or m.queues (j - 1) no_queue)
            ∙ ap (λ (y : Partition). with_part (c.destination - 1) y m) (stored_plain there v.lists id created x)),
      )))
  send_law (negsuc j) b a = by_none 30 j b a (pos 0) (omega arith) (omega arith) count few_channels _ _ refl (rw ((lossless (negsuc j)).between 1 count few_channels))

  receive_law : Receive m k
  unfolding call_decision services stray_field D.checked Passed D.awaiting Ch.channel_checks Ch.receive received
  receive_law (pos j) a = by_then 31 j a (pos 0) (pos 0) (omega arith) (omega arith) count few_channels _ _ refl (λ t. rw ((lossless (pos j)).between 1 count few_channels, t)) (λ f r.
      let c = channel m.table (j - 1) in
      let id = first_waiter (object (Source (j - 1 + 1) 0)) (own m c.source) in
      waiting 31 (pos j) a (pos 0) (pos 0) (omega arith) (omega arith) refl a ((not (ltb 0 c.size), 3) ∷ (not (eqb c.source k) && not (eqb c.destination k), 3) ∷ (not (eqb c.destination k), 5) ∷ []) (in_t a)
      (ltb 0 (queue m (j - 1)).len) (PassedOn (j - 1) (received id (carried (process id (own m c.source)))) (first (queue m (j - 1)))) (Destination j) _
      (either (ltb 0 c.size) (λ s. either (eqb c.destination k)
      (λ t.
      let other = apart_ends j r k t in
      rw (f, exists j r, lt-ltb (j - 1) count (there_is j r), kind j r, low j r, s, t, other, timeout_is a) (rw (place j r)))
      (λ t. rw (f, exists j r, kind j r, low j r, s, t)))
      (λ s. rw (f, exists j r, kind j r, s)))
      (λ o. o) (λ before _ av g b l is.
      let to = not-false (eqb c.destination k) before.1.1.0 in
      let other : eqb c.source k ≡ false = apart_ends j r k to in
      let q = queue m (j - 1) in
      let sound = u.each_queue (j - 1) in
      let fits = few_messages j r in
      let some = ltb-true 0 q.len av in
      let there = own m c.source in
      let value : first q ≡ b = queue_first c.size q sound ∙ ap (λ (t : List ℕ). get_or t 0 0) is in (
        λ w. gives_value value (gives_is (rw (place j r, w) at g) (ap (λ (y : Queue). with_queue (j - 1) y m) (moved_plain c.size q sound fits Taken some ∙ ap (λ (t : List ℕ). queue_of (drop 1 t)) is))),
        λ id rest w.
            let v = other_valid c.source (u.table.each_channel (j - 1) (there_is j r)).source in
            let created = first_created (object (Source j 0)) (λ z. omega arith) there v.lists id rest w in
            let x = let_go (process id there) in
            let n = carried (process id there) in
            let small = carried_sound _ (process id there) (v.each_process id created) in
            gives_value value (gives_is (rw (place j r, w, ne_eqb id 0 (λ z. omega (arith, created.0)), other) at g)
            (ap (λ (y : Queue). with_part (c.source - 1) (stored id x there) (with_queue (j - 1) y m)) (moved_plain c.size q sound fits (LetIn id n) (some, small) ∙ ap (λ (t : List ℕ). queue_of (drop 1 t ++ (n ∷ []))) is)
            ∙ ap (λ (y : Partition). with_part (c.source - 1) y (with_queue (j - 1) (queue_of (l ++ (n ∷ []))) m)) (stored_plain there v.lists id created x))),
      )))
  receive_law (negsuc j) a = by_none 31 j a (pos 0) (pos 0) (omega arith) (omega arith) count few_channels _ _ refl (rw ((lossless (negsuc j)).between 1 count few_channels))

  -- ---------------------------------------------------------------- starting
  long_is : (delay : ℤ) (period : Time) → (not (in_d delay) || C.reaches period (number_of (field delay))) ≡ (not (in_d delay) || too_long (id_of delay) period)
  long_is delay period = either (in_d delay) (λ o. rw (o, number_in 0 duration_limit delay (omega arith) o) (same period)) (λ o. rw o)
    where
      same : (period : Time) → C.reaches period (id_of delay) ≡ too_long (id_of delay) period
      same None = refl
      same (Some n) = refl

  -- the start rule of an aperiodic process
  aperiodic_is : (j n : ℕ) → Between 1 p.process_count j → n ≤ duration_limit → (process j p).given.period ≡ None → start_rule (context_of m k) n (process j p) ≡ started_at m.t n (process j p).given.base false (process j p)
  unfolding start_rule
  aperiodic_is j n b low never =
      let x = process j p in
      let c = x.given.capacity in
      let at = later_uncapped time_limit duration_limit (Some m.t) (Some n) u.time low (omega arith) in
      let d = later_uncapped (time_limit + duration_limit) duration_limit (Some (m.t + n)) c (omega (arith, u.time)) (capacity_bound x.given.period c (v.each_process j b).lasting.given.capacity) (omega arith) in
      rw (never, at, d) (either (eqb n 0) (λ e. rw e) (λ e. rw e))

  period_low : (id n : ℕ) → Between 1 p.process_count id → (process id p).given.period ≡ Some n → Between 1 duration_limit n
  period_low id n b e = (rw e at (v.each_process id b).lasting.given.period).0

  -- the start rule of a periodic process, where r is the next release point
  released_is : (r : ℕ) → Release m.table k m.t r → (id delay n : ℕ) → Between 1 p.process_count id → (process id p).given.period ≡ Some n → delay ≤ duration_limit
      → start_rule (context_of m k) delay (process id p) ≡ awaits_release (r + delay) (process id p).times.delay (process id p).given.base false false (process id p)
  unfolding start_rule
  released_is r f id delay n b e short =
      let l = (v.each_process id b).lasting in
      let c = context_of m k in
      let is : c.release ≡ r = release_one m.table u.table m.t k _ r (release_earliest m.table u.table m.t k (h.some, calling_low m k u h) u.time) f in
      rw (e, release_deadline_plain c p (calling_context m k u h) (process id p) l delay short, release_point_plain c p (calling_context m k u h) (process id p) l delay short, is)

  -- a DORMANT process is stored: it is not READY and waits on no object, before and after
  dormant_stored : (id : ℕ) → Between 1 p.process_count id → (process id p).started ≡ false → (x : Process) → ready x ≡ false → on_object x ≡ false → stored id x p ≡ with_process id x p.arrival p
  dormant_stored id b off x unready free = stored_steady p v.lists id b x (rw off (sym unready)) (rw ((v.each_process id b).dormant off).wait (sym free))

  module _ (n j : ℕ) (delay : ℤ) (lo : 1 ≤ n) (hi : n ≤ call_limit) (e : ℤ) (stray : stray_field (service_of n).fields (asked m k u h n (field (pos j)) (field e) (Number 0) (Number 0)) ≡ false) where
    starts_by : (not (plain_between 1 p.process_count (pos j)) ≡ true → decides m k u h n (pos j) e (pos 0) (pos 0) lo hi ≡ Refused 3)
        → (field (pos j) ≡ Number j → decides m k u h n (pos j) e (pos 0) (pos 0) lo hi ≡ C.start (context_of m k) j (field delay) p)
        → Starts m k (call_by k n (pos j) e (pos 0) (pos 0)) (pos j) delay
    unfolding Passed D.checked C.start
    starts_by none is = by_id_holds n j e (pos 0) (pos 0) lo hi p.process_count few _ _ stray
        (D.changed (Stored j (cond (normal_mode p) (start_rule (context_of m k) (number_of (field delay)) (process j p)) (started_early (number_of (field delay)) (process j p))))) none
        (λ f b. is f ∙ rw (known m k u h j p.process_count b, (lossless delay).between 0 duration_limit (omega arith), long_is delay (process j p).given.period, twice (process j p).started)) (λ b q g.
        let d = not-false _ (or_left _ _ q.0) in
        let g = rw (number_in 0 duration_limit delay (omega arith) d) at g in (
          λ early. puts_is m k _ _ (rw (normal_not m k u h early) at g) (dormant_stored j b q.1.0 _ refl refl),
          λ normal never. puts_stored _ 0 j _ b (rw (normal_is m k u h normal, aperiodic_is j (id_of delay) b (in_d_holds delay d) never) at g),
          λ i r normal e f. puts_is m k _ _ (rw (normal_is m k u h normal, released_is r f j (id_of delay) i b e (in_d_holds delay d)) at g) (dormant_stored j b q.1.0 _ refl refl),
        ))

  start_law : Start m k
  unfolding call_decision services stray_field D.checked C.start
  start_law (pos j) = starts_by 3 j (pos 0) (omega arith) (omega arith) (pos 0) refl (λ t. rw (unknown_is (pos j) p.process_count few, t)) (λ f. rw f)
  start_law (negsuc j) = by_none 3 j (pos 0) (pos 0) (pos 0) (omega arith) (omega arith) p.process_count few _ _ refl (rw (unknown_is (negsuc j) p.process_count few))

  delayed_law : DelayedStart m k
  unfolding call_decision services stray_field D.checked C.start
  delayed_law (pos j) delay = starts_by 4 j delay (omega arith) (omega arith) delay refl (λ t. rw (unknown_is (pos j) p.process_count few, t)) (λ f. rw f)
  delayed_law (negsuc j) delay = by_none 4 j delay (pos 0) (pos 0) (omega arith) (omega arith) p.process_count few _ _ refl (rw (unknown_is (negsuc j) p.process_count few))

  -- ---------------------------------------------------------------- priorities, PERIODIC_WAIT
  -- a READY one goes to the end
  last : (id : ℕ) → Between 1 p.process_count id → (n : ℕ) → let y = with_priority n (process id p) in
      applied (cond (ready (process id p)) (Last id) Nothing) (stored id y p) ≡ with_process id y (cond (ready (process id p)) (at_end id p.arrival) p.arrival) p
  last id b n =
      let y = with_priority n (process id p) in
      let same = stored_steady p v.lists id b y refl refl in
      either (ready (process id p))
      (λ r. rw r (arrived_plain (stored id y p) (stored_listed p id y v.lists b) id (ap ready (process_stored p id y v.lists b) ∙ r) ∙ rw same))
      (λ r. rw r same)

  set_priority_law : SetPriority m k
  unfolding call_decision services stray_field D.checked Passed C.set_priority
  set_priority_law (pos j) a = by_id_holds 12 j a (pos 0) (pos 0) (omega arith) (omega arith) p.process_count few _ _ refl (Changed (Stored j (with_priority (number_of (field a)) (process j p))) (cond (ready (process j p)) (Last j) Nothing) 0)
      (λ t. rw (unknown_is (pos j) p.process_count few, t)) (λ f b. rw (f, known m k u h j p.process_count b, (lossless a).between 1 239 (omega arith)))
      (λ b q g. puts_is m k _ _ (rw (number_in 1 239 a (omega arith) (not-false _ q.0)) at g) (last j b (id_of a)))
  set_priority_law (negsuc j) a = by_none 12 j a (pos 0) (pos 0) (omega arith) (omega arith) p.process_count few _ _ refl (rw (unknown_is (negsuc j) p.process_count few))

  periodic_wait_law : PeriodicWait m k
  unfolding call_decision services stray_field D.checked Passed D.blocked C.periodic_wait
  periodic_wait_law = by_list 10 (pos 0) (pos 0) (pos 0) (pos 0) (omega arith) (omega arith) refl _ (Blocked (running p) (next_release (process (running p) p))) _ (rw (periodic_is (process (running p) p))) (λ q g r n e f.
      let normal = eqb-true _ 3 (not-false _ (or_left _ _ q.0)) in
      let c = caller normal in
      let x = process (running p) p in
      let s = setting_of m.table.frame m.t p in
      let next = next_plain s x (v.each_process (running p) c.0) (normal_is m k u h normal) c.1 u.time (rw f) ∙ ap₂ plain_later e f in
      let last = next_deadline_plain s x (v.each_process (running p) c.0) (normal_is m k u h normal) c.1 u.time (rw f) ∙ ap (λ (t : Time). plain_later t x.given.capacity) (ap₂ plain_later e f) in
      puts_is m k _ _ (rw (last, next) at g) (stored_leaves p v.lists (running p) c.0 (awaits_next (r + n) x) c.1 (rw (and-false (not x.suspended)) (and-false x.started)) (rw (ready_off x c.1))))

  -- ---------------------------------------------------------------- the preemption lock, ticks left
  lock_law : LockPreemption m k
  unfolding call_decision services stray_field D.checked C.lock_preemption
  lock_law = by_list 32 (pos 0) (pos 0) (pos 0) (pos 0) (omega arith) (omega arith) refl _ (D.changed (LevelSet (p.level + 1) (cond (eqb p.level 0) (running p) p.holder))) _ (rw (full, holder)) (λ _ g. g)
    where
      full : leb level_limit p.level ≡ eqb p.level 16
      full = either (eqb p.level 16)
          (λ e. rw (e, le-leb level_limit p.level (omega (arith, eqb-true p.level 16 e))))
          (λ e. rw (e, lt-leb level_limit p.level (omega (arith, v.lock.few, eqb-false p.level 16 e))))

      holder : cond (ltb 0 p.level) p.holder (running p) ≡ cond (eqb p.level 0) (running p) p.holder
      holder = either (eqb p.level 0)
          (λ e. rw (e, le-ltb 0 p.level (omega (arith, eqb-true p.level 0 e))))
          (λ e. rw (e, lt-ltb 0 p.level (omega (arith, eqb-false p.level 0 e))))

  unlock_law : UnlockPreemption m k
  unfolding call_decision services stray_field D.checked C.unlock_preemption
  unlock_law = by_list 33 (pos 0) (pos 0) (pos 0) (pos 0) (omega arith) (omega arith) refl _ (D.changed (LevelSet (p.level - 1) (cond (eqb p.level 1) 0 p.holder))) _ (rw (free, holder)) (λ _ g. g)
    where
      free : not (ltb 0 p.level) ≡ eqb p.level 0
      free = either (eqb p.level 0)
          (λ e. rw (e, le-ltb 0 p.level (omega (arith, eqb-true p.level 0 e))))
          (λ e. rw (e, lt-ltb 0 p.level (omega (arith, eqb-false p.level 0 e))))

      holder : cond (ltb 0 (p.level - 1)) p.holder 0 ≡ cond (eqb p.level 1) 0 p.holder
      holder = either (ltb 0 (p.level - 1))
          (λ e. rw (e, ne_eqb p.level 1 (λ z. omega (arith, ltb-true 0 (p.level - 1) e))))
          (λ e. either (eqb p.level 1) (λ o. rw (e, o)) (λ o. rw (e, o) (sym (v.lock.free (omega (arith, ltb-false 0 (p.level - 1) e, eqb-false p.level 1 o))))))

  ticks_left_law : GetTicksLeft m k
  unfolding call_decision services stray_field C.get_ticks_left
  ticks_left_law =
      let x = m.t % m.table.frame in
      let l = window_left_holds m.table u.table m.t in (
        gives m k u h 34 (pos 0) (pos 0) (pos 0) (pos 0) (omega arith) (omega arith) refl (Unchanged (ticks_left m) (Some 0)) refl,
        ⊎_elim
            (λ (c : Covered (windows m.table) x).
            let e = l.window c.at c.inside c.covered in
            record { at = c.at; inside = c.inside; owner = sym e.0 ∙ h.now; covered = c.covered; ends = e.1 })
            (λ (f : Uncovered (windows m.table) x). absurd (omega (arith, (l.gap f).0, h.now, h.some)))
            (covered_or_none x (windows m.table)),
      )

  -- ---------------------------------------------------------------- creating
  -- the names of those created
  module _ {A : Type 0} (name_of : A → ℕ) (name : ℤ) (d : A) where
    taken_is : (l : List A) → ((i : ℕ) → i < length l → name_of (get_or l i d) ≤ greatest_time) → D.name_taken name_of (field name) l ≡ named name (map name_of l)
    unfolding D.name_taken named
    taken_is [] f = refl
    taken_is (x ∷ l) f = rw ((lossless name).is_number (name_of x) (f 0 (omega arith))) (ap (λ b. plain_number (name_of x) name || b) (taken_is l (λ i h. f (suc i) (omega arith))))

    names_are : (limit n : ℕ) (l : List A) → Numbered limit d l n → ((id : ℕ) → Between 1 n id → name_of (by_id limit d id l) ≤ 255) → D.name_taken name_of (field name) (take n l) ≡ named name (map name_of (take n l))
    names_are limit n l s f = taken_is (take n l) (λ i h.
        let lt : i < n = omega (arith, length-take n l) in
        let z : i + 1 - 1 ≡ i = omega arith in
        let is : by_id limit d (i + 1) l ≡ get_or (take n l) i d = named_in limit (i + 1) d l (within_in limit (i + 1) (omega arith) (omega (arith, s.few))) ∙ ap (λ (j : ℕ). get_or l j d) z ∙ sym (get_or-take n l i d lt) in
        let low = f (i + 1) (omega arith, omega arith) in
        rw is at (at_most (name_of (by_id limit d (i + 1) l)) low))

  next_stored : (n : ℕ) → (n + 1 - 1 ≡ n) × (max n (n + 1) ≡ n + 1)
  next_stored n = (omega arith, omega arith)

  create_event_law : CreateEvent m k
  unfolding call_decision services stray_field D.checked Passed Ob.create_event
  create_event_law name =
      let e = next_stored p.event_count in
      by_list 17 name (pos 0) (pos 0) (pos 0) (omega arith) (omega arith) refl _ (Changed (StoredEvent (p.event_count + 1) (record { name = number_of (field name); up = false })) Nothing (p.event_count + 1)) _
      (rw (names_are (λ (x : EventState). x.name) name no_event event_limit p.event_count p.events v.objects.events.numbered (λ j b. (v.objects.events.each j b).name.1), (lossless name).between 1 name_limit (omega arith))) (λ q g.
      let ok = not-false _ q.1.1.0 in
      let room : p.event_count < event_limit = leb-false event_limit p.event_count q.0 in
      puts_is m k _ _ (rw (number_in 1 255 name (omega arith) ok) at g) (event_in (p.event_count + 1) _ p (within_in event_limit (p.event_count + 1) (omega arith) (omega (arith, room))) ∙ rw (e.0, e.1)))

  create_blackboard_law : CreateBlackboard m k
  unfolding call_decision services stray_field D.checked Passed Bb.create_blackboard
  create_blackboard_law name =
      let e = next_stored p.blackboard_count in
      by_list 26 name (pos 0) (pos 0) (pos 0) (omega arith) (omega arith) refl _ (Changed (StoredBlackboard (p.blackboard_count + 1) (record { name = number_of (field name); message = None })) Nothing (p.blackboard_count + 1)) _
      (rw (names_are (λ (x : BlackboardT). x.name) name no_blackboard blackboard_limit p.blackboard_count p.blackboards v.objects.blackboards.numbered (λ j b. (v.objects.blackboards.each j b).name.1), (lossless name).between 1 name_limit (omega arith))) (λ q g.
      let ok = not-false _ q.1.1.0 in
      let room : p.blackboard_count < blackboard_limit = leb-false blackboard_limit p.blackboard_count q.0 in
      puts_is m k _ _ (rw (number_in 1 255 name (omega arith) ok) at g) (blackboard_in (p.blackboard_count + 1) _ p (within_in blackboard_limit (p.blackboard_count + 1) (omega arith) (omega (arith, room))) ∙ rw (e.0, e.1)))

  create_buffer_law : CreateBuffer m k
  unfolding call_decision services stray_field D.checked Passed Bu.create_buffer
  create_buffer_law name limit =
      let e = next_stored p.buffer_count in
      by_list 23 name limit (pos 0) (pos 0) (omega arith) (omega arith) refl _ (Changed (CreatedBuffer (p.buffer_count + 1) (number_of (field name)) (number_of (field limit))) Nothing (p.buffer_count + 1)) _
      (rw (names_are (λ (x : Buffer). x.name) name no_buffer buffer_limit p.buffer_count p.buffers v.objects.buffers.numbered (λ j b. (v.objects.buffers.each j b).name.1), (lossless name).between 1 name_limit (omega arith), (lossless limit).between 1 message_limit (omega arith))) (λ q g.
      let ok = not-false _ q.1.1.0 in
      let room : p.buffer_count < buffer_limit = leb-false buffer_limit p.buffer_count q.0 in
      puts_is m k _ _ (rw (number_in 1 255 name (omega arith) (and_left (plain_between 1 255 name) _ ok), number_in 1 16 limit (omega arith) (and_right (plain_between 1 255 name) _ ok)) at g) (buffer_in (p.buffer_count + 1) _ p (within_in buffer_limit (p.buffer_count + 1) (omega arith) (omega (arith, room))) ∙ rw (e.0, e.1)))

  create_semaphore_law : CreateSemaphore m k
  unfolding call_decision services stray_field D.checked Passed Ob.create_semaphore
  create_semaphore_law name start max =
      let e = next_stored p.semaphore_count in
      by_list 14 name start max (pos 0) (omega arith) (omega arith) refl _ (Changed (StoredSemaphore (p.semaphore_count + 1) (record { name = number_of (field name); value = number_of (field start); max = number_of (field max) })) Nothing (p.semaphore_count + 1)) _
      (either (plain_between 1 32767 max) (λ o. rw (names_are (λ (x : SemaphoreT). x.name) name no_semaphore semaphore_limit p.semaphore_count p.semaphores v.objects.semaphores.numbered (λ j b. (v.objects.semaphores.each j b).name.1), (lossless name).between 1 name_limit (omega arith), (lossless max).between 1 value_limit (omega arith), o, number_in 1 32767 max (omega arith) o, (lossless start).between 0 (id_of max) (low_max max o))) (λ o. rw (names_are (λ (x : SemaphoreT). x.name) name no_semaphore semaphore_limit p.semaphore_count p.semaphores v.objects.semaphores.numbered (λ j b. (v.objects.semaphores.each j b).name.1), (lossless name).between 1 name_limit (omega arith), (lossless max).between 1 value_limit (omega arith), o))) (λ q g.
      let ok = not-false _ q.1.1.0 in
      let room : p.semaphore_count < semaphore_limit = leb-false semaphore_limit p.semaphore_count q.0 in
      let o = and_right (plain_between 1 255 name) _ ok in let top = and_left (plain_between 1 32767 max) _ o in puts_is m k _ _ (rw (number_in 1 255 name (omega arith) (and_left (plain_between 1 255 name) _ ok), number_in 1 32767 max (omega arith) top, number_in 0 (id_of max) start (low_max max top) (and_right (plain_between 1 32767 max) _ o)) at g) (semaphore_in (p.semaphore_count + 1) _ p (within_in semaphore_limit (p.semaphore_count + 1) (omega arith) (omega (arith, room))) ∙ rw (e.0, e.1)))

  multiple_is : (z : ℤ) → (plain_minus_one z || C.is_multiple m.table.frame (field z)) ≡ (plain_minus_one z || (plain_between 1 9999999 z && eqb (id_of z % m.table.frame) 0))
  multiple_is z =
      let some = ne_eqb m.table.frame 0 (λ e. omega (arith, u.table.frame.0)) in
      let l = (lossless z).between 1 duration_limit (omega arith) in
      either (plain_between 1 9999999 z) (λ o. rw (l, o, some, number_in 1 9999999 z (omega arith) o)) (λ o. rw (l, o))

  admitted_is : (name priority period capacity : ℤ) → C.admissible (context_of m k) (asked m k u h 2 (field name) (field priority) (field period) (field capacity)) ≡ process_admitted m.table.frame name priority period capacity
  admitted_is name priority period capacity =
      rw ((lossless name).between 1 name_limit (omega arith), (lossless priority).between 1 priority_limit (omega arith), (lossless period).is_minus_one, (lossless capacity).is_minus_one, multiple_is period, (lossless capacity).between 1 duration_limit (omega arith))
      (either (plain_minus_one period || (plain_between 1 9999999 period && eqb (id_of period % m.table.frame) 0))
      (λ a. either (plain_minus_one capacity || plain_between 1 9999999 capacity)
      (λ b. rw (a, b, above_is period capacity (weaker (plain_minus_one period) _ _ a) b))
      (λ b. rw (a, b)))
      (λ a. rw a))

  create_process_law : CreateProcess m k
  unfolding call_decision services stray_field D.checked Passed C.create_process
  create_process_law name priority period capacity =
      let e = next_stored p.process_count in
      by_list 2 name priority period capacity (omega arith) (omega arith) refl _
      (Changed (Created (p.process_count + 1) (created_process (given (number_of (field name)) (number_of (field priority)) (time_of (field period)) (time_of (field capacity))))) Nothing (p.process_count + 1)) _
      (rw (admitted_is name priority period capacity, names_are (λ (x : Process). x.given.name) name blank_process process_limit p.process_count p.processes v.lists.numbered (λ j b. (v.each_process j b).lasting.given.name.1))) (λ q g.
      let ok = not-false _ q.1.1.0 in
      let room : p.process_count < process_limit = leb-false process_limit p.process_count q.0 in
      let ok1 = and_right (plain_between 1 255 name) _ ok in
      let ok2 = and_right (plain_between 1 239 priority) _ ok1 in
      let periods = and_left (plain_minus_one period || (plain_between 1 9999999 period && eqb (id_of period % m.table.frame) 0)) _ ok2 in
      let capacities = and_left (plain_minus_one capacity || plain_between 1 9999999 capacity) _ (and_right (plain_minus_one period || (plain_between 1 9999999 period && eqb (id_of period % m.table.frame) 0)) _ ok2) in
      puts_is m k _ _ (rw (number_in 1 255 name (omega arith) (and_left (plain_between 1 255 name) _ ok), number_in 1 239 priority (omega arith) (and_left (plain_between 1 239 priority) _ ok1), time_is period (weaker (plain_minus_one period) _ _ periods), time_is capacity capacities) at g)
      (created_in (p.process_count + 1) _ p (within_in process_limit (p.process_count + 1) (omega arith) (omega (arith, room))) ∙ rw (e.0, e.1)))

  -- ---------------------------------------------------------------- modes
  -- entering NORMAL, of one process
  entered_is : (r : ℕ) → Release m.table k m.t r → (id : ℕ) → Between 1 p.process_count id → entered (context_of m k) (process id p) ≡ entering m.t r (process id p)
  unfolding entered
  entered_is r f id b = either (waits_for_normal (process id p).wait) (λ w. rw w (go (process id p).given.period refl)) (λ w. rw w)
    where
      low : (process id p).times.delay ≤ duration_limit
      low = (v.each_process id b).lasting.delay

      go : (a : Time) → (process id p).given.period ≡ a → let x = process id p in
          with_suspended x.suspended (with_current x.current (start_rule (context_of m k) x.times.delay x))
          ≡ cond (periodic_at x.given.period) (awaits_release (r + x.times.delay) x.times.delay x.current x.suspended false x) (started_at m.t x.times.delay x.current x.suspended x)
      go None e = rw (aperiodic_is id (process id p).times.delay b low e, e)
      go (Some n) e = rw (released_is r f id (process id p).times.delay n b e low, e)

  entered_normal_holds : (r : ℕ) → Release m.table k m.t r → entered_normal (context_of m k) p ≡ plain_each (entering m.t r) (with_mode_and_lock NormalMode 0 0 p)
  unfolding entered_normal
  entered_normal_holds r f =
      each_alike (entered (context_of m k)) (entering m.t r) p.process_count 1 (with_mode NormalMode p) (λ y lo hi. entered_is r f y (lo, omega arith))
      ∙ each_plain (entering m.t r) (with_mode NormalMode p) v.lists

  -- modes 0, 1, 2
  restarted_is : (mode : ℕ) → mode ≤ mode_limit → restarted k (nothing_created mode) m ≡ restarted_as k mode m
  restarted_is mode low =
      let erased = Ch.erased_to k channel_limit m in
      refilled_all k _ (part_sound erased (erased_sound k channel_limit m (omega arith) u) (k - 1) (calling_place m k u h) (nothing_created mode) (nothing_valid m.table.frame m.t mode low))
      ∙ ap (λ (l : List (Option Message)). plain_refilled_to k m.table.channel_count (with_part (k - 1) (nothing_created mode) (with_messages l m))) (erased_is m.table k m.messages u.messages_size)

  set_mode_law : SetMode m k
  unfolding call_decision services stray_field D.checked Passed C.set_mode
  set_mode_law a =
      let three = (lossless a).is_number 3 (omega arith) in
      let d = cond (is_number 3 (field a)) (D.changed (Entered (context_of m k))) (Restarted (mode_numbered (number_of (field a)))) in
      by_list 1 a (pos 0) (pos 0) (pos 0) (omega arith) (omega arith) refl _ d _
      (rw ((lossless a).between 0 3 (omega arith), three, (lossless a).is_number 2 (omega arith))) (λ q g.
      let in_range_holds = not-false _ q.0 in (
        λ z r f. puts_is m k _ _ (rw (three, z) at g) (entered_normal_holds r f),
        λ z. gives_is (rw (three, z, number_in 0 3 a (omega arith) in_range_holds, numbered_back (id_of a) (in_modes a in_range_holds)) at g) (restarted_is (id_of a) (in_modes a in_range_holds)),
      ))

-- ---------------------------------------------------------------- every event
fields_are : (n : ℕ) → (service_of n).fields ≡ used n
unfolding services
fields_are zero = refl
fields_are (suc n) = let e : suc n - 1 ≡ n = omega arith in rw (ne_eqb (suc n) 0 (λ z. omega arith), e) (sym (get_or-map (λ (s : Service). s.fields) services n no_service))

-- the partition that an event names
place_of : (P c : ℕ) (z : ℤ) → P ≤ 8 → plain_between 0 P z ≡ true → (eqb (number_of (field z)) 0 ≡ plain_number 0 z) × (eqb c (number_of (field z)) ≡ plain_number c z) × (number_of (field z) ≡ id_of z)
place_of P c (pos n) few h =
    let f = field_number n (let r = in_range_holds 0 P n h in omega (arith, r.1)) in
    (rw f, rw f (either (eqb c n) (λ e. rw (e, eq-eqb n c (sym (eqb-true c n e)))) (λ e. rw (e, ne_eqb n c (λ z. eqb-false c n e (sym z))))), rw f)
place_of P c (negsuc n) few h = not_both _ h refl

empty_size : empty_module.table.size ≡ 0
unfolding empty_module empty_table
empty_size = refl

module _ (m : Module) (e : EventT) (few : m.table.size ≤ 8) where
  abbrev P : ℕ
  P = m.table.size

  malformed_is : malformed m.table (request_of e) ≡ malformed_at P e
  unfolding stray_field
  malformed_is =
      rw ((lossless e.partition).between 0 P (omega arith), (lossless e.call).between 0 call_limit (omega arith), (lossless e.partition).is_number 0 (omega arith), (lossless e.call).is_number 0 (omega arith), (lossless e.a).is_number 0 (omega arith), (lossless e.b).is_number 0 (omega arith), (lossless e.c).is_number 0 (omega arith), (lossless e.e).is_number 0 (omega arith))
      (either (plain_between 0 call_limit e.call) (λ o. rw (o, number_in 0 call_limit e.call (omega arith) o, fields_are (id_of e.call))) (λ o. rw o))

  ticked_is : ValidModule m → malformed_at P e ≡ false → plain_number 0 e.partition ≡ true → m.t < 99999999 → Gives m e 0 0 (Some 0) (plain_ticked m)
  unfolding step
  ticked_is valid good none room =
      let w = place_of P 0 e.partition few (not-false _ (or_left _ _ (or_right (eqb P 0) _ good))) in
      let d : decision m (request_of e) ≡ Ticked = ticks_decided m (request_of e) (malformed_is ∙ good) (w.0 ∙ none) room in
      record {
        code_is = ap (λ (x : Decision). (reply_of x).code) d;
        value_is = ap (λ (x : Decision). (reply_of x).value) d;
        extra_is = ap (λ (x : Decision). (reply_of x).extra) d;
        state = ap (module_after m (number_of (request_of e).partition)) d ∙ tick_plain m (sound_of valid);
      }
    where
      sound_of : ValidModule m → SoundModule m
      sound_of (inl z) = absurd (eqb-false P 0 (or_left (eqb P 0) _ good) (ap (λ (x : Module). x.table.size) z ∙ empty_size))
      sound_of (inr s) = s

  module _ (low : current (step m e).state ≤ 8) where
    shown_is : let q = (step m e).state in
        ((step m e).answer.t ≡ q.t) × ((step m e).answer.current ≡ current q)
        × ((step m e).answer.running ≡ cond (plain_number 0 e.partition || plain_number (current q) e.partition) (running_in (current q) q) 0)
    unfolding step
    shown_is = (refl, refl, rw ((lossless e.partition).is_number 0 (omega arith), (lossless e.partition).is_number _ (low_current low)))
      where
        low_current : {n : ℕ} → n ≤ 8 → n ≤ greatest_time
        low_current h = omega arith

    event_is : ValidModule m → EachEvent m e
    event_is valid =
        let g = places m e in
        let bad = malformed_is in
        either (malformed_at P e)
        (λ t. record { thirteen = g.thirteen ∙ bad; ten = g.ten ∙ rw (bad, t); eight = g.eight ∙ rw (bad, t); nine = g.nine ∙ rw (bad, t); same = refused_same m e; ticked = ticked_is valid; shown = shown_is })
        (λ t.
        let w = place_of P (current m) e.partition few (not-false _ (or_left _ _ (or_right (eqb P 0) _ t))) in
        record { thirteen = g.thirteen ∙ bad; ten = g.ten ∙ rw (bad, t, w.0); eight = g.eight ∙ rw (bad, t, w.0, w.1); nine = g.nine ∙ rw (bad, t, w.0, w.1, w.2); same = refused_same m e; ticked = ticked_is valid; shown = shown_is })

few_partitions : (m : Module) → ValidModule m → (m.table.size ≤ 8) × (current m ≤ 8)
unfolding empty_module empty_table
few_partitions m (inl e) = (rw e (omega arith), rw (ap current e ∙ empty_current) (omega arith))
few_partitions m (inr s) = let c = current_known m.table s.table m.t in (s.table.size.1, omega (arith, c, s.table.size.1))

-- Law. What every event answers before its body, and its last three numbers.
pub each_event : (m : Module) → Reached m → (e : EventT) → EachEvent m e
each_event m h e = event_is m e (few_partitions m (reached_valid m h)).0 (few_partitions (step m e).state (reached_valid (step m e).state (Reached.stepped m e h))).1 (reached_valid m h)

-- Law. What each call does.
pub each_call : (m : Module) (k : ℕ) → Calling m k → EachCall m k
each_call m k h = let u = calling_sound m k h in record {
  set_mode = set_mode_law m k u h;
  create_process = create_process_law m k u h;
  start = start_law m k u h;
  delayed = delayed_law m k u h;
  stop = stop_law m k u h;
  stop_self = stop_self_law m k u h;
  suspend = suspend_law m k u h;
  suspend_self = suspend_self_law m k u h;
  timed_wait = timed_wait_law m k u h;
  periodic_wait = periodic_wait_law m k u h;
  resume = resume_law m k u h;
  set_priority = set_priority_law m k u h;
  status = status_law m k u h;
  create_semaphore = create_semaphore_law m k u h;
  wait_semaphore = wait_semaphore_law m k u h;
  signal = signal_law m k u h;
  create_event = create_event_law m k u h;
  set_event = set_event_law m k u h;
  reset_event = reset_event_law m k u h;
  wait_event = wait_event_law m k u h;
  write = write_law m k u h;
  read = read_law m k u h;
  create_buffer = create_buffer_law m k u h;
  send_buffer = send_buffer_law m k u h;
  receive_buffer = receive_buffer_law m k u h;
  create_blackboard = create_blackboard_law m k u h;
  show = show_law m k u h;
  read_blackboard = read_blackboard_law m k u h;
  clear = clear_law m k u h;
  send = send_law m k u h;
  receive = receive_law m k u h;
  lock_preemption = lock_law m k u h;
  unlock_preemption = unlock_law m k u h;
  get_ticks_left = ticks_left_law m k u h;
}
