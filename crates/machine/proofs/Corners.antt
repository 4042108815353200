-- The starred corners, from what each call does. Assumes nothing.
use Rattle.machine.specs.Mode.{mode_number}
use Rattle.machine.specs.declared.Mode.TheVariants.{Normal as NormalMode}
use Rattle.machine.specs.declared.Message.{Message}
use Prim.Native.Nat.{ℕ, suc, ◌+◌, ◌-◌, ◌*◌, ◌/◌, ◌%◌, ◌≤◌, ◌<◌}
use mathlib.Core.Path.{◌≡◌, refl, sym, ap, ◌∙◌}
use mathlib.Core.Bool.{Bool, true, false, cond, not, ◌&&◌, ◌||◌, and-false}
use mathlib.Core.List.{List, [], ◌∷◌, map}
use native.Mathlib.Omega.{arith}
use lib.Dec.{eqb}
use Rattle.machine.specs.declared.Process.{Process}
use Rattle.machine.specs.declared.Partition.{Partition}
use Rattle.machine.specs.declared.Module.{Module}
use Rattle.machine.specs.declared.Semaphore.{Semaphore as SemaphoreT}
use Rattle.machine.specs.declared.EventState.{EventState}
use Rattle.machine.specs.declared.Buffer.{Buffer}
use Rattle.machine.specs.declared.Blackboard.{Blackboard as BlackboardT}
use Rattle.machine.specs.declared.Wait.TheVariants.{Normal}
use Rattle.machine.specs.Time.{Time}
use Rattle.std.specs.Prelude.{None, Some}
use Rattle.machine.specs.Limits.{process_limit, semaphore_limit, event_limit, buffer_limit, message_limit, blackboard_limit, name_limit, priority_limit, value_limit, duration_limit}
use Rattle.machine.specs.Process.{blank_process, ready, with_current}
use Rattle.machine.specs.Partition.{process, semaphore, event, buffer, blackboard, by_id, no_semaphore, no_event, no_buffer, no_blackboard, running, with_processes, with_mode_and_lock}
use Rattle.machine.specs.Theorems.Starts.{Release, NextFlagged}
use Rattle.machine.specs.Theorems.Valid.{Numbered, Between, SoundGiven, SoundPeriod, SoundCapacity, Valid, SoundModule}
use Rattle.machine.specs.Theorems.Plain.{plain_between, plain_minus_one}
use Rattle.machine.specs.Replay.{time_number}
use Rattle.machine.specs.Theorems.Events.{own, call_by, Gives, Refuses, Puts, Calling, with_process, without, at_end, with_new, with_new_semaphore, with_new_event, with_new_buffer, with_new_blackboard, with_semaphore_at}
use Rattle.machine.specs.Theorems.Starred.{Room, NewProcess, NewSemaphore, NewEvent, NewBuffer, NewBlackboard, create_by, given, awaits_release, awaits_next, awaits_normal, ReleasesAt, Corners}
use Rattle.machine.proofs.Bounds.{within_in, named_in, named_same}
use Rattle.machine.proofs.Keeping.{each_rest, each_process_holds}
use Rattle.machine.proofs.Starts.{release_here}
use Rattle.machine.proofs.Plain.{each_plain}
use Rattle.machine.proofs.Calling.{from_zero, calling_sound, calling_valid, own_after}
use Rattle.machine.specs.Theorems.EachCall.{process_admitted, Checks, Creates, EachCall, above_in, entering, id_of, in_d, named, time_in, too_long}
use Rattle.machine.specs.declared.Event.{Event as EventT}
use Rattle.machine.specs.Module.{channel, message}
use Rattle.machine.proofs.EachCall.{each_call}
use borrow.Author.Tests.{eq-eqb, le-leb, le-ltb, lt-leb, lt-ltb, ne_eqb}
use lib.ListN.{get_or, length, length-take, take}
use lib.Seq.{get_or-take}
use native.Mathlib.Nat.{add-zero, mod_self, add-mod_left, mod-eq_of_lt}
use lib.IntN.{pos, ℤ}
use Rattle.machine.specs.Step.{step}

-- ---------------------------------------------------------------- names
module _ {A : Type 0} (name_of : A → ℕ) (name : ℕ) (d : A) where
  none_named : (l : List A) → ((i : ℕ) → i < length l → name_of (get_or l i d) ≡ name → ⊥) → named (pos name) (map name_of l) ≡ false
  unfolding named
  none_named [] f = refl
  none_named (x ∷ l) f = rw (ne_eqb name (name_of x) (λ e. f 0 (omega arith) (sym e))) (none_named l (λ i h. f (suc i) (omega arith)))

  -- none of the first n of a list by id
  new_name : (limit n : ℕ) (l : List A) → Numbered limit d l n → ((id : ℕ) → Between 1 n id → name_of (by_id limit d id l) ≡ name → ⊥) → named (pos name) (map name_of (take n l)) ≡ false
  new_name limit n l s f = none_named (take n l) (λ i h e.
      let lt : i < n = omega (arith, length-take n l) in
      let z : i + 1 - 1 ≡ i = omega arith in
      f (i + 1) (omega arith, omega arith) (ap name_of (named_in limit (i + 1) d l (within_in limit (i + 1) (omega arith) (omega (arith, s.few))) ∙ ap (λ (j : ℕ). get_or l j d) z ∙ sym (get_or-take n l i d lt)) ∙ e))

-- ---------------------------------------------------------------- what CREATE_PROCESS admits
time_in_holds : (x : Time) → time_in (time_number x) ≡ x
time_in_holds None = refl
time_in_holds (Some n) = refl

period_admitted : (M : ℕ) (x : Time) → SoundPeriod M x → (plain_minus_one (time_number x) || (plain_between 1 9999999 (time_number x) && eqb (id_of (time_number x) % M) 0)) ≡ true
period_admitted M None h = refl
period_admitted M (Some n) h = rw (le-leb 1 n h.0.0, le-leb n 9999999 h.0.1, h.1)

capacity_admitted : (period x : Time) → SoundCapacity period x → ((plain_minus_one (time_number x) || plain_between 1 9999999 (time_number x)) && not (above_in (time_number x) (time_number period))) ≡ true
capacity_admitted period None h = refl
capacity_admitted None (Some n) h = rw (le-leb 1 n h.0.0, le-leb n 9999999 h.0.1)
capacity_admitted (Some q) (Some n) h = rw (le-leb 1 n h.0.0, le-leb n 9999999 h.0.1, le-ltb q n h.1)

module _ (m : Module) (k : ℕ) (u : SoundModule m) (h : Calling m k) where
  abbrev p : Partition
  p = own m k

  v : Valid m.table.frame m.t p
  v = calling_valid m k u h

  c : EachCall m k
  c = each_call m k h

  -- an id that has been created, and the mode
  known_id : (id count : ℕ) → Between 1 count id → not (plain_between 1 count (pos id)) ≡ false
  known_id id count b = rw (le-leb 1 id b.0, le-leb id count b.1)

  in_normal : mode_number p.mode ≡ 3 → not (eqb (mode_number p.mode) 3) ≡ false
  in_normal n = rw (eq-eqb (mode_number p.mode) 3 n)

  -- ---------------------------------------------------------------- creating
  -- neither 4 nor 1 nor 5: what is admitted is created, else 3
  creating : {A : Type 0} (name_of : A → ℕ) (name : ℕ) (d : A) (limit : ℕ) (l : List A) (n : ℕ) → Numbered limit d l n → Room p n limit → ((id : ℕ) → Between 1 n id → name_of (by_id limit d id l) ≡ name → ⊥)
      → (e : EventT) (ok : Bool) (q : Partition) → Creates m k e limit n (map name_of (take n l)) (pos name) ok q → (ok ≡ true → Puts m e 0 (n + 1) k q) × (ok ≡ false → Refuses m e 3)
  unfolding Checks
  creating name_of name d limit l n s room new e ok q g =
      let r = (g.1 (lt-leb limit n room.less)).1 (new_name name_of name d limit n l s new) in
      (λ t. (r.1 (rw t)).1 (ne_eqb (mode_number p.mode) 3 room.early), λ f. r.0 (rw f))

  module _ (name priority : ℕ) (period capacity : ℤ) (room : Room p p.process_count process_limit) (new : NewProcess p name) where
    create_process_holds : let e = call_by k 2 (pos name) (pos priority) period capacity in
        let ok = process_admitted m.table.frame (pos name) (pos priority) period capacity in
        (ok ≡ true → Puts m e 0 (p.process_count + 1) k (with_new (given name priority (time_in period) (time_in capacity)) p)) × (ok ≡ false → Refuses m e 3)
    create_process_holds = creating (λ (x : Process). x.given.name) name blank_process process_limit p.processes p.process_count v.lists.numbered room new _ _ _ (c.create_process (pos name) (pos priority) period capacity)

  -- a process as given by its four numbers
  create_fits : (name priority : ℕ) (period capacity : Time) → Room p p.process_count process_limit → NewProcess p name → SoundGiven m.table.frame (given name priority period capacity)
      → Puts m (create_by k name priority period capacity) 0 (p.process_count + 1) k (with_new (given name priority period capacity) p)
  create_fits name priority period capacity room new g =
      rw (time_in_holds period, time_in_holds capacity) at
      ((create_process_holds name priority (time_number period) (time_number capacity) room new).0
      (rw (le-leb 1 name g.name.0, le-leb name 255 g.name.1, le-leb 1 priority g.base.0, le-leb priority 239 g.base.1, period_admitted m.table.frame period g.period) (capacity_admitted period capacity g.capacity)))

  -- a name above the limit is new
  past_name : NewProcess p (name_limit + 1)
  past_name id b e = omega (arith, (v.each_process id b).lasting.given.name.1)

  priority_corner : (name : ℕ) (period capacity : Time) → Room p p.process_count process_limit → NewProcess p name → Between 1 name_limit name → SoundPeriod m.table.frame period → SoundCapacity period capacity
      → Puts m (create_by k name priority_limit period capacity) 0 (p.process_count + 1) k (with_new (given name priority_limit period capacity) p)
      × Refuses m (create_by k name (priority_limit + 1) period capacity) 3
  priority_corner name period capacity room new n f g = (
    create_fits name priority_limit period capacity room new (record { name = n; base = (omega arith, omega arith); period = f; capacity = g }),
    (create_process_holds name (priority_limit + 1) (time_number period) (time_number capacity) room new).1 (rw (le-leb 1 name n.0, le-leb name 255 n.1)),
  )

  process_name_corner : (priority : ℕ) (period capacity : Time) → Room p p.process_count process_limit → NewProcess p name_limit → Between 1 priority_limit priority → SoundPeriod m.table.frame period → SoundCapacity period capacity
      → Puts m (create_by k name_limit priority period capacity) 0 (p.process_count + 1) k (with_new (given name_limit priority period capacity) p)
      × Refuses m (create_by k (name_limit + 1) priority period capacity) 3
  process_name_corner priority period capacity room new b f g = (
    create_fits name_limit priority period capacity room new (record { name = (omega arith, omega arith); base = b; period = f; capacity = g }),
    (create_process_holds (name_limit + 1) priority (time_number period) (time_number capacity) room past_name).1 refl,
  )

  -- M divides M and, above 1, does not divide M + 1
  period_corner : (name priority : ℕ) (capacity : Time) (e : ℤ) → let M = m.table.frame in
      1 < M → Room p p.process_count process_limit → NewProcess p name → Between 1 name_limit name → Between 1 priority_limit priority → SoundCapacity (Some M) capacity
      → Puts m (create_by k name priority (Some M) capacity) 0 (p.process_count + 1) k (with_new (given name priority (Some M) capacity) p)
      × Refuses m (call_by k 2 (pos name) (pos priority) (pos (M + 1)) e) 3
  period_corner name priority capacity e above room new n b g =
      let M = m.table.frame in
      let high = u.table.frame.1 in
      let o : (M + 1) % M ≡ 1 = add-mod_left M 1 ∙ mod-eq_of_lt above in (
        create_fits name priority (Some M) capacity room new (record { name = n; base = b; period = ((omega arith, omega arith), mod_self M); capacity = g }),
        (create_process_holds name priority (pos (M + 1)) e room new).1 (rw (le-leb 1 name n.0, le-leb name 255 n.1, le-leb 1 priority b.0, le-leb priority 239 b.1, le-leb 1 (M + 1) (omega arith), le-leb (M + 1) 9999999 (omega arith), o)),
      )

  semaphore_name_corner : (start max : ℕ) → Room p p.semaphore_count semaphore_limit → NewSemaphore p name_limit → Between 1 value_limit max → start ≤ max
      → Puts m (call_by k 14 (pos name_limit) (pos start) (pos max) (pos 0)) 0 (p.semaphore_count + 1) k (with_new_semaphore name_limit start max p)
      × Refuses m (call_by k 14 (pos (name_limit + 1)) (pos start) (pos max) (pos 0)) 3
  semaphore_name_corner start max room new b s =
      let o = v.objects.semaphores in (
        (creating (λ (x : SemaphoreT). x.name) name_limit no_semaphore semaphore_limit p.semaphores p.semaphore_count o.numbered room new _ (plain_between 1 255 (pos name_limit) && (plain_between 1 32767 (pos max) && plain_between 0 max (pos start))) _ (c.create_semaphore (pos name_limit) (pos start) (pos max))).0 (rw (le-leb 1 max b.0, le-leb max 32767 b.1, from_zero start, le-leb start max s)),
        (creating (λ (x : SemaphoreT). x.name) (name_limit + 1) no_semaphore semaphore_limit p.semaphores p.semaphore_count o.numbered room (λ j r q. omega (arith, (o.each j r).name.1)) _ _ _ (c.create_semaphore (pos (name_limit + 1)) (pos start) (pos max))).1 refl,
      )

  event_name_corner : Room p p.event_count event_limit → NewEvent p name_limit
      → Puts m (call_by k 17 (pos name_limit) (pos 0) (pos 0) (pos 0)) 0 (p.event_count + 1) k (with_new_event name_limit p)
      × Refuses m (call_by k 17 (pos (name_limit + 1)) (pos 0) (pos 0) (pos 0)) 3
  event_name_corner room new =
      let o = v.objects.events in (
        (creating (λ (x : EventState). x.name) name_limit no_event event_limit p.events p.event_count o.numbered room new _ _ _ (c.create_event (pos name_limit))).0 refl,
        (creating (λ (x : EventState). x.name) (name_limit + 1) no_event event_limit p.events p.event_count o.numbered room (λ j r q. omega (arith, (o.each j r).name.1)) _ _ _ (c.create_event (pos (name_limit + 1)))).1 refl,
      )

  buffer_name_corner : (limit : ℕ) → Room p p.buffer_count buffer_limit → NewBuffer p name_limit → Between 1 message_limit limit
      → Puts m (call_by k 23 (pos name_limit) (pos limit) (pos 0) (pos 0)) 0 (p.buffer_count + 1) k (with_new_buffer name_limit limit p)
      × Refuses m (call_by k 23 (pos (name_limit + 1)) (pos limit) (pos 0) (pos 0)) 3
  buffer_name_corner limit room new b =
      let o = v.objects.buffers in (
        (creating (λ (x : Buffer). x.name) name_limit no_buffer buffer_limit p.buffers p.buffer_count o.numbered room new _ (plain_between 1 255 (pos name_limit) && plain_between 1 16 (pos limit)) _ (c.create_buffer (pos name_limit) (pos limit))).0 (rw (le-leb 1 limit b.0, le-leb limit 16 b.1)),
        (creating (λ (x : Buffer). x.name) (name_limit + 1) no_buffer buffer_limit p.buffers p.buffer_count o.numbered room (λ j r q. omega (arith, (o.each j r).name.1)) _ _ _ (c.create_buffer (pos (name_limit + 1)) (pos limit))).1 refl,
      )

  blackboard_name_corner : Room p p.blackboard_count blackboard_limit → NewBlackboard p name_limit
      → Puts m (call_by k 26 (pos name_limit) (pos 0) (pos 0) (pos 0)) 0 (p.blackboard_count + 1) k (with_new_blackboard name_limit p)
      × Refuses m (call_by k 26 (pos (name_limit + 1)) (pos 0) (pos 0) (pos 0)) 3
  blackboard_name_corner room new =
      let o = v.objects.blackboards in (
        (creating (λ (x : BlackboardT). x.name) name_limit no_blackboard blackboard_limit p.blackboards p.blackboard_count o.numbered room new _ _ _ (c.create_blackboard (pos name_limit))).0 refl,
        (creating (λ (x : BlackboardT). x.name) (name_limit + 1) no_blackboard blackboard_limit p.blackboards p.blackboard_count o.numbered room (λ j r q. omega (arith, (o.each j r).name.1)) _ _ _ (c.create_blackboard (pos (name_limit + 1)))).1 refl,
      )

  -- ---------------------------------------------------------------- priorities, delays
  set_priority_corner : (id : ℕ) → Between 1 p.process_count id → (process id p).started ≡ true
      → Puts m (call_by k 12 (pos id) (pos priority_limit) (pos 0) (pos 0)) 0 0 k
      (with_process id (with_current priority_limit (process id p)) (cond (ready (process id p)) (at_end id p.arrival) p.arrival) p)
      × Refuses m (call_by k 12 (pos id) (pos (priority_limit + 1)) (pos 0) (pos 0)) 3
  unfolding Checks
  set_priority_corner id b s = (
    (((c.set_priority (pos id) (pos priority_limit)).1 (known_id id p.process_count b)).1 refl).1 (rw s),
    ((c.set_priority (pos id) (pos (priority_limit + 1))).1 (known_id id p.process_count b)).0 refl,
  )

  period_high : (id n : ℕ) → Between 1 p.process_count id → (process id p).given.period ≡ Some n → Between 1 duration_limit n
  period_high id n b e = (rw e at (v.each_process id b).lasting.given.period).0

  -- DELAYED_START of a DORMANT process, delay not below the period
  delay_refused : (id n : ℕ) → Between 1 p.process_count id → (process id p).given.period ≡ Some n → Refuses m (call_by k 4 (pos id) (pos n) (pos 0) (pos 0)) 3
  unfolding Checks
  delay_refused id n b e =
      let top = (period_high id n b e).1 in
      ((c.delayed (pos id) (pos n)).1 (known_id id p.process_count b)).0 (rw (from_zero n, le-leb n 9999999 top, e, le-leb n n (omega arith)))

  -- one that is accepted
  module _ (id delay n : ℕ) (b : Between 1 p.process_count id) (off : (process id p).started ≡ false) (e : (process id p).given.period ≡ Some n) (below : delay < n) where
    delayed_early : (mode_number p.mode ≡ 3 → ⊥) → Puts m (call_by k 4 (pos id) (pos delay) (pos 0) (pos 0)) 0 0 k (with_process id (awaits_normal delay (process id p)) p.arrival p)
    unfolding Checks
    delayed_early = ((((c.delayed (pos id) (pos delay)).1 (known_id id p.process_count b)).1 fits).1 off).0
      where
        fits : (not (in_d (pos delay)) || too_long delay (process id p).given.period) ≡ false
        fits = rw (from_zero delay, le-leb delay 9999999 (omega (arith, (period_high id n b e).1)), e, lt-leb n delay below)

    delayed_release : (r : ℕ) → mode_number p.mode ≡ 3 → Release m.table k m.t r
        → Puts m (call_by k 4 (pos id) (pos delay) (pos 0) (pos 0)) 0 0 k (with_process id (awaits_release (r + delay) (process id p).times.delay (process id p).given.base false false (process id p)) p.arrival p)
    unfolding Checks
    delayed_release r normal f = ((((c.delayed (pos id) (pos delay)).1 (known_id id p.process_count b)).1 fits).1 off).2 n r normal e f
      where
        fits : (not (in_d (pos delay)) || too_long delay (process id p).given.period) ≡ false
        fits = rw (from_zero delay, le-leb delay 9999999 (omega (arith, (period_high id n b e).1)), e, lt-leb n delay below)

  delay_early_corner : (id n : ℕ) → Between 1 p.process_count id → (process id p).started ≡ false → (process id p).given.period ≡ Some n → (mode_number p.mode ≡ 3 → ⊥)
      → Puts m (call_by k 4 (pos id) (pos (n - 1)) (pos 0) (pos 0)) 0 0 k (with_process id (awaits_normal (n - 1) (process id p)) p.arrival p)
      × Refuses m (call_by k 4 (pos id) (pos n) (pos 0) (pos 0)) 3
  delay_early_corner id n b off e early = (delayed_early id (n - 1) n b off e (omega (arith, (period_high id n b e).0)) early, delay_refused id n b e)

  delay_normal_corner : (id n r : ℕ) → Between 1 p.process_count id → (process id p).started ≡ false → (process id p).given.period ≡ Some n → mode_number p.mode ≡ 3 → Release m.table k m.t r
      → Puts m (call_by k 4 (pos id) (pos (n - 1)) (pos 0) (pos 0)) 0 0 k
      (with_process id (awaits_release (r + (n - 1)) (process id p).times.delay (process id p).given.base false false (process id p)) p.arrival p)
      × Refuses m (call_by k 4 (pos id) (pos n) (pos 0) (pos 0)) 3
  delay_normal_corner id n r b off e normal f = (delayed_release id (n - 1) n b off e (omega (arith, (period_high id n b e).0)) r normal f, delay_refused id n b e)

  -- ---------------------------------------------------------------- a periodic process is released
  module _ (r : ℕ) (f : Release m.table k m.t r) where
    started_release : (id n : ℕ) → mode_number p.mode ≡ 3 → Between 1 p.process_count id → (process id p).started ≡ false → (process id p).given.period ≡ Some n
        → Puts m (call_by k 3 (pos id) (pos 0) (pos 0) (pos 0)) 0 0 k (with_process id (awaits_release r (process id p).times.delay (process id p).given.base false false (process id p)) p.arrival p)
    unfolding Checks
    started_release id n normal b off e =
        let some = (period_high id n b e).0 in
        rw (add-zero r) at (((((c.start (pos id)).1 (known_id id p.process_count b)).1 (rw (e, lt-leb n 0 (omega arith)))).1 off).2 n r normal e f)

    -- the process after START
    pub started_process : (id n : ℕ) → mode_number p.mode ≡ 3 → Between 1 p.process_count id → (process id p).started ≡ false → (process id p).given.period ≡ Some n
        → process id (own (step m (call_by k 3 (pos id) (pos 0) (pos 0) (pos 0))).state k) ≡ awaits_release r (process id p).times.delay (process id p).given.base false false (process id p)
    started_process id n normal b off e =
        let x = awaits_release r (process id p).times.delay (process id p).given.base false false (process id p) in
        let few = v.lists.numbered.few in
        ap (process id) (own_after m k u h _ (started_release id n normal b off e)) ∙ named_same process_limit blank_process id x p.processes b.0 (omega (arith, b.1)) (omega (arith, b.1, v.lists.numbered.size))

    -- entering NORMAL
    enter_release : (id n : ℕ) → (mode_number p.mode ≡ 3 → ⊥) → Between 1 p.process_count id → (process id p).wait ≡ Normal → (process id p).given.period ≡ Some n → let a = call_by k 1 (pos 3) (pos 0) (pos 0) (pos 0) in
        let x = process id p in
        ((step m a).answer.code ≡ 0) × (mode_number (own (step m a).state k).mode ≡ 3)
        × (process id (own (step m a).state k) ≡ awaits_release (r + x.times.delay) x.times.delay x.current x.suspended false x)
    unfolding Checks
    enter_release id n early b w e =
        let g = (((((c.set_mode (pos 3)).1 refl).1 (rw (ne_eqb (mode_number p.mode) 3 early))).1 refl).1 (rw (ne_eqb p.process_count 0 (λ z. omega (arith, b.0, b.1))))).0 refl r f in
        let q = with_mode_and_lock NormalMode 0 0 p in
        let f = entering m.t r in
        let is = own_after m k u h _ g ∙ sym (each_plain f q v.lists) in (
          g.code_is,
          ap (λ (q : Partition). (mode_number q.mode)) is ∙ ap (λ (q : Partition). (mode_number q.mode)) (each_rest f q v.lists),
          ap (process id) is ∙ each_process_holds f q v.lists id b ∙ rw (w, e),
        )

    pub releases_at : ReleasesAt m k r
    releases_at = record { start = started_release; delayed = λ id n delay normal b off e below. delayed_release id delay n b off e below r normal f; entered = enter_release }

  inside_frame_corner : (s : ℕ) → let T = m.table in NextFlagged T k (m.t % T.frame) s → ReleasesAt m k (m.t / T.frame * T.frame + s)
  inside_frame_corner s f = releases_at _ (release_here m.table u.table m.t k s f)

  -- ---------------------------------------------------------------- reading a channel
  age_corner : (i : ℕ) → let x = message m (i - 1) in
      let refresh = (channel m.table (i - 1)).refresh in
      Between 1 m.table.channel_count i → (channel m.table (i - 1)).size ≡ 0 → (channel m.table (i - 1)).destination ≡ k → (y : Message) → x ≡ Some y
      → (m.t ≡ y.written + refresh → Gives m (call_by k 22 (pos i) (pos 0) (pos 0) (pos 0)) 0 y.value (Some 1) m)
      × (m.t ≡ y.written + refresh + 1 → Gives m (call_by k 22 (pos i) (pos 0) (pos 0) (pos 0)) 0 y.value (Some 0) m)
  unfolding Checks
  age_corner i b sampling d z here =
      let x = message m (i - 1) in
      let y = channel m.table (i - 1) in
      let at : eqb y.destination k ≡ true = eq-eqb _ _ d in
      let g = (((((c.read (pos i)).1 (known_id i m.table.channel_count b)).1 (rw sampling)).1 (rw at (and-false (not (eqb y.source k))))).1 (rw at)).1 (rw here) in
      (λ t. rw (here, le-leb (m.t - z.written) y.refresh (omega arith)) at g, λ t. rw (here, lt-leb (m.t - z.written) y.refresh (omega arith)) at g)

  -- ---------------------------------------------------------------- time-out 0
  suspend_self_corner : mode_number p.mode ≡ 3 → p.level ≡ 0 → (process (running p) p).given.period ≡ None → Gives m (call_by k 8 (pos 0) (pos 0) (pos 0) (pos 0)) 0 0 (Some 0) m
  unfolding Checks
  suspend_self_corner n free never = ((((c.suspend_self (pos 0)).1 (rw (eq-eqb (mode_number p.mode) 3 n, never))).1 refl).1 (le-ltb 0 p.level (omega (arith, free)))).0 refl

  timed_wait_corner : mode_number p.mode ≡ 3 → p.level ≡ 0 → Puts m (call_by k 9 (pos 0) (pos 0) (pos 0) (pos 0)) 0 0 k (with_processes p.processes p.process_count (at_end (running p) p.arrival) p.waiting p)
  unfolding Checks
  timed_wait_corner n free = ((((c.timed_wait (pos 0)).1 (in_normal n)).1 refl).1 (le-ltb 0 p.level (omega (arith, free)))).0 refl

  wait_semaphore_corner : (j : ℕ) → mode_number p.mode ≡ 3 → Between 1 p.semaphore_count j
      → ((semaphore j p).value ≡ 0 → Refuses m (call_by k 15 (pos j) (pos 0) (pos 0) (pos 0)) 2)
      × ((n : ℕ) → (semaphore j p).value ≡ suc n → Puts m (call_by k 15 (pos j) (pos 0) (pos 0) (pos 0)) 0 0 k (with_semaphore_at j n p))
  unfolding Checks
  wait_semaphore_corner j n b =
      let g = (((c.wait_semaphore (pos j) (pos 0)).1 (known_id j p.semaphore_count b)).1 (in_normal n)).1 refl in (
        λ z. (g.1 (rw z)).0 refl,
        λ r z. let e : (semaphore j p).value - 1 ≡ r = rw z (omega arith) in rw e at (g.0 (lt-ltb 0 (semaphore j p).value (omega (arith, z)))),
      )

  wait_event_corner : (j : ℕ) → mode_number p.mode ≡ 3 → Between 1 p.event_count j
      → ((event j p).up ≡ false → Refuses m (call_by k 20 (pos j) (pos 0) (pos 0) (pos 0)) 2)
      × ((event j p).up ≡ true → Gives m (call_by k 20 (pos j) (pos 0) (pos 0) (pos 0)) 0 0 (Some 0) m)
  unfolding Checks
  wait_event_corner j n b = let g = (((c.wait_event (pos j) (pos 0)).1 (known_id j p.event_count b)).1 (in_normal n)).1 refl in (λ z. (g.1 z).0 refl, λ z. g.0 z)

  send_buffer_corner : (j x : ℕ) → mode_number p.mode ≡ 3 → Between 1 p.buffer_count j → x ≤ duration_limit → (buffer j p).queue.len ≡ (buffer j p).limit → Refuses m (call_by k 24 (pos j) (pos x) (pos 0) (pos 0)) 2
  unfolding Checks
  send_buffer_corner j x n b ok full =
      (((((c.send_buffer (pos j) (pos x) (pos 0)).1 (known_id j p.buffer_count b)).1 (in_normal n)).1 (rw (from_zero x, le-leb x 9999999 ok))).1 (le-ltb (buffer j p).queue.len (buffer j p).limit (omega (arith, full)))).0 refl

  receive_buffer_corner : (j : ℕ) → mode_number p.mode ≡ 3 → Between 1 p.buffer_count j → (buffer j p).queue.len ≡ 0 → Refuses m (call_by k 25 (pos j) (pos 0) (pos 0) (pos 0)) 2
  unfolding Checks
  receive_buffer_corner j n b none = (((((c.receive_buffer (pos j) (pos 0)).1 (known_id j p.buffer_count b)).1 (in_normal n)).1 refl).1 (rw none)).0 refl

  read_blackboard_corner : (j : ℕ) → mode_number p.mode ≡ 3 → Between 1 p.blackboard_count j
      → ((blackboard j p).message ≡ None → Refuses m (call_by k 28 (pos j) (pos 0) (pos 0) (pos 0)) 2)
      × ((x : ℕ) → (blackboard j p).message ≡ Some x → Gives m (call_by k 28 (pos j) (pos 0) (pos 0) (pos 0)) 0 x (Some 0) m)
  unfolding Checks
  read_blackboard_corner j n b = let g = (((c.read_blackboard (pos j) (pos 0)).1 (known_id j p.blackboard_count b)).1 (in_normal n)).1 refl in (λ z. (g.1 (rw z)).0 refl, λ x z. rw z at (g.0 (rw z)))

  -- ---------------------------------------------------------------- SIGNAL, PERIODIC_WAIT
  signal_corner : (j : ℕ) → Between 1 p.semaphore_count j → (semaphore j p).value ≡ (semaphore j p).max → Refuses m (call_by k 16 (pos j) (pos 0) (pos 0) (pos 0)) 1
  unfolding Checks
  signal_corner j b z = ((c.signal (pos j)).1 (known_id j p.semaphore_count b)).0 (eq-eqb (semaphore j p).value (semaphore j p).max z)

  periodic_wait_corner : (r n : ℕ) → let id = running p in
      let x = process id p in
      mode_number p.mode ≡ 3 → p.level ≡ 0 → x.times.release ≡ Some r → x.given.period ≡ Some n
      → Puts m (call_by k 10 (pos 0) (pos 0) (pos 0) (pos 0)) 7 0 k (with_process id (awaits_next (r + n) x) (without id p.arrival) p)
  unfolding Checks
  periodic_wait_corner r n normal free e f = (c.periodic_wait.1 (rw (eq-eqb (mode_number p.mode) 3 normal, f))).1 (le-ltb 0 p.level (omega (arith, free))) r n e f

pub corners : (m : Module) (k : ℕ) → Calling m k → Corners m k
corners m k h = let u = calling_sound m k h in record {
  priority = priority_corner m k u h;
  set_priority = set_priority_corner m k u h;
  process_name = process_name_corner m k u h;
  semaphore_name = semaphore_name_corner m k u h;
  event_name = event_name_corner m k u h;
  buffer_name = buffer_name_corner m k u h;
  blackboard_name = blackboard_name_corner m k u h;
  period = period_corner m k u h;
  delay_early = delay_early_corner m k u h;
  delay_normal = delay_normal_corner m k u h;
  inside_frame = inside_frame_corner m k u h;
  age = age_corner m k u h;
  suspend_self = suspend_self_corner m k u h;
  timed_wait = timed_wait_corner m k u h;
  wait_semaphore = wait_semaphore_corner m k u h;
  wait_event = wait_event_corner m k u h;
  send_buffer = send_buffer_corner m k u h;
  receive_buffer = receive_buffer_corner m k u h;
  read_blackboard = read_blackboard_corner m k u h;
  signal = signal_corner m k u h;
  periodic_wait = periodic_wait_corner m k u h;
}
