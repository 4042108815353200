-- A process by itself: what each rule makes of a sound process is sound, and every time stays within its bound. Assumes nothing.
use Prim.Native.Nat.{ℕ, ◌+◌, ◌≤◌, ◌<◌}
use mathlib.Core.Path.{◌≡◌, refl, ap}
use mathlib.Core.Bool.{Bool, true, false, not, ◌&&◌, and-false}
use mathlib.Core.Logic.{inl, inr}
use native.Mathlib.Omega.{arith}
use lib.Dec.{eqb, leb}
use borrow.Author.Tests.{le-leb, leb-true, leb-false, eqb-false, not-true, not-false}
use Rattle.machine.specs.declared.Given.{Given}
use Rattle.machine.specs.declared.Process.{Process}
use Rattle.machine.specs.declared.Context.{Context}
use Rattle.machine.specs.declared.Wait.{Wait}
use Rattle.machine.specs.declared.Wait.TheVariants.{None as NoWait}
use Rattle.machine.specs.Time.{Time}
use Rattle.std.specs.Prelude.{None, Some}
use Rattle.machine.specs.Limits.{priority_limit, duration_limit, time_limit, frame_limit, greatest_time}
use Rattle.machine.specs.Process.{Class, class_of, object_in, for_nothing, created_process, capped, later, due, is_never, periodic, on_object, object, carried_in, carried, waits_for_nothing, waits_for_normal, ready, with_deadline, served, handed, with_suspended, with_current, waiting_for, suspended_until, only_marked, woken, expired, ticked, start_rule, started_early, entered, stopped, resumed, next_release}
use Rattle.machine.specs.Theorems.Valid.{Between, latest_wake, latest_deadline, AtMost, NotAfter, Ahead, Timeout, SoundPeriod, Below, SoundCapacity, SoundGiven, Timeless, Bounded, Dormant, Early, KnownWait, SoundWake, Released, SoundRelease, Setting, setting, Going, Lasting, LastingIn, SoundCode, SoundMark, SoundProcess}
use Rattle.machine.proofs.Tests.{by_test, not_both}
use Rattle.machine.proofs.Bounds.{not_so, so, and_true_parts}
use Rattle.machine.proofs.Either.{either}

-- ---------------------------------------------------------------- sums of times
pub later_plain : (m n : ℕ) → m + n ≤ greatest_time → later (Some m) (Some n) ≡ Some (m + n)
later_plain m n h = rw (le-leb (m + n) greatest_time h)

capped_at_most : (n k : ℕ) → n ≤ k → capped n ≤ k
capped_at_most n k h = by_test (λ (c : ℕ). c ≤ k) (leb n greatest_time) (λ _. h) (λ e. omega (arith, leb-false n greatest_time e))

pub later_not_after : (m n k : ℕ) (a b : Time) → NotAfter m a → NotAfter n b → m + n ≤ k → NotAfter k (later a b)
later_not_after m n k None b ha hb h = tt
later_not_after m n k (Some a) None ha hb h = tt
later_not_after m n k (Some a) (Some b) ha hb h = capped_at_most (a + b) k (omega arith)

pub later_at_most : (m n k : ℕ) (a b : Time) → AtMost m a → AtMost n b → m + n ≤ k → AtMost k (later a b)
later_at_most m n k None b ha hb h = ha
later_at_most m n k (Some a) None ha hb h = hb
later_at_most m n k (Some a) (Some b) ha hb h = capped_at_most (a + b) k (omega arith)

-- a number of D after t, but 0
pub ahead_later : (t n : ℕ) → t ≤ time_limit → (n ≡ 0 → ⊥) → n ≤ duration_limit → Ahead t (later (Some t) (Some n))
ahead_later t n h some short = rw (le-leb (t + n) greatest_time (omega arith)) (omega arith, omega arith)

pub at_most_more : (m n : ℕ) (a : Time) → AtMost m a → m ≤ n → AtMost n a
at_most_more m n None h le = h
at_most_more m n (Some a) h le = omega arith

pub at_most_not_after : (n : ℕ) (a : Time) → AtMost n a → NotAfter n a
at_most_not_after n None h = tt
at_most_not_after n (Some a) h = h

pub capacity_bound : (period c : Time) → SoundCapacity period c → NotAfter duration_limit c
capacity_bound period None h = tt
capacity_bound period (Some n) h = h.0.1

pub period_not_after : (frame : ℕ) (p : Time) → SoundPeriod frame p → NotAfter duration_limit p
period_not_after frame None h = tt
period_not_after frame (Some n) h = h.0.1

pub period_bound : (frame : ℕ) (p : Time) → SoundPeriod frame p → is_never p ≡ false → AtMost duration_limit p
period_bound frame None h e = not_both _ refl e
period_bound frame (Some n) h e = h.0.1

-- ---------------------------------------------------------------- a sound process by what it is
module _ (s : Setting) (x : Process) (l : LastingIn s.frame x) (c : SoundCode x.code) (m : SoundMark x) where
  pub as_dormant : x.started ≡ false → Dormant x.wait x.suspended x.times → SoundProcess s x
  as_dormant e d = record { lasting = l; code = c; mark = m; dormant = λ _. d; early = λ a b. not_both _ a e; going = λ a b. not_both _ a e }

  pub as_early : x.started ≡ true → s.normal ≡ false → Early x.wait x.times → SoundProcess s x
  as_early e n d = record { lasting = l; code = c; mark = m; dormant = λ a. not_both _ e a; early = λ _ _. d; going = λ a b. not_both _ b n }

  pub as_going : x.started ≡ true → s.normal ≡ true → Going s x.given.period x.suspended (class_of x.wait) x.times → SoundProcess s x
  as_going e n d = record { lasting = l; code = c; mark = m; dormant = λ a. not_both _ e a; early = λ a b. not_both _ n b; going = λ _ _. d }

-- outside NORMAL neither the time nor the objects matter
pub outside_normal : (s s' : Setting) (x : Process) → s.normal ≡ false → s'.normal ≡ false → s'.frame ≡ s.frame → SoundProcess s x → SoundProcess s' x
outside_normal s s' x n n' e h = record {
  lasting = rw e h.lasting;
  code = h.code;
  mark = h.mark;
  dormant = h.dormant;
  early = λ a _. h.early a n;
  going = λ a b. not_both _ b n';
}

-- ---------------------------------------------------------------- lemmas on the parts, by their variables
zero_below : (frame : ℕ) (p : Time) → SoundPeriod frame p → Below p 0
zero_below frame None h = tt
zero_below frame (Some n) h = h.0.0

-- a delay below a period
delay_below : (frame delay : ℕ) (p : Time) → SoundPeriod frame p → is_never p ≡ false → Below p delay → delay < duration_limit
delay_below frame delay None h e b = not_both _ refl e
delay_below frame delay (Some n) h e b = omega (arith, h.0)

-- no wait and no wake time, whatever the mark
none_wake : (t : ℕ) (mark : Bool) (r : Time) → SoundWake t mark r Class.nothing None
none_wake t true r = tt
none_wake t false r = refl

released_never : (t : ℕ) (p r : Time) → is_never p ≡ true → r ≡ None → Released t p r
released_never t None r e h = h
released_never t (Some n) r e h = not_both _ e refl

released_at_most : (t : ℕ) (p r : Time) → is_never p ≡ false → AtMost t r → Released t p r
released_at_most t None r e h = not_both _ refl e
released_at_most t (Some n) r e h = h

pub at_most_released : (t : ℕ) (p r : Time) → is_never p ≡ false → Released t p r → AtMost t r
at_most_released t None r e h = not_both _ refl e
at_most_released t (Some n) r e h = h

released_more : (t : ℕ) (p r : Time) → Released t p r → Released (t + 1) p r
released_more t None r h = h
released_more t (Some n) r h = at_most_more t (t + 1) r h (omega arith)

-- one tick later, where w has not come
timeout_on : (t : ℕ) (w : Time) → Timeout t w → due (t + 1) w ≡ false → Timeout (t + 1) w
timeout_on t None h e = tt
timeout_on t (Some n) h e = let l = leb-false n (t + 1) e in (l, omega (arith, h.1))

ahead_on : (t : ℕ) (w : Time) → Ahead t w → due (t + 1) w ≡ false → Ahead (t + 1) w
ahead_on t None h e = h
ahead_on t (Some n) h e = let l = leb-false n (t + 1) e in (l, omega (arith, h.1))

wake_on : (t : ℕ) (mark : Bool) (r : Time) (v : Class) (w : Time) → SoundWake t mark r v w → due (t + 1) w ≡ false → SoundWake (t + 1) mark r v w
wake_on t true r Class.nothing w h e = timeout_on t w h e
wake_on t false r Class.nothing w h e = h
wake_on t mark r Class.normal w h e = h
wake_on t mark r Class.timer w h e = ahead_on t w h e
wake_on t mark r Class.release w h e = h
wake_on t mark r (Class.onto kind k n) w h e = timeout_on t w h e

release_on : (t : ℕ) (p : Time) (v : Class) (r : Time) → SoundRelease t p v r → SoundRelease (t + 1) p v r
release_on t p Class.nothing r h = released_more t p r h
release_on t p Class.normal r h = h
release_on t p Class.timer r h = released_more t p r h
release_on t p Class.release r h = h
release_on t p (Class.onto kind k n) r h = released_more t p r h

due_at_most : (t : ℕ) (w : Time) → due t w ≡ true → AtMost t w
due_at_most t None e = not_both _ e refl
due_at_most t (Some n) e = leb-true n t e

-- one tick later, where w has come and the wait ends
release_ended : (t : ℕ) (p : Time) (mark : Bool) (v : Class) (r w : Time) → SoundRelease t p v r → SoundWake t mark r v w → due (t + 1) w ≡ true → Released (t + 1) p r
release_ended t p mark Class.nothing r w h k e = released_more t p r h
release_ended t p mark Class.normal r w h k e = absurd h
release_ended t p mark Class.timer r w h k e = released_more t p r h
release_ended t p mark Class.release r w h k e = released_at_most (t + 1) p r h.0 (due_at_most (t + 1) r (rw k at e))
release_ended t p mark (Class.onto kind j n) r w h k e = released_more t p r h

-- a wait on an object, ended before its time
release_object : (t : ℕ) (p : Time) (v : Class) (r : Time) → not (eqb (object_in v) 0) ≡ true → SoundRelease t p v r → Released t p r
release_object t p Class.nothing r e h = h
release_object t p Class.normal r e h = absurd h
release_object t p Class.timer r e h = h
release_object t p Class.release r e h = not_both _ e refl
release_object t p (Class.onto kind k n) r e h = h

-- the mark set, and the mark taken away where there is a wait
wake_suspended : (t : ℕ) (mark : Bool) (r : Time) (v : Class) (w : Time) → SoundWake t mark r v w → SoundWake t true r v w
wake_suspended t true r Class.nothing w h = h
wake_suspended t false r Class.nothing w h = rw h tt
wake_suspended t mark r Class.normal w h = h
wake_suspended t mark r Class.timer w h = h
wake_suspended t mark r Class.release w h = h
wake_suspended t mark r (Class.onto kind k n) w h = h

wake_resumed : (t : ℕ) (mark : Bool) (r : Time) (v : Class) (w : Time) → for_nothing v ≡ false → SoundWake t mark r v w → SoundWake t false r v w
wake_resumed t mark r Class.nothing w e h = not_both _ refl e
wake_resumed t mark r Class.normal w e h = h
wake_resumed t mark r Class.timer w e h = h
wake_resumed t mark r Class.release w e h = h
wake_resumed t mark r (Class.onto kind k n) w e h = h

pub for_nothing_holds : (v : Class) → for_nothing v ≡ true → v ≡ Class.nothing
for_nothing_holds Class.nothing e = refl
for_nothing_holds Class.normal e = not_both _ e refl
for_nothing_holds Class.timer e = not_both _ e refl
for_nothing_holds Class.release e = not_both _ e refl
for_nothing_holds (Class.onto kind k n) e = not_both _ e refl

-- ---------------------------------------------------------------- creating and starting
no_times : (delay : ℕ) → Timeless (record { release = None; deadline = None; wake = None; delay = delay })
no_times delay = record { release = refl; deadline = refl; wake = refl }

pub created_sound : (s : Setting) (g : Given) → SoundGiven s.frame g → SoundProcess s (created_process g)
created_sound s g h = as_dormant s (created_process g)
    (record { given = h; current = omega arith; priority = λ e. not_both _ e refl; delay = omega arith; early = zero_below s.frame g.period h.period; message = omega arith })
    (inl refl) (and-false (not (is_never g.period))) refl
    (record { wait = refl; unmarked = refl; times = no_times 0 })

-- with current priority n
with_current_holds : (frame : ℕ) (x : Process) → LastingIn frame x → (n : ℕ) → Between 1 priority_limit n → (started : Bool) → Lasting frame x.given n started x.times.delay x.message
with_current_holds frame x l n b started = record { given = l.given; current = b.1; priority = λ _. b.0; delay = l.delay; early = l.early; message = l.message }

-- the start rule, with any mark that the process may have and any priority
module _ (c : Context) (ends : c.time ≤ time_limit) (frame : c.frame ≤ frame_limit) (near : c.release ≤ c.time + c.frame) (normal : Bool) (e : normal ≡ true) (a : ℕ → ℕ) where
  module _ (delay : ℕ) (x : Process) (l : LastingIn c.frame x) (none : x.times.release ≡ None) (short : delay ≤ duration_limit) (below : Below x.given.period delay) where
    start_release : is_never x.given.period ≡ false → AtMost latest_wake (later (Some c.release) (Some delay))
    start_release k = later_at_most c.release delay latest_wake (Some c.release) (Some delay) (omega arith) (omega arith) (omega (arith, delay_below c.frame delay x.given.period l.given.period k below))

    cap : NotAfter duration_limit x.given.capacity
    cap = capacity_bound x.given.period x.given.capacity l.given.capacity

    start_deadline : NotAfter latest_deadline (later (later (Some c.time) (Some delay)) x.given.capacity)
    start_deadline = later_not_after (time_limit + duration_limit) duration_limit latest_deadline (later (Some c.time) (Some delay)) x.given.capacity (later_not_after time_limit duration_limit (time_limit + duration_limit) (Some c.time) (Some delay) ends short (omega arith)) cap (omega arith)

    pub start_any : (mark : Bool) → (periodic x && mark) ≡ false → (n : ℕ) → Between 1 priority_limit n → SoundProcess (setting c.frame c.time normal a) (with_suspended mark (with_current n (start_rule c delay x)))
    unfolding start_rule
    start_any mark clear n priority =
        let s = setting c.frame c.time normal a in
        let l' = with_current_holds c.frame x l n priority true in
        by_test (λ (y : Process). SoundProcess s (with_suspended mark (with_current n y))) (periodic x)
        (λ k.
        let some = not-true (is_never x.given.period) k in
        as_going s _ l' (inl refl) clear refl e (record {
          wait = tt;
          wake = refl;
          release = (some, start_release some);
          deadline = later_not_after latest_wake duration_limit latest_deadline (later (Some c.release) (Some delay)) x.given.capacity (at_most_not_after latest_wake (later (Some c.release) (Some delay)) (start_release some)) cap (omega arith);
        }))
        (λ k.
        let never = not-false (is_never x.given.period) k in
        by_test (λ (y : Process). SoundProcess s (with_suspended mark (with_current n y))) (eqb delay 0)
        (λ _. as_going s _ l' (inl refl) clear refl e (record {
          wait = tt;
          wake = none_wake c.time mark x.times.release;
          release = released_never c.time x.given.period x.times.release never none;
          deadline = start_deadline;
        }))
        (λ k. as_going s _ l' (inl refl) clear refl e (record {
          wait = tt;
          wake = ahead_later c.time delay ends (eqb-false delay 0 k) short;
          release = released_never c.time x.given.period x.times.release never none;
          deadline = start_deadline;
        })))

    start_same : with_suspended false (with_current x.given.base (start_rule c delay x)) ≡ start_rule c delay x
    unfolding start_rule
    start_same = by_test (λ (y : Process). with_suspended false (with_current x.given.base y) ≡ y) (periodic x) (λ _. refl) (λ _. by_test (λ (y : Process). with_suspended false (with_current x.given.base y) ≡ y) (eqb delay 0) (λ _. refl) (λ _. refl))

    pub start_sound : SoundProcess (setting c.frame c.time normal a) (start_rule c delay x)
    start_sound = rw start_same at (start_any false (and-false (periodic x)) x.given.base l.given.base)

  -- entering NORMAL
  pub entered_sound : (t : ℕ) (before : Bool) → before ≡ false → (x : Process) → SoundProcess (setting c.frame t before a) x → SoundProcess (setting c.frame c.time normal a) (entered c x)
  unfolding entered
  entered_sound t before out x h =
      let s = setting c.frame c.time normal a in
      by_test (SoundProcess s) (waits_for_normal x.wait)
      (λ k.
      let begun = so x.started (λ d. not_both _ k (ap waits_for_normal (h.dormant d).wait)) in
      start_any x.times.delay x h.lasting (h.early begun out).times.release h.lasting.delay h.lasting.early x.suspended h.mark x.current (h.lasting.priority begun, h.lasting.current))
      (λ k.
      let idle = not_so x.started (λ d. not_both _ (ap waits_for_normal (h.early d out).wait) k) in
      as_dormant s x h.lasting h.code h.mark idle (h.dormant idle))

-- ---------------------------------------------------------------- the other rules
module _ (s : Setting) (x : Process) where
  -- started outside NORMAL
  pub early_sound : LastingIn s.frame x → Timeless x.times → s.normal ≡ false → (delay : ℕ) → delay ≤ duration_limit → Below x.given.period delay → SoundProcess s (started_early delay x)
  early_sound l h n delay short below =
      as_early s (started_early delay x)
      (record { given = l.given; current = l.given.base.1; priority = λ _. l.given.base.0; delay = short; early = below; message = l.message })
      (inl refl) (and-false (periodic x)) refl n
      (record { wait = refl; times = record { release = h.release; deadline = h.deadline; wake = h.wake } })

  module _ (h : SoundProcess s x) where
    pub stopped_sound : SoundProcess s (stopped x)
    stopped_sound =
        let l = h.lasting in
        as_dormant s (stopped x)
        (record { given = l.given; current = l.current; priority = λ e. not_both _ e refl; delay = l.delay; early = l.early; message = l.message })
        h.code (and-false (periodic x)) refl
        (record { wait = refl; unmarked = refl; times = no_times x.times.delay })

    module _ (e : x.started ≡ true) where
      pub suspended_sound : periodic x ≡ false → SoundProcess s (with_suspended true x)
      suspended_sound k = record {
        lasting = h.lasting;
        code = h.code;
        mark = rw k;
        dormant = λ d. not_both _ e d;
        early = h.early;
        going = λ d n. let g = h.going d n in record { wait = g.wait; wake = wake_suspended s.time x.suspended x.times.release (class_of x.wait) x.times.wake g.wake; release = g.release; deadline = g.deadline };
      }

      pub priority_sound : (n : ℕ) → Between 1 priority_limit n → SoundProcess s (with_current n x)
      priority_sound n b = record {
        lasting = with_current_holds s.frame x h.lasting n b x.started;
        code = h.code;
        mark = h.mark;
        dormant = h.dormant;
        early = h.early;
        going = h.going;
      }

      pub resumed_sound : SoundProcess s (resumed x)
      resumed_sound = by_test (SoundProcess s) (waits_for_nothing x.wait)
          (λ k. record {
            lasting = h.lasting;
            code = inl refl;
            mark = and-false (periodic x);
            dormant = λ d. not_both _ e d;
            early = λ d n. not_both _ k (ap waits_for_nothing (h.early d n).wait);
            going = λ d n. let g = h.going d n in record { wait = tt; wake = refl; release = rw (for_nothing_holds (class_of x.wait) k) at g.release; deadline = g.deadline };
          })
          (λ k. record {
            lasting = h.lasting;
            code = h.code;
            mark = and-false (periodic x);
            dormant = λ d. not_both _ e d;
            early = h.early;
            going = λ d n. let g = h.going d n in record { wait = g.wait; wake = wake_resumed s.time x.suspended x.times.release (class_of x.wait) x.times.wake k g.wake; release = g.release; deadline = g.deadline };
          })

    -- a wait on an object ends before its time, with a message
    pub handed_sound : on_object x ≡ true → (m : ℕ) → m ≤ duration_limit → SoundProcess s (handed m x)
    handed_sound k m few = record {
      lasting = let l = h.lasting in record { given = l.given; current = l.current; priority = l.priority; delay = l.delay; early = l.early; message = few };
      code = inl refl;
      mark = h.mark;
      dormant = λ d. not_both _ k (ap (λ (v : Wait). not (eqb (object v) 0)) (h.dormant d).wait);
      early = λ d n. not_both _ k (ap (λ (v : Wait). not (eqb (object v) 0)) (h.early d n).wait);
      going = λ d n. let g = h.going d n in record { wait = tt; wake = none_wake s.time x.suspended x.times.release; release = release_object s.time x.given.period (class_of x.wait) x.times.release k g.release; deadline = g.deadline };
    }

    -- the one that it has stays
    pub ended_sound : on_object x ≡ true → SoundProcess s (served x)
    ended_sound k = handed_sound k x.message h.lasting.message

-- what is READY
pub ready_parts : (x : Process) → ready x ≡ true → (x.started ≡ true) × (x.suspended ≡ false) × (class_of x.wait ≡ Class.nothing)
ready_parts x h =
    let a = and_true_parts x.started _ h in
    let b = and_true_parts (not x.suspended) _ a.1 in
    (a.0, not-true x.suspended b.0, for_nothing_holds (class_of x.wait) b.1)

-- a READY process waits on no object
pub ready_off : (x : Process) → ready x ≡ true → object x.wait ≡ 0
ready_off x h = ap object_in (ready_parts x h).2

pub ready_no_object : (x : Process) → ready x ≡ true → on_object x ≡ false
ready_no_object x h = rw (ready_off x h)

pub object_not_ready : (x : Process) → on_object x ≡ true → ready x ≡ false
object_not_ready x h = not_so (ready x) (λ k. not_both _ h (ready_no_object x k))

-- a tick leaves a READY process READY
pub ticked_ready : (t : ℕ) (x : Process) → ready x ≡ true → ready (ticked t x) ≡ true
unfolding woken expired
ticked_ready t x h =
    let r = ready_parts x h in
    let stays : ready (woken t x) ≡ true =
    by_test (λ (y : Process). ready y ≡ true) (due t x.times.wake)
    (λ _. by_test (λ (y : Process). ready y ≡ true) (only_marked x) (λ _. rw r.0) (λ _. rw (r.0, r.1)))
    (λ _. h) in
    by_test (λ (y : Process). ready y ≡ true) (due t (woken t x).times.deadline) (λ _. stays) (λ _. stays)

-- a READY process that begins to wait, in NORMAL
module _ (s : Setting) (x : Process) (h : SoundProcess s x) (n : s.normal ≡ true) (k : ready x ≡ true) where
  started : x.started ≡ true
  started = (ready_parts x k).0

  pub ready_released : Released s.time x.given.period x.times.release
  ready_released = rw (ready_parts x k).2 at (h.going started n).release

  pub waiting_sound : (v : Wait) → KnownWait s.counts (class_of v) → (until : Time) → SoundWake s.time x.suspended x.times.release (class_of v) until → SoundRelease s.time x.given.period (class_of v) x.times.release → SoundProcess s (waiting_for v until x)
  waiting_sound v known until w r = as_going s (waiting_for v until x) h.lasting h.code h.mark started n (record { wait = known; wake = w; release = r; deadline = (h.going started n).deadline })

  pub suspends_sound : periodic x ≡ false → (until : Time) → Timeout s.time until → SoundProcess s (suspended_until until x)
  suspends_sound p until w = as_going s (suspended_until until x) h.lasting h.code (rw p) started n (rw (ready_parts x k).2 (record { wait = tt; wake = w; release = ready_released; deadline = (h.going started n).deadline }))

  -- PERIODIC_WAIT: r was at most t
  pub next_sound : s.time ≤ time_limit → periodic x ≡ true → SoundProcess s (next_release x)
  next_sound ends p =
      let some = not-true (is_never x.given.period) p in
      let at = later x.times.release x.given.period in
      let r : AtMost latest_wake at =
      later_at_most s.time duration_limit latest_wake x.times.release x.given.period (at_most_released s.time x.given.period x.times.release some ready_released) (period_bound s.frame x.given.period h.lasting.given.period some) (omega arith) in
      as_going s (next_release x) h.lasting h.code h.mark started n (record {
        wait = tt;
        wake = refl;
        release = (some, r);
        deadline = later_not_after latest_wake duration_limit latest_deadline at x.given.capacity (at_most_not_after latest_wake at r) (capacity_bound x.given.period x.given.capacity h.lasting.given.capacity) (omega arith);
      })

-- ---------------------------------------------------------------- more objects
known_more : (f g : ℕ → ℕ) → ((kind : ℕ) → f kind ≤ g kind) → (v : Class) → KnownWait f v → KnownWait g v
known_more f g h Class.nothing q = tt
known_more f g h Class.normal q = q
known_more f g h Class.timer q = tt
known_more f g h Class.release q = tt
known_more f g h (Class.onto kind j n) q = ((q.0.0, omega (arith, q.0.1, h kind)), q.1)

pub more_objects : (frame t : ℕ) (normal : Bool) (f g : ℕ → ℕ) → ((kind : ℕ) → f kind ≤ g kind) → (x : Process) → SoundProcess (setting frame t normal f) x → SoundProcess (setting frame t normal g) x
more_objects frame t normal f g more x h = record {
  lasting = h.lasting;
  code = h.code;
  mark = h.mark;
  dormant = h.dormant;
  early = h.early;
  going = λ d n. let k = h.going d n in record { wait = known_more f g more (class_of x.wait) k.wait; wake = k.wake; release = k.release; deadline = k.deadline };
}

-- ---------------------------------------------------------------- the tick
woken_sound : (frame t : ℕ) (a : ℕ → ℕ) (normal : Bool) → normal ≡ true → (x : Process) → SoundProcess (setting frame t normal a) x → SoundProcess (setting frame (t + 1) normal a) (woken (t + 1) x)
unfolding woken
woken_sound frame t a normal n x h =
    let s = setting frame (t + 1) normal a in
    by_test (SoundProcess s) (due (t + 1) x.times.wake)
    (λ k.
    let e = so x.started (λ d. not_both _ k (ap (due (t + 1)) (h.dormant d).times.wake)) in
    let g = h.going e n in
    let r = release_ended t x.given.period x.suspended (class_of x.wait) x.times.release x.times.wake g.release g.wake k in
    by_test (SoundProcess s) (only_marked x)
    (λ _. as_going s _ h.lasting (inr refl) (and-false (periodic x)) e n (record { wait = tt; wake = refl; release = r; deadline = g.deadline }))
    (λ _. as_going s _ h.lasting (by_test SoundCode (on_object x) (λ _. inr refl) (λ _. inl refl)) h.mark e n (record { wait = tt; wake = none_wake (t + 1) x.suspended x.times.release; release = r; deadline = g.deadline })))
    (λ k. record {
      lasting = h.lasting;
      code = h.code;
      mark = h.mark;
      dormant = h.dormant;
      early = h.early;
      going = λ e _. let g = h.going e n in record { wait = g.wait; wake = wake_on t x.suspended x.times.release (class_of x.wait) x.times.wake g.wake k; release = release_on t x.given.period (class_of x.wait) x.times.release g.release; deadline = g.deadline };
    })

expired_sound : (s : Setting) (t : ℕ) (x : Process) → SoundProcess s x → SoundProcess s (expired t x)
unfolding expired
expired_sound s t x h =
    by_test (SoundProcess s) (due t x.times.deadline)
    (λ k. record {
      lasting = h.lasting;
      code = h.code;
      mark = h.mark;
      dormant = λ e. let d = h.dormant e in record { wait = d.wait; unmarked = d.unmarked; times = no_deadline d.times };
      early = λ e n. let d = h.early e n in record { wait = d.wait; times = no_deadline d.times };
      going = λ e n. let g = h.going e n in record { wait = g.wait; wake = g.wake; release = g.release; deadline = tt };
    })
    (λ _. h)
  where
    no_deadline : Timeless x.times → Timeless (with_deadline None x.times)
    no_deadline d = record { release = d.release; deadline = refl; wake = d.wake }

pub ticked_sound : (frame t : ℕ) (a : ℕ → ℕ) (normal : Bool) → normal ≡ true → (x : Process) → SoundProcess (setting frame t normal a) x → SoundProcess (setting frame (t + 1) normal a) (ticked (t + 1) x)
ticked_sound frame t a normal n x h = expired_sound _ (t + 1) _ (woken_sound frame t a normal n x h)

-- ---------------------------------------------------------------- what follows
ahead_bound : (t : ℕ) (w : Time) → t ≤ time_limit → Timeout t w → NotAfter latest_wake w
ahead_bound t None ends h = tt
ahead_bound t (Some n) ends h = omega (arith, h.1)

ahead_timeout : (t : ℕ) (w : Time) → Ahead t w → Timeout t w
ahead_timeout t None h = tt
ahead_timeout t (Some n) h = h

never_bound : (n : ℕ) (w : Time) → w ≡ None → NotAfter n w
never_bound n w e = rw e tt

wake_bound : (t : ℕ) (mark : Bool) (r : Time) (v : Class) (w : Time) → t ≤ time_limit → NotAfter latest_wake r → SoundWake t mark r v w → NotAfter latest_wake w
wake_bound t true r Class.nothing w ends k h = ahead_bound t w ends h
wake_bound t false r Class.nothing w ends k h = never_bound latest_wake w h
wake_bound t mark r Class.normal w ends k h = absurd h
wake_bound t mark r Class.timer w ends k h = ahead_bound t w ends (ahead_timeout t w h)
wake_bound t mark r Class.release w ends k h = rw h k
wake_bound t mark r (Class.onto kind j n) w ends k h = ahead_bound t w ends h

released_bound : (t : ℕ) (p r : Time) → t ≤ time_limit → Released t p r → NotAfter latest_wake r
released_bound t None r ends h = never_bound latest_wake r h
released_bound t (Some p) r ends h = at_most_not_after latest_wake r (at_most_more t latest_wake r h (omega arith))

release_bound : (t : ℕ) (p : Time) (v : Class) (r : Time) → t ≤ time_limit → SoundRelease t p v r → NotAfter latest_wake r
release_bound t p Class.nothing r ends h = released_bound t p r ends h
release_bound t p Class.normal r ends h = absurd h
release_bound t p Class.timer r ends h = released_bound t p r ends h
release_bound t p Class.release r ends h = at_most_not_after latest_wake r h.1
release_bound t p (Class.onto kind k n) r ends h = released_bound t p r ends h

module _ (s : Setting) (x : Process) (h : SoundProcess s x) where
  timeless_bounded : Timeless x.times → Bounded x.times
  timeless_bounded k = record { release = never_bound latest_wake _ k.release; deadline = never_bound latest_deadline _ k.deadline; wake = never_bound latest_wake _ k.wake }

  -- r and w are at most 110,019,996, d at most 120,019,995
  pub times_bounded : s.time ≤ time_limit → Bounded x.times
  times_bounded ends = either x.started
      (λ e. either s.normal
      (λ n.
      let g = h.going e n in
      let r = release_bound s.time x.given.period (class_of x.wait) x.times.release ends g.release in
      record { release = r; deadline = g.deadline; wake = wake_bound s.time x.suspended x.times.release (class_of x.wait) x.times.wake ends r g.wake })
      (λ n. timeless_bounded (h.early e n).times))
      (λ e. timeless_bounded (h.dormant e).times)

  -- a wake time with neither a wait nor the mark is never reached
  pub wake_marked : x.wait ≡ NoWait → x.suspended ≡ false → x.times.wake ≡ None
  wake_marked k u = either x.started
      (λ e. either s.normal
      (λ n. rw (k, u) at (h.going e n).wake)
      (λ n. (h.early e n).times.wake))
      (λ e. (h.dormant e).times.wake)

  -- a message kept with a wait is one
  pub carried_sound : carried x ≤ duration_limit
  carried_sound = either x.started
      (λ e. either s.normal
      (λ n. known (class_of x.wait) (h.going e n).wait)
      (λ n. rw (h.early e n).wait (omega arith)))
      (λ e. rw (h.dormant e).wait (omega arith))
    where
      known : (v : Class) → KnownWait s.counts v → carried_in v ≤ duration_limit
      known Class.nothing q = omega arith
      known Class.normal q = omega arith
      known Class.timer q = omega arith
      known Class.release q = omega arith
      known (Class.onto kind k m) q = q.1

  -- outside NORMAL none is READY
  pub early_waits : s.normal ≡ false → ready x ≡ false
  early_waits n = not_so (ready x) (λ k.
      let r = ready_parts x k in
      not_both _ (ap for_nothing r.2) (ap waits_for_nothing (h.early r.0 n).wait))
