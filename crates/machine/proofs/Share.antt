-- Each partition's share of time, proved. Assumes nothing.
use Prim.Native.Nat.{ℕ, zero, suc, ◌+◌, ◌-◌, ◌%◌, ◌≤◌, ◌<◌}
use native.Mathlib.Nat.{mod-eq_of_lt, add-mod_right}
use mathlib.Core.Path.{◌≡◌, refl, ap, ap₂, sym, ◌∙◌}
use mathlib.Core.Bool.{Bool, true, false, cond, and-false}
use mathlib.Core.List.{List, [], ◌∷◌}
use native.Mathlib.Omega.{arith}
use lib.ListN.{length}
use lib.Dec.{eqb, leb}
use borrow.Author.Tests.{ne_eqb, leb-true, le-leb, lt-leb, lt-ltb, le-ltb}
use Rattle.machine.specs.declared.Event.{Event as EventT}
use Rattle.machine.specs.declared.EventRecord.{EventRecord}
use Rattle.machine.specs.declared.Window.{Window}
use Rattle.machine.specs.declared.Table.{Table}
use Rattle.machine.specs.declared.Module.{Module}
use Rattle.machine.specs.Windows.{windows, covers, any_window, next_start, covering, lookup}
use Rattle.machine.specs.Module.{part, with_time}
use Rattle.machine.specs.declared.Port.{Port}
use Rattle.machine.specs.declared.Decision.{Decision}
use Rattle.machine.specs.declared.Decision.TheVariants.{Refused, Unchanged, Ticked, Blocked, Changed, Restarted, Written, Passed as PassedOn}
use Rattle.machine.specs.Limits.{channel_limit}
use Rattle.machine.specs.Fields.{request_of, number_of}
use Rattle.machine.specs.Messages.{ends_wait}
use Rattle.machine.specs.Decisions.{reply_of}
use Rattle.machine.specs.Ticks.{partition_count}
use Rattle.machine.specs.Channels.{port_of}
use Rattle.machine.specs.Services.{call_decision}
use Rattle.machine.specs.Step.{context_of, module_after, step}
use Rattle.machine.specs.Runs.{keep, next, answered_event, answers}
use Rattle.machine.specs.Theorems.LeftRight.{is_tick}
use Rattle.machine.specs.Theorems.Valid.{Between, SoundWindows, SoundTable, Reached}
use Rattle.machine.specs.Theorems.Share.{how_many, durations, ticked, ticked_into, Share}
use Rattle.machine.specs.Theorems.Account.{code_at}
use Rattle.machine.proofs.Tests.{by_test, and_left}
use Rattle.machine.proofs.Either.{either}
use Rattle.machine.proofs.Starts.{frame_some}
use Rattle.machine.proofs.Dispatch.{by_event}
use Rattle.machine.proofs.Bodies.{Bodily}
use Rattle.machine.proofs.Refusals.{call_in_range}
use Rattle.machine.proofs.Calling.{number_of_holds}
use Rattle.machine.proofs.Reached.{valid_sound, reached_valid}
use Rattle.machine.proofs.Restarts.{refilled_time}
use Rattle.machine.proofs.Answers.{step_table}
use Rattle.machine.proofs.Run.{tick_time}
use Rattle.machine.proofs.EachCall.{each_event}
use Rattle.machine.proofs.Account.{tick_is, no_zero}
use Rattle.machine.proofs.EveryCall.{call_body}

-- ---------------------------------------------------------------- counting
many_add : (f : ℕ → Bool) (a n m : ℕ) → how_many f a (n + m) ≡ how_many f a n + how_many f (a + n) m
unfolding how_many
many_add f a zero m =
    let e : 0 + m ≡ m = omega arith in
    let g : a + 0 ≡ a = omega arith in
    rw (e, g) (omega arith)
many_add f a (suc n) m =
    let e : suc n + m ≡ suc (n + m) = omega arith in
    let g : a + suc n ≡ a + 1 + n = omega arith in
    rw (e, g) (let h = many_add f (a + 1) n m in omega arith)

-- a test that is the same at each of them
many_all : (f : ℕ → Bool) (b : Bool) (a n : ℕ) → ((x : ℕ) → a ≤ x → x < a + n → f x ≡ b) → how_many f a n ≡ cond b n 0
unfolding how_many
many_all f b a zero h = by_test (λ n. 0 ≡ n) b (λ _. refl) (λ _. refl)
many_all f b a (suc n) h =
    let rest = many_all f b (a + 1) n (λ x lo hi. h x (omega arith) (omega arith)) in
    rw (h a (omega arith) (omega arith), rest) (either b (λ e. rw e (omega arith)) (λ e. rw e))

-- two tests that are the same at each of them
many_same : (f g : ℕ → Bool) (a n : ℕ) → ((x : ℕ) → a ≤ x → x < a + n → f x ≡ g x) → how_many f a n ≡ how_many g a n
unfolding how_many
many_same f g a zero h = refl
many_same f g a (suc n) h = ap₂ (λ (b : Bool) (m : ℕ). cond b 1 0 + m) (h a (omega arith) (omega arith)) (many_same f g (a + 1) n (λ x lo hi. h x (omega arith) (omega arith)))

-- a test that comes round after n
many_round : (f : ℕ → Bool) (n : ℕ) → ((x : ℕ) → f (x + n) ≡ f x) → (a : ℕ) → how_many f a n ≡ how_many f 0 n
unfolding how_many
many_round f n h zero = refl
many_round f n h (suc a) =
    let one : suc a ≡ a + 1 = omega arith in
    let first = many_add f a 1 n in
    let last = many_add f a n 1 in
    let same : 1 + n ≡ n + 1 = omega arith in
    let at = ap (λ (b : Bool). cond {A = ℕ} b 1 0) (h a) in
    let whole = ap (how_many f a) same in
    rw one (let next : how_many f (a + 1) n ≡ how_many f a n = omega arith in next ∙ many_round f n h a)

-- ---------------------------------------------------------------- windows in order
-- the owner of a place does not depend on what is left in a gap
owner_gap : (ws : List Window) (x gap : ℕ) → (covering ws x gap).partition ≡ (covering ws x 0).partition
unfolding covering
owner_gap [] x gap = refl
owner_gap (w ∷ ws) x gap = either (covers w x) (λ e. rw e) (λ e. rw e (owner_gap ws x gap))

-- before the first window there is none
owner_before : (previous frame size : ℕ) (ws : List Window) → SoundWindows previous frame size ws → (x : ℕ) → x < previous → (covering ws x 0).partition ≡ 0
unfolding covering SoundWindows
owner_before previous frame size [] s x l = refl
owner_before previous frame size (w ∷ ws) s x l =
    let order = s.0.order in
    rw (lt-leb w.start x (omega arith)) (owner_before (w.start + w.duration) frame size ws s.1 x (omega arith))

module _ (k : ℕ) (some : 1 ≤ k) where
  owns : List Window → ℕ → Bool
  owns ws x = eqb (covering ws x 0).partition k

  unowned : (x : ℕ) → owns [] x ≡ false
  unfolding covering owns
  unowned x = ne_eqb 0 k (λ z. omega arith)

  -- at places before a window, in it and after it
  module _ (previous frame size : ℕ) (w : Window) (ws : List Window) (s : SoundWindows previous frame size (w ∷ ws)) where
    before : (x : ℕ) → previous ≤ x → x < w.start → owns (w ∷ ws) x ≡ false
    unfolding covering SoundWindows owns
    before x _ l = rw (lt-leb w.start x l, owner_before (w.start + w.duration) frame size ws s.1 x (omega arith)) (ne_eqb 0 k (λ z. omega arith))

    inside : (x : ℕ) → w.start ≤ x → x < w.start + w.duration → owns (w ∷ ws) x ≡ eqb w.partition k
    unfolding covering owns
    inside x lo hi = rw (le-leb w.start x lo, lt-ltb x (w.start + w.duration) hi)

    after : (x : ℕ) → w.start + w.duration ≤ x → owns (w ∷ ws) x ≡ owns ws x
    unfolding covering owns
    after x lo = rw (le-ltb x (w.start + w.duration) lo, and-false (leb w.start x))

  owned : (previous frame size : ℕ) (ws : List Window) → SoundWindows previous frame size ws → (n : ℕ) → previous + n ≡ frame → how_many (owns ws) previous n ≡ durations k ws
  unfolding SoundWindows durations
  owned previous frame size [] s n e = many_all (owns []) false previous n (λ x _ _. unowned x)
  owned previous frame size (w ∷ ws) s n e =
      let b = s.0 in
      let f = owns (w ∷ ws) in
      let gap = w.start - previous in
      let end = w.start + w.duration in
      let rest = frame - end in
      let split : n ≡ gap + (w.duration + rest) = omega (arith, b.order, b.inside) in
      let from : previous + gap ≡ w.start = omega (arith, b.order) in
      let to : end + rest ≡ frame = omega (arith, b.inside) in
      let none = many_all f false previous gap (λ x lo hi. before previous frame size w ws s x lo (omega arith)) in
      let own = many_all f (eqb w.partition k) w.start w.duration (inside previous frame size w ws s) in
      let later = many_same f (owns ws) end rest (λ x lo hi. after previous frame size w ws s x lo) ∙ owned end frame size ws s.1 rest to in
      ap (how_many f previous) split ∙ many_add f previous gap (w.duration + rest) ∙ ap₂ (λ (x y : ℕ). x + y) none (ap (λ (x : ℕ). how_many f x (w.duration + rest)) from ∙ many_add f w.start w.duration rest ∙ ap₂ (λ (x y : ℕ). x + y) own later) ∙ omega arith

-- ---------------------------------------------------------------- the window lookup
module _ (T : Table) (s : SoundTable T) (k : ℕ) (some : 1 ≤ k) where
  abbrev held : ℕ → Bool
  held t = eqb (lookup T t).partition k

  held_at : (t : ℕ) → held t ≡ owns k some (windows T) (t % T.frame)
  unfolding lookup owns
  held_at t = rw (frame_some T s) (ap (λ (x : ℕ). eqb x k) (owner_gap (windows T) (t % T.frame) (next_start T t any_window)))

  pub share_at : (t : ℕ) → how_many held t T.frame ≡ durations k (windows T)
  share_at t =
      many_round held T.frame (λ x. held_at (x + T.frame) ∙ ap (owns k some (windows T)) (add-mod_right x T.frame) ∙ sym (held_at x)) t
      ∙ many_same held (owns k some (windows T)) 0 T.frame (λ x _ hi. held_at x ∙ ap (owns k some (windows T)) (mod-eq_of_lt (omega arith)))
      ∙ owned k some 0 T.frame T.size (windows T) s.each_window T.frame (omega arith)

-- ---------------------------------------------------------------- time
-- a call leaves it
call_time : (m : Module) (k : ℕ) (x : Port) (n : ℕ) (d : Decision) → Bodily x n d → (module_after m k d).t ≡ m.t
call_time m k x n (Refused code) b = refl
call_time m k x n (Unchanged v y) b = refl
call_time m k x n Ticked b = absurd b
call_time m k x n (Blocked id y) b = refl
call_time m k x n (Changed y z v) b = refl
call_time m k x n (Restarted mode) b = refilled_time k channel_limit _
call_time m k x n (Written i y) b = refl
call_time m k x n (PassedOn i a v) b = by_test (λ (q : Module). q.t ≡ m.t) (ends_wait a) (λ _. refl) (λ _. refl)

plus_zero : (n : ℕ) → n ≡ n + 0
plus_zero n = omega arith

-- a tick answered 0 raises it by one, and nothing else changes it
time_after_holds : (m : Module) → Reached m → (e : EventT) → (next m e).t ≡ m.t + cond (ticked (answered_event m e)) 1 0
unfolding step
time_after_holds m h e =
    let r = request_of e in
    let k = number_of r.partition in
    by_event m r (λ (d : Decision). code_at m e ≡ (reply_of d).code → (module_after m k d).t ≡ m.t + cond (ticked (answered_event m e)) 1 0)
    (λ n p is. let low = leb-true 8 n (and_left (leb 8 n) _ p) in rw (is, ne_eqb n 0 (λ z. omega arith), and-false (is_tick e)) (omega arith))
    (λ f t _ is. rw (is, tick_is m.table e f t) (tick_time (partition_count m.table) (with_time (m.t + 1) m)))
    (λ c is.
    let u = call_in_range m.table r c.formed (ne_eqb k 0 c.some) in
    let same = call_time m k (port_of m k r) (number_of r.call) (call_decision (context_of m k) (port_of m k r) (number_of r.call) r (part m (k - 1))) (call_body (port_of m k r) (number_of r.call) (context_of m k) r (part m (k - 1)) u.0 u.1).is in
    rw (no_zero e.partition k (number_of_holds e.partition c.some) c.some) (same ∙ plus_zero m.t))
    refl

-- ---------------------------------------------------------------- a list of events
one_more_holds : (b : Bool) (n : ℕ) (r : EventRecord) (l : List EventRecord) → n ≡ length l → cond b 1 0 + n ≡ length (cond b (r ∷ l) l)
one_more_holds true n r l e = omega arith
one_more_holds false n r l e = omega arith

-- the ticks of a list answered 0, and those after which partition k is current
module _ (T : Table) (k : ℕ) where
  abbrev holds : ℕ → Bool
  holds t = eqb (lookup T t).partition k

  counted : (es : List EventT) (m : Module) → Reached m → m.table ≡ T → how_many holds (m.t + 1) (length (keep ticked (answers m es))) ≡ length (keep (ticked_into k) (answers m es))
  unfolding how_many
  counted [] m h is = refl
  counted (e ∷ es) m h is =
      let q = next m e in
      let rest = counted es q (Reached.stepped m e h) (step_table m e ∙ is) in
      let time = time_after_holds m h e in
      either (ticked (answered_event m e))
      (λ t.
      let on : q.t ≡ m.t + 1 = rw t at time in
      let now : (step m e).answer.current ≡ (lookup T (m.t + 1)).partition = (each_event m h e).shown.1 ∙ ap₂ (λ (U : Table) (x : ℕ). (lookup U x).partition) (step_table m e ∙ is) on in
      rw (t, now) (one_more_holds (holds (m.t + 1)) _ (answered_event m e) (keep (ticked_into k) (answers q es)) (ap (λ (x : ℕ). how_many holds (x + 1) (length (keep ticked (answers q es)))) (sym on) ∙ rest)))
      (λ t.
      let on : q.t ≡ m.t + 0 = rw t at time in
      let same : m.t + 1 ≡ q.t + 1 = omega arith in
      rw (t, same) rest)

table_of : (m : Module) → Reached m → (k : ℕ) → Between 1 m.table.size k → SoundTable m.table
table_of m h k b = (valid_sound m (reached_valid m h) (k - 1) (omega (arith, b.0, b.1))).table

-- Law. Each partition's share of time.
pub share : Share
share = record {
  times = λ m h k b t. share_at m.table (table_of m h k b) k b.0 t;
  run = λ m h k b es all. sym (counted m.table k es m h refl) ∙ ap (how_many (λ (u : ℕ). eqb (lookup m.table u).partition k) (m.t + 1)) all ∙ share_at m.table (table_of m h k b) k b.0 (m.t + 1);
}
