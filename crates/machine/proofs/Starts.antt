-- The search for a window, the next start, and the release point. Assumes nothing.
use Prim.Native.Nat.{ℕ, zero, suc, ◌+◌, ◌-◌, ◌*◌, ◌/◌, ◌%◌, ◌≤◌, ◌<◌}
use mathlib.Core.Bool.{Bool, true, false, true≢false}
use mathlib.Core.List.{List, [], ◌∷◌}
use mathlib.Core.Logic.{◌⊎◌, inl, inr, ⊎_elim}
use mathlib.Core.Path.{◌≡◌, refl, ap, sym, subst, ◌∙◌}
use native.Mathlib.Nat.{mod-lt, mod-eq_of_lt, mod-add-mod, add-mod_right, div-add-mod', mul-add-mod_self_right}
use native.Mathlib.Omega.{arith}
use lib.Dec.{leb, ltb, eqb}
use lib.ListN.{length, get_or}
use borrow.Author.Tests.{ltb-true, ltb-false, leb-true, leb-false, le-leb, eqb-true, eq-eqb, ne_eqb}
use Rattle.machine.specs.declared.Table.{Table}
use Rattle.machine.specs.Time.{Time}
use Rattle.std.specs.Prelude.{None, Some}
use Rattle.machine.specs.declared.Window.{Window}
use Rattle.machine.specs.Limits.{time_limit, greatest_time}
use Rattle.machine.specs.Table.{has_flagged}
use Rattle.machine.specs.Theorems.Valid.{Between, AtMost, SoundWindow, SoundWindows, SoundTable}
use Rattle.machine.specs.Windows.{no_window, windows, owned_by, flagged_for, starts_from, first_start, ahead_of, next_start, release_after, release_point}
use Rattle.machine.specs.Theorems.Starts.{WindowAt, NextFlagged, Release}
use Rattle.machine.proofs.Either.{either}
use Rattle.machine.proofs.Tests.{by_test, and_left, and_right, not_both}

-- ---------------------------------------------------------------- the search
-- where no window passes, the first does not, and none of the others
none_here : (f : Window → Bool) (w : Window) (ws : List Window) → first_start f (w ∷ ws) ≡ None → (f w ≡ false) × (first_start f ws ≡ None)
unfolding first_start
none_here f w ws e = either (f w)
    (λ p. let n : Some w.start ≡ None = rw p at e in let z : ◌≡◌ {A = ℕ} 0 1 = cc in absurd (omega arith))
    (λ p. (p, rw p at e))

-- something holds of a start that was found
abbrev Found : (ℕ → Type 0) → Time → Type 0
Found P None = Unit {0}
Found P (Some s) = P s

found_so : (P Q : ℕ → Type 0) → ((s : ℕ) → P s → Q s) → (r : Time) → Found P r → Found Q r
found_so P Q f None h = tt
found_so P Q f (Some s) h = f s h

-- a window that passes a test starts at s
pub record Passes (f : Window → Bool) (ws : List Window) (s : ℕ) : Type 0 where
  pub at : ℕ
  pub inside : at < length ws
  pub passed : f (get_or ws at no_window) ≡ true
  pub starts : (get_or ws at no_window).start ≡ s

-- one does at what is found
found_passes : (f : Window → Bool) (ws : List Window) → Found (Passes f ws) (first_start f ws)
unfolding first_start
found_passes f [] = tt
found_passes f (w ∷ ws) = by_test (Found (Passes f (w ∷ ws))) (f w)
    (λ p. record { at = 0; inside = omega arith; passed = p; starts = refl })
    (λ p. found_so _ _ (λ s h. record { at = suc h.at; inside = omega (arith, h.inside); passed = h.passed; starts = h.starts }) (first_start f ws) (found_passes f ws))

-- what a window says that passes
module _ (f : Window → Bool) (from : ℕ) (w : Window) (e : starts_from f from w ≡ true) where
  pub passes_test : f w ≡ true
  passes_test = and_left _ _ e

  passes_from : from ≤ w.start
  passes_from = leb-true _ _ (and_right (f w) _ e)

  -- it passes from every place up to its start
  passes_to : (to : ℕ) → to ≤ w.start → starts_from f to w ≡ true
  passes_to to h = rw (passes_test, le-leb to w.start h)

module _ (f : Window → Bool) (from : ℕ) where
  fails_before : (w : Window) → starts_from f from w ≡ false → starts_from f 0 w ≡ true → w.start < from
  fails_before w q e = either (leb from w.start) (λ l. not_both _ (passes_to f 0 w e from (leb-true _ _ l)) q) (leb-false _ _)

  -- what is found does not start before the place, and is a start of the frame
  found_from : (ws : List Window) → Found (λ s. from ≤ s) (first_start (starts_from f from) ws)
  found_from ws = found_so _ _ (λ s h. omega (arith, passes_from f from (get_or ws h.at no_window) h.passed, h.starts)) (first_start (starts_from f from) ws) (found_passes (starts_from f from) ws)

  found_start : (ws : List Window) → Found (Passes (starts_from f 0) ws) (first_start (starts_from f from) ws)
  found_start ws = found_so _ _
      (λ s h. record { at = h.at; inside = h.inside; passed = passes_to f from (get_or ws h.at no_window) h.passed 0 (omega arith); starts = h.starts })
      (first_start (starts_from f from) ws) (found_passes (starts_from f from) ws)

  -- where nothing is found, the first start of the frame lies before the place
  found_before : (ws : List Window) → first_start (starts_from f from) ws ≡ None → Found (λ s. s < from) (first_start (starts_from f 0) ws)
  unfolding first_start
  found_before [] e = tt
  found_before (w ∷ ws) e =
      let none = none_here (starts_from f from) w ws e in
      by_test (Found (λ s. s < from)) (starts_from f 0 w) (fails_before w none.0) (λ p. found_before ws none.1)

-- windows with flag 1 of partition k pass the test
abbrev pub PassedBy : ℕ → (Window → Bool) → Type 0
PassedBy k f = (w : Window) → flagged_for k w ≡ true → f w ≡ true

pub owned_passes : (k : ℕ) → PassedBy k (owned_by k)
owned_passes k w e = and_right w.flag _ e

-- a partition that has one has a start
flagged_found : (k : ℕ) (f : Window → Bool) → PassedBy k f → (ws : List Window) → has_flagged k ws ≡ true → first_start (starts_from f 0) ws ≡ None → ⊥
unfolding has_flagged
flagged_found k f by [] h e = true≢false (sym h)
flagged_found k f by (w ∷ ws) h e =
    let none = none_here (starts_from f 0) w ws e in
    either (flagged_for k w)
    (λ q. not_both (starts_from f 0 w) (rw (by w q) (le-leb 0 w.start (omega arith))) none.0)
    (λ q. flagged_found k f by ws (rw q at h) none.1)

-- ---------------------------------------------------------------- windows in order
-- each starts after the end of those before, and ends inside the frame
pub each_window_holds : (previous frame size : ℕ) (ws : List Window) → SoundWindows previous frame size ws → (i : ℕ) → i < length ws → SoundWindow previous frame size (get_or ws i no_window)
unfolding SoundWindows
each_window_holds previous frame size [] h i lo = absurd (omega arith)
each_window_holds previous frame size (w ∷ ws) h zero lo = h.0
each_window_holds previous frame size (w ∷ ws) h (suc i) lo =
    let r = each_window_holds (w.start + w.duration) frame size ws h.1 i (omega arith) in
    record { order = omega (arith, h.0.order, r.order); long = r.long; inside = r.inside; owner = r.owner }

-- what is found starts no later than any window that passes
found_first : (f : Window → Bool) (from previous frame size : ℕ) (ws : List Window) → SoundWindows previous frame size ws → (i : ℕ) → i < length ws
    → starts_from f from (get_or ws i no_window) ≡ true → AtMost (get_or ws i no_window).start (first_start (starts_from f from) ws)
unfolding first_start SoundWindows
found_first f from previous frame size [] h i lo e = absurd (omega arith)
found_first f from previous frame size (w ∷ ws) h zero lo e = rw e (omega arith)
found_first f from previous frame size (w ∷ ws) h (suc i) lo e =
    by_test (AtMost (get_or ws i no_window).start) (starts_from f from w)
    (λ p. omega (arith, (each_window_holds (w.start + w.duration) frame size ws h.1 i (omega arith)).order))
    (λ p. found_first f from (w.start + w.duration) frame size ws h.1 i (omega arith) e)

-- one that starts before another ends by then
pub ends_before : (previous frame size : ℕ) (ws : List Window) → SoundWindows previous frame size ws → (i j : ℕ) → i < length ws → j < length ws
    → (get_or ws i no_window).start < (get_or ws j no_window).start → (get_or ws i no_window).start + (get_or ws i no_window).duration ≤ (get_or ws j no_window).start
unfolding SoundWindows
ends_before previous frame size [] h i j lo ho e = absurd (omega arith)
ends_before previous frame size (w ∷ ws) h zero zero lo ho e = absurd (omega arith)
ends_before previous frame size (w ∷ ws) h zero (suc j) lo ho e = (each_window_holds (w.start + w.duration) frame size ws h.1 j (omega arith)).order
ends_before previous frame size (w ∷ ws) h (suc i) zero lo ho e = absurd (omega (arith, (each_window_holds (w.start + w.duration) frame size ws h.1 i (omega arith)).order))
ends_before previous frame size (w ∷ ws) h (suc i) (suc j) lo ho e = ends_before (w.start + w.duration) frame size ws h.1 i j (omega arith) (omega arith) e

-- no two start at one place
pub one_start : (previous frame size : ℕ) (ws : List Window) → SoundWindows previous frame size ws → (i j : ℕ) → i < length ws → j < length ws
    → (get_or ws i no_window).start ≡ (get_or ws j no_window).start → get_or ws i no_window ≡ get_or ws j no_window
unfolding SoundWindows
one_start previous frame size [] h i j lo ho e = absurd (omega arith)
one_start previous frame size (w ∷ ws) h zero zero lo ho e = refl
one_start previous frame size (w ∷ ws) h zero (suc j) lo ho e = absurd (omega (arith, h.0.long, (each_window_holds (w.start + w.duration) frame size ws h.1 j (omega arith)).order))
one_start previous frame size (w ∷ ws) h (suc i) zero lo ho e = absurd (omega (arith, h.0.long, (each_window_holds (w.start + w.duration) frame size ws h.1 i (omega arith)).order))
one_start previous frame size (w ∷ ws) h (suc i) (suc j) lo ho e = one_start (w.start + w.duration) frame size ws h.1 i j (omega arith) (omega arith) e

-- ---------------------------------------------------------------- the next start
-- M is not 0
pub frame_some : (T : Table) → SoundTable T → eqb T.frame 0 ≡ false
frame_some T s = ne_eqb T.frame 0 (λ z. omega (arith, s.frame.0))

module _ (frame x : ℕ) (place : x < frame) where
  ahead_bounds : (here next : Time) → Found (λ s. x + 1 ≤ s) here → Found (λ s. s < frame) here → (here ≡ None → Found (λ s. s < x + 1) next) → Between 1 frame (ahead_of frame x here next)
  ahead_bounds (Some s) next after inside before = (omega arith, omega arith)
  ahead_bounds None (Some s) after inside before = let early : s < x + 1 = before refl in (omega arith, omega arith)
  ahead_bounds None None after inside before = (omega arith, omega arith)

  ahead_starts : (P : ℕ → Type 0) → ((s : ℕ) → P s → s < frame) → (here next : Time)
      → Found (λ s. x + 1 ≤ s) here → Found P here → (here ≡ None → Found (λ s. s < x + 1) next) → Found P next → (next ≡ None → ⊥)
      → P ((x + ahead_of frame x here next) % frame)
  ahead_starts P inside (Some s) next after starts before again some =
      let last = inside s starts in
      let e : x + (s - x) ≡ s = omega arith in
      rw (e, mod-eq_of_lt last) starts
  ahead_starts P inside None (Some s) after starts before again some =
      let last = inside s again in
      let early : s < x + 1 = before refl in
      let e : x + (s + frame - x) ≡ s + frame = omega arith in
      rw (e, add-mod_right s frame, mod-eq_of_lt last) again
  ahead_starts P inside None None after starts before again some = absurd (some refl)

module _ (frame x n y : ℕ) (place : x < frame) (lo : 1 ≤ n) (hi : n ≤ frame) (at : y ≡ (x + n) % frame) where
  -- y lies in this frame or in the next one
  pub at_place : (y ≡ x + n) ⊎ (y + frame ≡ x + n)
  at_place = either (ltb (x + n) frame)
      (λ q. inl (at ∙ mod-eq_of_lt (ltb-true (x + n) frame q)))
      (λ q.
      let o = ltb-false (x + n) frame q in
      let r : x + n ≡ x + n - frame + frame = omega arith in
      let e : y ≡ x + n - frame = at ∙ ap (λ (j : ℕ). j % frame) r ∙ add-mod_right (x + n - frame) frame ∙ mod-eq_of_lt (omega arith) in
      inr (omega arith))

  ahead_least : (here next : Time) → (x + 1 ≤ y → AtMost y here) → Found (λ s. s < frame) here → AtMost y next → ahead_of frame x here next ≤ n
  ahead_least (Some s) next first inside again = ⊎_elim (λ (e : y ≡ x + n). omega (arith, first (omega arith))) (λ (e : y + frame ≡ x + n). omega arith) at_place
  ahead_least None (Some s) first inside again = ⊎_elim (λ (e : y ≡ x + n). absurd (first (omega arith))) (λ (e : y + frame ≡ x + n). omega arith) at_place
  ahead_least None None first inside again = absurd again

module _ (T : Table) (s : SoundTable T) (t : ℕ) (f : Window → Bool) where
  place : t % T.frame < T.frame
  place = mod-lt t (omega (arith, s.frame.0))

  inside_frame_holds : (g : Window → Bool) (y : ℕ) → Passes g (windows T) y → y < T.frame
  inside_frame_holds g y h = let w = each_window_holds 0 T.frame T.size (windows T) s.each_window h.at h.inside in omega (arith, w.long, w.inside, h.starts)

  found_inside : (from : ℕ) → Found (λ y. y < T.frame) (first_start (starts_from f from) (windows T))
  found_inside from = found_so _ _ (inside_frame_holds (starts_from f 0)) (first_start (starts_from f from) (windows T)) (found_start f from (windows T))

  -- it is a number of 1..M
  pub next_bounds : Between 1 T.frame (next_start T t f)
  unfolding next_start
  next_bounds =
      let x = t % T.frame in
      rw (frame_some T s) (ahead_bounds T.frame x place _ _ (found_from f _ (windows T)) (found_inside _) (found_before f _ (windows T)))

  -- a window that passes starts then
  pub next_starts : (k : ℕ) → Between 1 T.size k → PassedBy k f → Passes (starts_from f 0) (windows T) ((t + next_start T t f) % T.frame)
  unfolding next_start
  next_starts k own by =
      let x = t % T.frame in
      let ws = windows T in
      let ahead : Passes (starts_from f 0) ws ((x + next_start T t f) % T.frame) =
      rw (frame_some T s) (ahead_starts T.frame x place (Passes (starts_from f 0) ws) (inside_frame_holds (starts_from f 0)) _ _
      (found_from f _ ws) (found_start f _ ws) (found_before f _ ws) (found_start f _ ws) (flagged_found k f by ws (s.flagged k own))) in
      subst (Passes (starts_from f 0) ws) (mod-add-mod t T.frame (next_start T t f)) ahead

  -- and none starts sooner
  pub next_least : (n : ℕ) → Passes (starts_from f 0) (windows T) ((t + n) % T.frame) → 1 ≤ n → n ≤ T.frame → next_start T t f ≤ n
  unfolding next_start
  next_least n p lo hi =
      let x = t % T.frame in
      let w = get_or (windows T) p.at no_window in
      let found : ℕ → Time = λ from. first_start (starts_from f from) (windows T) in
      let first : (from : ℕ) → from ≤ w.start → AtMost w.start (found from) = λ from q. found_first f from 0 T.frame T.size (windows T) s.each_window p.at p.inside (passes_to f 0 w p.passed from q) in
      rw (frame_some T s) (ahead_least T.frame x n w.start place lo hi (p.starts ∙ sym (mod-add-mod t T.frame n)) (found (x + 1)) (found 0) (first (x + 1)) (found_inside (x + 1)) (first 0 (omega arith)))

-- j ticks later, before it, the next start is j ticks nearer
pub next_nearer : (T : Table) (s : SoundTable T) (t : ℕ) (f : Window → Bool) (k : ℕ) → Between 1 T.size k → PassedBy k f → (j : ℕ) → j < next_start T t f → next_start T (t + j) f ≡ next_start T t f - j
next_nearer T s t f k own by j h =
    let n = next_start T t f in
    let later = next_start T (t + j) f in
    let b = next_bounds T s t f in
    let bl = next_bounds T s (t + j) f in
    let same : t + j + (n - j) ≡ t + n = omega arith in
    let on : t + (j + later) ≡ t + j + later = omega arith in
    let hi : later ≤ n - j = next_least T s (t + j) f (n - j) (rw same (next_starts T s t f k own by)) (omega arith) (omega (arith, b.1)) in
    let lo : n ≤ j + later = either (leb (j + later) T.frame)
    (λ q. next_least T s t f (j + later) (rw on (next_starts T s (t + j) f k own by)) (omega (arith, bl.0)) (leb-true _ _ q))
    (λ q. omega (arith, b.1, leb-false (j + later) T.frame q)) in
    omega arith

-- ---------------------------------------------------------------- the release point
module _ (T : Table) (s : SoundTable T) (t : ℕ) where
  -- it lies ahead, by a frame at most
  release_ahead : (k : ℕ) → (t < release_after T t k) × (release_after T t k ≤ t + T.frame)
  unfolding release_after
  release_ahead k = from_now _ (next_bounds T s t _)
    where
      from_now : (n : ℕ) → Between 1 T.frame n → (t < t + n) × (t + n ≤ t + T.frame)
      from_now n b = (omega (arith, b.0), omega (arith, b.1))

  pub release_plain : t ≤ time_limit → (k : ℕ) → release_point T t k ≡ release_after T t k
  unfolding release_point
  release_plain ends k = rw (le-leb (release_after T t k) greatest_time (omega (arith, (release_ahead k).1, s.frame.1)))

  pub release_bounds : t ≤ time_limit → (k : ℕ) → (t < release_point T t k) × (release_point T t k ≤ t + T.frame)
  release_bounds ends k = rw (release_plain ends k) (release_ahead k)

-- two words for a window with flag 1 of the partition
module _ (T : Table) (k x : ℕ) where
  start_at : Passes (starts_from (flagged_for k) 0) (windows T) x → WindowAt T k true x
  start_at p =
      let w = get_or (windows T) p.at no_window in
      let e = passes_test (flagged_for k) 0 w p.passed in
      record { at = p.at; inside = p.inside; owner = eqb-true w.partition k (and_right w.flag _ e); flag_is = and_left w.flag _ e; starts = p.starts }

  start_passes : WindowAt T k true x → Passes (starts_from (flagged_for k) 0) (windows T) x
  start_passes f =
      let w = get_or (windows T) f.at no_window in
      record { at = f.at; inside = f.inside; passed = rw (f.flag_is, eq-eqb w.partition k f.owner) (le-leb 0 w.start (omega arith)); starts = f.starts }

module _ (T : Table) (s : SoundTable T) (t k : ℕ) where
  -- the machine's release point is the earliest start of a window with flag 1, of that partition, strictly after t
  pub release_earliest : Between 1 T.size k → t ≤ time_limit → Release T k t (release_point T t k)
  unfolding release_after
  release_earliest own ends =
      let ahead = release_ahead T s t k in
      rw (release_plain T s t ends k) (record {
        starts = start_at T k _ (next_starts T s t _ k own (λ w e. e));
        after = ahead.0;
        earliest = λ y f late. either (leb (y - t) T.frame)
            (λ q.
            let e : t + (y - t) ≡ y = omega arith in
            omega (arith, next_least T s t (flagged_for k) (y - t) (rw e (start_passes T k (y % T.frame) f)) (omega arith) (leb-true _ _ q)))
            (λ q. omega (arith, ahead.1, leb-false (y - t) T.frame q));
      })

  -- there is one only
  pub release_one : (r r' : ℕ) → Release T k t r → Release T k t r' → r ≡ r'
  release_one r r' f g = omega (arith, f.earliest r' g.starts g.after, g.earliest r f.starts f.after)

  -- and no other window starts then
  pub release_window : (r : ℕ) → Release T k t r → (i : ℕ) → i < length (windows T) → (get_or (windows T) i no_window).start ≡ r % T.frame → ((get_or (windows T) i no_window).partition ≡ k) × ((get_or (windows T) i no_window).flag ≡ true)
  release_window r f i inside e =
      let z = f.starts in
      let w = one_start 0 T.frame T.size (windows T) s.each_window i z.at inside z.inside (e ∙ sym z.starts) in
      (ap (λ (v : Window). v.partition) w ∙ z.owner, ap (λ (v : Window). v.flag) w ∙ z.flag_is)

  start_inside : (x : ℕ) → WindowAt T k true x → x < T.frame
  start_inside x f = inside_frame_holds T s t (flagged_for k) (starts_from (flagged_for k) 0) x (start_passes T k x f)

  -- a place of frame q
  at_frame : (q y : ℕ) → y < T.frame → (q * T.frame + y) % T.frame ≡ y
  at_frame q y h = mul-add-mod_self_right q T.frame y ∙ mod-eq_of_lt h

  in_frame : (q y : ℕ) → q * T.frame ≤ y → y < q * T.frame + T.frame → y % T.frame ≡ y - q * T.frame
  in_frame q y lo hi = let e : q * T.frame + (y - q * T.frame) ≡ y = omega arith in ap (λ (j : ℕ). j % T.frame) (sym e) ∙ at_frame q (y - q * T.frame) (omega arith)

  -- a start ahead in this frame: the nearest of them
  pub release_here : (x : ℕ) → NextFlagged T k (t % T.frame) x → Release T k t (t / T.frame * T.frame + x)
  release_here x h =
      let f = h.0 in
      let late = h.1 in
      let q = t / T.frame in
      let split : q * T.frame + t % T.frame ≡ t = div-add-mod' t T.frame in
      let last = start_inside x f in
      record {
        starts = rw (at_frame q x last) f;
        after = omega arith;
        earliest = λ y g after. either (ltb y (q * T.frame + T.frame))
            (λ p. let e = in_frame q y (omega arith) (ltb-true _ _ p) in let o = h.2 (y - q * T.frame) (rw (← e) g) (omega arith) in omega arith)
            (λ p. omega (arith, ltb-false y (q * T.frame + T.frame) p));
      }

  -- none ahead in this frame: the first of the next one
  pub release_next : (x : ℕ) → WindowAt T k true x → ((y : ℕ) → WindowAt T k true y → x ≤ y) → ((y : ℕ) → WindowAt T k true y → y ≤ t % T.frame) → Release T k t ((t / T.frame + 1) * T.frame + x)
  release_next x f first past =
      let q = t / T.frame in
      let split : q * T.frame + t % T.frame ≡ t = div-add-mod' t T.frame in
      let here : t % T.frame < T.frame = place T s t (flagged_for k) in
      let last = start_inside x f in
      record {
        starts = rw (at_frame (q + 1) x last) f;
        after = omega arith;
        earliest = λ y g after. either (ltb y (q * T.frame + T.frame))
            (λ p. let e = in_frame q y (omega arith) (ltb-true _ _ p) in let h = past (y - q * T.frame) (rw (← e) g) in absurd (omega arith))
            (λ p. let o = ltb-false y (q * T.frame + T.frame) p in either (ltb y ((q + 1) * T.frame + T.frame))
            (λ r. let e = in_frame (q + 1) y (omega arith) (ltb-true _ _ r) in let h = first (y - (q + 1) * T.frame) (rw (← e) g) in omega arith)
            (λ r. omega (arith, ltb-false y ((q + 1) * T.frame + T.frame) r)));
      }
