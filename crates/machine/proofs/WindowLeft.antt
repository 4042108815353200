-- The window lookup: the current partition, and what the ticks left are. Assumes nothing.
use Prim.Native.Nat.{ℕ, zero, suc, ◌+◌, ◌-◌, ◌%◌, ◌≤◌, ◌<◌}
use mathlib.Core.Bool.{Bool, true, false, and-false}
use mathlib.Core.List.{List, [], ◌∷◌}
use mathlib.Core.Logic.{◌⊎◌, inl, inr, ⊎_elim}
use mathlib.Core.Path.{◌≡◌, refl, ap, sym, ◌∙◌}
use native.Mathlib.Nat.{mod-lt, mod-eq_of_lt, mod-add-mod}
use native.Mathlib.Omega.{arith}
use lib.Dec.{leb, ltb, eqb}
use lib.ListN.{length, get_or}
use borrow.Author.Tests.{leb-true, ltb-true, ltb-false, le-leb, lt-ltb, le-ltb, eqb-true, eqb-false}
use Rattle.machine.specs.declared.Lookup.{Lookup}
use Rattle.machine.specs.declared.Table.{Table}
use Rattle.machine.specs.declared.Window.{Window}
use Rattle.machine.specs.Theorems.Valid.{Between, SoundWindow, SoundWindows, SoundTable}
use Rattle.machine.specs.Windows.{no_window, windows, covers, any_window, next_start, covering, lookup}
use Rattle.machine.specs.Theorems.Starts.{StartAt, Uncovered, WindowLeft}
use Rattle.machine.proofs.Either.{either}
use Rattle.machine.proofs.Starts.{each_window_holds, ends_before, one_start, frame_some, at_place, next_bounds, next_starts, next_least, next_nearer}
use Rattle.machine.proofs.Tests.{and_left, and_right, not_both}

-- ---------------------------------------------------------------- one window
module _ (w : Window) (x : ℕ) where
  pub covers_from : covers w x ≡ true → (w.start ≤ x) × (x < w.start + w.duration)
  covers_from e = (leb-true _ _ (and_left _ _ e), ltb-true _ _ (and_right (leb w.start x) _ e))

  pub covers_in : w.start ≤ x → x < w.start + w.duration → covers w x ≡ true
  covers_in lo hi = rw (le-leb _ _ lo) (lt-ltb _ _ hi)

  covers_past : w.start + w.duration ≤ x → covers w x ≡ false
  covers_past h = rw (le-ltb x (w.start + w.duration) h) (and-false (leb w.start x))

-- ---------------------------------------------------------------- the search for the one that covers a place
pub record Covered (ws : List Window) (x : ℕ) : Type 0 where
  pub at : ℕ
  pub inside : at < length ws
  pub covered : covers (get_or ws at no_window) x ≡ true

-- none of those that pass a test covers the place
abbrev pub UncoveredBy : (Window → Bool) → List Window → ℕ → Type 0
UncoveredBy f ws x = (i : ℕ) → i < length ws → f (get_or ws i no_window) ≡ true → covers (get_or ws i no_window) x ≡ false

none_more : (x : ℕ) (w : Window) (ws : List Window) → covers w x ≡ false → Uncovered ws x → Uncovered (w ∷ ws) x
none_more x w ws e f zero h = e
none_more x w ws e f (suc i) h = f i (omega arith)

pub covered_or_none : (x : ℕ) (ws : List Window) → Covered ws x ⊎ Uncovered ws x
covered_or_none x [] = inr (λ i h. absurd (omega arith))
covered_or_none x (w ∷ ws) = either (covers w x)
    (λ e. inl (record { at = 0; inside = omega arith; covered = e }))
    (λ e. ⊎_elim
    (λ (c : Covered ws x). inl (record { at = suc c.at; inside = omega (arith, c.inside); covered = c.covered }))
    (λ (f : Uncovered ws x). inr (none_more x w ws e f))
    (covered_or_none x ws))

-- what is found of windows in order
covering_is : (x gap previous frame size : ℕ) (ws : List Window) → SoundWindows previous frame size ws → (i : ℕ) → i < length ws → covers (get_or ws i no_window) x ≡ true
    → covering ws x gap ≡ record { partition = (get_or ws i no_window).partition; left = (get_or ws i no_window).start + (get_or ws i no_window).duration - x }
unfolding covering SoundWindows
covering_is x gap previous frame size [] s i h e = absurd (omega arith)
covering_is x gap previous frame size (w ∷ ws) s zero h e = rw e
covering_is x gap previous frame size (w ∷ ws) s (suc i) h e =
    let later = (each_window_holds (w.start + w.duration) frame size ws s.1 i (omega arith)).order in
    rw (covers_past w x (omega (arith, later, (covers_from (get_or ws i no_window) x e).0))) (covering_is x gap (w.start + w.duration) frame size ws s.1 i (omega arith) e)

covering_none : (x gap : ℕ) (ws : List Window) → Uncovered ws x → covering ws x gap ≡ record { partition = 0; left = gap }
unfolding covering
covering_none x gap [] f = refl
covering_none x gap (w ∷ ws) f = rw (f 0 (omega arith)) (covering_none x gap ws (λ i h. f (suc i) (omega arith)))

pair : {k k' n n' : ℕ} → k ≡ k' → n ≡ n' → ◌≡◌ {A = Lookup} (record { partition = k; left = n }) (record { partition = k'; left = n' })
pair e f = λ i. record { partition = e i; left = f i }

-- ---------------------------------------------------------------- a table
module _ (T : Table) (s : SoundTable T) where
  abbrev at : ℕ → Window
  at i = get_or (windows T) i no_window

  abbrev place : ℕ → ℕ
  place t = t % T.frame

  place_low : (t : ℕ) → place t < T.frame
  place_low t = mod-lt t (omega (arith, s.frame.0))

  window_at : (i : ℕ) → i < length (windows T) → SoundWindow 0 T.frame T.size (at i)
  window_at = each_window_holds 0 T.frame T.size (windows T) s.each_window

  in_window : (t i : ℕ) → i < length (windows T) → covers (at i) (place t) ≡ true → lookup T t ≡ record { partition = (at i).partition; left = (at i).start + (at i).duration - place t }
  unfolding lookup
  in_window t i h e = rw (frame_some T s) (covering_is (place t) _ 0 T.frame T.size (windows T) s.each_window i h e)

  in_gap : (t : ℕ) → Uncovered (windows T) (place t) → lookup T t ≡ record { partition = 0; left = next_start T t any_window }
  unfolding lookup next_start
  in_gap t f = rw (frame_some T s) (covering_none (place t) _ (windows T) f)

  -- the current partition is 0 or one of the table's
  pub current_known : (t : ℕ) → (lookup T t).partition ≤ T.size
  current_known t = ⊎_elim
      (λ (c : Covered (windows T) (place t)). omega (arith, ap (λ (v : Lookup). v.partition) (in_window t c.at c.inside c.covered), (window_at c.at c.inside).owner.1))
      (λ (f : Uncovered (windows T) (place t)). omega (arith, ap (λ (v : Lookup). v.partition) (in_gap t f)))
      (covered_or_none (place t) (windows T))

  -- where none of those that pass a test covers the place, none does until the next of them starts
  pub stays_out : (t : ℕ) (f : Window → Bool) → UncoveredBy f (windows T) (place t) → (j : ℕ) → j < next_start T t f → UncoveredBy f (windows T) (place (t + j))
  stays_out t f none zero l i h p = let z : t + 0 ≡ t = omega arith in rw z (none i h p)
  stays_out t f none (suc j) l i h p =
      let y = place (t + suc j) in
      let x = place (t + j) in
      let on : t + j + 1 ≡ t + suc j = omega arith in
      either (covers (at i) y)
      (λ e.
      let d = covers_from (at i) y e in
      absurd (either (eqb (at i).start y)
      (λ q. omega (arith, l, next_least T s t f (suc j) (record { at = i; inside = h; passed = rw p (le-leb 0 (at i).start (omega arith)); starts = eqb-true _ _ q }) (omega arith) (omega (arith, l, (next_bounds T s t f).1))))
      (λ q.
      let ne = eqb-false (at i).start y q in
      ⊎_elim
      (λ (g : y ≡ x + 1). not_both _ (covers_in (at i) x (omega (arith, d.0, ne)) (omega (arith, d.1))) (stays_out t f none j (omega arith) i h p))
      (λ (g : y + T.frame ≡ x + 1). omega (arith, place_low (t + j), d.0, ne))
      (at_place T.frame x 1 y (place_low (t + j)) (omega arith) s.frame.0 (ap (λ (u : ℕ). u % T.frame) (sym on) ∙ sym (mod-add-mod (t + j) T.frame 1))))))
      (λ e. e)

  module _ (t : ℕ) where
    abbrev n : ℕ
    n = (lookup T t).left

    -- what holds in both cases
    window_end : (i : ℕ) → i < length (windows T) → covers (at i) (place t) ≡ true → ((lookup T t).partition ≡ (at i).partition) × (place t + n ≡ (at i).start + (at i).duration)
    window_end i h e =
        let v = in_window t i h e in
        (ap (λ (v : Lookup). v.partition) v, omega (arith, ap (λ (v : Lookup). v.left) v, (covers_from (at i) (place t) e).1))

    -- -------------------------------------------------------- in a window
    module _ (i : ℕ) (h : i < length (windows T)) (e : covers (at i) (place t) ≡ true) where
      end : place t + n ≡ (at i).start + (at i).duration
      end = (window_end i h e).1

      inside : place t + n ≤ T.frame
      inside = omega (arith, end, (window_at i h).inside)

      -- j ticks on, in the window
      place_on : (j : ℕ) → j < n → place (t + j) ≡ place t + j
      place_on j l = sym (mod-add-mod t T.frame j) ∙ mod-eq_of_lt (omega (arith, inside))

      window_lasts : (j : ℕ) → j < n → lookup T (t + j) ≡ record { partition = (lookup T t).partition; left = n - j }
      window_lasts j l =
          let on = place_on j l in
          let b = covers_from (at i) (place t) e in
          in_window (t + j) i h (rw on (covers_in (at i) (place t + j) (omega (arith, b.0)) (omega (arith, end)))) ∙ pair (sym (window_end i h e).0) (omega (arith, end, on))

      window_between : (j : ℕ) → 1 ≤ j → j < n → StartAt T (place (t + j)) → ⊥
      window_between j some l q =
          let b = covers_from (at i) (place t) e in
          omega (arith, ends_before 0 T.frame T.size (windows T) s.each_window i q.at h q.inside (omega (arith, b.0, q.starts, place_on j l)), q.starts, place_on j l, end)

      -- the window that covers the place of its end starts there
      next_window : 1 ≤ n → (y : ℕ) → y ≡ place (t + n) → (c : Covered (windows T) y) → (at c.at).start ≡ y
      next_window some y is c =
          let b = covers_from (at i) (place t) e in
          let d = covers_from (at c.at) y c.covered in
          let z = end in
          let before : (j k : ℕ) → j < length (windows T) → k < length (windows T) → (at j).start < (at k).start → (at j).start + (at j).duration ≤ (at k).start = ends_before 0 T.frame T.size (windows T) s.each_window in
          let o = inside in
          ⊎_elim
          (λ (g : y ≡ place t + n). either (ltb (at i).start (at c.at).start)
          (λ p. omega (arith, before i c.at h c.inside (ltb-true _ _ p), d.0))
          (λ p. either (ltb (at c.at).start (at i).start)
          (λ q. absurd (omega (arith, before c.at i c.inside h (ltb-true _ _ q), d.1, b.0)))
          (λ q.
          let one : at c.at ≡ at i = one_start 0 T.frame T.size (windows T) s.each_window c.at i c.inside h (omega (arith, ltb-false (at i).start (at c.at).start p, ltb-false (at c.at).start (at i).start q)) in
          absurd (omega (arith, d.1, ap (λ (w : Window). w.start + w.duration) one)))))
          (λ (g : y + T.frame ≡ place t + n). omega (arith, d.0))
          (at_place T.frame (place t) n y (place_low t) some (omega arith) (is ∙ sym (mod-add-mod t T.frame n)))

      window_left_in : WindowLeft T t n
      window_left_in =
          let b = covers_from (at i) (place t) e in
          let some : 1 ≤ n = omega (arith, end, b.1) in
          record {
            some = some;
            few = omega (arith, inside);
            window = window_end;
            gap = λ f. not_both _ e (f i h);
            lasts = window_lasts;
            between = window_between;
            ends = ⊎_elim
                (λ (c : Covered (windows T) (place (t + n))). inl (record { at = c.at; inside = c.inside; starts = next_window some (place (t + n)) refl c }))
                (λ (f : Uncovered (windows T) (place (t + n))). inr f)
                (covered_or_none (place (t + n)) (windows T));
          }

    -- -------------------------------------------------------- without one
    module _ (none : Uncovered (windows T) (place t)) where
      left_is : n ≡ next_start T t any_window
      left_is = ap (λ (v : Lookup). v.left) (in_gap t none)

      one : Between 1 T.size 1
      one = (omega arith, s.size.0)

      start_then : StartAt T (place (t + n))
      start_then = rw left_is (let p = next_starts T s t any_window 1 one (λ w q. refl) in record { at = p.at; inside = p.inside; starts = p.starts })

      gap_between : (j : ℕ) → 1 ≤ j → j < n → StartAt T (place (t + j)) → ⊥
      gap_between j some l q =
          let b = next_bounds T s t any_window in
          omega (arith, left_is, next_least T s t any_window j (record { at = q.at; inside = q.inside; passed = le-leb 0 (at q.at).start (omega arith); starts = q.starts }) some (omega (arith, left_is, b.1)))

      gap_stays : (j : ℕ) → j < n → Uncovered (windows T) (place (t + j))
      gap_stays j l i h = stays_out t any_window (λ i h _. none i h) j (rw left_is at l) i h refl

      gap_lasts : (j : ℕ) → j < n → lookup T (t + j) ≡ record { partition = (lookup T t).partition; left = n - j }
      gap_lasts j l = in_gap (t + j) (gap_stays j l) ∙ pair (sym (ap (λ (v : Lookup). v.partition) (in_gap t none))) (next_nearer T s t any_window 1 one (λ w q. refl) j (rw left_is at l) ∙ ap (λ (u : ℕ). u - j) (sym left_is))

      window_left_out : WindowLeft T t n
      window_left_out =
          let b = next_bounds T s t any_window in
          record {
            some = omega (arith, left_is, b.0);
            few = omega (arith, left_is, b.1);
            window = window_end;
            gap = λ _. (ap (λ (v : Lookup). v.partition) (in_gap t none), start_then);
            lasts = gap_lasts;
            between = gap_between;
            ends = inl start_then;
          }

    -- Law. What the lookup gives at t.
    pub window_left_holds : WindowLeft T t n
    window_left_holds = ⊎_elim
        (λ (c : Covered (windows T) (place t)). window_left_in c.at c.inside c.covered)
        (λ (f : Uncovered (windows T) (place t)). window_left_out f)
        (covered_or_none (place t) (windows T))
