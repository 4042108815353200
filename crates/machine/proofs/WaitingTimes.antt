-- The waiting time is the least number that it may be, proved. Assumes nothing.
use Prim.Native.Nat.{ℕ, zero, suc, ◌+◌, ◌-◌, ◌%◌, ◌≤◌, ◌<◌}
use mathlib.Core.Bool.{true, false, ◌&&◌, or-true, true≢false}
use mathlib.Core.List.{List, [], ◌∷◌}
use mathlib.Core.Logic.{⊎_elim}
use mathlib.Core.Path.{◌≡◌, refl, sym, ap, ap₂, ◌∙◌}
use native.Mathlib.Omega.{arith}
use lib.Dec.{ltb, eqb}
use lib.IntN.{ℤ, pos}
use lib.ListN.{length, get_or}
use borrow.Author.Tests.{ltb-true, ltb-false, le-leb, eqb-true, eq-eqb}
use Rattle.machine.specs.declared.Event.{Event as EventT}
use Rattle.machine.specs.declared.Module.{Module}
use Rattle.machine.specs.declared.Lookup.{Lookup}
use Rattle.machine.specs.declared.Table.{Table}
use Rattle.machine.specs.Windows.{Waiting}
use Rattle.machine.specs.declared.Window.{Window}
use Rattle.machine.specs.Limits.{time_limit, greatest_time}
use Rattle.machine.specs.Module.{current}
use Rattle.machine.specs.Theorems.Plain.{plain_between}
use Rattle.machine.specs.Runs.{after}
use Rattle.machine.specs.Theorems.Valid.{Between, SoundTable, SoundModule, Reached}
use Rattle.machine.specs.Windows.{no_window, windows, covers, owned_by, starts_from, next_start, lookup, waiting_of}
use Rattle.machine.specs.Theorems.Starts.{Uncovered, starts_at, WaitingTime}
use Rattle.machine.specs.Theorems.WaitingTimes.{waiting_now, WaitingExample, WaitingTimes}
use Rattle.machine.specs.Theorems.Examples as E
use Rattle.machine.specs.Line as X
use Rattle.machine.specs.Module as M
use Rattle.machine.specs.Table as R
use Rattle.machine.specs.Windows as Wi
use Rattle.machine.proofs.Account.{reached_after}
use Rattle.machine.proofs.Either.{either}
use Rattle.machine.proofs.Plain.{lossless}
use Rattle.machine.proofs.Reached.{reached_valid, valid_sized, valid_sound}
use Rattle.machine.proofs.Starts.{Passes, passes_test, owned_passes, each_window_holds, next_bounds, next_starts, next_least, next_nearer}
use Rattle.machine.proofs.Tests.{and_left, and_right, not_both}
use Rattle.machine.proofs.TicksLeft.{after_table}
use Rattle.machine.proofs.WindowLeft.{Covered, UncoveredBy, covered_or_none, covers_in, window_left_holds, stays_out}

-- computed from the bytes of the table
example : WaitingExample
unfolding E.bytes E.text E.two_windows X.in_range X.column X.mark_after X.columns X.number_text X.field_text X.line_text X.same_bytes X.spelled X.candidate X.read_field X.read_numbers X.read_line X.lines R.has_flagged R.flagged_from R.table_from R.table_of M.empty_table M.empty_module M.fresh_module Wi.first_start Wi.next_start Wi.waiting_of
example = record { first = refl; second = refl }

-- ---------------------------------------------------------------- the least number
-- two words for a start of the partition
starts_at_holds : (k x : ℕ) (ws : List Window) (i : ℕ) → i < length ws → eqb (get_or ws i no_window).partition k ≡ true → (get_or ws i no_window).start ≡ x → starts_at k x ws ≡ true
unfolding starts_at
starts_at_holds k x [] i lo own e = absurd (omega arith)
starts_at_holds k x (w ∷ ws) zero lo own e = rw (own, eq-eqb w.start x e)
starts_at_holds k x (w ∷ ws) (suc i) lo own e = rw (starts_at_holds k x ws i (omega arith) own e) (or-true (eqb w.partition k && eqb w.start x))

passes_at : (k x : ℕ) (ws : List Window) → starts_at k x ws ≡ true → Passes (starts_from (owned_by k) 0) ws x
unfolding starts_at
passes_at k x [] e = absurd (true≢false (sym e))
passes_at k x (w ∷ ws) e = either (eqb w.partition k && eqb w.start x)
    (λ h. record { at = 0; inside = omega arith; passed = rw (and_left (eqb w.partition k) _ h) (le-leb 0 w.start (omega arith)); starts = eqb-true _ _ (and_right (eqb w.partition k) _ h) })
    (λ h. let p = passes_at k x ws (rw h at e) in record { at = suc p.at; inside = omega (arith, p.inside); passed = p.passed; starts = p.starts })

module _ (T : Table) (s : SoundTable T) (k t : ℕ) (own : Between 1 T.size k) where
  -- the window that starts then
  next_owned : Passes (starts_from (owned_by k) 0) (windows T) ((t + next_start T t (owned_by k)) % T.frame)
  next_owned = next_starts T s t (owned_by k) k own (owned_passes k)

  next_partition : (get_or (windows T) next_owned.at no_window).partition ≡ k
  next_partition = eqb-true _ _ (passes_test (owned_by k) 0 (get_or (windows T) next_owned.at no_window) next_owned.passed)

  -- the next start of a window of the partition is the least number of 1..M such that one starts then
  waiting_least : WaitingTime T k t (next_start T t (owned_by k))
  waiting_least =
      let b = next_bounds T s t (owned_by k) in
      record {
        some = b.0;
        few = b.1;
        starts = starts_at_holds k _ (windows T) next_owned.at next_owned.inside (eq-eqb _ _ next_partition) next_owned.starts;
        least = λ j lo l. either (starts_at k ((t + j) % T.frame) (windows T))
            (λ e. absurd (omega (arith, l, next_least T s t (owned_by k) j (passes_at k _ (windows T) e) lo (omega (arith, l, b.1)))))
            (λ e. e);
      }

-- there is one only
one : (T : Table) (k t n u : ℕ) → WaitingTime T k t n → WaitingTime T k t u → n ≡ u
one T k t n u f g = either (ltb n u)
    (λ e. not_both _ f.starts (g.least n f.some (ltb-true n u e)))
    (λ e. either (ltb u n)
    (λ q. not_both _ g.starts (f.least u g.some (ltb-true u n q)))
    (λ q. omega (arith, ltb-false n u e, ltb-false u n q)))

-- ---------------------------------------------------------------- what is given
-- t and the partition are in range
waiting_is : (T : Table) → SoundTable T → (t k : ℕ) → t ≤ time_limit → Between 1 T.size k → waiting_of T (pos t) (pos k) ≡ record { code = 0; n = next_start T t (owned_by k) }
unfolding waiting_of next_start
waiting_is T s t k low own = rw (
  le-leb t greatest_time (omega (arith, low)),
  le-leb k greatest_time (omega (arith, own.1, s.size.1)),
  le-leb 0 t (omega arith),
  le-leb t time_limit low,
  le-leb 1 k own.0,
  le-leb k T.size own.1,
)

-- one of them is not
waiting_refused_holds : (T : Table) → T.size ≤ greatest_time → (t k : ℤ) → (plain_between 0 time_limit t && plain_between 1 T.size k) ≡ false → waiting_of T t k ≡ record { code = 13; n = 0 }
unfolding waiting_of
waiting_refused_holds T few t k e = rw ((lossless t).between 0 time_limit (omega arith), (lossless k).between 1 T.size few)
    (either (plain_between 0 time_limit t) (λ p. rw (p, rw p at e)) (λ p. rw p))

-- a reached record with a partition is sound
sound_of : (m : Module) → Reached m → (k : ℕ) → Between 1 m.table.size k → SoundModule m
sound_of m h k own = valid_sound m (reached_valid m h) (k - 1) (omega (arith, own.0, own.1))

-- ---------------------------------------------------------------- over lists of events
module _ (m : Module) (h : Reached m) (k : ℕ) (own : Between 1 m.table.size k) where
  abbrev T : Table
  T = m.table

  sound : SoundTable T
  sound = (sound_of m h k own).table

  now_is : waiting_now m k ≡ next_start T m.t (owned_by k)
  now_is = ap (λ (w : Waiting). w.n) (waiting_is T sound m.t k (sound_of m h k own).time own)

module _ (m : Module) (h : Reached m) (k : ℕ) (own : Between 1 m.table.size k) (es : List EventT) where
  abbrev n : ℕ
  n = next_start m.table m.t (owned_by k)

  current_then : (t : ℕ) → (after m es).t ≡ t → current (after m es) ≡ (lookup m.table t).partition
  current_then t e = ap (λ (v : Lookup). v.partition) (ap₂ lookup (after_table m es) e)

  own_after : Between 1 (after m es).table.size k
  own_after = rw (after_table m es) own

  nearer : (j : ℕ) → (after m es).t ≡ m.t + j → j < waiting_now m k → waiting_now (after m es) k ≡ waiting_now m k - j
  nearer j e l =
      let begun = now_is m h k own in
      now_is (after m es) (reached_after m h es) k own_after
      ∙ ap₂ (λ (T : Table) (t : ℕ). next_start T t (owned_by k)) (after_table m es) e
      ∙ next_nearer m.table (sound m h k own) m.t (owned_by k) k own (owned_passes k) j (rw begun at l)
      ∙ ap (λ (u : ℕ). u - j) (sym begun)

  -- no window of a partition that is not current covers the place
  none_now : (current m ≡ k → ⊥) → UncoveredBy (owned_by k) (windows m.table) (m.t % m.table.frame)
  none_now off i inside p = either (covers (get_or (windows m.table) i no_window) (m.t % m.table.frame))
      (λ c. absurd (off (((window_left_holds m.table (sound m h k own) m.t).window i inside c).0 ∙ eqb-true _ _ p)))
      (λ c. c)

  sleeps : (j : ℕ) → (current m ≡ k → ⊥) → (after m es).t ≡ m.t + j → j < waiting_now m k → current (after m es) ≡ k → ⊥
  sleeps j off e l is =
      let x = (m.t + j) % m.table.frame in
      let v = window_left_holds m.table (sound m h k own) (m.t + j) in
      let now : (lookup m.table (m.t + j)).partition ≡ k = sym (current_then (m.t + j) e) ∙ is in
      ⊎_elim
      (λ (c : Covered (windows m.table) x).
      let p : owned_by k (get_or (windows m.table) c.at no_window) ≡ true = eq-eqb _ _ (sym (v.window c.at c.inside c.covered).0 ∙ now) in
      not_both _ c.covered (stays_out m.table (sound m h k own) m.t (owned_by k) (none_now off) j (rw (now_is m h k own) at l) c.at c.inside p))
      (λ (f : Uncovered (windows m.table) x). omega (arith, (v.gap f).0, now, own.0))
      (covered_or_none x (windows m.table))

  comes : (after m es).t ≡ m.t + waiting_now m k → (starts_at k ((after m es).t % m.table.frame) (windows m.table) ≡ true) × (current (after m es) ≡ k)
  comes e =
      let s = sound m h k own in
      let then : (after m es).t ≡ m.t + n = e ∙ ap (λ (u : ℕ). m.t + u) (now_is m h k own) in
      let p = next_owned m.table s k m.t own in
      let w = get_or (windows m.table) p.at no_window in
      let long = (each_window_holds 0 m.table.frame m.table.size (windows m.table) s.each_window p.at p.inside).long in
      let covered = covers_in w ((m.t + n) % m.table.frame) (omega (arith, p.starts)) (omega (arith, p.starts, long)) in (
        rw then (waiting_least m.table s k m.t own).starts,
        current_then (m.t + n) then ∙ ((window_left_holds m.table s (m.t + n)).window p.at p.inside covered).0 ∙ next_partition m.table s k m.t own,
      )

-- ---------------------------------------------------------------- the whole
-- Law. The waiting time.
pub waiting_times : WaitingTimes
waiting_times = record {
  given = λ m h t k low own.
      let s = (sound_of m h k own).table in
      rw (waiting_is m.table s t k low own) (refl, waiting_least m.table s k t own);
  one = one;
  refused = λ m h. waiting_refused_holds m.table (omega (arith, (valid_sized m (reached_valid m h)).size));
  steady = λ m es t k. ap (λ (T : Table). waiting_of T t k) (after_table m es);
  nearer = nearer;
  sleeps = sleeps;
  comes = comes;
  example = example;
}
