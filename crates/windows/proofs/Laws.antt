-- Loops over the windows of a table: what is left from window i on. Assumes nothing.
use Prim.Native.Nat.{ℕ, ◌+◌, ◌-◌, ◌%◌, ◌≤◌, ◌<◌}
use mathlib.Core.Bool.{Bool, true, false, not}
use mathlib.Core.List.{List, ◌∷◌}
use mathlib.Core.Path.{◌≡◌, refl, sym, ap, ◌∙◌}
use native.Mathlib.Nat.{mod-lt}
use native.Mathlib.Omega.{arith}
use lib.IntN.{ℤ}
use lib.ListN.{length, get_or, drop, drop_of_length-le}
use lib.Seq.{drop-cons}
use native.Mathlib.Numerals.{add-one}
use borrow.Author.Tests.{le-leb, lt-leb, ne_eqb, not-true, not-false}
use Rattle.machine.specs.Fields.{field, between, number_of}
use Rattle.machine.specs.Limits.{time_limit}
use Rattle.machine.specs.Windows.{no_window, windows, covers, owned_by, starts_from, first_start, ahead_of, next_start, covering, waiting_of}
use Rattle.machine.specs.declared.Field.{Field}
use Rattle.machine.specs.declared.Table.{Table}
use Rattle.machine.specs.Time.{Time}
use Rattle.std.specs.Prelude.{None, Some, unwrap_or}
use Rattle.std.specs.Option.{option_or}
use Rattle.machine.specs.declared.Window.{Window}

module _ (ws : List Window) (i : ℕ) where
  next_window : i < length ws → drop i ws ≡ get_or ws i no_window ∷ drop (i + 1) ws
  next_window h = rw add-one (drop-cons ws i no_window h)

  -- it covers place x, or the later ones decide, or none is left
  module _ (x gap : ℕ) where
    pub covering_here : i < length ws → let w = get_or ws i no_window in
        covers w x ≡ true → covering (drop i ws) x gap ≡ record { partition = w.partition; left = w.start + w.duration - x }
    unfolding covering
    covering_here h e = rw (next_window h, covering, e)

    pub covering_more : i < length ws → covers (get_or ws i no_window) x ≡ false → covering (drop i ws) x gap ≡ covering (drop (i + 1) ws) x gap
    unfolding covering
    covering_more h e = rw (next_window h, covering, e)

    pub covering_done : length ws ≤ i → covering (drop i ws) x gap ≡ record { partition = 0; left = gap }
    unfolding covering
    covering_done h = rw (drop_of_length-le ws h)

  -- it is the first that passes a test and does not start before a place, or the later ones decide, or none is left
  module _ (f : Window → Bool) (from : ℕ) where
    start_here : i < length ws → let w = get_or ws i no_window in
        f w ≡ true → from ≤ w.start → first_start (starts_from f from) (drop i ws) ≡ Some w.start
    unfolding first_start
    start_here h e l = rw (next_window h, first_start, e, le-leb from (get_or ws i no_window).start l)

    start_more : i < length ws → starts_from f from (get_or ws i no_window) ≡ false → first_start (starts_from f from) (drop i ws) ≡ first_start (starts_from f from) (drop (i + 1) ws)
    unfolding first_start
    start_more h e = rw (next_window h, first_start, e)

    start_done : length ws ≤ i → first_start (starts_from f from) (drop i ws) ≡ None
    unfolding first_start
    start_done h = rw (drop_of_length-le ws h)

-- ---------------------------------------------------------------- the next start
pub place : (T : Table) (t : ℕ) → (T.frame ≡ 0 → ⊥) → t % T.frame < T.frame
place T t some = mod-lt t (omega arith)

-- the search at t among the windows ws of a table
module _ (T : Table) (t : ℕ) (f : Window → Bool) (ws : List Window) where
  -- how far ahead the first start of the next frame lies, of the windows from i on
  abbrev pub later : ℕ → ℕ
  later i = ahead_of T.frame (t % T.frame) None (first_start (starts_from f 0) (drop i ws))

  -- what it knows before window i: none of the windows before it starts later in this frame; and of the next frame the first start of them
  pub record Searched (next : Time) (i : ℕ) : Type 0 where
    pub here : first_start (starts_from f (t % T.frame + 1)) (drop i ws) ≡ first_start (starts_from f (t % T.frame + 1)) ws
    pub ahead : unwrap_or next (later i) ≡ later 0

  pub search_begins : Searched None 0
  search_begins = record { here = refl; ahead = refl }

  module _ (next : Time) (i : ℕ) (s : Searched next i) where
    -- a window that passes and starts later in this frame
    pub search_found : ws ≡ windows T → (T.frame ≡ 0 → ⊥) → i < length ws → let w = get_or ws i no_window in
        f w ≡ true → t % T.frame < w.start → w.start - t % T.frame ≡ next_start T t f
    unfolding next_start
    search_found all some h e l = rw (ne_eqb T.frame 0 some, ← all, ← s.here, start_here ws i f (t % T.frame + 1) h e (omega arith))

    -- one that does not pass
    pub search_more : i < length ws → f (get_or ws i no_window) ≡ false → Searched next (i + 1)
    search_more h e = record {
      here = sym (start_more ws i f (t % T.frame + 1) h (rw e)) ∙ s.here;
      ahead = ap (λ (r : Time). unwrap_or next (ahead_of T.frame (t % T.frame) None r)) (sym (start_more ws i f 0 h (rw e))) ∙ s.ahead;
    }

    -- one that passes and starts no later than t in the frame
    module _ (h : i < length ws) (e : f (get_or ws i no_window) ≡ true) (l : (get_or ws i no_window).start ≤ t % T.frame) where
      abbrev first : ℕ
      first = (get_or ws i no_window).start + T.frame - t % T.frame

      this : first ≡ later i
      this = sym (ap (ahead_of T.frame (t % T.frame) None) (start_here ws i f 0 h e (omega arith)))

      kept : (o : Time) → unwrap_or o (later i) ≡ later 0 → unwrap_or (option_or o (Some first)) (later (i + 1)) ≡ later 0
      kept None d = this ∙ d
      kept (Some n) d = d

      pub search_passed : Searched (option_or next (Some ((get_or ws i no_window).start + T.frame - t % T.frame))) (i + 1)
      search_passed = record {
        here = sym (start_more ws i f (t % T.frame + 1) h (rw (e, lt-leb (t % T.frame + 1) (get_or ws i no_window).start (omega arith)))) ∙ s.here;
        ahead = kept next s.ahead;
      }

    pub search_ends : ws ≡ windows T → (T.frame ≡ 0 → ⊥) → length ws ≤ i → unwrap_or next T.frame ≡ next_start T t f
    unfolding next_start
    search_ends all some h =
        let here : None ≡ first_start (starts_from f (t % T.frame + 1)) ws = sym (start_done ws i f (t % T.frame + 1) h) ∙ s.here in
        rw (ne_eqb T.frame 0 some, ← all, ← here) (ap (λ (r : Time). unwrap_or next (ahead_of T.frame (t % T.frame) None r)) (sym (start_done ws i f 0 h)) ∙ s.ahead)

-- ---------------------------------------------------------------- the waiting time
-- the answers, by the two fields and their tests
module _ (T : Table) (t k : ℤ) (f g : Field) (b b' : Bool) (at : f ≡ field t) (own : g ≡ field k) (first : b ≡ between 0 time_limit f) (second : b' ≡ between 1 T.size g) where
  pub waiting_late : not b ≡ true → record { code = 13; n = 0 } ≡ waiting_of T t k
  unfolding waiting_of
  waiting_late e = rw (← at, ← own, ← first, ← second, not-true b e)

  pub waiting_stranger : not b ≡ false → not b' ≡ true → record { code = 13; n = 0 } ≡ waiting_of T t k
  unfolding waiting_of
  waiting_stranger e e' = rw (← at, ← own, ← first, ← second, not-false b e, not-true b' e')

  pub waiting_given : (x y n : ℕ) → x ≡ number_of f → y ≡ number_of g → n ≡ next_start T x (owned_by y) → not b ≡ false → not b' ≡ false → record { code = 0; n = n } ≡ waiting_of T t k
  unfolding waiting_of
  waiting_given x y n p q r e e' = rw (r, p, q, ← at, ← own, ← first, ← second, not-false b e, not-false b' e')
