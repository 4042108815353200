-- Ticks left in the window, proved. Assumes nothing.
use Prim.Native.Nat.{ℕ, ◌+◌, ◌-◌, ◌%◌, ◌<◌}
use mathlib.Core.Path.{◌≡◌, refl, sym, ap, ap₂, ◌∙◌}
use mathlib.Core.List.{List, [], ◌∷◌}
use mathlib.Core.Logic.{◌⊎◌, inl, inr, ⊎_elim}
use native.Mathlib.Omega.{arith}
use Rattle.machine.specs.declared.Event.{Event as EventT}
use Rattle.machine.specs.declared.Lookup.{Lookup}
use Rattle.machine.specs.declared.Module.{Module}
use Rattle.machine.specs.Windows.{windows, lookup}
use Rattle.machine.specs.Theorems.Starts.{StartAt, Uncovered}
use Rattle.machine.specs.Module.{empty_table, empty_module, window, current, ticks_left}
use Rattle.machine.specs.Step.{step}
use Rattle.machine.specs.Runs.{after}
use Rattle.machine.specs.Theorems.Valid.{SoundTable, SoundModule, Reached}
use Rattle.machine.specs.Theorems.TicksLeft.{TicksLeft}
use Rattle.machine.proofs.EachCall.{each_call}
use Rattle.machine.proofs.WindowLeft.{window_left_holds}
use Rattle.machine.proofs.Reached.{reached_valid}
use Rattle.machine.proofs.Answers.{step_table}
use Rattle.machine.proofs.Isolation.{left_right}

-- ---------------------------------------------------------------- the table
-- no event changes it
pub after_table : (m : Module) (es : List EventT) → (after m es).table ≡ m.table
after_table m [] = refl
after_table m (e ∷ es) = after_table (step m e).state es ∙ step_table m e

empty_window : (t : ℕ) → lookup empty_module.table t ≡ record { partition = 0; left = 0 }
unfolding lookup empty_module empty_table
empty_window t = refl

empty_frame : empty_module.table.frame ≡ 0
unfolding empty_module empty_table
empty_frame = refl

-- a reached record with M above 0 has a sound table; one with M = 0 is the empty one
module _ (m : Module) (h : Reached m) where
  frame_of : m ≡ empty_module → m.table.frame ≡ 0
  frame_of e = ap (λ (v : Module). v.table.frame) e ∙ empty_frame

  sound_table : 0 < m.table.frame → SoundTable m.table
  sound_table some = ⊎_elim (λ (e : m ≡ empty_module). absurd (omega (arith, frame_of e))) (λ (s : SoundModule m). s.table) (reached_valid m h)

  empty_table_holds : m.table.frame ≡ 0 → (t : ℕ) → lookup m.table t ≡ record { partition = 0; left = 0 }
  empty_table_holds none t = ⊎_elim (λ (e : m ≡ empty_module). ap (λ (v : Module). lookup v.table t) e ∙ empty_window t) (λ (s : SoundModule m). absurd (omega (arith, s.table.frame.0))) (reached_valid m h)

  -- where ticks are left M is above 0
  frame_left : 0 < ticks_left m → 0 < m.table.frame
  frame_left some = ⊎_elim (λ (e : m ≡ empty_module). absurd (omega (arith, ap (λ (v : Lookup). v.left) (empty_table_holds (frame_of e) m.t)))) (λ (s : SoundModule m). s.table.frame.0) (reached_valid m h)

  -- ---------------------------------------------------------------- over lists
  module _ (es : List EventT) where
    window_after : (t : ℕ) → (after m es).t ≡ t → window (after m es) ≡ lookup m.table t
    window_after t e = ap₂ lookup (after_table m es) e

    lasts : (j : ℕ) → (after m es).t ≡ m.t + j → j < ticks_left m → (current (after m es) ≡ current m) × (ticks_left (after m es) ≡ ticks_left m - j)
    lasts j e l =
        let v = window_after (m.t + j) e ∙ (window_left_holds m.table (sound_table (frame_left (omega arith))) m.t).lasts j l in
        (ap (λ (v : Lookup). v.partition) v, ap (λ (v : Lookup). v.left) v)

    ends : 0 < m.table.frame → (after m es).t ≡ m.t + ticks_left m → StartAt m.table ((after m es).t % m.table.frame) ⊎ (current (after m es) ≡ 0)
    ends some e =
        let s = sound_table some in
        rw e (⊎_elim
        (λ (q : StartAt m.table ((m.t + ticks_left m) % m.table.frame)). inl q)
        (λ (f : Uncovered (windows m.table) ((m.t + ticks_left m) % m.table.frame)). inr (ap (λ (v : Lookup). v.partition) (window_after (m.t + ticks_left m) e) ∙ ((window_left_holds m.table s (m.t + ticks_left m)).gap f).0))
        (window_left_holds m.table s m.t).ends)

-- Law. Ticks left in the window.
pub ticks_left_holds : TicksLeft
ticks_left_holds = record {
  reached = λ m h some. let l = window_left_holds m.table (sound_table m h some) m.t in (l.some, l.few);
  window_left = λ m h some. window_left_holds m.table (sound_table m h some);
  empty = empty_table_holds;
  lasts = lasts;
  ends = λ m h some es. ends m h es some;
  again = λ m k h es j g e l.
      let n = (each_call m k h).get_ticks_left.0.value_is in
      (each_call (after m es) k g).get_ticks_left.0.value_is ∙ (lasts m h.reached es j e (omega (arith, n))).1 ∙ ap (λ (u : ℕ). u - j) (sym n);
  apart = λ m S within closed left right q.
      let e = (left_right m S within closed left right q).1 in
      ap₂ lookup (after_table m left ∙ sym (after_table m right)) e.time;
}
