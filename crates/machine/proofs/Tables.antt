-- What table reading gives: of a sound table the fresh module, or the empty record with 11 or 12. Assumes nothing.
use Prim.Native.Nat.{ℕ, zero, suc, ◌+◌, ◌≤◌, ◌<◌}
use mathlib.Core.Path.{◌≡◌, refl, ◌∙◌}
use mathlib.Core.Bool.{Bool, true, false, cond, not, ◌&&◌}
use mathlib.Core.List.{List, [], ◌∷◌, ◌++◌}
use native.Mathlib.Omega.{arith}
use native.Mathlib.Numerals.{add-one}
use lib.ListN.{length, get_or, set, take, length-set}
use lib.Seq.{get_or-set_same, get_or-set_other, take-suc-set}
use lib.Dec.{leb, ltb, eqb}
use borrow.Author.Tests.{eqb-true, eqb-false, leb-true, ltb-true, ltb-false, not-true}
use Rattle.machine.specs.declared.Window.{Window}
use Rattle.machine.specs.declared.Draft.{Draft}
use Rattle.machine.specs.declared.Reading.{Reading}
use Rattle.machine.specs.declared.Row.{Row}
use Rattle.machine.specs.declared.Line.{Line}
use Rattle.machine.specs.declared.Line.TheVariants.{Six, Bad}
use Rattle.machine.specs.declared.Field.{Field}
use Rattle.machine.specs.declared.Field.TheVariants.{Number, MinusOne, Other}
use Rattle.machine.specs.Limits.{frame_limit, partition_limit, window_limit, channel_limit, size_limit, duration_limit}
use Rattle.machine.specs.Fields.{row_of, between, is_number, number_of}
use Rattle.machine.specs.Windows.{windows}
use Rattle.machine.specs.Module.{channel, no_channel, empty_module, fresh_module}
use Rattle.machine.specs.Table as T
use Rattle.machine.specs.Theorems.Valid.{Between, SoundWindow, SoundWindows, SoundChannel, SoundTable}
use Rattle.machine.proofs.Tests.{by_test, and_left, and_right}
use Rattle.machine.proofs.Fields.{in_limits}

-- the end of the last of these windows
abbrev end_after : ℕ → List Window → ℕ
end_after previous [] = previous
end_after previous (w ∷ ws) = end_after (w.start + w.duration) ws

windows_snoc : (previous frame size : ℕ) (ws : List Window) (w : Window) → SoundWindows previous frame size ws → SoundWindow (end_after previous ws) frame size w
    → SoundWindows previous frame size (ws ++ (w ∷ []))
unfolding SoundWindows
windows_snoc previous frame size [] w h s = (s, tt)
windows_snoc previous frame size (x ∷ ws) w h s = (h.0, windows_snoc (x.start + x.duration) frame size ws w h.1 s)

end_snoc : (previous : ℕ) (ws : List Window) (w : Window) → end_after previous (ws ++ (w ∷ [])) ≡ w.start + w.duration
end_snoc previous [] w = refl
end_snoc previous (x ∷ ws) w = end_snoc (x.start + x.duration) ws w

-- a table while it is read
pub record SoundDraft (n : ℕ) (d : Draft) : Type 0 where
  pub frame : Between 1 frame_limit d.table.frame
  pub size : Between 1 partition_limit d.table.size
  pub windows_size : length d.table.windows ≡ window_limit
  pub channels_size : length d.table.channels ≡ channel_limit
  pub announced : Between 1 window_limit d.windows
  pub announced_channels : d.channels ≤ channel_limit
  pub left : d.table.window_count + d.table.channel_count + n ≡ d.windows + d.channels
  pub ordered : (d.table.window_count ≤ d.windows) × (d.table.window_count < d.windows → d.table.channel_count ≡ 0)
  pub each_window : SoundWindows 0 d.table.frame d.table.size (windows d.table)
  pub end : end_after 0 (windows d.table) ≡ d.previous
  pub each_channel : (i : ℕ) → i < d.table.channel_count → SoundChannel d.table.size (channel d.table i)

pub window_sound : (d : Draft) (r : Row) → T.window_good d r ≡ true → SoundWindow d.previous d.table.frame d.table.size (T.window_of r)
window_sound d r h =
    let h₂ = and_right (between d.previous d.table.frame r.f1) _ h in
    let h₃ = and_right (between 1 d.table.frame r.f2) _ h₂ in
    let h₄ = and_right (leb (number_of r.f1 + number_of r.f2) d.table.frame) _ h₃ in
    record {
      order = (in_limits _ _ r.f1 (and_left (between d.previous d.table.frame r.f1) _ h)).0;
      long = (in_limits _ _ r.f2 (and_left (between 1 d.table.frame r.f2) _ h₂)).0;
      inside = leb-true _ _ (and_left (leb (number_of r.f1 + number_of r.f2) d.table.frame) _ h₃);
      owner = in_limits _ _ r.f3 (and_left (between 1 d.table.size r.f3) _ h₄);
    }

-- the size of a channel, queuing or not
size_few : (queuing : Bool) (f : Field) (kind : Bool) → cond queuing (between 1 size_limit f) (kind && is_number 0 f) ≡ true → number_of f ≤ size_limit
size_few true f kind h = (in_limits 1 size_limit f h).1
size_few false f kind h = omega (arith, number_zero f (and_right kind (is_number 0 f) h))
  where
    number_zero : (f : Field) → is_number 0 f ≡ true → number_of f ≡ 0
    number_zero (Number n) h = eqb-true n 0 h
    number_zero MinusOne h = refl
    number_zero Other h = refl

pub channel_sound : (d : Draft) (r : Row) → T.channel_good d r ≡ true → SoundChannel d.table.size (T.channel_of r)
channel_sound d r h =
    let h₂ = and_right (between 1 d.table.size r.f1) _ h in
    let h₃ = and_right (between 1 d.table.size r.f2) _ h₂ in
    let h₄ = and_right (not (eqb (number_of r.f1) (number_of r.f2))) _ h₃ in
    record {
      source = in_limits _ _ r.f1 (and_left (between 1 d.table.size r.f1) _ h);
      destination = in_limits _ _ r.f2 (and_left (between 1 d.table.size r.f2) _ h₂);
      apart = eqb-false _ _ (not-true _ (and_left (not (eqb (number_of r.f1) (number_of r.f2))) _ h₃));
      refresh = in_limits _ _ r.f3 (and_left (between 1 duration_limit r.f3) _ h₄);
      room = size_few (is_number 1 r.f4) r.f5 (is_number 0 r.f4) (and_left (cond (is_number 1 r.f4) (between 1 size_limit r.f5) (is_number 0 r.f4 && is_number 0 r.f5)) _ (and_right (between 1 duration_limit r.f3) _ h₄));
    }

-- one more window
window_draft_holds : (n : ℕ) (d : Draft) (r : Row) → SoundDraft (suc n) d → d.table.window_count < d.windows → T.window_good d r ≡ true → SoundDraft n (T.with_window d r)
window_draft_holds n d r s low h =
    let w = T.window_of r in
    let more : take (d.table.window_count + 1) (set d.table.windows d.table.window_count w) ≡ windows d.table ++ (w ∷ []) =
    rw add-one (take-suc-set d.table.windows d.table.window_count w (omega (arith, s.windows_size, s.announced.1))) in
    record {
      frame = s.frame;
      size = s.size;
      windows_size = length-set d.table.windows d.table.window_count w ∙ s.windows_size;
      channels_size = s.channels_size;
      announced = s.announced;
      announced_channels = s.announced_channels;
      left = let l = s.left in omega arith;
      ordered = (omega arith, λ _. s.ordered.1 low);
      each_window = rw more (windows_snoc 0 _ _ (windows d.table) w s.each_window (rw s.end (window_sound d r h)));
      end = rw more (end_snoc 0 (windows d.table) w);
      each_channel = s.each_channel;
    }

-- one more channel
channel_draft_holds : (n : ℕ) (d : Draft) (r : Row) → SoundDraft (suc n) d → d.windows ≤ d.table.window_count → T.channel_good d r ≡ true → SoundDraft n (T.with_channel d r)
channel_draft_holds n d r s high h =
    let c = d.table.channel_count in
    let room : c < length d.table.channels = omega (arith, s.channels_size, s.announced_channels, s.left, s.ordered.0) in
    record {
      frame = s.frame;
      size = s.size;
      windows_size = s.windows_size;
      channels_size = length-set d.table.channels c (T.channel_of r) ∙ s.channels_size;
      announced = s.announced;
      announced_channels = s.announced_channels;
      left = let l = s.left in omega arith;
      ordered = (s.ordered.0, λ low. absurd (omega arith));
      each_window = s.each_window;
      end = s.end;
      each_channel = λ i l. each i (eqb i c) refl l;
    }
  where
    each : (i : ℕ) (b : Bool) → eqb i d.table.channel_count ≡ b → i < d.table.channel_count + 1 → SoundChannel d.table.size (get_or (set d.table.channels d.table.channel_count (T.channel_of r)) i no_channel)
    each i true e l = rw (eqb-true i d.table.channel_count e, get_or-set_same d.table.channels d.table.channel_count (T.channel_of r) no_channel (omega (arith, s.channels_size, s.announced_channels, s.left, s.ordered.0))) (channel_sound d r h)
    each i false e l = let ne = eqb-false i d.table.channel_count e in rw (get_or-set_other d.table.channels d.table.channel_count i (T.channel_of r) no_channel ne) (s.each_channel i (omega arith))

-- what reading gives
pub record TableRead (r : Reading) : Type 0 where
  pub accepted : r.code ≡ 0 → SoundTable r.state.table × (r.state ≡ fresh_module r.state.table)
  pub refused : (r.code ≡ 0 → ⊥) → r.state ≡ empty_module

table_refused : (code value : ℕ) → (code ≡ 0 → ⊥) → TableRead (T.refused_table code value)
table_refused code value h = record { accepted = λ q. absurd (h q); refused = λ _. refl }

pub flagged_each : (n k : ℕ) (ws : List Window) → T.flagged_from n k ws ≡ true → (j : ℕ) → k ≤ j → j < k + n → T.has_flagged j ws ≡ true
unfolding T.flagged_from
flagged_each zero k ws h j lo hi = absurd (omega arith)
flagged_each (suc n) k ws h j lo hi =
    go (eqb j k) refl (λ ne. flagged_each n (k + 1) ws (and_right (T.has_flagged k ws) _ h) j (omega arith) (omega arith))
  where
    go : (b : Bool) → eqb j k ≡ b → ((j ≡ k → ⊥) → T.has_flagged j ws ≡ true) → T.has_flagged j ws ≡ true
    go true e f = rw (eqb-true j k e) (and_left (T.has_flagged k ws) _ h)
    go false e f = f (eqb-false j k e)

-- no line is left: every window of line 1 has been read
windows_read : (d : Draft) → SoundDraft 0 d → d.table.window_count ≡ d.windows
windows_read d s = go (ltb d.table.window_count d.windows) refl
  where
    go : (b : Bool) → ltb d.table.window_count d.windows ≡ b → d.table.window_count ≡ d.windows
    go true e = let low = ltb-true d.table.window_count d.windows e in let none = s.ordered.1 low in absurd (omega (arith, s.left))
    go false e = omega (arith, ltb-false d.table.window_count d.windows e, s.ordered.0)

draft_table : (d : Draft) → SoundDraft 0 d → T.flagged_from d.table.size 1 (windows d.table) ≡ true → SoundTable d.table
draft_table d s h =
    let all = windows_read d s in
    record {
      frame = s.frame;
      size = s.size;
      windows_size = s.windows_size;
      window_count = (omega (arith, s.announced.0), omega (arith, s.announced.1));
      channels_size = s.channels_size;
      channel_count = omega (arith, s.left, s.announced_channels);
      each_window = s.each_window;
      flagged = λ k b. flagged_each d.table.size 1 (windows d.table) h k b.0 (omega (arith, b.1));
      each_channel = s.each_channel;
    }

checked_read : (d : Draft) (line : ℕ) → SoundDraft 0 d → TableRead (T.checked_table d.table line)
unfolding fresh_module
checked_read d line s =
    by_test TableRead (T.flagged_from d.table.size 1 (windows d.table))
    (λ h. record { accepted = λ _. (draft_table d s h, refl); refused = λ n. absurd (n refl) })
    (λ h. table_refused 12 0 (λ q. omega arith))

pub row_draft : (n : ℕ) (d : Draft) (r : Row) → SoundDraft (suc n) d → T.row_good d r ≡ true → SoundDraft n (T.with_row d r)
row_draft n d r s = go (T.window_next d) refl
  where
    go : (b : Bool) → T.window_next d ≡ b → cond b (T.window_good d r) (T.channel_good d r) ≡ true → SoundDraft n (cond b (T.with_window d r) (T.with_channel d r))
    go true e h = window_draft_holds n d r s (ltb-true _ _ e) h
    go false e h = channel_draft_holds n d r s (ltb-false _ _ e) h

from_read : (n line : ℕ) (d : Draft) (ls : List Line) → SoundDraft n d → TableRead (T.table_from n line d ls)
unfolding T.table_from
from_read zero line d ls s = checked_read d line s
from_read (suc n) line d [] s = table_refused _ _ (λ q. omega arith)
from_read (suc n) line d (Bad ∷ ls) s = table_refused _ _ (λ q. omega arith)
from_read (suc n) line d (Six x ∷ ls) s =
    by_test TableRead (T.row_good d (row_of x))
    (λ h. from_read n (line + 1) (T.with_row d (row_of x)) ls (row_draft n d (row_of x) s h))
    (λ h. table_refused _ _ (λ q. omega arith))

pub head_draft_holds : (r : Row) → T.head_good r ≡ true → SoundDraft ((T.head_draft r).windows + (T.head_draft r).channels) (T.head_draft r)
unfolding SoundWindows
head_draft_holds r h =
    let h₂ = and_right (between 1 frame_limit r.f1) _ h in
    let h₃ = and_right (between 1 partition_limit r.f2) _ h₂ in
    let h₄ = and_right (between 1 window_limit r.f3) _ h₃ in
    record {
      frame = in_limits _ _ r.f1 (and_left (between 1 frame_limit r.f1) _ h);
      size = in_limits _ _ r.f2 (and_left (between 1 partition_limit r.f2) _ h₂);
      windows_size = refl;
      channels_size = refl;
      announced = in_limits _ _ r.f3 (and_left (between 1 window_limit r.f3) _ h₃);
      announced_channels = (in_limits _ _ r.f4 (and_left (between 0 channel_limit r.f4) _ h₄)).1;
      left = omega arith;
      ordered = (omega arith, λ _. refl);
      each_window = tt;
      end = refl;
      each_channel = λ i l. absurd (omega arith);
    }

-- every list of lines, and so every input
pub lines_read : (ls : List Line) → TableRead (T.table_of ls)
unfolding T.table_of
lines_read [] = table_refused _ _ (λ q. omega arith)
lines_read (Bad ∷ ls) = table_refused _ _ (λ q. omega arith)
lines_read (Six x ∷ ls) =
    by_test TableRead (T.head_good (row_of x))
    (λ h. from_read _ 1 (T.head_draft (row_of x)) ls (head_draft_holds (row_of x) h))
    (λ h. table_refused _ _ (λ q. omega arith))

pub table_read : (input : List ℕ) → TableRead (T.read_table input)
table_read input = lines_read _
