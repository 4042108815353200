-- Lines that come byte by byte: bytes before an LF are no line yet, and what is held of them. Assumes nothing.
use Prim.Native.Nat.{ℕ, ◌+◌, ◌≤◌, ◌<◌}
use mathlib.Core.Path.{◌≡◌, refl, sym, ap, ◌∙◌}
use mathlib.Core.Bool.{true, false, not, and-eq-true_iff}
use mathlib.Core.List.{List, [], ◌∷◌, ◌++◌}
use native.Mathlib.Omega.{arith}
use native.Mathlib.Numerals.{add-one}
use lib.ListN.{length, take, length-append, length-take, length-set}
use lib.Seq.{take_all, take-append-le, take-suc-set, length-take-le, set_out}
use lib.Dec.{eqb, ltb, leb}
use borrow.Author.Tests.{not-true, ltb-true, ltb-false, leb-true, leb-false}
use Rattle.machine.specs.Line.{line_feed, read_line, lines}
use Rattle.machine.proofs.Either.{either}
use Rattle.machine.proofs.TextLine.{read_other}
use Rattle.machine.proofs.TextInput.{no_feed, unfed_append}
use Rattle.stream.specs.declared.Stream.{Stream}
use Rattle.stream.specs.Stream.{held_limit, put}

-- ---------------------------------------------------------------- bytes before an LF
unfed_tail : (b : ℕ) (q : List ℕ) → no_feed (b ∷ q) ≡ true → (eqb b line_feed ≡ false) × (no_feed q ≡ true)
unfolding no_feed
unfed_tail b q h = let t = (and-eq-true_iff (not (eqb b line_feed)) (no_feed q)).0 h in (not-true (eqb b line_feed) t.0, t.1)

-- an LF ends the line
pub line_ends : (q r : List ℕ) → no_feed q ≡ true → lines (q ++ line_feed ∷ r) ≡ (q ++ line_feed ∷ []) ∷ lines r
unfolding lines
line_ends [] r h = refl
line_ends (b ∷ q) r h = let t = unfed_tail b q h in rw (t.0, line_ends q r t.1)

-- the input's end ends it too
pub line_last : (b : ℕ) (q : List ℕ) → no_feed (b ∷ q) ≡ true → lines (b ∷ q) ≡ (b ∷ q) ∷ []
unfolding lines
line_last b [] h = rw (unfed_tail b [] h).0
line_last b (c ∷ q) h = let t = unfed_tail b (c ∷ q) h in rw (t.0, line_last c q t.1)

pub unfed_more : (q : List ℕ) (b : ℕ) → no_feed q ≡ true → eqb b line_feed ≡ false → no_feed (q ++ b ∷ []) ≡ true
unfolding no_feed
unfed_more q b h e = unfed_append q (b ∷ []) h (rw e)

-- ---------------------------------------------------------------- what is held of a line
-- the first bytes are read as all of them are
pub read_held : (p : List ℕ) → read_line (take held_limit p) ≡ read_line p
read_held p = either (leb (length p) held_limit)
    (λ t. rw (take_all held_limit p (leb-true _ _ t)))
    (λ t.
    let far : held_limit < length p = leb-false _ _ t in
    let n : length (take held_limit p) ≡ held_limit = length-take-le held_limit p (omega arith) in
    sym (read_other (take held_limit p) (λ e. omega arith)) ∙ read_other p (λ e. omega arith))

-- of the bytes p the first ones
pub record Holds (s : Stream) (p : List ℕ) : Type 0 where
  pub room : length s.held ≡ held_limit
  pub count : s.place.count ≡ length (take held_limit p)
  pub bytes : take s.place.count s.held ≡ take held_limit p

pub holds_none : (s : Stream) → length s.held ≡ held_limit → s.place.count ≡ 0 → Holds s []
holds_none s h e = record { room = h; count = rw e; bytes = rw e }

pub holds_put : (s : Stream) (p : List ℕ) (b : ℕ) → Holds s p → Holds (put s b) (p ++ b ∷ [])
holds_put s p b h = either (ltb s.place.count held_limit) more full
  where
    n : ℕ
    n = s.place.count

    grown : length (p ++ b ∷ []) ≡ length p + 1
    grown = length-append p (b ∷ [])

    more : ltb n held_limit ≡ true → Holds (put s b) (p ++ b ∷ [])
    more t =
        let small : n < held_limit = ltb-true _ _ t in
        let short : length p < held_limit = omega (arith, h.count, length-take held_limit p) in
        let own : take held_limit p ≡ p = take_all held_limit p (omega arith) in
        let all : take held_limit (p ++ b ∷ []) ≡ p ++ b ∷ [] = take_all held_limit (p ++ b ∷ []) (omega (arith, grown)) in
        record {
          room = length-set s.held n b ∙ h.room;
          count = rw (t, all) (omega (arith, grown, h.count, ap length own));
          bytes = rw (t, all, add-one) (take-suc-set s.held n b (omega (arith, h.room)) ∙ ap (λ (l : List ℕ). l ++ b ∷ []) (h.bytes ∙ own));
        }

    full : ltb n held_limit ≡ false → Holds (put s b) (p ++ b ∷ [])
    full t =
        let large : held_limit ≤ n = ltb-false _ _ t in
        let long : held_limit ≤ length p = omega (arith, h.count, length-take held_limit p) in
        let same : take held_limit (p ++ b ∷ []) ≡ take held_limit p = take-append-le held_limit p (b ∷ []) long in
        record {
          room = length-set s.held n b ∙ h.room;
          count = rw (t, same) h.count;
          bytes = rw (t, same, set_out s.held n b (omega (arith, h.room))) h.bytes;
        }
