-- What a program prints of an input that it holds whole is its text, or the line of one that is too long. Assumes nothing.
use Rattle.std.proofs.Common.{ℕ, ◌+◌, ◌≤◌, ◌<◌, min, Option, Some, None, Ok, IfSome, true, false, List, ◌++◌, length, take, drop, leb, ltb, ◌≡◌, refl, sym, ap, ◌∙◌, arith, length-append}
use Rattle.std.specs.Io.KnownBytes.{Appends, Consumes, IsAtEnd}
use Rattle.std.proofs.KnownBytes.{Consumes-whole}
use lib.Seq.{take-append_seam}
use borrow.Author.Tests.{leb-true, le-leb, ltb-true, ltb-false, le-ltb}
use Rattle.machine.specs.Limits.{line_length}
use Rattle.machine.specs.Line.{line_refusal, in_range, all_in_range, can_write, written, numbers_of}
use Rattle.machine.specs.Replay.{refusal_numbers, text_into}
use Rattle.machine.proofs.Either.{either}
use Rattle.machine.proofs.TextLine.{six_length}
use Rattle.whole_input.specs.WholeInput.{Printed, no_room, shown_length, shown_into, printed_text, whole_limit, held_printed, held_into}
use Rattle.whole_input.specs.HeldText.{too_long_line, held_text}

too_long_length : length too_long_line ≡ line_length
too_long_length = six_length (numbers_of (refusal_numbers line_refusal 0))

too_long_range : all_in_range (refusal_numbers line_refusal 0) ≡ true
unfolding all_in_range in_range
too_long_range = refl

-- the line of a refusal
module _ (out : List ℕ) (big : length out ≡ whole_limit) where
  can : can_write (length out) (refusal_numbers line_refusal 0) ≡ true
  can = rw (too_long_range, le-leb (length too_long_line) (length out) (omega (arith, too_long_length)))

  refused_front : take (shown_length (length out) no_room) (shown_into out no_room) ≡ too_long_line
  unfolding written
  refused_front =
      rw can
      (ap (λ (n : ℕ). take n (too_long_line ++ drop (length too_long_line) out)) (sym too_long_length)
      ∙ take-append_seam too_long_line (drop (length too_long_line) out))

  text_front : (text : List ℕ) → length text ≤ length out → take (shown_length (length (text ++ drop (length text) out)) (Ok (length text))) (text ++ drop (length text) out) ≡ text
  text_front text h =
      let n : min (length text) (length (text ++ drop (length text) out)) ≡ length text = omega (arith, length-append text (drop (length text) out)) in
      rw n (take-append_seam text (drop (length text) out))

-- what is shown of the output
module _ (input text out out' out'' : List ℕ) (r : Printed) (k : ℕ) (big : length out ≡ whole_limit)
    (a : (r ≡ held_printed (length input) (printed_text text (length out))) × (out' ≡ held_into (length input) (text_into text out) out))
    (b : (k ≡ shown_length (length out') r) × (out'' ≡ shown_into out' r)) where
  refused_shown : r ≡ no_room → out' ≡ out → held_text input text ≡ too_long_line → take k out'' ≡ held_text input text
  refused_shown p q h =
      let n : k ≡ shown_length (length out) no_room = rw (p, q) at b.0 in
      let s : out'' ≡ shown_into out no_room = rw (p, q) at b.1 in
      rw (h, n, s) (refused_front out big)

  text_shown : length text ≤ length out → r ≡ Ok (length text) → out' ≡ text ++ drop (length text) out → held_text input text ≡ text → take k out'' ≡ held_text input text
  text_shown fits p q h =
      let n : k ≡ shown_length (length (text ++ drop (length text) out)) (Ok (length text)) = rw (p, q) at b.0 in
      let s : out'' ≡ text ++ drop (length text) out = rw (p, q) at b.1 in
      rw (h, n, s) (text_front out big text fits)

  pub shown_front : take k out'' ≡ held_text input text
  shown_front =
      either (ltb (length input) whole_limit)
      (λ t. either (leb (length text) (length out))
      (λ l. let f = rw big at l in text_shown (leb-true (length text) (length out) l) (rw (t, l) at a.0) (rw (t, l) at a.1) (rw (t, f)))
      (λ l. let f = rw big at l in refused_shown (rw (t, l) at a.0) (rw (t, l) at a.1) (rw (t, f))))
      (λ t. refused_shown (rw t at a.0) (rw t at a.1) (rw t))

  -- a writer that holds it more
  pub shown_appended : (held holds : Option (List ℕ)) → Appends held holds (take k out'') → Appends held holds (held_text input text)
  shown_appended held holds w = rw shown_front at w

-- a writer that holds what is printed for the bytes that were read holds what is printed for the whole input: they are the whole, or the input is too long
module _ (held holds : Option (List ℕ)) (text : List ℕ → List ℕ) where
  abbrev Holds : List ℕ → Type 0
  Holds xs = Appends held holds (held_text xs (text xs))

  too_long : (read : List ℕ) → ltb (length read) whole_limit ≡ false → Holds read → (had left : Option (List ℕ)) → Consumes had left read → IfSome had Holds
  too_long read t w None left c = tt
  too_long read t w (Some xs) None c = absurd c
  too_long read t w (Some xs) (Some ys) c =
      let long : length xs ≡ length read + length ys = ap length c ∙ length-append read ys in
      let more : ltb (length xs) whole_limit ≡ false = le-ltb (length xs) whole_limit (omega (arith, long, ltb-false (length read) whole_limit t)) in
      rw more (rw t at w)

  pub held_whole : (had left : Option (List ℕ)) (read : List ℕ) → Consumes had left read → (length read < whole_limit → IsAtEnd left) → Holds read → IfSome had Holds
  held_whole had left read c end w =
      either (ltb (length read) whole_limit)
      (λ t. Consumes-whole had left read Holds c (end (ltb-true (length read) whole_limit t)) w)
      (λ t. too_long read t w had left c)
