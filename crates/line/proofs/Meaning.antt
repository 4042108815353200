-- What was read, and the number and values that its bytes have: each settles the other. Assumes nothing.
use mathlib.Core.Path.{◌≡◌, refl, sym, ap, ◌∙◌}
use mathlib.Core.List.{List}
use Rattle.std.specs.Prelude.{Option, None, Some}
use Prim.Native.Nat.{ℕ}
use native.Mathlib.Omega.{arith}
use lib.IntN.{ℤ}
use Rattle.machine.specs.declared.Line.{Line}
use Rattle.machine.specs.declared.Line.TheVariants.{Six, Bad}
use Rattle.machine.specs.Line.{field_count, read_numbers, number_list, numbers_of, read_line, meaning, line_meaning}
use Rattle.machine.proofs.TextLine.{line_read, read_six}

meant : (bs : List ℕ) → meaning (read_line bs) ≡ line_meaning bs
unfolding read_line line_meaning
meant bs = go (read_numbers field_count bs) refl
  where
    go : (r : Option (List ℤ)) → read_numbers field_count bs ≡ r → meaning (read_line bs) ≡ line_meaning bs
    go None e = rw e
    go (Some zs) e =
        let t = read_six bs (numbers_of zs) (rw e) in
        let again : read_numbers field_count bs ≡ Some (number_list (numbers_of zs)) = rw t.0 (line_read (number_list (numbers_of zs)) t.1) in
        let same : Some zs ≡ Some (number_list (numbers_of zs)) = sym e ∙ again in
        let own : zs ≡ number_list (numbers_of zs) = cc in
        rw (e, ← own)

-- no two lines have one meaning
same_meaning : (a b : Line) → meaning a ≡ meaning b → a ≡ b
same_meaning (Six m) (Six n) e = ap (λ (x : ℕ × List ℤ). Six (numbers_of x.1)) e
same_meaning (Six m) Bad e = absurd (let q = ap (λ (x : ℕ × List ℤ). x.0) e in omega arith)
same_meaning Bad (Six n) e = absurd (let q = ap (λ (x : ℕ × List ℤ). x.0) e in omega arith)
same_meaning Bad Bad e = refl

pub means : (l : Line) (bs : List ℕ) → l ≡ read_line bs → meaning l ≡ line_meaning bs
means l bs e = ap meaning e ∙ meant bs

pub reads : (l : Line) (bs : List ℕ) → meaning l ≡ line_meaning bs → l ≡ read_line bs
reads l bs e = same_meaning l (read_line bs) (e ∙ sym (meant bs))
