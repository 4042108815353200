-- `put_next` meets its contract.
use Prim.Native.Nat.{ℕ, ◌*◌}
use mathlib.Core.Path.{refl, ap, ◌∙◌}
use mathlib.Core.List.{List}
use native.Mathlib.Omega.{arith}
use borrow.Author.Rules.{rules}
use lib.IntN.{ℤ}
use lib.ListN.{get_or}
use lib.Seq.{sets}
use mir.Syntax.{w64}
use mir.ValLaws.{to_z-of_z}
use Rattle.machine.specs.Line.{field_width, in_range, number_list, field_text}
use Rattle.machine.proofs.TextField.{field_length}
use Rattle.line.proofs.Writing.{range_both, field_stored, past_stores}
use Rattle.line.proofs.put_next.Goals as goal

pub put_field-requires : goal.put_field-requires
put_field-requires c = let s = c in (omega (arith, s.requires), (λ k lo hi. s.requires.3 k lo (omega arith)), ap in_range (to_z-of_z w64 c.number.result (omega (arith, c.number.type_inv))) ∙ (range_both (number_list s.args.n) s.args.i (omega arith) _ c.number.ensures s.requires.2).0)

pub returns : goal.returns
returns c =
    let s = c in
    let number = c.number in
    let old = s.args.out.now in
    let ns = number_list s.args.n in
    let put = c.put_field.ensures ∙ ap (λ (z : ℤ). sets old (s.args.i * field_width) (field_text z)) (to_z-of_z w64 number.result (omega (arith, number.type_inv))) in (
      search rules,
      (range_both ns s.args.i (omega arith) _ number.ensures s.requires.2).1,
      (λ k lo hi. ap (λ (l : List ℕ). get_or l k 0) put ∙ past_stores old (s.args.i * field_width) (field_text number.result) k (omega (arith, field_length number.result)) ∙ s.requires.3 k (omega arith) hi),
      field_stored ns s.args.i (omega arith) _ number.ensures old _ _ put refl,
    )
