-- What the loop over a lent list keeps: the records before i have their answers, and the rest is as it was. Assumes nothing.
use Prim.Native.Nat.{ℕ, suc, ◌+◌, ◌≤◌, ◌<◌}
use mathlib.Core.Path.{◌≡◌, refl, sym, ◌∙◌, ap}
use mathlib.Core.List.{List, [], ◌∷◌, ◌++◌, append-nil}
use native.Mathlib.Omega.{arith}
use native.Mathlib.Numerals.{add-one}
use lib.ListN.{length, get_or, take, drop, set, length-set, drop_of_length-le}
use lib.Seq.{drop-cons, drop-set-lt, take-suc-set, append_snoc, take_all}
use Rattle.machine.specs.declared.EventRecord.{EventRecord}
use Rattle.executive.specs.declared.Executive.{Executive}
use Rattle.batch.specs.Batch.{Answered, answered, after_list, answered_list}

pub record Kept (m : Executive) (ys : List EventRecord) (i : ℕ) (s : Executive) (l : List EventRecord) : Type 0 where
  pub le : i ≤ length ys
  pub len : length l ≡ length ys
  pub executive : after_list s (drop i l) ≡ after_list m ys
  pub list : take i l ++ answered_list s (drop i l) ≡ answered_list m ys

pub begins : (m : Executive) (ys : List EventRecord) → Kept m ys 0 m ys
begins m ys = record { le = omega arith; len = refl; executive = refl; list = refl }

pub goes_on : (m : Executive) (ys : List EventRecord) (i : ℕ) (s : Executive) (l : List EventRecord) (d : EventRecord) (r : Answered)
    → Kept m ys i s l → i < length ys → r ≡ answered s (get_or l i d) → Kept m ys (i + 1) r.executive (set l i r.event)
goes_on m ys i s l d r k h e =
    let il : i < length l = omega (arith, k.len) in
    let rest : drop (suc i) (set l i r.event) ≡ drop (suc i) l = drop-set-lt (suc i) l i r.event (omega arith) in
    let front : take (suc i) (set l i r.event) ≡ take i l ++ (r.event ∷ []) = take-suc-set l i r.event il in
    let now : drop i l ≡ get_or l i d ∷ drop (suc i) l = drop-cons l i d il in
    record {
      le = omega arith;
      len = length-set l i r.event ∙ k.len;
      executive = rw (add-one, rest, e) (ap (after_list s) (sym now) ∙ k.executive);
      list =
          rw (add-one, rest, front)
          (append_snoc (take i l) r.event (answered_list r.executive (drop (suc i) l))
          ∙ rw e (ap (λ (x : List EventRecord). take i l ++ answered_list s x) (sym now) ∙ k.list));
    }

pub done_executive : (m : Executive) (ys : List EventRecord) (i : ℕ) (s : Executive) (l : List EventRecord) → Kept m ys i s l → length ys ≤ i → s ≡ after_list m ys
done_executive m ys i s l k h = rw (drop_of_length-le l {i = i} (omega (arith, k.len))) at k.executive

pub done_list : (m : Executive) (ys : List EventRecord) (i : ℕ) (s : Executive) (l : List EventRecord) → Kept m ys i s l → length ys ≤ i → l ≡ answered_list m ys
done_list m ys i s l k h =
    sym (append-nil l) ∙ rw (drop_of_length-le l {i = i} (omega (arith, k.len)), take_all i l (omega (arith, k.len))) at k.list
