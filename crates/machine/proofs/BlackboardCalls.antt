-- Calls 26 to 29, of blackboards: what is shown of each. Assumes nothing.
use Rattle.std.specs.Prelude.{Some, None}
use mathlib.Core.Path.{refl}
use native.Mathlib.Omega.{arith}
use borrow.Author.Tests.{leb-false, not-false}
use Rattle.machine.specs.declared.Wait.TheVariants.{Blackboard}
use Rattle.machine.specs.Limits.{blackboard_limit, name_limit, duration_limit}
use Rattle.machine.specs.Fields.{number_of}
use Rattle.machine.specs.Process.{handed}
use Rattle.machine.specs.Partition.{blackboard, applied, no_blackboard}
use Rattle.machine.specs.Blackboards.{create_blackboard, show, read_blackboard, clear, showing}
use Rattle.machine.specs.Theorems.Valid.{ListedIn}
use mathlib.Core.Logic.{inl, inr, ⊎_elim}
use Rattle.machine.specs.Services.{services}
use Rattle.machine.proofs.Tests.{not_both, Passed}
use Rattle.machine.proofs.Bounds.{known_id, within_in, blackboard_in}
use Rattle.machine.proofs.Fields.{in_limits}
use Rattle.machine.proofs.Kept.{blackboard_known}
use Rattle.machine.proofs.Fairness.{blackboard_available, on_object_holds, all_end}
use Rattle.machine.proofs.CallLaws.{laws, Laws, waits_unseen, checks, answers, waits}
use Rattle.machine.specs.declared.Blackboard.{Blackboard as BlackboardT}
use Rattle.machine.proofs.Stores.{free_name}

pub create_blackboard_holds : Laws 26
unfolding services create_blackboard Passed
create_blackboard_holds = laws (λ _ _ _ _ _ _. refl) λ c x r p. checks _ _ refl (λ h. record {
  codes = (refl, refl);
  sound = λ _ _ _.
      let room = leb-false blackboard_limit p.blackboard_count h.0 in
      ((((omega arith, omega arith), omega arith), record { name = in_limits 1 name_limit r.a (not-false _ h.1.1.0); message = omega arith }), tt, omega arith);
  order = (tt, tt);
  fair = λ v k kind i t. ⊎_elim inl (λ y. not_both _ y.2 refl) (blackboard_available c.frame c.time p v kind i _ _ t);
  calm = λ _ _ _ _ _. (tt, tt);
  stores = λ v. ((inr (refl, free_name (λ (x : BlackboardT). x.name) no_blackboard blackboard_limit p.blackboard_count p.blackboards v.objects.blackboards.numbered r.a h.1.0 (not-false _ h.1.1.0)), λ low. absurd (omega arith)), tt);
  acts = λ _. (tt, tt, refl, refl, (refl, refl));
})

pub show_call : Laws 27
unfolding services show Passed
show_call = laws (λ _ _ _ _ _ _. refl) λ c x r p. checks _ _ refl (λ h.
    let i = number_of r.a in
    let m = number_of r.b in
    let b = known_id i p.blackboard_count h.0 in
    record {
      codes = (refl, refl);
      sound = λ v k _.
          let few = (in_limits 0 duration_limit r.b (not-false _ h.1.0)).1 in
          (blackboard_known c p v k i b (Some m) few, few, omega arith);
      order = (tt, tt);
      fair = λ v k.
          let q = applied (showing i m p) p in
          let w : ListedIn q = rw (blackboard_in i (record { name = (blackboard i p).name; message = Some m }) p (within_in blackboard_limit i b.0 (omega (arith, b.1, v.objects.blackboards.numbered.few)))) v.lists in
          all_end c p v k x 27 q w (handed m) (λ _. refl) 5 i (omega arith) (λ kind j t. ⊎_elim inl (λ y. inr (y.0, y.1)) (blackboard_available c.frame c.time p v kind j i _ t));
      calm = λ kind j of low a. (tt, λ e. of.readers (omega (arith, b.1, a.valid.objects.blackboards.numbered.few)));
      stores = λ _. ((inl (b, refl), λ _. (inl refl, refl)), tt);
      acts = λ _. (tt, (refl, refl, b), refl, refl, (refl, refl));
    })

pub read_blackboard_holds : Laws 28
unfolding services read_blackboard Passed
read_blackboard_holds = laws (λ _ c u x r p. waits_unseen c u _ _ _ _ _ _ _ p) λ c x r p.
    let i = number_of r.a in
    waits _ _ _ _ _ _ (Blackboard i) 5 i 0 refl
    (λ h _ _. answers refl (λ v _ _. (omega (arith, (v.objects.blackboards.each i (known_id i p.blackboard_count h.0)).message), omega arith)))
    (λ h _ e.
    let b = known_id i p.blackboard_count h.0 in
    record {
      class = refl;
      known = (b, omega arith);
      fair = λ v k. on_object_holds c p v k x 28 _ 5 i refl (omega (arith, b.1, v.objects.blackboards.numbered.few)) (omega arith) e;
      calm = λ kind j of low a z. of.readers (omega (arith, b.1, a.valid.objects.blackboards.numbered.few));
      listed = (refl, refl);
      named = λ _. (refl, λ z. omega (arith, b.0));
    })

pub clear_call : Laws 29
unfolding services clear Passed
clear_call = laws (λ _ _ _ _ _ _. refl) λ c x r p. checks _ _ refl (λ h. let i = number_of r.a in record {
  codes = (refl, refl);
  sound = λ v k _. (blackboard_known c p v k i (known_id i p.blackboard_count h.0) None (omega arith), tt, omega arith);
  order = (tt, tt);
  fair = λ v k kind j t. ⊎_elim inl (λ y. not_both _ y.2 refl) (blackboard_available c.frame c.time p v kind j i _ t);
  calm = λ _ _ _ _ _. (tt, tt);
  stores = λ _. ((inl (known_id i p.blackboard_count h.0, refl), λ _. (inr refl, refl)), tt);
  acts = λ _. (tt, tt, refl, refl, (refl, refl));
})
