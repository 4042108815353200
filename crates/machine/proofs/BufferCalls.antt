-- Calls 23 to 25, of buffers: what is shown of each. Assumes nothing.
use Prim.Native.Nat.{◌+◌, ◌≤◌}
use mathlib.Core.Path.{◌≡◌, refl, ◌∙◌}
use mathlib.Core.Bool.{true}
use mathlib.Core.List.{[]}
use native.Mathlib.Omega.{arith}
use borrow.Author.Tests.{ltb-true, leb-false, not-false}
use Rattle.machine.specs.declared.Wait.TheVariants.{Sending, Receiving}
use Rattle.machine.specs.Limits.{buffer_limit, message_limit, name_limit, duration_limit}
use Rattle.machine.specs.Fields.{is_name, is_message, number_of}
use Rattle.machine.specs.Process.{object}
use Rattle.machine.specs.Partition.{buffer, no_buffer}
use Rattle.machine.specs.Buffers.{create_buffer, send_buffer, receive_buffer}
use Rattle.machine.specs.Theorems.Valid.{AllMessages}
use mathlib.Core.Logic.{inl, inr, ⊎_elim}
use Rattle.machine.specs.Services.{services}
use Rattle.machine.specs.Theorems.Queues.{queue_number}
use Rattle.machine.proofs.Tests.{not_both, Passed, and_left}
use Rattle.machine.proofs.Bounds.{and_true_parts, known_id}
use Rattle.machine.proofs.Messages.{queue_sound, first_sound}
use Rattle.machine.proofs.Fields.{in_limits}
use Rattle.machine.proofs.Kept.{sent_sound, received_sound}
use Rattle.machine.proofs.Orders.{buffer_queue}
use Rattle.machine.proofs.Fairness.{buffer_available, on_object_holds, created_free, sent_fair, received_fair}
use Rattle.machine.proofs.Calmness.{sent_calm, received_calm}
use Rattle.machine.proofs.CallLaws.{laws, Laws, waits_unseen, checks, waits}
use Rattle.machine.specs.declared.Buffer.{Buffer}
use Rattle.machine.proofs.Acts.{TransferBy}
use Rattle.machine.proofs.Stores.{free_name}

pub create_buffer_holds : Laws 23
unfolding services create_buffer Passed AllMessages
create_buffer_holds = laws (λ _ _ _ _ _ _. refl) λ c x r p. checks _ _ refl (λ h.
    let room = leb-false buffer_limit p.buffer_count h.0 in
    record {
      codes = (refl, refl);
      sound = λ _ _ _.
          let f = and_true_parts (is_name r.a) _ (not-false _ h.1.1.0) in (
            (((omega arith, omega arith), omega arith), record { name = in_limits 1 name_limit r.a f.0; limit = in_limits 1 message_limit r.b f.1; queue = queue_sound (number_of r.b) [] (omega arith) tt }),
            tt,
            omega arith,
          );
      order = (tt, tt);
      fair = λ v k kind i t. ⊎_elim inl
          (⊎_elim
          (λ y. inr (rw (y.0, y.1) (buffer_queue p v.lists (queue_number 3 (p.buffer_count + 1)) (λ z. omega arith) (p.buffer_count + 1) _ ∙ created_free c p v k x 23 3 p.buffer_count _ (omega arith) (omega arith) refl refl)))
          (λ y. not_both _ y.2 refl))
          (buffer_available c.frame c.time p v kind i _ _ t);
      calm = λ _ _ _ _ a. (λ e z. a.there e (omega arith), tt);
      stores = λ v. ((refl, free_name (λ (x : Buffer). x.name) no_buffer buffer_limit p.buffer_count p.buffers v.objects.buffers.numbered r.a h.1.0 (and_left (is_name r.a) _ (not-false _ h.1.1.0))), tt);
      acts = λ _. (tt, tt, refl, refl, (refl, refl));
    })

pub send_buffer_holds : Laws 24
unfolding services send_buffer Passed
send_buffer_holds = laws (λ _ c u x r p. waits_unseen c u _ _ _ _ _ _ _ p) λ c x r p.
    let i = number_of r.a in
    let m = number_of r.b in
    let few : is_message r.b ≡ true → m ≤ duration_limit = λ g. (in_limits 0 duration_limit r.b g).1 in
    waits _ _ _ _ _ _ (Sending i m) 3 i m refl
    (λ h g e.
    let b = known_id i p.buffer_count h.0 in
    record {
      codes = (refl, refl);
      sound = λ v k _.
          let t = sent_sound p v.lists (object (Receiving i)) (buffer i p).limit (buffer i p).queue m (ltb-true _ _ e) (few g) in
          ((b, t.0, t.1), tt, omega arith);
      order = (tt, tt);
      fair = λ v k. sent_fair c p v k x 24 i b m (few g) e;
      calm = λ kind j of low a.
          let some = a.valid.objects.buffers.numbered.few in
          ((λ is. a.no_send is refl, sent_calm kind j of low 24 (queue_number 4 i) p (λ o. of.receivers (omega (arith, b.1, some))) m), tt);
      stores = λ _. (b, tt);
      acts = λ _. (TransferBy.sends refl refl b _ refl, tt, refl, refl, (refl, refl));
    })
    (λ h g e.
    let b = known_id i p.buffer_count h.0 in
    record {
      class = refl;
      known = (b, few g);
      fair = λ v k. on_object_holds c p v k x 24 _ 3 i refl (omega (arith, b.1, v.objects.buffers.numbered.few)) (omega arith) e;
      calm = λ kind j of low a o. let some = a.valid.objects.buffers.numbered.few in a.no_send (omega (arith, b.1, some)) refl (omega (arith, b.1, some));
      listed = (refl, refl);
      named = λ _. (refl, λ z. omega (arith, b.0));
    })

pub receive_buffer_holds : Laws 25
unfolding services receive_buffer Passed
receive_buffer_holds = laws (λ _ c u x r p. waits_unseen c u _ _ _ _ _ _ _ p) λ c x r p.
    let i = number_of r.a in
    waits _ _ _ _ _ _ (Receiving i) 4 i 0 refl
    (λ h _ e.
    let b = known_id i p.buffer_count h.0 in
    record {
      codes = (refl, refl);
      sound = λ v k _.
          let y = buffer i p in
          let t = received_sound c.frame c.time p v (object (Sending i 0)) y.limit y.queue (ltb-true 0 _ e) in
          ((b, t.0, t.1), tt, omega (arith, first_sound y.limit y.queue (v.objects.buffers.each i b).queue));
      order = (tt, tt);
      fair = λ v k. received_fair c p v k x 25 i b e;
      calm = λ kind j of low a.
          let some = a.valid.objects.buffers.numbered.few in
          ((λ is. a.no_receive is refl, received_calm kind j of low 25 (queue_number 3 i) p (λ o. a.no_receive (omega (arith, b.1, some)) refl (omega (arith, b.1, some))) _), tt);
      stores = λ _. (b, tt);
      acts = λ _. (TransferBy.receives refl refl b _ refl, tt, refl, refl, (refl, refl));
    })
    (λ h _ e.
    let b = known_id i p.buffer_count h.0 in
    record {
      class = refl;
      known = (b, omega arith);
      fair = λ v k. on_object_holds c p v k x 25 _ 4 i refl (omega (arith, b.1, v.objects.buffers.numbered.few)) (omega arith) e;
      calm = λ kind j of low a o. of.receivers (omega (arith, b.1, a.valid.objects.buffers.numbered.few));
      listed = (refl, refl);
      named = λ _. (refl, λ z. omega (arith, b.0));
    })
