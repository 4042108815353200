-- Calls 21, 22, 30 and 31, of channels: what is shown of each. Assumes nothing.
use Rattle.machine.specs.Decisions.{blank_message}
use Rattle.std.specs.Prelude.{unwrap_or}
use Prim.Native.Nat.{ℕ, ◌+◌, ◌-◌, ◌≤◌, ◌<◌}
use mathlib.Core.Path.{◌≡◌, refl, ap}
use mathlib.Core.Bool.{true, not}
use native.Mathlib.Omega.{arith}
use lib.Dec.{leb}
use borrow.Author.Tests.{eqb-true, ltb-true, ltb-false, not-false}
use Rattle.machine.specs.declared.Port.{Port}
use Rattle.machine.specs.declared.Transfer.{Transfer}
use Rattle.machine.specs.declared.Wait.TheVariants.{Source, Destination}
use Rattle.machine.specs.Limits.{duration_limit, channel_limit, number_limit}
use Rattle.machine.specs.Fields.{is_message, number_of}
use Rattle.machine.specs.Channels.{queuing, queuing_port, channel_checks, write, read, send, receive}
use Rattle.machine.specs.Theorems.Valid.{Between}
use mathlib.Core.Logic.{◌⊎◌, inl, inr}
use Rattle.machine.specs.Services.{services}
use Rattle.machine.proofs.Tests.{by_test, and_left, and_right, Passed}
use Rattle.machine.proofs.Fields.{in_limits}
use Rattle.machine.proofs.Bodies.{Sends, Receives, OnQueue}
use Rattle.machine.proofs.Fairness.{at_end_holds}
use Rattle.machine.proofs.CallLaws.{laws, Laws, waits_unseen, checks, answers, waits}

pub write_call : Laws 21
unfolding services write channel_checks Passed
write_call = laws (λ _ _ _ _ _ _. refl) λ c x r p. checks _ _ refl (λ h. checks _ _ refl (λ g. record {
  codes = record { call = refl; place = refl; there = not-false _ h.0; source = eqb-true _ _ (not-false _ h.1.1.1.0) };
  sound = λ _ _ _. record { value = (in_limits 0 duration_limit r.b (not-false _ g.0)).1; written = omega arith };
  order = tt;
  fair = λ _ _. tt;
  calm = λ _ _ _ _ _. tt;
  stores = λ _. tt;
  acts = λ _. refl;
}))

pub read_call : Laws 22
unfolding services read channel_checks
read_call = laws (λ _ _ _ _ _ _. refl) λ c x r p. checks _ _ refl (λ _. checks _ _ refl (λ _. answers refl (λ _ _ s.
    (omega (arith, s.message.value), by_test (λ (n : ℕ). n ≤ number_limit) (leb (c.time - (unwrap_or x.message blank_message).written) x.channel.refresh) (λ _. omega arith) (λ _. omega arith)))))

-- at the wanted end of a queuing channel, by the checks
module _ (x : Port) (wanted : ℕ) (h : Passed (channel_checks x (not (queuing_port x)) wanted)) where
  is_there : x.exists ≡ true
  unfolding channel_checks Passed
  is_there = not-false _ h.0

  is_queuing : queuing x.channel ≡ true
  unfolding channel_checks Passed
  is_queuing = and_left (queuing x.channel) _ (not-false _ h.1.0)

  is_placed : x.place < channel_limit
  unfolding channel_checks Passed
  is_placed = ltb-true _ _ (and_right (queuing x.channel) _ (not-false _ h.1.0))

  is_end : wanted ≡ x.own
  unfolding channel_checks Passed
  is_end = eqb-true _ _ (not-false _ h.1.1.1.0)

  place_known : Between 1 channel_limit (x.place + 1)
  place_known = let l = is_placed in (omega arith, omega arith)

  on_queue_holds : {n : ℕ} {a : Transfer} {value : ℕ} → Sends x n a value ⊎ Receives x n a value → OnQueue x n x.place a value
  on_queue_holds end = record { place = refl; there = is_there; kind = is_queuing; placed = is_placed; end = end }

pub send_channel : Laws 30
unfolding services channel_checks send
send_channel = laws (λ _ c u x r p. waits_unseen c u _ _ _ _ _ _ _ p) λ c x r p.
    let m = number_of r.b in
    let few : is_message r.b ≡ true → m ≤ duration_limit = λ g. (in_limits 0 duration_limit r.b g).1 in
    waits _ _ _ _ _ _ (Source (x.place + 1) m) 6 (x.place + 1) m refl
    (λ h g e. record {
      codes = on_queue_holds x _ h (inl (record { call = refl; source = is_end x _ h; room = ltb-true _ _ e; message = m; few = few g; transfer = refl; none = refl }));
      sound = λ _ _ _. omega arith;
      order = tt;
      fair = λ _ _. tt;
      calm = λ _ _ _ _ _. tt;
      stores = λ _. tt;
      acts = λ _. inl refl;
    })
    (λ h g e.
    let l = is_placed x _ h in
    record {
      class = refl;
      known = (place_known x _ h, few g);
      fair = λ v k. (
        at_end_holds c p v k x 30 (Source (x.place + 1) m) 6 (x.place + 1) refl (omega arith),
        (λ j few o. record { call = refl; place = omega arith; there = is_there x _ h; kind = is_queuing x _ h; source = is_end x _ h; full = ltb-false _ _ e }, λ j few o. absurd (omega arith)),
      );
      calm = λ kind j of low a o. a.no_send_channel (omega arith) refl (is_there x _ h) (omega arith);
      listed = (refl, refl);
      named = λ at. let is = at (is_there x _ h) in (ap (λ k. Source k m) is, λ z. omega arith);
    })

pub receive_channel : Laws 31
unfolding services channel_checks receive
receive_channel = laws (λ _ c u x r p. waits_unseen c u _ _ _ _ _ _ _ p) λ c x r p.
    waits _ _ _ _ _ _ (Destination (x.place + 1)) 7 (x.place + 1) 0 refl
    (λ h _ e. record {
      codes = on_queue_holds x _ h (inr (record { call = refl; destination = is_end x _ h; some = ltb-true _ _ e; transfer = refl; first = refl }));
      sound = λ _ _ s. omega (arith, s.first);
      order = tt;
      fair = λ _ _. tt;
      calm = λ _ _ _ _ _. tt;
      stores = λ _. tt;
      acts = λ _. inr refl;
    })
    (λ h _ e.
    let l = is_placed x _ h in
    record {
      class = refl;
      known = (place_known x _ h, omega arith);
      fair = λ v k. (
        at_end_holds c p v k x 31 (Destination (x.place + 1)) 7 (x.place + 1) refl (omega arith),
        (λ j few o. absurd (omega arith), λ j few o. record { call = refl; place = omega arith; there = is_there x _ h; kind = is_queuing x _ h; destination = is_end x _ h; empty = let z : x.traffic.len ≤ 0 = ltb-false 0 _ e in omega arith }),
      );
      calm = λ kind j of low a o. of.ends (omega arith);
      listed = (refl, refl);
      named = λ at. let is = at (is_there x _ h) in (ap Destination is, λ z. omega arith);
    })
