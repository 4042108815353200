-- What the events of a list leave, one after the other; and of that the message of a sampling channel. Assumes nothing.
use Rattle.std.specs.Prelude.{Option, None}
use Prim.Native.Nat.{ℕ, ◌+◌, ◌-◌, ◌<◌}
use mathlib.Core.Path.{◌≡◌, refl, ap, sym, ◌∙◌}
use mathlib.Core.Bool.{true, false, cond, not, and-false}
use mathlib.Core.List.{List, [], ◌∷◌}
use mathlib.Core.Logic.{inl, inr}
use native.Mathlib.Omega.{arith}
use lib.ListN.{get_or, set}
use lib.Dec.{eqb, leb}
use lib.IntN.{ℤ, pos}
use lib.Seq.{get_or-set_same, get_or-set_other}
use borrow.Author.Tests.{eq-eqb, eqb-true, eqb-false, le-leb}
use Rattle.machine.specs.declared.Event.{Event as EventT}
use Rattle.machine.specs.declared.EventRecord.{EventRecord}
use Rattle.machine.specs.declared.Channel.{Channel}
use Rattle.machine.specs.declared.Message.{Message}
use Rattle.machine.specs.declared.Module.{Module}
use Rattle.machine.specs.declared.Table.{Table}
use Rattle.std.specs.Prelude.{Some}
use Rattle.machine.specs.declared.Request.{Request}
use Rattle.machine.specs.declared.Decision.{Decision}
use Rattle.machine.specs.declared.Decision.TheVariants.{Refused, Unchanged, Ticked, Blocked, Changed, Restarted, Written, Passed as PassedOn}
use Rattle.machine.specs.Limits.{channel_limit}
use Rattle.machine.specs.Fields.{request_of, number_of}
use Rattle.machine.specs.Messages.{ends_wait}
use Rattle.machine.specs.Decisions.{no_message, reply_of}
use Rattle.machine.specs.Module.{channel, part, message, with_time, empty_table, empty_module, fresh_module}
use Rattle.machine.specs.Table.{read_table}
use Rattle.machine.specs.Ticks.{partition_count}
use Rattle.machine.specs.Channels.{port_of}
use Rattle.machine.specs.Step.{module_after, step}
use Rattle.machine.specs.Runs.{next, answered_event, after, answers}
use Rattle.machine.specs.Theorems.Plain.{plain_number}
use Rattle.machine.specs.Theorems.Valid.{SoundModule, ValidModule, Reached}
use Rattle.machine.specs.Theorems.Events.{call_by, Gives, Refuses, Calling}
use Rattle.machine.specs.Theorems.Account.{is_call, code_at, restarts_by, message_in}
use Rattle.machine.specs.Theorems.EachCall.{id_of, Checks}
use Rattle.machine.specs.Theorems.Latest.{along, done, written, last_written}
use Rattle.machine.proofs.Tests.{by_test, not_both, and_left, and_right}
use Rattle.machine.proofs.Bounds.{not_so, get_d_replicate_any}
use Rattle.machine.proofs.Tables.{table_read}
use Rattle.machine.proofs.Either.{either}
use Rattle.machine.proofs.Fields.{in_limits}
use Rattle.machine.proofs.Dispatch.{Calls, by_event}
use Rattle.machine.proofs.Bodies.{Bodily}
use Rattle.machine.proofs.Calling.{number_of_holds, calling_sound}
use Rattle.machine.proofs.Reached.{made, made_body, reached_valid}
use Rattle.machine.proofs.Restarts.{refilled_messages}
use Rattle.machine.proofs.Starred.{erased_other, erased_own, tick_messages, restart_gives}
use Rattle.machine.proofs.Answers.{step_table}
use Rattle.machine.proofs.Account.{plain_is}
use Rattle.machine.proofs.EachCall.{each_event, each_call}
use Rattle.machine.proofs.Stores.{Marks}
use Rattle.machine.proofs.PerPartition.{is_call_holds, restart_told, made_stores}
use Rattle.machine.proofs.Accepted.{checks_passed, accepted, restarting}

-- ---------------------------------------------------------------- lists
-- what holds of each event, from a record on that is good for the list, holds of the list, and the record at its end is good
pub along_list : {A : Type 0} (f : EventRecord → A → A) (view : Module → A) (Good : List EventT → Module → Type 0)
    → ((e : EventT) (es : List EventT) (m : Module) → Good (e ∷ es) m → (view (next m e) ≡ f (answered_event m e) (view m)) × Good es (next m e))
    → (es : List EventT) (m : Module) → Good es m → (view (after m es) ≡ along f (view m) (answers m es)) × Good [] (after m es)
unfolding along
along_list f view Good one [] m h = (refl, h)
along_list f view Good one (e ∷ es) m h =
    let r = one e es m h in
    let rest = along_list f view Good one es (next m e) r.1 in
    (rest.0 ∙ ap (λ x. along f x (answers (next m e) es)) r.0, rest.1)

-- ---------------------------------------------------------------- the numbers of an event
pub done_so : (m : Module) (e : EventT) (k n j : ℕ) → is_call k n e ≡ true → plain_number j e.a ≡ true → code_at m e ≡ 0 → done k n j (answered_event m e) ≡ true
done_so m e k n j by at zero = rw (by, at, zero)

-- what such a call tells
module _ (m : Module) (e : EventT) (k n j : ℕ) (t : done k n j (answered_event m e) ≡ true) where
  pub done_by : is_call k n e ≡ true
  done_by = and_left (is_call k n e) _ t

  pub done_at : e.a ≡ pos j
  done_at = plain_is e.a j (and_left (plain_number j e.a) _ (and_right (is_call k n e) _ t))

  pub done_zero : code_at m e ≡ 0
  done_zero = eqb-true _ 0 (and_right (plain_number j e.a) _ (and_right (is_call k n e) _ t))

-- ---------------------------------------------------------------- the message of a channel, over one event
module _ (m : Module) (s : SoundModule m) (e : EventT) (i : ℕ) (inside : i < m.table.channel_count) where
  abbrev c : Channel
  c = channel m.table i

  abbrev r : Request
  r = request_of e

  abbrev k : ℕ
  k = number_of r.partition

  abbrev here : EventRecord
  here = answered_event m e

  -- no WRITE of its source to it, and no restart of its destination
  module _ (unwritten : done c.source 21 (i + 1) here ≡ false) (lasts : restarts_by c.destination e (code_at m e) ≡ false) where
    module _ (q : Calls m r) where
      writes : (channel m.table (number_of r.a - 1)).source ≡ k → number_of r.call ≡ 21 → number_of r.a ≡ i + 1 → code_at m e ≡ 0 → done c.source 21 (i + 1) here ≡ true
      writes from one at zero =
          let place : number_of r.a - 1 ≡ i = omega arith in
          done_so m e c.source 21 (i + 1) (rw (rw place at from) (is_call_holds m e q 21 ∙ eq-eqb _ 21 one)) (rw (number_of_holds e.a (λ y. omega arith) ∙ ap pos at) (eq-eqb (i + 1) (i + 1) refl)) zero

      left : (d : Decision) → Bodily (port_of m k r) (number_of r.call) d → Marks (number_of r.call) r (part m (k - 1)) d → code_at m e ≡ (reply_of d).code → message (module_after m k d) i ≡ message m i
      left (Refused n) b g is = refl
      left (Unchanged v x) b g is = refl
      left Ticked b g is = absurd b
      left (Blocked id x) b g is = refl
      left (Changed x y v) b g is = refl
      left (Restarted mode) b g is =
          ap (λ (l : List (Option Message)). get_or l i no_message) (refilled_messages k channel_limit _)
          ∙ erased_other k channel_limit m i (not_so (eqb c.destination k) (λ t. not_both _ (rw (eqb-true _ k t) (restart_told m e q g.0 g.1 is)) lasts))
      left (Written j x) b g is = get_or-set_other m.messages j i (Some x) no_message (λ z. not_both _ (writes b.source b.call (let l = in_limits 1 m.table.channel_count r.a b.there in omega (arith, l.0, b.place)) is) unwritten)
      left (PassedOn j a v) b g is = by_test (λ (x : Module). message x i ≡ message m i) (ends_wait a) (λ _. refl) (λ _. refl)

    message_left : message (step m e).state i ≡ message m i
    unfolding step
    message_left = by_event m r (λ (d : Decision). code_at m e ≡ (reply_of d).code → message (module_after m k d) i ≡ message m i)
        (λ _ _ _. refl)
        (λ _ _ _ _. ap (λ (l : List (Option Message)). get_or l i no_message) (tick_messages (partition_count m.table) (with_time (m.t + 1) m)))
        (λ q is. left q (made m s r q) (made_body m s r q) (made_stores m s e q) is)
        refl

  -- a WRITE of its source
  message_written : Reached m → done c.source 21 (i + 1) here ≡ true → message (step m e).state i ≡ Some (record { value = message_in e.b; written = (step m e).answer.t })
  message_written h t =
      let is-i = done_at m e c.source 21 (i + 1) t in
      let z = done_zero m e c.source 21 (i + 1) t in
      let u = accepted m h e c.source 21 (s.table.each_channel i inside).source.0 (done_by m e c.source 21 (i + 1) t) z in
      let g = (checks_passed m e _ refl (rw (← u.is) at ((each_call m c.source u.calling).write e.a e.b)) z).1 in
      let place : id_of e.a - 1 ≡ i = ap (λ (y : ℤ). id_of y - 1) is-i ∙ one_less in
      let time : m.t ≡ (step m e).answer.t = sym ((each_event m h e).shown.0 ∙ ap (λ (x : Module). x.t) g.state) in
      ap (λ (x : Module). message x i) g.state
      ∙ ap (λ j. get_or (set m.messages j (Some (record { value = id_of e.b; written = m.t }))) i no_message) place
      ∙ get_or-set_same m.messages i _ no_message (omega (arith, inside, s.table.channel_count, s.messages_size))
      ∙ ap (λ t. Some (record { value = id_of e.b; written = t })) time
    where
      one_less : i + 1 - 1 ≡ i
      one_less = omega arith

  -- a restart of its destination
  message_erased : Reached m → restarts_by c.destination e (code_at m e) ≡ true → message (step m e).state i ≡ no_message
  message_erased h t =
      let u = restarting m h e c.destination (s.table.each_channel i inside).destination.0 t in
      let g = restart_gives m c.destination (calling_sound m c.destination u.calling) u.calling (id_of e.a) u.few u.warm in
      ap (λ (x : EventT). message (step m x).state i) u.is
      ∙ ap (λ (x : Module). message x i) g.state
      ∙ ap (λ (l : List (Option Message)). get_or l i no_message) (refilled_messages c.destination channel_limit _)
      ∙ erased_own c.destination channel_limit m i (omega (arith, inside, s.table.channel_count)) refl

  message_step : Reached m → message (next m e) i ≡ written c i here (message m i)
  message_step h = either (done c.source 21 (i + 1) here)
      (λ t. message_written h t ∙ rw t)
      (λ t. either (restarts_by c.destination e (code_at m e))
      (λ u. message_erased h u ∙ rw (t, u))
      (λ u. message_left t u ∙ rw (t, u)))

-- ---------------------------------------------------------------- and over a list, from the fresh module on
-- a record with a channel has a sound table
pub channel_sound : (m : Module) → ValidModule m → (i : ℕ) → i < m.table.channel_count → SoundModule m
unfolding empty_module empty_table
channel_sound m (inl h) i l = absurd (omega (arith, ap (λ (q : Module). q.table.channel_count) h))
channel_sound m (inr s) i l = s

fresh_message : (input : List ℕ) (i : ℕ) → i < (read_table input).state.table.channel_count → message (read_table input).state i ≡ no_message
unfolding empty_module empty_table fresh_module
fresh_message input i l = either (eqb (read_table input).code 0)
    (λ e. rw ((table_read input).accepted (eqb-true _ 0 e)).1 (get_d_replicate_any channel_limit i no_message))
    (λ e. absurd (omega (arith, ap (λ (q : Module). q.table.channel_count) ((table_read input).refused (eqb-false _ 0 e)))))

pub sampling : (input : List ℕ) (i : ℕ) (es : List EventT) → let m = (read_table input).state in i < m.table.channel_count → message (after m es) i ≡ last_written m i es
sampling input i es l =
    let m = (read_table input).state in
    (along_list (written (channel m.table i) i) (λ q. message q i) (λ _ q. Reached q × (q.table ≡ m.table))
    (λ e es q h.
    let s = channel_sound q (reached_valid q h.0) i (rw h.1 l) in
    (message_step q s e i (rw h.1 l) h.0 ∙ ap (λ (T : Table). written (channel T i) i (answered_event q e) (message q i)) h.1, (Reached.stepped q e h.0, step_table q e ∙ h.1)))
    es m (Reached.read input, refl)).0
    ∙ ap (λ x. along (written (channel m.table i) i) x (answers m es)) (fresh_message input i l)

-- READ of a message that is known
pub read_message : (q : Module) (k i : ℕ) (x : Option Message) → let c = channel q.table i in
    let e = call_by k 22 (pos (i + 1)) (pos 0) (pos 0) (pos 0) in
    i < q.table.channel_count → c.size ≡ 0 → c.destination ≡ k → Calling q k → message q i ≡ x
    → (x ≡ None → Refuses q e 1)
    × ((y : Message) → x ≡ Some y → Gives q e 0 y.value (Some (cond (leb (q.t - y.written) c.refresh) 1 0)) q)
unfolding Checks
read_message q k i x l size to h is =
    let c = channel q.table i in
    let place : i + 1 - 1 ≡ i = omega arith in
    let here = eq-eqb c.destination k to in
    let g = (((((each_call q k h).read (pos (i + 1))
    ).1 (rw (le-leb 1 (i + 1) (omega arith), le-leb (i + 1) q.table.channel_count (omega arith)))
    ).1 (rw (place, size))
    ).1 (rw (place, here) (and-false (not (eqb c.source k))))
    ).1 (rw (place, here)) in
    let f = rw (place, is) at g in
    (λ z. f.0 (rw z), λ y z. rw z at (f.1 (rw z)))
