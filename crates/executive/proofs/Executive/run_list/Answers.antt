use Prim.Native.Nat.{◌+◌, ◌/◌, ◌<◌}
use mathlib.Core.Bool.{cond}
use mathlib.Core.Path.{◌≡◌, refl, sym, ap, ◌∙◌, subst}
use native.Mathlib.Nat.{div-mul-le_self}
use native.Mathlib.Omega.{arith}
use lib.ListN.{length, length-set}
use borrow.Author.Rules.{rules}
use Rattle.machine.specs.Windows.{lookup}
use Rattle.machine.specs.Limits.{partition_limit, channel_limit}
use Rattle.machine.specs.Module.{no_partition, part, message, running_in, with_time}
use Rattle.machine.specs.Partition.{running}
use Rattle.machine.specs.Questions.{changes, restarts, mode_of, message_at, message_of, transfer_at, transfer_of, first_change, second_change}
use Rattle.machine.specs.Step.{sees}
use Rattle.machine.specs.Ticks.{tick_to}
use Rattle.machine.specs.declared.Module.{Module}
use Rattle.machine.proofs.Folds.{tick_to_none}
use Rattle.machine.proofs.Taken.{length_mapped}
use Rattle.resident.specs.Mirrors.{Mirrors}
use Rattle.resident.specs.Settled.{settled}
use Rattle.resident.proofs.Settled.{settled_here, settled_past, settled_same}
use Rattle.executive.specs.Lists.{six, Early}
use Rattle.events.specs.declared.Plan.{Plan}
use Rattle.executive.proofs.Laws.{Planned, Decides, plan_made, place_named, few_ticks, slot_spot, Held, seen_traffic, made_is, shown_spot, runs_shown, none_shown, event_answered}
use Rattle.executive.proofs.Lists.{begins_early, early_same, Running, begins, fits, ends, goes_on}
use Rattle.machine.specs.Channels.{port_at}
use Rattle.machine.specs.declared.Table.{Table}
use Rattle.machine.specs.declared.Partition.{Partition}
use Rattle.executive.specs.declared.Resident.{Resident}
use Rattle.executive.proofs.Residents.{nothing_done, table_here, Beside, none_beside, ticks_here, ticks_there, ticks_none, Current, current_same, current_moved, not_stored, Ready, Done, done_as_holds, done_same, done_written, done_changed, done_restarted, done_moved, done_here, done_there, running_at}
use Rattle.executive.proofs.Executive.run_list.Goals as goal
use Rattle.executive.proofs.Executive.run_list.Goals.{After-reply_of-reply, Joined-d, in-Refused, in-Blocked, in-Changed, in-Restarted, in-Written+then-put-lt-CHANNELS, in-Written+else-put-lt-CHANNELS, in-Passed+then-pass-lt-CHANNELS+then-end-lt-PARTITIONS+then-end-spot, in-Passed+then-pass-lt-CHANNELS+then-end-lt-PARTITIONS+else-end-spot, in-Passed+then-pass-lt-CHANNELS+else-end-lt-PARTITIONS, in-Passed+else-pass-lt-CHANNELS, After-plan_of-x, Joined-changed, Joined-first-m, Joined-slot-lt-PARTITIONS, Joined-stale, Joined-x-lt-PARTITIONS, Joined-x-spot, Start, else-changed, else-first-m, else-slot-lt-PARTITIONS, else-soon-j, else-spot-lt-PARTITIONS, else-stale, else-stale-2, else-x-lt-PARTITIONS, else-x-spot, then-changed, then-first-m, then-slot-lt-PARTITIONS, then-soon-j+else-j-spot, then-soon-j+then-j-spot, then-spot-lt-PARTITIONS, then-stale, then-stale-2, then-x-lt-PARTITIONS, then-x-spot+else-spot-lt-PARTITIONS-2, then-x-spot+then-spot-lt-PARTITIONS-2}

-- the partition that lies in place
abbrev lies : Resident → Partition
lies r = r.partition

-- the window at the time after the event
window : (c : Joined-first-m) → c.if-first-m.window ≡ lookup c.args.self.inner.table c.place_event-first.result.time
window c =
    elim c.if-first-m.branch [ then-first-m w ↦ (w.window-is ∙ w.lookup_at-window-then-first-m.ensures) | else-first-m w ↦ (w.window-is ∙ c.loop-i.invariant.2 ∙ ap (lookup c.args.self.inner.table) (sym w.if-first-m.false)) ]

-- what is found of the event before its partition is looked at
planned : (c : After-plan_of-x) → Planned (settled c.loop-i.spot c.loop-i.here.partition c.loop-i.m) c.event_at.result c.args.self.inner.table c.plan_of-x.result
planned c = record { same = c.loop-i.invariant.0.table; long = c.loop-i.invariant.0.long; held = c.loop-i.invariant.0.held; plan = plan_made c.args.self.inner.table _ _ c.from-asked.ensures (c.place_event-first.ensures c.args.self.inner.table refl) (window c.before) (c.plan_of-x.ensures c.args.self.inner.table refl) }

pub loop-j-init : goal.loop-j-init
loop-j-init c = (omega arith, few_ticks (planned (goal.at.loop-j-init c).After-plan_of-x), record { state = sym (tick_to_none _); long = c.loop-i.invariant.5; held = c.loop-i.invariant.0.held; kept = λ _. c.loop-i.invariant.3; early = early_same c.loop-i.invariant.4 refl refl })

pub loop-j-smaller : goal.loop-j-smaller
loop-j-smaller c = omega arith

pub loop-j-preserved : goal.loop-j-preserved
loop-j-preserved c =
    let v = c.loop-j.invariant in
    let low : c.loop-j.j < partition_limit = omega (arith, c.loop-j-test.true, v.1) in (
      omega arith,
      v.1,
      elim c.if-soon-j.branch [ then-soon-j+then-j-spot w ↦ (rw (w.m-is, w.here-is, w.soon-is, w.stale-is) (ticks_here v.2 low w.if-j-spot.true w.ticked-here.result w.ticked-here.ensures w.soonest_of.result w.soonest_of.ensures)) | then-soon-j+else-j-spot w ↦ (rw (w.here-is, w.soon-is, w.stale-is) (ticks_there v.2 low w.if-j-spot.false w.ticked-q.result w.ticked-q.ensures w.soonest_of-else-j-spot.result w.soonest_of-else-j-spot.ensures _ w.m-is)) | else-soon-j w ↦ (rw (w.m-is, w.here-is, w.soon-is, w.stale-is) (ticks_none v.2 low w.if-soon-j.false)) ],
    )

-- another partition became current, or the same one is
arrived : (c : Joined-x-spot) → Current (settled c.loop-i.spot c.loop-j.here.partition c.loop-j.m) c.if-x-spot.spot c.if-x-spot.m c.if-x-spot.here.partition c.if-x-spot.here.currents c.if-x-spot.here.objects c.loop-i.run c.loop-j.soon c.if-x-spot.stale × (c.plan_of-x.result.spot ≡ c.if-x-spot.spot)
arrived c =
    let v = c.loop-j.invariant.2 in
    elim c.if-x-spot.branch [
      | then-x-spot+then-spot-lt-PARTITIONS-2 w ↦ (let back : w.if-spot-lt-PARTITIONS.m ≡ settled c.loop-i.spot c.loop-j.here.partition c.loop-j.m = elim w.if-spot-lt-PARTITIONS.branch [ then-spot-lt-PARTITIONS u ↦ (u.m-is) | else-spot-lt-PARTITIONS u ↦ (not_stored _ _ _ v.long u.if-spot-lt-PARTITIONS.false u.m-is) ] in
          (rw (w.m-is, w.spot-is, w.here-is, w.stale-is) (current_moved v w.if-spot-lt-PARTITIONS.m c.plan_of-x.result.spot _ back (settled_same _ _ no_partition refl)), sym w.spot-is))
      | then-x-spot+else-spot-lt-PARTITIONS-2 w ↦ (let back : w.if-spot-lt-PARTITIONS.m ≡ settled c.loop-i.spot c.loop-j.here.partition c.loop-j.m = elim w.if-spot-lt-PARTITIONS.branch [ then-spot-lt-PARTITIONS u ↦ (u.m-is) | else-spot-lt-PARTITIONS u ↦ (not_stored _ _ _ v.long u.if-spot-lt-PARTITIONS.false u.m-is) ] in
          let size : length w.if-spot-lt-PARTITIONS.m.partitions ≡ partition_limit = ap (λ (z : Module). length z.partitions) back ∙ length-set c.loop-j.m.partitions c.loop-i.spot c.loop-j.here.partition ∙ v.long in
          (rw (w.m-is, w.spot-is, w.here-is, w.stale-is) (current_moved v w.if-spot-lt-PARTITIONS.m c.plan_of-x.result.spot _ back (settled_past _ _ _ (omega (arith, w.if-spot-lt-PARTITIONS-2.false, size)))), sym w.spot-is))
      | else-x-spot w ↦ ((rw (w.m-is, w.spot-is, w.here-is, w.stale-is) (current_same v), w.if-x-spot.false ∙ sym w.spot-is))
    ]

-- the partitions are ticked
ticked : (c : Joined-x-spot) → settled c.if-x-spot.spot c.if-x-spot.here.partition c.if-x-spot.m ≡ tick_to c.plan_of-x.result.ticks (with_time c.plan_of-x.result.time (settled c.loop-i.spot c.loop-i.here.partition c.loop-i.m))
ticked c = let e : c.loop-j.j ≡ c.plan_of-x.result.ticks = omega (arith, c.loop-j-test.false, c.loop-j.invariant.0) in (arrived c).0.state ∙ rw (← e) c.loop-j.invariant.2.state

-- reading its numbers anew leaves it
same_here : (c : Joined-stale) → c.if-stale.here.partition ≡ c.if-x-spot.here.partition
same_here c = elim c.if-stale.branch [ then-stale w ↦ (ap lies w.here-is ∙ w.refresh.ensures.partition) | else-stale w ↦ (ap lies w.here-is) ]

-- the numbers beside it are its own
beside : (c : Joined-stale) → Beside c.if-stale.here.partition c.if-stale.here.currents c.if-stale.here.objects c.if-stale.run
beside c =
    let k = (arrived c.before).0.kept in
    elim c.if-stale.branch [ then-stale w ↦ (rw (w.here-is, w.run-is) (record { mirrors = w.refresh.ensures.beside; runs = w.running-run.ensures w.refresh.ensures.beside })) | else-stale w ↦ (rw (w.here-is, w.run-is) (k w.if-stale.false)) ]

-- what is decided
decided : (c : Joined-slot-lt-PARTITIONS) → Decides (planned c.before.before.before.before.before.before) c.if-slot-lt-PARTITIONS.d
decided c =
    let f = planned c.before.before.before.before.before.before in
    let a = arrived c.before.before in
    let bs = beside c.before in
    let T = c.args.self.inner.table in
    let q = settled c.if-x-spot.spot c.if-x-spot.here.partition c.if-x-spot.m in
    let p = c.if-x-spot.here.partition in
    let x = c.plan_of-x.result in
    let wide : length T.channels ≡ channel_limit = c.loop-i.invariant.1 in
    elim c.if-slot-lt-PARTITIONS.branch [
      | then-slot-lt-PARTITIONS w ↦ (let here : part q x.slot ≡ p = ap (part q) (slot_spot f w.if-slot-lt-PARTITIONS.true ∙ a.1) ∙ settled_here c.if-x-spot.spot p c.if-x-spot.m (let z = slot_spot f w.if-slot-lt-PARTITIONS.true ∙ a.1 in omega (arith, w.if-slot-lt-PARTITIONS.true, a.0.long)) in
          let same : c.if-x-spot.m.table ≡ T = table_here f c.if-x-spot.spot p c.if-x-spot.m (ticked c.before.before) a.0.long a.1 in
          let port : w.port_of-port.result ≡ port_at T x.own x.request.a (message q x.place) (seen_traffic T q x.own x.place) = rw (place_named f) (rw (same, same_here c.before) at w.port_of-port.ensures) in
          let view = w.view_of-view.ensures in
          record {
            call = λ _. w.d-is ∙ made_is f (ticked c.before.before) w.if-slot-lt-PARTITIONS.true _ _ _ _ _ (bs.runs ∙ ap running (same_here c.before ∙ sym here)) w.release_for.ensures refl refl port
                (rw here (rw view.context at (w.call-d.ensures p (rw (same_here c.before) at view.shows) (rw (same_here c.before) at view.taken) (rw (same_here c.before) at (view.waiter bs.mirrors)))));
            none = λ far. absurd (omega (arith, w.if-slot-lt-PARTITIONS.true, far));
          })
      | else-slot-lt-PARTITIONS w ↦ (record { call = λ near. absurd (omega (arith, w.if-slot-lt-PARTITIONS.false, near)); none = λ _. w.d-is })
    ]

-- all that is known before something is done
ready : (c : After-reply_of-reply) → Ready (planned c.before.before.before.before.before.before.before) c.if-x-spot.spot c.if-stale.here.partition c.if-x-spot.m c.if-stale.here.currents c.if-stale.here.objects c.if-stale.run c.loop-j.soon c.if-slot-lt-PARTITIONS.d c.reply_of-reply.result
ready c =
    let a = arrived c.before.before.before in
    let same = same_here c.before.before in
    record { ticked = rw same (ticked c.before.before.before); long = a.0.long; here = a.1; beside = beside c.before.before; early = rw same a.0.early; decides = decided c.before; says = c.reply_of-reply.ensures }

-- each decision does what the machine does
did : (c : Joined-d) → Done (settled c.loop-i.spot c.loop-i.here.partition c.loop-i.m) c.plan_of-x.result c.reply_of-reply.result c.if-x-spot.spot c.match-d.m c.match-d.here.partition c.match-d.here.currents c.match-d.here.objects c.if-stale.run c.match-d.soon c.match-d.stale c.match-d.changed
did c =
    let g = ready c.before in
    elim c.match-d.branch [
      | in-Refused w ↦ (done_as_holds w.m-is (ap lies w.here-is) (ap (λ (r : Resident). r.currents) w.here-is) (ap (λ (r : Resident). r.objects) w.here-is) w.soon-is w.stale-is w.changed-is (let q = nothing_done _ w.in-Refused.is in done_same g q.0 _ _ q.1 (omega arith) q.2 (omega arith)))
      | in-Blocked w ↦ (done_as_holds w.m-is (ap lies w.here-is) (ap (λ (r : Resident). r.currents) w.here-is) (ap (λ (r : Resident). r.objects) w.here-is) w.soon-is w.stale-is w.changed-is (done_changed g (ap changes w.in-Blocked.is) (ap restarts w.in-Blocked.is) w.change-stale.new.self.partition (w.change-stale.ensures.made ∙ rw (ap first_change w.in-Blocked.is, ap second_change w.in-Blocked.is)) (λ z. w.change-stale.ensures.beside z g.beside.mirrors)))
      | in-Changed w ↦ (done_as_holds w.m-is (ap lies w.here-is) (ap (λ (r : Resident). r.currents) w.here-is) (ap (λ (r : Resident). r.objects) w.here-is) w.soon-is w.stale-is w.changed-is (done_changed g (ap changes w.in-Changed.is) (ap restarts w.in-Changed.is) w.change_twice-stale.new.self.partition (w.change_twice-stale.ensures.made ∙ rw (ap first_change w.in-Changed.is, ap second_change w.in-Changed.is)) (λ z. w.change_twice-stale.ensures.beside z g.beside.mirrors)))
      | in-Restarted w ↦ (done_as_holds w.m-is (ap lies w.here-is) (ap (λ (r : Resident). r.currents) w.here-is) (ap (λ (r : Resident). r.objects) w.here-is) w.soon-is w.stale-is w.changed-is (done_restarted g (ap restarts w.in-Restarted.is) (sym (ap mode_of w.in-Restarted.is)) w.restart-m.result w.restart-m.ensures _ refl))
      | in-Written+then-put-lt-CHANNELS w ↦ (done_as_holds refl (ap lies w.here-is) (ap (λ (r : Resident). r.currents) w.here-is) (ap (λ (r : Resident). r.objects) w.here-is) w.soon-is w.stale-is w.changed-is (done_written g _ (sym (ap message_at w.in-Written.is)) w.if-put-lt-CHANNELS.true (sym (ap message_of w.in-Written.is)) _ w.m-is))
      | in-Written+else-put-lt-CHANNELS w ↦ (done_as_holds w.m-is (ap lies w.here-is) (ap (λ (r : Resident). r.currents) w.here-is) (ap (λ (r : Resident). r.objects) w.here-is) w.soon-is w.stale-is w.changed-is (done_same g (ap changes w.in-Written.is) _ _ (sym (ap message_at w.in-Written.is)) w.if-put-lt-CHANNELS.false (sym (ap transfer_at w.in-Written.is)) (omega arith)))
      | in-Passed+then-pass-lt-CHANNELS+then-end-lt-PARTITIONS+then-end-spot w ↦ (done_as_holds refl (ap lies w.here-is) (ap (λ (r : Resident). r.currents) w.here-is) (ap (λ (r : Resident). r.objects) w.here-is) w.soon-is w.stale-is w.changed-is (done_here g _ (sym (ap transfer_at w.in-Passed.is)) w.if-pass-lt-CHANNELS.true (sym (ap transfer_of w.in-Passed.is)) _ w.change.ensures _ w.ended_slot-end.ensures w.if-end-lt-PARTITIONS.true w.if-end-spot.true w.after_transfer-here.result w.after_transfer-here.ensures _ w.m-is))
      | in-Passed+then-pass-lt-CHANNELS+then-end-lt-PARTITIONS+else-end-spot w ↦ (done_as_holds refl (ap lies w.here-is) (ap (λ (r : Resident). r.currents) w.here-is) (ap (λ (r : Resident). r.objects) w.here-is) w.soon-is w.stale-is w.changed-is (done_there g _ (sym (ap transfer_at w.in-Passed.is)) w.if-pass-lt-CHANNELS.true (sym (ap transfer_of w.in-Passed.is)) _ w.change.ensures _ w.ended_slot-end.ensures w.if-end-lt-PARTITIONS.true w.if-end-spot.false w.after_transfer-after.result w.after_transfer-after.ensures _ w.m-is))
      | in-Passed+then-pass-lt-CHANNELS+else-end-lt-PARTITIONS w ↦ (done_as_holds refl (ap lies w.here-is) (ap (λ (r : Resident). r.currents) w.here-is) (ap (λ (r : Resident). r.objects) w.here-is) w.soon-is w.stale-is w.changed-is (done_moved g _ (sym (ap transfer_at w.in-Passed.is)) w.if-pass-lt-CHANNELS.true (sym (ap transfer_of w.in-Passed.is)) _ w.change.ensures _ w.ended_slot-end.ensures w.if-end-lt-PARTITIONS.false _ w.m-is))
      | in-Passed+else-pass-lt-CHANNELS w ↦ (done_as_holds w.m-is (ap lies w.here-is) (ap (λ (r : Resident). r.currents) w.here-is) (ap (λ (r : Resident). r.objects) w.here-is) w.soon-is w.stale-is w.changed-is (done_same g (ap changes w.in-Passed.is) _ _ (sym (ap message_at w.in-Passed.is)) (omega arith) (sym (ap transfer_at w.in-Passed.is)) w.if-pass-lt-CHANNELS.false))
    ]

-- and so after the event
same_later : (c : Joined-changed) → c.if-stale-2.here.partition ≡ c.match-d.here.partition
same_later c = elim c.if-stale-2.branch [ then-stale-2 w ↦ (ap lies w.here-is ∙ w.refresh-then-stale-2.ensures.partition) | else-stale-2 w ↦ (ap lies w.here-is) ]

left_beside : (c : Joined-changed) → Beside c.if-stale-2.here.partition c.if-stale-2.here.currents c.if-stale-2.here.objects c.if-changed.run
left_beside c =
    let b = did c.before.before in
    let mir : Mirrors c.if-stale-2.here.partition c.if-stale-2.here.currents c.if-stale-2.here.objects = elim c.if-stale-2.branch [ then-stale-2 w ↦ (rw w.here-is w.refresh-then-stale-2.ensures.beside) | else-stale-2 w ↦ (rw w.here-is (b.mirrors w.if-stale-2.false)) ] in
    elim c.if-changed.branch [ then-changed w ↦ (rw w.run-is (record { mirrors = mir; runs = w.running-run-then-changed.ensures mir })) | else-changed w ↦ (rw w.run-is (record { mirrors = mir; runs = b.runs w.if-changed.false ∙ ap running (sym (same_later c)) })) ]

-- the running process shown
shown : (c : Joined-x-lt-PARTITIONS) → c.if-x-lt-PARTITIONS.running ≡ cond (sees c.plan_of-x.result.request c.plan_of-x.result.current) (running_in c.plan_of-x.result.current (settled c.if-x-spot.spot c.match-d.here.partition c.match-d.m)) 0
shown c =
    let f = planned c.before.before.before.before.before.before.before.before.before.before.before.before in
    let b = did c.before.before.before.before in
    let size : length c.match-d.m.partitions ≡ partition_limit = sym (length-set c.match-d.m.partitions c.if-x-spot.spot c.match-d.here.partition) ∙ b.after.long in
    elim c.if-x-lt-PARTITIONS.branch [ then-x-lt-PARTITIONS w ↦ (let e = shown_spot f w.if-x-lt-PARTITIONS.true in runs_shown f b.after w.if-x-lt-PARTITIONS.true (w.running-is ∙ running_at c.match-d.m c.if-x-spot.spot c.match-d.here.partition c.plan_of-x.result.spot (arrived c.before.before.before.before.before.before.before.before).1 (rw e at w.if-x-lt-PARTITIONS.true) size ((left_beside c.before.before).runs ∙ ap running (same_later c.before.before)))) | else-x-lt-PARTITIONS w ↦ (w.running-is ∙ none_shown f b.after w.if-x-lt-PARTITIONS.false) ]

begins_long : (c : Start) → length c.args.self.inner.partitions ≡ partition_limit
begins_long c = search (rules, length_mapped)

begins_held : (c : Start) → Held c.args.self.inner
begins_held c = (search (rules, length_mapped), search (rules, length_mapped))

begins_wide : (c : Start) → length c.args.self.inner.table.channels ≡ channel_limit
begins_wide c = search (rules, length_mapped)

pub loop-i-init : goal.loop-i-init
loop-i-init c =
    let long : length c.args.self.inner.partitions ≡ partition_limit = begins_long (goal.at.loop-i-init c).Start in
    let same : settled partition_limit c.empty.result c.args.self.inner ≡ c.args.self.inner = settled_past _ _ _ (omega (arith, long)) in (
      subst (λ (v : Module). Running c.args.self.inner c.args.list.now (length c.args.list.now / six) 0 v c.args.list.now c.no_answer-last.result) (sym same) (begins _ _ _ long (begins_held (goal.at.loop-i-init c).Start) (div-mul-le_self _ six) _ c.no_answer-last.ensures),
      begins_wide (goal.at.loop-i-init c).Start,
      c.lookup_at-window.ensures,
      none_beside c.empty.result c.empty.ensures,
      begins_early _,
      long,
    )

pub overflow_mul-at : goal.overflow_mul-at
overflow_mul-at c = let h = fits c.loop-i.invariant.0 c.loop-i-test.true in omega (arith, h)

pub port_of-port-requires : goal.port_of-port-requires
port_of-port-requires c =
    let b = (goal.at.port_of-port-requires c).Joined-stale in
    let a = arrived b.before in
    let same = table_here (planned b.before.before.before.before.before) b.if-x-spot.spot b.if-x-spot.here.partition b.if-x-spot.m (ticked b.before) a.0.long a.1 in
    record {
      channels = ap (λ (t : Table). length t.channels) same ∙ b.loop-i.invariant.1;
      messages = a.0.held.0;
      queues = a.0.held.1;
      partitions = a.0.long;
    }

pub event_at-requires : goal.event_at-requires
event_at-requires c = fits c.loop-i.invariant.0 c.loop-i-test.true

pub put_answer-requires : goal.put_answer-requires
put_answer-requires c = fits c.loop-i.invariant.0 c.loop-i-test.true

pub loop-i-smaller : goal.loop-i-smaller
loop-i-smaller c = omega (arith, c.loop-i-test.true)

pub loop-i-preserved : goal.loop-i-preserved
loop-i-preserved c =
    let b = did (goal.at.loop-i-preserved c).Joined-d in
    let a = b.after in
    let same = sym (same_later (goal.at.loop-i-preserved c).Joined-changed) in (
      subst (λ (p : Partition). Running c.args.self.inner c.args.list.now (length c.args.list.now / six) (c.loop-i.i + 1) (settled c.if-x-spot.spot p c.match-d.m) c.put_answer.new.list c.answer_of-last.result) same (goes_on c.loop-i.invariant.0 c.loop-i-test.true c.event_at.ensures (event_answered (planned (goal.at.loop-i-preserved c).After-plan_of-x) a (shown (goal.at.loop-i-preserved c).Joined-x-lt-PARTITIONS) c.answer_of-last.ensures) a.long a.held c.put_answer.ensures),
      c.loop-i.invariant.1,
      window (goal.at.loop-i-preserved c).Joined-first-m ∙ ap (lookup c.args.self.inner.table) (sym (a.clock ∙ ap (λ (v : Plan). v.time) (c.plan_of-x.ensures c.args.self.inner.table refl))),
      left_beside (goal.at.loop-i-preserved c).Joined-changed,
      subst (λ (p : Partition). Early (settled c.if-x-spot.spot p c.match-d.m) c.match-d.soon) same b.early,
      sym (length-set c.match-d.m.partitions c.if-x-spot.spot c.match-d.here.partition) ∙ a.long,
    )

pub returns-then-spot-lt-PARTITIONS-3 : goal.returns-then-spot-lt-PARTITIONS-3
returns-then-spot-lt-PARTITIONS-3 c = ends c.loop-i.invariant.0 c.loop-i-test.false

pub returns-else-spot-lt-PARTITIONS-3 : goal.returns-else-spot-lt-PARTITIONS-3
returns-else-spot-lt-PARTITIONS-3 c = let e = ends c.loop-i.invariant.0 c.loop-i-test.false in (sym (settled_past c.loop-i.spot c.loop-i.here.partition c.loop-i.m (omega (arith, c.if-spot-lt-PARTITIONS-3.false, c.loop-i.invariant.5))) ∙ e.0, e.1, e.2)

pub offset_bounds-m-put : goal.offset_bounds-m-put
offset_bounds-m-put c = omega (arith, c.if-put-lt-CHANNELS.true)

pub offset_bounds-m-pass : goal.offset_bounds-m-pass
offset_bounds-m-pass c = omega (arith, c.if-pass-lt-CHANNELS.true)

pub offset_bounds-soon-end : goal.offset_bounds-soon-end
offset_bounds-soon-end c = omega (arith, c.if-end-lt-PARTITIONS.true)

pub offset_bounds-m-end : goal.offset_bounds-m-end
offset_bounds-m-end c = omega (arith, c.if-end-lt-PARTITIONS.true)

pub offset_bounds-m-end-else-end-spot : goal.offset_bounds-m-end-else-end-spot
offset_bounds-m-end-else-end-spot c = omega (arith, c.if-end-lt-PARTITIONS.true)

pub offset_bounds-soon-j : goal.offset_bounds-soon-j
offset_bounds-soon-j c = search rules

pub bounds-soon-j : goal.bounds-soon-j
bounds-soon-j c = search rules

pub offset_bounds-soon-j-then-j-spot : goal.offset_bounds-soon-j-then-j-spot
offset_bounds-soon-j-then-j-spot c = search rules

pub bounds-soon-j-then-j-spot : goal.bounds-soon-j-then-j-spot
bounds-soon-j-then-j-spot c = search rules

pub offset_bounds-m-j : goal.offset_bounds-m-j
offset_bounds-m-j c = search rules

pub bounds-m-j : goal.bounds-m-j
bounds-m-j c = search rules

pub offset_bounds-m-j-else-j-spot : goal.offset_bounds-m-j-else-j-spot
offset_bounds-m-j-else-j-spot c = search rules

pub bounds-m-j-else-j-spot : goal.bounds-m-j-else-j-spot
bounds-m-j-else-j-spot c = search rules

pub offset_bounds-soon-j-else-j-spot : goal.offset_bounds-soon-j-else-j-spot
offset_bounds-soon-j-else-j-spot c = search rules

pub bounds-soon-j-else-j-spot : goal.bounds-soon-j-else-j-spot
bounds-soon-j-else-j-spot c = search rules

pub bounds-m-spot : goal.bounds-m-spot
bounds-m-spot c = search rules

pub offset_bounds-m-spot-then-spot-lt-PARTITIONS-2 : goal.offset_bounds-m-spot-then-spot-lt-PARTITIONS-2
offset_bounds-m-spot-then-spot-lt-PARTITIONS-2 c = search rules

pub bounds-m-spot-then-spot-lt-PARTITIONS-2 : goal.bounds-m-spot-then-spot-lt-PARTITIONS-2
bounds-m-spot-then-spot-lt-PARTITIONS-2 c = search rules

pub bounds-m-put : goal.bounds-m-put
bounds-m-put c = search rules

pub bounds-m-pass : goal.bounds-m-pass
bounds-m-pass c = search rules

pub bounds-m-pass-then-pass-lt-CHANNELS : goal.bounds-m-pass-then-pass-lt-CHANNELS
bounds-m-pass-then-pass-lt-CHANNELS c = search rules

pub bounds-soon-end : goal.bounds-soon-end
bounds-soon-end c = search rules

pub bounds-m-end : goal.bounds-m-end
bounds-m-end c = search rules

pub bounds-m-end-else-end-spot : goal.bounds-m-end-else-end-spot
bounds-m-end-else-end-spot c = search rules

pub bounds-m-spot-then-spot-lt-PARTITIONS-3 : goal.bounds-m-spot-then-spot-lt-PARTITIONS-3
bounds-m-spot-then-spot-lt-PARTITIONS-3 c = search rules
