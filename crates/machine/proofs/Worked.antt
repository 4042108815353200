-- The worked example of document 01 and its continuation, and the examples of releases inside a frame, of the preemption lock and of ticks left, computed from the bytes of the input. Assumes nothing.
use mathlib.Core.Path.{refl}
use Rattle.machine.specs.Theorems.Examples as E
use Rattle.machine.specs.Theorems.Starred.{Worked}
use Rattle.machine.specs.Line as X
use Rattle.machine.specs.Table as T
use Rattle.machine.specs.Windows as Wi
use Rattle.machine.specs.Module as M
use Rattle.machine.specs.Ticks as Ti
use Rattle.machine.specs.Channels as Ch
use Rattle.machine.specs.Places as Pl
use Rattle.machine.specs.Step as St
use Rattle.machine.specs.Calls as C
use Rattle.machine.specs.Objects as Ob
use Rattle.machine.specs.Buffers as Bu
use Rattle.machine.specs.Blackboards as Bb
use Rattle.machine.specs.Messages as Mg
use Rattle.machine.specs.Decisions as D
use Rattle.machine.specs.Services as Sv
use Rattle.machine.specs.Partition as P
use Rattle.machine.specs.Process as Q
use Rattle.machine.specs.Ids as I
use Rattle.machine.specs.Replay as R

-- every definition that the examples compute with
pub worked : Worked
unfolding E.bytes E.text E.table E.events E.printed E.to_four E.tick_line E.printed_after E.two_windows E.started_in_first E.released_in_second E.one_window E.locked_update E.locked_answers E.adjacent_windows E.asked_left E.left_answers E.two_queues E.restarted_reader E.let_in_by_number E.no_event E.no_event_answers R.replayed R.replayed_record X.in_range X.column X.mark_after X.columns X.number_text X.field_text X.line_text X.same_bytes X.spelled X.candidate X.read_field X.read_numbers X.read_line X.lines T.has_flagged T.flagged_from T.table_from T.table_of M.empty_table M.empty_module M.fresh_module Wi.covering Wi.lookup Wi.first_start Wi.next_start Wi.release_after Wi.release_point Ti.tick_at Ti.tick_to Ch.channel_checks Ch.write Ch.read Ch.send Ch.receive Ch.kept_to Ch.refilled_to Pl.stray_field St.step St.decision D.awaiting D.checked D.blocked C.set_mode D.name_taken C.create_process C.start C.stop C.stop_self C.suspend C.suspend_self C.timed_wait C.periodic_wait C.resume C.set_priority C.get_status C.lock_preemption C.unlock_preemption C.get_ticks_left Ob.create_semaphore Ob.create_event P.created P.stored_semaphore P.stored_event P.stored_buffer P.stored_blackboard Mg.put Mg.taken Mg.sent Mg.received Bu.create_buffer Bu.send_buffer Bu.receive_buffer Bb.create_blackboard Bb.show Bb.read_blackboard Bb.clear D.queued Ob.wait_semaphore Ob.wait_event Ob.signalled Ob.signal Ob.set_event Ob.reset_event Sv.services Sv.call_decision P.by_id P.replaced P.stored P.arrived_last P.chosen P.running P.waiters P.changed_all P.each_from P.tick_partition P.entered_normal P.fresh_partition P.empty_partition Q.woken Q.expired Q.start_rule Q.entered I.kept I.appended I.removed R.texts
worked = record { example = refl; continued = refl; four = refl; five = refl; released = refl; locked = refl; left = refl; let_in = refl; unread = refl }
