-- An event: what it decides, what the decision makes of the module, and the answer.
use Rattle.std.specs.Prelude.{Some}
use Rattle.std.specs.Prelude.{ℕ, ◌-◌, Bool, cond, ◌||◌}
use Rattle.machine.specs.declared.Module.{Module}
use Rattle.machine.specs.declared.Partition.{Partition}
use Rattle.machine.specs.declared.Context.{Context}
use Rattle.machine.specs.declared.Decision.{Decision}
use Rattle.machine.specs.declared.Decision.TheVariants.{Refused, Unchanged, Ticked, Blocked, Changed, Restarted, Written, Passed}
use Rattle.machine.specs.declared.Event.{Event}
use Rattle.machine.specs.declared.Request.{Request}
use Rattle.machine.specs.declared.Reply.{Reply}
use Rattle.machine.specs.declared.Answer.{Answer}
use Rattle.machine.specs.declared.Stepped.{Stepped}
use Rattle.machine.specs.Limits.{channel_limit}
use Rattle.machine.specs.Fields.{request_of, is_number, number_of}
use Rattle.machine.specs.Partition.{running, partition_after}
use Rattle.machine.specs.Decisions.{checked, reply_of}
use Rattle.machine.specs.Windows.{release_point}
use Rattle.machine.specs.Module.{part, current, ticks_left, running_in, with_part, with_message}
use Rattle.machine.specs.Ticks.{tick_module}
use Rattle.machine.specs.Channels.{port_of, passed, erased_to, refilled_to}
use Rattle.machine.specs.Services.{called}
use Rattle.machine.specs.Places.{ticks, first_checks}

-- The NORMAL partition's caller is its running process; in start modes it is the main program, which is no process: 0.
abbrev pub context_of : Module → ℕ → Context
context_of m k = record { time = m.t; frame = m.table.frame; left = ticks_left m; release = release_point m.table m.t k; caller = running (part m (k - 1)) }

-- Numbers by place of check: 13 first; a tick 10; a call 8, then 9, then its body. A call is by the partition that it names.
unfoldable pub decision : Module → Request → Decision
decision m r =
    let k = number_of r.partition in
    checked Refused (first_checks m.table m.t (current m) r)
    (cond (ticks r)
    Ticked
    (called (context_of m k) (port_of m k r) (number_of r.call) r (part m (k - 1))))

-- partition k is p from now on, with nothing in it
abbrev pub restarted : ℕ → Partition → Module → Module
restarted k p m = refilled_to k channel_limit (with_part (k - 1) p (erased_to k channel_limit m))

-- what a decision of partition k leaves of the module: a refusal and what changes nothing leave it same. Modes 0, 1, 2: messages on channels
-- into the partition erased, and queues into it filled anew.
abbrev pub module_after : Module → ℕ → Decision → Module
module_after m k (Refused code) = m
module_after m k (Unchanged value extra) = m
module_after m k Ticked = tick_module m
module_after m k (Blocked id x) = with_part (k - 1) (partition_after (Blocked id x) (part m (k - 1))) m
module_after m k (Changed a b value) = with_part (k - 1) (partition_after (Changed a b value) (part m (k - 1))) m
module_after m k (Restarted mode) = restarted k (partition_after (Restarted mode) (part m (k - 1))) m
module_after m k (Written i x) = with_message i (Some x) m
module_after m k (Passed i a value) = passed k i a m

-- The last reads 0 where the event's partition is neither 0 nor current, whichever code it gets.
abbrev pub sees : Request → ℕ → Bool
sees r k = is_number 0 r.partition || is_number k r.partition

-- The answer is code, value, extra, then t, current partition, running process after it.
abbrev pub answer_to : Request → Reply → Module → Answer
answer_to r a m =
    let k = current m in
    record {
      code = a.code;
      value = a.value;
      extra = a.extra;
      t = m.t;
      current = k;
      running = cond (sees r k) (running_in k m) 0;
    }

-- an event is decided, the decision is applied, and the answer is read off the record then
abbrev pub stepped : Module → Request → Decision → Stepped
stepped m r d =
    let q = module_after m (number_of r.partition) d in
    record { state = q; answer = answer_to r (reply_of d) q }

unfoldable pub step : Module → Event → Stepped
step m e = let r = request_of e in stepped m r (decision m r)
