-- What a call sees of its partition, and what it decides by that.
use Rattle.std.specs.Prelude.{ℕ, ◌≡◌, Result}
use Rattle.machine.specs.Messages.{first}
use Rattle.machine.specs.Partition.{process, semaphore, event, buffer, blackboard}
use Rattle.machine.specs.declared.Partition.{Partition}
use Rattle.machine.specs.declared.Decision.{Decision}
use Rattle.machine.specs.declared.Refusal.{Refusal}
use Rattle.decisions.specs.Results.{decided}
use Rattle.decisions.specs.declared.View.{View}

-- v shows partition p to a call whose field a is the number id; what a name in it and who waits is said by the calls that look at these
pub record Shows (v : View) (id : ℕ) (p : Partition) : Type 0 where
  pub mode : v.mode ≡ p.mode
  pub level : v.level ≡ p.level
  pub holder : v.holder ≡ p.holder
  pub count : v.count ≡ p.process_count
  pub semaphores : v.semaphores ≡ p.semaphore_count
  pub events : v.events ≡ p.event_count
  pub buffers : v.buffers ≡ p.buffer_count
  pub blackboards : v.blackboards ≡ p.blackboard_count
  pub named : v.named ≡ process id p
  pub calling : v.calling ≡ process v.context.caller p
  pub semaphore : v.semaphore ≡ semaphore id p
  pub event : v.event ≡ event id p
  pub limit : v.limit ≡ (buffer id p).limit
  pub len : v.len ≡ (buffer id p).queue.len
  pub first : v.first ≡ first (buffer id p).queue
  pub blackboard : v.blackboard ≡ blackboard id p
  pub served : v.served ≡ process v.waiter p

-- r is what f decides of each partition that v so shows
abbrev pub Follows : View → ℕ → Result Decision Refusal → (Partition → Decision) → Type 0
Follows v id r f = (p : Partition) → Shows v id p → decided r ≡ f p
