-- The messages of a buffer that moved by a transfer, in a valid partition. Assumes nothing.
use Prim.Native.Nat.{ℕ, ◌-◌, ◌≤◌, max}
use mathlib.Core.Path.{◌≡◌, ap, ap₂, ◌∙◌}
use mathlib.Core.List.{List}
use native.Mathlib.Omega.{arith}
use lib.ListN.{length, set}
use lib.Seq.{set-get_or}
use Rattle.machine.specs.declared.Process.{Process}
use Rattle.machine.specs.declared.Buffer.{Buffer}
use Rattle.machine.specs.declared.Partition.{Partition}
use Rattle.machine.specs.declared.Transfer.{Transfer}
use Rattle.machine.specs.declared.Transfer.TheVariants.{HandedTo}
use Rattle.machine.specs.declared.Change.TheVariants.{Moved}
use Rattle.machine.specs.Limits.{buffer_limit}
use Rattle.machine.specs.Messages.{held}
use Rattle.machine.specs.Partition.{no_buffer, process, buffer, moved_in, with_buffers, stored, stored_buffer, waiters, applied}
use Rattle.machine.specs.Theorems.Valid.{Between, SoundBuffer, SoundMove, ListedIn, Valid}
use Rattle.machine.specs.Theorems.Plain.{plain_moved}
use Rattle.machine.proofs.Bounds.{within_in, named_in, named_same, buffer_in}
use Rattle.machine.proofs.Messages.{queue_length, moved_held}
use Rattle.machine.proofs.Keeping.{stored_rest}
use Rattle.machine.proofs.Orders.{buffer_queue}

module _ (frame t : ℕ) (p : Partition) (v : Valid frame t p) (j : ℕ) (b : Between 1 p.buffer_count j) where
  abbrev pub messages : List ℕ
  messages = held (buffer j p).queue

  few : j ≤ buffer_limit
  few = omega (arith, b.1, v.objects.buffers.numbered.few)

  pub sound : SoundBuffer (buffer j p)
  sound = v.objects.buffers.each j b

  pub size : length messages ≡ (buffer j p).queue.len
  size = queue_length (buffer j p).limit (buffer j p).queue sound.queue

  -- the messages of the buffer alone; then the wait that a transfer ends
  module _ (a : Transfer) where
    abbrev pub moving : Partition
    moving = stored_buffer j (moved_in a (buffer j p)) p

    abbrev pub transferred : Partition
    transferred = applied (Moved j a) p

    moving_is : moving ≡ with_buffers (set p.buffers (j - 1) (moved_in a (buffer j p))) (max p.buffer_count j) p
    moving_is = buffer_in j (moved_in a (buffer j p)) p (within_in buffer_limit j b.0 few)

    pub moving_held : SoundMove (buffer j p).limit (buffer j p).queue a → held (buffer j moving).queue ≡ plain_moved a messages
    moving_held s =
        rw moving_is (ap (λ (x : Buffer). held x.queue) (named_same buffer_limit no_buffer j (moved_in a (buffer j p)) p.buffers b.0 few (omega (arith, few, v.objects.buffers.numbered.size))))
        ∙ moved_held (buffer j p).limit (buffer j p).queue sound.queue sound.limit.1 a s

    -- no process and no list changes
    pub moving_processes : moving.processes ≡ p.processes
    moving_processes = ap (λ (q : Partition). q.processes) moving_is

    pub moving_process : (y : ℕ) → process y moving ≡ process y p
    moving_process y = rw moving_is

    pub moving_queue : (o : ℕ) → (o ≡ 0 → ⊥) → waiters o moving ≡ waiters o p
    moving_queue o some = buffer_queue p v.lists o some j (moved_in a (buffer j p))

    pub moving_listed : ListedIn moving
    moving_listed = rw moving_is v.lists

    pub moving_count : p.buffer_count ≤ moving.buffer_count
    moving_count = rw moving_is (omega arith)

    pub moving_created : (id : ℕ) → Between 1 p.process_count id → Between 1 moving.process_count id
    moving_created id c = rw moving_is c

    -- and then one process stored
    pub moving_stored : (id : ℕ) (x : Process) → SoundMove (buffer j p).limit (buffer j p).queue a → held (buffer j (stored id x moving)).queue ≡ plain_moved a messages
    moving_stored id x s = ap (λ (q : Partition). held (buffer j q).queue) (stored_rest moving id x) ∙ moving_held s

  -- a message handed over leaves the buffer as it is
  pub handed_same : (id m : ℕ) → moving (HandedTo id m) ≡ p
  handed_same id m =
      let count : max p.buffer_count j ≡ p.buffer_count = omega (arith, b.1) in
      let same : set p.buffers (j - 1) (buffer j p) ≡ p.buffers = ap (set p.buffers (j - 1)) (named_in buffer_limit j no_buffer p.buffers (within_in buffer_limit j b.0 few)) ∙ set-get_or p.buffers (j - 1) no_buffer in
      moving_is (HandedTo id m) ∙ ap₂ (λ (l : List Buffer) (n : ℕ). with_buffers l n p) same count
