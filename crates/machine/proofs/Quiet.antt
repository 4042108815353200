-- A tick at which nothing of a process is due leaves its record, and storing the record that is there changes nothing. Assumes nothing.
use Prim.Native.Nat.{ℕ}
use mathlib.Core.Path.{◌≡◌, refl}
use mathlib.Core.Bool.{Bool, true, false, cond}
use Rattle.machine.specs.declared.Ids.{Ids}
use Rattle.machine.specs.declared.Process.{Process}
use Rattle.machine.specs.declared.Partition.{Partition}
use Rattle.machine.specs.Limits.{process_limit}
use Rattle.machine.specs.Ids.{follow}
use Rattle.machine.specs.Process.{blank_process, ready, on_object, due, woken, expired, ticked}
use Rattle.machine.specs.Partition.{within, replaced, process, with_processes, stored}
use Rattle.machine.proofs.Bounds.{replaced_same}

pub follow_same : (b : Bool) (id : ℕ) (q : Ids) → follow b b id q ≡ q
follow_same true id q = refl
follow_same false id q = refl

-- storing the record that is there changes nothing
pub stored_same : (id : ℕ) (p : Partition) → stored id (process id p) p ≡ p
unfolding stored
stored_same id p = go (within process_limit id)
  where
    go : (b : Bool) → cond b (with_processes (replaced process_limit id (process id p) p.processes) p.process_count (follow (ready (process id p)) (ready (process id p)) id p.arrival) (follow (on_object (process id p)) (on_object (process id p)) id p.waiting) p) p ≡ p
    go true = rw (replaced_same process_limit id blank_process p.processes, follow_same (ready (process id p)) id p.arrival, follow_same (on_object (process id p)) id p.waiting)
    go false = refl

pub ticked_same : (t : ℕ) (x : Process) → due t x.times.wake ≡ false → due t x.times.deadline ≡ false → ticked t x ≡ x
unfolding woken expired
ticked_same t x w d = rw (w, d)
