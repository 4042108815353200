-- What the body of a call may decide: it answers 0, 7 or a code 1 to 5, a message is left by its channel's source alone, a transfer is made at the
-- ends of a queuing channel alone, and the preemption lock is reached by calls 1, 6, 32 and 33 alone: for every record and every event. Assumes
-- nothing.
use Prim.Native.Nat.{ℕ, ◌≤◌, ◌<◌}
use mathlib.Core.Path.{◌≡◌, refl}
use mathlib.Core.Bool.{Bool, true, false, ◌&&◌, ◌||◌}
use mathlib.Core.Logic.{◌⊎◌}
use mathlib.Core.List.{List, [], ◌∷◌}
use lib.Dec.{eqb, leb}
use Rattle.machine.specs.declared.Partition.{Partition}
use Rattle.machine.specs.declared.Port.{Port}
use Rattle.machine.specs.declared.Transfer.{Transfer}
use Rattle.machine.specs.declared.Change.{Change}
use Rattle.machine.specs.declared.Change.TheVariants.{Nothing, Stored, Created, Last, StoredSemaphore, StoredEvent, CreatedBuffer, Moved, StoredBlackboard, Ended, Handed, LevelSet, Entered}
use Rattle.machine.specs.declared.Decision.{Decision}
use Rattle.machine.specs.declared.Decision.TheVariants.{Refused, Unchanged, Ticked, Blocked, Changed, Restarted, Written, Passed as PassedOn}
use Rattle.machine.specs.Messages.{sent, received}
use Rattle.machine.specs.Decisions.{reply_of}
use Rattle.machine.specs.Objects.{signalled}
use Rattle.machine.specs.Channels.{queuing}
use Rattle.machine.specs.Limits.{duration_limit, channel_limit}

-- a code 1 to 5
abbrev pub body_refusal : ℕ → Bool
body_refusal n = leb 1 n && leb n 5

-- a code of a call's body
abbrev pub body_code : ℕ → Bool
body_code n = body_refusal n || (eqb n 0 || eqb n 7)

-- call 21 alone leaves a message; it does so at the place of a channel of the table, whose source the caller's partition is
pub record FromSource (x : Port) (n i : ℕ) : Type 0 where
  pub call : n ≡ 21
  pub place : i ≡ x.place
  pub there : x.exists ≡ true
  pub source : x.channel.source ≡ x.own

-- 30 sends at the source, where there is room; 31 receives at the destination, where there is a message
pub record Sends (x : Port) (n : ℕ) (a : Transfer) (value : ℕ) : Type 0 where
  pub call : n ≡ 30
  pub source : x.channel.source ≡ x.own
  pub room : x.traffic.len < x.channel.size
  pub message : ℕ
  pub few : message ≤ duration_limit
  pub transfer : a ≡ sent x.traffic.waiter message
  pub none : value ≡ 0

pub record Receives (x : Port) (n : ℕ) (a : Transfer) (value : ℕ) : Type 0 where
  pub call : n ≡ 31
  pub destination : x.channel.destination ≡ x.own
  pub some : 0 < x.traffic.len
  pub transfer : a ≡ received x.traffic.waiter x.traffic.carried
  pub first : value ≡ x.traffic.first

-- calls 30 and 31 alone make a transfer, on a queuing channel of the table
pub record OnQueue (x : Port) (n i : ℕ) (a : Transfer) (value : ℕ) : Type 0 where
  pub place : i ≡ x.place
  pub there : x.exists ≡ true
  pub kind : queuing x.channel ≡ true
  pub placed : x.place < channel_limit
  pub end : Sends x n a value ⊎ Receives x n a value

-- a change that leaves the preemption lock
abbrev pub leaves_level : Change → Bool
leaves_level Nothing = true
leaves_level (Stored id x) = true
leaves_level (Created id x) = true
leaves_level (Last id) = true
leaves_level (StoredSemaphore k s) = true
leaves_level (StoredEvent k e) = true
leaves_level (CreatedBuffer k name limit) = true
leaves_level (Moved k a) = true
leaves_level (StoredBlackboard k b) = true
leaves_level (Ended o) = true
leaves_level (Handed o m) = true
leaves_level (LevelSet level holder) = false
leaves_level (Entered c) = false

-- calls 1, 6, 32 and 33, which alone make a change that does not, and that as their first
abbrev pub sets_level : ℕ → Bool
sets_level n = eqb n 1 || (eqb n 6 || (eqb n 32 || eqb n 33))

-- what the body of a call decides
abbrev pub Bodily : Port → ℕ → Decision → Type 0
Bodily x n (Refused code) = body_refusal code ≡ true
Bodily x n (Unchanged value extra) = Unit {0}
Bodily x n Ticked = ⊥
Bodily x n (Blocked id y) = Unit {0}
Bodily x n (Changed a b value) = ((leaves_level a || sets_level n) ≡ true) × (leaves_level b ≡ true)
Bodily x n (Restarted mode) = sets_level n ≡ true
Bodily x n (Written i y) = FromSource x n i
Bodily x n (PassedOn i a value) = OnQueue x n i a value

pub record Body (x : Port) (n : ℕ) (d : Decision) : Type 0 where
  pub is : Bodily x n d

-- SIGNAL leaves it
pub signalled_by : (l : List ℕ) (k : ℕ) (p : Partition) → leaves_level (signalled l k p) ≡ true
unfolding signalled
signalled_by [] k p = refl
signalled_by (id ∷ l) k p = refl

-- the code of what a body decides
pub body_code_holds : (x : Port) (n : ℕ) (d : Decision) → Bodily x n d → body_code (reply_of d).code ≡ true
body_code_holds x n (Refused m) h = rw h
body_code_holds x n (Unchanged v e) h = refl
body_code_holds x n Ticked h = absurd h
body_code_holds x n (Blocked id y) h = refl
body_code_holds x n (Changed a b v) h = refl
body_code_holds x n (Restarted mode) h = refl
body_code_holds x n (Written i y) h = refl
body_code_holds x n (PassedOn i a v) h = refl
