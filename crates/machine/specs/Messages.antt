-- Queues of messages, first in first out.
use Rattle.std.specs.Prelude.{ℕ, ◌+◌, ◌-◌, Bool, true, false, cond, List, [], ◌++◌, length, get_or, set, take, drop, replicate, ltb, eqb}
use Rattle.machine.specs.declared.Queue.{Queue}
use Rattle.machine.specs.declared.Transfer.{Transfer}
use Rattle.machine.specs.declared.Transfer.TheVariants.{Put, HandedTo, Taken, LetIn}
use Rattle.machine.specs.Limits.{message_limit}

-- the messages, the first to leave first
abbrev pub held : Queue → List ℕ
held q = take q.len q.items

-- the queue that holds these; what lies past them is 0
abbrev pub queue_of : List ℕ → Queue
queue_of l = record { items = l ++ replicate (message_limit - length l) 0; len = length l }

abbrev pub no_queue : Queue
no_queue = queue_of []

-- one joins last. Bound: a full array stays as it is
unfoldable pub put : ℕ → Queue → Queue
put m q = cond (ltb q.len message_limit) (record { items = set q.items q.len m; len = q.len + 1 }) q

-- the first leaves
unfoldable pub taken : Queue → Queue
taken q = queue_of (drop 1 (held q))

-- the first; 0 where there is none
abbrev pub first : Queue → ℕ
first q = get_or q.items 0 0

-- ---------------------------------------------------------------- sends and receives, of a buffer and of a queuing channel
-- A message sent to a waiting receiver goes straight into its process record: to the first, 0 for none. None: it joins the messages last.
unfoldable pub sent : ℕ → ℕ → Transfer
sent receiver m = cond (eqb receiver 0) (Put m) (HandedTo receiver m)

-- A receive lets the first waiting sender's message in; 0 for none.
unfoldable pub received : ℕ → ℕ → Transfer
received sender m = cond (eqb sender 0) Taken (LetIn sender m)

-- what a transfer makes of the messages
abbrev pub moved : Transfer → Queue → Queue
moved (Put m) q = put m q
moved (HandedTo id m) q = q
moved Taken q = taken q
moved (LetIn id m) q = put m (taken q)

-- it ends a wait
abbrev pub ends_wait : Transfer → Bool
ends_wait (Put m) = false
ends_wait (HandedTo id m) = true
ends_wait Taken = false
ends_wait (LetIn id m) = true
