-- The worked example of document 01 and its continuation, a line that is no event, and four of document 02: what is put in and what is printed, in columns.
use Rattle.std.specs.Prelude.{ℕ, List, [], ◌∷◌, ◌++◌}
use Prim.Native.String.{String}
use Prim.Native.Char.{code}
use Rattle.machine.specs.Line.{line_feed}

-- the bytes of a text, and of lines, each with its LF
unfoldable pub bytes : String → List ℕ
bytes String.[] = []
bytes (String.◌∷◌ c s) = code c ∷ bytes s

unfoldable pub text : List String → List ℕ
text [] = []
text (s ∷ l) = bytes s ++ (line_feed ∷ text l)

unfoldable pub table : List String
table =
    "        10         2         2         0         0         0" ∷
    "         0         6         1         1         0         0" ∷
    "         6         4         2         1         0         0" ∷ []

unfoldable pub events : List String
events =
    "         1         2         7        50        -1         5" ∷
    "         1         3         1         0         0         0" ∷
    "         1         1         3         0         0         0" ∷
    "         2         1         3         0         0         0" ∷
    "         1         9         4         0         0         0" ∷
    "         0         0         0         0         0         0" ∷ []

unfoldable pub printed : List String
printed =
    "         0         1         0         0         1         0" ∷
    "         0         0         0         0         1         0" ∷
    "         0         0         0         0         1         1" ∷
    "         8         0         0         0         1         0" ∷
    "         7         0         0         0         1         0" ∷
    "         0         0         0         1         1         0" ∷ []

-- the ticks to t = 4, t = 5 and t = 6
unfoldable pub to_four : List String
to_four =
    "         0         0         0         0         0         0" ∷
    "         0         0         0         0         0         0" ∷
    "         0         0         0         0         0         0" ∷ []

unfoldable pub tick_line : List String
tick_line = "         0         0         0         0         0         0" ∷ []

-- t = 4 runs 1; t = 6 current 2
unfoldable pub printed_after : List String
printed_after =
    "         0         0         0         2         1         0" ∷
    "         0         0         0         3         1         0" ∷
    "         0         0         0         4         1         1" ∷
    "         0         0         0         5         1         1" ∷
    "         0         0         0         6         2         0" ∷ []

-- ---------------------------------------------------------------- releases inside a frame (document 02, d)
-- partition 1 has windows with flag 1 from 0 and from 5, and one without it from 3
unfoldable pub two_windows : List String
two_windows =
    "        10         2         4         0         0         0" ∷
    "         0         3         1         1         0         0" ∷
    "         3         1         1         0         0         0" ∷
    "         4         1         2         1         0         0" ∷
    "         5         5         1         1         0         0" ∷ []

-- process 1 starts the periodic process 2 at t = 1; at t = 5 the status of 2, PERIODIC_WAIT of 2, its status again
unfoldable pub started_in_first : List String
started_in_first =
    "         1         2         8        10        -1        -1" ∷
    "         1         2         7        50        10         4" ∷
    "         1         3         1         0         0         0" ∷
    "         1         1         3         0         0         0" ∷
    "         0         0         0         0         0         0" ∷
    "         1         3         2         0         0         0" ∷
    "         0         0         0         0         0         0" ∷
    "         0         0         0         0         0         0" ∷
    "         0         0         0         0         0         0" ∷
    "         0         0         0         0         0         0" ∷
    "         1        13         2         0         0         0" ∷
    "         1        10         0         0         0         0" ∷
    "         1        13         2         0         0         0" ∷ []

-- t = 3 runs 1 still; t = 5 runs 2, with deadline 9; PERIODIC_WAIT brings it to 19
unfoldable pub released_in_second : List String
released_in_second =
    "         0         1         0         0         1         0" ∷
    "         0         2         0         0         1         0" ∷
    "         0         0         0         0         1         0" ∷
    "         0         0         0         0         1         1" ∷
    "         0         0         0         1         1         1" ∷
    "         0         0         0         1         1         1" ∷
    "         0         0         0         2         1         1" ∷
    "         0         0         0         3         1         1" ∷
    "         0         0         0         4         2         0" ∷
    "         0         0         0         5         1         2" ∷
    "         0         2         9         5         1         2" ∷
    "         7         0         0         5         1         1" ∷
    "         0         3        19         5         1         1" ∷ []

-- ---------------------------------------------------------------- the preemption lock (document 02, e)
-- one partition, one window
unfoldable pub one_window : List String
one_window =
    "        10         1         1         0         0         0" ∷
    "         0        10         1         1         0         0" ∷ []

-- process 1 locks preemption and starts process 2, of greater priority; the status of 2, TIMED_WAIT 0 of 1, a tick, UNLOCK_PREEMPTION twice
unfoldable pub locked_update : List String
locked_update =
    "         1         2         7        10        -1        -1" ∷
    "         1         2         8        90        -1        -1" ∷
    "         1         3         1         0         0         0" ∷
    "         1         1         3         0         0         0" ∷
    "         1        32         0         0         0         0" ∷
    "         1         3         2         0         0         0" ∷
    "         1        13         2         0         0         0" ∷
    "         1         9         0         0         0         0" ∷
    "         0         0         0         0         0         0" ∷
    "         1        33         0         0         0         0" ∷
    "         1        33         0         0         0         0" ∷ []

-- 1 runs until it unlocks, then 2, for which nothing is locked
unfoldable pub locked_answers : List String
locked_answers =
    "         0         1         0         0         1         0" ∷
    "         0         2         0         0         1         0" ∷
    "         0         0         0         0         1         0" ∷
    "         0         0         0         0         1         1" ∷
    "         0         0         0         0         1         1" ∷
    "         0         0         0         0         1         1" ∷
    "         0         1        -1         0         1         1" ∷
    "         5         0         0         0         1         1" ∷
    "         0         0         0         1         1         1" ∷
    "         0         0         0         1         1         2" ∷
    "         1         0         0         1         1         2" ∷ []

-- ---------------------------------------------------------------- ticks left in the window (document 02, f)
-- one partition, two windows without a gap between them, and a gap at the frame's end
unfoldable pub adjacent_windows : List String
adjacent_windows =
    "        10         1         2         0         0         0" ∷
    "         0         3         1         1         0         0" ∷
    "         3         4         1         0         0         0" ∷ []

-- GET_TICKS_LEFT at t = 0, 2, 3, 7 and 10, in COLD_START
unfoldable pub asked_left : List String
asked_left =
    "         1        34         0         0         0         0" ∷
    "         0         0         0         0         0         0" ∷
    "         0         0         0         0         0         0" ∷
    "         1        34         0         0         0         0" ∷
    "         0         0         0         0         0         0" ∷
    "         1        34         0         0         0         0" ∷
    "         0         0         0         0         0         0" ∷
    "         0         0         0         0         0         0" ∷
    "         0         0         0         0         0         0" ∷
    "         0         0         0         0         0         0" ∷
    "         1        34         0         0         0         0" ∷
    "         0         0         0         0         0         0" ∷
    "         0         0         0         0         0         0" ∷
    "         0         0         0         0         0         0" ∷
    "         1        34         0         0         0         0" ∷ []

-- 3, then 1 at the first window's last tick, 4 in the second, 8 in the gap, and 3 in the next frame
unfoldable pub left_answers : List String
left_answers =
    "         0         3         0         0         1         0" ∷
    "         0         0         0         1         1         0" ∷
    "         0         0         0         2         1         0" ∷
    "         0         1         0         2         1         0" ∷
    "         0         0         0         3         1         0" ∷
    "         0         4         0         3         1         0" ∷
    "         0         0         0         4         1         0" ∷
    "         0         0         0         5         1         0" ∷
    "         0         0         0         6         1         0" ∷
    "         0         0         0         7         0         0" ∷
    "         8         0         0         7         0         0" ∷
    "         0         0         0         8         0         0" ∷
    "         0         0         0         9         0         0" ∷
    "         0         0         0        10         1         0" ∷
    "         0         3         0        10         1         0" ∷ []

-- ---------------------------------------------------------------- a restart of the destination (document 02, b)
-- two queuing channels from partition 1 to partition 2, each with one message
unfoldable pub two_queues : List String
two_queues =
    "        10         2         2         2         0         0" ∷
    "         0         5         1         1         0         0" ∷
    "         5         5         2         1         0         0" ∷
    "         1         2         5         1         1         0" ∷
    "         1         2         5         1         1         0" ∷ []

-- both are full; process 1 waits to send on the second, then process 2 on the first; at t = 5 partition 2 restarts
unfoldable pub restarted_reader : List String
restarted_reader =
    "         1         2         1        10        -1        -1" ∷
    "         1         2         2        10        -1        -1" ∷
    "         1         3         1         0         0         0" ∷
    "         1         3         2         0         0         0" ∷
    "         1         1         3         0         0         0" ∷
    "         1        30         1         5         0         0" ∷
    "         1        30         2         6         0         0" ∷
    "         1        30         2         7        -1         0" ∷
    "         1        30         1         8        -1         0" ∷
    "         0         0         0         0         0         0" ∷
    "         0         0         0         0         0         0" ∷
    "         0         0         0         0         0         0" ∷
    "         0         0         0         0         0         0" ∷
    "         0         0         0         0         0         0" ∷
    "         2         1         1         0         0         0" ∷
    "         0         0         0         0         0         0" ∷
    "         0         0         0         0         0         0" ∷
    "         0         0         0         0         0         0" ∷
    "         0         0         0         0         0         0" ∷
    "         0         0         0         0         0         0" ∷ []

-- channels by ascending number: process 2 is let in first, and runs at t = 10
unfoldable pub let_in_by_number : List String
let_in_by_number =
    "         0         1         0         0         1         0" ∷
    "         0         2         0         0         1         0" ∷
    "         0         0         0         0         1         0" ∷
    "         0         0         0         0         1         0" ∷
    "         0         0         0         0         1         1" ∷
    "         0         0         0         0         1         1" ∷
    "         0         0         0         0         1         1" ∷
    "         7         0         0         0         1         2" ∷
    "         7         0         0         0         1         0" ∷
    "         0         0         0         1         1         0" ∷
    "         0         0         0         2         1         0" ∷
    "         0         0         0         3         1         0" ∷
    "         0         0         0         4         1         0" ∷
    "         0         0         0         5         2         0" ∷
    "         0         0         0         5         2         0" ∷
    "         0         0         0         6         2         0" ∷
    "         0         0         0         7         2         0" ∷
    "         0         0         0         8         2         0" ∷
    "         0         0         0         9         2         0" ∷
    "         0         0         0        10         1         2" ∷ []

-- ---------------------------------------------------------------- a line that is no event
unfoldable pub no_event : List String
no_event = "no event" ∷ []

-- after a tick: 11, 0, 0, t, current, 0
unfoldable pub no_event_answers : List String
no_event_answers =
    "         0         0         0         1         1         0" ∷
    "        11         0         0         1         1         0" ∷ []
