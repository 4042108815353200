-- Tables: accepting one line by line, from rows of numbers and from bytes.
use Rattle.std.specs.Prelude.{ℕ, zero, suc, ◌+◌, Bool, true, false, cond, not, ◌&&◌, ◌||◌, List, [], ◌∷◌, map, set, replicate, leb, ltb, eqb}
use Rattle.machine.specs.declared.Window.{Window}
use Rattle.machine.specs.declared.Channel.{Channel}
use Rattle.machine.specs.declared.Table.{Table}
use Rattle.machine.specs.declared.Draft.{Draft}
use Rattle.machine.specs.declared.Reading.{Reading}
use Rattle.machine.specs.declared.Row.{Row}
use Rattle.machine.specs.declared.Line.{Line}
use Rattle.machine.specs.declared.Line.TheVariants.{Six, Bad}
use Rattle.machine.specs.Limits.{frame_limit, partition_limit, window_limit, channel_limit, size_limit, duration_limit}
use Rattle.machine.specs.Fields.{row_of, is_number, between, number_of}
use Rattle.machine.specs.Windows.{no_window, windows, flagged_for}
use Rattle.machine.specs.Module.{no_channel, fresh_module, empty_module}
use Rattle.machine.specs.Line.{read_line, lines, line_refusal}

-- a 0 at the end of a line
abbrev pub last_two_zero : Row → Bool
last_two_zero r = is_number 0 r.f5 && is_number 0 r.f6

-- Line 1: M 1..10,000, P 1..8, windows 1..32, channels 0..16, 0, 0.
abbrev pub head_good : Row → Bool
head_good r =
    between 1 frame_limit r.f1
    && (between 1 partition_limit r.f2
    && (between 1 window_limit r.f3
    && (between 0 channel_limit r.f4
    && last_two_zero r)))

abbrev pub head_draft : Row → Draft
head_draft r = record {
  table = record {
    frame = number_of r.f1;
    size = number_of r.f2;
    windows = replicate window_limit no_window;
    window_count = 0;
    channels = replicate channel_limit no_channel;
    channel_count = 0;
  };
  previous = 0;
  windows = number_of r.f3;
  channels = number_of r.f4;
}

-- Window: start ≥ previous end (first ≥ 0), duration ≥ 1, start + duration ≤ M, partition 1..P, flag 0 or 1, 0, 0.
abbrev pub window_good : Draft → Row → Bool
window_good d r =
    between d.previous d.table.frame r.f1
    && (between 1 d.table.frame r.f2
    && (leb (number_of r.f1 + number_of r.f2) d.table.frame
    && (between 1 d.table.size r.f3
    && (between 0 1 r.f4
    && last_two_zero r))))

abbrev pub window_of : Row → Window
window_of r = record { start = number_of r.f1; duration = number_of r.f2; partition = number_of r.f3; flag = is_number 1 r.f4 }

abbrev pub with_window : Draft → Row → Draft
with_window d r = record {
  table = record {
    frame = d.table.frame;
    size = d.table.size;
    windows = set d.table.windows d.table.window_count (window_of r);
    window_count = d.table.window_count + 1;
    channels = d.table.channels;
    channel_count = d.table.channel_count;
  };
  previous = number_of r.f1 + number_of r.f2;
  windows = d.windows;
  channels = d.channels;
}

-- Channel: source, other destination (both 1..P), refresh 1..9,999,999, then a kind in its fourth field: 0 sampling, 1 queuing with 1..8 messages
-- in the fifth (0 for sampling), 0.
abbrev pub channel_good : Draft → Row → Bool
channel_good d r =
    between 1 d.table.size r.f1
    && (between 1 d.table.size r.f2
    && (not (eqb (number_of r.f1) (number_of r.f2))
    && (between 1 duration_limit r.f3
    && (cond (is_number 1 r.f4) (between 1 size_limit r.f5) (is_number 0 r.f4 && is_number 0 r.f5)
    && is_number 0 r.f6))))

abbrev pub channel_of : Row → Channel
channel_of r = record { source = number_of r.f1; destination = number_of r.f2; refresh = number_of r.f3; size = number_of r.f5 }

abbrev pub with_channel : Draft → Row → Draft
with_channel d r = record {
  table = record {
    frame = d.table.frame;
    size = d.table.size;
    windows = d.table.windows;
    window_count = d.table.window_count;
    channels = set d.table.channels d.table.channel_count (channel_of r);
    channel_count = d.table.channel_count + 1;
  };
  previous = d.previous;
  windows = d.windows;
  channels = d.channels;
}

-- windows come first
abbrev pub window_next : Draft → Bool
window_next d = ltb d.table.window_count d.windows

abbrev pub row_good : Draft → Row → Bool
row_good d r = cond (window_next d) (window_good d r) (channel_good d r)

abbrev pub with_row : Draft → Row → Draft
with_row d r = cond (window_next d) (with_window d r) (with_channel d r)

-- last, every partition has a window with flag 1: n partitions from k on
unfoldable pub has_flagged : ℕ → List Window → Bool
has_flagged k [] = false
has_flagged k (w ∷ ws) = flagged_for k w || has_flagged k ws

unfoldable pub flagged_from : ℕ → ℕ → List Window → Bool
flagged_from zero k ws = true
flagged_from (suc n) k ws = has_flagged k ws && flagged_from n (k + 1) ws

-- 11 or 12: no module; value is the line number, 0 for the final check
abbrev pub refused_table : ℕ → ℕ → Reading
refused_table code value = record { state = empty_module; code = code; value = value; lines = 0 }

abbrev pub accepted_table : Table → ℕ → Reading
accepted_table T n = record { state = fresh_module T; code = 0; value = 0; lines = n }

abbrev pub checked_table : Table → ℕ → Reading
checked_table T n = cond (flagged_from T.size 1 (windows T)) (accepted_table T n) (refused_table 12 0)

-- Line by line, 11 before 12: n lines are left after this many; a missing table line is 11.
unfoldable pub table_from : ℕ → ℕ → Draft → List Line → Reading
table_from zero line d ls = checked_table d.table line
table_from (suc n) line d [] = refused_table line_refusal (line + 1)
table_from (suc n) line d (Bad ∷ ls) = refused_table line_refusal (line + 1)
table_from (suc n) line d (Six x ∷ ls) = cond (row_good d (row_of x)) (table_from n (line + 1) (with_row d (row_of x)) ls) (refused_table 12 (line + 1))

-- what line 1 settles: how many lines follow
abbrev pub table_head : Row → List Line → Reading
table_head r ls = let d = head_draft r in cond (head_good r) (table_from (d.windows + d.channels) 1 d ls) (refused_table 12 1)

unfoldable pub table_of : List Line → Reading
table_of [] = refused_table line_refusal 1
table_of (Bad ∷ ls) = refused_table line_refusal 1
table_of (Six x ∷ ls) = table_head (row_of x) ls

-- reading a table from bytes
abbrev pub read_table : List ℕ → Reading
read_table input = table_of (map read_line (lines input))
