-- What reading a table gives, line by line, on the six numbers of each line.
use Rattle.std.specs.Prelude.{None}
use Rattle.std.specs.Prelude.{ℕ, suc, ◌+◌, ◌≤◌, ◌<◌, ◌≡◌, Bool, cond, not, ◌&&◌, true, List, [], ◌∷◌, set, replicate, get_or, length, leb, ltb, eqb}
use Rattle.machine.specs.declared.Numbers.{Numbers}
use Rattle.machine.specs.declared.Draft.{Draft}
use Rattle.machine.specs.declared.Reading.{Reading}
use Rattle.machine.specs.declared.Line.{Line}
use Rattle.machine.specs.declared.Line.TheVariants.{Six, Bad}
use Rattle.machine.specs.declared.Table.{Table}
use Rattle.machine.specs.declared.Window.{Window}
use Rattle.machine.specs.declared.Channel.{Channel}
use Rattle.machine.specs.Messages.{held}
use Rattle.machine.specs.Windows.{no_window, windows}
use Rattle.machine.specs.Module.{empty_module, fresh_module, no_channel, part, message, queue}
use Rattle.machine.specs.Table.{flagged_from, table_from, table_of}
use Rattle.machine.specs.Theorems.Plain.{plain_between, plain_number}
use Rattle.machine.specs.Theorems.EachCall.{id_of}
use Rattle.machine.specs.Theorems.Terms.{blank_partition}
use Rattle.machine.specs.Theorems.Valid.{Between}

-- Line 1: M 1..10,000, P 1..8, windows 1..32, channels 0..16, 0, 0.
abbrev pub first_line : Numbers → Bool
first_line x = plain_between 1 10000 x.n1 && (plain_between 1 8 x.n2 && (plain_between 1 32 x.n3 && (plain_between 0 16 x.n4 && (plain_number 0 x.n5 && plain_number 0 x.n6))))

-- Window: start ≥ previous end (first ≥ 0), duration ≥ 1, start + duration ≤ M, partition 1..P, flag 0 or 1, 0, 0.
abbrev pub window_line : ℕ → ℕ → ℕ → Numbers → Bool
window_line M P previous x =
    plain_between previous M x.n1 && (plain_between 1 M x.n2 && (leb (id_of x.n1 + id_of x.n2) M
    && (plain_between 1 P x.n3 && (plain_between 0 1 x.n4 && (plain_number 0 x.n5 && plain_number 0 x.n6)))))

-- Channel: source, other destination (both 1..P), refresh 1..9,999,999; kind 0 and 0, or kind 1 and 1..8 messages; 0.
abbrev pub channel_line : ℕ → Numbers → Bool
channel_line P x =
    plain_between 1 P x.n1 && (plain_between 1 P x.n2 && (not (eqb (id_of x.n1) (id_of x.n2)) && (plain_between 1 9999999 x.n3
    && (cond (plain_number 1 x.n4) (plain_between 1 8 x.n5) (plain_number 0 x.n4 && plain_number 0 x.n5) && plain_number 0 x.n6))))

-- no module: 11 or 12, and the line's number, 0 for the final check
abbrev pub no_table : ℕ → ℕ → Reading
no_table code line = record { state = empty_module; code = code; value = line; lines = 0 }

-- what line 1 settles, a window and a channel
abbrev pub first_draft : Numbers → Draft
first_draft x = record {
  table = record { frame = id_of x.n1; size = id_of x.n2; windows = replicate 32 no_window; window_count = 0; channels = replicate 16 no_channel; channel_count = 0 };
  previous = 0;
  windows = id_of x.n3;
  channels = id_of x.n4;
}

abbrev pub window_draft : Draft → Numbers → Draft
window_draft d x =
    let T = d.table in
    let w : Window = record { start = id_of x.n1; duration = id_of x.n2; partition = id_of x.n3; flag = plain_number 1 x.n4 } in
    record {
      table = record { frame = T.frame; size = T.size; windows = set T.windows T.window_count w; window_count = T.window_count + 1; channels = T.channels; channel_count = T.channel_count };
      previous = id_of x.n1 + id_of x.n2;
      windows = d.windows;
      channels = d.channels;
    }

abbrev pub channel_draft : Draft → Numbers → Draft
channel_draft d x =
    let T = d.table in
    let c : Channel = record { source = id_of x.n1; destination = id_of x.n2; refresh = id_of x.n3; size = id_of x.n5 } in
    record {
      table = record { frame = T.frame; size = T.size; windows = T.windows; window_count = T.window_count; channels = set T.channels T.channel_count c; channel_count = T.channel_count + 1 };
      previous = d.previous;
      windows = d.windows;
      channels = d.channels;
    }

-- one of these windows is partition k's and has flag 1
pub record FlaggedIn (ws : List Window) (k : ℕ) : Type 0 where
  pub at : ℕ
  pub inside : at < length ws
  pub owner : (get_or ws at no_window).partition ≡ k
  pub flag_is : (get_or ws at no_window).flag ≡ true

pub record TableLines : Type 0 where
  -- Line by line, 11 before 12; a missing table line is 11; n is how many lines are to come, `line` how many there were
  pub none : table_of [] ≡ no_table 11 1
  pub bad_first : (ls : List Line) → table_of (Bad ∷ ls) ≡ no_table 11 1
  pub first : (x : Numbers) (ls : List Line) → let d = first_draft x in
      table_of (Six x ∷ ls) ≡ cond (first_line x) (table_from (d.windows + d.channels) 1 d ls) (no_table 12 1)
  pub missing : (n line : ℕ) (d : Draft) → table_from (suc n) line d [] ≡ no_table 11 (line + 1)
  pub bad : (n line : ℕ) (d : Draft) (ls : List Line) → table_from (suc n) line d (Bad ∷ ls) ≡ no_table 11 (line + 1)
  -- windows first
  pub next : (n line : ℕ) (d : Draft) (x : Numbers) (ls : List Line) → let M = d.table.frame in
      let P = d.table.size in
      M ≤ 10000 → P ≤ 8
      → table_from (suc n) line d (Six x ∷ ls) ≡ cond (ltb d.table.window_count d.windows)
      (cond (window_line M P d.previous x) (table_from n (line + 1) (window_draft d x) ls) (no_table 12 (line + 1)))
      (cond (channel_line P x) (table_from n (line + 1) (channel_draft d x) ls) (no_table 12 (line + 1)))
  -- last, every partition has a window with flag 1
  pub last : (line : ℕ) (d : Draft) (ls : List Line) → let T = d.table in
      table_from 0 line d ls ≡ cond (flagged_from T.size 1 (windows T)) (record { state = fresh_module T; code = 0; value = 0; lines = line }) (no_table 12 0)
  pub flagged : (P : ℕ) (ws : List Window) → flagged_from P 1 ws ≡ true → (k : ℕ) → Between 1 P k → FlaggedIn ws k
  pub flagged_if : (P : ℕ) (ws : List Window) → ((k : ℕ) → Between 1 P k → FlaggedIn ws k) → flagged_from P 1 ws ≡ true
  -- the record then: t 0, every partition in mode 1 with nothing created, no message
  pub fresh : (T : Table) (i : ℕ) → i < 8 → ((fresh_module T).table ≡ T) × ((fresh_module T).t ≡ 0) × (part (fresh_module T) i ≡ blank_partition 1)
  pub empty : (T : Table) (i : ℕ) → i < 16 → (message (fresh_module T) i ≡ None) × (held (queue (fresh_module T) i) ≡ [])
