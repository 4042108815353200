-- What each line of a table admits. Assumes nothing.
use Prim.Native.Nat.{ℕ, ◌+◌, ◌≤◌, ◌<◌, zero, suc}
use mathlib.Core.Path.{◌≡◌, refl}
use mathlib.Core.Bool.{Bool, true, false, cond, not, ◌&&◌, and-false, or-true}
use native.Mathlib.Omega.{arith}
use lib.ListN.{get_or-replicate, get_or, length}
use lib.IntN.{ℤ, pos, negsuc}
use lib.Dec.{leb, eqb}
use borrow.Author.Tests.{eqb-true, eq-eqb}
use Rattle.machine.specs.declared.Numbers.{Numbers}
use Rattle.machine.specs.declared.Draft.{Draft}
use Rattle.machine.specs.Limits.{frame_limit, partition_limit, window_limit, channel_limit, duration_limit, size_limit}
use Rattle.machine.specs.Fields.{field, row_of, number_of}
use Rattle.machine.specs.Table.{head_good, head_draft, window_good, with_window, channel_good, with_channel, window_next, table_from, table_of, flagged_from, has_flagged}
use Rattle.machine.specs.Messages.{no_queue}
use Rattle.machine.specs.Decisions.{no_message}
use Rattle.machine.specs.Partition.{fresh_partition}
use Rattle.machine.specs.Module.{fresh_module, no_partition}
use Rattle.machine.specs.Theorems.Plain.{plain_between, plain_number}
use Rattle.machine.specs.Theorems.EachCall.{id_of}
use Rattle.machine.specs.Theorems.TableLines.{first_line, first_draft, window_line, window_draft, channel_line, channel_draft, TableLines, FlaggedIn}
use Rattle.machine.proofs.Tests.{and_left, and_right, not_both}
use Rattle.machine.proofs.Bounds.{get_d_replicate_any}
use Rattle.machine.proofs.Either.{either}
use Rattle.machine.proofs.EachCall.{number_in}
use Rattle.machine.proofs.Plain.{lossless}
use mathlib.Core.List.{List, [], ◌∷◌}
use Rattle.machine.specs.declared.Window.{Window}
use Rattle.machine.proofs.Tables.{flagged_each}
use Rattle.machine.specs.Windows.{flagged_for, no_window}

first_is : (x : Numbers) → head_good (row_of x) ≡ first_line x
first_is x = rw ((lossless x.n1).between 1 frame_limit (omega arith), (lossless x.n2).between 1 partition_limit (omega arith), (lossless x.n3).between 1 window_limit (omega arith), (lossless x.n4).between 0 channel_limit (omega arith), (lossless x.n5).is_number 0 (omega arith), (lossless x.n6).is_number 0 (omega arith))

first_kept : {A : Type 0} (x : Numbers) (f : Draft → A) (y : A) → cond (first_line x) (f (head_draft (row_of x))) y ≡ cond (first_line x) (f (first_draft x)) y
first_kept x f y = either (first_line x)
    (λ ok.
    let b = and_right (plain_between 1 10000 x.n1) _ ok in
    let c = and_right (plain_between 1 8 x.n2) _ b in
    let e = and_right (plain_between 1 32 x.n3) _ c in
    rw (number_in 1 10000 x.n1 (omega arith) (and_left (plain_between 1 10000 x.n1) _ ok), number_in 1 8 x.n2 (omega arith) (and_left (plain_between 1 8 x.n2) _ b), number_in 1 32 x.n3 (omega arith) (and_left (plain_between 1 32 x.n3) _ c), number_in 0 16 x.n4 (omega arith) (and_left (plain_between 0 16 x.n4) _ e)))
    (λ no. rw no)

-- 1..8 for kind 1, 0 for kind 0
size_in : (z : ℤ) (one none : Bool) → cond one (plain_between 1 8 z) (none && plain_number 0 z) ≡ true → number_of (field z) ≡ id_of z
size_in z true none h = number_in 1 8 z (omega arith) h
size_in (pos n) false none h = rw (eqb-true n 0 (and_right none (eqb n 0) h))
size_in (negsuc n) false none h = not_both _ (and_right none false h) refl

module _ (d : Draft) (x : Numbers) (low : d.table.frame ≤ 10000) (few : d.table.size ≤ 8) where
  abbrev M : ℕ
  M = d.table.frame

  abbrev P : ℕ
  P = d.table.size

  window_is : window_good d (row_of x) ≡ window_line M P d.previous x
  window_is =
      rw ((lossless x.n1).between d.previous M (omega arith), (lossless x.n2).between 1 M (omega arith), (lossless x.n3).between 1 P (omega arith), (lossless x.n4).between 0 1 (omega arith), (lossless x.n5).is_number 0 (omega arith), (lossless x.n6).is_number 0 (omega arith))
      (either (plain_between d.previous M x.n1)
      (λ a. either (plain_between 1 M x.n2)
      (λ b. rw (a, b, number_in d.previous M x.n1 (omega arith) a, number_in 1 M x.n2 (omega arith) b))
      (λ b. rw (a, b)))
      (λ a. rw a))

  channel_is : channel_good d (row_of x) ≡ channel_line P x
  channel_is =
      rw ((lossless x.n1).between 1 P (omega arith), (lossless x.n2).between 1 P (omega arith), (lossless x.n3).between 1 duration_limit (omega arith), (lossless x.n4).is_number 1 (omega arith), (lossless x.n4).is_number 0 (omega arith), (lossless x.n5).between 1 size_limit (omega arith), (lossless x.n5).is_number 0 (omega arith), (lossless x.n6).is_number 0 (omega arith))
      (either (plain_between 1 P x.n1)
      (λ a. either (plain_between 1 P x.n2)
      (λ b. rw (a, b, number_in 1 P x.n1 (omega arith) a, number_in 1 P x.n2 (omega arith) b))
      (λ b. rw (a, b)))
      (λ a. rw a))

  -- what an admitted line settles
  window_kept : {A : Type 0} (f : Draft → A) (y : A) → cond (window_line M P d.previous x) (f (with_window d (row_of x))) y ≡ cond (window_line M P d.previous x) (f (window_draft d x)) y
  window_kept f y = either (plain_between d.previous M x.n1)
      (λ a. either (plain_between 1 M x.n2)
      (λ b. either (plain_between 1 P x.n3)
      (λ c. rw (number_in d.previous M x.n1 (omega arith) a, number_in 1 M x.n2 (omega arith) b, number_in 1 P x.n3 (omega arith) c, (lossless x.n4).is_number 1 (omega arith)))
      (λ c. rw (a, b, c, and-false (leb (id_of x.n1 + id_of x.n2) M))))
      (λ b. rw (a, b)))
      (λ a. rw a)

  channel_kept : {A : Type 0} (f : Draft → A) (y : A) → cond (channel_line P x) (f (with_channel d (row_of x))) y ≡ cond (channel_line P x) (f (channel_draft d x)) y
  channel_kept f y = either (channel_line P x)
      (λ ok.
      let b = and_right (plain_between 1 P x.n1) _ ok in
      let c = and_right (plain_between 1 P x.n2) _ b in
      let e = and_right (not (eqb (id_of x.n1) (id_of x.n2))) _ c in
      let g = and_right (plain_between 1 9999999 x.n3) _ e in
      rw (number_in 1 P x.n1 (omega arith) (and_left (plain_between 1 P x.n1) _ ok), number_in 1 P x.n2 (omega arith) (and_left (plain_between 1 P x.n2) _ b), number_in 1 9999999 x.n3 (omega arith) (and_left (plain_between 1 9999999 x.n3) _ e), size_in x.n5 (plain_number 1 x.n4) (plain_number 0 x.n4) (and_left (cond (plain_number 1 x.n4) (plain_between 1 8 x.n5) (plain_number 0 x.n4 && plain_number 0 x.n5)) _ g)))
      (λ no. rw no)

-- ---------------------------------------------------------------- the final check
has_flagged_holds : (k : ℕ) (ws : List Window) → has_flagged k ws ≡ true → FlaggedIn ws k
unfolding has_flagged
has_flagged_holds k [] h = not_both _ h refl
has_flagged_holds k (w ∷ ws) h = either (flagged_for k w)
    (λ e. record { at = 0; inside = omega arith; owner = eqb-true w.partition k (and_right w.flag _ e); flag_is = and_left w.flag _ e })
    (λ e. let g = has_flagged_holds k ws (rw e at h) in record { at = suc g.at; inside = omega (arith, g.inside); owner = g.owner; flag_is = g.flag_is })

flagged_has : (k : ℕ) (ws : List Window) (i : ℕ) → i < length ws → (get_or ws i no_window).partition ≡ k → (get_or ws i no_window).flag ≡ true → has_flagged k ws ≡ true
unfolding has_flagged
flagged_has k [] i h o f = absurd (omega arith)
flagged_has k (w ∷ ws) zero h o f = rw (f, eq-eqb w.partition k o)
flagged_has k (w ∷ ws) (suc i) h o f = rw (flagged_has k ws i (omega arith) o f) (or-true (flagged_for k w))

all_flagged : (n k : ℕ) (ws : List Window) → ((j : ℕ) → k ≤ j → j < k + n → FlaggedIn ws j) → flagged_from n k ws ≡ true
unfolding flagged_from
all_flagged zero k ws f = refl
all_flagged (suc n) k ws f =
    let g = f k (omega arith) (omega arith) in
    rw (flagged_has k ws g.at g.inside g.owner g.flag_is) (all_flagged n (k + 1) ws (λ j lo hi. f j (omega arith) (omega arith)))

-- Law. The lines of a table.
pub table_lines : TableLines
unfolding table_of table_from fresh_module fresh_partition
table_lines = record {
  none = refl;
  bad_first = λ ls. refl;
  first = λ x ls. rw (first_is x) (first_kept x (λ d. table_from (d.windows + d.channels) 1 d ls) _);
  missing = λ n line d. refl;
  bad = λ n line d ls. refl;
  next = λ n line d x ls low few. either (window_next d)
      (λ w. rw (w, window_is d x low few) (window_kept d x low few (λ y. table_from n (line + 1) y ls) _))
      (λ w. rw (w, channel_is d x low few) (channel_kept d x low few (λ y. table_from n (line + 1) y ls) _));
  last = λ line d ls. refl;
  flagged = λ P ws h k b. has_flagged_holds k ws (flagged_each P 1 ws h k b.0 (omega (arith, b.1)));
  flagged_if = λ P ws f. all_flagged P 1 ws (λ j lo hi. f j (lo, omega arith));
  fresh = λ T i h. (refl, refl, get_or-replicate 8 i fresh_partition no_partition h);
  empty = λ T i h. (rw (get_d_replicate_any 16 i no_message), rw (get_d_replicate_any 16 i no_queue));
}
