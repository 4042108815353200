-- A table line by line: as long as its next line is missing, what one more line settles. Assumes nothing.
use Prim.Native.Nat.{ℕ, zero, suc, ◌+◌, ◌≤◌, ◌<◌}
use mathlib.Core.Path.{◌≡◌, refl, sym, ap, ◌∙◌}
use mathlib.Core.Bool.{true}
use mathlib.Core.List.{List, [], ◌∷◌, ◌++◌}
use mathlib.Core.Logic.{◌⊎◌, inl, inr}
use native.Mathlib.Omega.{arith}
use lib.ListN.{length}
use Rattle.machine.specs.declared.Draft.{Draft}
use Rattle.machine.specs.declared.Reading.{Reading}
use Rattle.machine.specs.declared.Numbers.{Numbers}
use Rattle.machine.specs.declared.Line.{Line}
use Rattle.machine.specs.declared.Line.TheVariants.{Six, Bad}
use Rattle.machine.specs.Limits.{window_limit, channel_limit}
use Rattle.machine.specs.Fields.{row_of}
use Rattle.machine.specs.Line.{line_refusal, line_code}
use Rattle.machine.specs.Windows.{windows}
use Rattle.machine.specs.Table.{head_good, head_draft, row_good, with_row, flagged_from, refused_table, checked_table, table_from, table_of}
use Rattle.machine.proofs.Either.{either}
use Rattle.machine.proofs.Tests.{by_test}
use Rattle.machine.proofs.Tables.{head_draft_holds}

-- the lines so far are good, and the next one is missing
pub record Missing (j : ℕ) (r : Reading) : Type 0 where
  pub code : r.code ≡ line_refusal
  pub value : r.value ≡ j + 1

-- a reading that no further line changes; j lines were read before the last
pub record Settled (read : List Line → Reading) (j : ℕ) : Type 0 where
  pub same : (ls : List Line) → read ls ≡ read []
  pub took : (read []).code ≡ 0 → (read []).lines ≡ j + 1
  pub bad : (read []).code ≡ line_refusal → (read []).value ≡ j + 1

-- one more line is missing, after a line of six numbers
pub record GoesOn (read : List Line → Reading) (j : ℕ) (l : Line) : Type 0 where
  pub missing : Missing (j + 1) (read [])
  pub six : l ≡ Bad → ⊥

abbrev pub Next : (List Line → Reading) → ℕ → Line → Type 0
Next read j l = GoesOn read j l ⊎ Settled read j

-- of two readings that are the same
next_same : (f g : List Line → Reading) (j : ℕ) (l : Line) → ((ls : List Line) → f ls ≡ g ls) → Next g j l → Next f j l
next_same f g j l e (inl h) = inl (record { missing = rw (e []) h.missing; six = h.six })
next_same f g j l e (inr h) = inr (record { same = λ ls. e ls ∙ h.same ls ∙ sym (e []); took = rw (e []) h.took; bad = rw (e []) h.bad })

next_at : (f : List Line → Reading) (j k : ℕ) (l : Line) → j ≡ k → Next f j l → Next f k l
next_at f j k l e h = rw (← e) h

pub six_good : (x : Numbers) → Six x ≡ Bad → ⊥
six_good x e = let q : ◌≡◌ {A = ℕ} 0 line_refusal = ap line_code e in omega arith

-- what is refused whatever follows
refused_settled : (j code : ℕ) → (code ≡ 0 → ⊥) → Settled (λ (ls : List Line). refused_table code (j + 1)) j
refused_settled j code n = record { same = λ ls. refl; took = λ e. absurd (n e); bad = λ e. refl }

checked_code : (d : Draft) (line : ℕ) → (checked_table d.table line).code ≡ line_refusal → ⊥
checked_code d line = by_test (λ (r : Reading). r.code ≡ line_refusal → ⊥) (flagged_from d.table.size 1 (windows d.table)) (λ t e. omega arith) (λ t e. omega arith)

checked_took : (d : Draft) (line : ℕ) → (checked_table d.table line).code ≡ 0 → (checked_table d.table line).lines ≡ line
checked_took d line = by_test (λ (r : Reading). r.code ≡ 0 → r.lines ≡ line) (flagged_from d.table.size 1 (windows d.table)) (λ t e. refl) (λ t e. absurd (omega arith))

-- n + 1 lines are left
next_from : (n line : ℕ) (d : Draft) (l : Line) → Next (λ (ls : List Line). table_from (suc n) line d (l ∷ ls)) line l
unfolding table_from
next_from n line d Bad = inr (refused_settled line line_refusal (λ e. omega arith))
next_from n line d (Six x) = either (row_good d (row_of x)) (λ t. rw t (good n)) (λ t. rw t (inr (refused_settled line 12 (λ e. omega arith))))
  where
    good : (n : ℕ) → Next (λ (ls : List Line). table_from n (line + 1) (with_row d (row_of x)) ls) line (Six x)
    good zero = inr (record { same = λ ls. refl; took = checked_took (with_row d (row_of x)) (line + 1); bad = λ e. absurd (checked_code (with_row d (row_of x)) (line + 1) e) })
    good (suc k) = inl (record { missing = record { code = refl; value = refl }; six = six_good x })

-- the lines that are left after some
record Left (n line : ℕ) (d : Draft) (xs : List Line) : Type 0 where
  more : ℕ
  draft : Draft
  count : n ≡ length xs + suc more
  after : (ls : List Line) → table_from n line d (xs ++ ls) ≡ table_from (suc more) (line + length xs) draft ls

left_after : (xs : List Line) (n line : ℕ) (d : Draft) → Missing (line + length xs) (table_from n line d xs) → Left n line d xs
unfolding table_from
left_after [] zero line d h = absurd (checked_code d line h.code)
left_after [] (suc n) line d h = let e : line + 0 ≡ line = omega arith in record { more = n; draft = d; count = omega arith; after = λ ls. rw e }
left_after (x ∷ xs) zero line d h = absurd (checked_code d line h.code)
left_after (Bad ∷ xs) (suc n) line d h = absurd (omega (arith, h.value))
left_after (Six x ∷ xs) (suc n) line d h =
    either (row_good d (row_of x)) (λ t. good t (left_after xs n (line + 1) (with_row d (row_of x)) (record { code = rw t at h.code; value = (rw t at h.value) ∙ ap (λ (m : ℕ). m + 1) (sym sum) })))
    (λ t. absurd (let e = rw t at h.code in omega arith))
  where
    sum : line + 1 + length xs ≡ line + suc (length xs)
    sum = omega arith

    good : row_good d (row_of x) ≡ true → Left n (line + 1) (with_row d (row_of x)) xs → Left (suc n) line d (Six x ∷ xs)
    good t k = record { more = k.more; draft = k.draft; count = omega (arith, k.count); after = λ ls. rw t (k.after ls ∙ rw sum) }

-- a whole table: what one more line settles, what a bad one gives, and that no table is longer
pub record Reads (xs : List Line) : Type 0 where
  pub next : (l : Line) → Next (λ (ls : List Line). table_of (xs ++ l ∷ ls)) (length xs) l
  pub bad : (ls : List Line) → table_of (xs ++ Bad ∷ ls) ≡ refused_table line_refusal (length xs + 1)
  pub short : length xs ≤ window_limit + channel_limit

first_next : (l : Line) → Next (λ (ls : List Line). table_of (l ∷ ls)) 0 l
unfolding table_of table_from
first_next Bad = inr (refused_settled 0 line_refusal (λ e. omega arith))
first_next (Six x) = either (head_good (row_of x))
    (λ t. rw t (some ((head_draft (row_of x)).windows + (head_draft (row_of x)).channels) (let s = head_draft_holds (row_of x) t in omega (arith, s.announced.0))))
    (λ t. rw t (inr (refused_settled 0 12 (λ e. omega arith))))
  where
    some : (n : ℕ) → 0 < n → Next (λ (ls : List Line). table_from n 1 (head_draft (row_of x)) ls) 0 (Six x)
    some zero h = absurd (omega arith)
    some (suc n) h = inl (record { missing = record { code = refl; value = refl }; six = six_good x })

pub reads : (xs : List Line) → Missing (length xs) (table_of xs) → Reads xs
unfolding table_of table_from
reads [] h = record { next = first_next; bad = λ ls. refl; short = omega arith }
reads (Bad ∷ xs) h = absurd (omega (arith, h.value))
reads (Six x ∷ xs) h = either (head_good (row_of x)) good (λ t. absurd (let e = rw t at h.code in omega arith))
  where
    good : head_good (row_of x) ≡ true → Reads (Six x ∷ xs)
    good t =
        let d = head_draft (row_of x) in
        let s = head_draft_holds (row_of x) t in
        let j : 1 + length xs ≡ suc (length xs) = omega arith in
        let k = left_after xs (d.windows + d.channels) 1 d (record { code = rw t at h.code; value = (rw t at h.value) ∙ ap (λ (m : ℕ). m + 1) (sym j) }) in
        record {
          next = λ l. rw t (next_same _ (λ (ls : List Line). table_from (suc k.more) (1 + length xs) k.draft (l ∷ ls)) _ l (λ ls. k.after (l ∷ ls)) (next_at _ _ _ l j (next_from k.more (1 + length xs) k.draft l)));
          bad = λ ls. rw t (k.after (Bad ∷ ls) ∙ rw j);
          short = omega (arith, k.count, s.announced.1, s.announced_channels);
        }
