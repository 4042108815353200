-- The text of one number: its length, that reading gives the number back, and that columns that read as a number are its text.
-- Assumes nothing.
use Prim.Native.Nat.{ℕ, zero, suc, ◌+◌, ◌-◌, ◌*◌, ◌/◌, ◌%◌, ◌^◌, ◌≤◌, ◌<◌}
use mathlib.Core.Path.{◌≡◌, refl, sym, ◌∙◌, ap}
use mathlib.Core.Bool.{true, ◌&&◌, and-eq-true_iff}
use mathlib.Core.List.{List, [], ◌∷◌, ◌++◌}
use Rattle.std.specs.Prelude.{None, Some}
use native.Mathlib.Omega.{arith}
use native.Mathlib.Nat.{pow-succ'}
use native.Mathlib.Numerals.{add-one}
use lib.ListN.{length, get_or, length-append}
use lib.Dec.{eqb}
use lib.IntN.{ℤ, pos, negsuc}
use borrow.Author.Tests.{leb-true, eqb-true, eq-eqb}
use Rattle.machine.specs.Limits.{number_limit}
use Rattle.machine.specs.Line.{space, minus, zero_digit, base, field_width, in_range, column, mark_after, columns, number_text, field_text, same_bytes, spelled, candidate, read_field}
use Rattle.machine.proofs.Either.{either}

-- ---------------------------------------------------------------- bytes that are the same
pub same_refl : (l : List ℕ) → same_bytes l l ≡ true
unfolding same_bytes
same_refl [] = refl
same_refl (a ∷ l) = rw (eq-eqb a a refl) (same_refl l)

pub same_true : (l m : List ℕ) → same_bytes l m ≡ true → l ≡ m
unfolding same_bytes
same_true [] [] h = refl
same_true [] (b ∷ m) h = cc
same_true (a ∷ l) [] h = cc
same_true (a ∷ l) (b ∷ m) h =
    let t = (and-eq-true_iff (eqb a b) (same_bytes l m)).0 h in
    cc (eqb-true a b t.0, same_true l m t.1)

-- ---------------------------------------------------------------- columns
-- the columns by a number that code counts down
pub columns_more : (n rest mark : ℕ) → 0 < n → columns n rest mark ≡ columns (n - 1) (rest / base) (mark_after rest mark) ++ (column rest mark ∷ [])
unfolding columns
columns_more zero rest mark h = absurd (omega arith)
columns_more (suc n) rest mark h =
    let e : suc n - 1 ≡ n = omega arith in
    rw e

pub columns_none : (n rest mark : ℕ) → n ≤ 0 → columns n rest mark ≡ []
unfolding columns
columns_none zero rest mark h = refl
columns_none (suc n) rest mark h = absurd (omega arith)

pub columns_length : (n rest mark : ℕ) → length (columns n rest mark) ≡ n
unfolding columns
columns_length zero rest mark = refl
columns_length (suc n) rest mark =
    simp (length-append, columns_length n (rest / base) (mark_after rest mark)) (add-one n)

pub number_length : (magnitude mark : ℕ) → length (number_text magnitude mark) ≡ field_width
unfolding number_text
number_length magnitude mark = simp (length-append, columns_length (field_width - 1) (magnitude / base) mark)

pub field_length : (z : ℤ) → length (field_text z) ≡ field_width
unfolding field_text
field_length (pos n) = number_length n space
field_length (negsuc n) = number_length (suc n) _

-- ---------------------------------------------------------------- the number that a text spells
spelled_last : (l : List ℕ) (b v : ℕ) → spelled (l ++ (b ∷ [])) v ≡ spelled l v * base + (b - zero_digit)
unfolding spelled
spelled_last [] b v = refl
spelled_last (a ∷ l) b v = spelled_last l b (v * base + (a - zero_digit))

column_digit : (rest : ℕ) → column rest space - zero_digit ≡ rest % base
unfolding column
column_digit rest = either (eqb rest 0) (λ e. rw e (rw (eqb-true rest 0 e))) (λ e. rw e (omega arith))

pub mark_space : (rest : ℕ) → mark_after rest space ≡ space
unfolding mark_after
mark_space rest = either (eqb rest 0) (λ e. rw e) (λ e. rw e)

spelled_columns : (n rest : ℕ) → rest < base ^ n → spelled (columns n rest space) 0 ≡ rest
unfolding columns spelled
spelled_columns zero rest h = omega arith
spelled_columns (suc n) rest h =
    let p : base ^ suc n ≡ base * base ^ n = pow-succ' base n in
    let h' : rest / base < base ^ n = omega arith in
    rw (mark_space, spelled_last, spelled_columns n (rest / base) h', column_digit) (omega arith)

number_spelled : (n : ℕ) → n ≤ number_limit → spelled (number_text n space) 0 ≡ n
unfolding number_text
number_spelled n h =
    let b : n / base < base ^ (field_width - 1) = omega arith in
    rw (spelled_last, spelled_columns (field_width - 1) (n / base) b) (omega arith)

-- ---------------------------------------------------------------- reading a field
-- no number from 0 on has the text of −1
one_apart : number_text 1 space ≡ field_text (negsuc 0) → ⊥
unfolding number_text field_text columns column mark_after
one_apart e = let z : space ≡ minus = ap (λ (l : List ℕ). get_or l (field_width - 2) 0) e in omega arith

minus_spelled : spelled (field_text (negsuc 0)) 0 ≡ 1
unfolding number_text field_text columns column mark_after spelled
minus_spelled = refl

not_minus_one : (n : ℕ) → n ≤ number_limit → number_text n space ≡ field_text (negsuc 0) → ⊥
not_minus_one n h e =
    let one : n ≡ 1 = sym (number_spelled n h) ∙ ap (λ (l : List ℕ). spelled l 0) e ∙ minus_spelled in
    one_apart (rw one at e)

candidate_text : (z : ℤ) → in_range z ≡ true → candidate (field_text z) ≡ z
unfolding candidate field_text in_range
candidate_text (pos n) r =
    let h : n ≤ number_limit = leb-true n number_limit r in
    either (same_bytes (number_text n space) (field_text (negsuc 0)))
    (λ e. absurd (not_minus_one n h (same_true (number_text n space) (field_text (negsuc 0)) e)))
    (λ e. rw e (ap pos (number_spelled n h)))
candidate_text (negsuc n) r = rw (eqb-true n 0 r, same_refl (field_text (negsuc 0)))

-- the text of a number in range reads as the number
pub field_read : (z : ℤ) → in_range z ≡ true → read_field (field_text z) ≡ Some z
unfolding read_field
field_read z r = rw (candidate_text z r, r, same_refl (field_text z))

-- columns that read as a number are its text, and it is in range
pub read_field_holds : (bs : List ℕ) (z : ℤ) → read_field bs ≡ Some z → (bs ≡ field_text z) × (in_range z ≡ true)
unfolding read_field
read_field_holds bs z h =
    either (in_range (candidate bs) && same_bytes bs (field_text (candidate bs)))
    (λ t.
    let p = (and-eq-true_iff (in_range (candidate bs)) (same_bytes bs (field_text (candidate bs)))).0 t in
    let s : Some (candidate bs) ≡ Some z = rw t at h in
    let e : candidate bs ≡ z = cc in
    (rw (← e) (same_true bs (field_text (candidate bs)) p.1), rw (← e) p.0))
    (λ t. absurd (let s : None ≡ Some z = rw t at h in let q : ◌≡◌ {A = ℕ} 0 1 = cc in omega arith))
