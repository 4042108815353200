-- Laws of lists of ids and of queues of messages, as code goes through them: what a scan keeps, what is left from a place on.
use Prim.Native.Nat.{ℕ, suc, ◌+◌, ◌-◌, ◌≤◌, ◌<◌, min}
use mathlib.Core.Path.{◌≡◌, refl, ap, sym, ◌∙◌}
use mathlib.Core.Bool.{Bool, true, false, cond}
use mathlib.Core.List.{List, [], ◌∷◌, ◌++◌, append_assoc, append-nil}
use native.Mathlib.Omega.{arith}
use native.Mathlib.Numerals.{add-one}
use native.Mathlib.Nat.{min-eq_left, min-eq_right}
use lib.ListN.{length, get_or, set, take, drop, replicate, length-append, length-take, drop_of_length-le}
use lib.Seq.{set-append_seam, take-suc, drop-cons, take-append_seam, get_or-take, take-take}
use borrow.Author.Tests.{lt-ltb}
use Rattle.machine.specs.declared.Ids.{Ids}
use Rattle.machine.specs.declared.Queue.{Queue}
use Rattle.machine.specs.Limits.{process_limit, message_limit}
use Rattle.machine.specs.Messages.{held, queue_of, put}
use Rattle.machine.specs.Ids.{members, ids_of, kept_if, kept, appended}

pub length_members : (q : Ids) → length q.items ≡ process_limit → length (members q) ≡ min q.len process_limit
length_members q h = length-take q.len q.items ∙ ap (min q.len) h

pub count_low : (q : Ids) → length q.items ≡ process_limit → q.len < process_limit → q.len ≡ length (members q)
count_low q h s = sym (length_members q h ∙ min-eq_left (omega arith))

pub count_high : (q : Ids) → length q.items ≡ process_limit → process_limit ≤ q.len → process_limit ≡ length (members q)
count_high q h s = sym (length_members q h ∙ min-eq_right s)

length_at_most : (q : Ids) → length (members q) ≤ q.len
length_at_most q = omega (arith, length-take q.len q.items)

pub members_whole : (q : Ids) → take (length (members q)) q.items ≡ members q
members_whole q = sym (take-take (length (members q)) q.len q.items (length_at_most q)) ∙ whole (members q)
  where
    whole : (l : List ℕ) → take (length l) l ≡ l
    whole [] = refl
    whole (x ∷ l) = ap (λ (r : List ℕ). x ∷ r) (whole l)

-- at place i of a list: the id there, then what is left
pub next_member : (q : Ids) (i : ℕ) → i < length (members q) → drop i (members q) ≡ get_or q.items i 0 ∷ drop (i + 1) (members q)
next_member q i h =
    let s : i < q.len = omega (arith, length_at_most q) in
    rw (add-one, drop-cons (members q) i 0 h, get_or-take q.len q.items i 0 s)

pub no_member : (q : Ids) (i : ℕ) → length (members q) ≤ i → drop i (members q) ≡ []
no_member q i h = drop_of_length-le (members q) h

-- one more behind a list that is filled up with zeros
seam_set : (limit : ℕ) (l : List ℕ) (x : ℕ) → length l < limit → set (l ++ replicate (limit - length l) 0) (length l) x ≡ (l ++ (x ∷ [])) ++ replicate (limit - length (l ++ (x ∷ []))) 0
seam_set limit l x h =
    let e : limit - length l ≡ suc (limit - length (l ++ (x ∷ []))) = omega (arith, length-append l (x ∷ [])) in
    rw e (rw set-append_seam (sym (append_assoc l (x ∷ []) _)))

length_snoc : (l : List ℕ) (x : ℕ) → length l + 1 ≡ length (l ++ (x ∷ []))
length_snoc l x = omega (arith, length-append l (x ∷ []))

pub appended_ids_of : (l : List ℕ) (x : ℕ) → length l < process_limit → appended x (ids_of l) ≡ ids_of (l ++ (x ∷ []))
unfolding appended
appended_ids_of l x h =
    let s = seam_set process_limit l x h in
    let n = length_snoc l x in
    let r : ◌≡◌ {A = Ids} (record { items = set (l ++ replicate (process_limit - length l) 0) (length l) x; len = length l + 1 }) (ids_of (l ++ (x ∷ []))) = λ i. record { items = s i; len = n i } in
    rw (lt-ltb (length l) process_limit h) r

-- the same of a queue of messages
pub put_queue_of : (l : List ℕ) (x : ℕ) → length l < message_limit → put x (queue_of l) ≡ queue_of (l ++ (x ∷ []))
unfolding put
put_queue_of l x h =
    let s = seam_set message_limit l x h in
    let n = length_snoc l x in
    let r : ◌≡◌ {A = Queue} (record { items = set (l ++ replicate (message_limit - length l) 0) (length l) x; len = length l + 1 }) (queue_of (l ++ (x ∷ []))) = λ i. record { items = s i; len = n i } in
    rw (lt-ltb (length l) message_limit h) r

pub held_queue_of : (l : List ℕ) → held (queue_of l) ≡ l
held_queue_of l = take-append_seam l _

pub kept_snoc : (f : ℕ → Bool) (l : List ℕ) (x : ℕ) → kept f (l ++ (x ∷ [])) ≡ kept f l ++ kept_if (f x) x []
unfolding kept
kept_snoc f [] x = refl
kept_snoc f (y ∷ l) x = rw (kept_snoc f l x) (go (f y))
  where
    go : (b : Bool) → kept_if b y (kept f l ++ kept_if (f x) x []) ≡ kept_if b y (kept f l) ++ kept_if (f x) x []
    go true = refl
    go false = refl

pub length_kept : (f : ℕ → Bool) (l : List ℕ) → length (kept f l) ≤ length l
unfolding kept
length_kept f [] = omega arith
length_kept f (x ∷ l) = go (f x) (length_kept f l)
  where
    go : (b : Bool) → length (kept f l) ≤ length l → length (kept_if b x (kept f l)) ≤ suc (length l)
    go true h = omega arith
    go false h = omega arith

-- one more id is looked at: it is kept, or not
pub scan_next : (f : ℕ → Bool) (items : List ℕ) (i : ℕ) → i < length items → i < process_limit → (b : Bool) → b ≡ f (get_or items i 0) → cond b (appended (get_or items i 0) (ids_of (kept f (take i items)))) (ids_of (kept f (take i items))) ≡ ids_of (kept f (take (i + 1) items))
scan_next f items i inside small b e =
    let x = get_or items i 0 in
    let w = kept f (take i items) in
    let short : length w < process_limit = omega (arith, length_kept f (take i items), length-take i items) in
    let n : take (i + 1) items ≡ take i items ++ (x ∷ []) = rw (add-one, take-suc items i 0) in
    rw (n, kept_snoc, ← e) (go w x short b)
  where
    go : (w : List ℕ) (x : ℕ) → length w < process_limit → (b : Bool) → cond b (appended x (ids_of w)) (ids_of w) ≡ ids_of (w ++ kept_if b x [])
    go w x h true = appended_ids_of w x h
    go w x h false = rw append-nil

pub kept_none : (f : ℕ → Bool) → kept f [] ≡ []
unfolding kept
kept_none f = refl

-- a list made of at most process_limit ids has just these
pub members_ids_of : (l : List ℕ) → members (ids_of l) ≡ l
members_ids_of l = take-append_seam l _

pub scan_done : (f : ℕ → Bool) (q : Ids) (i : ℕ) → i ≡ length (members q) → ids_of (kept f (take i q.items)) ≡ ids_of (kept f (members q))
scan_done f q i e = ap (λ (l : List ℕ). ids_of (kept f l)) (rw (e, members_whole q))

-- the first id of a list that was made of ids, and whether there is one
pub none_of : (q : Ids) (l : List ℕ) → q ≡ ids_of l → q.len ≡ 0 → l ≡ []
none_of q [] e h = refl
none_of q (x ∷ l) e h = absurd (let z : q.len ≡ suc (length l) = ap (λ (r : Ids). r.len) e in omega arith)

pub first_of : (q : Ids) (l : List ℕ) → q ≡ ids_of l → (q.len ≡ 0 → ⊥) → l ≡ get_or q.items 0 0 ∷ drop 1 l
first_of q [] e h = absurd (h (ap (λ (r : Ids). r.len) e))
first_of q (x ∷ l) e h = rw e

pub members_of : (q : Ids) (l : List ℕ) → q ≡ ids_of l → members q ≡ l
members_of q l e = rw e (members_ids_of l)

pub cons_not : (x : ℕ) (l : List ℕ) → x ∷ l ≡ [] → ⊥
cons_not x l e = let z : suc (length l) ≡ 0 = ap length e in omega arith
