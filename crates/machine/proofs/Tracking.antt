-- Laws of what a list tracks; a list of process ids that lacks one has room. Assumes nothing.
use Prim.Native.Nat.{ℕ, zero, suc, ◌≤◌, ◌<◌}
use mathlib.Core.Path.{◌≡◌, refl, ap, sym, ◌∙◌}
use mathlib.Core.Bool.{Bool, true, false, not, ◌&&◌, ◌||◌, or-false, or-true, and-true, and-false}
use mathlib.Core.List.{List, [], ◌∷◌, ◌++◌}
use mathlib.Core.Logic.{⊎_elim}
use native.Mathlib.Omega.{arith}
use lib.ListN.{length, length-append, length-replicate}
use lib.Dec.{eqb}
use borrow.Author.Tests.{eq-eqb, ne_eqb, eqb-true, eqb-false}
use Rattle.machine.specs.declared.Ids.{Ids}
use Rattle.machine.specs.Limits.{process_limit}
use Rattle.machine.specs.Ids.{members, ids_of, kept_if, kept, other, appended, removed, follow}
use Rattle.machine.specs.Theorems.Valid.{contains, Distinct, Tracks}
use Rattle.machine.proofs.Lists.{members_ids_of, appended_ids_of}
use Rattle.machine.proofs.Tests.{not_both}
use Rattle.machine.proofs.Bounds.{same_or_not, or_false_parts}
use Rattle.machine.proofs.Either.{either}

contains_snoc : (x : ℕ) (l : List ℕ) (id : ℕ) → contains x (l ++ (id ∷ [])) ≡ (contains x l || eqb id x)
unfolding contains
contains_snoc x [] id = or-false (eqb id x)
contains_snoc x (y ∷ l) id = rw (contains_snoc x l id) (go (eqb y x) (contains x l) (eqb id x))
  where
    go : (a b d : Bool) → (a || (b || d)) ≡ ((a || b) || d)
    go true b d = refl
    go false b d = refl

distinct_snoc : (l : List ℕ) (id : ℕ) → Distinct l → contains id l ≡ false → Distinct (l ++ (id ∷ []))
unfolding Distinct contains
distinct_snoc [] id d h = (refl, tt)
distinct_snoc (y ∷ l) id d h =
    let r = or_false_parts (eqb y id) (contains id l) h in
    (rw (contains_snoc y l id, d.0, ne_eqb id y (λ e. eqb-false y id r.0 (sym e))), distinct_snoc l id d.1 r.1)

pub contains_kept : (f : ℕ → Bool) (x : ℕ) (l : List ℕ) → contains x (kept f l) ≡ (f x && contains x l)
unfolding contains kept
contains_kept f x [] = sym (and-false (f x))
contains_kept f x (y ∷ l) = go (f y) refl (eqb y x) refl (contains_kept f x l)
  where
    go : (b : Bool) → f y ≡ b → (s : Bool) → eqb y x ≡ s → contains x (kept f l) ≡ (f x && contains x l) → contains x (kept_if b y (kept f l)) ≡ (f x && (s || contains x l))
    go true e true s h = let k : f x ≡ true = ap f (sym (eqb-true y x s)) ∙ e in rw (s, k)
    go true e false s h = rw s h
    go false e true s h = let k : f x ≡ false = ap f (sym (eqb-true y x s)) ∙ e in h ∙ rw k
    go false e false s h = h

pub distinct_kept : (f : ℕ → Bool) (l : List ℕ) → Distinct l → Distinct (kept f l)
unfolding Distinct kept
distinct_kept f [] d = tt
distinct_kept f (y ∷ l) d = go (f y) (distinct_kept f l d.1)
  where
    go : (b : Bool) → Distinct (kept f l) → Distinct (kept_if b y (kept f l))
    go true h = (contains_kept f y l ∙ rw d.0 (and-false (f y)), h)
    go false h = h

-- two tests that agree on a list keep the same of it
pub kept_same : (f g : ℕ → Bool) (l : List ℕ) → ((x : ℕ) → contains x l ≡ true → f x ≡ g x) → kept f l ≡ kept g l
unfolding kept contains
kept_same f g [] h = refl
kept_same f g (x ∷ l) h = rw (h x (rw (eq-eqb x x refl)), kept_same f g l (λ y c. h y (rw c (or-true (eqb x y)))))

pub kept_kept : (f g : ℕ → Bool) (l : List ℕ) → kept f (kept g l) ≡ kept (λ x. f x && g x) l
unfolding kept
kept_kept f g [] = refl
kept_kept f g (x ∷ l) = either (g x)
    (λ e. rw (e, kept, kept_kept f g l, and-true (f x)))
    (λ e. rw (e, and-false (f x)) (kept_kept f g l))

pub kept_all : (f : ℕ → Bool) (l : List ℕ) → ((x : ℕ) → contains x l ≡ true → f x ≡ true) → kept f l ≡ l
unfolding kept contains
kept_all f [] h = refl
kept_all f (x ∷ l) h = rw (h x (rw (eq-eqb x x refl)), kept_all f l (λ y c. h y (rw c (or-true (eqb x y)))))

pub kept_no : (f : ℕ → Bool) (l : List ℕ) → ((x : ℕ) → contains x l ≡ true → f x ≡ false) → kept f l ≡ []
unfolding kept contains
kept_no f [] h = refl
kept_no f (x ∷ l) h = rw (h x (rw (eq-eqb x x refl))) (kept_no f l (λ y c. h y (rw c (or-true (eqb x y)))))

-- a list without an id that it lacks
pub kept_whole : (id : ℕ) (l : List ℕ) → contains id l ≡ false → kept (other id) l ≡ l
kept_whole id l h = kept_all (other id) l (λ y c. rw (ne_eqb y id (λ e. not_both _ (rw e at c) h)))

length_kept_one : (id : ℕ) (l : List ℕ) → Distinct l → length l ≤ suc (length (kept (other id) l))
unfolding Distinct kept
length_kept_one id [] d = omega arith
length_kept_one id (y ∷ l) d = go (eqb y id) refl (length_kept_one id l d.1)
  where
    go : (b : Bool) → eqb y id ≡ b → length l ≤ suc (length (kept (other id) l)) → suc (length l) ≤ suc (length (kept_if (not b) y (kept (other id) l)))
    go true e h =
        let w : kept (other id) l ≡ l = kept_whole id l (rw (← eqb-true y id e) d.0) in
        rw w (omega arith)
    go false e h = omega arith

-- ids of 1 to n, each once, are at most n
pub pigeonhole : (n : ℕ) (l : List ℕ) → Distinct l → ((x : ℕ) → contains x l ≡ true → (1 ≤ x) × (x ≤ n)) → length l ≤ n
unfolding contains
pigeonhole zero [] d h = omega arith
pigeonhole zero (y ∷ l) d h = let r = h y (rw (eq-eqb y y refl)) in omega arith
pigeonhole (suc n) l d h =
    let r : length (kept (other (suc n)) l) ≤ n = pigeonhole n (kept (other (suc n)) l) (distinct_kept (other (suc n)) l d) (λ x c. lower x (eqb x (suc n)) refl (sym (contains_kept (other (suc n)) x l) ∙ c)) in
    omega (arith, length_kept_one (suc n) l d)
  where
    lower : (x : ℕ) (b : Bool) → eqb x (suc n) ≡ b → (not b && contains x l) ≡ true → (1 ≤ x) × (x ≤ n)
    lower x true e c = not_both _ c refl
    lower x false e c = let k = h x c in let ne = eqb-false x (suc n) e in (k.0, omega arith)

-- f is a property of the ids 1 to process_limit
abbrev pub Ranged : (ℕ → Bool) → Type 0
Ranged f = (x : ℕ) → f x ≡ true → (1 ≤ x) × (x ≤ process_limit)

-- the list of these ids
tracks_list : (f : ℕ → Bool) (l : List ℕ) → Distinct l → ((x : ℕ) → contains x l ≡ f x) → Tracks f (ids_of l)
tracks_list f l d e = record { canonical = ap ids_of (sym (members_ids_of l)); distinct = rw (members_ids_of l) d; exact = λ x. rw (members_ids_of l) (e x) }

module _ (f : ℕ → Bool) (q : Ids) (tr : Tracks f q) where
  pub tracks_room : Ranged f → (id : ℕ) → 1 ≤ id → id ≤ process_limit → f id ≡ false → length (members q) < process_limit
  unfolding contains Distinct
  tracks_room r id lo hi none =
      let p : length (id ∷ members q) ≤ process_limit = pigeonhole process_limit (id ∷ members q) (tr.exact id ∙ none, tr.distinct) (λ x. ranged x (eqb id x) refl) in
      omega arith
    where
      ranged : (x : ℕ) (b : Bool) → eqb id x ≡ b → (b || contains x (members q)) ≡ true → (1 ≤ x) × (x ≤ process_limit)
      ranged x true e c = let s = eqb-true id x e in (omega arith, omega arith)
      ranged x false e c = r x (sym (tr.exact x) ∙ c)

  -- it holds at most the ids that there are, and its array has a place for each of these
  pub tracks_few : Ranged f → length (members q) ≤ process_limit
  tracks_few r = pigeonhole process_limit (members q) tr.distinct (λ x c. r x (sym (tr.exact x) ∙ c))

  pub tracks_size : Ranged f → length q.items ≡ process_limit
  tracks_size r = ap (λ (y : Ids). length y.items) tr.canonical ∙ simp (length-append, length-replicate) (omega (arith, tracks_few r))

  -- the plain meaning of an append
  pub appended_plain : (id : ℕ) → length (members q) < process_limit → appended id q ≡ ids_of (members q ++ (id ∷ []))
  appended_plain id room = ap (appended id) tr.canonical ∙ appended_ids_of (members q) id room

  module _ (g : ℕ → Bool) (id : ℕ) (others : (x : ℕ) → (x ≡ id → ⊥) → g x ≡ f x) where
    pub tracks_same : g id ≡ f id → Tracks g q
    tracks_same e = record {
      canonical = tr.canonical;
      distinct = tr.distinct;
      exact = λ x. ⊎_elim
          (λ (s : x ≡ id). rw s (tr.exact id ∙ sym e))
          (λ (ne : x ≡ id → ⊥). tr.exact x ∙ sym (others x ne))
          (same_or_not x id);
    }

    pub tracks_append : length (members q) < process_limit → f id ≡ false → g id ≡ true → Tracks g (appended id q)
    tracks_append room was now =
        rw (appended_plain id room) (tracks_list g (members q ++ (id ∷ [])) (distinct_snoc (members q) id tr.distinct (tr.exact id ∙ was)) (λ x. rw (contains_snoc, tr.exact x) (⊎_elim
        (λ (s : x ≡ id). rw (s, now, was, eq-eqb id id refl))
        (λ (ne : x ≡ id → ⊥). rw (ne_eqb id x (λ s. ne (sym s)), others x ne) (or-false (f x)))
        (same_or_not x id))))

    pub tracks_remove : g id ≡ false → Tracks g (removed id q)
    unfolding removed
    tracks_remove now =
        tracks_list g (kept (other id) (members q)) (distinct_kept (other id) (members q) tr.distinct) (λ x. rw (contains_kept, tr.exact x) (⊎_elim
        (λ (s : x ≡ id). rw (s, now, eq-eqb id id refl))
        (λ (ne : x ≡ id → ⊥). rw (ne_eqb x id ne, others x ne))
        (same_or_not x id)))

    pub tracks_follow : Ranged f → 1 ≤ id → id ≤ process_limit → (a b : Bool) → f id ≡ a → g id ≡ b → Tracks g (follow a b id q)
    tracks_follow r lo hi true true was now = tracks_same (now ∙ sym was)
    tracks_follow r lo hi true false was now = tracks_remove now
    tracks_follow r lo hi false true was now = tracks_append (tracks_room r id lo hi was) was now
    tracks_follow r lo hi false false was now = tracks_same (now ∙ sym was)
