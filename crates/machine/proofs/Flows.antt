-- The account of messages that pass, from one event to the next: for each way in which an event can act on what is held and on who waits to send.
-- Nothing here knows buffers or channels. Assumes nothing.
use Prim.Native.Nat.{ℕ, zero, suc, ◌+◌, ◌-◌}
use mathlib.Core.Path.{◌≡◌, refl, ap, ap₂, sym, ◌∙◌}
use mathlib.Core.Bool.{Bool, true, false, cond, not, ◌&&◌, ◌||◌, and-true, and-false, or-true}
use mathlib.Core.List.{List, [], ◌∷◌, ◌++◌, map, append-nil, append_assoc}
use native.Mathlib.Omega.{arith}
use lib.ListN.{length, take, drop, length-append}
use lib.Dec.{eqb, ltb}
use borrow.Author.Tests.{eq-eqb, ne_eqb, lt-ltb}
use Rattle.machine.specs.declared.Event.{Event as EventT}
use Rattle.machine.specs.declared.Module.{Module}
use Rattle.machine.specs.Ids.{kept, kept_if}
use Rattle.machine.specs.Partition.{process, running}
use Rattle.machine.specs.Runs.{next, after}
use Rattle.machine.specs.Step.{step}
use Rattle.machine.specs.Theorems.Events.{own}
use Rattle.machine.specs.Theorems.Valid.{contains, Distinct}
use Rattle.machine.specs.Theorems.Account.{restarts_by, message_in, Flow, is_send, is_receive, waits_to_send, sending, keeps, waits_to_receive, receiving, place_in, dropped, gives_up, let_in_at, lost, lost_at, sent_at, all_sent, received_at, all_received, Balances}
use Rattle.machine.proofs.Tests.{not_both, and_left, and_right}
use Rattle.machine.proofs.Either.{either}
use Rattle.machine.proofs.Lists.{kept_snoc}
use Rattle.machine.proofs.Tracking.{contains_kept, kept_same, kept_kept, kept_all}

-- ---------------------------------------------------------------- lists
pub map_same : (f g : ℕ → ℕ) (l : List ℕ) → ((x : ℕ) → contains x l ≡ true → f x ≡ g x) → map f l ≡ map g l
unfolding contains
map_same f g [] h = refl
map_same f g (x ∷ l) h = ap₂ (λ (a : ℕ) (k : List ℕ). a ∷ k) (h x (rw (eq-eqb x x refl))) (map_same f g l (λ y c. h y (rw c (or-true (eqb x y)))))

map-append : (f : ℕ → ℕ) (l k : List ℕ) → map f (l ++ k) ≡ map f l ++ map f k
map-append f [] k = refl
map-append f (x ∷ l) k = ap (λ (r : List ℕ). f x ∷ r) (map-append f l k)

pub none_kept : (f : ℕ → Bool) (g : ℕ → ℕ) (l : List ℕ) → l ≡ [] → map g (kept f l) ≡ []
unfolding kept
none_kept f g l e = rw e

first_kept : (f : ℕ → Bool) (x : ℕ) (l : List ℕ) → kept f (x ∷ l) ≡ cond (f x) (x ∷ []) [] ++ kept f l
unfolding kept
first_kept f x l = go (f x) refl
  where
    go : (b : Bool) → f x ≡ b → kept_if (f x) x (kept f l) ≡ cond b (x ∷ []) [] ++ kept f l
    go true e = rw e
    go false e = rw e

pub kept_append : (f : ℕ → Bool) (l k : List ℕ) → kept f (l ++ k) ≡ kept f l ++ kept f k
unfolding kept
kept_append f [] k = refl
kept_append f (x ∷ l) k = first_kept f x (l ++ k) ∙ ap (λ (r : List ℕ). cond (f x) (x ∷ []) [] ++ r) (kept_append f l k) ∙ sym (append_assoc (cond (f x) (x ∷ []) []) (kept f l) (kept f k)) ∙ ap (λ (r : List ℕ). r ++ kept f k) (sym (first_kept f x l))

take_drop : (n : ℕ) (l : List ℕ) → l ≡ take n l ++ drop n l
take_drop zero l = refl
take_drop (suc n) [] = refl
take_drop (suc n) (x ∷ l) = ap (λ (r : List ℕ). x ∷ r) (take_drop n l)

-- the messages of a list, counted from n on, without those that a test drops by their place
abbrev left : (ℕ → Bool) → ℕ → List ℕ → List ℕ
left d n [] = []
left d n (x ∷ l) = cond (d n) [] (x ∷ []) ++ left d (suc n) l

left_same : (d e : ℕ → Bool) → ((n : ℕ) → d n ≡ e n) → (n : ℕ) (l : List ℕ) → left d n l ≡ left e n l
left_same d e h n [] = refl
left_same d e h n (x ∷ l) = ap₂ (λ (b : Bool) (r : List ℕ). cond b [] (x ∷ []) ++ r) (h n) (left_same d e h (suc n) l)

left_append : (d : ℕ → Bool) (n : ℕ) (l : List ℕ) (x : ℕ) → left d n (l ++ (x ∷ [])) ≡ left d n l ++ cond (d (n + length l)) [] (x ∷ [])
left_append d n [] x = let e : n + 0 ≡ n = omega arith in rw e (append-nil (cond (d n) [] (x ∷ [])))
left_append d n (y ∷ l) x =
    let e : suc n + length l ≡ n + suc (length l) = omega arith in
    ap (λ (r : List ℕ). cond (d n) [] (y ∷ []) ++ r) (left_append d (suc n) l x ∙ ap (λ i. left d (suc n) l ++ cond (d i) [] (x ∷ [])) e)
    ∙ sym (append_assoc (cond (d n) [] (y ∷ [])) (left d (suc n) l) (cond (d (n + suc (length l))) [] (x ∷ [])))

left_shift : (d : ℕ → Bool) (n : ℕ) (l : List ℕ) → left (λ i. d (i - 1)) (suc n) l ≡ left d n l
left_shift d n [] = refl
left_shift d n (x ∷ l) = let e : suc n - 1 ≡ n = omega arith in ap₂ (λ (i : ℕ) (r : List ℕ). cond (d i) [] (x ∷ []) ++ r) e (left_shift d (suc n) l)

left_all : (d : ℕ → Bool) → ((n : ℕ) → d n ≡ true) → (n : ℕ) (l : List ℕ) → left d n l ≡ []
left_all d h n [] = refl
left_all d h n (x ∷ l) = rw (h n) (left_all d h (suc n) l)

pub left_none : (d : ℕ → Bool) → ((n : ℕ) → d n ≡ false) → (n : ℕ) (l : List ℕ) → left d n l ≡ l
left_none d h n [] = refl
left_none d h n (x ∷ l) = rw (h n) (ap (λ (r : List ℕ). x ∷ r) (left_none d h (suc n) l))

-- a test by place is one by where an id stands, where each occurs once
by_place : (d : ℕ → Bool) (c : ℕ → ℕ) (p n : ℕ) (w : List ℕ) → Distinct w → map c (kept (λ id. not (d (p + place_in w id))) (take n w)) ≡ left d p (map c (take n w))
unfolding kept place_in Distinct contains
by_place d c p zero w h = refl
by_place d c p (suc n) [] h = refl
by_place d c p (suc n) (x ∷ w) h =
    let t : ℕ → Bool = λ id. not (d (p + place_in (x ∷ w) id)) in
    let zero_is : p + 0 ≡ p = omega arith in
    let one : place_in (x ∷ w) x ≡ 0 = rw (eq-eqb x x refl) in
    let first_is : map c (cond (t x) (x ∷ []) []) ≡ cond (d p) [] (c x ∷ []) = rw (one, zero_is) (single (d p)) in
    ap (map c) (first_kept t x (take n w))
    ∙ map-append c (cond (t x) (x ∷ []) []) (kept t (take n w))
    ∙ ap₂ (λ (a b : List ℕ). a ++ b) first_is
    (ap (map c) (kept_same t (λ id. not (d (suc p + place_in w id))) (take n w) (λ id g.
    let ne : eqb x id ≡ false = ne_eqb x id (λ e. not_both _ (rw (← e) at (take_in n w id g)) h.0) in
    let more : p + (place_in w id + 1) ≡ suc p + place_in w id = omega arith in
    rw (ne, more)))
    ∙ by_place d c (suc p) n w h.1)
  where
    single : (b : Bool) → map c (cond (not b) (x ∷ []) []) ≡ cond b [] (c x ∷ [])
    single true = refl
    single false = refl

    take_in : (n : ℕ) (l : List ℕ) (id : ℕ) → contains id (take n l) ≡ true → contains id l ≡ true
    take_in zero l id h = not_both _ h refl
    take_in (suc n) [] id h = h
    take_in (suc n) (x ∷ l) id h = either (eqb x id) (λ e. rw e) (λ e. rw e (take_in n l id (rw e at h)))

-- ---------------------------------------------------------------- one event
module _ (f : Flow) where
  -- what is held and kept at the beginning of a list and not lost in it
  abbrev pub held_left : Module → List EventT → List ℕ
  held_left m es = left (dropped f m es) 0 (f.holds m)

  abbrev pub kept_left : Module → List EventT → List ℕ
  kept_left m es = map (keeps f m) (kept (λ id. not (lost f m es id)) (sending f m))

  module _ (m : Module) (e : EventT) (es : List EventT) where
    -- the same of the list with the event before it, which gives this record, this code and this value
    abbrev dropped_by : Module → ℕ → ℕ → Bool
    dropped_by q code n =
        cond (restarts_by f.to e code) true
        (cond (is_receive f e && eqb code 0)
        (cond (eqb n 0) false (dropped f q es (n - 1)))
        (dropped f q es n))

    abbrev lost_by : Module → ℕ → ℕ → Bool
    lost_by q code id =
        cond (waits_to_send f q id) (lost f q es id)
        (cond (gives_up f e code) true
        (dropped f q es (let_in_at f m e code q id)))

    abbrev held_by : Module → ℕ → List ℕ
    held_by q code = left (dropped_by q code) 0 (f.holds m)

    abbrev kept_by : Module → ℕ → List ℕ
    kept_by q code = map (keeps f m) (kept (λ id. not (lost_by q code id)) (sending f m))

    abbrev pub sent_by : Module → ℕ → List ℕ
    sent_by q code = cond (is_send f e && ((eqb code 0 || eqb code 7) && not (lost_at f m code q es))) (message_in e.b ∷ []) []

    abbrev pub received_by : Module → ℕ → ℕ → List ℕ
    received_by q code value =
        cond (is_receive f e && eqb code 0) (value ∷ [])
        (cond (is_send f e && eqb code 0) (map (λ id. (process id (own q f.to)).message) (kept (λ id. not (waits_to_receive f q id)) (receiving f m))) [])

    pub record Even (q : Module) (code value : ℕ) : Type 0 where
      pub is : held_by q code ++ (kept_by q code ++ sent_by q code) ≡ received_by q code value ++ (held_left q es ++ kept_left q es)

    -- from its parts
    even_of : (q : Module) (code value : ℕ) (a b c d g h : List ℕ) → held_by q code ≡ a → kept_by q code ≡ b → sent_by q code ≡ c → received_by q code value ≡ d → held_left q es ≡ g → kept_left q es ≡ h
        → a ++ (b ++ c) ≡ d ++ (g ++ h) → Even q code value
    even_of q code value a b c d g h p1 p2 p3 p4 p5 p6 t = record { is = rw (p1, p2, p3, p4, p5, p6) t }

    -- what is neither a receive nor the destination's restart drops as the rest of the list does
    same_dropped : (q : Module) (code : ℕ) → restarts_by f.to e code ≡ false → (is_receive f e && eqb code 0) ≡ false → (n : ℕ) → dropped_by q code n ≡ dropped f q es n
    same_dropped q code r g n = rw (r, g)

    -- those who go on waiting to send
    stays_lost : (q : Module) (code id : ℕ) → waits_to_send f q id ≡ true → lost_by q code id ≡ lost f q es id
    stays_lost q code id h = rw h

    -- ------------------------------------------------------------ nothing is sent and nothing received: who leaves the queue gives up
    module _ (q : Module) (code value : ℕ) (on : restarts_by f.to e code ≡ false) (none : (is_receive f e && eqb code 0) ≡ false)
        (held : f.holds q ≡ f.holds m) (w : sending f q ≡ kept (waits_to_send f q) (sending f m))
        (same : (id : ℕ) → contains id (sending f m) ≡ true → waits_to_send f q id ≡ true → keeps f q id ≡ keeps f m id)
        (leaves : (id : ℕ) → contains id (sending f m) ≡ true → waits_to_send f q id ≡ false → gives_up f e code ≡ true) where
      quiet_kept : kept_by q code ≡ kept_left q es
      quiet_kept =
          let l = sending f m in
          ap (map (keeps f m)) (kept_same (λ id. not (lost_by q code id)) (λ id. not (lost f q es id) && waits_to_send f q id) l (λ id c. either (waits_to_send f q id)
          (λ s. rw s (sym (and-true (not (lost f q es id)))))
          (λ s. rw (s, leaves id c s) (sym (and-false (not (lost f q es id)))))))
          ∙ map_same (keeps f m) (keeps f q) (kept (λ id. not (lost f q es id) && waits_to_send f q id) l) (λ id c.
          let h = sym (contains_kept (λ id. not (lost f q es id) && waits_to_send f q id) id l) ∙ c in
          sym (same id (and_right (not (lost f q es id) && waits_to_send f q id) _ h) (and_right (not (lost f q es id)) _ (and_left (not (lost f q es id) && waits_to_send f q id) _ h))))
          ∙ ap (map (keeps f q)) (sym (kept_kept (λ id. not (lost f q es id)) (waits_to_send f q) l) ∙ ap (kept (λ id. not (lost f q es id))) (sym w))

      pub quiet_even : sent_by q code ≡ [] → received_by q code value ≡ [] → Even q code value
      quiet_even s r = even_of q code value (held_left q es) (kept_left q es) [] [] (held_left q es) (kept_left q es)
          (left_same (dropped_by q code) (dropped f q es) (same_dropped q code on none) 0 (f.holds m) ∙ ap (left (dropped f q es) 0) (sym held))
          quiet_kept s r refl refl
          (ap (λ (l : List ℕ). held_left q es ++ l) (append-nil (kept_left q es)))

    -- a code other than 0 and 7; neither a send nor a receive
    pub refused_sent : (q : Module) (code : ℕ) → eqb code 0 ≡ false → eqb code 7 ≡ false → sent_by q code ≡ []
    refused_sent q code z w = rw (z, w, and-false (is_send f e))

    pub refused_received : (q : Module) (code value : ℕ) → eqb code 0 ≡ false → received_by q code value ≡ []
    refused_received q code value z = rw (z, and-false (is_receive f e), and-false (is_send f e))

    pub no_sent : (q : Module) (code : ℕ) → is_send f e ≡ false → sent_by q code ≡ []
    no_sent q code h = rw h

    pub no_received : (q : Module) (code value : ℕ) → is_send f e ≡ false → is_receive f e ≡ false → received_by q code value ≡ []
    no_received q code value h g = rw (h, g)

    -- ------------------------------------------------------------ a send
    module _ (to : is_send f e ≡ true) (from : is_receive f e ≡ false) (on : (code : ℕ) → restarts_by f.to e code ≡ false) (x : ℕ) (word : message_in e.b ≡ x) (q : Module) where
      not_received : (code : ℕ) → (is_receive f e && eqb code 0) ≡ false
      not_received code = rw from

      held_same : (code : ℕ) → held_by q code ≡ left (dropped f q es) 0 (f.holds m)
      held_same code = left_same (dropped_by q code) (dropped f q es) (same_dropped q code (on code) (not_received code)) 0 (f.holds m)

      -- where nobody waits to send and nobody to receive, and there is room: it joins what is held
      pub put_even : sending f m ≡ [] → sending f q ≡ [] → receiving f m ≡ [] → f.holds q ≡ f.holds m ++ (x ∷ []) → Even q 0 0
      put_even free then none held =
          let d = dropped f q es in
          let n = length (f.holds m) in
          let before = left d 0 (f.holds m) in
          let more : ltb n (length (f.holds q)) ≡ true = lt-ltb n (length (f.holds q)) (let z = ap length held ∙ length-append (f.holds m) (x ∷ []) in omega arith) in
          even_of q 0 0 before [] (cond (d n) [] (x ∷ [])) [] (before ++ cond (d n) [] (x ∷ [])) []
          (held_same 0) (none_kept _ _ (sending f m) free)
          (rw (to, word, more) (joined (d n)))
          (rw (from, to) (none_kept _ _ (receiving f m) none))
          (ap (left d 0) held ∙ left_append d 0 (f.holds m) x ∙ ap (λ i. before ++ cond (d i) [] (x ∷ [])) (let z : 0 + n ≡ n = omega arith in z))
          (none_kept _ _ (sending f q) then)
          (sym (append-nil (before ++ cond (d n) [] (x ∷ []))))
        where
          joined : (b : Bool) → cond (true && ((true || false) && not (true && b))) (x ∷ []) [] ≡ cond b [] (x ∷ [])
          joined true = refl
          joined false = refl

      -- where somebody waits to receive, and so nothing is held: it is handed over
      pub handed_even : f.holds m ≡ [] → f.holds q ≡ [] → sending f m ≡ [] → sending f q ≡ []
          → map (λ id. (process id (own q f.to)).message) (kept (λ id. not (waits_to_receive f q id)) (receiving f m)) ≡ x ∷ [] → Even q 0 0
      handed_even none then free after one = even_of q 0 0 [] [] (x ∷ []) (x ∷ []) [] []
          (ap (left (dropped_by q 0) 0) none) (none_kept _ _ (sending f m) free)
          (rw (to, word, none, then))
          (rw (from, to) one)
          (ap (left (dropped f q es) 0) then) (none_kept _ _ (sending f q) after) refl

      -- where there is no room: the sender joins those who wait to send
      module _ (id : ℕ) (queue : sending f q ≡ sending f m ++ (id ∷ [])) (still : (y : ℕ) → contains y (sending f m) ≡ true → waits_to_send f q y ≡ true)
          (same : (y : ℕ) → contains y (sending f m) ≡ true → keeps f q y ≡ keeps f m y) (own_is : keeps f q id ≡ x) (run : id ≡ running (own m f.from)) where
        abbrev before : List ℕ
        before = map (keeps f q) (kept (λ y. not (lost f q es y)) (sending f m))

        kept_before : kept_by q 7 ≡ before
        kept_before =
            ap (map (keeps f m)) (kept_same (λ y. not (lost_by q 7 y)) (λ y. not (lost f q es y)) (sending f m) (λ y g. ap not (stays_lost q 7 y (still y g))))
            ∙ map_same (keeps f m) (keeps f q) (kept (λ y. not (lost f q es y)) (sending f m)) (λ y g. sym (same y (and_right (not (lost f q es y)) _ (sym (contains_kept (λ y. not (lost f q es y)) y (sending f m)) ∙ g))))

        kept_after : kept_left q es ≡ before ++ cond (not (lost f q es id)) (x ∷ []) []
        kept_after =
            ap (λ (l : List ℕ). map (keeps f q) (kept (λ y. not (lost f q es y)) l)) queue
            ∙ ap (map (keeps f q)) (kept_snoc (λ y. not (lost f q es y)) (sending f m) id)
            ∙ map-append (keeps f q) (kept (λ y. not (lost f q es y)) (sending f m)) (kept_if (not (lost f q es id)) id [])
            ∙ ap (λ (l : List ℕ). before ++ l) (last (not (lost f q es id)))
          where
            last : (b : Bool) → map (keeps f q) (kept_if b id []) ≡ cond b (x ∷ []) []
            last true = ap (λ (n : ℕ). n ∷ []) own_is
            last false = refl

        pub blocked_even : f.holds q ≡ f.holds m → Even q 7 0
        blocked_even held =
            let h = left (dropped f q es) 0 (f.holds m) in
            even_of q 7 0 h before (cond (not (lost f q es id)) (x ∷ []) []) [] h (before ++ cond (not (lost f q es id)) (x ∷ []) [])
            (held_same 7) kept_before (rw (to, word, ← run)) (refused_received q 7 0 refl) (ap (left (dropped f q es) 0) held) kept_after refl

    -- ------------------------------------------------------------ a receive
    module _ (to : is_send f e ≡ false) (from : is_receive f e ≡ true) (on : restarts_by f.to e 0 ≡ false) (q : Module) (value : ℕ) (rest : List ℕ) (held : f.holds m ≡ value ∷ rest) where
      abbrev d : ℕ → Bool
      d = dropped f q es

      held_first : held_by q 0 ≡ value ∷ left d 0 rest
      held_first =
          let first : dropped_by q 0 0 ≡ false = rw (on, from) in
          ap (left (dropped_by q 0) 0) held
          ∙ ap₂ (λ (b : Bool) (l : List ℕ). cond b [] (value ∷ []) ++ l) first (left_one rest 0)
        where
          left_one : (l : List ℕ) (n : ℕ) → left (dropped_by q 0) (suc n) l ≡ left d n l
          left_one [] n = refl
          left_one (y ∷ l) n =
              let one : suc n - 1 ≡ n = omega arith in
              let later : dropped_by q 0 (suc n) ≡ d n = rw (on, from, ne_eqb (suc n) 0 (λ z. omega arith), one) in
              ap₂ (λ (b : Bool) (r : List ℕ). cond b [] (y ∷ []) ++ r) later (left_one l (suc n))

      received_one : received_by q 0 value ≡ value ∷ []
      received_one = rw from

      -- where nobody waits to send
      pub taken_even : sending f m ≡ [] → sending f q ≡ [] → f.holds q ≡ rest → Even q 0 value
      taken_even free then left_over = even_of q 0 value (value ∷ left d 0 rest) [] [] (value ∷ []) (left d 0 rest) []
          held_first (none_kept _ _ (sending f m) free) (no_sent q 0 to) received_one (ap (left d 0) left_over) (none_kept _ _ (sending f q) then)
          refl

      -- where somebody does: the first one's message is let in at the end, and the others go on waiting
      module _ (id : ℕ) (l : List ℕ) (queue : sending f m ≡ id ∷ l) (then : sending f q ≡ l) (gone : waits_to_send f q id ≡ false) (Stays-on : gives_up f e 0 ≡ false)
          (still : (y : ℕ) → contains y l ≡ true → waits_to_send f q y ≡ true) (same : (y : ℕ) → contains y l ≡ true → keeps f q y ≡ keeps f m y) (let_in_holds : f.holds q ≡ rest ++ (keeps f m id ∷ [])) where
        abbrev message : ℕ
        message = keeps f m id

        abbrev others : List ℕ
        others = map (keeps f q) (kept (λ y. not (lost f q es y)) l)

        place_is : let_in_at f m e 0 q id ≡ length rest
        place_is = rw on (let z = ap length let_in_holds ∙ length-append rest (message ∷ []) in omega arith)

        first_lost : lost_by q 0 id ≡ d (length rest)
        first_lost = rw (gone, Stays-on) (ap d place_is)

        kept_is : kept_by q 0 ≡ cond (d (length rest)) [] (message ∷ []) ++ others
        kept_is =
            ap (λ (w : List ℕ). map (keeps f m) (kept (λ y. not (lost_by q 0 y)) w)) queue
            ∙ ap (map (keeps f m)) (first_kept (λ y. not (lost_by q 0 y)) id l)
            ∙ map-append (keeps f m) (cond (not (lost_by q 0 id)) (id ∷ []) []) (kept (λ y. not (lost_by q 0 y)) l)
            ∙ ap₂ (λ (a b : List ℕ). a ++ b) (ap (λ (b : Bool). map (keeps f m) (cond (not b) (id ∷ []) [])) first_lost ∙ single (d (length rest)))
            (ap (map (keeps f m)) (kept_same (λ y. not (lost_by q 0 y)) (λ y. not (lost f q es y)) l (λ y g. ap not (stays_lost q 0 y (still y g))))
            ∙ map_same (keeps f m) (keeps f q) (kept (λ y. not (lost f q es y)) l) (λ y g. sym (same y (and_right (not (lost f q es y)) _ (sym (contains_kept (λ y. not (lost f q es y)) y l) ∙ g)))))
          where
            single : (b : Bool) → map (keeps f m) (cond (not b) (id ∷ []) []) ≡ cond b [] (message ∷ [])
            single true = refl
            single false = refl

        pub let_in_even : Even q 0 value
        let_in_even =
            let one = cond (d (length rest)) [] (message ∷ []) in
            even_of q 0 value (value ∷ left d 0 rest) (one ++ others) [] (value ∷ []) (left d 0 rest ++ one) others
            held_first kept_is (no_sent q 0 to) received_one
            (ap (left d 0) let_in_holds ∙ left_append d 0 rest message ∙ ap (λ i. left d 0 rest ++ cond (d i) [] (message ∷ [])) (let z : 0 + length rest ≡ length rest = omega arith in z))
            (ap (λ (w : List ℕ). map (keeps f q) (kept (λ y. not (lost f q es y)) w)) then)
            (ap (λ (r : List ℕ). value ∷ r) (ap (λ (r : List ℕ). left d 0 rest ++ r) (append-nil (one ++ others)) ∙ sym (append_assoc (left d 0 rest) one others)))

    -- ------------------------------------------------------------ a restart of the destination: what is held goes, the first n senders are let in
    module _ (q : Module) (n : ℕ) (on : restarts_by f.to e 0 ≡ true) (off : gives_up f e 0 ≡ false) (once : Distinct (sending f m))
        (held : f.holds q ≡ map (keeps f m) (take n (sending f m))) (then : sending f q ≡ drop n (sending f m))
        (gone : (y : ℕ) → contains y (take n (sending f m)) ≡ true → waits_to_send f q y ≡ false) (still : (y : ℕ) → contains y (drop n (sending f m)) ≡ true → waits_to_send f q y ≡ true)
        (same : (y : ℕ) → contains y (drop n (sending f m)) ≡ true → keeps f q y ≡ keeps f m y) where
      abbrev l : List ℕ
      l = sending f m

      drops : ℕ → Bool
      drops = dropped f q es

      kept_first : map (keeps f m) (kept (λ id. not (lost_by q 0 id)) (take n l)) ≡ held_left q es
      kept_first =
          ap (map (keeps f m)) (kept_same (λ id. not (lost_by q 0 id)) (λ id. not (dropped f q es (0 + place_in l id))) (take n l) (λ id g. rw (gone id g, off, on) (let z : place_in l id ≡ 0 + place_in l id = omega arith in ap (λ i. not (dropped f q es i)) z)))
          ∙ by_place (dropped f q es) (keeps f m) 0 n l once
          ∙ ap (left (dropped f q es) 0) (sym held)

      kept_rest : map (keeps f m) (kept (λ id. not (lost_by q 0 id)) (drop n l)) ≡ kept_left q es
      kept_rest =
          ap (map (keeps f m)) (kept_same (λ id. not (lost_by q 0 id)) (λ id. not (lost f q es id)) (drop n l) (λ id g. ap not (stays_lost q 0 id (still id g))))
          ∙ map_same (keeps f m) (keeps f q) (kept (λ id. not (lost f q es id)) (drop n l)) (λ y g. sym (same y (and_right (not (lost f q es y)) _ (sym (contains_kept (λ y. not (lost f q es y)) y (drop n l)) ∙ g))))
          ∙ ap (λ (w : List ℕ). map (keeps f q) (kept (λ id. not (lost f q es id)) w)) (sym then)

      pub restart_even : sent_by q 0 ≡ [] → received_by q 0 0 ≡ [] → Even q 0 0
      restart_even s r = even_of q 0 0 [] (held_left q es ++ kept_left q es) [] [] (held_left q es) (kept_left q es)
          (left_all (dropped_by q 0) (λ i. rw on) 0 (f.holds m))
          (ap (λ (w : List ℕ). map (keeps f m) (kept (λ id. not (lost_by q 0 id)) w)) (take_drop n l)
          ∙ ap (map (keeps f m)) (kept_append (λ id. not (lost_by q 0 id)) (take n l) (drop n l))
          ∙ map-append (keeps f m) (kept (λ id. not (lost_by q 0 id)) (take n l)) (kept (λ id. not (lost_by q 0 id)) (drop n l))
          ∙ ap₂ (λ (a b : List ℕ). a ++ b) kept_first kept_rest)
          s r refl refl
          (append-nil (held_left q es ++ kept_left q es))

  -- ---------------------------------------------------------------- a list of events
  -- what is held and kept at the beginning counts as sent
  pub run_even : (Good : List EventT → Module → Type 0)
      → ((e : EventT) (es : List EventT) (m : Module) → Good (e ∷ es) m → Even m e es (next m e) (step m e).answer.code (step m e).answer.value × Good es (next m e))
      → (es : List EventT) (m : Module) → Good es m
      → held_left m es ++ (kept_left m es ++ all_sent f m es) ≡ all_received f m es ++ (f.holds (after m es) ++ map (keeps f (after m es)) (sending f (after m es)))
  unfolding all_sent all_received dropped lost
  run_even Good even [] m h =
      ap₂ (λ (a b : List ℕ). a ++ b) (left_none (λ _. false) (λ _. refl) 0 (f.holds m)) (append-nil (map (keeps f m) (kept (λ id. not false) (sending f m))) ∙ ap (map (keeps f m)) (kept_all (λ _. true) (sending f m) (λ _ _. refl)))
  run_even Good even (e ∷ es) m h =
      let ev = even e es m h in
      let q = next m e in
      let ih = run_even Good even es q ev.1 in
      let a = held_left m (e ∷ es) in
      let b = kept_left m (e ∷ es) in
      let x = sent_at f m e es in
      let y = received_at f m e in
      let l = all_sent f q es in
      let g = held_left q es in
      let k = kept_left q es in
      let z = f.holds (after q es) ++ map (keeps f (after q es)) (sending f (after q es)) in
      ap (λ (u : List ℕ). a ++ u) (sym (append_assoc b x l))
      ∙ sym (append_assoc a (b ++ x) l)
      ∙ ap (λ (u : List ℕ). u ++ l) ev.0.is
      ∙ append_assoc y (g ++ k) l
      ∙ ap (λ (u : List ℕ). y ++ u) (append_assoc g k l ∙ ih)
      ∙ sym (append_assoc y (all_received f q es) z)

  -- from a record in which nothing is held and nobody waits to send
  pub run_from : (Good : List EventT → Module → Type 0)
      → ((e : EventT) (es : List EventT) (m : Module) → Good (e ∷ es) m → Even m e es (next m e) (step m e).answer.code (step m e).answer.value × Good es (next m e))
      → (es : List EventT) (m : Module) → Good es m → f.holds m ≡ [] → sending f m ≡ [] → Balances f m es
  run_from Good even es m h nothing free =
      ap₂ (λ (a b : List ℕ). a ++ (b ++ all_sent f m es)) (sym (ap (left (dropped f m es) 0) nothing)) (sym (none_kept (λ id. not (lost f m es id)) (keeps f m) (sending f m) free))
      ∙ run_even Good even es m h
