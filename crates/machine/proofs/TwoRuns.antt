-- Two runs of any machine whose states are compared by a relation: what holds of one event of each
-- kind holds of whole lists. Nothing here knows the executive.
use mathlib.Core.Path.{◌≡◌, refl, sym, ◌∙◌}
use mathlib.Core.Bool.{Bool, true, false, cond}
use mathlib.Core.List.{List, [], ◌∷◌, map}
use Rattle.machine.specs.Runs.{final, keep, replies}

-- what one event of each kind must keep for two runs to agree
pub record Unwinding {M E R : Type 0} (next : M → E → M) (reply : M → E → R) (common : E → Bool) (commonReply : R → Bool) (shown : R → R) (Related : M → M → Type 0) : Type 0 where
  pub back : (m n : M) → Related m n → Related n m
  pub along : (m n o : M) → Related m n → Related n o → Related m o
  pub tagged : (m : M) (e : E) → commonReply (reply m e) ≡ common e
  pub free : (m : M) (e : E) → Related m m → common e ≡ false → Related (next m e) m
  pub both : (m n : M) (e : E) → Related m n → common e ≡ true → Related (next m e) (next n e) × (shown (reply m e) ≡ shown (reply n e))

module _ {M E R : Type 0} (next : M → E → M) (reply : M → E → R) (common : E → Bool) (commonReply : R → Bool) (shown : R → R) (Related : M → M → Type 0)
    (u : Unwinding next reply common commonReply shown Related) where
  abbrev seen : M → List E → List R
  seen m es = map shown (keep commonReply (replies next reply m es))

  abbrev Purged : List E → M → M → Type 0
  Purged es m n = Related (final next reply m es) (final next reply n (keep common es)) × (seen m es ≡ map shown (replies next reply n (keep common es)))

  purged_event : (m n : M) (e : E) (es : List E) → ((m n : M) → Related m n → Purged es m n) → Related m n → (b : Bool) → common e ≡ b
      → Related (final next reply (next m e) es) (final next reply n (cond b (e ∷ keep common es) (keep common es)))
      × (map shown (cond b (reply m e ∷ keep commonReply (replies next reply (next m e) es)) (keep commonReply (replies next reply (next m e) es)))
      ≡ map shown (replies next reply n (cond b (e ∷ keep common es) (keep common es))))
  purged_event m n e es ih a true q =
      let k = u.both m n e a q in
      let h = ih (next m e) (next n e) k.0 in
      (h.0, λ i. k.1 i ∷ h.1 i)
  purged_event m n e es ih a false q =
      ih (next m e) n (u.along (next m e) m n (u.free m e (u.along m n m a (u.back m n a)) q) a)

  -- a run and the run without its free events
  purged : (es : List E) (m n : M) → Related m n → Purged es m n
  purged [] m n a = (a, refl)
  purged (e ∷ es) m n a = rw (u.tagged m e) (purged_event m n e es (purged es) a (common e) refl)

  -- two lists that are equal without their free events
  pub two_runs : (m : M) → Related m m → (left right : List E) → keep common left ≡ keep common right
      → Related (final next reply m left) (final next reply m right) × (seen m left ≡ seen m right)
  two_runs m a left right q =
      let l = purged left m m a in
      let r = purged right m m a in
      (u.along _ _ _ (rw q at l.0) (u.back _ _ r.0), rw q at l.1 ∙ sym r.1)
