-- A refused event leaves the whole record unchanged, and 13, 10, 8 and 9 are given exactly where their row's condition holds and no
-- earlier row's does: for every record and every event. Assumes nothing.
use Prim.Native.Nat.{ℕ, ◌-◌, ◌≤◌}
use mathlib.Core.Path.{◌≡◌, refl, sym}
use mathlib.Core.Bool.{Bool, true, false, cond, not, ◌&&◌, true≢false}
use mathlib.Core.List.{[], ◌∷◌}
use native.Mathlib.Omega.{arith}
use lib.Dec.{eqb, leb}
use borrow.Author.Tests.{eqb-true, eqb-false, ne_eqb, leb-true, le-leb, not-false}
use Rattle.machine.specs.declared.Module.{Module}
use Rattle.machine.specs.declared.Table.{Table}
use Rattle.machine.specs.declared.Field.{Field}
use Rattle.machine.specs.declared.Field.TheVariants.{Number, MinusOne, Other}
use Rattle.machine.specs.declared.Event.{Event}
use Rattle.machine.specs.declared.Request.{Request}
use Rattle.machine.specs.declared.Decision.{Decision}
use Rattle.machine.specs.declared.Decision.TheVariants.{Refused, Unchanged, Ticked, Blocked, Changed, Restarted, Written, Passed}
use Rattle.machine.specs.Limits.{time_limit, call_limit}
use Rattle.machine.specs.Fields.{request_of, is_number, between, number_of}
use Rattle.machine.specs.Decisions.{checked, reply_of}
use Rattle.machine.specs.Services.{call_decision}
use Rattle.machine.specs.Module as M
use Rattle.machine.specs.Places as Pl
use Rattle.machine.specs.Channels as Ch
use Rattle.machine.specs.Step as St
use Rattle.machine.proofs.Tests.{and_right, or_left, or_right}
use Rattle.machine.proofs.Bodies.{body_code, body_refusal, body_code_holds}
use Rattle.machine.proofs.EveryCall.{call_body}
use Rattle.machine.proofs.Either.{either}

-- a decision that answers neither 0 nor 7 leaves the module: by its shape
refused_stays : (m : Module) (k : ℕ) (d : Decision) → ((reply_of d).code ≡ 0 → ⊥) → ((reply_of d).code ≡ 7 → ⊥) → St.module_after m k d ≡ m
refused_stays m k (Refused n) h w = refl
refused_stays m k (Unchanged v e) h w = refl
refused_stays m k Ticked h w = absurd (h refl)
refused_stays m k (Blocked id x) h w = absurd (w refl)
refused_stays m k (Changed a b v) h w = absurd (h refl)
refused_stays m k (Restarted mode) h w = absurd (h refl)
refused_stays m k (Written i x) h w = absurd (h refl)
refused_stays m k (Passed i a v) h w = absurd (h refl)

-- Law 1. Whatever code an event gets, the whole record stays unless it is 0 or 7.
pub refused_same : (m : Module) (e : Event) → ((St.step m e).answer.code ≡ 0 → ⊥) → ((St.step m e).answer.code ≡ 7 → ⊥) → (St.step m e).state ≡ m
unfolding St.step
refused_same m e = refused_stays m (number_of (request_of e).partition) (St.decision m (request_of e))

-- ---------------------------------------------------------------- places 13, 10, 8, 9
-- the rows of the table of numbers, with what each tests: a code is given exactly where its row's condition holds and no earlier row's
pub record Places (malformed tick ended current no_caller : Bool) (code : ℕ) : Type 0 where
  pub thirteen : eqb code 13 ≡ malformed
  pub ten : eqb code 10 ≡ (not malformed && (tick && ended))
  pub eight : eqb code 8 ≡ (not malformed && (not tick && not current))
  pub nine : eqb code 9 ≡ (not malformed && (not tick && (current && no_caller)))

above_seven : (n k : ℕ) → leb n 7 ≡ true → leb 8 k ≡ true → eqb n k ≡ false
above_seven n k h j = let l = leb-true n 7 h in let g = leb-true 8 k j in ne_eqb n k (λ e. omega arith)

low_code : (y : ℕ) → body_code y ≡ true → leb y 7 ≡ true
low_code y h = either (body_refusal y)
    (λ e. let l = leb-true y 5 (and_right (leb 1 y) (leb y 5) e) in le-leb y 7 (omega arith))
    (λ e. either (eqb y 0) (λ z. rw (eqb-true y 0 z)) (λ z. rw (eqb-true y 7 (rw (e, z) at h))))

-- y is what the body of a call decides
places_of : (a b e f g : Bool) (y : Decision) → (a ≡ false → b ≡ false → leb (reply_of y).code 7 ≡ true)
    → Places a b e f g (reply_of (checked Refused ((a, 13) ∷ (b && e, 10) ∷ (not b && not f, 8) ∷ []) (cond b Ticked (checked Refused ((g, 9) ∷ []) y)))).code
unfolding checked
places_of true b e f g y h = record { thirteen = refl; ten = refl; eight = refl; nine = refl }
places_of false true true f g y h = record { thirteen = refl; ten = refl; eight = refl; nine = refl }
places_of false true false f g y h = record { thirteen = refl; ten = refl; eight = refl; nine = refl }
places_of false false e false g y h = record { thirteen = refl; ten = refl; eight = refl; nine = refl }
places_of false false e true true y h = record { thirteen = refl; ten = refl; eight = refl; nine = refl }
places_of false false e true false y h =
    let l = h refl refl in
    record { thirteen = above_seven (reply_of y).code 13 l refl; ten = above_seven (reply_of y).code 10 l refl; eight = above_seven (reply_of y).code 8 l refl; nine = above_seven (reply_of y).code 9 l refl }

-- an event that is not malformed and whose partition is not 0 names a call
named_call : (size : ℕ) (p c : Field) → between 0 size p ≡ true → between 0 call_limit c ≡ true → eqb (number_of p) 0 ≡ false → cond (is_number 0 p) (not (is_number 0 c)) (is_number 0 c) ≡ false → (1 ≤ number_of c) × (number_of c ≤ call_limit)
named_call size (Number k) (Number n) hp hc z o =
    let d = eqb-false n 0 (rw z at o) in
    (omega arith, leb-true n call_limit (and_right (leb 0 n) (leb n call_limit) hc))
named_call size (Number k) MinusOne hp hc z o = absurd (true≢false (sym hc))
named_call size (Number k) Other hp hc z o = absurd (true≢false (sym hc))
named_call size MinusOne c hp hc z o = absurd (true≢false (sym hp))
named_call size Other c hp hc z o = absurd (true≢false (sym hp))

pub call_in_range : (T : Table) (r : Request) → Pl.malformed T r ≡ false → eqb (number_of r.partition) 0 ≡ false → (1 ≤ number_of r.call) × (number_of r.call ≤ call_limit)
call_in_range T r q z =
    let q₂ = or_right (eqb T.size 0) _ q in
    let q₃ = or_right (not (between 0 T.size r.partition)) _ q₂ in
    let q₄ = or_right (not (between 0 call_limit r.call)) _ q₃ in
    named_call T.size r.partition r.call (not-false _ (or_left (not (between 0 T.size r.partition)) _ q₂)) (not-false _ (or_left (not (between 0 call_limit r.call)) _ q₃)) z (or_left (Pl.one_zero r) _ q₄)

-- Law 1, the places: for every record and every event.
pub places : (m : Module) (e : Event)
    → let r = request_of e in
    let k = number_of r.partition in
    Places (Pl.malformed m.table r) (eqb k 0) (leb time_limit m.t) (eqb (M.current m) k) (Pl.no_caller (M.part m (k - 1))) (St.step m e).answer.code
unfolding St.step St.decision
places m e =
    let r = request_of e in
    let k = number_of r.partition in
    let x = Ch.port_of m k r in
    let n = number_of r.call in
    let d = call_decision (St.context_of m k) x n r (M.part m (k - 1)) in
    places_of (Pl.malformed m.table r) (eqb k 0) (leb time_limit m.t) (eqb (M.current m) k) (Pl.no_caller (M.part m (k - 1))) d (λ q z. let c = call_in_range m.table r q z in
    low_code (reply_of d).code (body_code_holds x n d (call_body x n (St.context_of m k) r (M.part m (k - 1)) c.0 c.1).is))
