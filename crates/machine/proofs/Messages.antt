-- Queues of messages: what each transfer makes of a sound one. Assumes nothing.
use Prim.Native.Nat.{ℕ, zero, suc, ◌+◌, ◌≤◌}
use mathlib.Core.Path.{◌≡◌, refl, ap, sym, ◌∙◌}
use mathlib.Core.List.{List, [], ◌∷◌, ◌++◌}
use native.Mathlib.Omega.{arith}
use lib.ListN.{length, get_or, drop, replicate, length-append}
use Rattle.machine.specs.declared.Queue.{Queue}
use Rattle.machine.specs.declared.Transfer.{Transfer}
use Rattle.machine.specs.declared.Transfer.TheVariants.{Put, HandedTo, Taken, LetIn}
use Rattle.machine.specs.declared.Buffer.{Buffer}
use Rattle.machine.specs.Limits.{message_limit, duration_limit}
use Rattle.machine.specs.Messages.{held, queue_of, put, taken, first, moved}
use Rattle.machine.specs.Partition.{moved_in}
use Rattle.machine.specs.Theorems.Valid.{AllMessages, SoundQueue, SoundBuffer, SoundMove}
use Rattle.machine.specs.Theorems.Plain.{plain_moved, plain_moved_in}
use Rattle.machine.proofs.Lists.{put_queue_of, held_queue_of}

-- ---------------------------------------------------------------- lists of messages
all_snoc : (l : List ℕ) (m : ℕ) → AllMessages l → m ≤ duration_limit → AllMessages (l ++ (m ∷ []))
unfolding AllMessages
all_snoc [] m h k = (k, tt)
all_snoc (x ∷ l) m h k = (h.0, all_snoc l m h.1 k)

all_rest : (l : List ℕ) → AllMessages l → AllMessages (drop 1 l)
unfolding AllMessages
all_rest [] h = tt
all_rest (x ∷ l) h = h.1

pub first_message : (l : List ℕ) → AllMessages l → get_or l 0 0 ≤ duration_limit
unfolding AllMessages
first_message [] h = omega arith
first_message (x ∷ l) h = h.0

length_rest : (l : List ℕ) → 1 ≤ length l → length (drop 1 l) + 1 ≡ length l
length_rest [] h = absurd (omega arith)
length_rest (x ∷ l) h = omega arith

-- ---------------------------------------------------------------- a sound queue
pub queue_sound : (limit : ℕ) (l : List ℕ) → length l ≤ limit → AllMessages l → SoundQueue limit (queue_of l)
queue_sound limit l few all = record { canonical = ap queue_of (sym (held_queue_of l)); few = few; each = rw (held_queue_of l) all }

module _ (limit : ℕ) (q : Queue) (s : SoundQueue limit q) where
  abbrev l : List ℕ
  l = held q

  pub queue_length : length l ≡ q.len
  queue_length = sym (ap (λ (r : Queue). r.len) s.canonical)

  -- the first of its messages
  pub queue_first : first q ≡ get_or l 0 0
  queue_first = ap first s.canonical ∙ go l
    where
      zeros : (n : ℕ) → ◌≡◌ {A = ℕ} (get_or (replicate n 0) 0 0) 0
      zeros zero = refl
      zeros (suc n) = refl

      go : (l : List ℕ) → first (queue_of l) ≡ get_or l 0 0
      go [] = zeros message_limit
      go (x ∷ l) = refl

  pub first_sound : first q ≤ duration_limit
  first_sound = rw queue_first (first_message l s.each)

  taken_size : 1 ≤ q.len → length (drop 1 l) + 1 ≡ q.len
  taken_size h = length_rest l (omega (arith, queue_length)) ∙ queue_length

  -- its messages after a transfer
  module _ (room : limit ≤ message_limit) where
    pub moved_plain : (a : Transfer) → SoundMove limit q a → moved a q ≡ queue_of (plain_moved a l)
    unfolding taken
    moved_plain (Put m) h = ap (put m) s.canonical ∙ put_queue_of l m (omega (arith, queue_length, h.0))
    moved_plain (HandedTo id m) h = s.canonical
    moved_plain Taken h = refl
    moved_plain (LetIn id m) h = put_queue_of (drop 1 l) m (omega (arith, taken_size h.0, s.few))

    pub moved_held : (a : Transfer) → SoundMove limit q a → held (moved a q) ≡ plain_moved a l
    moved_held a h = ap held (moved_plain a h) ∙ held_queue_of (plain_moved a l)

    -- how many there are then
    pub put_length : (m : ℕ) → SoundMove limit q (Put m) → (moved (Put m) q).len ≡ q.len + 1
    put_length m h = ap (λ (r : Queue). r.len) (moved_plain (Put m) h) ∙ omega (arith, length-append l (m ∷ []), queue_length)

    pub taken_length : SoundMove limit q Taken → (moved Taken q).len + 1 ≡ q.len
    taken_length h = ap (λ (r : Queue). r.len + 1) (moved_plain Taken h) ∙ taken_size h

    pub let_in_length : (id m : ℕ) → SoundMove limit q (LetIn id m) → (moved (LetIn id m) q).len ≡ q.len
    let_in_length id m h = ap (λ (r : Queue). r.len) (moved_plain (LetIn id m) h) ∙ omega (arith, length-append (drop 1 l) (m ∷ []), taken_size h.0)

    plain_few : (a : Transfer) → SoundMove limit q a → length (plain_moved a l) ≤ limit
    plain_few (Put m) h = omega (arith, length-append l (m ∷ []), queue_length, h.0)
    plain_few (HandedTo id m) h = omega (arith, queue_length, s.few)
    plain_few Taken h = omega (arith, taken_size h, s.few)
    plain_few (LetIn id m) h = omega (arith, length-append (drop 1 l) (m ∷ []), taken_size h.0, s.few)

    plain_all_holds : (a : Transfer) → SoundMove limit q a → AllMessages (plain_moved a l)
    plain_all_holds (Put m) h = all_snoc l m s.each h.1
    plain_all_holds (HandedTo id m) h = s.each
    plain_all_holds Taken h = all_rest l s.each
    plain_all_holds (LetIn id m) h = all_snoc (drop 1 l) m (all_rest l s.each) h.1

    pub moved_sound : (a : Transfer) → SoundMove limit q a → SoundQueue limit (moved a q)
    moved_sound a h = rw (moved_plain a h) (queue_sound limit (plain_moved a l) (plain_few a h) (plain_all_holds a h))

-- ---------------------------------------------------------------- a sound buffer
module _ (b : Buffer) (s : SoundBuffer b) (a : Transfer) (h : SoundMove b.limit b.queue a) where
  pub moved_in_sound : SoundBuffer (moved_in a b)
  moved_in_sound = record { name = s.name; limit = s.limit; queue = moved_sound b.limit b.queue s.queue s.limit.1 a h }

  pub moved_in_plain : moved_in a b ≡ plain_moved_in a b
  moved_in_plain = rw (moved_plain b.limit b.queue s.queue s.limit.1 a h)
