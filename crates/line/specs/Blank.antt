-- Bytes of an output that are spaces.
use Rattle.std.specs.Prelude.{ℕ, ◌*◌, ◌≤◌, ◌<◌, ◌≡◌, List, length, get_or}
use Rattle.std.proofs.lemmas.List.Edits.{sets}
use Rattle.machine.specs.Line.{space, field_width, field_count}

-- the fields of a line, without its LF
abbrev pub fields_length : ℕ
fields_length = field_count * field_width

-- spaces from one place up to another
abbrev pub Blank : List ℕ → ℕ → ℕ → Type 0
Blank l a b = (k : ℕ) → a ≤ k → k < b → get_or l k 0 ≡ space

-- two outputs that so many bytes stored at the front make the same
abbrev pub Alike : ℕ → List ℕ → List ℕ → Type 0
Alike n l o = (m : List ℕ) → n ≤ length m → sets l 0 m ≡ sets o 0 m
