-- "narrowing too: each pair's mean, nearest, halves upward, and an odd last byte as it is." (02, W13). Definitions and relations only.
use Rattle.std.specs.Prelude.{ℕ, ◌+◌, ◌*◌, ◌/◌, ◌<◌, ◌≡◌, List, ltb, get_or, length}
use Rattle.notation.specs.Choice.{when◌then◌else◌}
use Rattle.nearest.specs.Nearest.{Nearest, ⟨◌-◌⟩/◌, byte_of}
use Rattle.chroma_half.specs.Lines.{line}
use Rattle.chroma_half.specs.Twice.{FitsTwice}

-- in words: the line out is c narrowed
pub record Narrowed (c out : List ℕ) : Type 0 where
  pub fits : FitsTwice (length out) (length c)
  pub pair : (i : ℕ) → 2 * i + 1 < length c → Nearest (⟨ get_or c (2 * i) 0 + get_or c (2 * i + 1) 0 - 0 ⟩/ 2) (get_or out i 0) 0
  pub odd : (i : ℕ) → 2 * i + 1 ≡ length c → get_or out i 0 ≡ get_or c (2 * i) 0

-- (a + b)/2 to the nearest
unfoldable pub mean_of : ℕ → ℕ → ℕ
mean_of a b = byte_of (⟨ a + b - 0 ⟩/ 2)

abbrev pub narrowed_at : List ℕ → ℕ → ℕ
narrowed_at c i = when ltb (2 * i + 1) (length c) then mean_of (get_or c (2 * i) 0) (get_or c (2 * i + 1) 0) else get_or c (2 * i) 0

-- c narrowed, computed: the line of the words and no other (`proofs/Rules.antt: narrowed-exactly`)
abbrev pub narrowed : List ℕ → List ℕ
narrowed c = line ((length c + 1) / 2) (narrowed_at c)
