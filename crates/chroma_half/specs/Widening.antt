-- "of n chroma bytes, output 2i is the whole number nearest (3c[i] + c[i-1])/4 and output 2i+1 the one nearest (3c[i] + c[i+1])/4, halves upward, a
-- neighbour past either end being the end byte." (02, W13). Definitions and relations only.
use Rattle.std.specs.Prelude.{ℕ, ◌+◌, ◌-◌, ◌*◌, ◌/◌, ◌%◌, ◌<◌, min, ◌≡◌, List, ltb, get_or, length}
use Rattle.notation.specs.Choice.{when◌then◌else◌}
use Rattle.nearest.specs.Nearest.{Nearest, ⟨◌-◌⟩/◌, byte_of}
use Rattle.chroma_half.specs.Lines.{line}
use Rattle.chroma_half.specs.Twice.{FitsTwice}

-- in words: of n bytes, output j is made from byte i and its neighbour k
pub data MadeFrom (n : ℕ) : ℕ → ℕ → ℕ → Type 0 where
  before : {i : ℕ} → i + 1 < n → MadeFrom n (2 * (i + 1)) (i + 1) i
  first : 0 < n → MadeFrom n 0 0 0
  after : {i : ℕ} → i + 1 < n → MadeFrom n (2 * i + 1) i (i + 1)
  last : {i : ℕ} → i + 1 ≡ n → MadeFrom n (2 * i + 1) i i

-- in words: the line out is c widened
pub record Widened (c out : List ℕ) : Type 0 where
  pub fits : FitsTwice (length c) (length out)
  pub each : {j i k : ℕ} → MadeFrom (length c) j i k → j < length out → Nearest (⟨ 3 * get_or c i 0 + get_or c k 0 - 0 ⟩/ 4) (get_or out j 0) 0

-- (3a + b)/4 to the nearest
unfoldable pub mix_of : ℕ → ℕ → ℕ
mix_of a b = byte_of (⟨ 3 * a + b - 0 ⟩/ 4)

-- i - 1 for j = 2i and i + 1 for j = 2i + 1, held within the line of n bytes: ℕ's `-` stops at 0
abbrev pub beside_of : ℕ → ℕ → ℕ
beside_of n j = min (j / 2 + 2 * (j % 2) - 1) (n - 1)

abbrev pub widened_at : List ℕ → ℕ → ℕ
widened_at c j = mix_of (get_or c (j / 2) 0) (get_or c (beside_of (length c) j) 0)

-- an output by itself: 0 where n bytes have none, past 2n
abbrev pub output_at : List ℕ → ℕ → ℕ
output_at c j = when ltb (j / 2) (length c) then widened_at c j else 0

-- c widened to m bytes, computed: for m that fits it is the line of the words and no other (`proofs/Rules.antt: widened-exactly`)
abbrev pub widened : List ℕ → ℕ → List ℕ
widened c m = line m (widened_at c)
