-- "no widened byte lies outside the two bytes it was made from" (02, W13).
-- (3a + b)/4 lies between a and b, and so does the whole number nearest it.
use Prim.Native.Nat.{ℕ, ◌<◌, ◌≤◌, max, min}
use mathlib.Core.List.{List}
use native.Mathlib.Omega.{arith}
use lib.ListN.{get_or, length}
use Rattle.nearest.specs.Nearest.{byte_of}
use Rattle.chroma_half.specs.Lines.{ByteLine}
use Rattle.chroma_half.specs.Widening.{MadeFrom, mix_of, widened}
use Rattle.chroma_half.proofs.Rules.{widened-at}

mix-between : (a b : ℕ) → a ≤ 255 → b ≤ 255 → (min a b ≤ mix_of a b) × (mix_of a b ≤ max a b)
unfolding mix_of byte_of
mix-between a b h k = (omega arith, omega arith)

pub widened-between :
    (c : List ℕ) → ByteLine c → (m : ℕ) {j i k : ℕ} → MadeFrom (length c) j i k → j < m →
    (min (get_or c i 0) (get_or c k 0) ≤ get_or (widened c m) j 0) × (get_or (widened c m) j 0 ≤ max (get_or c i 0) (get_or c k 0))
widened-between c bytes m {j} {i} {k} made h = rw (widened-at c m made h) (mix-between (get_or c i 0) (get_or c k 0) (bytes i) (bytes k))
