-- What the step of the code to the neighbour ensures. Relations only.
use Rattle.std.specs.Prelude.{ℕ, ◌<◌, ◌≡◌}
use Rattle.chroma_half.specs.Widening.{beside_of}

-- there is such a byte
pub record Beside (n j k : ℕ) : Type 0 where
  pub is : k ≡ beside_of n j
  pub below : k < n
