-- "Each is the nearest whole number to that exact fraction, halves upward (below zero too), then held within 0 to 255." (02, W5). Definitions only.
-- What may lie below zero is a difference of two naturals: a fraction is (plus - minus)/over, a whole number n - m.
use Rattle.std.specs.Prelude.{ℕ, ◌+◌, ◌-◌, ◌*◌, ◌/◌, ◌≤◌, ◌<◌, min, ◌≡◌}

pub record Fraction : Type 0 where
  pub plus : ℕ
  pub minus : ℕ
  pub over : ℕ

infix 5 ⟨◌-◌⟩/◌
abbrev pub ⟨◌-◌⟩/◌ : ℕ → ℕ → ℕ → Fraction
⟨ a - b ⟩/ q = record { plus = a; minus = b; over = q }

-- the whole number n is nearest p/q, halves upward: 2qn - q ≤ 2p < 2qn + q; for n - m and p = plus - minus, each term stands where it is added
pub record Nearest (f : Fraction) (n m : ℕ) : Type 0 where
  pub from : 2 * (f.over * n) + 2 * f.minus ≤ 2 * f.plus + 2 * (f.over * m) + f.over
  pub below : 2 * f.plus + 2 * (f.over * m) < 2 * (f.over * n) + 2 * f.minus + f.over

-- the whole number n - m held within 0 to 255: ℕ's `-` stops at 0
abbrev pub held : ℕ → ℕ → ℕ
held n m = min 255 (n - m)

-- the rule: b is the nearest whole number to f, then held within 0 to 255
pub record ByteOf (f : Fraction) (b : ℕ) : Type 0 where
  pub n : ℕ
  pub m : ℕ
  pub nearest : Nearest f n m
  pub is : b ≡ held n m

-- The byte, computed: the whole part of f + 1/2, held. That the rule holds of this number and of no other is `proofs/Exactly.antt: byte-exactly`.
unfoldable pub byte_of : Fraction → ℕ
byte_of f = min 255 ((2 * f.plus + f.over - 2 * f.minus) / (2 * f.over))

-- f lies half way between two whole numbers, n - m and the next
pub record Tie (f : Fraction) : Type 0 where
  pub n : ℕ
  pub m : ℕ
  pub half : 2 * f.plus + 2 * (f.over * m) ≡ 2 * (f.over * n) + 2 * f.minus + f.over
