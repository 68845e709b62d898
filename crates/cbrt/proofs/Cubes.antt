-- Cubes: their order and their products.
-- Multiplication is monotonic.
use mathlib.Core.Path.{◌≡◌}
use Prim.Native.Nat.{◌*◌, ◌<◌, ℕ, ◌≤◌}
use native.Mathlib.Nat.{lt_of_lt_of_le, lt_of_not-le, mul_assoc, mul-le-mul, mul_left_comm, not-le_of_lt}
use Rattle.cbrt.specs.Root.{cube}

pub cube-mono : {a b : ℕ} → a ≤ b → cube a ≤ cube b
cube-mono h = mul-le-mul (mul-le-mul h h) h

pub cube-mul : (a b : ℕ) → cube (a * b) ≡ cube a * cube b
cube-mul a b = simp (mul_assoc, mul_left_comm)

-- of two numbers whose cubes lie on the two sides of n, the first is the smaller
pub cube-lt : (a b n : ℕ) → cube a ≤ n → n < cube b → a < b
cube-lt a b n h k = lt_of_not-le (λ (g : b ≤ a). not-le_of_lt (lt_of_lt_of_le k (cube-mono g)) h)
