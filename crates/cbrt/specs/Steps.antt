-- What the private steps of `cbrt` promise each other. Nothing that the crate promises outside rests on believing this page.
use Rattle.std.specs.Prelude.{◌≡◌, ℕ, ◌+◌, ◌-◌, ◌*◌, ◌/◌, ◌%◌, ◌^◌, ◌≤◌, ◌<◌}
use Rattle.cbrt.specs.Root.{cube}

-- A units are g * 8 ^ a / 2 ^ 25, with g in a range of one factor of 8
pub record Scaled (A g a : ℕ) : Type 0 where
  pub g_ge : 0x100_0000 ≤ g
  pub g_lt : g < 0x800_0000
  pub a_le : a ≤ 92
  pub same : A * 0x200_0000 ≡ g * cube (2 ^ a)

-- q is the largest number whose cube is at most n
pub record WholeRoot (n q : ℕ) : Type 0 where
  pub low : cube q ≤ n
  pub high : n < cube (q + 1)

-- the digits taken in: of the 25 threes of binary digits of n, the first `taken`, as a number
abbrev pub taken_in : ℕ → ℕ → ℕ
taken_in n taken = n / 8 ^ (25 - taken)

-- The whiteboard: y is the whole root of the digits taken in, and the remainder is what is left of them.
-- Beside y stands its square. The rest is the digits to come, in 51 columns, the next three on the left.
pub record Whiteboard (h y square remainder rest taken : ℕ) : Type 0 where
  pub few : taken ≤ 25
  pub is_root : WholeRoot (taken_in (h * 0x100_0000) taken) y
  pub is_left : cube y + remainder ≡ taken_in (h * 0x100_0000) taken
  pub is_square : square ≡ y * y
  pub to_come : rest ≡ h * 8 ^ taken % 0x8_0000_0000_0000

-- r is the magnitude of q * 2 ^ (a + 76) units, and q is nearest to the cube root of g * 2 ^ 45
pub record Rounded (g a r : ℕ) : Type 0 where
  pub q : ℕ
  pub q_ge : 0x80_0000 ≤ q
  pub q_le : q ≤ 0x100_0000
  pub low : cube (2 * q - 1) ≤ g * 0x1_0000_0000_0000
  pub high : g * 0x1_0000_0000_0000 ≤ cube (2 * q + 1)
  pub is : r ≡ (a + 76) * 0x80_0000 + q
