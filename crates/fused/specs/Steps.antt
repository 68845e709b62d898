-- What the private steps of `mul_add` promise each other. Nothing that the crate promises outside rests on believing this page.
use Rattle.std.specs.Prelude.{◌≡◌, ◌⊎◌, ℕ, ◌+◌, ◌-◌, ◌*◌, ◌%◌, ◌^◌, ◌≤◌, ◌<◌}

-- m * 2 ^ f is n * 2 ^ (e + 62), and m has 62 digits
pub record Topped (n e m f : ℕ) : Type 0 where
  pub z : ℕ
  pub m_ge : 0x2000_0000_0000_0000 ≤ m
  pub m_lt : m < 0x4000_0000_0000_0000
  pub m_is : m ≡ n * 2 ^ z
  pub f_is : f + z ≡ e + 62

-- r is n / 2 ^ d, or the odd one of the two whole numbers next to it
pub record Jammed (r n d : ℕ) : Type 0 where
  pub small : r ≤ n
  pub is : (r * 2 ^ d ≡ n) ⊎ ((r % 2 ≡ 1) × ((r - 1) * 2 ^ d < n) × (n < (r + 1) * 2 ^ d))

-- 61 digits, of which the last two are 0
abbrev pub sized : ℕ → Type 0
sized u = (0x1000_0000_0000_0000 ≤ u) × (u < 0x2000_0000_0000_0000) × (u % 4 ≡ 0)

-- m * 2 ^ e comes before n * 2 ^ f, by the exponents and then by the digits
abbrev pub Under : ℕ → ℕ → ℕ → ℕ → Type 0
Under m e n f = (e ≤ f) × (e ≡ f → m ≤ n)
