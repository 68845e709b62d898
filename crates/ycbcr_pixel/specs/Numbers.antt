-- What a set's numbers make of a pixel, by products of 16 bits and shifts, and when they are right for weights: each of red, green and blue is then the
-- whole number nearest its exact fraction. Definitions and relations only.
use Rattle.std.specs.Prelude.{ℕ, ◌+◌, ◌-◌, ◌*◌, ◌/◌, ◌≤◌}
use Rattle.nearest.specs.Nearest.{Nearest}
use Rattle.ycbcr_weights.specs.declared.Pixel.{Pixel}
use Rattle.ycbcr_weights.specs.declared.Weights.{Weights}
use Rattle.ycbcr_weights.specs.Rgb.{Bytes, red_at, green_at, blue_at}
use Rattle.ycbcr_pixel.specs.declared.numbers.Numbers.{Numbers}

-- red or blue, from luma and the chroma byte that it goes by, and k more
abbrev pub stretched : ℕ → ℕ → ℕ → ℕ → ℕ
stretched d a y x = y + (x + (x + d) * a / 0x1_0000)

-- three digits of seven bits
abbrev pub digits : ℕ → ℕ → ℕ → ℕ
digits x y z = 0x4000 * x + 0x80 * y + z

-- green, and gk more
abbrev pub across : Numbers → Pixel → ℕ
across n p = p.c1 + (digits n.a0 n.a1 n.a2 * (255 - p.c0) + digits n.b0 n.b1 n.b2 * (255 - p.c2) + digits n.c0 n.c1 0) / 0x20_0000

-- the numbers are right for the weights
pub record Right (w : Weights) (n : Numbers) : Type 0 where
  pub red : (p : Pixel) → Bytes p → Nearest (red_at w p) (stretched n.rd n.ra p.c1 p.c2) n.rk
  pub green : (p : Pixel) → Bytes p → Nearest (green_at w p) (across n p) n.gk
  pub blue : (p : Pixel) → Bytes p → Nearest (blue_at w p) (stretched n.bd n.ba p.c1 p.c0) n.bk

-- and so small that nothing leaves 16 bits
pub record Small (n : Numbers) : Type 0 where
  pub rk_small : n.rk ≤ 511
  pub bk_small : n.bk ≤ 511
  pub a0_small : n.a0 ≤ 127
  pub a1_small : n.a1 ≤ 127
  pub a2_small : n.a2 ≤ 127
  pub b0_small : n.b0 ≤ 127
  pub b1_small : n.b1 ≤ 127
  pub b2_small : n.b2 ≤ 127
  pub c0_small : n.c0 ≤ 127
  pub c1_small : n.c1 ≤ 127
