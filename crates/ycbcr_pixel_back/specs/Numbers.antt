-- What a set's numbers make of red, green and blue, by products of 16 bits and shifts, and when they are right for weights: each of Y, Cb and Cr is then
-- the whole number nearest its exact fraction. Definitions and relations only.
use Rattle.std.specs.Prelude.{ℕ, ◌+◌, ◌-◌, ◌*◌, ◌/◌, ◌≤◌}
use Rattle.nearest.specs.Nearest.{Nearest}
use Rattle.ycbcr_weights.specs.declared.Pixel.{Pixel}
use Rattle.ycbcr_weights.specs.declared.Weights.{Weights}
use Rattle.ycbcr_weights.specs.Rgb.{Bytes}
use Rattle.ycbcr_luma.specs.Ycbcr.{cb_at, cr_at, luma_at}
use Rattle.ycbcr_pixel_back.specs.declared.numbers.Numbers.{Numbers}

-- how far one colour stands above green, and 255 more
abbrev pub above : ℕ → ℕ → ℕ
above colour g = colour + (255 - g)

-- digits of eight, seven and six bits
abbrev pub digits : ℕ → ℕ → ℕ → ℕ
digits x y z = 0x2000 * x + 0x40 * y + z

-- what red and blue, so far above green, make of luma, and yk more
abbrev pub weighed : Numbers → ℕ → ℕ → ℕ → ℕ
weighed n g red blue = g + (digits n.a0 n.a1 n.a2 * red + digits n.b0 n.b1 n.b2 * blue + digits n.c0 n.c1 0) / 0x20_0000

-- Cb from blue and from red taken away, or Cr from red and from blue
abbrev pub halved : ℕ → ℕ → ℕ → ℕ → ℕ → ℕ → ℕ
halved m a d k own other = (own + (m * (510 - other) + (510 - other + d) * a / 0x1_0000) / 32 - k) / 2

-- the numbers are right for the weights
pub record Right (w : Weights) (n : Numbers) : Type 0 where
  pub luma : (p : Pixel) → Bytes p → Nearest (luma_at w p) (weighed n p.c1 (above p.c0 p.c1) (above p.c2 p.c1)) n.yk
  pub cb : (p : Pixel) → Bytes p → Nearest (cb_at w p) (halved n.um n.ua n.ud n.uk (above p.c2 p.c1) (above p.c0 p.c1)) 0
  pub cr : (p : Pixel) → Bytes p → Nearest (cr_at w p) (halved n.vm n.va n.vd n.vk (above p.c0 p.c1) (above p.c2 p.c1)) 0

-- and their digits so small that nothing leaves 16 bits
pub record Small (n : Numbers) : Type 0 where
  pub high : n.a0 + n.b0 ≤ 120
  pub mid : n.a1 + n.b1 ≤ 120
  pub low : n.a2 + n.b2 ≤ 120
  pub um_small : n.um ≤ 15
  pub vm_small : n.vm ≤ 15
