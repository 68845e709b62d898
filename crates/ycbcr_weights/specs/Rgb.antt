-- "with u = Cb - 128 and v = Cr - 128: red is Y + 1402v/1000, blue Y + 1772u/1000, green (587000Y - 202008u - 419198v)/587000. Each is the nearest whole
-- number to that exact fraction, halves upward (below zero too), then held within 0 to 255." (02, W5), by any weights. Definitions only.
use Rattle.std.specs.Prelude.{ℕ, ◌+◌, ◌*◌, ◌≤◌}
use Rattle.nearest.specs.Nearest.{Fraction, ⟨◌-◌⟩/◌, byte_of}
use Rattle.ycbcr_weights.specs.declared.Weights.{Weights}
use Rattle.ycbcr_weights.specs.declared.Pixel.{Pixel}
use Rattle.ycbcr_weights.specs.Weights.{whole, red_factor, blue_factor}

abbrev pub pixel : ℕ → ℕ → ℕ → Pixel
pixel x y z = record { c0 = x; c1 = y; c2 = z }

-- a pixel of bytes
pub record Bytes (p : Pixel) : Type 0 where
  pub first : p.c0 ≤ 255
  pub second : p.c1 ≤ 255
  pub third : p.c2 ≤ 255

-- y + factor (chroma - 128)/n
abbrev pub along : ℕ → ℕ → ℕ → ℕ → Fraction
along n factor y chroma = ⟨ n * y + factor * chroma - factor * 128 ⟩/ n

-- Y + 2(N - kr)v/N
abbrev pub red_at : Weights → Pixel → Fraction
red_at w p = along (whole w) (red_factor w) p.c1 p.c2

-- Y + 2(N - kb)u/N
abbrev pub blue_at : Weights → Pixel → Fraction
blue_at w p = along (whole w) (blue_factor w) p.c1 p.c0

-- (over y - cb (Cb - 128) - cr (Cr - 128))/over
abbrev pub between : ℕ → ℕ → ℕ → Pixel → Fraction
between over cb cr p = ⟨ over * p.c1 + (cb + cr) * 128 - (cb * p.c0 + cr * p.c2) ⟩/ over

-- (kg N Y - 2kb(N - kb)u - 2kr(N - kr)v)/(kg N)
abbrev pub green_at : Weights → Pixel → Fraction
green_at w p = between (w.kg * whole w) (w.kb * blue_factor w) (w.kr * red_factor w) p

-- Cb, Y, Cr in; R, G, B out
unfoldable pub rgb_of : Weights → Pixel → Pixel
rgb_of w p = pixel (byte_of (red_at w p)) (byte_of (green_at w p)) (byte_of (blue_at w p))
