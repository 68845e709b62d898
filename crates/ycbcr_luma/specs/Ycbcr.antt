-- "luma by the weights [..], then (B - luma) and (R - luma) divided by 1.772 and 1.402, or 1.8556 and 1.5748, plus 128, all from the exact luma; R, G, B in,
-- Cb, Y, Cr out. Each is nearest, halves upward, held within 0 to 255." (02, W11), by any weights. Definitions only.
use Rattle.std.specs.Prelude.{ℕ, ◌+◌, ◌*◌}
use Rattle.nearest.specs.Nearest.{Fraction, ⟨◌-◌⟩/◌, byte_of}
use Rattle.ycbcr_weights.specs.declared.Weights.{Weights}
use Rattle.ycbcr_weights.specs.declared.Pixel.{Pixel}
use Rattle.ycbcr_weights.specs.Weights.{whole, red_factor, blue_factor}
use Rattle.ycbcr_weights.specs.Rgb.{pixel}

-- N times the exact luma: kr R + kg G + kb B
abbrev pub lumas : Weights → Pixel → ℕ
lumas w p = w.kr * p.c0 + w.kg * p.c1 + w.kb * p.c2

-- the exact luma: (kr R + kg G + kb B)/N
abbrev pub luma_at : Weights → Pixel → Fraction
luma_at w p = ⟨ lumas w p - 0 ⟩/ whole w

-- 128 + (colour - l/n)/(factor/n), where l/n is the luma
abbrev pub chroma : ℕ → ℕ → ℕ → ℕ → Fraction
chroma n factor l colour = ⟨ factor * 128 + n * colour - l ⟩/ factor

-- 128 + (B - luma) N/(2(N - kb))
abbrev pub cb_at : Weights → Pixel → Fraction
cb_at w p = chroma (whole w) (blue_factor w) (lumas w p) p.c2

-- 128 + (R - luma) N/(2(N - kr))
abbrev pub cr_at : Weights → Pixel → Fraction
cr_at w p = chroma (whole w) (red_factor w) (lumas w p) p.c0

-- R, G, B in; Cb, Y, Cr out
unfoldable pub ycbcr_of : Weights → Pixel → Pixel
ycbcr_of w p = pixel (byte_of (cb_at w p)) (byte_of (luma_at w p)) (byte_of (cr_at w p))
