-- "An entry for a whole line takes Y and the two half-width channels and must give exactly what widening both and then the byte conversion for that
-- firmware give. [..] Refusals: 13 where a firmware is named, then 4 for lengths that do not fit" (02, W13). Definitions and relations only.
use Rattle.std.specs.Prelude.{ℕ, ◌≡◌, Bool, ◌&&◌, length}
use Rattle.ycbcr_planes.specs.Planes.{Planes, planes, same_lengths}
use Rattle.chroma_half.specs.Twice.{FitsTwice, fits_twice}
use Rattle.chroma_half.specs.Widening.{widened}

-- in words: Cb and Cr of s widen to Y, and R, G, B of t are as long as Y
pub record LineFits (s t : Planes) : Type 0 where
  pub of_cb : FitsTwice (length s.a) (length s.b)
  pub of_cr : FitsTwice (length s.c) (length s.b)
  pub of_r : length t.a ≡ length s.b
  pub of_g : length t.b ≡ length s.b
  pub of_b : length t.c ≡ length s.b

-- whether the lengths fit: the widened lines are as long as Y, and so are R, G and B
abbrev pub fits_line : ℕ → ℕ → ℕ → ℕ → ℕ → ℕ → Bool
fits_line cb y cr r g b = fits_twice cb y && (fits_twice cr y && same_lengths y y y r g b)

abbrev pub line_fits : Planes → Planes → Bool
line_fits s t = fits_line (length s.a) (length s.b) (length s.c) (length t.a) (length t.b) (length t.c)

-- Cb and Cr widened to Y's length
abbrev pub widened_both : Planes → Planes
widened_both s = planes (widened s.a (length s.b)) s.b (widened s.c (length s.b))
