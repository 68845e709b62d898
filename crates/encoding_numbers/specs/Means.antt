-- Which encoding fourteen numbers mean, in words and apart from the reading: those of which they are the numbers. "colour space (0 Rgb, 1 Grey,
-- 2 Xyb, 3 Unknown, 4 an ICC profile), white point (0 D65, 1 E, 2 Dci, 3 Custom) and its x, y in millionths; primaries (0 Srgb, 1 Bt2100, 2 P3,
-- 3 Custom) and red x, y, green x, y, blue x, y; curve (01's numbers 0 to 8) and g; intent (0 Perceptual, 1 Relative, 2 Saturation, 3 Absolute)".
-- The numbers of the named values are those of `encoding`, a curve's those of `op_fields`. Definitions and relations only.
use Rattle.std.specs.Prelude.{ℕ, ◌+◌, ◌≡◌, Bool, List, ℤ, pos, get_or}
use Rattle.ciexyz.specs.declared.Millionths.{Millionths}
use Rattle.ciexyz.specs.declared.WhitePoint.TheVariants as W
use Rattle.ciexyz.specs.declared.Primaries.TheVariants as P
use Rattle.op.specs.declared.Curve.TheVariants as C
use Rattle.op_fields.specs.Curves.{curve_number}
use Rattle.encoding.specs.Named.{space_number, intent_number, white_number, primaries_number}
use Rattle.encoding.specs.declared.EnumColourEncoding.{EnumColourEncoding}
use Rattle.encoding.specs.declared.ColourEncoding.{ColourEncoding}
use Rattle.encoding.specs.declared.ColourEncoding.TheVariants as E

abbrev pub number_at : List ℤ → ℕ → ℤ
number_at ns i = get_or ns i (pos 0)

-- x here, and y behind it
abbrev pub IsPoint : List ℤ → ℕ → Millionths → Type 0
IsPoint ns i p = (number_at ns i ≡ p.x) × (number_at ns (i + 1) ≡ p.y)

-- "Points are read only where Custom", and `g` where the curve is a Gamma
pub record AreOf (ns : List ℤ) (e : EnumColourEncoding) : Type 0 where
  pub space : number_at ns 0 ≡ pos (space_number e.colour_space)
  pub white : number_at ns 1 ≡ pos (white_number e.white_point)
  pub point : {p : Millionths} → e.white_point ≡ W.Custom p → IsPoint ns 2 p
  pub primaries : number_at ns 4 ≡ pos (primaries_number e.primaries)
  pub points : {r g b : Millionths} → e.primaries ≡ P.Custom r g b → IsPoint ns 5 r × IsPoint ns 7 g × IsPoint ns 9 b
  pub curve : number_at ns 11 ≡ pos (curve_number e.tf)
  pub gamma : {g : ℕ} {inverted : Bool} → e.tf ≡ C.Gamma g inverted → number_at ns 12 ≡ pos g
  pub intent : number_at ns 13 ≡ pos (intent_number e.rendering_intent)

-- an ICC profile has no other number
abbrev pub Mean : List ℤ → ColourEncoding → Type 0
Mean ns E.IccProfile = number_at ns 0 ≡ pos 4
Mean ns (E.Enum e) = AreOf ns e
