-- The ranges of custom coordinates and of `g`. (01, Encodings and settings)
use Rattle.std.specs.Prelude.{ℕ, ◌<◌, ◌≡◌, Bool, ◌&&◌, ℤ, pos, negsuc, ◌≤ℤ◌, leb}
use Rattle.std.specs.Int.Signed.{le_z}
use Rattle.ciexyz.specs.declared.Millionths.{Millionths}
use Rattle.ciexyz.specs.declared.WhitePoint.TheVariants as W
use Rattle.ciexyz.specs.declared.Primaries.TheVariants as P
use Rattle.op_fields.specs.Curves.{gamma_of}
use Rattle.op.specs.declared.Curve.TheVariants as C
use Rattle.encoding.specs.Custom.{custom_white, custom_corners}
use Rattle.encoding.specs.declared.EnumColourEncoding.{EnumColourEncoding}
use Rattle.encoding.specs.declared.custom.Corners.{Corners}

-- "A custom coordinate is a whole number of millionths, -2,097,152 to 2,097,151."
abbrev pub coordinate_in_range : ℤ → Bool
coordinate_in_range n = le_z (negsuc 2_097_151) n && le_z n (pos 2_097_151)

abbrev pub point_in_range : Millionths → Bool
point_in_range p = coordinate_in_range p.x && coordinate_in_range p.y

abbrev pub corners_in_range : Corners → Bool
corners_in_range c = point_in_range c.red && point_in_range c.green && point_in_range c.blue

-- "`g` is 0 to 16,777,215."
abbrev pub gamma_in_range : ℕ → Bool
gamma_in_range g = leb g 16_777_215

-- every coordinate and `g`, "used or not"; the origin and 0, of a value that has none, are inside
abbrev pub in_range : EnumColourEncoding → Bool
in_range e =
    point_in_range (custom_white e.white_point)
    && corners_in_range (custom_corners e.primaries)
    && gamma_in_range (gamma_of e.tf)

-- ---- the same in words, apart from the test

abbrev pub Within : ℤ → Type 0
Within n = (negsuc 2_097_151 ≤ℤ n) × (n ≤ℤ pos 2_097_151)

abbrev pub Inside : Millionths → Type 0
Inside p = Within p.x × Within p.y

-- "a coordinate or `g` outside its range, [..] used or not" (01, Refusal numbers)
pub data Outside (e : EnumColourEncoding) : Type 0 where
  white : {p : Millionths} → e.white_point ≡ W.Custom p → ¬ Inside p → Outside e
  red : {r g b : Millionths} → e.primaries ≡ P.Custom r g b → ¬ Inside r → Outside e
  green : {r g b : Millionths} → e.primaries ≡ P.Custom r g b → ¬ Inside g → Outside e
  blue : {r g b : Millionths} → e.primaries ≡ P.Custom r g b → ¬ Inside b → Outside e
  gamma : {g : ℕ} {inverted : Bool} → e.tf ≡ C.Gamma g inverted → 16_777_215 < g → Outside e
