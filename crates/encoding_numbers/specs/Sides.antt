-- Which encoding fourteen numbers mean, as it is read: number by number, from tables. Definitions only.
use Rattle.std.specs.Prelude.{ℕ, ◌+◌, Bool, not, ◌&&◌, ◌||◌, List, [], ◌∷◌, eqb, leb, ltb, ℤ, pos, negsuc, get_or, Some, None, Option}
use Rattle.notation.specs.Choice.{when◌then◌else◌}
use Rattle.ciexyz.specs.declared.Millionths.{Millionths}
use Rattle.ciexyz.specs.declared.WhitePoint.{WhitePoint}
use Rattle.ciexyz.specs.declared.WhitePoint.TheVariants as W
use Rattle.ciexyz.specs.declared.Primaries.{Primaries}
use Rattle.ciexyz.specs.declared.Primaries.TheVariants as P
use Rattle.op_fields.specs.Curves.{curve_numbered}
use Rattle.encoding.specs.declared.ColourSpace.{ColourSpace}
use Rattle.encoding.specs.declared.ColourSpace.TheVariants as S
use Rattle.encoding.specs.declared.RenderingIntent.{RenderingIntent}
use Rattle.encoding.specs.declared.RenderingIntent.TheVariants as I
use Rattle.encoding.specs.declared.EnumColourEncoding.{EnumColourEncoding}
use Rattle.encoding.specs.declared.ColourEncoding.{ColourEncoding}
use Rattle.encoding.specs.declared.ColourEncoding.TheVariants as E
use Rattle.encoding_numbers.specs.Means.{number_at}

-- what fourteen numbers mean, if each stands in its table
abbrev pub Side : Type 0
Side = Option ColourEncoding

-- a number that is not negative; 2^32 - 1, which stands in no table, for one that is
abbrev pub natural : ℤ → ℕ
natural (pos n) = n
natural (negsuc n) = 0xffff_ffff

abbrev pub natural_at : List ℤ → ℕ → ℕ
natural_at ns i = natural (number_at ns i)

-- "0 Rgb, 1 Grey, 2 Xyb, 3 Unknown"; of these and the three below the last for every number above 3
abbrev pub spaces : List ColourSpace
spaces = S.Rgb ∷ S.Grey ∷ S.Xyb ∷ S.Unknown ∷ []

unfoldable pub space_numbered : ℕ → ColourSpace
space_numbered n = get_or spaces n S.Unknown

-- "0 Perceptual, 1 Relative, 2 Saturation, 3 Absolute"
abbrev pub intents : List RenderingIntent
intents = I.Perceptual ∷ I.Relative ∷ I.Saturation ∷ I.Absolute ∷ []

unfoldable pub intent_numbered : ℕ → RenderingIntent
intent_numbered n = get_or intents n I.Absolute

-- "0 D65, 1 E, 2 Dci, 3 Custom"
abbrev pub whites : Millionths → List WhitePoint
whites p = W.D65 ∷ W.E ∷ W.Dci ∷ W.Custom p ∷ []

unfoldable pub white_numbered : ℕ → Millionths → WhitePoint
white_numbered n p = get_or (whites p) n (W.Custom p)

-- "0 Srgb, 1 Bt2100, 2 P3, 3 Custom"
abbrev pub all_primaries : Millionths → Millionths → Millionths → List Primaries
all_primaries r g b = P.Srgb ∷ P.Bt2100 ∷ P.P3 ∷ P.Custom r g b ∷ []

unfoldable pub primaries_numbered : ℕ → Millionths → Millionths → Millionths → Primaries
primaries_numbered n r g b = get_or (all_primaries r g b) n (P.Custom r g b)

abbrev pub point_at : List ℤ → ℕ → Millionths
point_at ns i = record { x = number_at ns i; y = number_at ns (i + 1) }

-- whether each number that is read is one of its table's; `g` is read where the curve is a Gamma, and is not negative
unfoldable pub in_tables : List ℤ → Bool
in_tables ns =
    leb (natural_at ns 0) 3
    && leb (natural_at ns 1) 3
    && leb (natural_at ns 4) 3
    && leb (natural_at ns 11) 8
    && leb (natural_at ns 13) 3
    && (ltb 1 (natural_at ns 11) || leb (natural_at ns 12) 0x7fff_ffff)

unfoldable pub encoding_in : List ℤ → EnumColourEncoding
encoding_in ns = record {
  colour_space = space_numbered (natural_at ns 0);
  white_point = white_numbered (natural_at ns 1) (point_at ns 2);
  primaries = primaries_numbered (natural_at ns 4) (point_at ns 5) (point_at ns 7) (point_at ns 9);
  tf = curve_numbered (natural_at ns 11) (natural_at ns 12);
  rendering_intent = intent_numbered (natural_at ns 13);
}

-- "4 an ICC profile"; "Numbers that are none of the table's" mean nothing
abbrev pub side_of : List ℤ → Side
side_of ns =
    when eqb (natural_at ns 0) 4 then Some E.IccProfile
    else when not (in_tables ns) then None
    else Some (E.Enum (encoding_in ns))
