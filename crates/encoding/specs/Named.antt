-- Encodings "compared as named values and not as floats" (01, Planning): a named value by its number, a custom one by its coordinates too.
use Rattle.std.specs.Prelude.{ℕ, Bool, ◌&&◌, eqb}
use Rattle.ciexyz.specs.declared.Millionths.{Millionths}
use Rattle.ciexyz.specs.declared.WhitePoint.{WhitePoint}
use Rattle.ciexyz.specs.declared.WhitePoint.TheVariants as W
use Rattle.ciexyz.specs.declared.Primaries.{Primaries}
use Rattle.ciexyz.specs.declared.Primaries.TheVariants as P
use Rattle.list_same.specs.Same.{same_whole}
use Rattle.encoding.specs.Custom.{custom_white, custom_corners}
use Rattle.encoding.specs.declared.ColourSpace.{ColourSpace}
use Rattle.encoding.specs.declared.ColourSpace.TheVariants as S
use Rattle.encoding.specs.declared.RenderingIntent.{RenderingIntent}
use Rattle.encoding.specs.declared.RenderingIntent.TheVariants as I
use Rattle.encoding.specs.declared.custom.Corners.{Corners}

abbrev pub space_number : ColourSpace → ℕ
space_number S.Rgb = 0
space_number S.Grey = 1
space_number S.Xyb = 2
space_number S.Unknown = 3

abbrev pub same_space : ColourSpace → ColourSpace → Bool
same_space a b = eqb (space_number a) (space_number b)

abbrev pub intent_number : RenderingIntent → ℕ
intent_number I.Perceptual = 0
intent_number I.Relative = 1
intent_number I.Saturation = 2
intent_number I.Absolute = 3

abbrev pub same_intent : RenderingIntent → RenderingIntent → Bool
same_intent a b = eqb (intent_number a) (intent_number b)

abbrev pub same_point : Millionths → Millionths → Bool
same_point p q = same_whole p.x q.x && same_whole p.y q.y

abbrev pub white_number : WhitePoint → ℕ
white_number W.D65 = 0
white_number W.E = 1
white_number W.Dci = 2
white_number (W.Custom p) = 3

abbrev pub same_white : WhitePoint → WhitePoint → Bool
same_white a b = eqb (white_number a) (white_number b) && same_point (custom_white a) (custom_white b)

abbrev pub same_corners : Corners → Corners → Bool
same_corners a b = same_point a.red b.red && same_point a.green b.green && same_point a.blue b.blue

abbrev pub primaries_number : Primaries → ℕ
primaries_number P.Srgb = 0
primaries_number P.Bt2100 = 1
primaries_number P.P3 = 2
primaries_number (P.Custom r g b) = 3

abbrev pub same_primaries : Primaries → Primaries → Bool
same_primaries a b = eqb (primaries_number a) (primaries_number b) && same_corners (custom_corners a) (custom_corners b)
