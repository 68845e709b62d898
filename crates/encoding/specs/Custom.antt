-- The points of custom white points and primaries. A named one has none; the origin stands in their place.
use Rattle.std.specs.Prelude.{pos}
use Rattle.ciexyz.specs.declared.Millionths.{Millionths}
use Rattle.ciexyz.specs.declared.WhitePoint.{WhitePoint}
use Rattle.ciexyz.specs.declared.WhitePoint.TheVariants as W
use Rattle.ciexyz.specs.declared.Primaries.{Primaries}
use Rattle.ciexyz.specs.declared.Primaries.TheVariants as P
use Rattle.encoding.specs.declared.custom.Corners.{Corners}

abbrev pub origin : Millionths
origin = record { x = pos 0; y = pos 0 }

abbrev pub corners : Millionths → Millionths → Millionths → Corners
corners r g b = record { red = r; green = g; blue = b }

abbrev pub custom_white : WhitePoint → Millionths
custom_white W.D65 = origin
custom_white W.E = origin
custom_white W.Dci = origin
custom_white (W.Custom p) = p

abbrev pub custom_corners : Primaries → Corners
custom_corners P.Srgb = corners origin origin origin
custom_corners P.Bt2100 = corners origin origin origin
custom_corners P.P3 = corners origin origin origin
custom_corners (P.Custom r g b) = corners r g b
