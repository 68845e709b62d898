-- The channels of an encoding, and whether it is HDR.
use Rattle.std.specs.Prelude.{ℕ, Bool, ◌||◌}
use Rattle.notation.specs.Choice.{when◌then◌else◌}
use Rattle.list_same.specs.Same.{same_curve}
use Rattle.op.specs.declared.Curve.TheVariants as C
use Rattle.encoding.specs.Named.{same_space}
use Rattle.encoding.specs.declared.ColourSpace.TheVariants as S
use Rattle.encoding.specs.declared.EnumColourEncoding.{EnumColourEncoding}

-- "1 for a Grey source, else 3" (01, Planning), and so for a target
abbrev pub channels_of : EnumColourEncoding → ℕ
channels_of e = when same_space e.colour_space S.Grey then 1 else 3

-- "HDR means Pq or Hlg." (01, Encodings and settings)
abbrev pub is_hdr : EnumColourEncoding → Bool
is_hdr e = same_curve e.tf C.Pq || same_curve e.tf C.Hlg
