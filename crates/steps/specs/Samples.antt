-- The steps of 01's section on samples: for one sample, or for the three channels. Definitions only.
use Rattle.std.specs.Prelude.{ℕ, Bool, List, map, leb, Float}
use Rattle.std.specs.Float.Ieee.{lt}
use Rattle.notation.specs.F32.{◌-f◌, ◌*f◌, ◌/f◌, zero, one}
use Rattle.notation.specs.Choice.{when◌then◌else◌}
use Rattle.ciexyz.specs.declared.Vec3.{Vec3}
use Rattle.ciexyz.specs.declared.Xy.{Xy}
use Rattle.channels.specs.Channels.{Channels, channels, vec}

-- "LumaToXyz at (x, y): q = a / y; b takes a; a takes x*q; c takes ((1 - x) - y)*q."
unfoldable pub xyz_of_luma : Xy → Vec3 → Vec3
xyz_of_luma w s = vec (w.x *f (s.v0 /f w.y)) s.v0 ((one -f w.x -f w.y) *f (s.v0 /f w.y))

-- "XyzToLuma: a takes b; b and c stay."
abbrev pub luma_of_xyz : Channels → Channels
luma_of_xyz s = channels s.b s.b s.c

-- "Clip: .. below 0 gives 0, above 1 gives 1; NaN and minus zero stay."
abbrev pub clip_of : Float → Float
clip_of x = when lt x zero then zero else when lt one x then one else x

-- "the channels within the width"
abbrev pub clipped_if : Bool → List Float → List Float
clipped_if inside s = when inside then map clip_of s else s

abbrev pub clipped_within : ℕ → Channels → Channels
clipped_within w s = channels (clipped_if (leb 1 w) s.a) (clipped_if (leb 2 w) s.b) (clipped_if (leb 3 w) s.c)
