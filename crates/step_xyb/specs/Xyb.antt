-- "XYB: l = y + x, m = y - x, s = b, each less the cube root of its bias; then fused(g*g, g, bias) times (255 / intensity)." (01, Samples)
-- Definitions only.
use Rattle.std.specs.Prelude.{Float}
use Rattle.notation.specs.F32.{◌+f◌, ◌-f◌, ◌*f◌, ◌/f◌, bits}
use Rattle.fused.specs.Fused.{fused}
use Rattle.cbrt.specs.Root.{cbrt_of}
use Rattle.channels.specs.Channels.{vec}
use Rattle.ciexyz.specs.declared.Vec3.{Vec3}

-- of one of l, m and s, by the root of its bias
unfoldable pub mixed : Float → Float → Float → Float → Float
mixed root bias scale g = fused ((g -f root) *f (g -f root)) (g -f root) bias *f scale

unfoldable pub mixed_by : Vec3 → Vec3 → Float → Vec3 → Vec3
mixed_by roots bias scale xyb =
    vec
    (mixed roots.v0 bias.v0 scale (xyb.v1 +f xyb.v0))
    (mixed roots.v1 bias.v1 scale (xyb.v1 -f xyb.v0))
    (mixed roots.v2 bias.v2 scale xyb.v2)

unfoldable pub roots_of : Vec3 → Vec3
roots_of bias = vec (cbrt_of bias.v0) (cbrt_of bias.v1) (cbrt_of bias.v2)

-- 255
abbrev pub full : Float
full = bits 0x437f_0000

-- a sample, at these biases and this intensity
abbrev pub mixed_lms : Vec3 → Float → Vec3 → Vec3
mixed_lms bias intensity = mixed_by (roots_of bias) bias (full /f intensity)
