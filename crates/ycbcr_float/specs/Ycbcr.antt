-- "YCbCr: separate entry, order Cb, Y, Cr in; R, G, B out, as in `ycbcr_to_rgb`, with its constants rounded in f32 operation by
-- operation." (01, Samples). "red 1.5748, blue 1.8556, green from 0.0722 * 1.8556 / 0.7152 and 0.2126 * 1.5748 / 0.7152"; "The float entry uses the
-- same order of operations with the new constants." (02, W7). So it is said once, by the weights. Definitions only.
use Rattle.std.specs.Prelude.{ℕ, Float}
use Rattle.std.specs.Float.Ieee.{neg}
use Rattle.notation.specs.F32.{◌+f◌, ◌*f◌, ◌/f◌, bits, as_f32}
use Rattle.fused.specs.Fused.{fused}
use Rattle.channels.specs.Channels.{vec}
use Rattle.ciexyz.specs.declared.Vec3.{Vec3}
use Rattle.ycbcr_weights.specs.Weights as W
use Rattle.ycbcr_weights.specs.declared.Weights.{Weights}
use Rattle.ycbcr_float.specs.declared.Constants.{Constants}

-- 128.0 and 255.0
abbrev pub half : Float
half = bits 0x4300_0000

abbrev pub full : Float
full = bits 0x437f_0000

-- so many of the whole, as the f32 nearest that fraction: 299 of 1000 is 0.299
unfoldable pub part : ℕ → ℕ → Float
part n whole = as_f32 n /f as_f32 whole

-- the weights: 0.299, 0.587, 0.114, or 0.2126, 0.7152, 0.0722
abbrev pub red_weight : Weights → Float
red_weight w = part w.kr (W.whole w)

abbrev pub green_weight : Weights → Float
green_weight w = part w.kg (W.whole w)

abbrev pub blue_weight : Weights → Float
blue_weight w = part w.kb (W.whole w)

-- the factors: 1.402 and 1.772, or 1.5748 and 1.8556
abbrev pub red_factor : Weights → Float
red_factor w = part (W.red_factor w) (W.whole w)

abbrev pub blue_factor : Weights → Float
blue_factor w = part (W.blue_factor w) (W.whole w)

-- the luma, with its offset 128.0 / 255.0
unfoldable pub raised : Float → Float
raised y = y +f half /f full

-- -0.299 * 1.402 / 0.587 and -0.114 * 1.772 / 0.587, or -0.2126 * 1.5748 / 0.7152 and -0.0722 * 1.8556 / 0.7152
unfoldable pub green_of_cr : Weights → Float
green_of_cr w = neg (red_weight w) *f red_factor w /f green_weight w

unfoldable pub green_of_cb : Weights → Float
green_of_cb w = neg (blue_weight w) *f blue_factor w /f green_weight w

-- the four by which Cr and Cb are multiplied
abbrev pub constants_of : Weights → Constants
constants_of w = record { red = red_factor w; blue = blue_factor w; cr = green_of_cr w; cb = green_of_cb w }

-- Cb, Y, Cr in; R, G, B out, by the constants
unfoldable pub rgb_by : Constants → Vec3 → Vec3
rgb_by k s =
    vec
    (fused s.v2 k.red (raised s.v1))
    (fused s.v0 k.cb (fused s.v2 k.cr (raised s.v1)))
    (fused s.v0 k.blue (raised s.v1))

-- by the weights
abbrev pub rgb_of : Weights → Vec3 → Vec3
rgb_of w = rgb_by (constants_of w)
