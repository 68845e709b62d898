-- 02's numbers are those of the definitions: at T.871 1402/1000, 1772/1000, 587000, 202008 and 419198, at BT.709 1.5748 and 1.8556; and pixels worked out
-- by them. By computing.
use Prim.Native.Nat.{◌*◌}
use mathlib.Core.Path.{◌≡◌, refl}
use Rattle.nearest.specs.Nearest.{byte_of}
use Rattle.ycbcr_weights.specs.Weights.{bt709, t871, whole, red_factor, blue_factor}
use Rattle.ycbcr_weights.specs.Rgb.{pixel, rgb_of}

pub t871-red : (red_factor t871 ≡ 1402) × (whole t871 ≡ 1000)
t871-red = (refl, refl)

pub t871-blue : (blue_factor t871 ≡ 1772) × (whole t871 ≡ 1000)
t871-blue = (refl, refl)

pub t871-green : (t871.kg * whole t871 ≡ 587000) × (t871.kb * blue_factor t871 ≡ 202008) × (t871.kr * red_factor t871 ≡ 419198)
t871-green = (refl, refl, refl)

pub bt709-factors : (red_factor bt709 ≡ 15748) × (blue_factor bt709 ≡ 18556) × (whole bt709 ≡ 10000)
bt709-factors = (refl, refl, refl)

-- a blue of 221 1/2 and one of -221 1/2 + 222 go upward; one of -221 1/2 + 221, which is -1/2, gives 0
pub blue_halves : ((rgb_of t871 (pixel 253 0 128)).c2 ≡ 222) × ((rgb_of t871 (pixel 3 222 128)).c2 ≡ 1) × ((rgb_of t871 (pixel 3 221 128)).c2 ≡ 0)
unfolding rgb_of byte_of
blue_halves = (refl, refl, refl)

-- a green of 100 + 18 1/2 and one of 100 - 18 1/2 go upward
pub green-halves : ((rgb_of t871 (pixel 178 100 78)).c1 ≡ 119) × ((rgb_of t871 (pixel 78 100 178)).c1 ≡ 82)
unfolding rgb_of byte_of
green-halves = (refl, refl)

-- held at both ends
pub held-ends : (rgb_of t871 (pixel 255 255 255) ≡ pixel 255 121 255) × (rgb_of t871 (pixel 0 0 0) ≡ pixel 0 135 0)
unfolding rgb_of byte_of
held-ends = (refl, refl)

-- the two sets of weights differ by what they make of one pixel
pub they_differ : (rgb_of t871 (pixel 100 128 200) ≡ pixel 229 86 78) × (rgb_of bt709 (pixel 100 128 200) ≡ pixel 241 100 76)
unfolding rgb_of byte_of
they_differ = (refl, refl)
