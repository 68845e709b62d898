-- Pixels worked out: the ends, halves, chroma from the exact luma, and for each channel at each set one that does move by 1, so that the bound is sharp.
-- By computing.
use mathlib.Core.Path.{◌≡◌, refl}
use Rattle.nearest.specs.Nearest.{byte_of}
use Rattle.ycbcr_weights.specs.Weights.{bt709, t871}
use Rattle.ycbcr_weights.specs.Rgb.{pixel, rgb_of}
use Rattle.ycbcr_luma.specs.Ycbcr.{ycbcr_of}

-- pure blue and pure red, whose Cb and Cr are held at 255
pub pure_blue : (ycbcr_of t871 (pixel 0 0 255) ≡ pixel 255 29 107) × (ycbcr_of bt709 (pixel 0 0 255) ≡ pixel 255 18 116)
unfolding ycbcr_of byte_of
pure_blue = (refl, refl)

pub pure_red : (ycbcr_of t871 (pixel 255 0 0) ≡ pixel 85 76 255) × (ycbcr_of bt709 (pixel 255 0 0) ≡ pixel 99 54 255)
unfolding ycbcr_of byte_of
pure_red = (refl, refl)

-- a luma of 7 1/2 and one of 15 1/2 go upward, and so do pure yellow's Cb and pure cyan's Cr, which are 1/2
pub halves_upward : (ycbcr_of t871 (pixel 0 12 4) ≡ pixel 126 8 123) × (ycbcr_of bt709 (pixel 0 14 76) ≡ pixel 161 16 118)
unfolding ycbcr_of byte_of
halves_upward = (refl, refl)

pub yellow_and_cyan : (ycbcr_of t871 (pixel 255 255 0) ≡ pixel 1 226 149) × (ycbcr_of t871 (pixel 0 255 255) ≡ pixel 171 179 1)
unfolding ycbcr_of byte_of
yellow_and_cyan = (refl, refl)

-- from the rounded luma, 1 and 15, Cb would be 130 and 230, and Cr 127 and 118
pub from_exact_luma : (ycbcr_of t871 (pixel 0 0 5) ≡ pixel 131 1 128) × (ycbcr_of bt709 (pixel 0 0 205) ≡ pixel 231 15 119)
unfolding ycbcr_of byte_of
from_exact_luma = (refl, refl)

-- there and back each channel of one pixel moves by 1, red and blue down and green up; and of another red and blue up and green down
pub all_move : (rgb_of t871 (ycbcr_of t871 (pixel 5 85 215)) ≡ pixel 4 86 214) × (rgb_of bt709 (ycbcr_of bt709 (pixel 55 15 5)) ≡ pixel 54 16 4)
unfolding rgb_of ycbcr_of byte_of
all_move = (refl, refl)

pub all_move_otherwise : (rgb_of t871 (ycbcr_of t871 (pixel 0 15 125)) ≡ pixel 1 14 126) × (rgb_of bt709 (ycbcr_of bt709 (pixel 0 35 100)) ≡ pixel 1 34 101)
unfolding rgb_of ycbcr_of byte_of
all_move_otherwise = (refl, refl)
