-- Grey stays grey, by any weights: where Cb and Cr are 128, red, green and blue are Y.
-- Each of the three fractions is then Y itself.
use Prim.Native.Nat.{ℕ, ◌≤◌, ◌<◌}
use mathlib.Core.Path.{◌≡◌}
use native.Mathlib.Nat.{mul-pos}
use native.Mathlib.Omega.{arith}
use Rattle.nearest.proofs.Exactly.{byte-whole}
use Rattle.ycbcr_weights.specs.declared.Weights.{Weights}
use Rattle.ycbcr_weights.specs.Weights.{Lawful, bt709, t871, whole}
use Rattle.ycbcr_weights.specs.Rgb.{pixel, red_at, green_at, blue_at, rgb_of}

pub grey_stays_grey : (w : Weights) → Lawful w → (y : ℕ) → y ≤ 255 → rgb_of w (pixel 128 y 128) ≡ pixel y y y
unfolding rgb_of
grey_stays_grey w l y b =
    let p = pixel 128 y 128 in
    let n : 0 < whole w = omega arith in
    rw (byte-whole (red_at w p) y n b (omega arith), byte-whole (green_at w p) y (mul-pos l n) b (omega arith), byte-whole (blue_at w p) y n b (omega arith))

-- so it does at both sets
pub grey_at_both : (y : ℕ) → y ≤ 255 → (rgb_of t871 (pixel 128 y 128) ≡ pixel y y y) × (rgb_of bt709 (pixel 128 y 128) ≡ pixel y y y)
grey_at_both y b = (grey_stays_grey t871 (omega arith) y b, grey_stays_grey bt709 (omega arith) y b)
