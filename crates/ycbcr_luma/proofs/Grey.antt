-- Grey comes back as it was, by any weights: its Cb and Cr are 128, and its Y is the grey itself.
-- Each of the three fractions is that number itself; and back by `grey_stays_grey`.
use Prim.Native.Nat.{ℕ, ◌≤◌}
use mathlib.Core.Path.{◌≡◌, ap, ◌∙◌}
use native.Mathlib.Omega.{arith}
use Rattle.nearest.proofs.Exactly.{byte-whole}
use Rattle.ycbcr_weights.specs.declared.Weights.{Weights}
use Rattle.ycbcr_weights.specs.Weights.{Lawful}
use Rattle.ycbcr_weights.specs.Rgb.{pixel, rgb_of}
use Rattle.ycbcr_weights.proofs.Grey.{grey_stays_grey}
use Rattle.ycbcr_luma.specs.Ycbcr.{cb_at, cr_at, luma_at, ycbcr_of}

pub grey_has_no_chroma : (w : Weights) → Lawful w → (y : ℕ) → y ≤ 255 → ycbcr_of w (pixel y y y) ≡ pixel 128 y 128
unfolding ycbcr_of
grey_has_no_chroma w l y b =
    let p = pixel y y y in
    rw (byte-whole (cb_at w p) 128 (omega arith) (omega arith) (omega arith), byte-whole (luma_at w p) y (omega arith) b (omega arith), byte-whole (cr_at w p) 128 (omega arith) (omega arith) (omega arith))

pub grey_comes_back : (w : Weights) → Lawful w → (y : ℕ) → y ≤ 255 → rgb_of w (ycbcr_of w (pixel y y y)) ≡ pixel y y y
grey_comes_back w l y b = ap (rgb_of w) (grey_has_no_chroma w l y b) ∙ grey_stays_grey w l y b
