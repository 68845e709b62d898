-- By any weights, pure blue's exact Cb and pure red's exact Cr are 255 1/2: the nearest whole number, halves upward, is 256, and the byte is held at 255.
-- (N - kb) 255/(2(N - kb)) is 127 1/2, whatever kb is.
use mathlib.Core.Path.{◌≡◌}
use native.Mathlib.Omega.{arith}
use Rattle.nearest.specs.Nearest.{Nearest, Tie, byte_of}
use Rattle.nearest.proofs.Exactly.{byte-nearest}
use Rattle.ycbcr_weights.specs.declared.Weights.{Weights}
use Rattle.ycbcr_weights.specs.Weights.{Lawful}
use Rattle.ycbcr_weights.specs.Rgb.{pixel}
use Rattle.ycbcr_luma.specs.Ycbcr.{cb_at, cr_at}

module _ (w : Weights) (l : Lawful w) where
  pub blue-to-256 : Tie (cb_at w (pixel 0 0 255)) × Nearest (cb_at w (pixel 0 0 255)) 256 0
  blue-to-256 = (record { n = 255; m = 0; half = omega arith }, record { from = omega arith; below = omega arith })

  pub blue-held : byte_of (cb_at w (pixel 0 0 255)) ≡ 255
  blue-held = byte-nearest (cb_at w (pixel 0 0 255)) 256 0 blue-to-256.1

  pub red-to-256 : Tie (cr_at w (pixel 255 0 0)) × Nearest (cr_at w (pixel 255 0 0)) 256 0
  red-to-256 = (record { n = 255; m = 0; half = omega arith }, record { from = omega arith; below = omega arith })

  pub red-held : byte_of (cr_at w (pixel 255 0 0)) ≡ 255
  red-held = byte-nearest (cr_at w (pixel 255 0 0)) 256 0 red-to-256.1
