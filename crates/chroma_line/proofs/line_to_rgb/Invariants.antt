-- `line_to_rgb` converts each pixel, its chroma widened, where `judge` lets it, and changes nothing where it does not.
-- Before place i stand the pixels that are made, from there on still the widened chroma.
use Prim.Native.Nat.{ℕ, ◌<◌, ◌≤◌}
use mathlib.Core.Path.{◌≡◌}
use lib.ListN.{get_or}
use Rattle.ycbcr_weights.specs.Rgb.{rgb_of}
use Rattle.ycbcr_firmware.specs.Firmware.{weights_of}
use Rattle.ycbcr_planes.specs.Planes.{pixel_at, planes}
use Rattle.chroma_line.specs.Line.{widened_both}
use Rattle.chroma_line.proofs.line_to_rgb.Given as goal

abbrev pub invariant-loop-i : goal.invariant-loop-i
invariant-loop-i l = record {
  made : (k : ℕ) → k < l.i → pixel_at (planes l.r l.g l.b) k ≡ rgb_of (weights_of l.firmware) (pixel_at (widened_both (planes l.cb l.y l.cr)) k);
  still_cb : (k : ℕ) → l.i ≤ k → get_or l.r k 0 ≡ get_or (widened_both (planes l.cb l.y l.cr)).a k 0;
  still_cr : (k : ℕ) → l.i ≤ k → get_or l.b k 0 ≡ get_or (widened_both (planes l.cb l.y l.cr)).c k 0;
}
