-- From three byte channels, going there and back by one firmware moves no channel of the pixel at any place by more than 1.
-- What stands there is both functions of the pixel that stood there; and a firmware's weights are balanced.
use Prim.Native.Nat.{ℕ, ◌<◌}
use mathlib.Core.Path.{sym}
use mathlib.Core.Bool.{Bool, true, false}
use native.Mathlib.Nat.{le_of_eq, lt_of_lt_of_le}
use lib.Dec.{eqb}
use lib.ListN.{length}
use Rattle.notation.specs.Choice.{when◌then◌else◌}
use Rattle.ycbcr_weights.specs.Weights.{bt709, t871}
use Rattle.ycbcr_weights.specs.Rgb.{Bytes, rgb_of}
use Rattle.ycbcr_firmware.specs.Firmware.{weights_of}
use Rattle.ycbcr_planes.specs.Planes.{EquallyLong, Planes, each_pixel, pixel_at}
use Rattle.ycbcr_planes.proofs.Places.{each_at, each-equal, each_long}
use Rattle.ycbcr_luma.specs.Ycbcr.{ycbcr_of}
use Rattle.ycbcr_luma.specs.Near.{Balanced, Near}
use Rattle.ycbcr_luma.proofs.ThereAndBack.{balanced_bt709, balanced_t871, there_and_back}

balanced_of : (firmware : ℕ) → Balanced (weights_of firmware)
balanced_of firmware = by (eqb firmware 4)
  where
    by : (is-four : Bool) → Balanced (when is-four then bt709 else t871)
    by true = balanced_bt709
    by false = balanced_t871

pub channels-there_and_back :
    (firmware : ℕ) (s : Planes) → EquallyLong s s → (i : ℕ) → i < length s.a → Bytes (pixel_at s i) →
    Near (pixel_at s i) (pixel_at (each_pixel (rgb_of (weights_of firmware)) (each_pixel (ycbcr_of (weights_of firmware)) s)) i)
channels-there_and_back firmware s e i h b =
    let w = weights_of firmware in
    let t = each_pixel (ycbcr_of w) s in
    let k : i < length t.a = lt_of_lt_of_le h (le_of_eq (sym (each_long (ycbcr_of w) s e))) in
    rw (each_at (rgb_of w) t (each-equal (ycbcr_of w) s e) i k, each_at (ycbcr_of w) s e i h) (there_and_back w (balanced_of firmware) (pixel_at s i) b)
