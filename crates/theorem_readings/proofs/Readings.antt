-- Every starred case of 01 holds, in one claim.
-- The checker computes every row, once the cube roots of the biases, 0 and 8, are known to be 0 and 2.
use Prim.Native.Nat.{ℕ}
use mathlib.Core.Path.{ap, refl, sym, ◌≡◌}
use mathlib.Core.List.{List}
use lib.Ieee.{Float, add, div, fits, is_nan, lt, mul, of_bits, size, sub, sum, to_bits}
use Rattle.notation.specs.F32.{◌/f◌, bits, one}
use Rattle.fused.specs.Fused.{fused}
use Rattle.cbrt.specs.Root.{cbrt_of, is_root}
use Rattle.cbrt.proofs.Found.{cbrt-is}
use Rattle.ciexyz.specs.Matrix.{product}
use Rattle.list.specs.Lists.{is_true}
use Rattle.channels.specs.Channels.{vec}
use Rattle.step_xyb.specs.Xyb.{mixed, mixed_by, roots_of}
use Rattle.steps.specs.Samples.{xyz_of_luma}
use Rattle.block_read.specs.Fields.{first_float, op_read}
use Rattle.block_read.specs.BadFields.{bad_field}
use Rattle.theorem_readings.specs.Rows.{Hold, bits_of, rows, samples, xyb}

cbrt-0 : bits 0 ≡ cbrt_of (bits 0)
unfolding is_root of_bits size fits
cbrt-0 = cbrt-is (bits 0) (bits 0) tt tt tt

cbrt-8 : bits 0x4000_0000 ≡ cbrt_of (bits 0x4100_0000)
unfolding is_root of_bits size fits
cbrt-8 = cbrt-is (bits 0x4100_0000) (bits 0x4000_0000) tt tt tt

-- XYB (1,2,3), by the root of the biases
abbrev xyb_by : Float → Float → Float → List ℕ
xyb_by root bias scale =
    bits_of (samples (mixed_by (vec root root root) (vec bias bias bias) scale (vec one (bits 0x4000_0000) (bits 0x4040_0000))))

xyb-is : (root bias intensity : ℕ) → bits root ≡ cbrt_of (bits bias)
    → xyb bias intensity ≡ xyb_by (bits root) (bits bias) (bits 0x437f_0000 /f bits intensity)
unfolding roots_of
xyb-is root bias intensity e = sym (ap (λ (r : Float). xyb_by r (bits bias) (bits 0x437f_0000 /f bits intensity)) e)

pub readings : Hold rows
unfolding rows is_true product mixed mixed_by fused bad_field first_float op_read xyz_of_luma sum of_bits to_bits mul sub div add lt is_nan
readings = (
  refl,
  (
    xyb-is 0 0 0x437f_0000 cbrt-0,
    (
      xyb-is 0 0 0x42ff_0000 cbrt-0,
      (
        xyb-is 0x4000_0000 0x4100_0000 0x437f_0000 cbrt-8,
        (refl, (refl, (refl, (refl, (refl, (refl, (refl, (refl, (refl, (refl, tt)))))))))),
      ),
    ),
  ),
)
