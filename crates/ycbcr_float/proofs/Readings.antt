-- A sample that the two sets of weights turn into other numbers: Cb 1/4, Y 0, Cr 1/2.
-- By computing.
use Rattle.std.proofs.Common.{◌≡◌, refl}
use lib.Ieee.{add, div, mul, neg, of_bits, of_int, sum}
use Rattle.notation.specs.F32.{bits}
use Rattle.fused.specs.Fused.{fused}
use Rattle.channels.specs.Channels.{vec}
use Rattle.ciexyz.specs.declared.Vec3.{Vec3}
use Rattle.ycbcr_weights.specs.Weights.{bt709, t871}
use Rattle.ycbcr_float.specs.Ycbcr.{green_of_cb, green_of_cr, part, raised, rgb_by, rgb_of}

abbrev sample : Vec3
sample = vec (bits 0x3e80_0000) (bits 0) (bits 0x3f00_0000)

pub they_differ : (rgb_of t871 sample ≡ vec (bits 0x3f99_fa9e) (bits 0x3d71_15be) (bits 0x3f71_e8f4)) × (rgb_of bt709 sample ≡ vec (bits 0x3fa5_09c6) (bits 0x3e62_5f8c) (bits 0x3f77_42a8))
unfolding rgb_by raised green_of_cr green_of_cb part fused sum of_bits of_int neg add mul div
they_differ = (refl, refl)
