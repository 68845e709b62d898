-- The constants of both sets of weights are factors of the window.
-- By computing: each is a number of 24 digits at a place of its own.
use Rattle.std.proofs.Common.{ℕ, Bool, true, false, eqb, refl, lit≤}
use lib.Ieee.{div, fits, mul, neg, of_bits, of_int}
use Rattle.notation.specs.Choice.{when◌then◌else◌}
use Rattle.ycbcr_weights.specs.Weights.{bt709, t871}
use Rattle.ycbcr_firmware.specs.Firmware.{weights_of}
use Rattle.ycbcr_float.specs.Ycbcr.{constants_of, green_of_cb, green_of_cr, part}
use Rattle.ycbcr_float.specs.Steps.{Factors}

t871-factors : Factors (constants_of t871)
unfolding green_of_cr green_of_cb part of_bits of_int neg mul div fits
t871-factors = record {
  red = record { single = tt; sign = false; M = 0xb3_74bc; y = 126; value = (refl, refl); few = lit≤ tt; low = lit≤ tt; high = lit≤ tt };
  blue = record { single = tt; sign = false; M = 0xe2_d0e5; y = 126; value = (refl, refl); few = lit≤ tt; low = lit≤ tt; high = lit≤ tt };
  cr = record { single = tt; sign = true; M = 0xb6_d1a2; y = 125; value = (refl, refl); few = lit≤ tt; low = lit≤ tt; high = lit≤ tt };
  cb = record { single = tt; sign = true; M = 0xb0_32a1; y = 124; value = (refl, refl); few = lit≤ tt; low = lit≤ tt; high = lit≤ tt };
}

bt709-factors : Factors (constants_of bt709)
unfolding green_of_cr green_of_cb part of_bits of_int neg mul div fits
bt709-factors = record {
  red = record { single = tt; sign = false; M = 0xc9_930c; y = 126; value = (refl, refl); few = lit≤ tt; low = lit≤ tt; high = lit≤ tt };
  blue = record { single = tt; sign = false; M = 0xed_844d; y = 126; value = (refl, refl); few = lit≤ tt; low = lit≤ tt; high = lit≤ tt };
  cr = record { single = tt; sign = true; M = 0xef_adfc; y = 124; value = (refl, refl); few = lit≤ tt; low = lit≤ tt; high = lit≤ tt };
  cb = record { single = tt; sign = true; M = 0xbf_d1ee; y = 123; value = (refl, refl); few = lit≤ tt; low = lit≤ tt; high = lit≤ tt };
}

-- and so are those of any firmware
pub factors_of_lem : (firmware : ℕ) → Factors (constants_of (weights_of firmware))
factors_of_lem firmware = by (eqb firmware 4)
  where
    by : (b : Bool) → Factors (constants_of (when b then bt709 else t871))
    by true = bt709-factors
    by false = t871-factors
