-- Each constant of YCbCr is the f32 nearest its decimal, at both sets of weights; the quotients of green are rounded operation by operation.
-- One claim over a list of rows, which antt computes; then the bits.
use Rattle.std.proofs.Common.{◌≡◌, List, [], ◌∷◌, refl}
use lib.Ieee.{round, of_bits, of_int, div, mul, neg}
use Rattle.notation.specs.F32.{bits}
use Rattle.notation.proofs.Decimals.{Row, ◌is◌over◌, AreNearest}
use Rattle.ycbcr_weights.specs.Weights.{bt709, t871}
use Rattle.ycbcr_float.specs.Ycbcr.{half, full, part, red_weight, green_weight, blue_weight, red_factor, blue_factor, green_of_cb, green_of_cr}

abbrev pub decimals : List Row
decimals =
    (half is 128 over 1)
    ∷ (full is 255 over 1)
    ∷ (red_weight t871 is 299 over 1000)
    ∷ (green_weight t871 is 587 over 1000)
    ∷ (blue_weight t871 is 114 over 1000)
    ∷ (red_factor t871 is 1402 over 1000)
    ∷ (blue_factor t871 is 1772 over 1000)
    ∷ (red_weight bt709 is 2126 over 10000)
    ∷ (green_weight bt709 is 7152 over 10000)
    ∷ (blue_weight bt709 is 722 over 10000)
    ∷ (red_factor bt709 is 15748 over 10000)
    ∷ (blue_factor bt709 is 18556 over 10000)
    ∷ []

pub nearest-decimals : AreNearest decimals
unfolding part of_bits of_int round div
nearest-decimals = refl

-- the constants of the Rust, as it rounds them
pub t871-bits : (red_weight t871 ≡ bits 0x3e99_1687) × (green_weight t871 ≡ bits 0x3f16_45a2) × (blue_weight t871 ≡ bits 0x3de9_78d5) × (red_factor t871 ≡ bits 0x3fb3_74bc) × (blue_factor t871 ≡ bits 0x3fe2_d0e5)
unfolding part of_bits of_int div
t871-bits = (refl, refl, refl, refl, refl)

-- green's, by T.871 and by BT.709
pub green-bits : (green_of_cr t871 ≡ bits 0xbf36_d1a2) × (green_of_cb t871 ≡ bits 0xbeb0_32a1) × (green_of_cr bt709 ≡ bits 0xbeef_adfc) × (green_of_cb bt709 ≡ bits 0xbe3f_d1ee)
unfolding green_of_cr green_of_cb part of_bits of_int neg mul div
green-bits = (refl, refl, refl, refl)
