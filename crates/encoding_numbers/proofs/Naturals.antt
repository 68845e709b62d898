-- A number that is not negative, and one that is, as `natural` reads them; and that the one fits a u32.
-- By the sign.
use mathlib.Core.Path.{◌≡◌, refl}
use mathlib.Core.Bool.{true, false, true≢false}
use native.Mathlib.Omega.{arith}
use borrow.Author.Tests.{ltb-true}
use lib.Dec.{T}
use lib.IntN.{ℤ, pos, negsuc, nat_abs}
use lib.Signed.{lt_z, non_neg}
use mir.Syntax.{w32}
use mir.Val.{Fits, SFits}
use Rattle.encoding_numbers.specs.Sides.{natural}

pub negative : (z : ℤ) → lt_z z (pos 0) ≡ true → 0xffff_ffff ≡ natural z
negative (pos n) e = let k = ltb-true n 0 e in absurd (omega arith)
negative (negsuc n) e = refl

pub not_negative : (z : ℤ) → lt_z z (pos 0) ≡ false → nat_abs z ≡ natural z
not_negative (pos n) e = refl
not_negative (negsuc n) e = absurd (true≢false e)

pub may_be_cast : (z : ℤ) → lt_z z (pos 0) ≡ false → SFits w32 z → T (non_neg z) × Fits w32 (nat_abs z)
may_be_cast (pos n) e f = let h = f.sfits in (tt, record { fits = omega arith })
may_be_cast (negsuc n) e f = absurd (true≢false e)
