-- `upper` is the definition's.
-- No pattern of an f32 is so large that the product does not fit.
use mathlib.Core.Path.{refl, subst, sym}
use native.Mathlib.Omega.{arith}
use lib.Dec.{T}
use lib.Ieee.{binary32}
use lib.Ieee.Bits.{to_bits-lt}
use Rattle.rounding.specs.Steps.{upper}
use Rattle.step_xyb.proofs.losses.upper.Goals as goal

pub overflow_mul-result : goal.overflow_mul-result
overflow_mul-result c = omega (arith, to_bits-lt binary32 c.args.x (subst T (sym c.well_formed.0.1) tt))

pub returns : goal.returns
unfolding upper
returns c = refl
