-- `screen_byte` is `screen_byte`.
-- A NaN stays one where it is clipped, and gives 0; of any other sample the pattern of the sum is a law of `Sum`.
use Prim.Native.Nat.{◌+◌}
use mathlib.Core.Path.{◌≡◌, ap, subst, sym, ◌∙◌}
use mathlib.Core.Bool.{not}
use native.Mathlib.Omega.{arith}
use lib.Dec.{T}
use lib.Ieee.{binary32, binary64, fits, is_nan, to_bits}
use Rattle.binary32.proofs.Nan.{number, only_nan}
use Rattle.screen_bytes.proofs.Clipped.{Clipped, clipped-is, clipped-fits}
use Rattle.screen_bytes.proofs.Nearest.{within}
use Rattle.screen_bytes.proofs.Sum.{summed, sum-pattern}
use Rattle.screen_bytes.specs.Screen.{nearest_byte, screen_byte}
use Rattle.screen_bytes.proofs.screen_byte.Goals.{Else-is_nan}
use Rattle.screen_bytes.proofs.screen_byte.Goals as goal

-- that the format holds the sample is told by owning it
held : (c : Else-is_nan) → T (fits binary32 c.clipped-clipped.result)
held c = let z = c in rw c.clipped-clipped.ensures (clipped-fits _ (subst T (sym c.well_formed.0.1) tt))

some : (c : Else-is_nan) → T (not (is_nan c.clipped-clipped.result))
some c = number _ (sym c.is_nan.ensures.value ∙ c.if-is_nan.false)

sum : (c : Else-is_nan)
    → (to_bits binary64 (summed c.clipped-clipped.result) ≡ 0x4330_0000_0000_0000 + screen_byte c.args.sample)
    × T (not (is_nan (summed c.clipped-clipped.result)))
unfolding screen_byte
sum c = let e = c.clipped-clipped.ensures in rw (← e) (sum-pattern _ (held c) (some c) (subst Clipped (sym e) (clipped-is _)))

pub returns-then-is_nan : goal.returns-then-is_nan
unfolding screen_byte
returns-then-is_nan c = ap nearest_byte (sym (only_nan _ (sym c.is_nan.ensures.value ∙ c.if-is_nan.true)) ∙ c.clipped-clipped.ensures)

pub float_to_bits-result : goal.float_to_bits-result
float_to_bits-result c = (sum (goal.at.float_to_bits-result c).Else-is_nan).1

pub overflow_sub-result : goal.overflow_sub-result
overflow_sub-result c = omega (arith, (sum (goal.at.overflow_sub-result c).Else-is_nan).0)

pub overflow_cast-result : goal.overflow_cast-result
overflow_cast-result c = omega (arith, (sum (goal.at.overflow_cast-result c).Else-is_nan).0, within c.args.sample)

pub returns : goal.returns
returns c = omega (arith, (sum (goal.at.returns c).Else-is_nan).0)
