-- `xyz_to_luma_samples` copies b to a where the lengths are equal, and changes nothing where they are not.
-- The test of the lengths decides; the loop argument is `Rewriting`'s, for the list b.
use mathlib.Core.Path.{refl}
use native.Mathlib.Omega.{arith}
use lib.Ieee.{nan}
use Rattle.notation.proofs.Rewriting.{write}
use Rattle.steps.proofs.to_luma.xyz_to_luma_samples.Goals as goal

pub loop-i-preserved : goal.loop-i-preserved
loop-i-preserved c = write c.loop-i.invariant nan _ (omega arith) refl
