-- `clip_if` clips each sample, or none.
-- The loop argument is `Rewriting`'s, for the mapped list.
use native.Mathlib.Omega.{arith}
use lib.Ieee.{nan}
use Rattle.notation.proofs.Rewriting.{map-write}
use Rattle.steps.specs.Samples.{clip_of}
use Rattle.steps.proofs.clipping.clip_if.Goals as goal

pub loop-x-preserved : goal.loop-x-preserved
loop-x-preserved c = map-write clip_of c.loop-x.invariant nan _ (omega arith) c.clipped.ensures
