-- `matrix_samples` multiplies each triple where the lengths are equal, and changes nothing where they are not.
-- The test of the lengths decides; the loop argument is `InStep`'s, for the function `applied m`.
use mathlib.Core.Path.{sym, ◌∙◌}
use native.Mathlib.Omega.{arith}
use Rattle.channels.proofs.InStep.{stepped, steps_begun}
use Rattle.channels.proofs.Lengths.{lengths_exactly}
use Rattle.steps.proofs.matrices.matrix_samples.Goals as goal

pub loop-i-init : goal.loop-i-init
loop-i-init c = steps_begun _ _ _ _ ((lengths_exactly _ _ _).0 (sym c.same_lengths.ensures ∙ c.if-not-same_lengths.false))

pub loop-i-preserved : goal.loop-i-preserved
loop-i-preserved c = stepped c.loop-i.invariant c.matmul3vec-result.result (omega arith) c.matmul3vec-result.ensures
