-- `matrix_samples` multiplies each triple where the lengths are equal, and changes nothing where they are not.
-- The test of the lengths decides; the loop argument is `InStep`'s, for the function `applied m`.
use Rattle.ciexyz.specs.Matrix.{applied}
use Rattle.channels.proofs.InStep.{Stepped}
use Rattle.steps.proofs.matrices.matrix_samples.Given as goal

abbrev pub invariant-loop-i : goal.invariant-loop-i
invariant-loop-i l = Stepped (applied l.m) l.initial.a l.initial.b l.initial.c l.i l.a l.b l.c
