-- `luma_to_xyz_samples` takes each sample to XYZ where the lengths are equal, and changes nothing where they are not.
-- The test of the lengths decides; the loop argument is `InStep`'s, for the function `xyz_of_luma illuminant`.
use Rattle.channels.proofs.InStep.{Stepped}
use Rattle.steps.specs.Samples.{xyz_of_luma}
use Rattle.steps.proofs.to_xyz.luma_to_xyz_samples.Given as goal

abbrev pub invariant-loop-i : goal.invariant-loop-i
invariant-loop-i l = Stepped (xyz_of_luma (record { x = l.x; y = l.y })) l.initial.a l.initial.b l.initial.c l.i l.a l.b l.c
