-- `xyz_to_luma_samples` copies b to a where the lengths are equal, and changes nothing where they are not.
-- The loop argument is `Rewriting`'s, for the list b.
use Rattle.notation.proofs.Rewriting.{Rewritten}
use Rattle.steps.proofs.to_luma.xyz_to_luma_samples.Given as goal

abbrev pub invariant-loop-i : goal.invariant-loop-i
invariant-loop-i l = Rewritten l.b l.initial.a l.i l.a
