-- `clip_if` clips each sample, or none.
-- The loop argument is `Rewriting`'s, for the mapped list.
use mathlib.Core.List.{map}
use Rattle.notation.proofs.Rewriting.{Rewritten}
use Rattle.steps.specs.Samples.{clip_of}
use Rattle.steps.proofs.clipping.clip_if.Given as goal

abbrev pub invariant-loop-x : goal.invariant-loop-x
invariant-loop-x l = Rewritten (map clip_of l.initial.samples) l.initial.samples l.x-index l.samples
