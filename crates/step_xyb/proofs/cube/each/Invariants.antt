-- `each` makes `cubed` of each g.
-- The loop argument is `Rewriting`'s, for the mapped list.
use mathlib.Core.List.{map}
use Rattle.notation.proofs.Rewriting.{Rewritten}
use Rattle.step_xyb.specs.Steps.{cubed}
use Rattle.step_xyb.proofs.cube.each.Given as goal

abbrev pub invariant-loop-i : goal.invariant-loop-i
invariant-loop-i g l = Rewritten (map (cubed l.bias l.scale) l.g) l.initial.h l.i l.h
