-- `each_level` makes the level of each code.
-- The loop argument is `Rewriting`'s, for the mapped list.
use mathlib.Core.List.{map}
use Rattle.notation.proofs.Rewriting.{Rewritten}
use Rattle.srgb10_levels.specs.Levels.{divided_level}
use Rattle.srgb10_levels.proofs.each_level.Given as goal

abbrev pub invariant-loop-i : goal.invariant-loop-i
invariant-loop-i l = Rewritten (map divided_level l.codes) l.initial.levels l.i l.levels
