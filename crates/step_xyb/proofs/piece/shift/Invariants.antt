-- `shift` takes the roots off, and says whether all that is left is in the window.
-- The loop argument is `Rewriting`'s for each channel; the test holds for every place that was passed.
use mathlib.Core.Path.{◌≡◌}
use mathlib.Core.Bool.{true}
use Rattle.notation.proofs.Rewriting.{Rewritten}
use Rattle.channels.specs.Channels.{channels, each}
use Rattle.step_xyb.specs.Steps.{shifted}
use Rattle.step_xyb.proofs.Holds.{Before}
use Rattle.step_xyb.proofs.piece.shift.Given as goal

abbrev pub invariant-loop-i : goal.invariant-loop-i
invariant-loop-i l = let R = each (shifted l.roots) (channels l.x l.y l.b) in
    Rewritten R.a l.initial.p l.i l.p × Rewritten R.b l.initial.q l.i l.q × Rewritten R.c l.initial.r l.i l.r × (l.within ≡ true → Before l.i R.a × Before l.i R.b × Before l.i R.c)
