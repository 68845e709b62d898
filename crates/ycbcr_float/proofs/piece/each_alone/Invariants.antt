-- `each_alone` converts each triple that was kept.
-- The loop argument is `Across`'s, for the function `rgb_raised k`.
use Rattle.channels.proofs.Across.{Across}
use Rattle.channels.proofs.InStep.{samples}
use Rattle.ycbcr_float.specs.Steps.{rgb_raised}
use Rattle.ycbcr_float.proofs.piece.each_alone.Given as goal

abbrev pub invariant-loop-i : goal.invariant-loop-i
invariant-loop-i l = Across samples (rgb_raised l.k) l.kept.cb.now l.kept.y.now l.kept.cr.now l.initial.cb l.initial.y l.initial.cr l.i l.cb l.y l.cr
