-- The loop of `run_strips` ends.
-- Each strip leaves fewer pixels.
use Rattle.planrun.proofs.run_strips.Given as goal

abbrev pub decreases-loop-p : goal.decreases-loop-p
decreases-loop-p l = l.p.left
