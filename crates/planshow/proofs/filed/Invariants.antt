-- The loop of `filed` ends.
-- Each strip leaves fewer pixels.
use Rattle.planshow.proofs.filed.Given as goal

abbrev pub decreases-loop-left : goal.decreases-loop-left
decreases-loop-left l = l.left
