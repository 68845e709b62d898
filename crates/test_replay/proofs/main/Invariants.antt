-- `main` is safe and ends.
-- Each turn leaves fewer turns.
use Rattle.test_replay.proofs.main.Given as goal

abbrev pub decreases-loop-p : goal.decreases-loop-p
decreases-loop-p l = l.p.turns
