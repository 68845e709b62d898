-- `bad_in_piece` counts the bad samples of a piece.
-- There are no more of them than samples.
use native.Mathlib.Omega.{arith}
use Rattle.bad_samples.proofs.Counting.{few_in, from_place}
use Rattle.bad_samples.proofs.bad_in_piece.Goals as goal

pub overflow_add-bad : goal.overflow_add-bad
overflow_add-bad c = omega (arith, few_in c.args.samples.now, from_place c.args.samples.now c.loop-x.x-index (omega arith))
