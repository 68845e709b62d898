-- `bad_in` counts the bad samples of a channel.
-- What is left to cut is the piece and then what is left after it.
use mathlib.Core.Path.{◌∙◌}
use native.Mathlib.Omega.{arith}
use Rattle.std.specs.Slice.Iter.{chunks_rest}
use Rattle.bad_samples.proofs.Counting.{few_in}
use Rattle.bad_samples.proofs.Joined.{in_cut}
use Rattle.bad_samples.proofs.bad_in.Goals as goal

pub overflow_add-bad : goal.overflow_add-bad
overflow_add-bad c =
    let cut = in_cut c.in-Some.piece.now (chunks_rest c.next.new.self) c.in-Some.ensures.steps.1.0 in
    omega (arith, few_in c.args.samples.now, cut)

pub loop-piece-preserved : goal.loop-piece-preserved
loop-piece-preserved c =
    let steps = c.in-Some.ensures.steps in
    let cut = in_cut c.in-Some.piece.now (chunks_rest c.next.new.self) steps.1.0 in
    (steps.0 ∙ c.loop-piece.invariant.0, omega (arith, cut))
