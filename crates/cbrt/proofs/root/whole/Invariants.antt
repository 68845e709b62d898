-- `whole` is the whole cube root of h * 2 ^ 24.
-- The whiteboard says so of the digits taken in: of none, of each three more, and of all of them.
use Rattle.cbrt.specs.Steps.{Whiteboard}
use Rattle.cbrt.proofs.root.whole.Given as goal

abbrev pub invariant-loop-taken : goal.invariant-loop-taken
invariant-loop-taken l = Whiteboard l.h l.y l.square l.remainder l.rest l._taken
