-- `bad_in_piece` counts the bad samples of a piece.
-- What is counted before a place, with the rest, is the whole count.
use Prim.Native.Nat.{◌+◌}
use mathlib.Core.Path.{◌≡◌}
use lib.ListN.{drop}
use Rattle.bad_samples.specs.Bad.{bad_in}
use Rattle.bad_samples.proofs.bad_in_piece.Given as goal

abbrev pub invariant-loop-x : goal.invariant-loop-x
invariant-loop-x l = l.bad + bad_in (drop l.x-index l.samples) ≡ bad_in l.samples
