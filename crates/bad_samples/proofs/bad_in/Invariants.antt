-- `bad_in` counts the bad samples of a channel.
-- What is counted of the pieces so far, with what is left to cut, is the whole count.
use Prim.Native.Nat.{◌+◌}
use mathlib.Core.Path.{◌≡◌}
use Rattle.std.specs.Slice.Iter.{chunks_rest, chunks_size}
use Rattle.bad_samples.specs.Bad.{bad_in}
use Rattle.bad_samples.proofs.bad_in.Given as goal

abbrev pub invariant-loop-piece : goal.invariant-loop-piece
invariant-loop-piece l = (chunks_size l.piece-iterator ≡ 256) × (l.bad + bad_in (chunks_rest l.piece-iterator) ≡ bad_in l.samples)
