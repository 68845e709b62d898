-- `narrow` makes each byte by the index rule where the lengths fit, and changes nothing where they do not.
-- Before pair i each mean is made.
use Prim.Native.Nat.{ℕ, ◌<◌}
use mathlib.Core.Path.{◌≡◌}
use lib.ListN.{get_or}
use Rattle.chroma_half.specs.Narrowing.{narrowed_at}
use Rattle.chroma_half.proofs.narrow.Given as goal

abbrev pub invariant-loop-i : goal.invariant-loop-i
invariant-loop-i l = (k : ℕ) → k < l.i → get_or l.out k 0 ≡ narrowed_at l.c k
