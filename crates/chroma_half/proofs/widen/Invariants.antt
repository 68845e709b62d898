-- `widen` makes each byte by the index rule where the lengths fit, and changes nothing where they do not.
-- Before byte i all but the first output are made up to 2i - 2.
use Prim.Native.Nat.{ℕ, ◌-◌, ◌*◌, ◌<◌}
use mathlib.Core.Path.{◌≡◌}
use lib.ListN.{get_or}
use Rattle.chroma_half.specs.Widening.{widened_at}
use Rattle.chroma_half.proofs.widen.Given as goal

abbrev pub invariant-loop-i : goal.invariant-loop-i
invariant-loop-i l = (k : ℕ) → 0 < k → k < 2 * l.i - 1 → get_or l.out k 0 ≡ widened_at l.c k
