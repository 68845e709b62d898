-- `each_place` writes the pixel that `made` makes for each place.
-- Below place i each is written.
use Prim.Native.Nat.{ℕ, ◌<◌}
use Rattle.ycbcr_planes.specs.Planes.{pixel_at, planes}
use Rattle.ycbcr_planes.proofs.each_place.Given as goal

abbrev pub invariant-loop-i : goal.invariant-loop-i
invariant-loop-i g l = (k : ℕ) → k < l.i → goal.F-post g l.made k (pixel_at (planes l.r l.g l.b) k)
