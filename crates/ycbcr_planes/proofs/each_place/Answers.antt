-- `each_place` writes the pixel that `made` makes for each place.
-- What is written at place i changes none below (`Placing`).
use native.Mathlib.Omega.{arith}
use Rattle.ycbcr_planes.specs.Planes.{planes}
use Rattle.ycbcr_planes.proofs.Placing.{placed}
use Rattle.ycbcr_planes.proofs.each_place.Goals as goal

pub loop-i-preserved : goal.loop-i-preserved
loop-i-preserved g c =
    let l = c.loop-i in
    placed (planes l.r l.g l.b) l.i c.made-out.result (omega arith) (omega arith) (omega arith) (λ k p. g.F.Fn.post c.args.made (k, tt) p) l.invariant c.made-out.ensures
