-- `each` makes `cubed` of each g.
-- The loop argument is `Rewriting`'s, for the mapped list.
use Prim.Native.Nat.{◌<◌}
use mathlib.Core.Path.{ap, sym, ◌∙◌}
use native.Mathlib.Omega.{arith}
use lib.ListN.{length}
use lib.Ieee.{Float, nan}
use Rattle.notation.specs.F32.{◌*f◌}
use Rattle.notation.proofs.Elements.{map_at}
use Rattle.notation.proofs.Rewriting.{write}
use Rattle.step_xyb.specs.Steps.{cubed}
use Rattle.step_xyb.proofs.cube.each.Goals as goal

pub loop-i-preserved : goal.loop-i-preserved
unfolding cubed
loop-i-preserved g c =
    let a = c.args in
    let i = c.loop-i.i in
    let h : i < length a.g.now = omega arith in
    write c.loop-i.invariant nan _ (omega (arith, c.requires.h_len))
    (ap (λ (y : Float). y *f a.scale) (c.requires.rounds_once i _ h c.mul_add.ensures) ∙ sym (map_at (cubed a.bias a.scale) a.g.now i nan nan h))
