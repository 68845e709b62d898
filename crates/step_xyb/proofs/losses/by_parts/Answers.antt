-- `by_parts` is the definition's.
-- The code is the definition, with what the product lost in its place.
use mathlib.Core.Path.{ap}
use lib.Ieee.{Float}
use Rattle.notation.specs.F32.{◌+f◌, ◌-f◌, ◌*f◌}
use Rattle.rounding.specs.Steps.{by_parts}
use Rattle.step_xyb.proofs.losses.by_parts.Goals as goal

pub returns : goal.returns
unfolding by_parts
returns c =
    let x = c.args in
    let p = x.a *f x.b in
    let s = p +f x.c in
    ap (λ (l : Float). s +f (x.c -f (s -f p) +f l)) c.lost.ensures
