-- `cube` makes `cubed` of each g.
-- Where the bias and every g are in the window, the sum by parts is the fused one (`Range`).
use mathlib.Core.Path.{◌∙◌}
use Rattle.step_xyb.proofs.Range.{windowed}
use Rattle.step_xyb.proofs.cube.cube.Goals as goal

pub each-requires-clause-callable : goal.each-requires-clause-callable
each-requires-clause-callable c = λ k l.
    let w = c.requires.bias c.if-quick.true in
    let r = windowed _ c.args.bias (w.1 k l) w.0 in
    (r.square, r.root)

pub each-requires-clause-rounds_once : goal.each-requires-clause-rounds_once
each-requires-clause-rounds_once c = λ k s l e.
    let w = c.requires.bias c.if-quick.true in
    e ∙ (windowed _ c.args.bias (w.1 k l) w.0).sum
