-- `each_alone` converts each triple that was kept.
-- The loop argument is `Across`'s, for the function `rgb_raised k`.
use Rattle.std.proofs.Common.{arith}
use lib.Ieee.{nan}
use Rattle.channels.proofs.Across.{across_begun, across-step}
use Rattle.channels.proofs.InStep.{samples}
use Rattle.ycbcr_float.specs.Steps.{rgb_raised}
use Rattle.ycbcr_float.proofs.piece.each_alone.Goals as goal

pub loop-i-preserved : goal.loop-i-preserved
loop-i-preserved c = across-step c.loop-i.invariant nan c.rgb-out.result (omega arith) c.rgb-out.ensures

pub loop-i-init : goal.loop-i-init
loop-i-init c =
    let e = c.requires.equally_long in
    let l = c.requires.cb_len in
    across_begun samples (rgb_raised c.args.k) _ _ _ _ _ _ (record { as_y = e.0; as_z = e.1; as_r = l.0; as_g = l.1; as_b = l.2 })
