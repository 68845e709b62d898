-- `is_bias` says `Bias` of a float.
-- Where both of its tests hold, that is `Range`'s.
use mathlib.Core.Path.{subst, sym}
use lib.Dec.{T}
use lib.Ieee.{le, neg}
use Rattle.channels.proofs.Holds.{both_hold}
use Rattle.step_xyb.proofs.Range.{bias_is, least_bias, most_bias}
use Rattle.step_xyb.proofs.window.is_bias.Goals as goal

pub returns : goal.returns
returns c = λ e.
    let x = c.args.c in
    let t = both_hold (le least_bias (neg x)) (le (neg x) most_bias) e in
    bias_is c.args.c (subst T (sym c.well_formed.0.1) tt) (subst T (sym t.0) tt) (subst T (sym t.1) tt)
