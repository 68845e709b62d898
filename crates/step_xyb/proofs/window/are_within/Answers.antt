-- `are_within` says `Within` of the three.
-- Where all four tests hold, that is `Range`'s.
use mathlib.Core.Path.{subst, sym}
use mathlib.Core.Bool.{◌&&◌}
use lib.Dec.{T}
use lib.Ieee.{le}
use Rattle.notation.specs.F32.{◌+f◌}
use Rattle.channels.proofs.Holds.{both_hold}
use Rattle.step_xyb.specs.Steps.{least, most}
use Rattle.step_xyb.proofs.Range.{all_within}
use Rattle.step_xyb.proofs.window.are_within.Goals as goal

pub returns : goal.returns
returns c = λ e.
    let a = c.args in
    let g = c.well_formed in
    let t = both_hold (le least a.l && le least a.m && le least a.s) (le (a.l +f a.m +f a.s) most) e in
    let s = both_hold (le least a.l && le least a.m) (le least a.s) t.0 in
    let m = both_hold (le least a.l) (le least a.m) s.0 in
    all_within a.l a.m a.s (subst T (sym g.0.1) tt) (subst T (sym g.1.0.1) tt) (subst T (sym g.1.1.0.1) tt) (subst T (sym m.0) tt) (subst T (sym m.1) tt) (subst T (sym s.1) tt) (subst T (sym t.1) tt)
