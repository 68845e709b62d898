-- `by_f64` is `quick_by`, and says where that is `rgb_raised`.
-- Each sum of the window may be rounded by its pattern (`Quick`); where all four tests hold, none was half way.
use Rattle.std.proofs.Common.{◌≡◌, ◌&&◌, sym, ap, ◌∙◌}
use lib.Ieee.{Float, binary64, of_bits}
use Rattle.rounding.specs.Steps.{by_f64}
use Rattle.rounding.proofs.ByPattern.{pattern-is, pattern-single, pattern-still, surely}
use Rattle.channels.proofs.Holds.{both_hold}
use Rattle.ycbcr_float.proofs.Quick.{blue-sum, cr-sum, green-sum, quick_is, red-sum, sure-rgb}
use Rattle.ycbcr_float.proofs.Sums.{widens}
use Rattle.ycbcr_float.proofs.one_pixel.by_f64.Goals as goal

pub float_to_float-cb : goal.float_to_float-cb
float_to_float-cb c = widens c.requires.ready.cb

pub float_to_float-y : goal.float_to_float-y
float_to_float-y c = widens c.requires.ready.y

pub float_to_float-cr : goal.float_to_float-cr
float_to_float-cr c = widens c.requires.ready.cr

pub float_to_float-k : goal.float_to_float-k
float_to_float-k c = widens c.requires.factors.red

pub float_to_bits-cr : goal.float_to_bits-cr
float_to_bits-cr c =
    (red-sum c.args.k c.args.cbycr c.requires.factors c.requires.ready).rounds.real

pub float_to_float-k-2 : goal.float_to_float-k-2
float_to_float-k-2 c = widens c.requires.factors.cr

pub float_to_bits-cr-2 : goal.float_to_bits-cr-2
float_to_bits-cr-2 c =
    (cr-sum c.args.k c.args.cbycr c.requires.factors c.requires.ready).rounds.real

pub float_from_bits-luma_and_cr : goal.float_from_bits-luma_and_cr
float_from_bits-luma_and_cr c =
    pattern-still _ _ c.rounded-with_cr.ensures.pattern_value (cr-sum c.args.k c.args.cbycr c.requires.factors c.requires.ready).rounds

pub float_to_float-k-3 : goal.float_to_float-k-3
float_to_float-k-3 c = widens c.requires.factors.cb

pub float_to_bits-cb : goal.float_to_bits-cb
float_to_bits-cb c =
    (green-sum c.args.k c.args.cbycr c.requires.factors c.requires.ready _ (pattern-is _ _ c.rounded-with_cr.ensures.pattern_value)).rounds.real

pub float_to_float-k-4 : goal.float_to_float-k-4
float_to_float-k-4 c = widens c.requires.factors.blue

pub float_to_bits-cb-2 : goal.float_to_bits-cb-2
float_to_bits-cb-2 c =
    (blue-sum c.args.k c.args.cbycr c.requires.factors c.requires.ready).rounds.real

pub float_from_bits-result : goal.float_from_bits-result
float_from_bits-result c =
    pattern-still _ _ c.rounded-red.ensures.pattern_value (red-sum c.args.k c.args.cbycr c.requires.factors c.requires.ready).rounds

pub float_to_float-result : goal.float_to_float-result
float_to_float-result c =
    pattern-single _ _ c.rounded-red.ensures.pattern_value (red-sum c.args.k c.args.cbycr c.requires.factors c.requires.ready).rounds

pub float_from_bits-result-2 : goal.float_from_bits-result-2
float_from_bits-result-2 c =
    pattern-still _ _ c.rounded-green.ensures.pattern_value (green-sum c.args.k c.args.cbycr c.requires.factors c.requires.ready _ (pattern-is _ _ c.rounded-with_cr.ensures.pattern_value)).rounds

pub float_to_float-result-2 : goal.float_to_float-result-2
float_to_float-result-2 c =
    pattern-single _ _ c.rounded-green.ensures.pattern_value (green-sum c.args.k c.args.cbycr c.requires.factors c.requires.ready _ (pattern-is _ _ c.rounded-with_cr.ensures.pattern_value)).rounds

pub float_from_bits-result-3 : goal.float_from_bits-result-3
float_from_bits-result-3 c =
    pattern-still _ _ c.rounded-blue.ensures.pattern_value (blue-sum c.args.k c.args.cbycr c.requires.factors c.requires.ready).rounds

pub float_to_float-result-3 : goal.float_to_float-result-3
float_to_float-result-3 c =
    pattern-single _ _ c.rounded-blue.ensures.pattern_value (blue-sum c.args.k c.args.cbycr c.requires.factors c.requires.ready).rounds

pub returns : goal.returns
returns c =
    let k = c.args.k in
    let s = c.args.cbycr in
    let a = c.rounded-red in
    let t = c.rounded-with_cr in
    let g = c.rounded-green in
    let b = c.rounded-blue in
    let v = pattern-is _ _ t.ensures.pattern_value in
    let e : of_bits binary64 g.result.pattern ≡ by_f64 s.v0 k.cb (by_f64 s.v2 k.cr s.v1) = pattern-is _ _ g.ensures.pattern_value ∙ ap (λ (v : Float). by_f64 s.v0 k.cb v) v in
    record {
      blue_value = quick_is k s _ _ _ (pattern-is _ _ a.ensures.pattern_value) e (pattern-is _ _ b.ensures.pattern_value);
      cbycr_value = λ h.
          let p = both_hold (a.result.sure && t.result.sure && g.result.sure) b.result.sure h in
          let q = both_hold (a.result.sure && t.result.sure) g.result.sure p.0 in
          let r = both_hold a.result.sure t.result.sure q.0 in
          sure-rgb k s c.requires.factors c.requires.ready _ v (surely _ (sym a.ensures.sure_value ∙ r.0)) (surely _ (sym t.ensures.sure_value ∙ r.1)) (surely _ (sym g.ensures.sure_value ∙ q.1)) (surely _ (sym b.ensures.sure_value ∙ p.1));
    }
