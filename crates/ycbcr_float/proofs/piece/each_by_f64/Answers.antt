-- `each_by_f64` converts each triple, where it says that every one is sure.
-- The loop argument is `InStep`'s, for the function `quick_by k`, which is `rgb_raised k` at every place that was passed.
use Rattle.std.proofs.Common.{◌≡◌, ◌<◌, length, sym, ◌∙◌, subst, arith, below_more}
use Rattle.ciexyz.specs.declared.Vec3.{Vec3}
use Rattle.channels.specs.Channels.{vec}
use Rattle.channels.proofs.Holds.{both_hold}
use Rattle.channels.proofs.InStep.{each-agrees, stepped, steps_begun, steps-ended, still-row}
use Rattle.ycbcr_float.specs.Steps.{Ready, quick_by, rgb_raised}
use Rattle.ycbcr_float.proofs.piece.each_by_f64.Goals as goal

pub loop-i-init : goal.loop-i-init
loop-i-init c = (steps_begun (quick_by c.args.k) _ _ _ c.requires.equally_long, λ w j h. absurd (omega arith))

pub by_f64-out-requires-clause-ready : goal.by_f64-out-requires-clause-ready
by_f64-out-requires-clause-ready c =
    let h : c.loop-i.i < length c.args.cb.now = omega arith in
    subst Ready (sym (still-row c.loop-i.invariant.0 h)) (c.requires.all_ready c.loop-i.i h)

pub loop-i-preserved : goal.loop-i-preserved
loop-i-preserved c =
    let f = c.by_f64-out in
    let l = c.loop-i in
    let v = l.invariant in
    let a = c.args in
    let h : l.i < length a.cb.now = omega arith in (
      stepped v.0 (vec f.result.red f.result.green f.result.blue) h f.ensures.blue_value,
      λ e.
          let g = both_hold l.sure f.result.sure e in
          below_more _ l.i (v.1 g.0) (subst (λ (s : Vec3). quick_by a.k s ≡ rgb_raised a.k s) (still-row v.0 h) (f.ensures.cbycr_value g.1)),
    )

pub returns : goal.returns
returns c =
    let v = c.loop-i.invariant in
    let a = c.args in
    λ e. steps-ended v.0 (omega arith) ∙ each-agrees (quick_by a.k) (rgb_raised a.k) a.cb.now a.y.now a.cr.now c.requires.equally_long (λ j h. v.1 e j (omega arith))
