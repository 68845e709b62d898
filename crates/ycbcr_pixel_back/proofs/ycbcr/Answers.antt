-- `ycbcr` is the pixel by the weights.
-- Each of the three is its step's, whose number the weights' fraction is nearest.
use mathlib.Core.Path.{sym, ◌∙◌}
use native.Mathlib.Omega.{arith}
use Rattle.nearest.proofs.Exactly.{byte-nearest}
use Rattle.ycbcr_weights.specs.Rgb.{Bytes}
use Rattle.ycbcr_luma.specs.Ycbcr.{cb_at, cr_at, luma_at, ycbcr_of}
use Rattle.ycbcr_pixel_back.proofs.ycbcr.Goals as goal

pub returns : goal.returns
unfolding ycbcr_of
returns c =
    let w = c.args.f.weights in
    let p = c.args.p in
    let r = c.args.f.right in
    let b : Bytes p = record { first = omega arith; second = omega arith; third = omega arith } in
    let cb = c.chroma.ensures ∙ sym (byte-nearest (cb_at w p) _ _ (r.cb p b)) in
    let luma = c.luma.ensures ∙ sym (byte-nearest (luma_at w p) _ _ (r.luma p b)) in
    let cr = c.chroma-2.ensures ∙ sym (byte-nearest (cr_at w p) _ _ (r.cr p b)) in
    rw (cb, luma, cr)
