-- `rgb` is the pixel by the weights.
-- Each of the three is its step's, whose number the weights' fraction is nearest.
use mathlib.Core.Path.{sym, ◌∙◌}
use native.Mathlib.Omega.{arith}
use Rattle.nearest.proofs.Exactly.{byte-nearest}
use Rattle.ycbcr_weights.specs.Rgb.{Bytes, blue_at, green_at, red_at, rgb_of}
use Rattle.ycbcr_pixel.proofs.rgb.Goals as goal

pub returns : goal.returns
unfolding rgb_of
returns c =
    let w = c.args.f.weights in
    let p = c.args.p in
    let r = c.args.f.right in
    let b : Bytes p = record { first = omega arith; second = omega arith; third = omega arith } in
    let red = c.red_or_blue.ensures ∙ sym (byte-nearest (red_at w p) _ _ (r.red p b)) in
    let green = c.green.ensures ∙ sym (byte-nearest (green_at w p) _ _ (r.green p b)) in
    let blue = c.red_or_blue-2.ensures ∙ sym (byte-nearest (blue_at w p) _ _ (r.blue p b)) in
    rw (red, green, blue)
