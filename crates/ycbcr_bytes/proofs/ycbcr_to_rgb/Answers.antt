-- `ycbcr_to_rgb` converts each pixel where `judge` lets it, and changes nothing where it does not.
-- The answer Ok gives the lengths; each pixel is converted at its place, by the firmware's weights.
use Prim.Native.Nat.{ℕ, ◌<◌}
use mathlib.Core.Path.{◌≡◌, ap, sym, ◌∙◌}
use lib.ListN.{length}
use Rattle.std.proofs.Common.{rules}
use Rattle.ycbcr_weights.specs.Rgb.{rgb_of}
use Rattle.ycbcr_firmware.specs.Conversion.{conversion_of}
use Rattle.ycbcr_firmware.proofs.Exactly.{done-equal}
use Rattle.ycbcr_planes.specs.Planes.{equally_long, pixel_at, planes}
use Rattle.ycbcr_planes.proofs.Exactly.{equal_exactly}
use Rattle.ycbcr_planes.proofs.Placing.{each_placed}
use Rattle.ycbcr_bytes.proofs.ycbcr_to_rgb.Goals as goal

pub returns-clause-b_after : goal.returns-clause-b_after
returns-clause-b_after c =
    let a = c.args in
    let n = a.firmware in
    let o = c.each_place.new in
    let s = planes a.cb.now a.y.now a.cr.now in
    let t = planes a.r.now a.g.now a.b.now in
    let u = planes o.r o.g o.b in
    let e = c.in_ok-judge.ensures ∙ ap (conversion_of n) c.same_lengths-equal.ensures in
    let f = ap rgb_of c.forms_of-f.ensures in
    let at : (i : ℕ) → i < length t.a → pixel_at u i ≡ rgb_of c.forms_of-f.result.weights (pixel_at s i) = λ i h. search (rules, c.each_place.ensures i h) in
    let l = (equal_exactly s t).0 (done-equal n (equally_long s t) e) in
    rw (sym e, sym f) (each_placed _ s t u l c.each_place.auto.r c.each_place.auto.g c.each_place.auto.b at)
