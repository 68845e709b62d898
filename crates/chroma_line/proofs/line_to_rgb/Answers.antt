-- `line_to_rgb` converts each pixel, its chroma widened, where `judge` lets it, and changes nothing where it does not.
-- The answer Ok gives the lengths; each pixel is made at its place.
use mathlib.Core.Path.{ap, sym, ◌∙◌}
use native.Mathlib.Omega.{arith}
use Rattle.ycbcr_firmware.specs.Conversion.{conversion_of}
use Rattle.ycbcr_firmware.proofs.Exactly.{done-equal}
use Rattle.ycbcr_planes.specs.Planes.{planes}
use Rattle.ycbcr_planes.proofs.Placing.{each_placed}
use Rattle.chroma_line.specs.Line.{line_fits, widened_both}
use Rattle.chroma_line.proofs.Exactly.{all_as_long, fits-exactly}
use Rattle.chroma_line.proofs.line_to_rgb.Goals as goal

pub returns-clause-b_after : goal.returns-clause-b_after
returns-clause-b_after c =
    let a = c.args in
    let n = a.firmware in
    let o = c.loop-i in
    let s = planes a.cb.now a.y.now a.cr.now in
    let t = planes a.r.now a.g.now a.b.now in
    let e = c.in_ok-judge.ensures ∙ ap (conversion_of n) c.fits_line-fits.ensures in
    let l = (fits-exactly s t).0 (done-equal n (line_fits s t) e) in
    let r = l.of_r in
    rw (sym e) (each_placed _ (widened_both s) t (planes o.r o.g o.b) (all_as_long s t l) (o.auto.r ∙ c.widen.auto.out) o.auto.g (o.auto.b ∙ c.widen-2.auto.out) (λ i h. o.invariant.made i (omega arith)))
