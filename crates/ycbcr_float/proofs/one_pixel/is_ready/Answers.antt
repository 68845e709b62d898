-- `is_ready` says `Ready` of a pixel.
-- It is shown by the digits that are asked (`Patterns`).
use Rattle.ycbcr_float.proofs.Patterns.{now-shown, ready_within}
use Rattle.ycbcr_float.proofs.one_pixel.is_ready.Goals as goal

pub returns : goal.returns
returns c = λ e.
    let n = c.any_of in
    let a = c.all_of in
    let s = c.args.cbycr in
    ready_within _ _ s (c.are_within.ensures e) (now-shown 0 0xffff_ffff s _ _ n.ensures.value a.ensures n.ensures.single)
