-- `converted` makes of a piece what `rgb_by` makes of each triple.
-- The test of `keep` gives what the blocks require; where it fails, the loop goes over the piece that was kept.
use Rattle.std.proofs.Common.{◌≡◌, List, map, ap, ◌∙◌}
use lib.Ieee.{Float}
use Rattle.channels.specs.Channels.{channels, each}
use Rattle.ycbcr_float.specs.declared.Constants.{Constants}
use Rattle.ycbcr_float.specs.Ycbcr.{raised, rgb_by}
use Rattle.ycbcr_float.specs.Steps.{rgb_raised}
use Rattle.ycbcr_float.proofs.Raised.{each-raised}
use Rattle.ycbcr_float.proofs.piece.converted.Goals as goal

-- v is the luma with its offset
offset : (k : Constants) (x y z : List Float) {v : List Float} → v ≡ map raised y → each (rgb_raised k) (channels x v z) ≡ each (rgb_by k) (channels x y z)
offset k x y z e = ap (λ (t : List Float). each (rgb_raised k) (channels x t z)) e ∙ each-raised k x y z

pub returns-then-ready : goal.returns-then-ready
returns-then-ready c =
    let a = c.args in
    c.by_blocks.ensures ∙ offset a.k a.cb.now a.y.now a.cr.now c.keep-ready.ensures.y_after

pub returns-else-ready : goal.returns-else-ready
returns-else-ready c =
    let a = c.args in
    let k = c.keep-ready.ensures in
    c.each_alone.ensures ∙ ap (each (rgb_raised a.k)) k.r_after ∙ offset a.k a.cb.now a.y.now a.cr.now k.y_after
