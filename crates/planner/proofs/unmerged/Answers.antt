-- `planner::unmerged` meets its contract.
-- The ops of the stages, one after the other, are those of `stage_ops`.
use Rattle.planner.proofs.Building.{in_order}
use Rattle.planner.proofs.unmerged.Goals as goal

pub returns : goal.returns
returns c =
    let a = c.args in
    rw (c.target_curve.ensures, c.pq_to_hlg-hlg.ensures, c.tone_map-mapped.ensures, c.convert-converted.ensures, c.decode-linear.ensures, c.empty-empty.ensures, c.channels.ensures, c.converted-reached.ensures, c.decoded-current.ensures)
    (in_order a.source a.target a.settings)
