-- `planner::plan_enum` meets its contract.
-- No test refuses, and the merged list is that of the merged ops.
use Rattle.planner.proofs.Building.{merged}
use Rattle.planner.proofs.plan_enum.Goals as goal

pub returns : goal.returns
returns c =
    let a = c.args in
    rw (
      ← c.is_out_of_range.ensures,
      c.if-is_out_of_range.false,
      ← c.is_retired.ensures,
      c.if-is_retired.false,
      ← c.is_equivalent.ensures,
      c.if-is_equivalent.false,
      ← c.is_unsupported.ensures,
      c.if-is_unsupported.false,
      c.merge.ensures,
      c.unmerged.ensures,
      merged a.source a.target a.settings,
    )
