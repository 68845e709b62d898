-- `plan_stages::conversion::convert` meets its contract.
-- The ops of its steps, one after the other, are those of `convert_ops`.
use Rattle.plan_stages.specs.Stages.{limit_op, to_xyz_op, adapt_ops, from_xyz_op}
use Rattle.plan_stages.proofs.Appending.{around}
use Rattle.plan_stages.proofs.conversion.convert.Goals as goal

pub returns : goal.returns
returns c =
    let a = c.args in
    rw (← c.differs.ensures, c.if-not-differs.false, c.push.ensures, c.adapt-adapted.ensures, c.push-xyz.ensures, c.push-limited.ensures, c.from_xyz_op.ensures, c.to_xyz_op.ensures, c.limit_op.ensures)
    (around a.out (limit_op a.current) (to_xyz_op a.current) (adapt_ops a.current a.target) (from_xyz_op a.target))
