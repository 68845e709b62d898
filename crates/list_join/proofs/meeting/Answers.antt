-- `meeting` meets its contract.
-- The position that the check tells of the second list is below its count.
use mathlib.Core.Path.{ap, sym, ◌∙◌}
use Rattle.std.proofs.Common.{Err}
use native.Mathlib.Omega.{arith}
use Rattle.list.proofs.Bounds.{misfit-lawful, position-below}
use Rattle.list_join.proofs.meeting.Goals as goal

pub overflow_add-result : goal.overflow_add-result
overflow_add-result c =
    let e = sym c.check.ensures ∙ c.in-Err-Misfit.is ∙ ap Err c.in-Err-Misfit.field-0-is in
    let h = position-below c.args.second e in
    let n = (misfit-lawful c.args.second e).0.1 in
    omega arith
