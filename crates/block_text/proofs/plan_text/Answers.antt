-- `plan_text` meets its contract.
-- By the check's verdict, which each arm knows.
use Rattle.std.specs.Prelude.{Err}
use mathlib.Core.Path.{sym, ap, ◌∙◌}
use native.Mathlib.Omega.{arith}
use Rattle.list.proofs.Bounds.{passes-lawful, misfit-lawful}
use Rattle.block_text.proofs.Small.{width_small, position-small}
use Rattle.block_text.proofs.plan_text.Goals as goal

pub lines-text-requires : goal.lines-text-requires
lines-text-requires c = passes-lawful c.args.plan (sym c.check.ensures ∙ c.in-Ok.is)

pub put_ending-requires-clause-n_bound : goal.put_ending-requires-clause-n_bound
put_ending-requires-clause-n_bound c = width_small c.args.plan (sym c.check.ensures ∙ c.in-Ok.is)

pub lines-text-requires-in-Err-Misfit : goal.lines-text-requires-in-Err-Misfit
lines-text-requires-in-Err-Misfit c = misfit-lawful c.args.plan (sym c.check.ensures ∙ c.in-Err-Misfit.is ∙ ap Err c.in-Err-Misfit.field-0-is)

pub put_ending-requires-in-Err-Misfit-clause-n_bound : goal.put_ending-requires-in-Err-Misfit-clause-n_bound
put_ending-requires-in-Err-Misfit-clause-n_bound c =
    omega (arith, position-small c.args.plan (sym c.check.ensures ∙ c.in-Err-Misfit.is ∙ ap Err c.in-Err-Misfit.field-0-is))
