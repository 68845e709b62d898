-- `curves::curve_numbered` meets its contract.
-- Each arm is a row of `curve_numbered`, and past the last row is the last.
use mathlib.Core.Path.{refl}
use Rattle.op_fields.specs.Curves.{curves, curve_numbered}
use Rattle.notation.proofs.Tables.{last_row, past}
use Rattle.op_fields.proofs.curves.curve_numbered.Goals as goal

pub returns-in-0 : goal.returns-in-0
unfolding curve_numbered
returns-in-0 c = rw c.in-0.is

pub returns-in-1 : goal.returns-in-1
unfolding curve_numbered
returns-in-1 c = rw c.in-1.is

pub returns-in-2 : goal.returns-in-2
unfolding curve_numbered
returns-in-2 c = rw c.in-2.is

pub returns-in-3 : goal.returns-in-3
unfolding curve_numbered
returns-in-3 c = rw c.in-3.is

pub returns-in-4 : goal.returns-in-4
unfolding curve_numbered
returns-in-4 c = rw c.in-4.is

pub returns-in-5 : goal.returns-in-5
unfolding curve_numbered
returns-in-5 c = rw c.in-5.is

pub returns-in-6 : goal.returns-in-6
unfolding curve_numbered
returns-in-6 c = rw c.in-6.is

pub returns-in-7 : goal.returns-in-7
unfolding curve_numbered
returns-in-7 c = rw c.in-7.is

pub returns-in_default : goal.returns-in_default
unfolding curve_numbered
returns-in_default c = last_row (curves c.args.g) _ 8 refl (past 8 c.args.n c.in_default.in_default-own.rest)
