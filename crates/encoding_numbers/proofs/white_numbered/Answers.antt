-- `white_numbered` meets its contract.
-- Each arm is a row of `whites`, and past the last row is the last.
use mathlib.Core.Path.{refl}
use Rattle.notation.proofs.Tables.{last_row, past}
use Rattle.encoding_numbers.specs.Sides.{whites, white_numbered}
use Rattle.encoding_numbers.proofs.white_numbered.Goals as goal

pub returns-in-0 : goal.returns-in-0
unfolding white_numbered
returns-in-0 c = rw c.in-0.is

pub returns-in-1 : goal.returns-in-1
unfolding white_numbered
returns-in-1 c = rw c.in-1.is

pub returns-in-2 : goal.returns-in-2
unfolding white_numbered
returns-in-2 c = rw c.in-2.is

pub returns-in_default : goal.returns-in_default
unfolding white_numbered
returns-in_default c = last_row (whites c.args.p) _ 3 refl (past 3 c.args.n c.in_default.in_default-own.rest)
