-- `primaries_numbered` meets its contract.
-- Each arm is a row of `all_primaries`, and past the last row is the last.
use mathlib.Core.Path.{refl}
use Rattle.notation.proofs.Tables.{last_row, past}
use Rattle.encoding_numbers.specs.Sides.{all_primaries, primaries_numbered}
use Rattle.encoding_numbers.proofs.primaries_numbered.Goals as goal

pub returns-in-0 : goal.returns-in-0
unfolding primaries_numbered
returns-in-0 c = rw c.in-0.is

pub returns-in-1 : goal.returns-in-1
unfolding primaries_numbered
returns-in-1 c = rw c.in-1.is

pub returns-in-2 : goal.returns-in-2
unfolding primaries_numbered
returns-in-2 c = rw c.in-2.is

pub returns-in_default : goal.returns-in_default
unfolding primaries_numbered
returns-in_default c = last_row (all_primaries c.args.red c.args.green c.args.blue) _ 3 refl (past 3 c.args.n c.in_default.in_default-own.rest)
