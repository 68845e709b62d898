-- `first_uncarried` finds the first op that is not carried.
-- The invariant: the first of what remains, from here, is the first of the whole.
use mathlib.Core.Path.{◌≡◌}
use mathlib.Core.List.{map}
use lib.ListN.{drop}
use Rattle.list.specs.Lists.{op_of}
use Rattle.run_check.specs.Judging.{uncarried_from}
use Rattle.run_check.proofs.first_uncarried.Given as goal

abbrev pub invariant-loop-i : goal.invariant-loop-i
invariant-loop-i l = uncarried_from l.i (drop l.i (map op_of l.ops)) ≡ uncarried_from 0 (map op_of l.ops)
