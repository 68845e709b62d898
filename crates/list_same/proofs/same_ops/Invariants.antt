-- `list_same::same_ops` meets its contract.
-- The invariant: the rest of the ops, from here, compare as the whole do.
use mathlib.Core.Path.{◌≡◌}
use mathlib.Core.List.{map}
use lib.ListN.{drop}
use Rattle.list.specs.Lists.{op_of}
use Rattle.list_same.specs.Same.{same_op, same_all}
use Rattle.list_same.proofs.same_ops.Given as goal

abbrev pub invariant-loop-i : goal.invariant-loop-i
invariant-loop-i l = same_all same_op (drop l.i (map op_of l.a)) (drop l.i (map op_of l.b)) ≡ same_all same_op (map op_of l.a) (map op_of l.b)
