-- `checking::check_ops` meets its contract.
-- The invariant: the verdict on what remains, from here, is the verdict on the whole.
use mathlib.Core.Path.{◌≡◌}
use mathlib.Core.List.{map}
use lib.ListN.{drop}
use Rattle.list.specs.Lists.{op_of}
use Rattle.list.specs.Check.{check_from}
use Rattle.list.proofs.checking.check_ops.Given as goal

abbrev pub invariant-loop-position : goal.invariant-loop-position
invariant-loop-position l = check_from l.width l.position (drop l.position (map op_of l.ops)) ≡ check_from l.start 0 (map op_of l.ops)
