-- `with_ops` meets its contract.
-- The invariant: the list so far is the kept one with as many ops behind it as were pushed.
use mathlib.Core.Path.{◌≡◌}
use mathlib.Core.List.{map}
use lib.ListN.{take}
use Rattle.list.specs.Lists.{op_of, appended}
use Rattle.list_join.proofs.with_ops.Given as goal

abbrev pub invariant-loop-slot : goal.invariant-loop-slot
invariant-loop-slot l = l.out ≡ appended l.initial.out (map op_of (take l.slot-index l.ops))
