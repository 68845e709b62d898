-- `list_merge::merge_ops` meets its contract.
-- The invariant: what is put out, and then what the held run and the rest merge to, is what the whole merges to.
use mathlib.Core.Path.{◌≡◌}
use mathlib.Core.List.{[], ◌++◌, map}
use lib.ListN.{drop}
use Rattle.list.specs.Lists.{op_of, plan_of, appended}
use Rattle.list_merge.specs.Merge.{merge_ops}
use Rattle.list_merge.specs.Steps.{held}
use Rattle.list_merge.proofs.merge_ops.Given as goal

abbrev pub invariant-loop-slot : goal.invariant-loop-slot
invariant-loop-slot l = appended l.out (merge_ops (held l.run ++ drop l.slot-index (map op_of l.ops))) ≡ appended (plan_of l.start []) (merge_ops (map op_of l.ops))
