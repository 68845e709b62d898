-- `run_ops` applies the ops in list order.
-- The invariant: to run what remains, from the channels as they are, is to run the whole from the channels as they were.
use mathlib.Core.Path.{◌≡◌}
use mathlib.Core.List.{map}
use lib.ListN.{drop, length}
use Rattle.channels.specs.Channels.{channels}
use Rattle.list.specs.Lists.{op_of}
use Rattle.run.specs.Run.{run_ops}
use Rattle.run.proofs.applying.run_ops.Given as goal

abbrev pub invariant-loop-slot : goal.invariant-loop-slot
invariant-loop-slot l = (length l.a ≡ length l.initial.a) × (length l.b ≡ length l.initial.b) × (length l.c ≡ length l.initial.c)
    × (run_ops l.width (drop l.slot-index (map op_of l.ops)) (channels l.a l.b l.c) ≡ run_ops l.start (map op_of l.ops) (channels l.initial.a l.initial.b l.initial.c))
