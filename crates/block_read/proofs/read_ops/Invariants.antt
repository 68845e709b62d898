-- `read_ops` meets its contract.
-- The invariant: what is read from here, put behind what is read already, is what the whole is.
use Prim.Native.Nat.{◌-◌, ◌≤◌}
use mathlib.Core.Path.{◌≡◌}
use lib.ListN.{length, drop}
use Rattle.block_read.specs.Block.{head_of, ops_in, listed}
use Rattle.block_read.proofs.Turn.{from, Kept}
use Rattle.block_read.proofs.read_ops.Given as goal

abbrev pub invariant-loop-i : goal.invariant-loop-i
invariant-loop-i l = (l.used ≤ length l.s) × (from l.version l.plan l.used (ops_in (l.count - l.i) (drop l.used l.s)) ≡ listed l.version l.start (ops_in l.count (drop (head_of l.version) l.s))) × Kept l.plan
