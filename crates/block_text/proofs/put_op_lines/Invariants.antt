-- `put_op_lines` meets its contract.
-- The invariant: with the lines of the ops that remain, all are put.
use Rattle.std.proofs.Common.{◌≡◌, ◌+◌, ◌≤◌, ◌++◌, map, length, drop}
use Rattle.arrayvec.specs.ArrayVec.{array_vec_len}
use Rattle.list.specs.Lists.{op_of}
use Rattle.block_text.specs.Listing.{op_lines}
use Rattle.block_text.proofs.put_op_lines.Given as goal

abbrev pub invariant-loop-i : goal.invariant-loop-i
invariant-loop-i l = record {
  text : l.out.items ++ op_lines l.i (map op_of (drop l.i l.ops)) ≡ l.initial.out.items ++ op_lines 0 (map op_of l.ops);
  room : array_vec_len l.out + length (op_lines l.i (map op_of (drop l.i l.ops))) ≤ 1024;
}
