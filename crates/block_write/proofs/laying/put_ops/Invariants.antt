-- `laying::put_ops` meets its contract.
-- The invariant: with the bytes of the ops that remain, none of which is bad, all are put.
use Rattle.std.proofs.Common.{◌≡◌, ◌+◌, ◌≤◌, ◌++◌, false, map, length, drop}
use Rattle.notation.specs.Several.{any}
use Rattle.arrayvec.specs.ArrayVec.{array_vec_len}
use Rattle.list.specs.Lists.{op_of}
use Rattle.block_write.specs.Bytes.{op_bytes, joined}
use Rattle.block_write.specs.Writing.{bad_op}
use Rattle.block_write.proofs.laying.put_ops.Given as goal

abbrev pub invariant-loop-slot : goal.invariant-loop-slot
invariant-loop-slot l = record {
  bytes : l.out.items ++ joined op_bytes (map op_of (drop l.slot-index l.ops)) ≡ l.initial.out.items ++ joined op_bytes (map op_of l.ops);
  room : array_vec_len l.out + length (joined op_bytes (map op_of (drop l.slot-index l.ops))) ≤ 1192;
  good : any bad_op (map op_of (drop l.slot-index l.ops)) ≡ false;
}
