-- `laying::put_values` meets its contract.
-- The invariant: with the bytes of the values that remain, none of which is bad, all are put.
use Rattle.std.proofs.Common.{◌≡◌, ◌+◌, ◌≤◌, ◌++◌, false, map, length, drop}
use Rattle.notation.specs.Several.{any}
use Rattle.arrayvec.specs.ArrayVec.{array_vec_len}
use Rattle.op_fields.specs.Parts.{value_of}
use Rattle.block_write.specs.Bytes.{value_bytes, joined}
use Rattle.block_write.specs.Writing.{bad_value}
use Rattle.block_write.proofs.laying.put_values.Given as goal

abbrev pub invariant-loop-cell : goal.invariant-loop-cell
invariant-loop-cell l = record {
  bytes : l.out.items ++ joined value_bytes (map value_of (drop l.cell-index l.cells)) ≡ l.initial.out.items ++ joined value_bytes (map value_of l.cells);
  room : array_vec_len l.out + length (joined value_bytes (map value_of (drop l.cell-index l.cells))) ≤ 1192;
  good : any bad_value (map value_of (drop l.cell-index l.cells)) ≡ false;
}
