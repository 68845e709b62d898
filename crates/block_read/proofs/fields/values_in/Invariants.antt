-- `fields::values_in` meets its contract.
-- The values read already, and those of the fields that are left, are the values of all.
use Prim.Native.Nat.{◌+◌}
use mathlib.Core.Path.{◌≡◌}
use mathlib.Core.List.{◌++◌, map}
use lib.ListN.{length, take, drop}
use Rattle.op_fields.specs.Parts.{value_of}
use Rattle.block_read.specs.Fields.{bytes_of, values_in}
use Rattle.block_read.proofs.Walking.{said}
use Rattle.block_read.proofs.fields.values_in.Given as goal

abbrev pub invariant-loop-i : goal.invariant-loop-i
invariant-loop-i l = (length l.cells ≡ 9)
    × (l.at + bytes_of (drop l.i (said l.blanks)) ≡ bytes_of (said l.blanks))
    × (map value_of (take l.i l.cells) ++ values_in (drop l.i (said l.blanks)) (drop l.at l.s) ≡ values_in (said l.blanks) l.s)
