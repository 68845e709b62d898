-- `apart::floats` meets its contract.
-- The zeros are rewritten by the floats, cell by cell.
use mathlib.Core.Path.{◌≡◌}
use mathlib.Core.List.{map}
use lib.ListN.{length}
use Rattle.notation.proofs.Rewriting.{Rewritten}
use Rattle.op_fields.specs.Parts.{float_cell}
use Rattle.op_fields.proofs.apart.floats.Given as goal

abbrev pub invariant-loop-i : goal.invariant-loop-i
invariant-loop-i l = (length l.f ≡ 9) × Rewritten (map float_cell l.f) l.initial.cells l.i l.cells
