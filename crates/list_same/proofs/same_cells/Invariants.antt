-- `list_same::same_cells` meets its contract.
-- The invariant: the rest of the cells, from here, compare as the whole do.
use mathlib.Core.Path.{◌≡◌}
use lib.ListN.{drop}
use Rattle.list_same.specs.Same.{same_cell, same_all}
use Rattle.list_same.proofs.same_cells.Given as goal

abbrev pub invariant-loop-i : goal.invariant-loop-i
invariant-loop-i l = same_all same_cell (drop l.i l.a) (drop l.i l.b) ≡ same_all same_cell l.a l.b
