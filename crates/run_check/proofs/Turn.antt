-- One turn of the search for an op that is not carried, from what is answered of the op; and its end.
-- What remains from position i begins with the op in slot i.
use Rattle.std.specs.Prelude.{Some, None}
use Prim.Native.Nat.{◌+◌, ◌<◌, ℕ, ◌≤◌}
use mathlib.Core.Path.{◌≡◌}
use mathlib.Core.Bool.{Bool, false, true}
use mathlib.Core.List.{List, map}
use lib.ListN.{drop, get_or, length}
use Rattle.op.specs.Widths.{carried_of}
use Rattle.list.specs.Lists.{op_of}
use Rattle.list.specs.declared.Slot.{Slot}
use Rattle.list.proofs.Walk.{next-op, no_more}
use Rattle.run_check.specs.Judging.{uncarried_from}

module _ (ss : List Slot) (i : ℕ) where
  module _ (d : Slot) (h : i < length ss) {b : Bool} (q : b ≡ carried_of (op_of (get_or ss i d))) where
    pub stops : b ≡ false → uncarried_from i (drop i (map op_of ss)) ≡ Some i
    stops e = rw (next-op ss i d h, ← q, e)

    pub goes_on : b ≡ true → uncarried_from i (drop i (map op_of ss)) ≡ uncarried_from (i + 1) (drop (i + 1) (map op_of ss))
    goes_on e = rw (next-op ss i d h, ← q, e)

  pub no-more-ops : length ss ≤ i → uncarried_from i (drop i (map op_of ss)) ≡ None
  no-more-ops h = rw (no_more ss i h)
