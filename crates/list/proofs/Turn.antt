-- One turn of the check's loop, from what the calls on the op answer; and its end.
-- What remains from position i begins with the op in slot i.
use Rattle.std.specs.Prelude.{Ok, Err}
use Prim.Native.Nat.{ℕ, ◌+◌, ◌≤◌, ◌<◌}
use mathlib.Core.Path.{◌≡◌}
use mathlib.Core.List.{List, map}
use mathlib.Core.Bool.{Bool, true, false}
use lib.ListN.{length, drop, get_or}
use Rattle.list.specs.Lists.{op_of}
use Rattle.op.specs.Widths.{fits_at, gives_of}
use Rattle.list.specs.declared.Slot.{Slot}
use Rattle.list.proofs.Walk.{next-op, no_more}
use Rattle.list.specs.Check.{check_from}
use Rattle.list.specs.declared.CheckError.TheVariants.{Misfit}

module _ (ss : List Slot) (i w : ℕ) where
  module _ (d : Slot) (h : i < length ss) {b : Bool} (q : b ≡ fits_at (op_of (get_or ss i d)) w) where
    pub stops : b ≡ false → check_from w i (drop i (map op_of ss)) ≡ Err (Misfit i)
    stops e = rw (next-op ss i d h, ← q, e)

    pub goes : {v : ℕ} → b ≡ true → v ≡ gives_of (op_of (get_or ss i d)) w
        → check_from w i (drop i (map op_of ss)) ≡ check_from v (i + 1) (drop (i + 1) (map op_of ss))
    goes e f = rw (next-op ss i d h, ← q, e, f)

  pub ends : length ss ≤ i → check_from w i (drop i (map op_of ss)) ≡ Ok w
  ends h = rw (no_more ss i h)
