-- A loop over the slots of a list's ops meets the ops, one after the other.
-- What remains from position i is the list less its first i ops: the laws say what that is.
use Prim.Native.Nat.{ℕ, ◌+◌, ◌≤◌, ◌<◌}
use mathlib.Core.Path.{◌≡◌, ap, ◌∙◌}
use mathlib.Core.List.{List, [], ◌∷◌, map}
use native.Mathlib.Omega.{arith}
use lib.ListN.{length, take, drop, get_or, length-map, length-take, drop_of_length-le}
use Rattle.notation.proofs.Elements.{next, map_at}
use Rattle.list.specs.Lists.{op_of}
use Rattle.op.specs.declared.Op.{Op}
use Rattle.list.specs.declared.Slot.{Slot}

module _ (ss : List Slot) where
  -- from a position before the end: the op in that slot, and those after it
  pub next-op : (i : ℕ) (d : Slot) → i < length ss → drop i (map op_of ss) ≡ op_of (get_or ss i d) ∷ drop (i + 1) (map op_of ss)
  next-op i d h =
      let l = map op_of ss in
      let q : i < length l = omega (arith, length-map ss op_of) in
      next l i (op_of d) q ∙ ap (λ (o : Op). o ∷ drop (i + 1) l) (map_at op_of ss i d (op_of d) h)

  -- from the end: none
  pub no_more : (i : ℕ) → length ss ≤ i → drop i (map op_of ss) ≡ []
  no_more i h = drop_of_length-le (map op_of ss) {i = i} (omega (arith, length-map ss op_of))

pub count-ops : (n : ℕ) (ss : List Slot) → length (map op_of (take n ss)) ≤ n
count-ops n ss = omega (arith, length-map (take n ss) op_of, length-take n ss)
