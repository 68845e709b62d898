-- Ops are all carried, or there is a first that is not; and what the search says of either.
-- Op by op.
use Rattle.std.specs.Prelude.{Some, None}
use Prim.Native.Nat.{ℕ, suc, ◌+◌}
use mathlib.Core.Path.{◌≡◌, refl, ap, ◌∙◌}
use mathlib.Core.Bool.{Bool, true, false}
use mathlib.Core.Logic.{◌⊎◌, inl, inr, ⊎_elim}
use mathlib.Core.List.{List, [], ◌∷◌, ◌++◌}
use native.Mathlib.Omega.{arith}
use lib.ListN.{length}
use Rattle.op.specs.Widths.{carried_of}
use Rattle.op.specs.declared.Op.{Op}
use Rattle.run_check.specs.Carried.{AllCarried, none, more, UncarriedAt}
use Rattle.run_check.specs.Judging.{uncarried_from}

pub none_uncarried : {os : List Op} → AllCarried os → (i : ℕ) → uncarried_from i os ≡ None
none_uncarried none i = refl
none_uncarried (more e c) i = rw e (none_uncarried c (i + 1))

moved : (os : List Op) {i j : ℕ} → i ≡ j → uncarried_from i os ≡ uncarried_from j os
moved os e = rw e

-- behind ops that are carried the search goes on
carried-then : {os : List Op} (i : ℕ) (rest : List Op) → AllCarried os → uncarried_from i (os ++ rest) ≡ uncarried_from (i + length os) rest
carried-then i rest none = moved rest (omega arith)
carried-then i rest (more e c) = rw e (carried-then (i + 1) rest c ∙ moved rest (omega arith))

pub first-uncarried : {os : List Op} {j : ℕ} (i : ℕ) → UncarriedAt os j → uncarried_from i os ≡ Some (i + j)
first-uncarried i u = ap (uncarried_from i) u.split ∙ carried-then i (u.op ∷ u.after) u.carried ∙ rw (u.uncarried, u.place)

module _ {o : Op} {os : List Op} where
  this : carried_of o ≡ false → UncarriedAt (o ∷ os) 0
  this e = record { before = []; op = o; after = os; split = refl; place = refl; carried = none; uncarried = e }

  later : {j : ℕ} → carried_of o ≡ true → UncarriedAt os j → UncarriedAt (o ∷ os) (suc j)
  later e u = record {
    before = o ∷ u.before;
    op = u.op;
    after = u.after;
    split = ap (λ (l : List Op). o ∷ l) u.split;
    place = ap suc u.place;
    carried = more e u.carried;
    uncarried = u.uncarried;
  }

pub carried-or_not : (os : List Op) → AllCarried os ⊎ ((i : ℕ) × UncarriedAt os i)
carried-or_not [] = inl none
carried-or_not (o ∷ os) = by (carried_of o) refl (carried-or_not os)
  where
    by : (b : Bool) → carried_of o ≡ b → AllCarried os ⊎ ((i : ℕ) × UncarriedAt os i) → AllCarried (o ∷ os) ⊎ ((i : ℕ) × UncarriedAt (o ∷ os) i)
    by true e rest = ⊎_elim (λ c. inl (more e c)) (λ u. inr (suc u.0, later e u.1)) rest
    by false e rest = inr (0, this e)
