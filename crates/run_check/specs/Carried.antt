-- In words, apart from the search: that ops are all carried, and where the first stands that is not. Relations only.
use Rattle.std.specs.Prelude.{ℕ, ◌≡◌, true, false, List, [], ◌∷◌, ◌++◌, length}
use Rattle.op.specs.Widths.{carried_of}
use Rattle.op.specs.declared.Op.{Op}

-- "its ops are all carried" (demand 3)
pub data AllCarried : List Op → Type 0 where
  none : AllCarried []
  more : {o : Op} {os : List Op} → carried_of o ≡ true → AllCarried os → AllCarried (o ∷ os)

-- the ops before position i of os are carried, and the op at i is not
pub record UncarriedAt (os : List Op) (i : ℕ) : Type 0 where
  pub before : List Op
  pub op : Op
  pub after : List Op
  pub split : os ≡ before ++ (op ∷ after)
  pub place : length before ≡ i
  pub carried : AllCarried before
  pub uncarried : carried_of op ≡ false
