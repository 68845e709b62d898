-- The ways through a list by the rows of 01's table, apart from the check.
use Rattle.std.specs.Prelude.{ℕ, ◌≡◌, List, [], ◌∷◌, ◌++◌, length}
use Rattle.op.specs.Table.{Step}
use Rattle.op.specs.declared.Op.{Op}

-- `Fits w os v`: each op finds the width that it needs, and they lead from width w to v
pub data Fits : ℕ → List Op → ℕ → Type 0 where
  none : {w : ℕ} → Fits w [] w
  more : {w u v : ℕ} {o : Op} {os : List Op} → Step o w u → Fits u os v → Fits w (o ∷ os) v

-- the op needs a width other than the one that it finds: no row takes it from there
abbrev pub NeedsOther : Op → ℕ → Type 0
NeedsOther o found = (v : ℕ) → ¬ Step o found v

-- at its turn the op at position i of os, entered at width w, needs a width other than the one that it finds:
-- the ops before it fit, and lead to that one
pub record FailsAt (w : ℕ) (os : List Op) (i : ℕ) : Type 0 where
  pub before : List Op
  pub op : Op
  pub after : List Op
  pub found : ℕ
  pub split : os ≡ before ++ (op ∷ after)
  pub place : length before ≡ i
  pub reached : Fits w before found
  pub other : NeedsOther op found
