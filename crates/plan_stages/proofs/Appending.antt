-- Two ops, some, and one, pushed one after the other.
-- From the law on appending.
use mathlib.Core.Path.{◌≡◌, ap, ◌∙◌}
use mathlib.Core.List.{List, [], ◌∷◌, ◌++◌}
use Rattle.list.specs.Lists.{appended}
use Rattle.op.specs.declared.Op.{Op}
use Rattle.list.specs.declared.Plan.{Plan}
use Rattle.list.proofs.Building.{appended-append}

pub around : (out : Plan) (a b : Op) (os : List Op) (z : Op) → appended (appended (appended (appended out (a ∷ [])) (b ∷ [])) os) (z ∷ []) ≡ appended out (a ∷ b ∷ (os ++ (z ∷ [])))
around out a b os z =
    ap (λ (p : Plan). appended (appended p os) (z ∷ [])) (appended-append out (a ∷ []) (b ∷ []))
    ∙ appended-append (appended out (a ∷ b ∷ [])) os (z ∷ [])
    ∙ appended-append out (a ∷ b ∷ []) (os ++ (z ∷ []))
