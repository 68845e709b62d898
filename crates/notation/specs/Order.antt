-- Answers that are tested in an order: the first whose cause holds is given, and another where none does. Definitions only.
use Rattle.std.specs.Prelude.{List, [], ◌∷◌}

pub data FirstOf {A : Type 0} (Cause : A → Type 0) (otherwise : A) : List A → A → Type 0 where
  none : FirstOf Cause otherwise [] otherwise
  this : {a : A} {rest : List A} → Cause a → FirstOf Cause otherwise (a ∷ rest) a
  later : {a b : A} {rest : List A} → ¬ Cause a → FirstOf Cause otherwise rest b → FirstOf Cause otherwise (a ∷ rest) b
