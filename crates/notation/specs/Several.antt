-- One of several is such: the test, and in words. Definitions only.
use Rattle.std.specs.Prelude.{Bool, List, ◌∷◌}
use Rattle.std.specs.List.{list_any}

-- whether one of several is such: the library's word
abbrev pub any : {A : Type 0} → (A → Bool) → List A → Bool
any = list_any

-- one of several is such
pub data Some {A : Type 0} (Such : A → Type 0) : List A → Type 0 where
  this : {x : A} {xs : List A} → Such x → Some Such (x ∷ xs)
  later : {x : A} {xs : List A} → Some Such xs → Some Such (x ∷ xs)
