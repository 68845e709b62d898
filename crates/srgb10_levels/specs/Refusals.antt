-- When each answer is given, in words and apart from the tests. (02, W9). Definitions and relations only.
use Rattle.std.specs.Prelude.{ℕ, ◌<◌, ◌≡◌, List, [], ◌∷◌, Ok, Err, Float, length}
use Rattle.notation.specs.Order.{FirstOf}
use Rattle.notation.specs.Several.{Some}
use Rattle.srgb10_levels.specs.Levelling.{Levelling}
use Rattle.srgb10_levels.specs.declared.LevelError.TheVariants.{Unequal, NoCode}

-- "a code above 1023"
abbrev pub Above : ℕ → Type 0
Above c = 1023 < c

-- what each refusal is given for
abbrev pub Cause : List ℕ → List Float → Levelling → Type 0
Cause codes levels (Ok _) = Unit {0}
Cause codes levels (Err Unequal) = ¬ (length codes ≡ length levels)
Cause codes levels (Err NoCode) = Some Above codes

-- "in order 4, then 14"
abbrev pub order : List Levelling
order = Err Unequal ∷ Err NoCode ∷ []

abbrev pub Given : List ℕ → List Float → Levelling → Type 0
Given codes levels levelling = FirstOf (Cause codes levels) (Ok tt) order levelling
