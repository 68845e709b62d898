-- "A channel entry turns a lent slice of codes into f32 levels divided by 65535. Refusals: in order 4, then 14 for a code above 1023, nothing written"
-- (02, W9). Definitions only.
use Rattle.std.specs.Prelude.{ℕ, Bool, not, List, map, Result, Ok, Err, eqb, ltb, Float, length}
use Rattle.notation.specs.Choice.{when◌then◌else◌}
use Rattle.notation.specs.Several.{any}
use Rattle.notation.specs.Answers.{answer}
use Rattle.notation.specs.declared.Answer.{Answer}
use Rattle.srgb10_levels.specs.Levels.{divided_level}
use Rattle.srgb10_levels.specs.declared.LevelError.{LevelError}
use Rattle.srgb10_levels.specs.declared.LevelError.TheVariants.{Unequal, NoCode}

abbrev pub Levelling : Type 0
Levelling = Result (Unit {0}) LevelError

-- no position is named, and no width
abbrev pub paper : Levelling → Answer
paper (Ok _) = answer 0 0 0
paper (Err Unequal) = answer 4 0 0
paper (Err NoCode) = answer 14 0 0

-- there are as many levels as codes
abbrev pub as_many : List ℕ → List Float → Bool
as_many codes levels = eqb (length codes) (length levels)

-- "a code above 1023"
abbrev pub is_above : ℕ → Bool
is_above c = ltb 1023 c

-- "in order 4, then 14"
abbrev pub levelling_of : List ℕ → List Float → Levelling
levelling_of codes levels = when not (as_many codes levels) then Err Unequal else when any is_above codes then Err NoCode else Ok tt

-- what the lent slice holds after it: the level of each code, and after a refusal what it held, "nothing written"
abbrev pub left_by : Levelling → List ℕ → List Float → List Float
left_by (Ok _) codes old = map divided_level codes
left_by (Err Unequal) codes old = old
left_by (Err NoCode) codes old = old

abbrev pub left_of : List ℕ → List Float → List Float
left_of codes old = left_by (levelling_of codes old) codes old
