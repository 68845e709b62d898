-- What C functions on plan blocks say alike. Definitions only.
use Rattle.std.specs.Prelude.{ℕ, List, [], ◌∷◌, eqb}
use Rattle.notation.specs.Choice.{when◌then◌else◌}
use Rattle.notation.specs.declared.Answer.{Answer}
use Rattle.block_read.specs.Block.{Reading, paper}

-- the reader's refusal, and else what comes behind the reading
abbrev pub after_reading : Reading → Answer → Answer
after_reading reading a = when eqb (paper reading).number 0 then a else paper reading

-- of a run, whole or by strips: number, position, width, and how many samples went bad
abbrev pub told_by : Answer → ℕ → List ℕ
told_by a bad = a.number ∷ a.position ∷ a.width ∷ bad ∷ []
