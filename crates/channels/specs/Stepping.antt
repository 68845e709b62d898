-- What a carried op's own step answers. "4 | run or conversion: lent lengths unequal | no buffer changed, width 0" (01, Refusal numbers).
-- Definitions only.
use Rattle.std.specs.Prelude.{ℕ, Result, Ok, Err}
use Rattle.notation.specs.Choice.{when◌then◌else◌}
use Rattle.notation.specs.Answers.{answer}
use Rattle.notation.specs.declared.Answer.{Answer}
use Rattle.channels.specs.Channels.{Channels, equally_long}
use Rattle.channels.specs.declared.Unequal.{Unequal}

-- the width that the op gives, or that the lengths are unequal
abbrev pub Stepping : Type 0
Stepping = Result ℕ Unequal

abbrev pub unequal : Unequal
unequal = record {}

abbrev pub paper : Stepping → Answer
paper (Ok w) = answer 0 0 w
paper (Err e) = answer 4 0 0

-- on these channels, of an op that gives width w
abbrev pub step_of : ℕ → Channels → Stepping
step_of w s = when equally_long s then Ok w else Err unequal
