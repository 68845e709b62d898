-- "Order: .. run 10, 4, 5, 6, all before the first write." (01, Refusal numbers). Definitions only.
use Rattle.std.specs.Prelude.{ℕ, Bool, Ok, Err, Result}
use Rattle.notation.specs.Choice.{when◌then◌else◌}
use Rattle.notation.specs.Answers.{answer}
use Rattle.notation.specs.declared.Answer.{Answer}
use Rattle.channels.specs.Channels.{Channels, equally_long}
use Rattle.list.specs.declared.Plan.{Plan}
use Rattle.run_check.specs.Judging.{judge_of}
use Rattle.run_check.specs.Judging.{Judgement}
use Rattle.run_check.specs.declared.JudgeError.TheVariants as Judge
use Rattle.run.specs.declared.RunError.{RunError}
use Rattle.run.specs.declared.RunError.TheVariants.{Malformed, Unequal, Misfit, NotCarried}

-- what a run answers: the width that it ends at, or a refusal
abbrev pub Outcome : Type 0
Outcome = Result ℕ RunError

-- a refused run has width 0
abbrev pub paper : Outcome → Answer
paper (Ok w) = answer 0 0 w
paper (Err Malformed) = answer 10 0 0
paper (Err Unequal) = answer 4 0 0
paper (Err (Misfit i)) = answer 5 i 0
paper (Err (NotCarried i)) = answer 6 i 0

-- the lengths after 10, and before 5 and 6
abbrev pub outcome_by : Judgement → Bool → Outcome
outcome_by (Err Judge.Malformed) same = Err Malformed
outcome_by (Err (Judge.Misfit i)) same = when same then (Err (Misfit i)) else Err Unequal
outcome_by (Err (Judge.NotCarried i)) same = when same then (Err (NotCarried i)) else Err Unequal
outcome_by (Ok w) same = when same then Ok w else Err Unequal

abbrev pub outcome_of : Plan → Channels → Outcome
outcome_of p s = outcome_by (judge_of p) (equally_long s)
