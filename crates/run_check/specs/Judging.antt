-- Every refusal of a run that the list alone decides. "Order: .. run 10, 4, 5, 6" (01, Refusal numbers), 4 apart. Definitions only.
use Rattle.std.specs.Prelude.{ℕ, ◌+◌, List, [], ◌∷◌, Ok, Err, Some, None, Option, Result}
use Rattle.notation.specs.Choice.{when◌then◌else◌}
use Rattle.notation.specs.Answers.{answer}
use Rattle.notation.specs.declared.Answer.{Answer}
use Rattle.op.specs.Widths.{carried_of}
use Rattle.op.specs.declared.Op.{Op}
use Rattle.list.specs.Lists.{ops_of}
use Rattle.list.specs.declared.Plan.{Plan}
use Rattle.list.specs.Check.{Verdict, check_of}
use Rattle.list.specs.declared.CheckError.{CheckError}
use Rattle.list.specs.declared.CheckError.TheVariants as Check
use Rattle.run_check.specs.declared.JudgeError.{JudgeError}
use Rattle.run_check.specs.declared.JudgeError.TheVariants.{Malformed, Misfit, NotCarried}

-- what is judged of a list: the width that a run of it ends at, or a refusal
abbrev pub Judgement : Type 0
Judgement = Result ℕ JudgeError

-- where the first op stands that is not carried
abbrev pub Uncarried : Type 0
Uncarried = Option ℕ

-- a refused list has width 0
abbrev pub paper : Judgement → Answer
paper (Ok w) = answer 0 0 w
paper (Err Malformed) = answer 10 0 0
paper (Err (Misfit i)) = answer 5 i 0
paper (Err (NotCarried i)) = answer 6 i 0

-- "6 | run: an op is not carried | .. the first such position": of ops of which the first stands at i
abbrev pub uncarried_from : ℕ → List Op → Uncarried
uncarried_from i [] = None
uncarried_from i (o ∷ os) = when carried_of o then uncarried_from (i + 1) os else Some i

-- 10 and 5, which the width check tells, before 6
abbrev pub of_check : CheckError → JudgeError
of_check Check.Malformed = Malformed
of_check (Check.Misfit i) = Misfit i

abbrev pub judge_by : Verdict → Uncarried → Judgement
judge_by (Err e) u = Err (of_check e)
judge_by (Ok w) (Some i) = Err (NotCarried i)
judge_by (Ok w) None = Ok w

abbrev pub judge_of : Plan → Judgement
judge_of p = judge_by (check_of p) (uncarried_from 0 (ops_of p))
