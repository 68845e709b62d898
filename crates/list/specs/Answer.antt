-- The number, the position and the width that 01 gives for a verdict; a refused list has width 0. (01, Refusal numbers)
use Rattle.std.specs.Prelude.{Ok, Err}
use Rattle.notation.specs.Answers.{answer}
use Rattle.notation.specs.declared.Answer.{Answer}
use Rattle.list.specs.Check.{Verdict}
use Rattle.list.specs.declared.CheckError.TheVariants.{Malformed, Misfit}

abbrev pub paper : Verdict → Answer
paper (Ok w) = answer 0 0 w
paper (Err Malformed) = answer 10 0 0
paper (Err (Misfit i)) = answer 5 i 0
