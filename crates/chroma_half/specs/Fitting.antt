-- What widening and narrowing answer and leave; they name no width. "Refusals: [..] 4 for lengths that do not fit; outputs untouched." (02, W13).
-- Definitions only.
use Rattle.std.specs.Prelude.{ℕ, Bool, List, Result, Ok, Err, length}
use Rattle.notation.specs.Choice.{when◌then◌else◌}
use Rattle.notation.specs.Answers.{answer}
use Rattle.notation.specs.declared.Answer.{Answer}
use Rattle.chroma_half.specs.Twice.{fits_twice}
use Rattle.chroma_half.specs.Widening.{widened}
use Rattle.chroma_half.specs.Narrowing.{narrowed}
use Rattle.chroma_half.specs.declared.Unfit.{Unfit}

abbrev pub Fitting : Type 0
Fitting = Result (Unit {0}) Unfit

abbrev pub paper : Fitting → Answer
paper (Ok _) = answer 0 0 0
paper (Err _) = answer 4 0 0

-- where the lent lengths fit or not
abbrev pub fitting_of : Bool → Fitting
fitting_of fits = when fits then Ok tt else Err (record {})

-- what is left: the line made, and where it is refused the one that was there
abbrev pub left_by : Fitting → List ℕ → List ℕ → List ℕ
left_by (Ok _) made old = made
left_by (Err _) made old = old

-- the line c into the lent line `old`
abbrev pub widening : List ℕ → List ℕ → Fitting
widening c old = fitting_of (fits_twice (length c) (length old))

abbrev pub widened_into : List ℕ → List ℕ → List ℕ
widened_into c old = left_by (widening c old) (widened c (length old)) old

abbrev pub narrowing : List ℕ → List ℕ → Fitting
narrowing c old = fitting_of (fits_twice (length old) (length c))

abbrev pub narrowed_into : List ℕ → List ℕ → List ℕ
narrowed_into c old = left_by (narrowing c old) (narrowed c) old
