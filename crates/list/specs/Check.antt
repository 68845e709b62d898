-- The width check. "Order: check 10, 5." Refusal 5 has "the first such position". (01, Refusal numbers)
use Rattle.std.specs.Prelude.{ℕ, ◌+◌, List, [], ◌∷◌, Ok, Err, Result}
use Rattle.notation.specs.Choice.{when◌then◌else◌}
use Rattle.op.specs.Widths.{fits_at, gives_of}
use Rattle.op.specs.declared.Op.{Op}
use Rattle.list.specs.Lists.{ops_of, lawful}
use Rattle.list.specs.declared.Plan.{Plan}
use Rattle.list.specs.declared.CheckError.{CheckError}
use Rattle.list.specs.declared.CheckError.TheVariants.{Malformed, Misfit}

-- what the width check says of a list: the width that it ends at, or a refusal
abbrev pub Verdict : Type 0
Verdict = Result ℕ CheckError

-- the verdict on ops that are entered at width w, the first of them at position i
abbrev pub check_from : ℕ → ℕ → List Op → Verdict
check_from w i [] = Ok w
check_from w i (o ∷ os) = when fits_at o w then check_from (gives_of o w) (i + 1) os else Err (Misfit i)

abbrev pub check_of : Plan → Verdict
check_of p = when lawful p then check_from p.start 0 (ops_of p) else Err Malformed
