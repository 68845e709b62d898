-- "Merging: each longest run of matrices M1..Mk becomes one, P1 = M1 and Pi = matmul3(Mi, P(i-1)), in the run's first place.
-- Other ops keep their order." (01, Planning)
use Rattle.std.specs.Prelude.{List, [], ◌∷◌, map, Ok, Err, Result}
use Rattle.notation.specs.Choice.{when◌then◌else◌}
use Rattle.notation.specs.Answers.{answer}
use Rattle.notation.specs.declared.Answer.{Answer}
use Rattle.ciexyz.specs.Matrix.{product}
use Rattle.ciexyz.specs.declared.Mat3.{Mat3}
use Rattle.list.specs.Lists.{ops_of, plan_of, lawful, no_list}
use Rattle.op.specs.declared.Op.{Op}
use Rattle.op.specs.declared.Op.TheVariants as O
use Rattle.list.specs.declared.Plan.{Plan}
use Rattle.list_merge.specs.Groups.{Group, run, other, grouped}
use Rattle.list_merge.specs.declared.MergeError.{MergeError}
use Rattle.list_merge.specs.declared.MergeError.TheVariants.{Malformed}
use Rattle.list_merge.specs.declared.Merged.{Merged}

-- what merging answers
abbrev pub Merging : Type 0
Merging = Result (Unit {0}) MergeError

-- "P1 = M1 and Pi = matmul3(Mi, P(i-1))": Pk, from P1 and the matrices M2..Mk
abbrev pub run_product : Mat3 → List Mat3 → Mat3
run_product p [] = p
run_product p (m ∷ ms) = run_product (product m p) ms

-- "each longest run of matrices becomes one"
abbrev pub one_op : Group → Op
one_op (run m ms) = O.Matrix (run_product m ms)
one_op (other o) = o

-- the groups in their order: a run stands in its first place
abbrev pub merge_ops : List Op → List Op
merge_ops os = map one_op (grouped os)

-- 01's answer; merging names no position and no width
abbrev pub paper : Merging → Answer
paper (Ok tt) = answer 0 0 0
paper (Err Malformed) = answer 10 0 0

-- Refusal 10: "merge: empty list, width 0"
abbrev pub merge_of : Plan → Merged
merge_of p =
    when lawful p
    then record { answer = (Ok tt); plan = plan_of p.start (merge_ops (ops_of p)) }
    else record { answer = (Err Malformed); plan = no_list }
