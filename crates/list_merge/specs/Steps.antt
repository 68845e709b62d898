-- What the steps of the loop answer.
use Rattle.std.specs.Prelude.{List, [], ◌∷◌, Some, None, Option}
use Rattle.ciexyz.specs.Matrix.{product}
use Rattle.ciexyz.specs.declared.Mat3.{Mat3}
use Rattle.op.specs.declared.Op.{Op}
use Rattle.op.specs.declared.Op.TheVariants as O

-- the product of the matrices just before an op, if there are any
abbrev pub Run : Type 0
Run = Option Mat3

-- the run with a matrix more
abbrev pub joined_by : Run → Mat3 → Run
joined_by None m = Some m
joined_by (Some p) m = Some (product m p)

-- the ops that a run puts out where it ends
abbrev pub held : Run → List Op
held None = []
held (Some p) = O.Matrix p ∷ []
