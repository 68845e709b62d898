-- A list of ops in groups: its longest runs of matrices, and each other op by itself.
use Rattle.std.specs.Prelude.{◌≡◌, List, [], ◌∷◌, ◌++◌, map}
use Rattle.std.proofs.Math.Option.{Option, none, some}
use Rattle.ciexyz.specs.declared.Mat3.{Mat3}
use Rattle.op.specs.declared.Op.{Op}
use Rattle.op.specs.declared.Op.TheVariants as O

-- the matrix of a Matrix
abbrev pub matrix_of : Op → Option Mat3
matrix_of (O.XybToMixedLms bias intensity) = none
matrix_of (O.LumaToXyz illuminant) = none
matrix_of O.XyzToLuma = none
matrix_of (O.Matrix m) = some m
matrix_of (O.TransferFunction curve params inverse) = none
matrix_of (O.HlgInverseOotf params) = none
matrix_of (O.ToneMapRec2408 params display detect) = none
matrix_of (O.ToneMapLumaRec2408 params display detect) = none
matrix_of (O.GamutMap luminances factor) = none
matrix_of O.Clip = none

-- a run of matrices, the first and those after it; or another op
pub data Group : Type 0 where
  run : Mat3 → List Mat3 → Group
  other : Op → Group

-- a matrix before groups: it joins a run that comes first, or begins one
abbrev pub joined_to : Mat3 → List Group → List Group
joined_to m [] = run m [] ∷ []
joined_to m (run n ns ∷ gs) = run m (n ∷ ns) ∷ gs
joined_to m (other o ∷ gs) = run m [] ∷ other o ∷ gs

abbrev pub placed : Option Mat3 → Op → List Group → List Group
placed (some m) o gs = joined_to m gs
placed none o gs = other o ∷ gs

abbrev pub grouped : List Op → List Group
grouped [] = []
grouped (o ∷ os) = placed (matrix_of o) o (grouped os)

-- the ops of a group, and of groups one after the other
abbrev pub ops_in : Group → List Op
ops_in (run m ms) = map O.Matrix (m ∷ ms)
ops_in (other o) = o ∷ []

abbrev pub ungrouped : List Group → List Op
ungrouped [] = []
ungrouped (g ∷ gs) = ops_in g ++ ungrouped gs

-- the runs are longest: after a run comes the end or another op, which is no matrix
pub data Longest : List Group → Type 0 where
  end : Longest []
  op_by_itself : {o : Op} {gs : List Group} → matrix_of o ≡ none → Longest gs → Longest (other o ∷ gs)
  last_run : {m : Mat3} {ms : List Mat3} → Longest (run m ms ∷ [])
  run_before_op : {m : Mat3} {ms : List Mat3} {o : Op} {gs : List Group} → Longest (other o ∷ gs) → Longest (run m ms ∷ other o ∷ gs)
