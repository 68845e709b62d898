-- Laws of merging, at the front of a list: two matrices are their product, and an op that is no matrix stays.
-- By the first of the groups that follow.
use Prim.Native.Nat.{◌≤◌, ◌+◌}
use mathlib.Core.Path.{◌≡◌, refl, ap}
use mathlib.Core.List.{List, [], ◌∷◌, ◌++◌, map}
use mathlib.Core.Option.{Option, none, some}
use native.Mathlib.Omega.{arith}
use lib.ListN.{length, take, length-map, length-take}
use Rattle.ciexyz.specs.Matrix.{product}
use Rattle.ciexyz.specs.declared.Mat3.{Mat3}
use Rattle.list.specs.Lists.{op_of, ops_of, plan_of, Formed, Lawful}
use Rattle.op.specs.declared.Op.{Op}
use Rattle.op.specs.declared.Op.TheVariants as O
use Rattle.list.specs.declared.Plan.{Plan}
use Rattle.list.proofs.Building.{plan-true}
use Rattle.list_merge.specs.Groups.{Group, run, other, matrix_of, joined_to, placed, grouped}
use Rattle.list_merge.specs.Merge.{one_op, merge_ops}

-- an op is a matrix or not
pub data Kind : Op → Type 0 where
  a_matrix : (m : Mat3) → Kind (O.Matrix m)
  no_matrix : {o : Op} → matrix_of o ≡ none → Kind o

pub kind : (o : Op) → Kind o
kind (O.XybToMixedLms b i) = no_matrix refl
kind (O.LumaToXyz x) = no_matrix refl
kind O.XyzToLuma = no_matrix refl
kind (O.Matrix m) = a_matrix m
kind (O.TransferFunction c p i) = no_matrix refl
kind (O.HlgInverseOotf p) = no_matrix refl
kind (O.ToneMapRec2408 p d b) = no_matrix refl
kind (O.ToneMapLumaRec2408 p d b) = no_matrix refl
kind (O.GamutMap l f) = no_matrix refl
kind O.Clip = no_matrix refl

pub absorbed : (p m : Mat3) (os : List Op) → merge_ops (O.Matrix p ∷ O.Matrix m ∷ os) ≡ merge_ops (O.Matrix (product m p) ∷ os)
absorbed p m os = before (grouped os)
  where
    before : (gs : List Group) → map one_op (joined_to p (joined_to m gs)) ≡ map one_op (joined_to (product m p) gs)
    before [] = refl
    before (run n ns ∷ gs) = refl
    before (other o ∷ gs) = refl

module _ (o : Op) (e : matrix_of o ≡ none) (os : List Op) where
  pub kept : merge_ops (o ∷ os) ≡ o ∷ merge_ops os
  kept = rw e

  pub kept-after : (m : Mat3) → merge_ops (O.Matrix m ∷ o ∷ os) ≡ O.Matrix m ∷ o ∷ merge_ops os
  kept-after m = rw e

pub no_longer : (os : List Op) → length (merge_ops os) ≤ length os
no_longer os = rw (length-map (grouped os) one_op) (groups os)
  where
    one_more : (k : Option Mat3) (o : Op) (gs : List Group) → length (placed k o gs) ≤ length gs + 1
    one_more none o gs = omega arith
    one_more (some m) o [] = omega arith
    one_more (some m) o (run n ns ∷ gs) = omega arith
    one_more (some m) o (other q ∷ gs) = omega arith

    groups : (os : List Op) → length (grouped os) ≤ length os
    groups [] = omega arith
    groups (o ∷ os) = omega (arith, one_more (matrix_of o) o (grouped os), groups os)

-- the merged list of a lawful list is lawful
pub short : (p : Plan) → length (merge_ops (ops_of p)) ≤ p.count
short p = omega (arith, no_longer (ops_of p), length-map (take p.count p.ops) op_of, length-take p.count p.ops)

pub still_formed : (p : Plan) → Lawful p → Formed p.start (length (merge_ops (ops_of p)))
still_formed p l = (l.0.0, omega (arith, short p, l.0.1))

pub still_lawful : (p : Plan) → Lawful p → Lawful (plan_of p.start (merge_ops (ops_of p)))
still_lawful p l = (still_formed p l, plan-true p.start (merge_ops (ops_of p)))

-- matrices before ops that no run begins: one run, and the groups of these ops
pub run-first : (m : Mat3) (ms : List Mat3) (os : List Op) → ((n : Mat3) → joined_to n (grouped os) ≡ run n [] ∷ grouped os) → grouped (map O.Matrix (m ∷ ms) ++ os) ≡ run m ms ∷ grouped os
run-first m [] os h = h m
run-first m (n ∷ ns) os h = ap (joined_to m) (run-first n ns os h)
