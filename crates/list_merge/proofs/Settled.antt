-- A merged list has no two neighbouring matrices, merging it again gives the same list, and it is no longer than the list was;
-- and a list whose first part was merged before merges to the same ops. From Grouping and Regrouping.
use Prim.Native.Nat.{◌≤◌}
use mathlib.Core.Path.{◌≡◌, refl, ap, sym, ◌∙◌}
use mathlib.Core.Bool.{Bool, true, false}
use mathlib.Core.List.{List, [], ◌∷◌, ◌++◌, append-nil}
use native.Mathlib.Omega.{arith}
use Rattle.ciexyz.specs.declared.Mat3.{Mat3}
use Rattle.list.specs.Lists.{ops_of, plan_of, lawful}
use Rattle.op.specs.declared.Op.{Op}
use Rattle.op.specs.declared.Op.TheVariants as O
use Rattle.list.specs.declared.Plan.{Plan}
use Rattle.list.proofs.Building.{ops-of}
use Rattle.list.proofs.Formed.{lawful-exactly}
use Rattle.list_merge.specs.Merge.{merge_ops, merge_of}
use Rattle.list_merge.proofs.Grouping.{nothing-lost, runs-longest}
use Rattle.list_merge.proofs.Front.{short, still_lawful}
use Rattle.list_merge.proofs.Regrouping.{first-merged, no_neighbours}

-- no two matrices are neighbours
pub no_two_matrices : (os xs ys : List Op) (m n : Mat3) → ¬ (merge_ops os ≡ xs ++ (O.Matrix m ∷ O.Matrix n ∷ ys))
no_two_matrices os = no_neighbours (runs-longest os)

-- merging a part before changes nothing: "merging the joined list gives the same ops whether or not the first list was merged before"
pub first_part : (os bs : List Op) → merge_ops (merge_ops os ++ bs) ≡ merge_ops (os ++ bs)
first_part os bs = first-merged (runs-longest os) bs ∙ ap (λ (l : List Op). merge_ops (l ++ bs)) (nothing-lost os)

-- merging again gives the same ops
pub ops-again : (os : List Op) → merge_ops (merge_ops os) ≡ merge_ops os
ops-again os = ap merge_ops (sym (append-nil (merge_ops os))) ∙ first_part os [] ∙ ap merge_ops (append-nil os)

-- the merged list is no longer
pub merged-count : (p : Plan) → (merge_of p).plan.count ≤ p.count
merged-count p = by (lawful p) refl
  where
    by : (b : Bool) → lawful p ≡ b → (merge_of p).plan.count ≤ p.count
    by true e = rw e (short p)
    by false e = rw e (omega arith)

-- merging again gives the same list
pub merged-again : (p : Plan) → merge_of (merge_of p).plan ≡ merge_of p
merged-again p = by (lawful p) refl
  where
    q : Plan
    q = plan_of p.start (merge_ops (ops_of p))

    again : lawful p ≡ true → lawful q ≡ true
    again e = (lawful-exactly q).1 (still_lawful p ((lawful-exactly p).0 e))

    of-q : lawful p ≡ true → merge_of q ≡ merge_of p
    of-q e = rw (again e, e, ops-of p.start (merge_ops (ops_of p)), ops-again (ops_of p))

    by : (b : Bool) → lawful p ≡ b → merge_of (merge_of p).plan ≡ merge_of p
    by true e = let merged : (merge_of p).plan ≡ q = rw e in ap merge_of merged ∙ of-q e
    by false e = rw e
