-- Merging the first part of a list beforehand changes nothing, and no two matrices are neighbours in a merged list.
-- By the groups of the first part, whose runs are longest: a run is absorbed into its product, and stands before another op or the rest.
use Prim.Native.Nat.{ℕ}
use mathlib.Core.Path.{◌≡◌, refl, ap, sym, ◌∙◌}
use mathlib.Core.List.{List, [], ◌∷◌, ◌++◌, map}
use mathlib.Core.Option.{none}
use native.Mathlib.Omega.{arith}
use Rattle.ciexyz.specs.Matrix.{product}
use Rattle.ciexyz.specs.declared.Mat3.{Mat3}
use Rattle.op.specs.declared.Op.{Op}
use Rattle.op.specs.declared.Op.TheVariants as O
use Rattle.list_merge.specs.Groups.{Group, matrix_of, ungrouped, Longest, end, op_by_itself, last_run, run_before_op}
use Rattle.list_merge.specs.Merge.{run_product, one_op, merge_ops}
use Rattle.list_merge.proofs.Front.{absorbed, kept, kept-after}

run-absorbed : (m : Mat3) (ms : List Mat3) (bs os : List Op) → merge_ops ((map O.Matrix (m ∷ ms) ++ bs) ++ os) ≡ merge_ops (O.Matrix (run_product m ms) ∷ bs ++ os)
run-absorbed m [] bs os = refl
run-absorbed m (n ∷ ns) bs os = absorbed m n ((map O.Matrix ns ++ bs) ++ os) ∙ run-absorbed (product n m) ns bs os

pub first-merged : {gs : List Group} → Longest gs → (os : List Op) → merge_ops (map one_op gs ++ os) ≡ merge_ops (ungrouped gs ++ os)
first-merged end os = refl
first-merged (op_by_itself {o} {gs} e l) os =
    kept o e (map one_op gs ++ os)
    ∙ ap (λ (k : List Op). o ∷ k) (first-merged l os)
    ∙ sym (kept o e (ungrouped gs ++ os))
first-merged (last_run {m} {ms}) os = sym (run-absorbed m ms [] os)
first-merged (run_before_op {m} {ms} (op_by_itself {o} {gs} e l)) os =
    kept-after o e (map one_op gs ++ os) (run_product m ms)
    ∙ ap (λ (k : List Op). O.Matrix (run_product m ms) ∷ o ∷ k) (first-merged l os)
    ∙ sym (kept-after o e (ungrouped gs ++ os) (run_product m ms))
    ∙ sym (run-absorbed m ms (o ∷ ungrouped gs) os)

no_op_left : (xs ys : List Op) (o : Op) → [] ≡ xs ++ (o ∷ ys) → ⊥
no_op_left [] ys o e = let z : ◌≡◌ {A = ℕ} 0 1 = cc in omega arith
no_op_left (x ∷ xs) ys o e = let z : ◌≡◌ {A = ℕ} 0 1 = cc in omega arith

not_a_matrix : (o : Op) (m : Mat3) → matrix_of o ≡ none → o ≡ O.Matrix m → ⊥
not_a_matrix o m e f = let h = ap matrix_of f in let z : ◌≡◌ {A = ℕ} 0 1 = cc in omega arith

pub no_neighbours : {gs : List Group} → Longest gs → (xs ys : List Op) (m n : Mat3) → map one_op gs ≡ xs ++ (O.Matrix m ∷ O.Matrix n ∷ ys) → ⊥
no_neighbours end xs ys m n e = no_op_left xs (O.Matrix n ∷ ys) (O.Matrix m) e
no_neighbours (op_by_itself {o} h l) [] ys m n e = not_a_matrix o m h (cc)
no_neighbours (op_by_itself h l) (x ∷ xs) ys m n e = no_neighbours l xs ys m n (cc)
no_neighbours last_run [] ys m n e = no_op_left [] ys (O.Matrix n) (cc)
no_neighbours last_run (x ∷ xs) ys m n e = no_op_left xs (O.Matrix n ∷ ys) (O.Matrix m) (cc)
no_neighbours (run_before_op (op_by_itself {o} h l)) [] ys m n e = not_a_matrix o n h (cc)
no_neighbours (run_before_op l) (x ∷ xs) ys m n e = no_neighbours l xs ys m n (cc)
