-- The groups of a list are its longest runs of matrices and its other ops: nothing is lost, and there is no other way to group it so.
-- Op by op, by the group that comes next.
use mathlib.Core.Path.{◌≡◌, refl, ap, ◌∙◌}
use mathlib.Core.List.{List, [], ◌∷◌}
use Rattle.ciexyz.specs.declared.Mat3.{Mat3}
use Rattle.op.specs.declared.Op.{Op}
use Rattle.op.specs.declared.Op.TheVariants as O
use Rattle.list_merge.specs.Groups.{Group, run, other, joined_to, grouped, ungrouped, Longest, end, op_by_itself, last_run, run_before_op}
use Rattle.list_merge.proofs.Front.{Kind, a_matrix, no_matrix, kind, run-first}

-- the groups, one after the other, are the list
pub nothing-lost : (os : List Op) → ungrouped (grouped os) ≡ os
nothing-lost [] = refl
nothing-lost (o ∷ os) = at (kind o) os (nothing-lost os)
  where
    joins : (m : Mat3) (gs : List Group) → ungrouped (joined_to m gs) ≡ O.Matrix m ∷ ungrouped gs
    joins m [] = refl
    joins m (run n ns ∷ gs) = refl
    joins m (other o ∷ gs) = refl

    at : {o : Op} → Kind o → (os : List Op) → ungrouped (grouped os) ≡ os → ungrouped (grouped (o ∷ os)) ≡ o ∷ os
    at (a_matrix m) os h = joins m (grouped os) ∙ ap (λ (l : List Op). O.Matrix m ∷ l) h
    at {o} (no_matrix e) os h = rw e (ap (λ (l : List Op). o ∷ l) h)

-- the runs are longest
pub runs-longest : (os : List Op) → Longest (grouped os)
runs-longest [] = end
runs-longest (o ∷ os) = at (kind o) os (runs-longest os)
  where
    joins : {gs : List Group} (m : Mat3) → Longest gs → Longest (joined_to m gs)
    joins m end = last_run
    joins m (op_by_itself e l) = run_before_op (op_by_itself e l)
    joins m last_run = last_run
    joins m (run_before_op l) = run_before_op l

    at : {o : Op} → Kind o → (os : List Op) → Longest (grouped os) → Longest (grouped (o ∷ os))
    at (a_matrix m) os l = joins m l
    at (no_matrix e) os l = rw e (op_by_itself e l)

-- groups whose runs are longest are the groups of their ops
pub one_way : {gs : List Group} → Longest gs → grouped (ungrouped gs) ≡ gs
one_way end = refl
one_way (op_by_itself {o} e l) = rw e (ap (λ (gs : List Group). other o ∷ gs) (one_way l))
one_way (last_run {m} {ms}) = run-first m ms [] (λ n. refl)
one_way (run_before_op {m} {ms} {o} {gs} l) =
    let e : grouped (ungrouped (other o ∷ gs)) ≡ other o ∷ gs = one_way l in
    run-first m ms (ungrouped (other o ∷ gs)) (λ n. rw e) ∙ ap (λ (hs : List Group). run m ms ∷ hs) e
