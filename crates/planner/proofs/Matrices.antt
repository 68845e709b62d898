-- In a plan no matrix stands beside a matrix.
-- Its ops are merged, and merging leaves no two.
use mathlib.Core.Path.{◌≡◌, ap, sym, ◌∙◌}
use mathlib.Core.List.{List, ◌∷◌, ◌++◌}
use Rattle.ciexyz.specs.declared.Mat3.{Mat3}
use Rattle.list.specs.Lists.{ops_of}
use Rattle.op.specs.declared.Op.{Op}
use Rattle.op.specs.declared.Op.TheVariants as O
use Rattle.list.proofs.Building.{ops-of}
use Rattle.list_merge.specs.Merge.{merge_ops}
use Rattle.list_merge.proofs.Settled.{no_two_matrices}
use Rattle.encoding.specs.declared.ColourEncoding.{ColourEncoding}
use Rattle.encoding.specs.declared.Settings.{Settings}
use Rattle.planner.specs.Planning.{planned_of}
use Rattle.planner.proofs.Sorting.{told}

pub none_beside_another : (source target : ColourEncoding) (settings : Settings) (xs ys : List Op) (m n : Mat3) → ¬ (ops_of (planned_of source target settings).plan ≡ xs ++ (O.Matrix m ∷ O.Matrix n ∷ ys))
none_beside_another source target settings xs ys m n e =
    let t = told source target settings in
    no_two_matrices t.ops xs ys m n (sym (ap ops_of t.merged ∙ ops-of t.start (merge_ops t.ops)) ∙ e)
