-- The rows of the table lead through a list from one width to another exactly where they lead through the merged list.
-- Group by group: a run, as its product, finds width 3 and gives it.
use Prim.Native.Nat.{ℕ}
use mathlib.Core.List.{List, [], ◌∷◌, ◌++◌, map}
use mathlib.Core.Logic.{◌↔◌}
use Rattle.ciexyz.specs.declared.Mat3.{Mat3}
use Rattle.op.specs.Table.{matrix}
use Rattle.op.specs.declared.Op.{Op}
use Rattle.op.specs.declared.Op.TheVariants as O
use Rattle.list.specs.Fits.{Fits, more}
use Rattle.list_merge.specs.Groups.{Group, run, other, grouped, ungrouped}
use Rattle.list_merge.specs.Merge.{one_op, merge_ops}
use Rattle.list_merge.proofs.Grouping.{nothing-lost}

past_run : (ms : List Mat3) {os : List Op} {v : ℕ} → Fits 3 (map O.Matrix ms ++ os) v → Fits 3 os v
past_run [] f = f
past_run (m ∷ ms) (more matrix f) = past_run ms f

through_run : (ms : List Mat3) {os : List Op} {v : ℕ} → Fits 3 os v → Fits 3 (map O.Matrix ms ++ os) v
through_run [] f = f
through_run (m ∷ ms) f = more matrix (through_run ms f)

merged : (gs : List Group) {w v : ℕ} → Fits w (ungrouped gs) v → Fits w (map one_op gs) v
merged [] f = f
merged (run m ms ∷ gs) (more matrix f) = more matrix (merged gs (past_run ms f))
merged (other o ∷ gs) (more s f) = more s (merged gs f)

unmerged : (gs : List Group) {w v : ℕ} → Fits w (map one_op gs) v → Fits w (ungrouped gs) v
unmerged [] f = f
unmerged (run m ms ∷ gs) (more matrix f) = more matrix (through_run ms (unmerged gs f))
unmerged (other o ∷ gs) (more s f) = more s (unmerged gs f)

pub fits-merged : (os : List Op) {w v : ℕ} → Fits w os v ↔ Fits w (merge_ops os) v
fits-merged os = (λ f. merged (grouped os) (rw (nothing-lost os) f), λ f. rw (nothing-lost os) at (unmerged (grouped os) f))
