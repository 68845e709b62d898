-- The contract of each public function determines its answer.
-- Two answers that equal one meaning are equal.
use mathlib.Core.Path.{sym, ◌∙◌}
use Rattle.notation.proofs.Determines.{Determines}
use Rattle.list_merge.proofs.merge.Reads as merge
use Rattle.list_merge.proofs.merge.Kinds as merge_kinds
use Rattle.list_merge.proofs.paper.Reads as paper
use Rattle.list_merge.proofs.paper.Kinds as paper_kinds

pub merge-determines : Determines 0 merge_kinds.ps merge_kinds.r merge.Post (λ κs r s. r)
merge-determines κs a x y s t p q = p ∙ sym q

pub paper-determines : Determines 0 paper_kinds.ps paper_kinds.r paper.Post (λ κs r s. r)
paper-determines κs a x y s t p q = p ∙ sym q
