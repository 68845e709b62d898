-- The contract of each public function determines its answer.
-- Two answers that equal one meaning are equal.
use mathlib.Core.Path.{sym, ◌∙◌}
use Rattle.notation.proofs.Determines.{Determines}
use Rattle.run_check.proofs.judge.Reads as judge
use Rattle.run_check.proofs.judge.Kinds as judge_kinds
use Rattle.run_check.proofs.paper.Reads as paper
use Rattle.run_check.proofs.paper.Kinds as paper_kinds

pub judge-determines : Determines 0 judge_kinds.ps judge_kinds.r judge.Post (λ κs r s. r)
judge-determines κs a x y s t p q = p ∙ sym q

pub paper-determines : Determines 0 paper_kinds.ps paper_kinds.r paper.Post (λ κs r s. r)
paper-determines κs a x y s t p q = p ∙ sym q
