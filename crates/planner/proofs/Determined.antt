-- The contract of each public function determines its answer.
-- Two answers that equal one meaning are equal.
use mathlib.Core.Path.{sym, ◌∙◌}
use Rattle.notation.proofs.Determines.{Determines}
use Rattle.planner.proofs.plan.Reads as plan
use Rattle.planner.proofs.plan.Kinds as plan_kinds
use Rattle.planner.proofs.refused.Reads as refused
use Rattle.planner.proofs.refused.Kinds as refused_kinds
use Rattle.planner.proofs.paper.Reads as paper
use Rattle.planner.proofs.paper.Kinds as paper_kinds

pub plan-determines : Determines 0 plan_kinds.ps plan_kinds.r plan.Post (λ κs r s. r)
plan-determines κs a x y s t p q = p ∙ sym q

pub refused-determines : Determines 0 refused_kinds.ps refused_kinds.r refused.Post (λ κs r s. r)
refused-determines κs a x y s t p q = p ∙ sym q

pub paper-determines : Determines 0 paper_kinds.ps paper_kinds.r paper.Post (λ κs r s. r)
paper-determines κs a x y s t p q = p ∙ sym q
