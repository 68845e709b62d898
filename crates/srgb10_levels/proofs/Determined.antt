-- Each contract determines its function's answer, and what it leaves in the lent buffer.
-- Each is said to equal one value, so two are equal.
use mathlib.Core.Path.{sym, ◌∙◌}
use Rattle.notation.proofs.Determines.{Determines}
use Rattle.srgb10_levels.proofs.paper.Reads as paper
use Rattle.srgb10_levels.proofs.paper.Kinds as paper_kinds
use Rattle.srgb10_levels.proofs.code_levels.Reads as code_levels
use Rattle.srgb10_levels.proofs.code_levels.Kinds as code_levels_kinds

pub paper-determines : Determines 0 paper_kinds.ps paper_kinds.r paper.Post (λ κs r s. r)
paper-determines κs a x y s t p q = p ∙ sym q

pub code_levels-determines : Determines 2 code_levels_kinds.ps code_levels_kinds.r code_levels.Post (λ κs r s. r)
code_levels-determines κs a x y s t p q = p.0 ∙ sym q.0

pub code_levels-levels_determines : Determines 2 code_levels_kinds.ps code_levels_kinds.r code_levels.Post (λ κs r s. s.1.0.now)
code_levels-levels_determines κs a x y s t p q = p.1 ∙ sym q.1
