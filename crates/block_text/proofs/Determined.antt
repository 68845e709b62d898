-- The contracts determine the answers, and what is left in the lent buffer.
-- Each is said to equal one value, so two are equal.
use mathlib.Core.Path.{sym, ◌∙◌}
use Rattle.notation.proofs.Determines.{Determines}
use Rattle.block_text.proofs.list.Reads as list
use Rattle.block_text.proofs.list.Kinds as list_kinds
use Rattle.block_text.proofs.list_plan.Reads as list_plan
use Rattle.block_text.proofs.list_plan.Kinds as list_plan_kinds

pub list-determines : Determines 2 list_kinds.ps list_kinds.r list.Post (λ κs r s. r)
list-determines κs a x y s t p q = p.size ∙ sym q.size

pub list-buffer_determines : Determines 2 list_kinds.ps list_kinds.r list.Post (λ κs r s. s.1.0.now)
list-buffer_determines κs a x y s t p q = p.contents ∙ sym q.contents

pub list_plan-determines : Determines 1 list_plan_kinds.ps list_plan_kinds.r list_plan.Post (λ κs r s. r)
list_plan-determines κs a x y s t p q = p.size ∙ sym q.size

pub list_plan-buffer_determines : Determines 1 list_plan_kinds.ps list_plan_kinds.r list_plan.Post (λ κs r s. s.1.0.now)
list_plan-buffer_determines κs a x y s t p q = p.contents ∙ sym q.contents
