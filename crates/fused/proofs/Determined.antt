-- `mul_add`'s contract determines its answer.
-- The answer is said to equal one value, so two answers are equal.
use mathlib.Core.Path.{sym, ◌∙◌}
use Rattle.notation.proofs.Determines.{Determines}
use Rattle.fused.proofs.mul_add.Reads as mul-add
use Rattle.fused.proofs.mul_add.Kinds as mul_add_kinds

pub mul_add-determines : Determines 0 mul_add_kinds.ps mul_add_kinds.r mul-add.Post (λ κs r s. r)
mul_add-determines κs a x y s t p q = p ∙ sym q
