-- The contract of each public function determines its answer.
-- Each says that the answer is one value, which two answers to the same arguments then share.
use mathlib.Core.Path.{sym, ◌∙◌}
use Rattle.notation.proofs.Determines.{Determines}
use Rattle.notation.proofs.Answer.done.Reads as done
use Rattle.notation.proofs.Answer.done.Kinds as done_kinds
use Rattle.notation.proofs.Answer.refused.Reads as refused
use Rattle.notation.proofs.Answer.refused.Kinds as refused_kinds
use Rattle.notation.proofs.Answer.refused_at.Reads as refused_at
use Rattle.notation.proofs.Answer.refused_at.Kinds as refused_at_kinds

pub done-determines : Determines 0 done_kinds.ps done_kinds.r done.Post (λ κs r s. r)
done-determines κs a x y s t p q = p ∙ sym q

pub refused-determines : Determines 0 refused_kinds.ps refused_kinds.r refused.Post (λ κs r s. r)
refused-determines κs a x y s t p q = p ∙ sym q

pub refused_at-determines : Determines 0 refused_at_kinds.ps refused_at_kinds.r refused_at.Post (λ κs r s. r)
refused_at-determines κs a x y s t p q = p ∙ sym q
