-- Each contract determines its function's answer.
-- Two answers that equal one meaning are equal.
use mathlib.Core.Path.{sym, ◌∙◌}
use Rattle.notation.proofs.Determines.{Determines}
use Rattle.ycbcr_weights.proofs.t871.Reads as t871
use Rattle.ycbcr_weights.proofs.t871.Kinds as t871_kinds
use Rattle.ycbcr_weights.proofs.bt709.Reads as bt709
use Rattle.ycbcr_weights.proofs.bt709.Kinds as bt709_kinds

pub t871-determines : Determines 0 t871_kinds.ps t871_kinds.r t871.Post (λ κs r s. r)
t871-determines κs a x y s t p q = p ∙ sym q

pub bt709-determines : Determines 0 bt709_kinds.ps bt709_kinds.r bt709.Post (λ κs r s. r)
bt709-determines κs a x y s t p q = p ∙ sym q
