-- Each contract determines its function's answer; of `forms_of` the weights, which are all that a caller can see.
-- Two answers that equal one meaning are equal.
use mathlib.Core.Path.{sym, ◌∙◌}
use Rattle.notation.proofs.Determines.{Determines}
use Rattle.ycbcr_pixel_back.proofs.forms.forms_of.Reads as forms_of
use Rattle.ycbcr_pixel_back.proofs.forms.forms_of.Kinds as forms_of_kinds
use Rattle.ycbcr_pixel_back.proofs.ycbcr.Reads as ycbcr
use Rattle.ycbcr_pixel_back.proofs.ycbcr.Kinds as ycbcr_kinds

pub forms_of-determines : Determines 0 forms_of_kinds.ps forms_of_kinds.r forms_of.Post (λ κs r s. r.weights)
forms_of-determines κs a x y s t p q = p ∙ sym q

pub ycbcr-determines : Determines 0 ycbcr_kinds.ps ycbcr_kinds.r ycbcr.Post (λ κs r s. r)
ycbcr-determines κs a x y s t p q = p ∙ sym q
