-- Each contract determines its function's answer; of `forms_of` the weights, which are all that a caller can see.
-- Two answers that equal one meaning are equal.
use mathlib.Core.Path.{sym, ◌∙◌}
use Rattle.notation.proofs.Determines.{Determines}
use Rattle.ycbcr_pixel.proofs.forms.forms_of.Reads as forms_of
use Rattle.ycbcr_pixel.proofs.forms.forms_of.Kinds as forms_of_kinds
use Rattle.ycbcr_pixel.proofs.high.Reads as high
use Rattle.ycbcr_pixel.proofs.high.Kinds as high_kinds
use Rattle.ycbcr_pixel.proofs.rgb.Reads as rgb
use Rattle.ycbcr_pixel.proofs.rgb.Kinds as rgb_kinds

pub forms_of-determines : Determines 0 forms_of_kinds.ps forms_of_kinds.r forms_of.Post (λ κs r s. r.weights)
forms_of-determines κs a x y s t p q = p ∙ sym q

pub high-determines : Determines 0 high_kinds.ps high_kinds.r high.Post (λ κs r s. r)
high-determines κs a x y s t p q = p ∙ sym q

pub rgb-determines : Determines 0 rgb_kinds.ps rgb_kinds.r rgb.Post (λ κs r s. r)
rgb-determines κs a x y s t p q = p ∙ sym q
