-- The contract of each public function determines its answer.
-- Two answers that equal one meaning are equal.
use mathlib.Core.Path.{sym, ◌∙◌}
use Rattle.notation.proofs.Determines.{Determines}
use Rattle.op_fields.proofs.apart.parts_of.Reads as parts_of
use Rattle.op_fields.proofs.apart.parts_of.Kinds as parts_of_kinds
use Rattle.op_fields.proofs.apart.layout_of.Reads as layout_of
use Rattle.op_fields.proofs.apart.layout_of.Kinds as layout_of_kinds
use Rattle.op_fields.proofs.together.op_by.Reads as op_by
use Rattle.op_fields.proofs.together.op_by.Kinds as op_by_kinds
use Rattle.op_fields.proofs.curves.curve_number.Reads as curve_number
use Rattle.op_fields.proofs.curves.curve_number.Kinds as curve_number_kinds
use Rattle.op_fields.proofs.curves.gamma.Reads as gamma
use Rattle.op_fields.proofs.curves.gamma.Kinds as gamma_kinds
use Rattle.op_fields.proofs.curves.curve_numbered.Reads as curve_numbered
use Rattle.op_fields.proofs.curves.curve_numbered.Kinds as curve_numbered_kinds

pub parts_of-determines : Determines 0 parts_of_kinds.ps parts_of_kinds.r parts_of.Post (λ κs r s. r)
parts_of-determines κs a x y s t p q = p ∙ sym q

pub layout_of-determines : Determines 0 layout_of_kinds.ps layout_of_kinds.r layout_of.Post (λ κs r s. r)
layout_of-determines κs a x y s t p q = p ∙ sym q

pub op_by-determines : Determines 0 op_by_kinds.ps op_by_kinds.r op_by.Post (λ κs r s. r)
op_by-determines κs a x y s t p q = p ∙ sym q

pub curve_number-determines : Determines 0 curve_number_kinds.ps curve_number_kinds.r curve_number.Post (λ κs r s. r)
curve_number-determines κs a x y s t p q = p ∙ sym q

pub gamma-determines : Determines 0 gamma_kinds.ps gamma_kinds.r gamma.Post (λ κs r s. r)
gamma-determines κs a x y s t p q = p ∙ sym q

pub curve_numbered-determines : Determines 0 curve_numbered_kinds.ps curve_numbered_kinds.r curve_numbered.Post (λ κs r s. r)
curve_numbered-determines κs a x y s t p q = p ∙ sym q
