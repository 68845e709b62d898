-- The contract of each public function determines its answer.
-- Two answers that equal one meaning are equal.
use mathlib.Core.Path.{sym, ◌∙◌}
use Rattle.notation.proofs.Determines.{Determines}
use Rattle.list_same.proofs.same_curve.Reads as same_curve
use Rattle.list_same.proofs.same_curve.Kinds as same_curve_kinds
use Rattle.list_same.proofs.same_list.Reads as same_list
use Rattle.list_same.proofs.same_list.Kinds as same_list_kinds

pub same_curve-determines : Determines 0 same_curve_kinds.ps same_curve_kinds.r same_curve.Post (λ κs r s. r)
same_curve-determines κs a x y s t p q = p ∙ sym q

pub same_list-determines : Determines 0 same_list_kinds.ps same_list_kinds.r same_list.Post (λ κs r s. r)
same_list-determines κs a x y s t p q = p ∙ sym q
