-- The contract of each public function determines its answer.
-- Two answers that equal one meaning are equal.
use mathlib.Core.Path.{sym, ◌∙◌}
use Rattle.notation.proofs.Determines.{Determines}
use Rattle.encoding_numbers.proofs.side_of.Reads as side_of
use Rattle.encoding_numbers.proofs.side_of.Kinds as side_of_kinds
use Rattle.encoding_numbers.proofs.settings_of.Reads as settings_of
use Rattle.encoding_numbers.proofs.settings_of.Kinds as settings_of_kinds

pub side_of-determines : Determines 1 side_of_kinds.ps side_of_kinds.r side_of.Post (λ κs r s. r)
side_of-determines κs a x y s t p q = p ∙ sym q

pub settings_of-determines : Determines 1 settings_of_kinds.ps settings_of_kinds.r settings_of.Post (λ κs r s. r)
settings_of-determines κs a x y s t p q = p ∙ sym q
