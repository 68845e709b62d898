-- The contract of `same_lengths` determines its answer; what `each_place` leaves is as determined as what it calls.
-- Two answers that equal one meaning are equal.
use mathlib.Core.Path.{sym, ◌∙◌}
use Rattle.notation.proofs.Determines.{Determines}
use Rattle.ycbcr_planes.proofs.same_lengths.Reads as same_lengths
use Rattle.ycbcr_planes.proofs.same_lengths.Kinds as same_lengths_kinds

pub same_lengths-determines : Determines 0 same_lengths_kinds.ps same_lengths_kinds.r same_lengths.Post (λ κs r s. r)
same_lengths-determines κs a x y s t p q = p ∙ sym q
