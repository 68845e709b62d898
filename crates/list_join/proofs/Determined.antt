-- The contract of each public function determines its answer.
-- Two answers that equal one meaning are equal.
use mathlib.Core.Path.{sym, ◌∙◌}
use Rattle.notation.proofs.Determines.{Determines}
use Rattle.list_join.proofs.join.Reads as join
use Rattle.list_join.proofs.join.Kinds as join_kinds

pub join-determines : Determines 0 join_kinds.ps join_kinds.r join.Post (λ κs r s. r)
join-determines κs a x y s t p q = p ∙ sym q
