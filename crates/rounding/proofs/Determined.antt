-- `rounded`'s contract determines its answer.
-- Each field is said to equal one value, so two answers are equal.
use Rattle.std.proofs.Common.{sym, ◌∙◌}
use Rattle.notation.proofs.Determines.{Determines}
use Rattle.rounding.proofs.rounded.Reads as rounded
use Rattle.rounding.proofs.rounded.Kinds as rounded_kinds

pub rounded-determines : Determines 0 rounded_kinds.ps rounded_kinds.r rounded.Post (λ κs r s. r)
rounded-determines κs a x y s t p q = λ i. record { pattern = (p.0 ∙ sym q.0) i; sure = (p.1 ∙ sym q.1) i }
