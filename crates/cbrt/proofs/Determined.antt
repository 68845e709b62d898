-- `cbrt`'s contract determines its answer.
-- The answer is said to equal one value, so two answers are equal.
use mathlib.Core.Path.{sym, ◌∙◌}
use Rattle.notation.proofs.Determines.{Determines}
use Rattle.cbrt.proofs.cbrt.Reads as cbrt
use Rattle.cbrt.proofs.cbrt.Kinds as cbrt_kinds

pub cbrt-determines : Determines 0 cbrt_kinds.ps cbrt_kinds.r cbrt.Post (λ κs r s. r)
cbrt-determines κs a x y s t p q = p.1 ∙ sym q.1
