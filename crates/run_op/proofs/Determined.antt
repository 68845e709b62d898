-- The contract determines its function's answer, and what it leaves in every lent buffer.
-- Each is said to equal one value, so two are equal.
use mathlib.Core.Path.{sym, ◌∙◌}
use Rattle.notation.proofs.Determines.{Determines}
use Rattle.channels.specs.Channels.{channels}
use Rattle.run_op.proofs.apply.Reads as apply
use Rattle.run_op.proofs.apply.Kinds as apply_kinds

pub apply-determines : Determines 3 apply_kinds.ps apply_kinds.r apply.Post (λ κs r s. r)
apply-determines κs a x y s t p q = p.0 ∙ sym q.0

pub apply-channels_determines : Determines 3 apply_kinds.ps apply_kinds.r apply.Post (λ κs r s. channels s.1.1.0.now s.1.1.1.0.now s.1.1.1.1.0.now)
apply-channels_determines κs a x y s t p q = p.1 ∙ sym q.1
