-- The contract of the public function determines its answer and what it leaves in the buffer.
-- Each is said to equal one value, so two are equal.
use mathlib.Core.Path.{sym, ◌∙◌}
use Rattle.notation.proofs.Determines.{Determines}
use Rattle.buffer.proofs.put.Reads as put
use Rattle.buffer.proofs.put.Kinds as put_kinds

pub put-determines : Determines 2 put_kinds.ps put_kinds.r put.Post (λ κs r s. r)
put-determines κs a x y s t p q = p.0 ∙ sym q.0

pub put-buffer_determines : Determines 2 put_kinds.ps put_kinds.r put.Post (λ κs r s. s.0.now)
put-buffer_determines κs a x y s t p q = p.1.0 ∙ sym q.1.0
