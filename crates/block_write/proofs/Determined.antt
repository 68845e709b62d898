-- The contract of each public function determines its answer; of `write`, what is left in the lent buffer too, byte for byte.
-- Each is said to equal one value, so two are equal.
use mathlib.Core.Path.{sym, ◌∙◌}
use Rattle.notation.proofs.Determines.{Determines}
use Rattle.block_write.proofs.paper.Reads as paper
use Rattle.block_write.proofs.paper.Kinds as paper_kinds
use Rattle.block_write.proofs.length.Reads as length
use Rattle.block_write.proofs.length.Kinds as length_kinds
use Rattle.block_write.proofs.write.Reads as write
use Rattle.block_write.proofs.write.Kinds as write_kinds

pub paper-determines : Determines 0 paper_kinds.ps paper_kinds.r paper.Post (λ κs r s. r)
paper-determines κs a x y s t p q = p ∙ sym q

pub length-determines : Determines 0 length_kinds.ps length_kinds.r length.Post (λ κs r s. r)
length-determines κs a x y s t p q = p ∙ sym q

pub write-determines : Determines 1 write_kinds.ps write_kinds.r write.Post (λ κs r s. r)
write-determines κs a x y s t p q = p.0 ∙ sym q.0

pub write-buffer_determines : Determines 1 write_kinds.ps write_kinds.r write.Post (λ κs r s. s.1.1.0.now)
write-buffer_determines κs a x y s t p q = p.1 ∙ sym q.1
