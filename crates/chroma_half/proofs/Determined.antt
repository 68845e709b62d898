-- Each contract determines its function's answer, and what it leaves in the lent buffer.
-- Each is said to equal one value, so two are equal.
use mathlib.Core.Path.{sym, ◌∙◌}
use Rattle.notation.proofs.Determines.{Determines}
use Rattle.chroma_half.proofs.paper.Reads as paper
use Rattle.chroma_half.proofs.paper.Kinds as paper_kinds
use Rattle.chroma_half.proofs.fits_twice.Reads as fits_twice
use Rattle.chroma_half.proofs.fits_twice.Kinds as fits_twice_kinds
use Rattle.chroma_half.proofs.output_at.Reads as output_at
use Rattle.chroma_half.proofs.output_at.Kinds as output_at_kinds
use Rattle.chroma_half.proofs.widen.Reads as widen
use Rattle.chroma_half.proofs.widen.Kinds as widen_kinds
use Rattle.chroma_half.proofs.narrow.Reads as narrow
use Rattle.chroma_half.proofs.narrow.Kinds as narrow_kinds

pub paper-determines : Determines 0 paper_kinds.ps paper_kinds.r paper.Post (λ κs r s. r)
paper-determines κs a x y s t p q = p ∙ sym q

pub fits_twice-determines : Determines 0 fits_twice_kinds.ps fits_twice_kinds.r fits_twice.Post (λ κs r s. r)
fits_twice-determines κs a x y s t p q = p ∙ sym q

pub output_at-determines : Determines 1 output_at_kinds.ps output_at_kinds.r output_at.Post (λ κs r s. r)
output_at-determines κs a x y s t p q = p ∙ sym q

pub widen-determines : Determines 2 widen_kinds.ps widen_kinds.r widen.Post (λ κs r s. r)
widen-determines κs a x y s t p q = p.0 ∙ sym q.0

pub widen-line_determines : Determines 2 widen_kinds.ps widen_kinds.r widen.Post (λ κs r s. s.1.0.now)
widen-line_determines κs a x y s t p q = p.1 ∙ sym q.1

pub narrow-determines : Determines 2 narrow_kinds.ps narrow_kinds.r narrow.Post (λ κs r s. r)
narrow-determines κs a x y s t p q = p.0 ∙ sym q.0

pub narrow-line_determines : Determines 2 narrow_kinds.ps narrow_kinds.r narrow.Post (λ κs r s. s.1.0.now)
narrow-line_determines κs a x y s t p q = p.1 ∙ sym q.1
