-- Each contract determines its function's answer.
-- Two answers that equal one meaning are equal.
use mathlib.Core.Path.{sym, ◌∙◌}
use Rattle.notation.proofs.Determines.{Determines}
use Rattle.channels.proofs.next_piece.Reads as next_piece
use Rattle.channels.proofs.next_piece.Kinds as next_piece_kinds
use Rattle.channels.proofs.paper.Reads as paper
use Rattle.channels.proofs.paper.Kinds as paper_kinds
use Rattle.channels.proofs.same_lengths.Reads as same_lengths
use Rattle.channels.proofs.same_lengths.Kinds as same_lengths_kinds

pub paper-determines : Determines 0 paper_kinds.ps paper_kinds.r paper.Post (λ κs r s. r)
paper-determines κs a x y s t p q = p ∙ sym q

pub same_lengths-determines : Determines 0 same_lengths_kinds.ps same_lengths_kinds.r same_lengths.Post (λ κs r s. r)
same_lengths-determines κs a x y s t p q = p ∙ sym q

pub next_piece-determines : Determines 0 next_piece_kinds.ps next_piece_kinds.r next_piece.Post (λ κs r s. r)
next_piece-determines κs a x y s t p q = p ∙ sym q
