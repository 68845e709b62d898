-- The contract of each public function determines its answer, and what it leaves in the lent channels.
-- Two answers that equal one meaning are equal.
use mathlib.Core.Path.{sym, ◌∙◌}
use Rattle.notation.proofs.Determines.{Determines}
use Rattle.channels.specs.Channels.{channels}
use Rattle.run_strips.proofs.paper.Reads as paper
use Rattle.run_strips.proofs.paper.Kinds as paper_kinds
use Rattle.run_strips.proofs.closed.Reads as closed
use Rattle.run_strips.proofs.closed.Kinds as closed_kinds
use Rattle.run_strips.proofs.open.Reads as opening
use Rattle.run_strips.proofs.open.Kinds as opening_kinds
use Rattle.run_strips.proofs.strip.Reads as strip
use Rattle.run_strips.proofs.strip.Kinds as strip_kinds
use Rattle.run_strips.proofs.close.Reads as close
use Rattle.run_strips.proofs.close.Kinds as close_kinds

pub paper-determines : Determines 0 paper_kinds.ps paper_kinds.r paper.Post (λ κs r s. r)
paper-determines κs a x y s t p q = p ∙ sym q

pub closed-determines : Determines 0 closed_kinds.ps closed_kinds.r closed.Post (λ κs r s. r)
closed-determines κs a x y s t p q = p ∙ sym q

pub open-determines : Determines 0 opening_kinds.ps opening_kinds.r opening.Post (λ κs r s. r)
open-determines κs a x y s t p q = p ∙ sym q

pub close-determines : Determines 0 close_kinds.ps close_kinds.r close.Post (λ κs r s. r)
close-determines κs a x y s t p q = p ∙ sym q

pub strip-determines : Determines 3 strip_kinds.ps strip_kinds.r strip.Post (λ κs r s. r)
strip-determines κs a x y s t p q = p.0 ∙ sym q.0

pub strip-channels_determines : Determines 3 strip_kinds.ps strip_kinds.r strip.Post (λ κs r s. channels s.1.0.now s.1.1.0.now s.1.1.1.0.now)
strip-channels_determines κs a x y s t p q = p.1 ∙ sym q.1
