-- Each contract determines its function's answer, and what it leaves in every lent buffer.
-- Each is said to equal one value, so two are equal.
use mathlib.Core.Path.{sym, ◌∙◌}
use Rattle.notation.proofs.Determines.{Determines}
use Rattle.channels.specs.Channels.{channels}
use Rattle.run.proofs.outcomes.paper.Reads as paper
use Rattle.run.proofs.outcomes.paper.Kinds as paper_kinds
use Rattle.run.proofs.run.Reads as run
use Rattle.run.proofs.run.Kinds as run_kinds

pub paper-determines : Determines 0 paper_kinds.ps paper_kinds.r paper.Post (λ κs r s. r)
paper-determines κs a x y s t p q = p ∙ sym q

pub run-determines : Determines 3 run_kinds.ps run_kinds.r run.Post (λ κs r s. r)
run-determines κs a x y s t p q = p.0 ∙ sym q.0

pub run-channels_determines : Determines 3 run_kinds.ps run_kinds.r run.Post (λ κs r s. channels s.1.0.now s.1.1.0.now s.1.1.1.0.now)
run-channels_determines κs a x y s t p q = p.1 ∙ sym q.1
