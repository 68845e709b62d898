-- The exported contract determines the answer, the three channels that are left, and what is told.
-- Each is said to equal one value, so two are equal.
use mathlib.Core.Path.{sym, ◌∙◌}
use Rattle.notation.proofs.Determines.{Determines}
use Rattle.channels.specs.Channels.{channels}
use Rattle.c_run.proofs.rindsaddle_run.Reads as run
use Rattle.c_run.proofs.rindsaddle_run.Kinds as run_kinds

pub run-determines : Determines 5 run_kinds.ps run_kinds.r run.Post (λ κs r s. r)
run-determines κs a x y s t p q = p.0 ∙ sym q.0

pub run-channels_determines : Determines 5 run_kinds.ps run_kinds.r run.Post (λ κs r s. channels s.1.0.now s.1.1.0.now s.1.1.1.0.now)
run-channels_determines κs a x y s t p q = p.1.0 ∙ sym q.1.0

pub run-told_determines : Determines 5 run_kinds.ps run_kinds.r run.Post (λ κs r s. s.1.1.1.1.0.now)
run-told_determines κs a x y s t p q = p.1.1 ∙ sym q.1.1
