-- The contract of each public function determines its answer, and what it leaves in every lent buffer.
-- Each is said to equal one value, so two are equal.
use mathlib.Core.Path.{sym, ◌∙◌}
use Rattle.notation.proofs.Determines.{Determines}
use Rattle.c_plan.proofs.rindsaddle_plan.Reads as plan
use Rattle.c_plan.proofs.rindsaddle_plan.Kinds as plan_kinds
use Rattle.c_plan.proofs.sent.send.Reads as send
use Rattle.c_plan.proofs.sent.send.Kinds as send_kinds
use Rattle.c_plan.proofs.sent.send_and_tell.Reads as send_and_tell
use Rattle.c_plan.proofs.sent.send_and_tell.Kinds as send_and_tell_kinds
use Rattle.c_plan.proofs.sent.tell_widths.Reads as tell_widths
use Rattle.c_plan.proofs.sent.tell_widths.Kinds as tell_widths_kinds

pub plan-determines : Determines 5 plan_kinds.ps plan_kinds.r plan.Post (λ κs r s. r)
plan-determines κs a x y s t p q = p.0 ∙ sym q.0

pub plan-told_determines : Determines 5 plan_kinds.ps plan_kinds.r plan.Post (λ κs r s. s.1.1.1.1.1.1.1.0.now)
plan-told_determines κs a x y s t p q = p.1.0 ∙ sym q.1.0

pub plan-out_determines : Determines 5 plan_kinds.ps plan_kinds.r plan.Post (λ κs r s. s.1.1.1.1.1.1.0.now)
plan-out_determines κs a x y s t p q = p.1.1 ∙ sym q.1.1

pub send-determines : Determines 1 send_kinds.ps send_kinds.r send.Post (λ κs r s. r)
send-determines κs a x y s t p q = p.0 ∙ sym q.0

pub send-out_determines : Determines 1 send_kinds.ps send_kinds.r send.Post (λ κs r s. s.1.1.1.0.now)
send-out_determines κs a x y s t p q = p.1 ∙ sym q.1

pub send_and_tell-determines : Determines 2 send_and_tell_kinds.ps send_and_tell_kinds.r send_and_tell.Post (λ κs r s. r)
send_and_tell-determines κs a x y s t p q = p.0 ∙ sym q.0

pub send_and_tell-told_determines : Determines 2 send_and_tell_kinds.ps send_and_tell_kinds.r send_and_tell.Post (λ κs r s. s.1.1.1.1.0.now)
send_and_tell-told_determines κs a x y s t p q = p.1.0 ∙ sym q.1.0

pub send_and_tell-out_determines : Determines 2 send_and_tell_kinds.ps send_and_tell_kinds.r send_and_tell.Post (λ κs r s. s.1.1.1.0.now)
send_and_tell-out_determines κs a x y s t p q = p.1.1 ∙ sym q.1.1

pub tell_widths-determines : Determines 1 tell_widths_kinds.ps tell_widths_kinds.r tell_widths.Post (λ κs r s. s.0.now)
tell_widths-determines κs a x y s t p q = p ∙ sym q
