-- Each contract determines its function's answer, and what it leaves in every lent buffer.
-- Each is said to equal one value, so two are equal.
use mathlib.Core.Path.{sym, ◌∙◌}
use Rattle.notation.proofs.Determines.{Determines}
use Rattle.channels.specs.Channels.{channels}
use Rattle.step_xyb.proofs.xyb_to_mixed_lms.Reads as xyb_to_mixed_lms
use Rattle.step_xyb.proofs.xyb_to_mixed_lms.Kinds as xyb_to_mixed_lms_kinds
use Rattle.step_xyb.proofs.xyb_to_mixed_lms_samples.Reads as samples
use Rattle.step_xyb.proofs.xyb_to_mixed_lms_samples.Kinds as samples_kinds

pub xyb_to_mixed_lms-determines : Determines 3 xyb_to_mixed_lms_kinds.ps xyb_to_mixed_lms_kinds.r xyb_to_mixed_lms.Post (λ κs r s. r)
xyb_to_mixed_lms-determines κs a x y s t p q = p.0 ∙ sym q.0

pub xyb_to_mixed_lms-channels_determines : Determines 3 xyb_to_mixed_lms_kinds.ps xyb_to_mixed_lms_kinds.r xyb_to_mixed_lms.Post (λ κs r s. channels s.1.1.0.now s.1.1.1.0.now s.1.1.1.1.0.now)
xyb_to_mixed_lms-channels_determines κs a x y s t p q = p.1 ∙ sym q.1

pub samples-determines : Determines 3 samples_kinds.ps samples_kinds.r samples.Post (λ κs r s. r)
samples-determines κs a x y s t p q = p.0 ∙ sym q.0

pub samples-channels_determines : Determines 3 samples_kinds.ps samples_kinds.r samples.Post (λ κs r s. channels s.1.1.0.now s.1.1.1.0.now s.1.1.1.1.0.now)
samples-channels_determines κs a x y s t p q = p.1 ∙ sym q.1
