-- Each exported contract determines its function's answer, and the three channels that it leaves.
-- Each is said to equal one value, so two are equal.
use mathlib.Core.Path.{sym, ap, ◌∙◌}
use Rattle.notation.proofs.Determines.{Determines}
use Rattle.channels.specs.Channels.{Channels, channels}
use Rattle.c_steps.proofs.rindsaddle_xyb_to_mixed_lms.Reads as xyb_to_mixed_lms
use Rattle.c_steps.proofs.rindsaddle_xyb_to_mixed_lms.Kinds as xyb_to_mixed_lms_kinds
use Rattle.c_steps.proofs.rindsaddle_matrix.Reads as matrix
use Rattle.c_steps.proofs.rindsaddle_matrix.Kinds as matrix_kinds
use Rattle.c_steps.proofs.rindsaddle_luma_to_xyz.Reads as luma_to_xyz
use Rattle.c_steps.proofs.rindsaddle_luma_to_xyz.Kinds as luma_to_xyz_kinds
use Rattle.c_steps.proofs.rindsaddle_xyz_to_luma.Reads as xyz_to_luma
use Rattle.c_steps.proofs.rindsaddle_xyz_to_luma.Kinds as xyz_to_luma_kinds
use Rattle.c_steps.proofs.rindsaddle_clip.Reads as clip
use Rattle.c_steps.proofs.rindsaddle_clip.Kinds as clip_kinds
use Rattle.c_steps.proofs.rindsaddle_unchanged.Reads as unchanged
use Rattle.c_steps.proofs.rindsaddle_unchanged.Kinds as unchanged_kinds
use Rattle.c_steps.proofs.rindsaddle_ycbcr.Reads as ycbcr
use Rattle.c_steps.proofs.rindsaddle_ycbcr.Kinds as ycbcr_kinds
use Rattle.c_steps.proofs.rindsaddle_count.Reads as count
use Rattle.c_steps.proofs.rindsaddle_count.Kinds as count_kinds

pub xyb_to_mixed_lms-determines : Determines 4 xyb_to_mixed_lms_kinds.ps xyb_to_mixed_lms_kinds.r xyb_to_mixed_lms.Post (λ κs r s. r)
xyb_to_mixed_lms-determines κs a x y s t p q = p.0 ∙ sym q.0

pub xyb_to_mixed_lms-channels_determines : Determines 4 xyb_to_mixed_lms_kinds.ps xyb_to_mixed_lms_kinds.r xyb_to_mixed_lms.Post (λ κs r s. channels s.1.1.0.now s.1.1.1.0.now s.1.1.1.1.0.now)
xyb_to_mixed_lms-channels_determines κs a x y s t p q = p.1 ∙ sym q.1

pub matrix-determines : Determines 4 matrix_kinds.ps matrix_kinds.r matrix.Post (λ κs r s. r)
matrix-determines κs a x y s t p q = p.0 ∙ sym q.0

pub matrix-channels_determines : Determines 4 matrix_kinds.ps matrix_kinds.r matrix.Post (λ κs r s. channels s.1.0.now s.1.1.0.now s.1.1.1.0.now)
matrix-channels_determines κs a x y s t p q = p.1 ∙ sym q.1

pub luma_to_xyz-determines : Determines 3 luma_to_xyz_kinds.ps luma_to_xyz_kinds.r luma_to_xyz.Post (λ κs r s. r)
luma_to_xyz-determines κs a x y s t p q = p.0 ∙ sym q.0

pub luma_to_xyz-channels_determines : Determines 3 luma_to_xyz_kinds.ps luma_to_xyz_kinds.r luma_to_xyz.Post (λ κs r s. channels s.1.1.0.now s.1.1.1.0.now s.1.1.1.1.0.now)
luma_to_xyz-channels_determines κs a x y s t p q = p.1 ∙ sym q.1

pub xyz_to_luma-determines : Determines 3 xyz_to_luma_kinds.ps xyz_to_luma_kinds.r xyz_to_luma.Post (λ κs r s. r)
xyz_to_luma-determines κs a x y s t p q = p.0 ∙ sym q.0

pub xyz_to_luma-first_determines : Determines 3 xyz_to_luma_kinds.ps xyz_to_luma_kinds.r xyz_to_luma.Post (λ κs r s. s.0.now)
xyz_to_luma-first_determines κs a x y s t p q = ap (λ (k : Channels). k.a) (p.1 ∙ sym q.1)

pub clip-determines : Determines 3 clip_kinds.ps clip_kinds.r clip.Post (λ κs r s. r)
clip-determines κs a x y s t p q = p.0 ∙ sym q.0

pub clip-channels_determines : Determines 3 clip_kinds.ps clip_kinds.r clip.Post (λ κs r s. channels s.1.0.now s.1.1.0.now s.1.1.1.0.now)
clip-channels_determines κs a x y s t p q = p.1 ∙ sym q.1

pub unchanged-determines : Determines 3 unchanged_kinds.ps unchanged_kinds.r unchanged.Post (λ κs r s. r)
unchanged-determines κs a x y s t p q = p ∙ sym q

pub ycbcr-determines : Determines 3 ycbcr_kinds.ps ycbcr_kinds.r ycbcr.Post (λ κs r s. r)
ycbcr-determines κs a x y s t p q = p.0 ∙ sym q.0

pub ycbcr-channels_determines : Determines 3 ycbcr_kinds.ps ycbcr_kinds.r ycbcr.Post (λ κs r s. channels s.1.0.now s.1.1.0.now s.1.1.1.0.now)
ycbcr-channels_determines κs a x y s t p q = p.1 ∙ sym q.1

pub count-determines : Determines 3 count_kinds.ps count_kinds.r count.Post (λ κs r s. r)
count-determines κs a x y s t p q = p ∙ sym q
