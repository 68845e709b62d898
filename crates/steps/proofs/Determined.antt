-- Each contract determines its function's answer, and what it leaves in every lent buffer.
-- Each is said to equal one value, so two are equal.
use mathlib.Core.Path.{ap, sym, ◌∙◌}
use Rattle.notation.proofs.Determines.{Determines}
use Rattle.channels.specs.Channels.{Channels, channels}
use Rattle.steps.proofs.clipping.clipped.Reads as clipped
use Rattle.steps.proofs.clipping.clipped.Kinds as clipped_kinds
use Rattle.steps.proofs.clipping.clip.Reads as clip
use Rattle.steps.proofs.clipping.clip.Kinds as clip_kinds
use Rattle.steps.proofs.clipping.clip_samples.Reads as clip_samples
use Rattle.steps.proofs.clipping.clip_samples.Kinds as clip_samples_kinds
use Rattle.steps.proofs.curves.unchanged.Reads as unchanged
use Rattle.steps.proofs.curves.unchanged.Kinds as unchanged_kinds
use Rattle.steps.proofs.curves.unchanged_samples.Reads as unchanged_samples
use Rattle.steps.proofs.curves.unchanged_samples.Kinds as unchanged_samples_kinds
use Rattle.steps.proofs.to_xyz.luma_to_xyz.Reads as luma_to_xyz
use Rattle.steps.proofs.to_xyz.luma_to_xyz.Kinds as luma_to_xyz_kinds
use Rattle.steps.proofs.to_xyz.luma_to_xyz_samples.Reads as luma_to_xyz_samples
use Rattle.steps.proofs.to_xyz.luma_to_xyz_samples.Kinds as luma_to_xyz_samples_kinds
use Rattle.steps.proofs.to_luma.xyz_to_luma.Reads as xyz_to_luma
use Rattle.steps.proofs.to_luma.xyz_to_luma.Kinds as xyz_to_luma_kinds
use Rattle.steps.proofs.to_luma.xyz_to_luma_samples.Reads as xyz_to_luma_samples
use Rattle.steps.proofs.to_luma.xyz_to_luma_samples.Kinds as xyz_to_luma_samples_kinds
use Rattle.steps.proofs.matrices.matrix.Reads as matrix
use Rattle.steps.proofs.matrices.matrix.Kinds as matrix_kinds
use Rattle.steps.proofs.matrices.matrix_samples.Reads as matrix_samples
use Rattle.steps.proofs.matrices.matrix_samples.Kinds as matrix_samples_kinds

pub clipped-determines : Determines 0 clipped_kinds.ps clipped_kinds.r clipped.Post (λ κs r s. r)
clipped-determines κs a x y s t p q = p ∙ sym q

pub clip-determines : Determines 3 clip_kinds.ps clip_kinds.r clip.Post (λ κs r s. r)
clip-determines κs a x y s t p q = p.0 ∙ sym q.0

pub clip-channels_determines : Determines 3 clip_kinds.ps clip_kinds.r clip.Post (λ κs r s. channels s.1.0.now s.1.1.0.now s.1.1.1.0.now)
clip-channels_determines κs a x y s t p q = p.1 ∙ sym q.1

pub unchanged-determines : Determines 3 unchanged_kinds.ps unchanged_kinds.r unchanged.Post (λ κs r s. r)
unchanged-determines κs a x y s t p q = p ∙ sym q

pub luma_to_xyz-determines : Determines 3 luma_to_xyz_kinds.ps luma_to_xyz_kinds.r luma_to_xyz.Post (λ κs r s. r)
luma_to_xyz-determines κs a x y s t p q = p.0 ∙ sym q.0

pub luma_to_xyz-channels_determines : Determines 3 luma_to_xyz_kinds.ps luma_to_xyz_kinds.r luma_to_xyz.Post (λ κs r s. channels s.1.0.now s.1.1.0.now s.1.1.1.0.now)
luma_to_xyz-channels_determines κs a x y s t p q = p.1 ∙ sym q.1

pub xyz_to_luma-determines : Determines 3 xyz_to_luma_kinds.ps xyz_to_luma_kinds.r xyz_to_luma.Post (λ κs r s. r)
xyz_to_luma-determines κs a x y s t p q = p.0 ∙ sym q.0

pub xyz_to_luma-first_determines : Determines 3 xyz_to_luma_kinds.ps xyz_to_luma_kinds.r xyz_to_luma.Post (λ κs r s. s.0.now)
xyz_to_luma-first_determines κs a x y s t p q = ap (λ (k : Channels). k.a) (p.1 ∙ sym q.1)

pub matrix-determines : Determines 3 matrix_kinds.ps matrix_kinds.r matrix.Post (λ κs r s. r)
matrix-determines κs a x y s t p q = p.0 ∙ sym q.0

pub matrix-channels_determines : Determines 3 matrix_kinds.ps matrix_kinds.r matrix.Post (λ κs r s. channels s.1.0.now s.1.1.0.now s.1.1.1.0.now)
matrix-channels_determines κs a x y s t p q = p.1 ∙ sym q.1

pub clip_samples-determines : Determines 3 clip_samples_kinds.ps clip_samples_kinds.r clip_samples.Post (λ κs r s. r)
clip_samples-determines κs a x y s t p q = p.0 ∙ sym q.0

pub clip_samples-channels_determines : Determines 3 clip_samples_kinds.ps clip_samples_kinds.r clip_samples.Post (λ κs r s. channels s.1.0.now s.1.1.0.now s.1.1.1.0.now)
clip_samples-channels_determines κs a x y s t p q = p.1 ∙ sym q.1

pub unchanged_samples-determines : Determines 3 unchanged_samples_kinds.ps unchanged_samples_kinds.r unchanged_samples.Post (λ κs r s. r)
unchanged_samples-determines κs a x y s t p q = p ∙ sym q

pub luma_to_xyz_samples-determines : Determines 3 luma_to_xyz_samples_kinds.ps luma_to_xyz_samples_kinds.r luma_to_xyz_samples.Post (λ κs r s. r)
luma_to_xyz_samples-determines κs a x y s t p q = p.0 ∙ sym q.0

pub luma_to_xyz_samples-channels_determines : Determines 3 luma_to_xyz_samples_kinds.ps luma_to_xyz_samples_kinds.r luma_to_xyz_samples.Post (λ κs r s. channels s.1.0.now s.1.1.0.now s.1.1.1.0.now)
luma_to_xyz_samples-channels_determines κs a x y s t p q = p.1 ∙ sym q.1

pub xyz_to_luma_samples-determines : Determines 3 xyz_to_luma_samples_kinds.ps xyz_to_luma_samples_kinds.r xyz_to_luma_samples.Post (λ κs r s. r)
xyz_to_luma_samples-determines κs a x y s t p q = p.0 ∙ sym q.0

pub xyz_to_luma_samples-first_determines : Determines 3 xyz_to_luma_samples_kinds.ps xyz_to_luma_samples_kinds.r xyz_to_luma_samples.Post (λ κs r s. s.0.now)
xyz_to_luma_samples-first_determines κs a x y s t p q = ap (λ (k : Channels). k.a) (p.1 ∙ sym q.1)

pub matrix_samples-determines : Determines 3 matrix_samples_kinds.ps matrix_samples_kinds.r matrix_samples.Post (λ κs r s. r)
matrix_samples-determines κs a x y s t p q = p.0 ∙ sym q.0

pub matrix_samples-channels_determines : Determines 3 matrix_samples_kinds.ps matrix_samples_kinds.r matrix_samples.Post (λ κs r s. channels s.1.0.now s.1.1.0.now s.1.1.1.0.now)
matrix_samples-channels_determines κs a x y s t p q = p.1 ∙ sym q.1
