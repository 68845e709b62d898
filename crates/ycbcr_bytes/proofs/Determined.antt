-- The contract determines the answer, and what it leaves in every lent buffer.
-- Each is said to equal one value, so two are equal.
use mathlib.Core.Path.{sym, ◌∙◌}
use Rattle.notation.proofs.Determines.{Determines}
use Rattle.ycbcr_planes.specs.Planes.{planes}
use Rattle.ycbcr_bytes.proofs.ycbcr_to_rgb.Reads as ycbcr_to_rgb
use Rattle.ycbcr_bytes.proofs.ycbcr_to_rgb.Kinds as ycbcr_to_rgb_kinds

pub ycbcr_to_rgb-determines : Determines 6 ycbcr_to_rgb_kinds.ps ycbcr_to_rgb_kinds.r ycbcr_to_rgb.Post (λ κs r s. r)
ycbcr_to_rgb-determines κs a x y s t p q = p.0 ∙ sym q.0

pub ycbcr_to_rgb-channels_determines : Determines 6 ycbcr_to_rgb_kinds.ps ycbcr_to_rgb_kinds.r ycbcr_to_rgb.Post (λ κs r s. planes s.1.1.1.1.0.now s.1.1.1.1.1.0.now s.1.1.1.1.1.1.0.now)
ycbcr_to_rgb-channels_determines κs a x y s t p q = p.1 ∙ sym q.1
