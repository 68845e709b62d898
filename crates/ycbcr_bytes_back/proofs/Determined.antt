-- The contract determines the answer, and what it leaves in every lent buffer.
-- Each is said to equal one value, so two are equal.
use mathlib.Core.Path.{sym, ◌∙◌}
use Rattle.notation.proofs.Determines.{Determines}
use Rattle.ycbcr_planes.specs.Planes.{planes}
use Rattle.ycbcr_bytes_back.proofs.rgb_to_ycbcr.Reads as rgb_to_ycbcr
use Rattle.ycbcr_bytes_back.proofs.rgb_to_ycbcr.Kinds as rgb_to_ycbcr_kinds

pub rgb_to_ycbcr-determines : Determines 6 rgb_to_ycbcr_kinds.ps rgb_to_ycbcr_kinds.r rgb_to_ycbcr.Post (λ κs r s. r)
rgb_to_ycbcr-determines κs a x y s t p q = p.0 ∙ sym q.0

pub rgb_to_ycbcr-channels_determines : Determines 6 rgb_to_ycbcr_kinds.ps rgb_to_ycbcr_kinds.r rgb_to_ycbcr.Post (λ κs r s. planes s.1.1.1.1.0.now s.1.1.1.1.1.0.now s.1.1.1.1.1.1.0.now)
rgb_to_ycbcr-channels_determines κs a x y s t p q = p.1 ∙ sym q.1
