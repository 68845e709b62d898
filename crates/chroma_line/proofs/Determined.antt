-- The contract determines the answer, and what it leaves in every lent buffer.
-- Each is said to equal one value, so two are equal.
use mathlib.Core.Path.{sym, ◌∙◌}
use Rattle.notation.proofs.Determines.{Determines}
use Rattle.ycbcr_planes.specs.Planes.{planes}
use Rattle.chroma_line.proofs.line_to_rgb.Reads as line_to_rgb
use Rattle.chroma_line.proofs.line_to_rgb.Kinds as line_to_rgb_kinds

pub line_to_rgb-determines : Determines 6 line_to_rgb_kinds.ps line_to_rgb_kinds.r line_to_rgb.Post (λ κs r s. r)
line_to_rgb-determines κs a x y s t p q = p.0 ∙ sym q.0

pub line_to_rgb-channels_determines : Determines 6 line_to_rgb_kinds.ps line_to_rgb_kinds.r line_to_rgb.Post (λ κs r s. planes s.1.1.1.1.0.now s.1.1.1.1.1.0.now s.1.1.1.1.1.1.0.now)
line_to_rgb-channels_determines κs a x y s t p q = p.1 ∙ sym q.1
