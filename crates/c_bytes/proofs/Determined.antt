-- Each exported contract determines its function's answer, and what it leaves in every lent buffer.
-- Each is said to equal one value, so two are equal.
use mathlib.Core.Path.{sym, ◌∙◌}
use Rattle.notation.proofs.Determines.{Determines}
use Rattle.ycbcr_planes.specs.Planes.{planes}
use Rattle.c_bytes.proofs.rindsaddle_mul_add.Reads as mul_add
use Rattle.c_bytes.proofs.rindsaddle_mul_add.Kinds as mul_add_kinds
use Rattle.c_bytes.proofs.rindsaddle_cbrt.Reads as cbrt
use Rattle.c_bytes.proofs.rindsaddle_cbrt.Kinds as cbrt_kinds
use Rattle.c_bytes.proofs.rindsaddle_icc_channels.Reads as icc_channels
use Rattle.c_bytes.proofs.rindsaddle_icc_channels.Kinds as icc_channels_kinds
use Rattle.c_bytes.proofs.rindsaddle_screen_bytes.Reads as screen_bytes
use Rattle.c_bytes.proofs.rindsaddle_screen_bytes.Kinds as screen_bytes_kinds
use Rattle.c_bytes.proofs.rindsaddle_ycbcr_bytes.Reads as ycbcr_bytes
use Rattle.c_bytes.proofs.rindsaddle_ycbcr_bytes.Kinds as ycbcr_bytes_kinds
use Rattle.c_bytes.proofs.rindsaddle_rgb_bytes.Reads as rgb_bytes
use Rattle.c_bytes.proofs.rindsaddle_rgb_bytes.Kinds as rgb_bytes_kinds
use Rattle.c_bytes.proofs.rindsaddle_level.Reads as level
use Rattle.c_bytes.proofs.rindsaddle_level.Kinds as level_kinds
use Rattle.c_bytes.proofs.rindsaddle_code.Reads as code
use Rattle.c_bytes.proofs.rindsaddle_code.Kinds as code_kinds
use Rattle.c_bytes.proofs.rindsaddle_code_levels.Reads as code_levels
use Rattle.c_bytes.proofs.rindsaddle_code_levels.Kinds as code_levels_kinds
use Rattle.c_bytes.proofs.rindsaddle_widen.Reads as widen
use Rattle.c_bytes.proofs.rindsaddle_widen.Kinds as widen_kinds
use Rattle.c_bytes.proofs.rindsaddle_narrow.Reads as narrow
use Rattle.c_bytes.proofs.rindsaddle_narrow.Kinds as narrow_kinds
use Rattle.c_bytes.proofs.rindsaddle_line_bytes.Reads as line_bytes
use Rattle.c_bytes.proofs.rindsaddle_line_bytes.Kinds as line_bytes_kinds

pub mul_add-determines : Determines 0 mul_add_kinds.ps mul_add_kinds.r mul_add.Post (λ κs r s. r)
mul_add-determines κs a x y s t p q = p ∙ sym q

pub cbrt-determines : Determines 0 cbrt_kinds.ps cbrt_kinds.r cbrt.Post (λ κs r s. r)
cbrt-determines κs a x y s t p q = p.1 ∙ sym q.1

pub icc_channels-determines : Determines 1 icc_channels_kinds.ps icc_channels_kinds.r icc_channels.Post (λ κs r s. r)
icc_channels-determines κs a x y s t p q = p ∙ sym q

pub screen_bytes-determines : Determines 2 screen_bytes_kinds.ps screen_bytes_kinds.r screen_bytes.Post (λ κs r s. r)
screen_bytes-determines κs a x y s t p q = p.0 ∙ sym q.0

pub screen_bytes-bytes_determines : Determines 2 screen_bytes_kinds.ps screen_bytes_kinds.r screen_bytes.Post (λ κs r s. s.1.0.now)
screen_bytes-bytes_determines κs a x y s t p q = p.1 ∙ sym q.1

pub ycbcr-bytes_determines : Determines 6 ycbcr_bytes_kinds.ps ycbcr_bytes_kinds.r ycbcr_bytes.Post (λ κs r s. r)
ycbcr-bytes_determines κs a x y s t p q = p.0 ∙ sym q.0

pub ycbcr-bytes_channels_determines : Determines 6 ycbcr_bytes_kinds.ps ycbcr_bytes_kinds.r ycbcr_bytes.Post (λ κs r s. planes s.1.1.1.1.0.now s.1.1.1.1.1.0.now s.1.1.1.1.1.1.0.now)
ycbcr-bytes_channels_determines κs a x y s t p q = p.1 ∙ sym q.1

pub rgb-bytes_determines : Determines 6 rgb_bytes_kinds.ps rgb_bytes_kinds.r rgb_bytes.Post (λ κs r s. r)
rgb-bytes_determines κs a x y s t p q = p.0 ∙ sym q.0

pub rgb-bytes_channels_determines : Determines 6 rgb_bytes_kinds.ps rgb_bytes_kinds.r rgb_bytes.Post (λ κs r s. planes s.1.1.1.1.0.now s.1.1.1.1.1.0.now s.1.1.1.1.1.1.0.now)
rgb-bytes_channels_determines κs a x y s t p q = p.1 ∙ sym q.1

pub level-determines : Determines 0 level_kinds.ps level_kinds.r level.Post (λ κs r s. r)
level-determines κs a x y s t p q = p.1 ∙ sym q.1

pub code-determines : Determines 0 code_kinds.ps code_kinds.r code.Post (λ κs r s. r)
code-determines κs a x y s t p q = p.1 ∙ sym q.1

pub code_levels-determines : Determines 2 code_levels_kinds.ps code_levels_kinds.r code_levels.Post (λ κs r s. r)
code_levels-determines κs a x y s t p q = p.0 ∙ sym q.0

pub code_levels-levels_determines : Determines 2 code_levels_kinds.ps code_levels_kinds.r code_levels.Post (λ κs r s. s.1.0.now)
code_levels-levels_determines κs a x y s t p q = p.1 ∙ sym q.1

pub widen-determines : Determines 2 widen_kinds.ps widen_kinds.r widen.Post (λ κs r s. r)
widen-determines κs a x y s t p q = p.0 ∙ sym q.0

pub widen-line_determines : Determines 2 widen_kinds.ps widen_kinds.r widen.Post (λ κs r s. s.1.0.now)
widen-line_determines κs a x y s t p q = p.1 ∙ sym q.1

pub narrow-determines : Determines 2 narrow_kinds.ps narrow_kinds.r narrow.Post (λ κs r s. r)
narrow-determines κs a x y s t p q = p.0 ∙ sym q.0

pub narrow-line_determines : Determines 2 narrow_kinds.ps narrow_kinds.r narrow.Post (λ κs r s. s.1.0.now)
narrow-line_determines κs a x y s t p q = p.1 ∙ sym q.1

pub line-bytes_determines : Determines 6 line_bytes_kinds.ps line_bytes_kinds.r line_bytes.Post (λ κs r s. r)
line-bytes_determines κs a x y s t p q = p.0 ∙ sym q.0

pub line-bytes_channels_determines : Determines 6 line_bytes_kinds.ps line_bytes_kinds.r line_bytes.Post (λ κs r s. planes s.1.1.1.1.0.now s.1.1.1.1.1.0.now s.1.1.1.1.1.1.0.now)
line-bytes_channels_determines κs a x y s t p q = p.1 ∙ sym q.1
