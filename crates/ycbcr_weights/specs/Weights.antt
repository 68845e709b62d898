-- The weights of red, green and blue in luma, over N parts, and what 02's factors are in them. Definitions only.
use Rattle.std.specs.Prelude.{ℕ, ◌+◌, ◌*◌, ◌<◌}
use Rattle.ycbcr_weights.specs.declared.Weights.{Weights}

abbrev pub weights : ℕ → ℕ → ℕ → Weights
weights r g b = record { kr = r; kg = g; kb = b }

-- "ITU-T T.871" (02, W5): 0.299, 0.587 and 0.114, in thousandths
abbrev pub t871 : Weights
t871 = weights 299 587 114

-- "ITU-R BT.709-6 weights" (02, W7): 0.2126, 0.7152 and 0.0722, in ten-thousandths
abbrev pub bt709 : Weights
bt709 = weights 2126 7152 722

-- N = kr + kg + kb
abbrev pub whole : Weights → ℕ
whole w = w.kr + w.kg + w.kb

-- 2(N - kr), the 1402 of "1402v/1000"
abbrev pub red_factor : Weights → ℕ
red_factor w = 2 * (w.kg + w.kb)

-- 2(N - kb), the 1772 of "1772u/1000"
abbrev pub blue_factor : Weights → ℕ
blue_factor w = 2 * (w.kr + w.kg)

-- green weighs something, so that no divisor is 0
abbrev pub Lawful : Weights → Type 0
Lawful w = 0 < w.kg
