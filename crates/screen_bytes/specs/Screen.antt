-- "the byte is the whole number nearest the exact product of the clipped sample and 255, a tie going to the even number. [..] The result stays within
-- 0 to 255 and NaN stays 0." (02, W2). Definitions only.
-- A finite float is `fin s m e`, the number m * 2 ^ e with the sign s; 2 ^ e is the fraction up e / down e (`lib.Ieee`).
use Rattle.std.specs.Prelude.{ℕ, ◌+◌, ◌-◌, ◌*◌, ◌%◌, ◌≤◌, ◌≡◌, true, false, Float}
use Rattle.std.specs.Float.{nan, inf, fin}
use Rattle.std.specs.Float.Ieee.{up, down}
use Rattle.std.specs.Float.Ieee.Nearest.{closest}
use Rattle.steps.specs.Samples.{clip_of}

-- |2 * n - 2 * b * d|: how far the fraction n / d lies from the whole number b, in units of 1 / 2d. ℕ's `-` stops at 0, so one difference is 0
abbrev pub apart : ℕ → ℕ → ℕ → ℕ
apart n d b = (2 * n - 2 * (b * d)) + (2 * (b * d) - 2 * n)

-- n / d lies half way from b to a neighbour
abbrev pub Tie : ℕ → ℕ → ℕ → Type 0
Tie n d b = apart n d b ≡ d

-- b is the whole number nearest n / d: they lie at most 1/2 apart, and at a tie b is even
pub record Nearest (n d b : ℕ) : Type 0 where
  pub near : apart n d b ≤ d
  pub even : Tie n d b → b % 2 ≡ 0

-- b is the byte of a sample that is clipped: there is no infinity, and of the negative ones minus zero alone
abbrev pub ByteOf : Float → ℕ → Type 0
ByteOf nan b = b ≡ 0
ByteOf (inf s) b = ⊥
ByteOf (fin true m e) b = (m ≡ 0) × (b ≡ 0)
ByteOf (fin false m e) b = Nearest (m * up e * 255) (down e) b

-- the rule: a screen shows the byte b for the sample x
abbrev pub Shows : Float → ℕ → Type 0
Shows x b = ByteOf (clip_of x) b

-- The byte, computed: `closest n d` is the quotient, or the next number, by how twice the remainder compares with d, and at a tie the even one.
-- That the rule holds of this number and of no other is `proofs/Nearest.antt: shows-exactly`.
abbrev pub nearest_byte : Float → ℕ
nearest_byte nan = 0
nearest_byte (inf s) = 0
nearest_byte (fin s m e) = closest (m * up e * 255) (down e)

unfoldable pub screen_byte : Float → ℕ
screen_byte x = nearest_byte (clip_of x)
