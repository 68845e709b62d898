-- "the whole number nearest 65535 times the IEC 61966-2-1 curve at code/1023, linear part up to 0.04045 (codes 0 to 41), power 2.4 above.
-- State nearness over whole numbers, by comparing fifth and twelfth powers, once over the whole table." (02, W9)
-- That curve is x / 12.92 up to 0.04045, and ((x + 0.055) / 1.055) ^ 2.4 above. Definitions and relations only.
use Rattle.std.specs.Prelude.{◌≡◌, Bool, true, ◌&&◌, List, [], ◌∷◌, ℕ, suc, ◌+◌, ◌-◌, ◌*◌, ◌^◌, ◌≤◌, ◌<◌, T, leb, ltb, length}
use Rattle.notation.specs.Choice.{when◌then◌else◌}

-- 0.04045 is this over 100,000
abbrev pub line_end : ℕ
line_end = 4045

-- With x = c / 1023, twice 65535 * x / 12.92 is line_of c / (1023 * 1292).
abbrev pub line_of : ℕ → ℕ
line_of c = 2 * 65535 * 100 * c

-- (x + 0.055) / 1.055 is base_of c / (1055 * 1023), and 2.4 is 12 / 5: the fifth power of twice 65535 * ((x + 0.055) / 1.055) ^ 2.4 is
-- power_of c / (1055 * 1023) ^ 12.
abbrev pub base_of : ℕ → ℕ
base_of c = 1000 * c + 55 * 1023

abbrev pub power_of : ℕ → ℕ
power_of c = (2 * 65535) ^ 5 * base_of c ^ 12

-- The rule: L is the whole number nearest 65535 times the curve at c / 1023, which lies between L - 1/2 and L + 1/2. All is doubled; ℕ's `-` stops at 0.
pub data IsLevel (c L : ℕ) : Type 0 where
  on_line : 100_000 * c ≤ line_end * 1023 → (2 * L - 1) * (1023 * 1292) ≤ line_of c → line_of c ≤ (2 * L + 1) * (1023 * 1292) → IsLevel c L
  on_power : line_end * 1023 < 100_000 * c → (2 * L - 1) ^ 5 * (1055 * 1023) ^ 12 ≤ power_of c → power_of c ≤ (2 * L + 1) ^ 5 * (1055 * 1023) ^ 12 → IsLevel c L

-- The same as tests. That they agree with the rule is `proofs/Rule.antt: near-exactly`.
abbrev pub linear : ℕ → Bool
linear c = leb (100_000 * c) (line_end * 1023)

abbrev pub near_line : ℕ → ℕ → Bool
near_line c L = leb ((2 * L - 1) * (1023 * 1292)) (line_of c) && leb (line_of c) ((2 * L + 1) * (1023 * 1292))

abbrev pub near_power : ℕ → ℕ → Bool
near_power c L = leb ((2 * L - 1) ^ 5 * (1055 * 1023) ^ 12) (power_of c) && leb (power_of c) ((2 * L + 1) ^ 5 * (1055 * 1023) ^ 12)

unfoldable pub near : ℕ → ℕ → Bool
near c L = when linear c then near_line c L else near_power c L

-- the codes from c on have these levels
unfoldable pub right : ℕ → List ℕ → Bool
right c [] = true
right c (l ∷ ls) = near c l && right (suc c) ls

-- "The entries rise strictly", the first of them above p
unfoldable pub rising_from : ℕ → List ℕ → Bool
rising_from p [] = true
rising_from p (l ∷ ls) = ltb p l && rising_from l ls

unfoldable pub rising : List ℕ → Bool
rising [] = true
rising (l ∷ ls) = rising_from l ls

-- the whole table: a level for each code, each the nearest, rising strictly
pub record Whole (levels : List ℕ) : Type 0 where
  pub long : length levels ≡ 1024
  pub is_right : T (right 0 levels)
  pub rises : T (rising levels)
