-- Worked screen bytes, as rows of one list: a sample by its pattern of bits, and its byte.
-- The checker computes every row.
use Prim.Native.Nat.{ℕ}
use mathlib.Core.Path.{◌≡◌, refl}
use mathlib.Core.Bool.{Bool, true, ◌&&◌}
use mathlib.Core.List.{List, [], ◌∷◌}
use lib.Dec.{eqb}
use lib.Ieee.{lt, of_bits}
use Rattle.notation.specs.F32.{bits}
use Rattle.screen_bytes.specs.Screen.{screen_byte}

pub record Row : Type 0 where
  pub sample : ℕ
  pub byte : ℕ

unfoldable pub row : ℕ → ℕ → Row
row s b = record { sample = s; byte = b }

unfoldable pub holds : List Row → Bool
holds [] = true
holds (r ∷ rs) = eqb (screen_byte (bits r.sample)) r.byte && holds rs

unfoldable pub rows : List Row
rows =
    row 0x3b00_8080 0  -- 8,421,504 / 2 ^ 32, just below 1/510
    ∷ row 0x3b00_8081 1  -- the next f32, just above
    ∷ row 0x3f01_0101 128  -- just below 257/510
    ∷ row 0x3f02_0202 129  -- just below 259/510
    ∷ row 0x3f00_0000 128  -- 1/2, the one tie
    ∷ row 0x3eff_ffff 127  -- the f32 below 1/2
    ∷ row 0x3f00_0001 128  -- the f32 above 1/2
    ∷ row 0x3f80_0000 255  -- 1
    ∷ row 0x3f7f_ffff 255  -- the f32 below 1
    ∷ row 0x4000_0000 255  -- 2
    ∷ row 0xbf80_0000 0  -- -1
    ∷ row 0x0000_0000 0
    ∷ row 0x8000_0000 0  -- minus zero
    ∷ row 0x0000_0001 0  -- the smallest f32
    ∷ row 0x7f80_0000 255  -- the infinities
    ∷ row 0xff80_0000 0
    ∷ row 0x7fc0_0000 0  -- NaN
    ∷ []

pub readings : holds rows ≡ true
unfolding row rows holds screen_byte lt of_bits
readings = refl
