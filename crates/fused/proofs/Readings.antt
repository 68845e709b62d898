-- Worked values of `fused`, as rows of one list: a, b, c and the answer, by their patterns of bits.
-- The checker computes every row.
use mathlib.Core.Path.{refl, ◌≡◌}
use mathlib.Core.Bool.{◌&&◌, Bool, true}
use mathlib.Core.List.{List, [], ◌∷◌}
use Prim.Native.Nat.{ℕ}
use lib.Dec.{eqb}
use lib.Ieee.{binary32, of_bits, sum, to_bits}
use Rattle.notation.specs.F32.{bits}
use Rattle.fused.specs.Fused.{fused}

pub record Row : Type 0 where
  pub a : ℕ
  pub b : ℕ
  pub c : ℕ
  pub answer : ℕ

unfoldable pub row : ℕ → ℕ → ℕ → ℕ → Row
row a b c r = record { a = a; b = b; c = c; answer = r }

unfoldable pub holds : List Row → Bool
holds [] = true
holds (r ∷ rs) = eqb (to_bits binary32 (fused (bits r.a) (bits r.b) (bits r.c))) r.answer && holds rs

unfoldable pub rows : List Row
rows =
    row 0x3f80_0800 0x3f80_0800 0xbf80_1000 0x3380_0000  -- 01's starred case: (1 + 2^-12)^2 - (1 + 2^-11) = 2^-24; rounded apart it is 0
    ∷ row 0x4000_0000 0x4040_0000 0x4080_0000 0x4120_0000  -- 2 * 3 + 4 = 10
    ∷ row 0x3f80_0000 0x4b80_0000 0x3f80_0000 0x4b80_0000  -- 1 * 2^24 + 1, a tie: down to the even 2^24
    ∷ row 0x3f80_0000 0x4b80_0001 0x3f80_0000 0x4b80_0002  -- 1 * (2^24 + 2) + 1, a tie: up to the even 2^24 + 4
    ∷ row 0x3f80_0001 0x3f7f_ffff 0x4b80_0000 0x4b80_0001  -- 2^24 + (1 + 2^-24 - 2^-47), just above a tie; rounded apart it is 2^24
    ∷ row 0x3f80_0000 0x3f80_0000 0xbf80_0000 0  -- 1 * 1 - 1 = +0
    ∷ row 0xbf80_0000 0 0x8000_0000 0x8000_0000  -- -1 * 0 + -0 = -0
    ∷ row 0x3f80_0000 0 0x8000_0000 0  -- 1 * 0 + -0 = +0
    ∷ row 0x1a00_0000 0x1a00_0000 0 0  -- 2^-75 * 2^-75 is half of the smallest f32, a tie with 0
    ∷ row 0x1a00_0000 0x1a00_0000 1 2  -- the same plus the smallest f32, a tie of 1 and 2 of them
    ∷ row 0x7f7f_ffff 0x4000_0000 0xff7f_ffff 0x7f7f_ffff  -- the largest f32 times 2 less the largest f32: no overflow on the way
    ∷ row 0x7f7f_ffff 0x3f80_0000 0x7300_0000 0x7f80_0000  -- the largest f32 plus half a unit in its last place: an infinity
    ∷ row 0x7f7f_ffff 0x3f80_0000 0x72ff_ffff 0x7f7f_ffff  -- plus anything less: the largest f32
    ∷ row 0x7f80_0000 0 0x3f80_0000 0x7fc0_0000  -- an infinity times zero
    ∷ row 0x7f80_0000 0x3f80_0000 0xff80_0000 0x7fc0_0000  -- an infinity less an infinity
    ∷ row 0x7f7f_ffff 0x7f7f_ffff 0xff80_0000 0xff80_0000  -- a finite product plus an infinity
    ∷ []

pub readings : holds rows ≡ true
unfolding row rows holds fused sum of_bits to_bits
readings = refl
