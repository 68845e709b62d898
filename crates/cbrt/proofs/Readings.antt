-- Worked values of the cube root, as rows of one list: x and its root, by their patterns of bits; neither neighbour is a root.
-- The checker computes every row.
use mathlib.Core.Path.{refl, ◌≡◌}
use mathlib.Core.Bool.{◌&&◌, Bool, not, true}
use mathlib.Core.List.{List, [], ◌∷◌}
use Prim.Native.Nat.{◌+◌, ◌-◌, ℕ}
use lib.Ieee.{of_bits, size}
use Rattle.notation.specs.F32.{bits}
use Rattle.cbrt.specs.Root.{is_root}

pub record Row : Type 0 where
  pub x : ℕ
  pub root : ℕ

unfoldable pub row : ℕ → ℕ → Row
row x r = record { x = x; root = r }

unfoldable pub holds : List Row → Bool
holds [] = true
holds (r ∷ rs) =
    is_root (bits r.x) (bits r.root) && not (is_root (bits r.x) (bits (r.root + 1))) && not (is_root (bits r.x) (bits (r.root - 1))) && holds rs

unfoldable pub rows : List Row
rows =
    row 0x3f80_0000 0x3f80_0000  -- 1
    ∷ row 0x4100_0000 0x4000_0000  -- 8
    ∷ row 0x41d8_0000 0x4040_0000  -- 27
    ∷ row 0xc1d8_0000 0xc040_0000  -- -27
    ∷ row 0x4000_0000 0x3fa1_4518  -- 2
    ∷ row 0x4040_0000 0x3fb8_9ba2  -- 3
    ∷ row 0x3f7f_ffff 0x3f80_0000  -- just below 1
    ∷ row 0x3f80_0001 0x3f80_0000  -- just above 1
    ∷ row 0x3f80_000d 0x3f80_0004  -- glibc 2.36 answers 3f800005
    ∷ row 0x4000_0002 0x3fa1_4519  -- glibc 2.36 answers 3fa14518
    ∷ row 0x0000_0001 0x26a1_4518  -- the smallest subnormal
    ∷ row 0x007f_ffff 0x2a7f_ffff  -- the largest subnormal
    ∷ row 0x0080_0000 0x2a80_0000  -- the smallest normal
    ∷ row 0x7f7f_ffff 0x54cb_2ff5  -- the largest f32
    ∷ []

pub readings : holds rows ≡ true
unfolding row rows holds is_root of_bits size
readings = refl
