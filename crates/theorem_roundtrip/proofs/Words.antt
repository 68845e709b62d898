-- A word of 32 bits and its four bytes, one of 16 bits and its two.
-- By the digits to base 256.
use Prim.Native.Nat.{ℕ, ◌+◌, ◌*◌, ◌/◌, ◌%◌, ◌≤◌, ◌<◌}
use mathlib.Core.Path.{◌≡◌}
use mathlib.Core.List.{List, [], ◌∷◌, ◌++◌}
use native.Mathlib.Omega.{arith}
use lib.ListN.{length, take}
use Rattle.block_read.specs.Fields.{u16_at, u32_at}
use Rattle.block_write.specs.Bytes.{u16_bytes, u32_bytes}
use Rattle.theorem_roundtrip.specs.Typed.{AreBytes}

-- the lowest digit, and the others
lowest : (a m : ℕ) → a < 0x100 → (a + 0x100 * m) % 0x100 ≡ a
lowest a m h = omega arith

others : (a m : ℕ) → a < 0x100 → (a + 0x100 * m) / 0x100 ≡ m
others a m h = omega arith

pub u16_back : (n : ℕ) (t : List ℕ) → n < 0x1_0000 → u16_at (u16_bytes n ++ t) 0 ≡ n
u16_back n t h = omega arith

pub u16_bytes_lem : (x y : ℕ) → x < 0x100 → y < 0x100 → u16_bytes (x + 0x100 * y) ≡ x ∷ y ∷ []
u16_bytes_lem x y p q = let z : y % 0x100 ≡ y = omega arith in rw (lowest x, others x, z)

pub u32_back : (n : ℕ) (t : List ℕ) → n < 0x1_0000_0000 → u32_at (u32_bytes n ++ t) 0 ≡ n
u32_back n t h = omega arith

pub u32_bytes_lem : (s : List ℕ) → AreBytes s → 4 ≤ length s → u32_bytes (u32_at s 0) ≡ take 4 s
u32_bytes_lem [] b h = absurd (omega arith)
u32_bytes_lem (w ∷ []) b h = absurd (omega arith)
u32_bytes_lem (w ∷ x ∷ []) b h = absurd (omega arith)
u32_bytes_lem (w ∷ x ∷ y ∷ []) b h = absurd (omega arith)
u32_bytes_lem (w ∷ x ∷ y ∷ z ∷ s) b h = four w x y z (b 0) (b 1) (b 2) (b 3)
  where
    four : (w x y z : ℕ) → w < 0x100 → x < 0x100 → y < 0x100 → z < 0x100 → u32_bytes (u32_at (w ∷ x ∷ y ∷ z ∷ []) 0) ≡ w ∷ x ∷ y ∷ z ∷ []
    four w x y z p q r t =
        let n : u32_at (w ∷ x ∷ y ∷ z ∷ []) 0 ≡ w + 0x100 * (x + 0x100 * (y + 0x100 * z)) = omega arith in
        let z₁ : z % 0x100 ≡ z = omega arith in
        rw (n, lowest w, others w, lowest x, others x, lowest y, others y, z₁)

pub u32_less : (s : List ℕ) → AreBytes s → u32_at s 0 < 0x1_0000_0000
u32_less s b = omega (arith, b 0, b 1, b 2, b 3)
