-- "Cube root: the f32 nearest the exact root, stated over whole numbers; zeros, infinities and NaN map to themselves." (01, Samples)
-- Definitions only. A finite float is `fin s m e`, the number m * 2 ^ e with the sign s; 2 ^ e is the fraction up e / down e (`lib.Ieee`).
use Rattle.std.specs.Prelude.{ℕ, ◌+◌, ◌-◌, ◌*◌, ◌^◌, Bool, true, false, ◌&&◌, leb, eqb, Float}
use Rattle.std.specs.Bool.{beq}
use Rattle.std.specs.Float.{nan, inf, fin}
use Rattle.std.specs.Float.Ieee.{up, down}
use Rattle.notation.specs.F32.{bits}
use Rattle.notation.specs.Choice.{when◌then◌else◌}
use Rattle.notation.specs.First.{first}
use Rattle.binary32.specs.Parts.{count, place_of}

abbrev pub cube : ℕ → ℕ
cube n = n * n * n

-- from a value of n units, of 2 ^ -149, the distance up to the next f32 and down to the one before
abbrev pub above : ℕ → ℕ
above n = 2 ^ place_of n

abbrev pub below : ℕ → ℕ
below n = 2 ^ place_of (n - 1)

-- The root of a / c lies between the two points half way from n units to the neighbouring values.
-- In half units, of 2 ^ -150, these points are 2 * n - below n and 2 * n + above n, and a cube is in units of 2 ^ -450.
abbrev pub within : ℕ → ℕ → ℕ → Bool
within n a c = leb (cube (2 * n - below n) * c) (a * 2 ^ 450) && leb (a * 2 ^ 450) (cube (2 * n + above n) * c)

-- r is the f32 nearest the cube root of x
unfoldable pub is_root : Float → Float → Bool
is_root nan nan = true
is_root nan (inf t) = false
is_root nan (fin t q d) = false
is_root (inf s) nan = false
is_root (inf s) (inf t) = beq s t
is_root (inf s) (fin t q d) = false
is_root (fin s m e) nan = false
is_root (fin s m e) (inf t) = false
is_root (fin s m e) (fin t q d) = beq s t && (when eqb m 0 then eqb q 0 else within (count q d) (m * up e) (down e))

-- the f32 that is the root of x, looked for among all patterns of bits
unfoldable pub cbrt_of : Float → Float
cbrt_of x = bits (first (λ b. is_root x (bits b)) 0x1_0000_0000 0)
