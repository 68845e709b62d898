-- Of all f32 only 1/2 makes a tie: 255 times any other clipped sample lies half way between no two whole numbers.
-- The digits of an f32 other than 0 are odd, and then `Halves` says it.
use Prim.Native.Nat.{ℕ, zero as 0ℕ, suc, ◌*◌}
use mathlib.Core.Path.{◌≡◌, refl}
use mathlib.Core.Bool.{Bool, true, false}
use native.Mathlib.Omega.{arith}
use native.Mathlib.Nat.{zero-mul}
use lib.Dec.{T}
use lib.Ieee.{Float, nan, inf, fin, up, down, binary32, fits, lt, of_bits}
use lib.Ieee.Fits.{down_pos}
use lib.Ieee.Positive.{num, den}
use Rattle.notation.specs.F32.{bits, zero, one}
use Rattle.notation.specs.Choice.{when◌then◌else◌}
use Rattle.binary32.proofs.Count.{odd_digits}
use Rattle.steps.specs.Samples.{clip_of}
use Rattle.screen_bytes.proofs.Clipped.{Clipped, clipped-is}
use Rattle.screen_bytes.proofs.Halves.{no_zero, odd_tie}
use Rattle.screen_bytes.specs.Screen.{Tie}

-- 1/2
abbrev pub half : Float
half = bits 0x3f00_0000

-- the size of a finite float v is num v / den v; of a NaN it is 0 / 1
abbrev pub Tied : Float → ℕ → Type 0
Tied v b = Tie (num v * 255) (den v) b

pub half_tied : Tied (clip_of half) 127 × Tied (clip_of half) 128
unfolding lt of_bits
half_tied = (refl, refl)

stays_tied : (x : Float) (b : ℕ) → T (fits binary32 x) → Clipped x → Tied x b → x ≡ half
unfolding of_bits
stays_tied nan b f c h = absurd (omega arith)
stays_tied (inf s) b f c h = absurd c
stays_tied (fin s 0ℕ e) b f c h = absurd (no_zero (down e) b (down_pos e) (rw (zero-mul (up e)) at h))
stays_tied (fin true (suc m) e) b f c h = absurd (omega arith)
stays_tied (fin false (suc m) e) b f c h = odd_tie (suc m) e b (odd_digits false m e f) c h

pub only_tie : (x : Float) → T (fits binary32 x) → (b : ℕ) → Tied (clip_of x) b → x ≡ half
unfolding of_bits
only_tie x f b = by (lt x zero) (lt one x) (clipped-is x)
  where
    by : (s t : Bool) → Clipped (when s then zero else when t then one else x) → Tied (when s then zero else when t then one else x) b → x ≡ half
    by true t c h = absurd (omega arith)
    by false true c h = absurd (omega arith)
    by false false c h = stays_tied x b f c h
