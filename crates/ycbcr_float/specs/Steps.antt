-- What the private steps of YCbCr's loop promise each other. Nothing that the crate promises outside rests on believing this page.
use Rattle.std.specs.Prelude.{ℕ, ◌+◌, ◌*◌, ◌%◌, ◌^◌, ◌<◌, ◌≤◌, Bool, T, List, length, bit_and, bit_or, slice_index_or, to_bits, Float}
use Rattle.std.specs.Float.{binary32, nan}
use Rattle.std.specs.Float.Ieee.{fits, lt}
use Rattle.std.specs.Float.Ieee.Exact.{HasValue}
use Rattle.notation.specs.Choice.{when◌then◌else◌}
use Rattle.notation.specs.F32.{bits}
use Rattle.fused.specs.Fused.{fused}
use Rattle.rounding.specs.Steps.{by_f64}
use Rattle.channels.specs.Channels.{vec}
use Rattle.ciexyz.specs.declared.Vec3.{Vec3}
use Rattle.ycbcr_float.specs.declared.Constants.{Constants}

-- `rgb_by` of a pixel whose luma has its offset
unfoldable pub rgb_raised : Constants → Vec3 → Vec3
rgb_raised k s =
    vec
    (fused s.v2 k.red s.v1)
    (fused s.v0 k.cb (fused s.v2 k.cr s.v1))
    (fused s.v0 k.blue s.v1)

-- and with the sums by f64, in place of `fused`
unfoldable pub quick_by : Constants → Vec3 → Vec3
quick_by k s =
    vec
    (by_f64 s.v2 k.red s.v1)
    (by_f64 s.v0 k.cb (by_f64 s.v2 k.cr s.v1))
    (by_f64 s.v0 k.blue s.v1)

-- an f32 of 24 digits at most, the last of which weighs from 2 ^ from to 2 ^ to units of the smallest f32, 2 ^ -149
pub record Digits (from to : ℕ) (x : Float) : Type 0 where
  pub single : T (fits binary32 x)
  pub sign : Bool
  pub M : ℕ
  pub y : ℕ
  pub value : HasValue x sign (M * 2 ^ y) (2 ^ 149)
  pub few : M < 0x100_0000
  pub low : from ≤ y
  pub high : y ≤ to

-- a sample on which f64 may be tried: a zero, or of a size from 2 ^ -31 to 2
abbrev pub Ordinary : Float → Type 0
Ordinary = Digits 95 126

-- Cb, Y and Cr of a pixel, the luma with its offset
pub record Ready (s : Vec3) : Type 0 where
  pub cb : Ordinary s.v0
  pub y : Ordinary s.v1
  pub cr : Ordinary s.v2

abbrev pub AllReady : List Float → List Float → List Float → Type 0
AllReady cb y cr = (i : ℕ) → i < length cb → Ready (vec (slice_index_or cb i nan) (slice_index_or y i nan) (slice_index_or cr i nan))

-- a constant by which they are multiplied: of a size from 2 ^ -8 to 4
abbrev pub Factor : Float → Type 0
Factor = Digits 118 127

pub record Factors (k : Constants) : Type 0 where
  pub red : Factor k.red
  pub blue : Factor k.blue
  pub cr : Factor k.cr
  pub cb : Factor k.cb

-- ---- the test
-- a sample that has a pattern: x, or 2 where x is no smaller, or a NaN
abbrev pub capped : Float → Float
capped x = when lt x (bits 0x4000_0000) then x else bits 0x4000_0000

abbrev pub pattern_of : Float → ℕ
pattern_of x = to_bits binary32 (capped x)

-- one less, so that a zero's has every digit but the sign
abbrev pub one_less : Float → ℕ
one_less x = (pattern_of x + 0xffff_ffff) % 2 ^ 32

-- the digits of patterns so far that one of them has, or all of them, with three samples more
abbrev pub any_of : ℕ → Vec3 → ℕ
any_of any s = bit_or (bit_or (bit_or any (pattern_of s.v0)) (pattern_of s.v1)) (pattern_of s.v2)

abbrev pub all_of : ℕ → Vec3 → ℕ
all_of all s = bit_and (bit_and (bit_and all (one_less s.v0)) (one_less s.v1)) (one_less s.v2)

-- the three are values of f32, as all samples are
abbrev pub Single : Vec3 → Type 0
Single s = T (fits binary32 s.v0) × T (fits binary32 s.v1) × T (fits binary32 s.v2)

-- no size is 2, and none but a zero's is below 2 ^ -31
abbrev pub Within : ℕ → ℕ → Type 0
Within any all = (any % 0x8000_0000 < 0x4000_0000) × (0x3000_0000 ≤ all % 0x4000_0000)
