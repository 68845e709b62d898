-- What the numbers of a text are: two encodings of fourteen numbers each, the settings, and the version of the block. Definitions only.
use Rattle.std.specs.Prelude.{ℕ, List, [], ◌∷◌, ◌++◌, map, take, drop, ℤ, ◌==◌, nat_lt, slice_index_or, Float, Option, None, Some, unwrap_or}
use Rattle.std.specs.Float.{binary32}
use Rattle.std.specs.Float.Ieee.{of_int}
use Rattle.notation.specs.Choice.{when◌then◌else◌}
use Rattle.notation.specs.F32.{◌/f◌, bits}
use Rattle.plan_words.specs.Decimal.{signed}

-- a number, or what stands for it where no line gave it
abbrev pub given : Option ℕ → ℕ → ℕ
given n otherwise = unwrap_or n otherwise

-- this is told for a number of an encoding that no word gave
abbrev pub unset : ℕ
unset = 0xffff_ffff

abbrev pub side_at : ℕ → List (Option ℕ) → List ℤ
side_at from ns = map (λ n. signed (given n unset)) (take 14 (drop from ns))

unfoldable pub float_of : ℕ → Float
float_of n = of_int binary32 (signed n)

-- the inverse opsin matrix of JPEG XL by rows, where a picture names none: 11.031566901960783, -9.866943921568629, -0.16462299647058826,
-- -3.254147380392157, 4.418770392156863, -0.16462299647058826, -3.6588512862745097, 2.7129230470588235, 1.9459282392156863
abbrev pub opsin : List Float
opsin = bits 0x4130_814c ∷ bits 0xc11d_df01 ∷ bits 0xbe28_92ee ∷ bits 0xc050_43f3 ∷ bits 0x408d_6691 ∷ bits 0xbe28_92ee ∷ bits 0xc06a_2a9f ∷ bits 0x402d_a088 ∷ bits 0x3ff9_142d ∷ []

-- and its bias, three times: -0.0037930732552754493; the intensity, 255 where no line gave it; min_nits, given in millionths, or 0
unfoldable pub floats_of : List (Option ℕ) → List Float
floats_of ns = opsin ++ (bits 0xbb78_9536 ∷ bits 0xbb78_9536 ∷ bits 0xbb78_9536 ∷ float_of (given (slice_index_or ns 28 None) 255) ∷ (float_of (given (slice_index_or ns 29 None) 0) /f bits 0x4974_2400) ∷ [])

-- 1 where no line gave one; no block has a version from 2^16 on, nor version 0
abbrev pub version_of : List (Option ℕ) → ℕ
version_of ns = let n = given (slice_index_or ns 30 None) 1 in when nat_lt 0xffff n then 0 else n

abbrev pub flag_by : Option ℕ → ℕ
flag_by None = 0
flag_by (Some n) = when n == 1 then 1 else 0

abbrev pub flag_of : List (Option ℕ) → ℕ → ℕ
flag_of ns i = flag_by (slice_index_or ns i None)
