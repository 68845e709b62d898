-- Samples as bytes: four each, the lowest first where the scale is negative and else the highest; pixel after pixel, and of a pixel's three
-- channels one behind the other. Definitions only.
use Rattle.std.specs.Prelude.{ℕ, zero, suc, ◌+◌, ◌*◌, Bool, ◌&&◌, List, [], ◌∷◌, ◌++◌, reverse, eqb, Float, length, replicate, Result, Ok, Err}
use Rattle.std.specs.Float.{binary32}
use Rattle.std.specs.Float.Ieee.{to_bits}
use Rattle.notation.specs.Choice.{when◌then◌else◌}
use Rattle.notation.specs.F32 as F32
use Rattle.notation.specs.F32.{bits}
use Rattle.ciexyz.specs.declared.Vec3.{Vec3}
use Rattle.channels.specs.Channels.{Channels, channels, same_lengths, triples}
use Rattle.block_read.specs.Fields.{byte_at}
use Rattle.block_write.specs.Bytes.{joined, u32_bytes}
use Rattle.pfm.specs.declared.samples.Unfit.{Unfit}

-- four bytes from a place on, the lowest first, or the highest
abbrev pub low_first : List ℕ → ℕ → ℕ
low_first s at = byte_at s at + 0x100 * byte_at s (at + 1) + 0x1_0000 * (byte_at s (at + 2) + 0x100 * byte_at s (at + 3))

abbrev pub high_first : List ℕ → ℕ → ℕ
high_first s at = byte_at s (at + 3) + 0x100 * byte_at s (at + 2) + 0x1_0000 * (byte_at s (at + 1) + 0x100 * byte_at s at)

abbrev pub word_at : Bool → List ℕ → ℕ → ℕ
word_at little s at = when little then low_first s at else high_first s at

unfoldable pub sample_at : Bool → List ℕ → ℕ → Float
sample_at little s at = bits (word_at little s at)

-- one for each of n places, from 0 on
abbrev pub places : {A : Type 0} → (ℕ → A) → ℕ → List A
places f zero = []
places f (suc n) = f 0 ∷ places (λ (i : ℕ). f (suc i)) n

-- the samples of n pixels of so many bytes, each from this place in its pixel on
abbrev pub channel_in : Bool → List ℕ → ℕ → ℕ → ℕ → List Float
channel_in little s size from n = places (λ (i : ℕ). sample_at little s (i * size + from)) n

-- whether bytes are those of the pixels of three channels, so many bytes a pixel
abbrev pub fits_by : ℕ → ℕ → ℕ → ℕ → ℕ → Bool
fits_by size bytes a b c = same_lengths a b c && eqb bytes (a * size)

abbrev pub fits : ℕ → List ℕ → Channels → Bool
fits size s ch = fits_by size (length s) (length ch.a) (length ch.b) (length ch.c)

-- what a function tells that is done where lengths fit
abbrev pub Fitting : Type 0
Fitting = Result Unit Unfit

abbrev pub told : Bool → Fitting
told fits = when fits then Ok tt else Err (record {})

-- what is taken from bytes: three channels, or one with two that are zeros
abbrev pub three_from : Bool → List ℕ → Channels → Channels
three_from little s ch =
    when fits 12 s ch then channels (channel_in little s 12 0 (length ch.a)) (channel_in little s 12 4 (length ch.a)) (channel_in little s 12 8 (length ch.a)) else ch

abbrev pub one_from : Bool → List ℕ → Channels → Channels
one_from little s ch =
    when fits 4 s ch then channels (channel_in little s 4 0 (length ch.a)) (replicate (length ch.a) F32.zero) (replicate (length ch.a) F32.zero) else ch

-- by the number of channels that a header names
abbrev pub size_of : ℕ → ℕ
size_of count = when eqb count 3 then 12 else 4

abbrev pub channels_from : ℕ → Bool → List ℕ → Channels → Channels
channels_from count little s ch = when eqb count 3 then three_from little s ch else one_from little s ch

-- a sample's four bytes, and those of a pixel of three channels
abbrev pub word_bytes : Bool → ℕ → List ℕ
word_bytes little n = when little then u32_bytes n else reverse (u32_bytes n)

abbrev pub sample_bytes : Bool → Float → List ℕ
sample_bytes little x = word_bytes little (to_bits binary32 x)

abbrev pub pixel_bytes : Bool → Vec3 → List ℕ
pixel_bytes little v = sample_bytes little v.v0 ++ (sample_bytes little v.v1 ++ sample_bytes little v.v2)

-- what becomes of bytes that samples are put into
abbrev pub three_to : Bool → Channels → List ℕ → List ℕ
three_to little ch old = when fits 12 old ch then joined (pixel_bytes little) (triples ch.a ch.b ch.c) else old

abbrev pub fits_one : List ℕ → List Float → Bool
fits_one s a = eqb (length s) (length a * 4)

abbrev pub one_to : Bool → List Float → List ℕ → List ℕ
one_to little a old = when fits_one old a then joined (sample_bytes little) a else old
