-- 01's starred cases, as rows of one list: what the definitions compute for a case, and what 01 gives. Floats stand by their bits.
-- Definitions only.
use Rattle.std.specs.Prelude.{ℕ, ◌≡◌, false, List, [], ◌∷◌, ◌++◌, map, replicate, Float}
use Rattle.std.specs.Float.{binary32}
use Rattle.std.specs.Float.Ieee.{to_bits}
use Rattle.notation.specs.F32.{bits, one, zero}
use Rattle.fused.specs.Fused.{fused}
use Rattle.ciexyz.specs.declared.Mat3.{Mat3}
use Rattle.ciexyz.specs.declared.Vec3.{Vec3}
use Rattle.ciexyz.specs.declared.WhitePoint.TheVariants as W
use Rattle.ciexyz.specs.declared.Primaries.TheVariants as P
use Rattle.channels.specs.Channels.{Channels, channels, vec}
use Rattle.step_xyb.specs.Xyb.{mixed_lms}
use Rattle.steps.specs.Samples.{clip_of}
use Rattle.list.specs.Lists.{ops_of}
use Rattle.op.specs.declared.Curve.{Curve}
use Rattle.op.specs.declared.Curve.TheVariants as C
use Rattle.op.specs.declared.Op.{Op}
use Rattle.op.specs.declared.Op.TheVariants as O
use Rattle.list.specs.declared.Plan.{Plan}
use Rattle.op_fields.specs.Parts.{kind_of, values_of, float_in}
use Rattle.list_merge.specs.Merge.{merge_ops}
use Rattle.notation.specs.declared.Answer.{Answer}
use Rattle.list.specs.Answer.{paper}
use Rattle.list.specs.Check.{check_of}
use Rattle.run.specs.Run.{ran_of}
use Rattle.encoding.specs.Icc.{icc_channels}
use Rattle.encoding.specs.declared.ColourSpace.{ColourSpace}
use Rattle.encoding.specs.declared.ColourSpace.TheVariants as S
use Rattle.encoding.specs.declared.RenderingIntent.{RenderingIntent}
use Rattle.encoding.specs.declared.RenderingIntent.TheVariants as I
use Rattle.encoding.specs.declared.ColourEncoding.{ColourEncoding}
use Rattle.encoding.specs.declared.ColourEncoding.TheVariants as E
use Rattle.encoding.specs.declared.Settings.{Settings}
use Rattle.planner.specs.Planning.{planned_of}
use Rattle.block_read.specs.Block.{read_of}

pub record Row : Type 0 where
  pub computed : List ℕ
  pub expected : List ℕ

abbrev pub row : List ℕ → List ℕ → Row
row computed expected = record { computed = computed; expected = expected }

-- the single claim: in every row the two sides are the same
abbrev pub Hold : List Row → Type 0
Hold [] = Unit {0}
Hold (r ∷ rs) = (r.computed ≡ r.expected) × Hold rs

-- ---- what rows show

abbrev pub bits_of : List Float → List ℕ
bits_of = map (to_bits binary32)

abbrev pub samples : Vec3 → List Float
samples v = v.v0 ∷ v.v1 ∷ v.v2 ∷ []

abbrev pub kinds : Plan → List ℕ
kinds p = map kind_of (ops_of p)

-- "5 at 1" is 5 and 1
abbrev pub refusal : Answer → List ℕ
refusal a = a.number ∷ a.position ∷ []

abbrev pub swap : Mat3
swap = record { m0 = zero; m1 = one; m2 = zero; m3 = one; m4 = zero; m5 = zero; m6 = zero; m7 = zero; m8 = one }

-- the list that is planned between two encodings at intensity 255, when none of the other settings matters
abbrev pub settings : Settings
settings = record {
  inv_mat = swap;
  opsin_bias = vec zero zero zero;
  intensity_target = bits 0x437f_0000;
  min_nits = zero;
  detect_peak = false;
  from_pq = false;
}

abbrev pub list : ColourEncoding → ColourEncoding → Plan
list source target = (planned_of source target settings).plan

-- ---- the cases

abbrev pub twice : Mat3
twice = record { m0 = bits 0x4000_0000; m1 = zero; m2 = zero; m3 = zero; m4 = one; m5 = zero; m6 = zero; m7 = zero; m8 = one }

abbrev pub floats_in : List Op → List Float
floats_in [] = []
floats_in (o ∷ os) = map float_in (values_of o) ++ floats_in os

abbrev pub merged : List ℕ
merged = bits_of (floats_in (merge_ops (O.Matrix swap ∷ O.Matrix twice ∷ [])))

-- XYB (1,2,3), by the bits of the biases and of the intensity
abbrev pub xyb : ℕ → ℕ → List ℕ
xyb bias intensity =
    bits_of (samples (mixed_lms (vec (bits bias) (bits bias) (bits bias)) (bits intensity) (vec one (bits 0x4000_0000) (bits 0x4040_0000))))

-- "For the 18 bytes 43 54 50 01 00 01 03 09 01 00 00 00 3F 00 00 80 3E 02" (01, Plan block)
abbrev pub listed_block : List ℕ
listed_block =
    0x43 ∷ 0x54 ∷ 0x50 ∷ 0x01 ∷ 0x00 ∷ 0x01 ∷ 0x03 ∷ 0x09 ∷ 0x01
    ∷ 0x00 ∷ 0x00 ∷ 0x00 ∷ 0x3f ∷ 0x00 ∷ 0x00 ∷ 0x80 ∷ 0x3e ∷ 0x02 ∷ []

abbrev pub half : List Float
half = bits 0x3f00_0000 ∷ []

-- the three channels after the listed block ran on a = 0.5
abbrev pub listed_run : Channels
listed_run = ran_of (read_of listed_block).plan (channels half (zero ∷ []) (zero ∷ []))

-- D65 with the primaries of sRGB
abbrev pub enum : ColourSpace → Curve → RenderingIntent → ColourEncoding
enum space tf intent =
    E.Enum record { colour_space = space; white_point = W.D65; primaries = P.Srgb; tf = tf; rendering_intent = intent }

unfoldable pub rows : List Row
rows =
    -- "Matrices [0,1,0, 1,0,0, 0,0,1] then diagonal (2,1,1) merge to [0,2,0, 1,0,0, 0,0,1]."
    row merged (0 ∷ 0x4000_0000 ∷ 0 ∷ 0x3f80_0000 ∷ 0 ∷ 0 ∷ 0 ∷ 0 ∷ 0x3f80_0000 ∷ [])
    -- "XYB (1,2,3), biases 0, intensity 255: (27,1,27)."
    ∷ row (xyb 0 0x437f_0000) (0x41d8_0000 ∷ 0x3f80_0000 ∷ 0x41d8_0000 ∷ [])
    -- "Intensity 127.5: (54,2,54)."
    ∷ row (xyb 0 0x42ff_0000) (0x4258_0000 ∷ 0x4000_0000 ∷ 0x4258_0000 ∷ [])
    -- "Biases 8, intensity 255: (9,7,9)."
    ∷ row (xyb 0x4100_0000 0x437f_0000) (0x4110_0000 ∷ 0x40e0_0000 ∷ 0x4110_0000 ∷ [])
    -- "Fused(1+2^-12, 1+2^-12, -(1+2^-11)) is 2^-24."
    ∷ row (bits_of (fused (bits 0x3f80_0800) (bits 0x3f80_0800) (bits 0xbf80_1000) ∷ [])) (0x3380_0000 ∷ [])
    -- "Clip of 1.5, -2: 1, 0."
    ∷ row (bits_of (clip_of (bits 0x3fc0_0000) ∷ clip_of (bits 0xc000_0000) ∷ [])) (0x3f80_0000 ∷ 0 ∷ [])
    -- "The listed block on a = 0.5 ends with 0.5 in all three channels."
    ∷ row (bits_of listed_run.a) (0x3f00_0000 ∷ [])
    ∷ row (bits_of listed_run.b) (0x3f00_0000 ∷ [])
    ∷ row (bits_of listed_run.c) (0x3f00_0000 ∷ [])
    -- "ICC count: empty 3; 20 bytes ending `GRAY` 1."
    ∷ row (icc_channels [] ∷ []) (3 ∷ [])
    ∷ row (icc_channels (replicate 16 0 ++ (0x47 ∷ 0x52 ∷ 0x41 ∷ 0x59 ∷ [])) ∷ []) (1 ∷ [])
    -- "Xyb to Rgb D65 Srgb Linear, intensity 255: XybToMixedLms, Matrix."
    ∷ row (kinds (list (enum S.Xyb C.Linear I.Perceptual) (enum S.Rgb C.Linear I.Perceptual))) (0 ∷ 3 ∷ [])
    -- "Grey Linear Perceptual to Rgb: check gives 5 at 1."
    ∷ row (refusal (paper (check_of (list (enum S.Grey C.Linear I.Perceptual) (enum S.Rgb C.Linear I.Perceptual))))) (5 ∷ 1 ∷ [])
    -- "Grey Hlg to Rgb, Relative: 5 at 0."
    ∷ row (refusal (paper (check_of (list (enum S.Grey C.Hlg I.Relative) (enum S.Rgb C.Linear I.Relative))))) (5 ∷ 0 ∷ [])
    ∷ []
