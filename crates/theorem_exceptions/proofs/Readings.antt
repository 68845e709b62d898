-- 01's readings of plans that are not starred: the number, the kinds of the ops, and what the check says; the bounds of the intensity,
-- float by float. Each is computed.
use Prim.Native.Nat.{ℕ}
use mathlib.Core.Path.{◌≡◌, refl}
use mathlib.Core.Bool.{Bool, true, false}
use mathlib.Core.List.{List, [], ◌∷◌, map}
use lib.Ieee.{Float, of_bits, of_fields, lt, le, eq}
use lib.IntN.{pos}
use Rattle.notation.specs.F32.{bits, zero}
use Rattle.ciexyz.specs.declared.WhitePoint.{WhitePoint}
use Rattle.ciexyz.specs.declared.WhitePoint.TheVariants as W
use Rattle.ciexyz.specs.declared.Primaries.TheVariants as P
use Rattle.list.specs.Lists.{ops_of, is_true}
use Rattle.op.specs.declared.Curve.{Curve}
use Rattle.op.specs.declared.Curve.TheVariants as C
use Rattle.op_fields.specs.Parts.{kind_of}
use Rattle.notation.specs.Answers.{answer}
use Rattle.notation.specs.declared.Answer.{Answer}
use Rattle.list.specs.Answer.{paper}
use Rattle.list.specs.Check.{check_of}
use Rattle.encoding.specs.declared.ColourSpace.{ColourSpace}
use Rattle.encoding.specs.declared.ColourSpace.TheVariants as S
use Rattle.encoding.specs.declared.RenderingIntent.{RenderingIntent}
use Rattle.encoding.specs.declared.RenderingIntent.TheVariants as I
use Rattle.encoding.specs.declared.EnumColourEncoding.{EnumColourEncoding}
use Rattle.encoding.specs.declared.ColourEncoding.TheVariants as E
use Rattle.encoding.specs.declared.Settings.{Settings}
use Rattle.planner.specs.Planning.{planned_of}
use Rattle.planner.specs.Planning as Planner

-- what is read of a plan; the kinds are those of 01's plan block
pub record Reading : Type 0 where
  pub number : ℕ
  pub kinds : List ℕ
  pub verdict : Answer

abbrev reading : ℕ → List ℕ → Answer → Reading
reading n ks a = record { number = n; kinds = ks; verdict = a }

abbrev side : ColourSpace → WhitePoint → Curve → RenderingIntent → EnumColourEncoding
side s w c i = record { colour_space = s; white_point = w; primaries = P.Srgb; tf = c; rendering_intent = i }

abbrev at : Float → Bool → Settings
at intensity from_pq = record {
  inv_mat = record { m0 = zero; m1 = zero; m2 = zero; m3 = zero; m4 = zero; m5 = zero; m6 = zero; m7 = zero; m8 = zero };
  opsin_bias = record { v0 = zero; v1 = zero; v2 = zero };
  intensity_target = intensity;
  min_nits = zero;
  detect_peak = false;
  from_pq = from_pq;
}

abbrev read : EnumColourEncoding → EnumColourEncoding → Settings → Reading
read source target settings =
    let planned = planned_of (E.Enum source) (E.Enum target) settings in
    reading (Planner.paper planned.answer).number (map kind_of (ops_of planned.plan)) (paper (check_of planned.plan))

abbrev rgb : EnumColourEncoding
rgb = side S.Rgb W.D65 C.Linear I.Relative

abbrev d65 : WhitePoint
d65 = W.Custom (record { x = pos 312_700; y = pos 329_000 })

-- "Rgb D65 Srgb Linear Relative to the same with Custom white (312700, 329000), intensity 255: TransferFunction, Clip, Matrix"
pub custom-white :
    read rgb (side S.Rgb d65 C.Linear I.Relative) (at (bits 0x437f_0000) false) ≡ reading 0 (4 ∷ 9 ∷ 3 ∷ []) (answer 0 0 3)
unfolding lt of_bits of_fields is_true
custom-white = refl

-- "Intensity 255.0 no tone map; the next float above, one." NaN: none
pub tone_maps :
    map (λ intensity. (read rgb (side S.Rgb W.D65 C.Srgb I.Relative) (at intensity false)).kinds)
    (bits 0x437f_0000 ∷ bits 0x437f_0001 ∷ bits 0x7fc0_0000 ∷ [])  -- 255.0, the next above, NaN
    ≡ (4 ∷ 4 ∷ []) ∷ (4 ∷ 6 ∷ 4 ∷ []) ∷ (4 ∷ 4 ∷ []) ∷ []
unfolding lt of_bits of_fields
tone_maps = refl

-- "999.0, 1001.0 inside", their outer neighbours not, nor NaN: these have the tone map and the inverse OOTF of the PQ to HLG steps
pub thousand :
    map (λ intensity. (read (side S.Rgb W.D65 C.Pq I.Relative) (side S.Rgb W.D65 C.Hlg I.Relative) (at intensity true)).kinds)
    (bits 0x4479_bfff ∷ bits 0x4479_c000 ∷ bits 0x447a_4000 ∷ bits 0x447a_4001 ∷ bits 0x7fc0_0000 ∷ [])  -- below 999.0, 999.0, 1001.0, above 1001.0, NaN
    ≡ (4 ∷ 6 ∷ 5 ∷ 4 ∷ []) ∷ (4 ∷ 4 ∷ []) ∷ (4 ∷ 4 ∷ []) ∷ (4 ∷ 6 ∷ 5 ∷ 4 ∷ []) ∷ (4 ∷ 6 ∷ 5 ∷ 4 ∷ []) ∷ []
unfolding lt le eq of_bits of_fields
thousand = refl
