-- The stages of planning, each as the ops that it puts out: "the ops are those of `with_builder` in its order". (01, Planning)
use Rattle.std.specs.Prelude.{List, [], ◌∷◌, ◌++◌, Bool, true, false, ◌&&◌, ◌||◌, not, Float}
use Rattle.std.specs.Float.Ieee.{lt, le}
use Rattle.notation.specs.F32.{bits}
use Rattle.notation.specs.Choice.{when◌then◌else◌}
use Rattle.ciexyz.specs.Points.{illuminant_of}
use Rattle.ciexyz.specs.Xyz.{to_xyz, from_xyz, adapt_of}
use Rattle.ciexyz.specs.declared.WhitePoint.{WhitePoint}
use Rattle.ciexyz.specs.declared.WhitePoint.TheVariants as W
use Rattle.ciexyz.specs.declared.Primaries.{Primaries}
use Rattle.ciexyz.specs.declared.Primaries.TheVariants as P
use Rattle.list_same.specs.Same.{same_curve}
use Rattle.op.specs.declared.Curve.{Curve}
use Rattle.op.specs.declared.Curve.TheVariants as C
use Rattle.op.specs.declared.Luminances.{Luminances}
use Rattle.op.specs.declared.HdrParams.{HdrParams}
use Rattle.op.specs.declared.Op.{Op}
use Rattle.op.specs.declared.Op.TheVariants as O
use Rattle.encoding.specs.Encodings.{is_hdr}
use Rattle.encoding.specs.Named.{same_space, same_intent, same_white, same_primaries}
use Rattle.encoding.specs.declared.ColourSpace.{ColourSpace}
use Rattle.encoding.specs.declared.ColourSpace.TheVariants as S
use Rattle.encoding.specs.declared.RenderingIntent.{RenderingIntent}
use Rattle.encoding.specs.declared.RenderingIntent.TheVariants as I
use Rattle.encoding.specs.declared.EnumColourEncoding.{EnumColourEncoding}
use Rattle.encoding.specs.declared.Settings.{Settings}

-- ---- the constants of 01's sentences, by their bits

-- "`intensity_target` > 255.0"
abbrev pub screen_peak : Float
screen_peak = bits 0x437f_0000

-- "within 999.0 to 1001.0", around 1000.0
abbrev pub near_from : Float
near_from = bits 0x4479_c000

abbrev pub hlg_peak : Float
hlg_peak = bits 0x447a_0000

abbrev pub near_to : Float
near_to = bits 0x447a_4000

-- "the target curve carries 300.0"
abbrev pub curve_peak : Float
curve_peak = bits 0x4396_0000

-- the saturation factors of a GamutMap, 0.3, and 0.1 in the PQ to HLG steps
abbrev pub factor : Float
factor = bits 0x3e99_999a

abbrev pub hlg_factor : Float
hlg_factor = bits 0x3dcc_cccd

-- ---- what HDR ops carry

-- the luminance of each primary, `[mat[3], mat[4], mat[5]]` of the matrix to XYZ
unfoldable pub luminances_of : Primaries → WhitePoint → Luminances
luminances_of p w = record { red = (to_xyz p w).m3; green = (to_xyz p w).m4; blue = (to_xyz p w).m5 }

-- of an encoding's own primaries
abbrev pub own_luminances : EnumColourEncoding → Luminances
own_luminances e = luminances_of e.primaries e.white_point

abbrev pub hdr_params : Luminances → Float → Settings → HdrParams
hdr_params l intensity settings = record { luminances = l; intensity_target = intensity; min_nits = settings.min_nits }

-- ---- decode: "Xyb: `XybToMixedLms` and the opsin matrix, leaving Rgb, D65, Srgb primaries, Linear;
-- Rgb or Grey: an inverse `TransferFunction`, even for Linear"

abbrev pub from_xyb : Settings → List Op
from_xyb settings = O.XybToMixedLms settings.opsin_bias settings.intensity_target ∷ O.Matrix settings.inv_mat ∷ []

abbrev pub inverse_curve : Curve → Luminances → Settings → List Op
inverse_curve tf l settings = O.TransferFunction tf (hdr_params l settings.intensity_target settings) true ∷ []

-- a Grey source takes the luminances of the sRGB primaries; an Unknown one is refused
abbrev pub decode_from : ColourSpace → EnumColourEncoding → Settings → List Op
decode_from S.Xyb source settings = from_xyb settings
decode_from S.Rgb source settings = inverse_curve source.tf (own_luminances source) settings
decode_from S.Grey source settings = inverse_curve source.tf (luminances_of P.Srgb source.white_point) settings
decode_from S.Unknown source settings = []

abbrev pub decode_ops : EnumColourEncoding → Settings → List Op
decode_ops source settings = decode_from source.colour_space source settings

-- the current encoding from here on is Linear, and its intent is the source's
abbrev pub linear : ColourSpace → WhitePoint → Primaries → RenderingIntent → EnumColourEncoding
linear s w p i = record { colour_space = s; white_point = w; primaries = p; tf = C.Linear; rendering_intent = i }

abbrev pub decoded : EnumColourEncoding → EnumColourEncoding
decoded source =
    when same_space source.colour_space S.Xyb
    then linear S.Rgb W.D65 P.Srgb source.rendering_intent
    else linear source.colour_space source.white_point source.primaries source.rendering_intent

-- ---- conversion: "if colour space, white point, or between Rgb the primaries, differ, compared as named values and not as floats"

abbrev pub differs : EnumColourEncoding → EnumColourEncoding → Bool
differs current target =
    not (same_space current.colour_space target.colour_space)
    || not (same_white current.white_point target.white_point)
    || (same_space current.colour_space S.Rgb && not (same_primaries current.primaries target.primaries))

-- a perceptual GamutMap, else Clip
abbrev pub limit_op : EnumColourEncoding → Op
limit_op current = when same_intent current.rendering_intent I.Perceptual then O.GamutMap (own_luminances current) factor else O.Clip

-- Yxy to XYZ, or RGB to XYZ
abbrev pub to_xyz_op : EnumColourEncoding → Op
to_xyz_op current =
    when same_space current.colour_space S.Grey
    then O.LumaToXyz (illuminant_of current.white_point)
    else O.Matrix (to_xyz current.primaries current.white_point)

-- chromatic adaptation, but for Absolute
abbrev pub adapt_ops : EnumColourEncoding → EnumColourEncoding → List Op
adapt_ops current target =
    when same_intent current.rendering_intent I.Absolute
    then []
    else (O.Matrix (adapt_of current.white_point target.white_point) ∷ [])

-- XYZ to Yxy, or XYZ to RGB
abbrev pub from_xyz_op : EnumColourEncoding → Op
from_xyz_op target =
    when same_space target.colour_space S.Grey
    then O.XyzToLuma
    else O.Matrix (from_xyz target.primaries target.white_point)

abbrev pub convert_ops : EnumColourEncoding → EnumColourEncoding → List Op
convert_ops current target =
    when differs current target
    then limit_op current ∷ to_xyz_op current ∷ (adapt_ops current target ++ (from_xyz_op target ∷ []))
    else []

-- the current encoding, after conversion: the target's primaries only if it was entered
abbrev pub converted : EnumColourEncoding → EnumColourEncoding → EnumColourEncoding
converted current target =
    when differs current target
    then linear target.colour_space target.white_point target.primaries current.rendering_intent
    else current

-- ---- tone mapping: "only if `intensity_target` > 255.0 and the target is not HDR"

-- the tone map of one channel, or of three
abbrev pub tone_map_op : EnumColourEncoding → HdrParams → Float → Bool → Op
tone_map_op current params display detect =
    when same_space current.colour_space S.Grey
    then O.ToneMapLumaRec2408 params display detect
    else O.ToneMapRec2408 params display detect

-- after it, for three channels, a perceptual GamutMap
abbrev pub gamut_map_ops : EnumColourEncoding → Float → List Op
gamut_map_ops current saturation =
    when not (same_space current.colour_space S.Grey) && same_intent current.rendering_intent I.Perceptual
    then O.GamutMap (own_luminances current) saturation ∷ []
    else []

abbrev pub is_tone_mapped : EnumColourEncoding → Settings → Bool
is_tone_mapped target settings = lt screen_peak settings.intensity_target && not (is_hdr target)

abbrev pub tone_map_ops : EnumColourEncoding → EnumColourEncoding → Settings → List Op
tone_map_ops current target settings =
    when is_tone_mapped target settings
    then tone_map_op current (hdr_params (own_luminances current) settings.intensity_target settings) screen_peak settings.detect_peak
    ∷ gamut_map_ops current factor
    else []

-- ---- "the PQ to HLG steps, whose tone map and inverse OOTF are skipped within 999.0 to 1001.0, ends included"

abbrev pub is_pq_to_hlg : EnumColourEncoding → Settings → Bool
is_pq_to_hlg target settings = settings.from_pq && same_curve target.tf C.Hlg

abbrev pub near_thousand : Float → Bool
near_thousand intensity = le near_from intensity && le intensity near_to

abbrev pub inverse_ootf_ops : EnumColourEncoding → Settings → List Op
inverse_ootf_ops current settings =
    when near_thousand settings.intensity_target
    then []
    else (tone_map_op current (hdr_params (own_luminances current) settings.intensity_target settings) hlg_peak false
    ∷ O.HlgInverseOotf (hdr_params (own_luminances current) hlg_peak settings) ∷ [])

abbrev pub pq_to_hlg_ops : EnumColourEncoding → EnumColourEncoding → Settings → List Op
pq_to_hlg_ops current target settings =
    when is_pq_to_hlg target settings
    then inverse_ootf_ops current settings ++ gamut_map_ops current hlg_factor
    else []

-- ---- "after those steps the target curve carries 300.0; a target curve unless Linear"

abbrev pub curve_intensity : EnumColourEncoding → Settings → Float
curve_intensity target settings = when is_pq_to_hlg target settings then curve_peak else settings.intensity_target

abbrev pub curve_ops : EnumColourEncoding → EnumColourEncoding → Settings → List Op
curve_ops current target settings =
    when same_curve target.tf C.Linear
    then []
    else (O.TransferFunction target.tf (hdr_params (own_luminances current) (curve_intensity target settings) settings) false ∷ [])

-- ---- the whole list, before merging

-- the stages after the conversion, at the current encoding that it leaves
abbrev pub last_ops : EnumColourEncoding → EnumColourEncoding → Settings → List Op
last_ops current target settings = tone_map_ops current target settings ++ (pq_to_hlg_ops current target settings ++ curve_ops current target settings)

abbrev pub stage_ops : EnumColourEncoding → EnumColourEncoding → Settings → List Op
stage_ops source target settings =
    decode_ops source settings
    ++ (convert_ops (decoded source) target
    ++ last_ops (converted (decoded source) target) target settings)
